-- Who reacts to the exit of a link.
use Rattle.std.proofs.Common.{nat_lt, ◌+◌, ◌≡◌, ℕ, Bool, true, false, cond, not, List, [], ◌∷◌, refl}
use Rattle.std.proofs.Common.{sym, ap, ◌∙◌, subst, ◌||◌, ◌&&◌, Option, Some, None, ◌⊎◌, inl, inr}
use Rattle.erl_names.specs.Draw as kind
use Rattle.std.specs.Ordering.{is_gt}
use Rattle.std.specs.Prelude.{◌^◌}
use Rattle.std.specs.Option.{is_some}
use Rattle.std.specs.FinMap as fm
use Rattle.dist_model.specs.NodeEvents.{if_up}
use Rattle.dist_model.proofs.OneStep.{arrives, while_up}
use Rattle.dist_model.proofs.Calls.{IfGoes, if_cond, if_not, if_either, registered_goes, unregistered_goes}
use Rattle.dist_model.proofs.Home.{never_own}
use Rattle.dist_model.proofs.Keys.{same_name_true}
use Rattle.dist_model.proofs.Posts.{NodeKept}
use Rattle.dist_model.proofs.Routes.{node_of_name}
use Rattle.dist_model.proofs.Rules.{awaits_ack, awaits_challenge, awaits_name, awaits_reply, awaits_status, awaits_true}
use Rattle.dist_model.proofs.Rules.{greet, greet_dialing, greet_up, greet_waiting, handshake_as, handshake_by, name_as}
use Rattle.dist_model.proofs.Seen.{close_if, end_at, end_in, reached_at}
use Rattle.dist_model.proofs.Sweeps.{link_found}
use Rattle.dist_model.proofs.Trunks.{Good}
use Rattle.dist_model.specs.Admission.{give_up, hears_name}
use Rattle.dist_model.specs.Arrivals.{arrive_at, arrive_fresh, handshake_in, is_good, signal_at, take_local}
use Rattle.dist_model.specs.Calls.{acting, call, toward}
use Rattle.dist_model.specs.Causes.{Reacts}
use Rattle.dist_model.specs.Commands.{Accepts, Outcome, Refuses, with_id}
use Rattle.dist_model.specs.declared.command.Command.{Command}
use Rattle.dist_model.specs.Dialing.{dial, has_name}
use Rattle.erl_control.specs.Fits.{fits}
use Rattle.dist_model.specs.Handshake.{challenge, up_is_lost, challenge_or_park, handshake_at, set_state, write}
use Rattle.dist_model.specs.Incarnations.{start, stop}
use Rattle.dist_model.specs.Items.{Handshake, Item, Signalled, telling}
use Rattle.dist_model.specs.Linking.{link_by, link_new, unlink_by}
use Rattle.dist_model.proofs.Records.{has_records, least_as, sweep_link, sweep_registered, sweep_watch}
use Rattle.dist_model.proofs.Truths.{nothing}
use Rattle.dist_model.specs.Losses.{any_side, link_to, lose, lose_at, released_by, release_parked}
use Rattle.dist_model.specs.Losses.{registered_by, sweep, sweep_by, sweep_end, close_if_swept, watch_to}
use Rattle.dist_model.specs.Monitoring.{demonitor_by, monitor, unwatch, watch}
use Rattle.dist_model.specs.Names.{Name, place_cmp, same_name, same_pid}
use Rattle.dist_model.specs.Node.{Node, end_of, living, is_stranger, monitors_names, reaches, side_where}
use Rattle.dist_model.specs.Seen.{end_between}
use Rattle.dist_model.specs.Sides.{Accepting, Asked, AwaitsAck, AwaitsChallenge, AwaitsStatus, Gone, Losing, Parked}
use Rattle.dist_model.specs.Sides.{State, TrunkSide, Up, is_dialing, is_gone, is_losing, is_parked, is_up, is_waiting}
use Rattle.dist_model.specs.Work.{Work, at_work, draw, post, set_end, spelled, to_pid}
use Rattle.dist_model.specs.World.{Arrive, Call, Dial, Event, Local, Lose, Refused, Report, Start}
use Rattle.dist_model.specs.World.{Stop, Sweep, World, came_of, node_name, node_of, step, step_at}
use Rattle.erl_control.specs.declared.signal.Signal.{Signal}
use Rattle.erl_handshake.specs.Flags.{has_all_of, mandatory}
use Rattle.erl_handshake.specs.Roles.{is_answered, is_same}
use Rattle.erl_handshake.specs.declared.message.ShakeMsg.{ShakeMsg}
use Rattle.erl_handshake.specs.declared.status.Status.{Status}
use Rattle.erl_names.specs.Ids.{reference_of}
use Rattle.erl_names.specs.Minted.{id_of}
use Rattle.erl_names.specs.Order.{name_cmp}
use Rattle.erl_names.specs.declared.trunk.TrunkId.{TrunkId}
use Rattle.erl_term.specs.Data.{Data}
use Rattle.erl_term.specs.declared.refusal.Refusal.{Refusal}
use Rattle.erl_term.specs.declared.term.Pid.{Pid}
use Rattle.erl_term.specs.declared.term.Reference.{Reference}
use Rattle.exit_core.specs.Messages.{down_term}
use Rattle.link_core.specs.News.{Signals, noconnection}
use Rattle.link_core.specs.declared.end.End.{End}
use Rattle.link_core.specs.declared.end.LinkSignal.{LinkSignal}
use Rattle.std.specs.FinMap.{FinMap}
use Rattle.dist_model.proofs.HeldActive.{reacts_in, reacts, told, Calm, calm_send, calm_post, calm_put}
use Rattle.dist_model.proofs.HeldActive.{calm_finish, exit_of, Held, held_at, calm_cond, item_taken}
use Rattle.erl_handshake.specs.Roles.{introduction_by}
use Rattle.monitor_core.specs.Monitors.{target_node, watch_of}
use Rattle.monitor_core.specs.declared.monitor.Target.{Target}
use Rattle.monitor_core.specs.declared.monitor.Watch.{Watch}
use Rattle.monitor_core.specs.declared.monitor.Registration.{Registration}
use Rattle.dist_model.specs.Telling.{asked, object, taken_back}

-- calls
on_drawn : (o : Option ℕ) (k : ℕ → Outcome) (P : Work → Type 0) → ((id : ℕ) → IfGoes (k id) P) → IfGoes (with_id o k) P
on_drawn None k P f = tt
on_drawn (Some id) k P f = f id

abbrev pub OwnLink : Node → Command → Work → Type 0
OwnLink n c o = (p q : Pid) → reacts_in p q o.effects ≡ true → (c ≡ Command.Link p q) × (living n p ≡ true) × (reaches n q.node ≡ false)

module _ (n : Node) where
  acts_on : (c : Command) (p q : Pid) (k : Outcome) → (living n p ≡ true → IfGoes k (OwnLink n c))
      → IfGoes (acting n p (toward n q k)) (OwnLink n c)
  acts_on c p q k h =
      if_cond (living n p) (toward n q k) Refusal.NoSuchProcess (OwnLink n c)
      (λ l. if_not (same_name q.node n.mint.name && is_stranger n q) k Refusal.Forged (OwnLink n c) (h l))

  links_new : (a b : Pid) (o : Work) → o.effects ≡ [] → (t : Bool) → reaches n b.node ≡ t → living n a ≡ true
      → OwnLink n (Command.Link a b) (link_new t a b o)
  links_new a b o e true r l p q h =
      nothing
      (sym (ap (reacts_in p q) e)
      ∙ calm_post b.node (Signalled (telling a b (Signals LinkSignal.Link)) false) (set_end a b End.Active o) p q h)
  links_new a b o e false r l p q h = pick (exit_of a b noconnection (set_end a b End.None o) p q h)
    where
      pick : (reacts_in p q o.effects ≡ true) ⊎ ((a ≡ p) × (b ≡ q)) → (Command.Link a b ≡ Command.Link p q)
          × (living n p ≡ true) × (reaches n q.node ≡ false)
      pick (inl i) = nothing (sym (ap (reacts_in p q) e) ∙ i)
      pick (inr i) =
          ((λ j. Command.Link (i.0 j) (i.1 j)), subst (λ z. living n z ≡ true) i.0 l, subst (λ (z : Pid). reaches n z.node ≡ false) i.1 r)

  links_on : (e : End) (a b : Pid) → living n a ≡ true → OwnLink n (Command.Link a b) (link_by e a b (at_work n))
  links_on End.Active a b l = λ p q h. nothing h
  links_on _ a b l = links_new a b (at_work n) refl (reaches n b.node) refl l

  link_cond : (t : Bool) (a b : Pid) → living n a ≡ true
      → OwnLink n (Command.Link a b) (cond t (at_work n) (link_by (end_of n a b) a b (at_work n)))
  link_cond true a b l = λ p q h. nothing h
  link_cond false a b l = links_on (end_of n a b) a b l

  unlinks_on : (e : End) (a b : Pid) → IfGoes (unlink_by e a b (at_work n)) (OwnLink n (Command.Unlink a b))
  unlinks_on End.Active a b =
      on_drawn (id_of n.mint kind.UnlinkId) _ (OwnLink n (Command.Unlink a b)) (λ id p q h.
      nothing (calm_post b.node (Signalled (Signal.UnlinkId id a b) false)
      (set_end a b (End.Pending id) (draw kind.UnlinkId (at_work n))) p q h))
  unlinks_on _ a b = λ p q h. nothing h

  calm_back : (t : Target) (a : Pid) (k : Reference) (o : Work) → Calm o (post (taken_back a t k) o)
  calm_back t a k o = calm_post (target_node t) (spelled o.node (taken_back a t k)) o

  calm_monitor : (t : Target) (a : Pid) (count : ℕ)
      → Calm (draw kind.Reference (at_work n)) (monitor (reference_of n.mint count) a t (draw kind.Reference (at_work n)))
  calm_monitor t a count =
      let k = reference_of n.mint count in
      let o = draw kind.Reference (at_work n) in
      calm_cond (reaches n (target_node t)) o _ _
      (calm_post (target_node t) (spelled n (asked a t k)) (watch k (watch_of a t) o))
      (calm_put a (down_term k (object t) noconnection) o)

  demonitors_on : (v : Option Watch) (a : Pid) (k : Reference)
      → IfGoes (demonitor_by v a k (at_work n)) (OwnLink n (Command.Demonitor a k))
  demonitors_on None a k = tt
  demonitors_on (Some v) a k =
      if_cond (same_pid v.owner a) _ Refusal.NotTheOwner (OwnLink n (Command.Demonitor a k))
      (λ i p q h. nothing (calm_back v.target a k (unwatch k (at_work n)) p q h))

  pub called : (c : Command) → IfGoes (call n c) (OwnLink n c)
  called Command.Spawn = on_drawn (id_of n.mint kind.Pid) _ (OwnLink n Command.Spawn) (λ id p q h. nothing h)
  called (Command.Send a b t) =
      acts_on (Command.Send a b t) a b _ (λ l. if_cond (fits t) _ Refusal.TooLong (OwnLink n (Command.Send a b t))
      (λ i p q h. nothing (calm_post b.node (Signalled (Signal.Send b t) false) (at_work n) p q h)))
  called (Command.SendName a y name t) =
      if_cond (living n a) _ Refusal.NoSuchProcess (OwnLink n (Command.SendName a y name t))
      (λ l. if_cond (fits t) _ Refusal.TooLong (OwnLink n (Command.SendName a y name t))
      (λ i p q h. nothing (calm_post y (Signalled (Signal.RegSend a name t) false) (at_work n) p q h)))
  called (Command.Link a b) = acts_on (Command.Link a b) a b _ (λ l. link_cond (same_pid a b) a b l)
  called (Command.Unlink a b) = acts_on (Command.Unlink a b) a b _ (λ l. unlinks_on (end_of n a b) a b)
  called (Command.Monitor a b) =
      acts_on (Command.Monitor a b) a b _ (λ l. on_drawn (id_of n.mint kind.Reference) _ (OwnLink n (Command.Monitor a b))
      (λ count p q h. nothing (calm_monitor (Target.Pid b) a count p q h)))
  called (Command.MonitorName a y name) =
      if_cond (living n a) _ Refusal.NoSuchProcess (OwnLink n (Command.MonitorName a y name))
      (λ l. if_cond (monitors_names n y) _ Refusal.NotOffered (OwnLink n (Command.MonitorName a y name))
      (λ f. on_drawn (id_of n.mint kind.Reference) _ (OwnLink n (Command.MonitorName a y name))
      (λ count p q h. nothing (calm_monitor (Target.Name name y) a count p q h))))
  called (Command.Demonitor a k) =
      if_cond (living n a) _ Refusal.NoSuchProcess (OwnLink n (Command.Demonitor a k)) (λ l. demonitors_on (fm.get n.watches k) a k)
  called (Command.Trap a b) = if_cond (living n a) _ Refusal.NoSuchProcess (OwnLink n (Command.Trap a b)) (λ l p q h. nothing h)
  called (Command.ExitTo a b r) =
      acts_on (Command.ExitTo a b r) a b _ (λ l. if_cond (fits r) _ Refusal.TooLong (OwnLink n (Command.ExitTo a b r))
      (λ i p q h. nothing (calm_post b.node (spelled (at_work n).node (to_pid b (Signal.Exit2 a b r))) (at_work n) p q h)))
  called (Command.ExitSelf a r) =
      if_cond (living n a) _ Refusal.NoSuchProcess (OwnLink n (Command.ExitSelf a r))
      (λ l. if_cond (fits r) _ Refusal.TooLong (OwnLink n (Command.ExitSelf a r)) (λ i p q h. nothing (calm_finish a r (at_work n) p q h)))
  called (Command.Receive a) = if_cond (living n a) _ Refusal.NoSuchProcess (OwnLink n (Command.Receive a)) (λ l p q h. nothing h)
  called (Command.LinksOf a) = if_cond (living n a) _ Refusal.NoSuchProcess (OwnLink n (Command.LinksOf a)) (λ l p q h. nothing h)
  called (Command.IsAlive a) = λ p q h. nothing h
  called (Command.Register a name) = if_cond (living n a) _ Refusal.NoSuchProcess (OwnLink n (Command.Register a name))
      (λ l. registered_goes n a (OwnLink n (Command.Register a name)) (λ m c p q h. nothing h) name l)
  called (Command.Unregister a) = if_cond (living n a) _ Refusal.NoSuchProcess (OwnLink n (Command.Unregister a))
      (λ l. unregistered_goes n a (OwnLink n (Command.Unregister a)) (λ m c p q h. nothing h))
  called (Command.WhereIs name) = λ p q h. nothing h

-- sweeps
calm_parked : (v : State) (t : TrunkId) (s : TrunkSide) (o : Work) → Calm o (released_by v t s o)
calm_parked (Parked k) t s o p q h = calm_send (Some t) s.peer (Handshake (challenge o.node k)) (set_state t s (Accepting k) o) p q h
calm_parked _ t s o p q h = h

calm_goes : (d : Option (TrunkId × TrunkSide)) (o : Work) → Calm o (release_parked d o)
calm_goes None o p q h = h
calm_goes (Some d) o p q h = calm_parked d.1.state d.0 d.1 o p q h

calm_swept : (t : TrunkId) (s : TrunkSide) (o : Work) → Calm o (close_if_swept t s o)
calm_swept t s o p q h = go (has_records s.peer o.node) h
  where
    go : (b : Bool) → reacts_in p q ((close_if b t s o).effects) ≡ true → reacts_in p q o.effects ≡ true
    go true h = h
    go false h = calm_goes (side_where is_parked s.peer (fm.entries ((set_state t s Gone o).node.sides))) (set_state t s Gone o) p q h

calm_unregistered : (d : Option (Reference × Registration)) (o : Work) → Calm o (sweep_registered d o)
calm_unregistered None o p q h = h
calm_unregistered (Some d) o p q h = h

calm_unwatched : (d : Option (Reference × Watch)) (y : Name) (o : Work) → Calm o (sweep_watch d y o)
calm_unwatched None y o p q h = calm_unregistered (registered_by y (fm.entries o.node.registered)) o p q h
calm_unwatched (Some d) y o p q h = calm_put d.1.owner (down_term d.0 (object d.1.target) noconnection) (unwatch d.0 o) p q h

abbrev pub HeldBefore : Node → Work → Type 0
HeldBefore n o = (p q : Pid) → reacts_in p q o.effects ≡ true → Held n p q

module _ (n : Node) (kn : NodeKept n) where
  held_by_end : (a b : Pid) → end_of n a b ≡ End.Active → Held n a b
  held_by_end a b e = ((kn.rooted a b (λ z. let c : End.Active ≡ End.None = sym e ∙ z in cc)).0, e)

  end_swept : (e : End) (a b : Pid) → end_of n a b ≡ e → (p q : Pid)
      → reacts_in p q ((sweep_end e a b (at_work n)).effects) ≡ true → Held n p q
  end_swept End.None a b i p q h = nothing h
  end_swept End.Active a b i p q h = pick (exit_of a b noconnection (set_end a b End.None (at_work n)) p q h)
    where
      pick : (false ≡ true) ⊎ ((a ≡ p) × (b ≡ q)) → Held n p q
      pick (inl z) = nothing z
      pick (inr z) = let l = held_by_end a b i in held_at n a b p q z.0 z.1 l.0 l.1
  end_swept (End.Pending j) a b i p q h = nothing h

  link_swept : (y : Name) (d : Option ((Pid × Pid) × End)) → link_to y (fm.entries n.ends) ≡ d → (p q : Pid)
      → reacts_in p q ((sweep_link d y (at_work n)).effects) ≡ true → Held n p q
  link_swept y None i p q h = nothing (calm_unwatched (watch_to y (fm.entries n.watches)) y (at_work n) p q h)
  link_swept y (Some d) i p q h =
      let f = link_found y (fm.entries n.ends) d (fm.entries_sorted n.ends) i in
      end_swept d.1 d.0.0 d.0.1 (ap end_in (fm.get-entries n.ends d.0 ∙ f.0)) p q h

  pub sweeps : IfGoes (sweep n) (HeldBefore n)
  sweeps = go (any_side is_losing (fm.entries n.sides))
    where
      go : (d : Option (TrunkId × TrunkSide)) → IfGoes (sweep_by d (at_work n)) (HeldBefore n)
      go None = tt
      go (Some d) = subst (λ z. HeldBefore n (close_if_swept d.0 d.1 z)) (sym (least_as d.1.peer (at_work n)))
          (λ p q h. link_swept d.1.peer (link_to d.1.peer (fm.entries n.ends)) refl p q
          (calm_swept d.0 d.1 (sweep_link (link_to d.1.peer (fm.entries n.ends)) d.1.peer (at_work n)) p q h))

-- the handshake
module _ (n : Node) (t : TrunkId) where
  -- nobody reacts
  abbrev Still : Work → Type 0
  Still o = (p q : Pid) → reacts_in p q o.effects ≡ true → false ≡ true

  module _ (s : TrunkSide) (w : ℕ) (x : Item) where
    accepted : (m : ShakeMsg) (o : Work) → Still o
        → Still (write t s.peer (challenge o.node w) (write t s.peer m (set_state t s (Accepting w) o)))
    accepted m o k p q h =
        k p q (calm_send (Some t) s.peer (Handshake m) (set_state t s (Accepting w) o) p q
        (calm_send (Some t) s.peer (Handshake (challenge o.node w)) (write t s.peer m (set_state t s (Accepting w) o)) p q h))

    greets_dialing : (d : Option (TrunkId × TrunkSide)) (o : Work) → Still o → IfGoes (greet_dialing d t s w x o) Still
    greets_dialing None o k = accepted (ShakeMsg.Status Status.Ok) o k
    greets_dialing (Some d) o k =
        if_either (is_gt (name_cmp t.dialer o.node.mint.name)) _ _ Still
        (accepted (ShakeMsg.Status Status.OkSimultaneous) (give_up (Some d) o) k)
        (λ p q h. k p q (calm_send (Some t) s.peer (Handshake (ShakeMsg.Status Status.Nok)) (set_state t s Gone o) p q h))

    greets_up : (d : Option (TrunkId × TrunkSide)) (o : Work) → Still o → IfGoes (greet_up d t s w x o) Still
    greets_up None o k = greets_dialing (side_where is_dialing s.peer (fm.entries o.node.sides)) o k
    greets_up (Some d) o k =
        λ p q h. k p q (calm_send (Some t) s.peer (Handshake (ShakeMsg.Status Status.Alive)) (set_state t s (Asked w) o) p q h)

    greets : (o : Work) → Still o → IfGoes (greet t s w x o) Still
    greets o k = greets_up (side_where (λ v. is_up v || is_losing v) s.peer (fm.entries o.node.sides)) o k

    greets_waiting : (d : Option (TrunkId × TrunkSide)) (o : Work) → Still o → IfGoes (greet_waiting d t s w x o) Still
    greets_waiting None o k = greets o k
    greets_waiting (Some d) o k =
        if_either (nat_lt d.0.count t.count) _ _ Still (greets (give_up (Some d) o) k)
        (λ p q h. k p q (calm_send (Some t) s.peer (Handshake (ShakeMsg.Status Status.Nok)) (set_state t s Gone o) p q h))

  still_fresh : (m : ShakeMsg) (w : ℕ) → IfGoes (awaits_name t m w (at_work n)) Still
  still_fresh (ShakeMsg.SendName f c a) w = if_either (is_same a t.dialer) _ _ Still
      (if_either (has_all_of f mandatory) _ _ Still (greets_waiting
      (record { peer = t.dialer; introduction = introduction_by c f; state = Gone }) w (Handshake (ShakeMsg.SendName f c a))
      (side_where is_waiting t.dialer (fm.entries n.sides)) (at_work n) (λ p q h. h)) (λ p q h. h)) (λ p q h. h)
  still_fresh (ShakeMsg.Status Status.Ok) w = λ p q h. h
  still_fresh _ w = λ p q h. h

  module _ (v : TrunkSide) where
    still_status : (u : ℕ) (m : ShakeMsg) → IfGoes (awaits_status t v u m (at_work n)) Still
    still_status u (ShakeMsg.Status Status.Ok) = λ p q h. h
    still_status u _ = λ p q h. h

    still_challenge : (u : ℕ) (m : ShakeMsg) → IfGoes (awaits_challenge t v u m (at_work n)) Still
    still_challenge u (ShakeMsg.Status Status.Ok) = λ p q h. h
    still_challenge u (ShakeMsg.Challenge c d b a) =
        if_either (is_same a v.peer) _ _ Still (if_either (has_all_of c mandatory) _ _ Still (λ p q h. h) (λ p q h. h)) (λ p q h. h)
    still_challenge u _ = λ p q h. h

    still_ack : (u : ℕ) (m : ShakeMsg) → IfGoes (awaits_ack t v u m (at_work n)) Still
    still_ack u (ShakeMsg.Status Status.Ok) = λ p q h. h
    still_ack u (ShakeMsg.ChallengeAck a) = if_either (is_answered n.cookie u a) _ _ Still (λ p q h. h) (λ p q h. h)
    still_ack u _ = λ p q h. h

    still_on : (d : Option (TrunkId × TrunkSide)) (u : ℕ) (o : Work) → Still o → Still (challenge_or_park d t v u o)
    still_on None u o k = λ p q h. k p q (calm_send (Some t) v.peer (Handshake (challenge o.node u)) (set_state t v (Accepting u) o) p q h)
    still_on (Some d) u o k = k

    still_end : (d : Option (TrunkId × TrunkSide)) → Still (up_is_lost d (at_work n))
    still_end None = λ p q h. h
    still_end (Some d) = λ p q h. h

    still_true : (u : ℕ) (m : ShakeMsg) → IfGoes (awaits_true t v u m (at_work n)) Still
    still_true u (ShakeMsg.Status Status.True) =
        still_on
        (side_where is_losing v.peer (fm.entries (up_is_lost (side_where is_up v.peer (fm.entries n.sides)) (at_work n)).node.sides)) u
        (up_is_lost (side_where is_up v.peer (fm.entries n.sides)) (at_work n))
        (still_end (side_where is_up v.peer (fm.entries n.sides)))
    still_true u _ = λ p q h. h

    still_reply : (u : ℕ) (m : ShakeMsg) → IfGoes (awaits_reply t v u m (at_work n)) Still
    still_reply u (ShakeMsg.Status Status.Ok) = λ p q h. h
    still_reply u (ShakeMsg.ChallengeReply a b) = if_either (is_answered n.cookie u b) _ _ Still (λ p q h. h) (λ p q h. h)
    still_reply u _ = λ p q h. h

    still_rule : (a : State) (m : ShakeMsg) → IfGoes (handshake_by a t v m (at_work n)) Still
    still_rule (AwaitsStatus u) m = still_status u m
    still_rule (AwaitsChallenge u) m = still_challenge u m
    still_rule (AwaitsAck u) m = still_ack u m
    still_rule (Asked u) m = still_true u m
    still_rule (Accepting u) m = still_reply u m
    still_rule _ m = λ p q h. h

    still_handshake : (a : State) (m : ShakeMsg) → IfGoes (handshake_at a t v m (at_work n)) Still
    still_handshake a m = subst (λ z. IfGoes z Still) (sym (handshake_as a t v m (at_work n))) (still_rule a m)

    still_lost : (a : State) → IfGoes (lose_at a t v (at_work n)) Still
    still_lost Losing = tt
    still_lost Gone = tt
    still_lost _ = λ p q h. h

    signal_comes : (a : State) (x : Item) → IfGoes (signal_at a t v x (at_work n)) (HeldBefore n)
    signal_comes Up x =
        if_either (is_good n v x) _ _ (HeldBefore n) (λ p q h. old p q (item_taken v.peer x (at_work n) p q h)) (λ p q h. nothing h)
      where
        old : (p q : Pid) → (false ≡ true) ⊎ Held n p q → Held n p q
        old p q (inl z) = nothing z
        old p q (inr z) = z
    signal_comes _ x = λ p q h. nothing h

still_holds : (n : Node) (o : Outcome) → IfGoes o (λ z. (p q : Pid) → reacts_in p q z.effects ≡ true → false ≡ true)
    → IfGoes o (HeldBefore n)
still_holds n (Refuses k) h = tt
still_holds n (Accepts a o) h = λ p q r. nothing (h p q r)

known_comes : (n : Node) (t : TrunkId) (v : TrunkSide) (x : Item) (m : Option ShakeMsg)
    → IfGoes (arrive_at m t v x (at_work n)) (HeldBefore n)
known_comes n t v x None = signal_comes n t v v.state x
known_comes n t v x (Some m) = still_holds n (handshake_at v.state t v m (at_work n)) (still_handshake n t v v.state m)

fresh_comes : (n : Node) (t : TrunkId) (k : ℕ) (m : Option ShakeMsg) → IfGoes (arrive_fresh m t k (at_work n)) (HeldBefore n)
fresh_comes n t k None = λ p q h. nothing h
fresh_comes n t k (Some m) =
    still_holds n (hears_name t m k (at_work n)) (subst (λ z. IfGoes z (Still n t)) (sym (name_as t m k (at_work n))) (still_fresh n t m k))

pub loses : (n : Node) (t : TrunkId) (o : Option TrunkSide) → IfGoes (lose n t o) (HeldBefore n)
loses n t None = tt
loses n t (Some v) = still_holds n (lose_at v.state t v (at_work n)) (still_lost n t v v.state)

pub takes_local : (n : Node) (l : List Item) → IfGoes (take_local n l) (HeldBefore n)
takes_local n [] = tt
takes_local n (x ∷ xs) = λ p q h. old p q (item_taken n.mint.name x (at_work (record n { local = xs })) p q h)
  where
    old : (p q : Pid) → (false ≡ true) ⊎ Held (record n { local = xs }) p q → Held n p q
    old p q (inl z) = nothing z
    old p q (inr z) = z

-- one event of a world
module _ (w : World) (g : Good w) where
  -- what a process of x held, the world says
  in_world : (x : Name) (n : Node) → node_of w.nodes x ≡ Some n → (p q : Pid) → Held n p q → end_between w p q ≡ End.Active
  in_world x n hx p q h =
      let e : p.node ≡ x =
      same_name_true p.node n.mint.name (never_own n p ((g.core.nodes x n hx).born p h.0)) ∙ node_of_name w.nodes x n hx in
      ap (λ o. end_at o p q) (ap (node_of w.nodes) e ∙ hx) ∙ h.1

  abbrev pub Tells : Event → Report → Type 0
  Tells e r =
      (p q : Pid) → reacts p q r ≡ true → (end_between w p q ≡ End.Active)
      ⊎ ((e ≡ Call p.node (Command.Link p q)) × (reached_at (node_of w.nodes p.node) q.node ≡ false))

  refusal : (e : Event) (k : Refusal) → Tells e (Refused k)
  refusal e k p q h = nothing h

  outcome : (e : Event) (x : Name) (n : Node) (m : FinMap place_cmp (List Item)) → node_of w.nodes x ≡ Some n → (o : Outcome)
      → IfGoes o (HeldBefore n) → Tells e ((came_of w x m o).report)
  outcome e x n m hx (Refuses k) h = refusal e k
  outcome e x n m hx (Accepts a o) h = λ p q r. inl (in_world x n hx p q (h p q r))

  call_outcome : (x : Name) (n : Node) (c : Command) → node_of w.nodes x ≡ Some n → (o : Outcome) → IfGoes o (OwnLink n c)
      → Tells (Call x c) ((came_of w x w.lists o).report)
  call_outcome x n c hx (Refuses k) h = refusal (Call x c) k
  call_outcome x n c hx (Accepts a o) h = λ p q r.
      let v = h p q r in
      let e : p.node ≡ x =
      same_name_true p.node n.mint.name (never_own n p ((g.core.nodes x n hx).born p v.1)) ∙ node_of_name w.nodes x n hx in
      inr ((λ i. Call (sym e i) (v.0 i)), ap (λ o. reached_at o q.node) (ap (node_of w.nodes) e ∙ hx) ∙ v.2)

  up_tells : (e : Event) (x : Name) (n : Node) (o : Outcome) → Tells e ((came_of w x w.lists o).report)
      → Tells e ((came_of w x w.lists (if_up n o)).report)
  up_tells e x n o = while_up w x n (λ s. Tells e s.report) (refusal e) w.lists o

  comes : (t : TrunkId) (x : Name) (n : Node) (k : ℕ) → node_of w.nodes x ≡ Some n
      → Tells (Arrive t x k) ((step_at w (Some n) (Arrive t x k)).report)
  comes t x n k hx = arrives w x n (λ s. Tells (Arrive t x k) s.report) (refusal (Arrive t x k)) t k
      (λ i is first at. outcome (Arrive t x k) x n (fm.insert w.lists (t, x) is) hx
      (arrive_fresh (handshake_in i) t k (at_work n)) (fresh_comes n t k (handshake_in i)))
      (λ i is v first at over. outcome (Arrive t x k) x n (fm.insert w.lists (t, x) is) hx
      (arrive_at (handshake_in i) t v i (at_work n)) (known_comes n t v i (handshake_in i)))

  dials : (n : Node) (y : Name) (k : ℕ) → IfGoes (dial w.names n y k) (HeldBefore n)
  dials n y k =
      if_not (same_name y n.mint.name) _ Refusal.SelfDial (HeldBefore n) (if_not
      (not (has_name y w.names)) _ Refusal.NothingThere (HeldBefore n)
      (if_not (is_some (side_where (λ v. not (is_gone v)) y (fm.entries n.sides))) _ Refusal.Busy (HeldBefore n)
      (if_not (not (nat_lt (n.dialed + 1) (2 ^ 64))) _ Refusal.IdsUsedUp (HeldBefore n) (λ p q h. nothing h))))

  starts : (n : Node) → IfGoes (start n) (HeldBefore n)
  starts n =
      if_not n.up _ Refusal.NodeUp (HeldBefore n)
      (if_cond (nat_lt (n.mint.creation + 1) (2 ^ 32)) _ Refusal.IdsUsedUp (HeldBefore n) (λ i p q h. nothing h))

  at_its_node : (o : Option Node) (e : Event) → node_of w.nodes (node_name e) ≡ o → Tells e ((step_at w o e).report)
  at_its_node None e h = refusal e Refusal.NothingThere
  at_its_node (Some n) (Call x c) h = up_tells (Call x c) x n _ (call_outcome x n c h (call n c) (called n c))
  at_its_node (Some n) (Arrive t x k) h = comes t x n k h
  at_its_node (Some n) (Local x) h =
      up_tells (Local x) x n _ (outcome (Local x) x n w.lists h (take_local n n.local) (takes_local n n.local))
  at_its_node (Some n) (Lose t x) h =
      up_tells (Lose t x) x n _ (outcome (Lose t x) x n w.lists h (lose n t (fm.get n.sides t)) (loses n t (fm.get n.sides t)))
  at_its_node (Some n) (Sweep x) h = up_tells (Sweep x) x n _ (outcome (Sweep x) x n w.lists h (sweep n) (sweeps n (g.core.nodes x n h)))
  at_its_node (Some n) (Dial x y k) h = up_tells (Dial x y k) x n _ (outcome (Dial x y k) x n w.lists h (dial w.names n y k) (dials n y k))
  at_its_node (Some n) (Stop x) h = up_tells (Stop x) x n _ (outcome (Stop x) x n w.lists h (stop n) (λ p q r. nothing r))
  at_its_node (Some n) (Start x) h = outcome (Start x) x n w.lists h (start n) (starts n)

  pub reactions : (e : Event) (p q : Pid) (reason : Data) → Reacts p q reason ((step w e).report)
      → (end_between w p q ≡ End.Active) ⊎ ((e ≡ Call p.node (Command.Link p q)) × (reached_at (node_of w.nodes p.node) q.node ≡ false))
  reactions e p q r h = at_its_node (node_of w.nodes (node_name e)) e refl p q (told p q r ((step w e).report) h)
