-- What comes to a node, and its other events, in the words of what is known.
use Rattle.conn_core.specs.declared.arrival.Fault.{Fault}
use Rattle.erl_handshake.specs.declared.fault.ShakeFault.{ShakeFault}
use Rattle.dist_model.proofs.Envelopes.{mere, sent_merely}
use Rattle.dist_model.proofs.Seen.{end_in}
use Rattle.erl_handshake.specs.declared.message.ShakeMsg.{ShakeMsg}
use Rattle.std.proofs.Common.{◌==◌, nat_lt, ◌^◌, ◌≡◌, ℕ, ◌+◌, Bool, true, false, cond, not, List, [], ◌∷◌}
use Rattle.std.proofs.Common.{refl, sym, ap, ◌∙◌, subst, arith, ◌&&◌, ◌||◌, Option, Some, None, ◌⊎◌, inl, inr}
use Rattle.std.proofs.lemmas.List.Elements.{All-head, All-nil, All-tail, All-weaker}
use Rattle.std.proofs.lemmas.Bool.{and_left, and_parts}
use Rattle.std.proofs.lemmas.Option.{same_Some, none-some}
use Rattle.std.specs.List.{All}
use Rattle.std.specs.Option.{is_some}
use Rattle.std.specs.FinMap as fm
use Rattle.dist_model.proofs.SideAges.{ageless}
use Rattle.dist_model.proofs.Calls.{IfGoes}
use Rattle.dist_model.proofs.ClosedSides.{any_found, gone_side, gone_sides, losing_is}
use Rattle.dist_model.proofs.Deeds.{downs_mere, Right, Shaken, U, Whole, at_pid, begins, counted, dead_now}
use Rattle.dist_model.proofs.Deeds.{cause_over, held_active, kn, nm, no_connection, old_cause, over_of, over_parts}
use Rattle.dist_model.proofs.Deeds.{rules, shaken, shaken_side, shaken_wrote, unreached_cause, were, whole_closed}
use Rattle.dist_model.proofs.Entries.{registered_found, watch_found}
use Rattle.dist_model.proofs.Events.{AllGo, Done, all_go, done, done_shaken, done_whole, go_cond, go_not}
use Rattle.dist_model.proofs.Founded.{IsAsked, founded_by, true_put, true_node}
use Rattle.dist_model.proofs.HandshakeParts.{Aged, Fresh, Roomy, Turned, fresh_kept, known_fault, lose_kept}
use Rattle.dist_model.proofs.HandshakeParts.{as_state, parked_ages, room_new, swept_kept, towards_set}
use Rattle.dist_model.specs.Keeping.{Towards}
use Rattle.dist_model.proofs.HandshakeParts
use Rattle.dist_model.proofs.HomeMonitors.{TargetsIn}
use Rattle.dist_model.proofs.Moves.{living_received}
use Rattle.dist_model.proofs.Posts.{HomeItem, Homely, home_saying}
use Rattle.dist_model.proofs.Parts.{Reasons, item_kept, link_swept}
use Rattle.dist_model.proofs.Sides.{side_at}
use Rattle.dist_model.proofs.Steps.{not_never}
use Rattle.dist_model.proofs.Sweeps.{link_found, losing_unreached}
use Rattle.dist_model.proofs.Trunks.{Good, has}
use Rattle.dist_model.proofs.Told.{Called, CalledNow, Course, Drawn, IsFounded, Leaves, Off, OffAfter, Old, Sound, Stays}
use Rattle.dist_model.proofs.SomeCauses.{CauseIn}
use Rattle.dist_model.proofs.Lands.{no_more}
use Rattle.dist_model.proofs.MonitorMoves.{lives_same, node_aside, turns_aside}
use Rattle.dist_model.specs.Arrivals.{arrive_at, arrive_fresh, from_peer, handshake_in, is_good, on_up, signal_at, take_local, to_own}
use Rattle.dist_model.specs.Commands.{Accepts, Outcome}
use Rattle.dist_model.specs.declared.report.Answer.{Answer}
use Rattle.dist_model.specs.Dialing.{dial, draw_trunk, has_name, next_trunk}
use Rattle.dist_model.specs.Downs.{downs_in, is_answered, is_demonitored, is_sent_message, takes_message, downs_by}
use Rattle.erl_handshake.specs.Roles.{send_name}
use Rattle.dist_model.specs.Handshake.{identity, fault, set_state, with_side, write}
use Rattle.dist_model.specs.Histories.{History}
use Rattle.dist_model.specs.Incarnations.{start, started, stop, stopped, all_gone}
use Rattle.dist_model.specs.Items.{Handshake, Item, Signalled, kind_of}
use Rattle.erl_control.specs.Ends.{receiver_of, sender_of}
use Rattle.dist_model.proofs.Records.{least_as, sweep_link}
use Rattle.dist_model.proofs.Truths.{none_within}
use Rattle.dist_model.proofs.Routes.{at_place}
use Rattle.dist_model.specs.Losses.{least_record, swept_kind, any_side, link_to, lose, sweep_by, close_if_swept}
use Rattle.dist_model.specs.Names.{Name, same_name}
use Rattle.dist_model.specs.Node.{Node, end_of, is_living_life, living, is_stranger, reaches, side_where}
use Rattle.dist_model.specs.Sides.{Accepting, AwaitsStatus, Gone, Losing, State, TrunkSide, Up, is_gone, is_losing, is_over}
use Rattle.dist_model.specs.Taking.{take_item, take_message, take_named}
use Rattle.dist_model.specs.Work.{Work, at_work, delivered, put}
use Rattle.dist_model.specs.declared.report.Effect.{Effect}
use Rattle.dist_model.specs.World.{Arrive, Dial, Event, Local, Lose, Report, Reported, Start, Stop, Sweep, World, list_to, node_of}
use Rattle.erl_control.specs.declared.signal.Signal.{Signal}
use Rattle.erl_names.specs.declared.trunk.TrunkId.{TrunkId}
use Rattle.erl_term.specs.Data.{Data}
use Rattle.erl_term.specs.Order.{pid_cmp, reference_cmp}
use Rattle.erl_term.specs.declared.refusal.Refusal.{Refusal}
use Rattle.erl_term.specs.declared.term.Pid.{Pid}
use Rattle.erl_term.specs.declared.term.Reference.{Reference}
use Rattle.link_core.specs.News.{Signals, noconnection}
use Rattle.link_core.specs.declared.end.End.{End}
use Rattle.link_core.specs.declared.end.LinkSignal.{LinkSignal}
use Rattle.dist_model.specs.Sides.{untold}
use Rattle.monitor_core.specs.declared.monitor.Target.{Target}
use Rattle.monitor_core.specs.declared.monitor.Watch.{Watch}
use Rattle.monitor_core.specs.Monitors.{target_node}

-- a message to a process
abbrev pub IsSend : Item → Type 0
IsSend i = (p : Pid) × (m : Data) × (pay : Bool) × (i ≡ Signalled (Signal.Send p m) pay)

-- a message to a name
abbrev pub IsRegSend : Item → Type 0
IsRegSend i = (q : Pid) × (name : Name) × (m : Data) × (pay : Bool) × (i ≡ Signalled (Signal.RegSend q name m) pay)

-- an item that brings no message
abbrev pub IsUnsent : Item → Type 0
IsUnsent i = is_sent_message (Answer.Took (kind_of i)) ≡ false

pub sent_or_not : (i : Item) → IsSend i ⊎ (IsRegSend i ⊎ IsUnsent i)
sent_or_not (Signalled (Signal.Send p m) pay) = inl (p, m, pay, refl)
sent_or_not (Signalled (Signal.RegSend q name m) pay) = inr (inl (q, name, m, pay, refl))
sent_or_not (Handshake (ShakeMsg.SendName c f n)) = inr (inr refl)
sent_or_not _ = inr (inr refl)

pub five : (a b c d e : Bool) → (a || b || c || d || e) ≡ false → (a ≡ false) × (b ≡ false) × (c ≡ false) × (d ≡ false) × (e ≡ false)
five false false false false e h = (refl, refl, refl, refl, h)
five _ _ _ _ e h = cc

five_back : (a b c d e : Bool) → a ≡ false → b ≡ false → c ≡ false → d ≡ false → e ≡ false → (a || b || c || d || e) ≡ false
five_back false false false false e h i j k l = l
five_back _ _ _ _ e h i j k l = cc

above_next : (m c : ℕ) → nat_lt m c ≡ false → (nat_lt (m + 1) c ≡ false) × ((c == m + 1) ≡ false)
above_next m c h = (grind arith, grind arith)

started_born : (n : Node) (p : Pid) → is_stranger n p ≡ false → is_stranger (started n) p ≡ false
started_born n p h =
    let v =
    five (not (same_name p.node n.mint.name)) (nat_lt n.mint.creation p.creation)
    (p.creation == n.mint.creation && nat_lt n.mint.pids p.id) (p.id == 0) (not (p.serial == 0)) h in
    let k = above_next n.mint.creation p.creation v.1 in
    five_back (not (same_name p.node n.mint.name)) (nat_lt (n.mint.creation + 1) p.creation)
    (p.creation == n.mint.creation + 1 && nat_lt 0 p.id) (p.id == 0) (not (p.serial == 0)) v.0 k.0
    (and_left (p.creation == n.mint.creation + 1) (nat_lt 0 p.id) k.1) v.3 v.4

module _ (w : World) (h : History) (x : Name) (n : Node) (hx : node_of w.nodes x ≡ Some n) (gw : Good w) (g : Sound w h) where
  abbrev D : Event → List Item → Answer → Work → Type 0
  D e xs = Done w h x n hx gw g e xs

  -- ---- events that begin and end no monitor by a call

  module _ (e : Event) (xs : List Item) (na : (k : Reference) (r : Report) → is_answered k e r ≡ false)
      (nd : (k : Reference) (r : Report) → is_demonitored k e r ≡ false) where
    -- nothing comes of it for a process
    pub record Calm (o : Work) : Type 0 where
      pub shaken : Shaken w h x n hx gw g e xs o
      pub none : (k : Reference) → downs_in k o.effects ≡ []

    calm_side : (t : TrunkId) (s : TrunkSide) (o : Work) → Turned o.node t s → Roomy o.node t s → Calm o → Calm (with_side t s o)
    calm_side t s o c r k = record { shaken = shaken_side w h x n hx gw g e xs t s o c k.shaken; none = k.none }

    calm_wrote : (t : TrunkId) (y : Name) (m : ShakeMsg) (o : Work) → Towards o.node t y → Calm o → Calm (write t y m o)
    calm_wrote t y m o v k = record {
      shaken = shaken_wrote w h x n hx gw g e xs t y m o k.shaken;
      none = λ r. no_more r o.effects
          (Effect.Sent (Some t) y (Handshake m) ∷ []) refl ∙ k.none r;
    }

    none_counted : (k : Reference) (b : Bool) (fs : List (Effect Item)) → downs_in k fs ≡ []
        → downs_in k (cond b (mere fs) fs) ≡ downs_in k fs
    none_counted k true fs i = downs_mere k fs ∙ sym i
    none_counted k false fs i = refl

    calm_done : (a : Answer) (o : Work) → Calm o → D e xs a o
    calm_done a o k = done w h x n hx gw g e xs a o (λ r. na r (Reported a o.effects)) (λ r. nd r (Reported a o.effects)) k.shaken.truth
        (turns_aside (record n { local = xs }) (λ r u z. CauseIn h w u.owner u.target z)
        (λ r u. IsAsked (Called h) u.target u.owner r) (λ r u. Off w h r ⊎ (reaches n u.owner.node ≡ false))
        (were w h x n hx gw g) o (counted w h x n hx gw g e xs a o) (record {
          watches = λ r. refl;
          downs = λ r. none_counted r (takes_message e (Reported a o.effects)) o.effects (k.none r);
          lives = λ p. refl;
          registered = λ r. refl;
          local = λ f j. j;
          sent = λ f t y j. ap (λ z. has f (at_place t y z)) (sent_merely (takes_message e (Reported a o.effects)) o.effects) ∙ j;
          name = refl;
          creation = refl;
          references = refl;
          pids = refl;
        }) k.shaken.turns) k.shaken.home k.shaken.aging

    module _ (fs : All (IsFounded w h) xs) (ts : All (TargetsIn (λ q. is_stranger n q ≡ false)) xs) where
      whole : Whole w h x n hx gw g e xs (at_work (record n { local = xs }))
      whole = begins w h x n hx gw g e xs fs ts

      calm : Calm (at_work (record n { local = xs }))
      calm = record { shaken = shaken w h x n hx gw g e xs (at_work (record n { local = xs })) whole; none = λ k. refl }

      -- ---- an item is taken

      module _ (source : Name) (i : Item) (fi : IsFounded w h i)
          (link_known : (p q : Pid) (pay : Bool) → i ≡ Signalled (Signal.Link q p) pay → is_stranger n p ≡ false)
          (monitor_known : (p q : Pid) (r : Reference) (pay : Bool) → i ≡ Signalled (Signal.Monitor p q r) pay → is_stranger n q ≡ false)
          (counts : (fs : List (Effect Item))
          → takes_message e (Reported (Answer.Took (kind_of i)) fs) ≡ is_sent_message (Answer.Took (kind_of i))) where
        reasons : IsUnsent i
            → Reasons (rules w h x n hx gw g e xs) (Whole w h x n hx gw g e xs) source i (at_work (record n { local = xs }))
        reasons ns = record {
          gone = λ p q pay j l. (dead_now w h x n hx gw g p l (link_known p q pay j), λ s. tt);
          acts = λ p q z pay j l a. held_active w h x n hx gw g e p q z l a (old_cause w h p q z (subst (λ v. IsFounded w h v) j fi));
          sent = λ p m pay j. let c : true ≡ false = sym (ap (λ v. is_sent_message (Answer.Took (kind_of v))) j) ∙ ns in cc;
          named = λ q p y m pay j. let c : true ≡ false = sym (ap (λ v. is_sent_message (Answer.Took (kind_of v))) j) ∙ ns in cc;
          nobody = λ p q r pay j l.
              ((dead_now w h x n hx gw g q l (monitor_known p q r pay j), subst (λ v. IsFounded w h v) j fi), λ s. tt);
          nobody_named = λ p y r pay j v. ((inl refl, subst (λ v. IsFounded w h v) j fi), λ s. tt);
          joins = λ p q r pay j l. subst (λ v. IsFounded w h v) j fi;
          joins_named = λ p y r pay q j e l. subst (λ v. IsFounded w h v) j fi;
          drops = λ p q r pay m j c s. inl (subst (λ v. IsFounded w h v) j fi);
          drops_named = λ p y r pay m j c s. inl (subst (λ v. IsFounded w h v) j fi);
          tells = λ p q r z pay j c. old_cause w h p q z (subst (λ v. IsFounded w h v) j fi).0;
          tells_named = λ p y r z pay j c. cause_over w h p (Target.Name y source) z (subst (λ v. IsFounded w h v) j fi).0;
        }

        item_done : IsUnsent i → D e xs (Answer.Took (kind_of i)) (take_item source i (at_work (record n { local = xs })))
        item_done unsent =
            let o = take_item source i (at_work (record n { local = xs })) in
            done_whole w h x n hx gw g e xs (Answer.Took (kind_of i)) o
            (λ r. na r (Reported (Answer.Took (kind_of i)) o.effects))
            (λ r. nd r (Reported (Answer.Took (kind_of i)) o.effects)) (counts o.effects ∙ unsent)
            (item_kept (rules w h x n hx gw g e xs) (Whole w h x n hx gw g e xs) (whole_closed w h x n hx gw g e xs) source i
            (at_work (record n { local = xs })) (reasons unsent) whole)

        -- a message that a process sent
        put_done : (p : Pid) (m : Data) → is_sent_message (Answer.Took (kind_of i)) ≡ true
            → D e xs (Answer.Took (kind_of i)) (put p m (at_work (record n { local = xs })))
        put_done p m is_sent =
            let o0 = at_work (record n { local = xs }) in
            let o = put p m o0 in
            let lv =
            lives_same (record n { local = xs }) (λ r u z. CauseIn h w u.owner u.target z)
            (λ r u. IsAsked (Called h) u.target u.owner r) (λ r u. Off w h r ⊎ (reaches n u.owner.node ≡ false))
            (were w h x n hx gw g) p (delivered (fm.get n.lives p) m) o0 (living_received (fm.get n.lives p) m) in
            done w h x n hx gw g e xs (Answer.Took (kind_of i)) o (λ r. na r (Reported (Answer.Took (kind_of i)) o.effects))
            (λ r. nd r (Reported (Answer.Took (kind_of i)) o.effects))
            (true_put (record n { local = xs }) (Old w h) (Right w h e) (Called h) (Off w h) p m o0 whole.truth)
            (subst (λ b. U w h x n hx gw g e xs (record { node = o.node; effects = cond b (mere o.effects) o.effects }))
            (sym (counts o.effects ∙ is_sent))
            (turns_aside (record n { local = xs }) (λ r u z. CauseIn h w u.owner u.target z)
            (λ r u. IsAsked (Called h) u.target u.owner r) (λ r u. Off w h r ⊎ (reaches n u.owner.node ≡ false))
            (were w h x n hx gw g) o0 (record o0 { node = o.node })
            (node_aside (record n { local = xs }) (λ r u z. CauseIn h w u.owner u.target z)
            (λ r u. IsAsked (Called h) u.target u.owner r) (λ r u. Off w h r ⊎ (reaches n u.owner.node ≡ false))
            (were w h x n hx gw g) o0 o.node refl refl refl lv refl refl refl refl) whole.core.turns))
            (record { local = whole.home.local; name = whole.home.name }) (ageless n o.node refl)

        message_done : (p : Pid) (m : Data) → is_sent_message (Answer.Took (kind_of i)) ≡ true
            → D e xs (Answer.Took (kind_of i)) (take_message p m (at_work (record n { local = xs })))
        message_done p m is_sent = go (living n p)
          where
            go : (b : Bool) → D e xs (Answer.Took (kind_of i))
                (cond b (put p m (at_work (record n { local = xs }))) (at_work (record n { local = xs })))
            go true = put_done p m is_sent
            go false = calm_done (Answer.Took (kind_of i)) (at_work (record n { local = xs })) calm

        send_done : (p : Pid) (m : Data) (pay : Bool) → i ≡ Signalled (Signal.Send p m) pay
            → D e xs (Answer.Took (kind_of i)) (take_item source i (at_work (record n { local = xs })))
        send_done p m pay j =
            let is_sent : is_sent_message (Answer.Took (kind_of i)) ≡ true = ap (λ v. is_sent_message (Answer.Took (kind_of v))) j in
            subst (λ v. D e xs (Answer.Took (kind_of i)) (take_item source v (at_work (record n { local = xs })))) (sym j)
            (message_done p m is_sent)

        reg_send_done : (q : Pid) (y : Name) (m : Data) (pay : Bool) → i ≡ Signalled (Signal.RegSend q y m) pay
            → D e xs (Answer.Took (kind_of i)) (take_item source i (at_work (record n { local = xs })))
        reg_send_done q y m pay j =
            let is_sent : is_sent_message (Answer.Took (kind_of i)) ≡ true = ap (λ v. is_sent_message (Answer.Took (kind_of v))) j in
            subst (λ v. D e xs (Answer.Took (kind_of i)) (take_item source v (at_work (record n { local = xs })))) (sym j)
            (go (fm.get n.names y) is_sent)
          where
            go : (v : Option Pid) → is_sent_message (Answer.Took (kind_of i)) ≡ true → D e xs (Answer.Took (kind_of i))
                (take_named v m (at_work (record n { local = xs })))
            go (Some p) is_sent = message_done p m is_sent
            go None is_sent = calm_done (Answer.Took (kind_of i)) (at_work (record n { local = xs })) calm

        pub taken_done : D e xs (Answer.Took (kind_of i)) (take_item source i (at_work (record n { local = xs })))
        taken_done = go (sent_or_not i)
          where
            go : IsSend i ⊎ (IsRegSend i ⊎ IsUnsent i)
                → D e xs (Answer.Took (kind_of i)) (take_item source i (at_work (record n { local = xs })))
            go (inl s) = send_done s.0 s.1 s.2 s.3
            go (inr (inl s)) = reg_send_done s.0 s.1 s.2 s.3 s.4
            go (inr (inr s)) = item_done s

  -- ---- on a trunk

  module _ (t : TrunkId) (k : ℕ) (i : Item) (rest : List Item) (first : list_to w.lists t x ≡ i ∷ rest) where
    came : IsFounded w h i
    came = All-head (IsFounded w h) i rest (subst (λ l. All (IsFounded w h) l) first (g.lists t x))

    calm0 : Calm (Arrive t x k) n.local (λ r v. refl) (λ r v. refl) (at_work n)
    calm0 = calm (Arrive t x k) n.local (λ r v. refl) (λ r v. refl) (g.locals x n hx) (g.homes x n hx)

    abbrev A : Outcome → Type 0
    A o = AllGo o (D (Arrive t x k) n.local)

    calms : (o : Outcome) → IfGoes o (Calm (Arrive t x k) n.local (λ r v. refl) (λ r v. refl)) → A o
    calms o j =
        all_go (Calm (Arrive t x k) n.local (λ r v. refl) (λ r v. refl)) (D (Arrive t x k) n.local) o
        (λ a p c. calm_done (Arrive t x k) n.local (λ r v. refl) (λ r v. refl) a p c) j

    pub fresh_comes : side_at n t ≡ None → A (arrive_fresh (handshake_in i) t k (at_work n))
    fresh_comes at = calms (arrive_fresh (handshake_in i) t k (at_work n))
        (fresh_kept (λ u y. Unit {0}) (Calm (Arrive t x k) n.local (λ r v. refl) (λ r v. refl)) (calm_side (Arrive t x k) n.local
        (λ r v. refl) (λ r v. refl)) (calm_wrote (Arrive t x k) n.local (λ r v. refl)
        (λ r v. refl)) t tt (handshake_in i) k (at_work n) at calm0)

    module _ (v : TrunkSide) (at : side_at n t ≡ Some v) where
      fails : (j : Fault) → A (fault j t v (at_work n))
      fails j = calms (fault j t v (at_work n)) (known_fault (λ u y. Unit {0}) (Calm (Arrive t x k) n.local (λ r z. refl)
          (λ r z. refl)) (calm_side (Arrive t x k) n.local (λ r z. refl) (λ r z. refl)) (calm_wrote (Arrive t x k) n.local
          (λ r z. refl) (λ r z. refl)) j t v (at_work n) at calm0)

      received : is_good n v i ≡ true → (s : Signal) (pay : Bool) (q : Pid) → i ≡ Signalled s pay → receiver_of s ≡ Some q
          → is_stranger n q ≡ false
      received good s pay q j r =
          not_never n q (ap (to_own n) (sym r)
          ∙ (and_parts (from_peer v (sender_of s)) (to_own n (receiver_of s)) (sym (ap (is_good n v) j) ∙ good)).1)

      up_comes : A (on_up t v i (at_work n))
      up_comes = go (is_good n v i) refl
        where
          go : (b : Bool) → is_good n v i ≡ b
              → A (cond b (Accepts (Answer.Took (kind_of i)) (take_item v.peer i (at_work n))) (fault Fault.Forged t v (at_work n)))
          go true good =
              taken_done (Arrive t x k) n.local (λ r z. refl) (λ r z. refl) (g.locals x n hx) (g.homes x n hx) v.peer i came
              (λ p q pay j. received good (Signal.Link q p) pay p j refl) (λ p q r pay j. received good (Signal.Monitor p q r) pay q j refl) (λ fs. refl)
          go false good = fails Fault.Forged

      signal_comes : (a : State) → A (signal_at a t v i (at_work n))
      signal_comes Up = up_comes
      signal_comes _ = fails (Fault.Shake ShakeFault.BadMessage)

      pub known_comes : (m : Option ShakeMsg) → A (arrive_at m t v i (at_work n))
      known_comes None = signal_comes v.state
      known_comes (Some m) = calms (arrive_at (Some m) t v i (at_work n))
          (HandshakeParts.shaken (λ u y. Unit {0}) (Calm (Arrive t x k) n.local (λ r z. refl)
          (λ r z. refl)) (calm_side (Arrive t x k) n.local (λ r z. refl) (λ r z. refl)) (calm_wrote (Arrive t x k) n.local
          (λ r z. refl) (λ r z. refl)) t v (at_work n) at calm0 v.state refl m)

  -- ---- from itself

  pub local_done : (l : List Item) → n.local ≡ l
      → AllGo (take_local n l) (λ a o. (i : Item) (xs : List Item) → l ≡ i ∷ xs → D (Local x) xs a o)
  local_done [] j = tt
  local_done (i ∷ xs) j =
      λ i2 xs2 s. subst (λ z. D (Local x) z (Answer.Took (kind_of i)) (take_item n.mint.name i (at_work (record n { local = xs })))) (tail_same s)
      (taken_done (Local x) xs (λ r v. refl) (λ r v. refl) (All-tail (IsFounded w h) i xs fs)
      (All-tail (TargetsIn (λ q. is_stranger n q ≡ false)) i xs ts) n.mint.name i (All-head (IsFounded w h) i xs fs)
      (λ p q pay s.
      (home_saying (λ a. is_stranger n a) q p (Signals LinkSignal.Link) pay (subst (λ z. HomeItem (λ a. is_stranger n a) z) s hl.0)).1)
      (λ p q r pay s. subst (λ z. TargetsIn (λ a. is_stranger n a ≡ false) z) s
      (All-head (TargetsIn (λ q. is_stranger n q ≡ false)) i xs ts))
      (λ fs. refl))
    where
      fs : All (IsFounded w h) (i ∷ xs)
      fs = subst (λ z. All (IsFounded w h) z) j (g.locals x n hx)

      ts : All (TargetsIn (λ q. is_stranger n q ≡ false)) (i ∷ xs)
      ts = subst (λ z. All (TargetsIn (λ q. is_stranger n q ≡ false)) z) j (g.homes x n hx)

      hl : Homely (λ p. is_stranger n p) (i ∷ xs)
      hl = subst (λ l. Homely (λ p. is_stranger n p) l) j ((gw.home x n hx).local)

      tail_same : {i2 : Item} {xs2 : List Item} → i ∷ xs ≡ i2 ∷ xs2 → xs ≡ xs2
      tail_same s = cc

  -- ---- connections

  pub lose_done : (t : TrunkId) (o : Option TrunkSide) → side_at n t ≡ o → AllGo (lose n t o) (D (Lose t x) n.local)
  lose_done t o at =
      all_go (Calm (Lose t x) n.local (λ r v. refl) (λ r v. refl)) (D (Lose t x) n.local) (lose n t o)
      (λ a p c. calm_done (Lose t x) n.local (λ r v. refl) (λ r v. refl) a p c)
      (lose_kept (λ u y. Unit {0}) (Calm (Lose t x) n.local (λ r v. refl) (λ r v. refl)) (calm_side (Lose t x) n.local (λ r v. refl)
      (λ r v. refl)) (calm_wrote (Lose t x) n.local (λ r v. refl) (λ r v. refl)) n t o at
      (calm (Lose t x) n.local (λ r v. refl) (λ r v. refl) (g.locals x n hx) (g.homes x n hx)))

  no_next : (o : Option TrunkSide) → side_at n (next_trunk n) ≡ o → side_at n (next_trunk n) ≡ None
  no_next None j = j
  no_next (Some s) j = absurd (omega (arith, (gw.home x n hx).counts (next_trunk n) s j refl))

  pub dial_done : (names : List Name) (y : Name) (k : ℕ) → AllGo (dial names n y k) (D (Dial x y k) n.local)
  dial_done names y k =
      go_not (same_name y n.mint.name) _ Refusal.SelfDial (D (Dial x y k) n.local) (λ a. go_not
      (not (has_name y names)) _ Refusal.NothingThere (D (Dial x y k) n.local)
      (λ b. go_not (is_some (side_where (λ v. not (is_gone v)) y (fm.entries n.sides))) _ Refusal.Busy (D (Dial x y k) n.local)
      (λ c. go_not (not (nat_lt (n.dialed + 1) (2 ^ 64))) _ Refusal.IdsUsedUp (D (Dial x y k) n.local) (λ d.
      let s : TrunkSide = record { peer = y; introduction = untold; state = AwaitsStatus k } in
      let o : Work = at_work (draw_trunk n) in
      let c0 = calm (Dial x y k) n.local (λ r v. refl) (λ r v. refl) (g.locals x n hx) (g.homes x n hx) in
      let c1 : Calm (Dial x y k) n.local (λ r v. refl) (λ r v. refl) o = record {
        shaken = record {
          truth =
              true_node n (Old w h) (Right w h (Dial x y k)) (Called h) (Off w h) (at_work n) (draw_trunk n) refl refl refl c0.shaken.truth;
          turns = turns_aside n (λ r u z. CauseIn h w u.owner u.target z) (λ r u. IsAsked (Called h) u.target u.owner r)
              (λ r u. Off w h r ⊎ (reaches n u.owner.node ≡ false)) (were w h x n hx gw g) (at_work n) o
              (node_aside n (λ r u z. CauseIn h w u.owner u.target z) (λ r u. IsAsked (Called h) u.target u.owner r)
              (λ r u. Off w h r ⊎ (reaches n u.owner.node ≡ false)) (were w h x n hx gw g) (at_work n)
              (draw_trunk n) refl refl refl (λ p. refl) refl refl refl refl) c0.shaken.turns;
          home = record { local = c0.shaken.home.local; name = c0.shaken.home.name };
          aging = ageless n (draw_trunk n) refl;
        };
        none = λ r. refl;
      } in
      let c2 = calm_side (Dial x y k) n.local (λ r v. refl)
      (λ r v. refl) (next_trunk n) s o (Fresh tt (no_next (side_at n (next_trunk n)) refl)) (room_new (draw_trunk n)
      (next_trunk n) s (no_next (side_at n (next_trunk n)) refl)) c1 in
      calm_done (Dial x y k) n.local (λ r v. refl) (λ r v. refl) _ _ (calm_wrote (Dial x y k) n.local (λ r v. refl)
      (λ r v. refl) (next_trunk n) y (send_name (identity n)) (with_side (next_trunk n) s o) (towards_set o (next_trunk n) s) c2)))))

  -- ---- a sweep

  pub sweep_done : (d : Option (TrunkId × TrunkSide)) → any_side is_losing (fm.entries n.sides) ≡ d
      → AllGo (sweep_by d (at_work n)) (D (Sweep x) n.local)
  sweep_done None j = tt
  sweep_done (Some d) j =
      let r = any_found is_losing (fm.entries n.sides) d (fm.entries_sorted n.sides) j in
      let los : d.1.state ≡ Losing = losing_is d.1.state r.1 in
      let at : side_at n d.0 ≡ Some d.1 = fm.get-entries n.sides d.0 ∙ r.0 in
      let far : reaches n d.1.peer ≡ false = losing_unreached n d.0 d.1 (gw.core.sides x n hx) at los in
      let k =
      link_swept (rules w h x n hx gw g (Sweep x) n.local) (Whole w h x n hx gw g (Sweep x) n.local)
      (whole_closed w h x n hx gw g (Sweep x) n.local) (link_to d.1.peer (fm.entries n.ends)) d.1.peer (at_work n)
      (λ v l a. right d.1.peer far v l a)
      (λ v l. let f = watch_found d.1.peer n.watches v l in (f.0, tells d.1.peer far v f))
      (λ v l. let f = registered_found d.1.peer n.registered v l in (f.0, inr (ap (reaches n) f.1 ∙ far)))
      (begins w h x n hx gw g (Sweep x) n.local (g.locals x n hx) (g.homes x n hx)) in
      let o1 = sweep_link (link_to d.1.peer (fm.entries n.ends)) d.1.peer (at_work n) in
      let s = swept_kept (λ u y. Unit {0}) (Shaken w h x n hx gw g (Sweep x) n.local)
      (λ t v o c r z. shaken_side w h x n hx gw g (Sweep x) n.local t v o c z)
      (λ t y m o v z. shaken_wrote w h x n hx gw g (Sweep x) n.local t y m o z) d.0 d.1 o1 (ap (λ z. fm.get z d.0) k.core.sides ∙ at)
      (λ u b v f p e z. shaken_side w h x n hx gw g (Sweep x) n.local u (as_state b (Accepting v)) (set_state d.0 d.1 Gone o1) (Aged b f
      (parked_ages b v e)) z) (shaken w h x n hx gw g (Sweep x) n.local o1 k) in
      subst (λ z. D (Sweep x) n.local (Answer.Swept (swept_kind (least_record d.1.peer n))) (close_if_swept d.0 d.1 z))
      (sym (least_as d.1.peer (at_work n)))
      (done_shaken w h x n hx gw g (Sweep x) n.local _ (close_if_swept d.0 d.1 o1) (λ q. refl) (λ q. refl) refl s)
    where
      right : (y : Name) → reaches n y ≡ false → (e : (Pid × Pid) × End) → link_to y (fm.entries n.ends) ≡ Some e
          → e.1 ≡ End.Active → Right w h (Sweep x) e.0.0 e.0.1 noconnection
      right y far e l a =
          let v = link_found y (fm.entries n.ends) e (fm.entries_sorted n.ends) l in
          let en : end_of n e.0.0 e.0.1 ≡ End.Active = ap end_in (fm.get-entries n.ends e.0 ∙ v.0) ∙ a in
          let root = (kn w h x n hx gw g).rooted e.0.0 e.0.1 (λ z. let c : End.None ≡ End.Active = sym z ∙ en in cc) in
          held_active w h x n hx gw g (Sweep x) e.0.0 e.0.1 noconnection root.0 en
          (no_connection w h x n hx gw g e.0.0 e.0.1 ((kn w h x n hx gw g).born e.0.0 root.0) (ap (reaches n) v.1 ∙ far))

      tells : (y : Name) → reaches n y ≡ false → (v : Reference × Watch) → (fm.get n.watches v.0 ≡ Some v.1)
          × (target_node v.1.target ≡ y) → CauseIn h w v.1.owner v.1.target noconnection
      tells y far v f =
          let u = g.watching x n v.0 v.1 hx f.0 in
          unreached_cause w h x n hx gw g v.1.owner v.1.target ((kn w h x n hx gw g).born v.1.owner u.4) (ap (reaches n) f.1 ∙ far)

  -- ---- an incarnation ends, and another begins

  module _ (e : Event) (m : Node) (na : (k : Reference) (r : Report) → is_answered k e r ≡ false)
      (nd : (k : Reference) (r : Report) → is_demonitored k e r ≡ false) (tm : (r : Report) → takes_message e r ≡ false)
      (nam : m.mint.name ≡ n.mint.name) (empty_lives : m.lives ≡ fm.empty) (empty_watches : m.watches ≡ fm.empty)
      (empty_registered : m.registered ≡ fm.empty) (all_over : m.sides ≡ fm.from_entries (all_gone (fm.entries n.sides)))
      (nv : (p : Pid) → is_stranger n p ≡ false → is_stranger m p ≡ false) (dr : (k : Reference) → Drawn n k → Drawn m k)
      (fs : All (IsFounded w h) m.local) (ts : All (TargetsIn (λ q. is_stranger m q ≡ false)) m.local) where
    dead : (p : Pid) → living m p ≡ false
    dead p = ap is_living_life (ap (λ z. fm.get z p) empty_lives ∙ fm.get-empty pid_cmp p)

    unwatched : (k : Reference) → fm.get m.watches k ≡ None
    unwatched k = ap (λ z. fm.get z k) empty_watches ∙ fm.get-empty reference_cmp k

    side_gone : (t : TrunkId) → side_at m t ≡ gone_side (side_at n t)
    side_gone t = ap (λ z. fm.get z t) all_over ∙ gone_sides n t

    over_side : (t : TrunkId) (s : TrunkSide) → side_at m t ≡ Some s → is_over s.state ≡ true
    over_side t s j = go (side_at n t) (sym (side_gone t) ∙ j)
      where
        go : (v : Option TrunkSide) → gone_side v ≡ Some s → is_over s.state ≡ true
        go None i = absurd (none-some s i)
        go (Some a) i =
            ap (λ (z : TrunkSide). is_over z.state) (sym (same_Some (record { peer = a.peer; introduction = untold; state = Gone }) s i))

    pub cleared_done : (a : Answer) → D e n.local a (at_work m)
    cleared_done a = record {
      deed = record {
        name = nam ∙ nm w h x n hx gw g;
        nevers = nv;
        grows = λ p v. over_of m p (dead p) (nv p (over_parts n p v).1);
        carries = record {
          local = All-weaker (IsFounded w h) _
              (founded_by _ _ (Called h) (CalledNow h e a (at_work m)) (Off w h) (OffAfter w h n (at_work m))
              (λ q z c. inl c) (λ p q r c. inr c) (λ r c. inl c)) m.local fs;
          sent = All-nil _;
        };
        homes = ts;
        enrolled = λ k u j. absurd (none-some u (sym (ap (λ z. fm.get z k) empty_registered ∙ fm.get-empty reference_cmp k) ∙ j));
        owners = λ k u j. absurd (none-some u (sym (unwatched k) ∙ j));
        drawn = dr;
        course = λ k. course k (fm.get n.watches k) refl;
      };
      acts = λ p q z c. absurd (none_within (Effect.LinkExit p q z) c);
      aging = λ t s j. record {
        side = record { peer = s.peer; introduction = untold; state = Gone };
        there = side_gone t ∙ ap gone_side j;
        peer = refl;
        holding = inr (λ k u i d. none-some u (sym (unwatched k) ∙ i), refl);
        over = λ i. refl;
      };
      local = λ f j. inr unwatched;
      leaving = λ k u j. inr (inr (over_side, unwatched));
    }
      where
        silent : (k : Reference) → downs_by k e (Reported a []) ≡ []
        silent k = ap (λ b. cond b [] []) (tm (Reported a [])) ∙ refl

        course : (k : Reference) (v : Option Watch) → fm.get n.watches k ≡ v → Course w h n x e (Reported a []) (at_work m) k
        course k None j = Stays (unwatched k ∙ sym j) (silent k) (na k (Reported a [])) (nd k (Reported a []))
        course k (Some u) j =
            let v = (kn w h x n hx gw g).born u.owner (g.watching x n k u hx j).4 in
            Leaves u j (unwatched k) (over_of m u.owner (dead u.owner) (nv u.owner v)) (at_pid w h x n hx gw g u.owner v)
            (silent k) (na k (Reported a [])) (nd k (Reported a []))

  pub stop_done : AllGo (stop n) (D (Stop x) n.local)
  stop_done = cleared_done (Stop x) (stopped n) (λ k r. refl) (λ k r. refl) (λ r. refl) refl refl refl refl refl (λ p v. v)
      (λ k v. v) (g.locals x n hx) (g.homes x n hx) Answer.Stopped

  pub start_done : AllGo (start n) (D (Start x) n.local)
  start_done = go_not n.up _ Refusal.NodeUp (D (Start x) n.local)
      (λ a. go_cond (nat_lt (n.mint.creation + 1) (2 ^ 32)) _ Refusal.IdsUsedUp (D (Start x) n.local) (λ b.
      cleared_done (Start x) (started n) (λ k r. refl) (λ k r. refl) (λ r. refl) refl refl refl refl refl
      (started_born n) again (All-nil (IsFounded w h)) (All-nil (TargetsIn (λ q. is_stranger (started n) q ≡ false)))
      (Answer.Started (n.mint.creation + 1))))
    where
      again : (k : Reference) → Drawn n k → Drawn (started n) k
      again k (inl d) = inl (omega arith)
      again k (inr d) = let c = d.0 in inl (omega arith)
