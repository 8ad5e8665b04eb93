-- What is known of watched monitors is kept by every event.
use Rattle.erl_handshake.specs.declared.message.ShakeMsg.{ShakeMsg}
use Rattle.erl_names.specs.Draw as kind
use Rattle.std.proofs.Common.{◌≡◌, ℕ, Bool, true, false, cond, List, [], ◌∷◌, refl, sym, ap}
use Rattle.std.proofs.Common.{◌∙◌, subst, ◌&&◌, ◌||◌, Option, Some, None, ◌⊎◌, inl, inr}
use Rattle.std.proofs.lemmas.List.Elements.{All-head}
use Rattle.std.proofs.lemmas.Bool.{and_parts}
use Rattle.std.proofs.lemmas.Option.{same_Some, none-some}
use Rattle.std.specs.List.{All}
use Rattle.std.specs.Option.{is_some, option_map}
use Rattle.std.specs.FinMap as fm
use Rattle.conn_core.specs.declared.arrival.Fault.{Fault}
use Rattle.erl_handshake.specs.declared.fault.ShakeFault.{ShakeFault}
use Rattle.dist_model.specs.NodeEvents.{if_up}
use Rattle.dist_model.proofs.OneStep.{arrives, while_up}
use Rattle.dist_model.proofs.Envelopes.{outgoing}
use Rattle.dist_model.proofs.Calls.{by_test}
use Rattle.dist_model.proofs.Comings.{dial_done, fresh_comes, known_comes, local_done, lose_done, start_done, stop_done, sweep_done}
use Rattle.dist_model.proofs.Entries.{same_reference_refl, same_reference_true}
use Rattle.dist_model.proofs.Events.{AllGo, Done, call_done, go_cond, go_drawn, go_not}
use Rattle.dist_model.proofs.Founded.{IsAsked, named_by, posts_keep}
use Rattle.dist_model.proofs.HandshakeParts.{as_state, lost_over, set_at}
use Rattle.dist_model.proofs.Keys.{same_name_is, same_name_true, same_pid_is, same_trunk, same_trunk_refl, same_trunk_true}
use Rattle.dist_model.proofs.WatchKnown.{Linked, NewWatch, TakenCall, linked_after, owner_at}
use Rattle.dist_model.proofs.Routes.{list_to_insert, node_of_name, at_place}
use Rattle.dist_model.proofs.Sides.{not_own, route_from, route_up, side_at, up_holds, holds}
use Rattle.dist_model.proofs.Steps.{is_from_peer}
use Rattle.dist_model.proofs.Trunks.{Good, has}
use Rattle.dist_model.proofs.Told.{Begins, Called, Course, Downs, IsAlike, IsFounded, Leaves, Revoked, Sound, Stays, asked_one}
use Rattle.dist_model.proofs.Lands.{Lands, asked_is, is_call, is_end, lands_one, told_is}
use Rattle.dist_model.specs.Arrivals.{arrive_at, arrive_fresh, handshake_in, is_from, is_good, is_to, on_up, signal_at, take_local}
use Rattle.dist_model.specs.Calls.{call}
use Rattle.dist_model.specs.Commands.{Accepts, Outcome, Refuses}
use Rattle.dist_model.specs.declared.report.Answer.{Answer}
use Rattle.dist_model.specs.declared.command.Command.{Command}
use Rattle.dist_model.specs.Dialing.{dial}
use Rattle.dist_model.specs.Downs.{is_answered, same_reference}
use Rattle.dist_model.specs.Handshake.{fault, set_state}
use Rattle.dist_model.specs.Histories.{History}
use Rattle.dist_model.specs.Incarnations.{start, stop}
use Rattle.dist_model.specs.Items.{Handshake, Item, Signalled, kind_of}
use Rattle.dist_model.specs.Losses.{any_side, lose, sweep}
use Rattle.dist_model.specs.Monitoring.{bind, bound, monitor, register, take_monitor_exit, unwatch, watch}
use Rattle.dist_model.specs.Names.{Name, same_name}
use Rattle.dist_model.specs.Node.{Node, living, is_stranger, monitors_names, reaches, route}
use Rattle.dist_model.specs.Sides.{Gone, State, TrunkSide, Up, is_losing, is_up, is_over, lost}
use Rattle.dist_model.specs.Taking.{take_item}
use Rattle.dist_model.specs.Telling.{asked, object, told_end}
use Rattle.dist_model.specs.Work.{Work, at_work, draw, post, put, spelled}
use Rattle.dist_model.specs.World.{Arrive, Call, Dial, Event, Local, Lose, Report, Reported, Start}
use Rattle.dist_model.specs.World.{Stop, Sweep, World, came_of, list_to, node_name, node_of, step_at}
use Rattle.erl_control.specs.declared.signal.Signal.{Signal}
use Rattle.erl_names.specs.Ids.{reference_of}
use Rattle.erl_names.specs.Minted.{id_of}
use Rattle.erl_names.specs.declared.trunk.TrunkId.{TrunkId}
use Rattle.erl_term.specs.declared.refusal.Refusal.{Refusal}
use Rattle.erl_term.specs.declared.term.Pid.{Pid}
use Rattle.erl_term.specs.declared.term.Reference.{Reference}
use Rattle.exit_core.specs.Messages.{down_term}
use Rattle.link_core.specs.News.{noconnection, noproc}
use Rattle.erl_term.proofs.Order.{reference_cmp_total}
use Rattle.monitor_core.proofs.Held.{target_self}
use Rattle.monitor_core.specs.Monitors.{RegistrationMap, added, is_held, is_this, itself, same_target, target_node, watch_of}
use Rattle.dist_model.specs.Sides.{untold}
use Rattle.monitor_core.specs.declared.monitor.Target.{Target}
use Rattle.monitor_core.specs.declared.monitor.Watch.{Watch}
use Rattle.monitor_core.specs.declared.monitor.Registration.{Registration}
use Rattle.erl_term.specs.Data.{Data}

pub any_go : (P : Answer → Work → Type 0) (k : Outcome) → ((a : Answer) (o : Work) → P a o) → AllGo k P
any_go P (Refuses j) f = tt
any_go P (Accepts a o) f = f a o

no_signal : (i : Item) (m : ShakeMsg) (k : Reference) → handshake_in i ≡ Some m → (is_end k i ≡ false) × (is_call k i ≡ false)
no_signal (Handshake l) m k h = (refl, refl)
no_signal _ m k h = absurd (none-some m h)

added_there : (b : Bool) (m : RegistrationMap) (r : Reference) (v : Registration) → fm.contains_key m r ≡ b → (c : Registration)
    × (fm.get (cond b m (fm.insert m r v)) r ≡ Some c)
added_there false m r v h = (v, fm.get-insert reference_cmp_total m r v r ∙ ap (λ b. cond b (Some v) (fm.get m r)) (same_reference_refl r))
added_there true m r v h = go (fm.get m r) refl
  where
    go : (o : Option Registration) → fm.get m r ≡ o → (c : Registration) × (fm.get m r ≡ Some c)
    go None j = let z : false ≡ true = sym (ap is_some j) ∙ h in cc
    go (Some c) j = (c, j)

module _ (w : World) (h : History) (x : Name) (n : Node) (hx : node_of w.nodes x ≡ Some n) (gw : Good w) (g : Sound w h) where
  -- what a signal names is what its reference was answered for
  names : (y : Name) (v : Node) (k r : Reference) (u : Watch) (p : Pid) (t : Target) → node_of w.nodes y ≡ Some v
      → fm.get v.watches k ≡ Some u → same_reference k r ≡ true → IsAsked (Called h) t p r → (p ≡ u.owner) × IsAlike t u.target
  names y v k r u p t hv i e c =
      asked_one k t p u.owner u.target h (g.one k) (subst (λ z. IsAsked (Called h) t p z) (sym (same_reference_true k r e)) c)
      (g.watching y v k u hv i).1

  -- ---- an item is taken, from a trunk or from the own list

  module _ (source : Name) (xs : List Item) where
    -- a MONITOR_P_EXIT ends its watch
    ends_watch : (p : Pid) (t : Target) (r : Reference) (z : Data) (k : Reference) (u : Watch) → p ≡ u.owner → t ≡ u.target
        → same_reference k r ≡ true → fm.get n.watches k ≡ Some u
        → fm.get ((take_monitor_exit t p r z (at_work (record n { local = xs }))).node.watches) k ≡ Some u → ⊥
    ends_watch p t r z k u pu tu e j s =
        let kr : k ≡ r = same_reference_true k r e in
        let at : fm.get n.watches r ≡ Some u = ap (fm.get n.watches) (sym kr) ∙ j in
        let held : is_held itself n.watches r (watch_of p t) ≡ true =
        ap (λ v. is_this (option_map itself v) (watch_of p t)) at
        ∙ ap (λ b. b && same_target u.target t) (same_pid_is u.owner p (sym pu))
        ∙ ap (λ z. same_target z t) (sym tu) ∙ target_self t in
        let alive : living n p ≡ true = subst (λ v. living n v ≡ true) (sym pu) (g.watching x n k u hx j).4 in
        let both : (living n p && is_held itself n.watches r (watch_of p t)) ≡ true =
        ap (λ b. b && is_held itself n.watches r (watch_of p t)) alive ∙ held in
        let gone : fm.get ((cond (living n p && is_held itself n.watches r (watch_of p t))
        (put p (down_term r (object t) z) (unwatch r (at_work (record n { local = xs }))))
        (at_work (record n { local = xs }))).node.watches) k ≡ None =
        ap (λ b. fm.get ((cond b (put p (down_term r (object t) z) (unwatch r (at_work (record n { local = xs }))))
        (at_work (record n { local = xs }))).node.watches) k) both
        ∙ fm.get-remove reference_cmp_total n.watches r k ∙ ap (λ b. cond b None (fm.get n.watches k)) e in
        none-some u (sym gone ∙ s)

    -- if it comes from the target's node
    end_taken : (i : Item) → IsFounded w h i → (k : Reference) (u : Watch) → is_end k i ≡ true → source ≡ target_node u.target
        → fm.get n.watches k ≡ Some u
        → fm.get ((take_item source i (at_work (record n { local = xs }))).node.watches) k ≡ Some u → ⊥
    end_taken (Signalled (Signal.MonitorExit q p r z) pay) f k u e from j s =
        let one = names x n k r u p (Target.Pid q) hx j e f.1 in ends_watch p (Target.Pid q) r z k u one.0 one.1 e j s
    end_taken (Signalled (Signal.MonitorNameExit name p r z) pay) f k u e from j s =
        let one = names x n k r u p (named_by name) hx j e f.1 in
        let alike = one.1 in
        let same : Target.Name name source ≡ u.target =
        ap (Target.Name name) (from ∙ ap target_node (sym alike.1)) ∙ alike.1 in
        ends_watch p (Target.Name name source) r z k u one.0 same e j s
    end_taken _ f k u e from j s = cc

    -- a MONITOR_P is registered, or answered
    abbrev Answered : Reference → Watch → Work → Type 0
    Answered k u o = ((b : Registration) × (fm.get o.node.registered k ≡ Some b)) ⊎ Lands (is_end k) n u.owner.node o

    call_bound : (held : Option Pid) (p : Pid) (t : Target) (r k : Reference) (u : Watch) → same_reference k r ≡ true → p ≡ u.owner
        → Answered k u (bind held p t r (at_work (record n { local = xs })))
    call_bound held p t r k u e own = pick held
      where
        kr : r ≡ k
        kr = sym (same_reference_true k r e)

        tells : Answered k u (post (told_end t p r noproc) (at_work (record n { local = xs })))
        tells =
            inr (subst (λ (z : Pid). Lands (is_end k) n z.node (post (told_end t p r noproc) (at_work (record n { local = xs })))) own
            (lands_one (is_end k) n (told_end t p r noproc) (at_work (record n { local = xs })) refl refl (told_is k t p r noproc _ ∙ e)))

        go : (q : Pid) (b : Bool) → Answered k u (cond b (register r (bound p t q) (at_work (record n { local = xs })))
            (post (told_end t p r noproc) (at_work (record n { local = xs }))))
        go q true =
            inl (subst (λ z. (b : Registration) × (fm.get (added n.registered r (bound p t q)) z ≡ Some b)) kr
            (added_there (fm.contains_key n.registered r) n.registered r (bound p t q) refl))
        go q false = tells

        pick : (held : Option Pid) → Answered k u (bind held p t r (at_work (record n { local = xs })))
        pick None = tells
        pick (Some q) = go q (living n q)

    call_taken : (i : Item) → IsFounded w h i → (y : Name) (v : Node) (k : Reference) (u : Watch)
        → node_of w.nodes y ≡ Some v → fm.get v.watches k ≡ Some u → is_call k i ≡ true
        → Answered k u (take_item source i (at_work (record n { local = xs })))
    call_taken (Signalled (Signal.Monitor p q r) pay) f y v k u hv j e =
        call_bound (Some q) p (Target.Pid q) r k u e (names y v k r u p (Target.Pid q) hv j e f).0
    call_taken (Signalled (Signal.MonitorName p name r) pay) f y v k u hv j e =
        call_bound (fm.get n.names name) p (Target.Name name n.mint.name) r k u e (names y v k r u p (named_by name) hv j e f).0
    call_taken (Signalled (Signal.MonitorExit q p r z) pay) f y v k u hv j e = cc
    call_taken _ f y v k u hv j e = cc

    -- taking one leaves the sides
    sides_bound : (held : Option Pid) (p : Pid) (t : Target) (r : Reference)
        → (bind held p t r (at_work (record n { local = xs }))).node.sides ≡ n.sides
    sides_bound held p t r = pick held
      where
        tells : (post (told_end t p r noproc) (at_work (record n { local = xs }))).node.sides ≡ n.sides
        tells = posts_keep (λ m. m.sides) (λ m l. refl) p.node
            (spelled (at_work (record n { local = xs })).node (told_end t p r noproc)) (at_work (record n { local = xs }))

        go : (q : Pid) (b : Bool) → (cond b (register r (bound p t q) (at_work (record n { local = xs })))
            (post (told_end t p r noproc) (at_work (record n { local = xs })))).node.sides ≡ n.sides
        go q true = refl
        go q false = tells

        pick : (held : Option Pid) → (bind held p t r (at_work (record n { local = xs }))).node.sides ≡ n.sides
        pick None = tells
        pick (Some q) = go q (living n q)

    sides_taken : (i : Item) → (k : Reference) → is_call k i ≡ true → (take_item source i (at_work (record n { local = xs }))).node.sides ≡ n.sides
    sides_taken (Signalled (Signal.Monitor p q r) pay) k e = sides_bound (Some q) p (Target.Pid q) r
    sides_taken (Signalled (Signal.MonitorName p name r) pay) k e = sides_bound (fm.get n.names name) p (Target.Name name n.mint.name) r
    sides_taken _ k e = cc

  -- whom a MONITOR_P that passes is from
  call_from : (v : TrunkSide) (i : Item) → is_good n v i ≡ true → IsFounded w h i
      → (y : Name) (m : Node) (k : Reference) (u : Watch) → node_of w.nodes y ≡ Some m → fm.get m.watches k ≡ Some u
      → is_call k i ≡ true → u.owner.node ≡ v.peer
  call_from v (Signalled (Signal.Monitor p q r) pay) good f y m k u hm j e =
      ap (λ (z : Pid). z.node) (sym (names y m k r u p (Target.Pid q) hm j e f).0) ∙ is_from_peer v p (and_parts (is_from v p) (is_to n q) good).0
  call_from v (Signalled (Signal.MonitorName p name r) pay) good f y m k u hm j e =
      ap (λ (z : Pid). z.node) (sym (names y m k r u p (named_by name) hm j e f).0) ∙ is_from_peer v p (and_parts (is_from v p) true good).0
  call_from v _ good f y m k u hm j e = cc

  -- ---- what comes on a trunk

  module _ (t : TrunkId) (k0 : ℕ) (i : Item) (fi : IsFounded w h i) where
    pub record Facts (a : Answer) (o : Work) : Type 0 where
      pub ends : (k : Reference) (u : Watch) → is_end k i ≡ true → fm.get n.watches k ≡ Some u
          → fm.get o.node.watches k ≡ Some u → (c : TrunkSide) → side_at n t ≡ Some c → c.peer ≡ target_node u.target
          → (b : TrunkSide) → side_at o.node t ≡ Some b → is_over b.state ≡ true
      pub calls : (k : Reference) (y : Name) (v : Node) (u : Watch) → is_call k i ≡ true → (x ≡ y → ⊥)
          → node_of w.nodes y ≡ Some v → fm.get v.watches k ≡ Some u → TakenCall o t y k

    at_fault : (s : TrunkSide) → side_at ((set_state t s (lost s.state) (at_work n)).node) t ≡ Some (as_state s (lost s.state))
    at_fault s =
        set_at (at_work n) t (as_state s (lost s.state)) t
        ∙ ap (λ b. cond b (Some (as_state s (lost s.state))) (side_at n t)) (same_trunk_refl t)

    fault_facts : (j : Fault) (s : TrunkSide) → AllGo (fault j t s (at_work n)) Facts
    fault_facts j s = record {
      ends = λ k u e b c d hd pd z q. ap (λ (v : TrunkSide). is_over v.state) (sym (same_Some (as_state s (lost s.state)) z (sym (at_fault s) ∙ q)))
          ∙ lost_over s.state;
      calls = λ k y v u e dy hv c. inl (as_state s (lost s.state), at_fault s, lost_over s.state);
    }

    -- a message of the handshake is about no monitor
    other_facts : (m : ShakeMsg) → handshake_in i ≡ Some m → (o : Outcome) → AllGo o Facts
    other_facts m e o = any_go Facts o (λ a p. record {
      ends = λ k u c. let z : true ≡ false = sym c ∙ (no_signal i m k e).0 in cc;
      calls = λ k y v u c. let z : true ≡ false = sym c ∙ (no_signal i m k e).1 in cc;
    })

    fresh_facts : (c : Option ShakeMsg) → handshake_in i ≡ c → AllGo (arrive_fresh c t k0 (at_work n)) Facts
    fresh_facts None e = fault_facts (Fault.Shake ShakeFault.BadMessage) (record { peer = t.dialer; introduction = untold; state = Gone })
    fresh_facts (Some m) e = other_facts m e (arrive_fresh (Some m) t k0 (at_work n))

    module _ (v : TrunkSide) (at : side_at n t ≡ Some v) where
      taken_facts : is_up v.state ≡ true → is_good n v i ≡ true → Facts (Answer.Took (kind_of i)) (take_item v.peer i (at_work n))
      taken_facts up good = record {
        ends = λ k u e b c d hd pd z q.
            absurd (end_taken v.peer n.local i fi k u e (ap (λ (z : TrunkSide). z.peer) (same_Some v d (sym at ∙ hd)) ∙ pd) b c);
        calls = λ k y m u e dy hm c. calls k y m u e dy hm c (call_taken v.peer n.local i fi y m k u hm c e);
      }
        where
          calls : (k : Reference) (y : Name) (m : Node) (u : Watch) → is_call k i ≡ true → (x ≡ y → ⊥)
              → node_of w.nodes y ≡ Some m → fm.get m.watches k ≡ Some u
              → ((b : Registration) × (fm.get ((take_item v.peer i (at_work n)).node.registered) k ≡ Some b))
              ⊎ Lands (is_end k) n u.owner.node (take_item v.peer i (at_work n)) → TakenCall (take_item v.peer i (at_work n)) t y k
          calls k y m u e dy hm c (inl b) = inr (inl (v, b.0, ap (λ z. fm.get z t) (sides_taken v.peer n.local i k e) ∙ at, up, b.1))
          calls k y m u e dy hm c (inr z) =
              let from : u.owner.node ≡ v.peer = call_from v i good fi y m k u hm c e in
              let own : same_name u.owner.node n.mint.name ≡ false =
              ap (λ b. same_name b n.mint.name) from ∙ not_own n t v (gw.core.sides x n hx) at in
              let way : route n u.owner.node ≡ Some t = ap (route n) from ∙ route_up n t v (gw.core.sides x n hx) at up in
              inr (inr (subst (λ b. has (is_end k) (at_place t b (outgoing (take_item v.peer i (at_work n)))) ≡ true)
              (owner_at w h gw g y m k u hm c) (z.1 t own way)))

      up_facts : is_up v.state ≡ true → AllGo (on_up t v i (at_work n)) Facts
      up_facts up = go (is_good n v i) refl
        where
          go : (b : Bool) → is_good n v i ≡ b
              → AllGo (cond b (Accepts (Answer.Took (kind_of i)) (take_item v.peer i (at_work n))) (fault Fault.Forged t v (at_work n))) Facts
          go true good = taken_facts up good
          go false good = fault_facts Fault.Forged v

      signal_facts : (a : State) → v.state ≡ a → AllGo (signal_at a t v i (at_work n)) Facts
      signal_facts Up s = up_facts (ap is_up s)
      signal_facts _ s = fault_facts (Fault.Shake ShakeFault.BadMessage) v

      known_facts : (c : Option ShakeMsg) → handshake_in i ≡ c → AllGo (arrive_at c t v i (at_work n)) Facts
      known_facts None e = signal_facts v.state refl
      known_facts (Some m) e = other_facts m e (arrive_at (Some m) t v i (at_work n))

  -- ---- a call of Monitor

  abbrev pub Fresh : Answer → Work → Type 0
  Fresh a o = (k : Reference) (u : Watch) → fm.get n.watches k ≡ None → fm.get o.node.watches k ≡ Some u → NewWatch n o k u

  monitor_fresh : (p : Pid) (q : Target) (id : ℕ)
      → Fresh (Answer.Reference (reference_of n.mint id)) (monitor (reference_of n.mint id) p q (draw kind.Reference (at_work n)))
  monitor_fresh p q id = go (reaches n (target_node q)) refl
    where
      reached : reaches n (target_node q) ≡ true → Fresh (Answer.Reference (reference_of n.mint id)) (post
          (asked p q (reference_of n.mint id))
          (watch (reference_of n.mint id) (watch_of p q) (draw kind.Reference (at_work n))))
      reached far k u i j =
          pick (same_reference k (reference_of n.mint id)) refl
          (sym (ap (λ z. fm.get z k) ws ∙ fm.get-insert reference_cmp_total n.watches (reference_of n.mint id) (watch_of p q) k) ∙ j)
        where
          ws : (post (asked p q (reference_of n.mint id))
              (watch (reference_of n.mint id) (watch_of p q) (draw kind.Reference (at_work n)))).node.watches ≡ (watch
              (reference_of n.mint id) (watch_of p q) (draw kind.Reference (at_work n))).node.watches
          ws = posts_keep (λ m. m.watches) (λ m z. refl) (target_node q)
              (spelled ((watch (reference_of n.mint id) (watch_of p q) (draw kind.Reference (at_work n))).node) (asked p q (reference_of n.mint id)))
              (watch (reference_of n.mint id) (watch_of p q) (draw kind.Reference (at_work n)))

          sd : (post (asked p q (reference_of n.mint id))
              (watch (reference_of n.mint id) (watch_of p q) (draw kind.Reference (at_work n)))).node.sides ≡ n.sides
          sd = posts_keep (λ m. m.sides) (λ m z. refl) (target_node q)
              (spelled ((watch (reference_of n.mint id) (watch_of p q) (draw kind.Reference (at_work n))).node) (asked p q (reference_of n.mint id)))
              (watch (reference_of n.mint id) (watch_of p q) (draw kind.Reference (at_work n)))

          routed : (c : Option TrunkId) → route n (target_node q) ≡ c → same_name (target_node q) n.mint.name ≡ false → (t : TrunkId)
              × (route n (target_node q) ≡ Some t)
          routed None r own = let z : true ≡ false = sym far ∙ ap (λ b. b || is_some (route n (target_node q))) own ∙ ap is_some r in cc
          routed (Some t) r own = (t, r)

          pick : (b : Bool) → same_reference k (reference_of n.mint id) ≡ b → cond b (Some (watch_of p q)) (fm.get n.watches k) ≡ Some u
              → NewWatch n (post (asked p q (reference_of n.mint id))
              (watch (reference_of n.mint id) (watch_of p q) (draw kind.Reference (at_work n)))) k u
          pick false e c = absurd (none-some u (sym i ∙ c))
          pick true e c =
              subst (λ z. NewWatch n (post (asked p q (reference_of n.mint id))
              (watch (reference_of n.mint id) (watch_of p q) (draw kind.Reference (at_work n)))) k z) (same_Some (watch_of p q) u c)
              (let ld = lands_one (is_call k) n (asked p q (reference_of n.mint id))
              (watch (reference_of n.mint id) (watch_of p q) (draw kind.Reference (at_work n))) refl refl (asked_is k p q (reference_of n.mint id) _ ∙ e) in (
                λ own. ld.0 own,
                λ own. let r =
                    routed (route n (target_node q)) refl own in let s = route_from n (target_node q) r.0 r.1 in
                    (r.0, s.found, ap (λ z. fm.get z r.0) sd ∙ s.there, s.peer, up_holding s.found s.up, ld.1 r.0 own r.1),
              ))
            where
              up_holding : (s : TrunkSide) → is_up s.state ≡ true → holds s.state ≡ true
              up_holding s up = (up_holds s.state up).0

      go : (b : Bool) → reaches n (target_node q) ≡ b → Fresh (Answer.Reference (reference_of n.mint id)) (cond b (post
          (asked p q (reference_of n.mint id))
          (watch (reference_of n.mint id) (watch_of p q) (draw kind.Reference (at_work n)))) (put p
          (down_term (reference_of n.mint id) (object q) noconnection) (draw kind.Reference (at_work n))))
      go true far = reached far
      go false far = λ k u i j. absurd (none-some u (sym i ∙ j))

  make_fresh : (p q : Pid) → AllGo (call n (Command.Monitor p q)) Fresh
  make_fresh p q =
      go_cond (living n p) _ Refusal.NoSuchProcess Fresh (λ l. go_not
      (same_name q.node n.mint.name && is_stranger n q) _ Refusal.Forged Fresh
      (λ f. go_drawn (id_of n.mint kind.Reference) _ Fresh (λ id i. monitor_fresh p (Target.Pid q) id)))

  make_named_fresh : (p : Pid) (y name : Name) → AllGo (call n (Command.MonitorName p y name)) Fresh
  make_named_fresh p y name =
      go_cond (living n p) _ Refusal.NoSuchProcess Fresh (λ l. go_cond (monitors_names n y) _ Refusal.NotOffered Fresh
      (λ f. go_drawn (id_of n.mint kind.Reference) _ Fresh (λ id i. monitor_fresh p (Target.Name name y) id)))

  -- every other event begins no monitor
  none_begun : (e : Event) (xs : List Item) (a : Answer) (o : Work)
      → ((k : Reference) → is_answered k e (Reported a o.effects) ≡ false) → Done w h x n hx gw g e xs a o → Fresh a o
  none_begun e xs a o na d k u i j = go (d.deed.course k)
    where
      go : Course w h n x e (Reported a o.effects) o k → NewWatch n o k u
      go (Stays b c nb nd) = absurd (none-some u (sym (b ∙ i) ∙ j))
      go (Leaves v b c l ux dn nb nd) = absurd (none-some v (sym i ∙ b))
      go (Downs v z b c t dn nb nd) = absurd (none-some v (sym i ∙ b))
      go (Begins p q ev nb nd kx nr dr l c) = let z : true ≡ false = sym nb ∙ na k in cc
      go (Revoked v b c dn nb nd) = absurd (none-some v (sym i ∙ b))

  other_fresh : (c : Command) → ((k : Reference) (r : Report) → is_answered k (Call x c) r ≡ false)
      → AllGo (call n c) (λ a o. Done w h x n hx gw g (Call x c) n.local a o → Fresh a o)
  other_fresh c na =
      any_go (λ a o. Done w h x n hx gw g (Call x c) n.local a o → Fresh a o) (call n c)
      (λ a o d. none_begun (Call x c) n.local a o (λ k. na k (Reported a o.effects)) d)

  fresh_anyhow : (c : Command) (k : Outcome) → AllGo k Fresh → AllGo k (λ a o. Done w h x n hx gw g (Call x c) n.local a o → Fresh a o)
  fresh_anyhow c (Refuses j) f = tt
  fresh_anyhow c (Accepts a o) f = λ d. f

  call_fresh : (c : Command) → AllGo (call n c) (λ a o. Done w h x n hx gw g (Call x c) n.local a o → Fresh a o)
  call_fresh (Command.Monitor p q) = fresh_anyhow (Command.Monitor p q) (call n (Command.Monitor p q)) (make_fresh p q)
  call_fresh (Command.MonitorName p y name) =
      fresh_anyhow (Command.MonitorName p y name) (call n (Command.MonitorName p y name)) (make_named_fresh p y name)
  call_fresh (Command.Demonitor p r) = other_fresh (Command.Demonitor p r) (λ k r. refl)
  call_fresh c = other_fresh c (λ k r. refl)

  -- ---- the world after

  module _ (l : Linked w) where
    -- nothing is taken off a list
    ends_linked : (e : Event) (k : Outcome) → AllGo k (Done w h x n hx gw g e n.local)
        → AllGo k (λ a o. Done w h x n hx gw g e n.local a o → Fresh a o) → Linked ((came_of w x w.lists k).world)
    ends_linked e (Refuses j) d f = l
    ends_linked e (Accepts a o) d f =
        linked_after w h x n hx gw g l e n.local a o d w.lists (λ t q. ⊥) (λ q t y i. inl i) (λ t k u b. absurd b) (λ t k y v u b. absurd b)
        (λ q. ⊥) (λ q i. inl i) (λ k u b. absurd b) (λ k u b. absurd b) (f d)

    plain_linked : (e : Event) (k : Outcome) → ((r : Reference) (z : Report) → is_answered r e z ≡ false)
        → AllGo k (Done w h x n hx gw g e n.local) → Linked ((came_of w x w.lists k).world)
    plain_linked e k na d = ends_linked e k d (any_go _ k (λ a o v. none_begun e n.local a o (λ r. na r (Reported a o.effects)) v))

    -- the first item of a trunk
    module _ (t : TrunkId) (k0 : ℕ) (i : Item) (rest : List Item) (first : list_to w.lists t x ≡ i ∷ rest) where
      came : IsFounded w h i
      came = All-head (IsFounded w h) i rest (subst (λ z. All (IsFounded w h) z) first (g.lists t x))

      pop : (f : Item → Bool) (u : TrunkId) (y : Name) → has f (list_to w.lists u y) ≡ true
          → (has f (list_to (fm.insert w.lists (t, x) rest) u y) ≡ true) ⊎ ((y ≡ x) × ((u ≡ t) × (f i ≡ true)))
      pop f u y j = by_test _ (same_trunk u t && same_name y x)
          (λ e. let v = and_parts (same_trunk u t) (same_name y x) e in
          let ut : u ≡ t = same_trunk_true u t v.0 in
          let yx : y ≡ x = same_name_true y x v.1 in
          hit e ut yx (f i) refl (sym (ap (has f) ((λ q. list_to w.lists (ut q) (yx q)) ∙ first)) ∙ j))
          (λ e. inl (ap (has f) (list_to_insert w.lists t x rest u y ∙ ap (λ b. cond b rest (list_to w.lists u y)) e) ∙ j))
        where
          hit : (same_trunk u t && same_name y x) ≡ true → u ≡ t → y ≡ x → (b : Bool) → f i ≡ b → (b || has f rest) ≡ true
              → (has f (list_to (fm.insert w.lists (t, x) rest) u y) ≡ true) ⊎ ((y ≡ x) × ((u ≡ t) × (f i ≡ true)))
          hit e ut yx true q z = inr (yx, (ut, q))
          hit e ut yx false q z = inl (ap (has f) (list_to_insert w.lists t x rest u y ∙ ap (λ b. cond b rest (list_to w.lists u y)) e) ∙ z)

      comes_linked : (k : Outcome) → AllGo k (Done w h x n hx gw g (Arrive t x k0) n.local) → AllGo k (Facts t k0 i came)
          → Linked ((came_of w x (fm.insert w.lists (t, x) rest) k).world)
      comes_linked (Refuses j) d f = l
      comes_linked (Accepts a o) d f =
          linked_after w h x n hx gw g l (Arrive t x k0) n.local a o d (fm.insert w.lists (t, x) rest) (λ u q. (u ≡ t) × (q i ≡ true)) pop
          (λ u k m b c z d hd pd s q. f.ends k m b.1 c z d (ap (side_at n) (sym b.0) ∙ hd) pd s (ap (side_at o.node) (sym b.0) ∙ q))
          (λ u k y v m b dy hv c ex. subst (λ z. TakenCall o z y k) (sym b.0) (f.calls k y v m b.1 dy hv c))
          (λ q. ⊥) (λ q j. inl j) (λ k u b. absurd b) (λ k u b. absurd b) (none_begun (Arrive t x k0) n.local a o (λ k. refl) d)

      fresh_linked : side_at n t ≡ None
          → Linked ((came_of w x (fm.insert w.lists (t, x) rest) (arrive_fresh (handshake_in i) t k0 (at_work n))).world)
      fresh_linked at =
          comes_linked (arrive_fresh (handshake_in i) t k0 (at_work n)) (fresh_comes w h x n hx gw g t k0 i rest first at)
          (fresh_facts t k0 i came (handshake_in i) refl)

      known_linked : (v : TrunkSide) → side_at n t ≡ Some v
          → Linked ((came_of w x (fm.insert w.lists (t, x) rest) (arrive_at (handshake_in i) t v i (at_work n))).world)
      known_linked v at =
          comes_linked (arrive_at (handshake_in i) t v i (at_work n))
          (known_comes w h x n hx gw g t k0 i rest first v at (handshake_in i))
          (known_facts t k0 i came v at (handshake_in i) refl)

    arrive_linked : (t : TrunkId) (k : ℕ) → Linked ((step_at w (Some n) (Arrive t x k)).world)
    arrive_linked t k =
        arrives w x n (λ s. Linked s.world) (λ r. l) t k (λ i is first at. fresh_linked t k i is first at)
        (λ i is v first at over. known_linked t k i is first v at)

    -- the first item of the own list
    local_linked : (is : List Item) → n.local ≡ is → Linked ((came_of w x w.lists (take_local n is)).world)
    local_linked [] j = l
    local_linked (i ∷ xs) j =
        linked_after w h x n hx gw g l (Local x) xs (Answer.Took (kind_of i))
        (take_item n.mint.name i (at_work (record n { local = xs }))) d w.lists (λ t q. ⊥) (λ q t y z. inl z) (λ t k u b. absurd b)
        (λ t k y v u b. absurd b)
        (λ q. q i ≡ true) pop_home
        (λ k u b own c z. end_taken n.mint.name xs i fi k u b (sym (same_name_true (target_node u.target) n.mint.name own)) c z) home_call
        (none_begun (Local x) xs (Answer.Took (kind_of i)) (take_item n.mint.name i (at_work (record n { local = xs }))) (λ k. refl) d)
      where
        d : Done w h x n hx gw g (Local x) xs (Answer.Took (kind_of i)) (take_item n.mint.name i (at_work (record n { local = xs })))
        d = local_done w h x n hx gw g (i ∷ xs) j i xs refl

        fi : IsFounded w h i
        fi = All-head (IsFounded w h) i xs (subst (λ z. All (IsFounded w h) z) j (g.locals x n hx))

        pop_home : (f : Item → Bool) → has f n.local ≡ true → (has f xs ≡ true) ⊎ (f i ≡ true)
        pop_home f c = go (f i) refl (sym (ap (has f) j) ∙ c)
          where
            go : (b : Bool) → f i ≡ b → (b || has f xs) ≡ true → (has f xs ≡ true) ⊎ (f i ≡ true)
            go true e z = inr e
            go false e z = inl z

        home_call : (k : Reference) (u : Watch) → is_call k i ≡ true → fm.get n.watches k ≡ Some u
            → ((b : Registration) × (fm.get ((take_item n.mint.name i (at_work (record n { local = xs }))).node.registered) k ≡ Some b))
            ⊎ (has (is_end k) ((take_item n.mint.name i (at_work (record n { local = xs }))).node.local) ≡ true)
        home_call k u e c = go (call_taken n.mint.name xs i fi x n k u hx c e)
          where
            go : ((b : Registration) × (fm.get ((take_item n.mint.name i (at_work (record n { local = xs }))).node.registered) k ≡ Some b))
                ⊎ Lands (is_end k) n u.owner.node (take_item n.mint.name i (at_work (record n { local = xs })))
                → ((b : Registration) × (fm.get ((take_item n.mint.name i (at_work (record n { local = xs }))).node.registered) k ≡ Some b))
                ⊎ (has (is_end k) ((take_item n.mint.name i (at_work (record n { local = xs }))).node.local) ≡ true)
            go (inl b) = inl b
            go (inr z) =
                inr (z.0 (same_name_is u.owner.node n.mint.name (owner_at w h gw g x n k u hx c ∙ sym (node_of_name w.nodes x n hx))))

up_linked : (w : World) (x : Name) (n : Node) (o : Outcome) → Linked w → Linked ((came_of w x w.lists o).world)
    → Linked ((came_of w x w.lists (if_up n o)).world)
up_linked w x n o l k = while_up w x n (λ s. Linked s.world) (λ r. l) w.lists o k

pub linked_step : (w : World) (h : History) (gw : Good w) (g : Sound w h) (l : Linked w) (o : Option Node) (e : Event)
    → node_of w.nodes (node_name e) ≡ o → Linked ((step_at w o e).world)
linked_step w h gw g l None e i = l
linked_step w h gw g l (Some n) (Call x c) i =
    up_linked w x n _ l (ends_linked w h x n i gw g l (Call x c) (call n c) (call_done w h x n i gw g c) (call_fresh w h x n i gw g c))
linked_step w h gw g l (Some n) (Arrive t x k) i = arrive_linked w h x n i gw g l t k
linked_step w h gw g l (Some n) (Local x) i = up_linked w x n _ l (local_linked w h x n i gw g l n.local refl)
linked_step w h gw g l (Some n) (Lose t x) i =
    up_linked w x n _ l (plain_linked w h x n i gw g l (Lose t x) (lose n t (fm.get n.sides t)) (λ r z. refl)
    (lose_done w h x n i gw g t (fm.get n.sides t) refl))
linked_step w h gw g l (Some n) (Sweep x) i =
    up_linked w x n _ l (plain_linked w h x n i gw g l (Sweep x) (sweep n) (λ r z. refl)
    (sweep_done w h x n i gw g (any_side is_losing (fm.entries n.sides)) refl))
linked_step w h gw g l (Some n) (Dial x y k) i =
    up_linked w x n _ l
    (plain_linked w h x n i gw g l (Dial x y k) (dial w.names n y k) (λ r z. refl) (dial_done w h x n i gw g w.names y k))
linked_step w h gw g l (Some n) (Stop x) i =
    up_linked w x n _ l (plain_linked w h x n i gw g l (Stop x) (stop n) (λ r z. refl) (stop_done w h x n i gw g))
linked_step w h gw g l (Some n) (Start x) i = plain_linked w h x n i gw g l (Start x) (start n) (λ r z. refl) (start_done w h x n i gw g)
