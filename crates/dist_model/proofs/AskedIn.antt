-- The introduction by which a monitor's target was known when it was called for.
use Rattle.std.proofs.Common.{Bool, true, false, ◌≡◌, ℕ, true, false, cond, List, [], ◌∷◌, refl, sym, ap, ◌∙◌, subst}
use Rattle.std.proofs.Common.{Option, Some, None, ◌⊎◌, inl, inr, Contains, nat_lt, ◌+◌, ◌^◌}
use Rattle.std.proofs.lemmas.List.Elements.{Contains-append_cases}
use Rattle.std.specs.FinMap as fm
use Rattle.dist_model.proofs.Asks.{IfAnswers, AskedHere, asks, call_asks, monitoring, node_unasked, own_left, UnaskedIn, was_there}
use Rattle.dist_model.proofs.Entries.{same_reference_refl}
use Rattle.dist_model.proofs.Home.{never_own}
use Rattle.dist_model.proofs.KeepBearings.{bearings_kept, if_accepted}
use Rattle.dist_model.proofs.Keys.{same_name_true}
use Rattle.dist_model.proofs.Known.{Right, contains_first, known_step, left_before, next_none, sent_at}
use Rattle.dist_model.proofs.KnownPeers.{Fine, known_opening, right_is, up_goes}
use Rattle.dist_model.proofs.Routes.{at_place, list_to_carried, node_of_name, node_of_set_other, node_of_set_same}
use Rattle.dist_model.proofs.Envelopes.{sent_in}
use Rattle.dist_model.proofs.Peopled.{AllPeopled, after, peopled_opening}
use Rattle.dist_model.proofs.Run.{good_step_at, refused_unchanged}
use Rattle.dist_model.proofs.Safety.{good_opening, new_is}
use Rattle.dist_model.proofs.Seen.{list_in, local_at, side_in, living_at}
use Rattle.dist_model.proofs.Sides.{route_from, side_at}
use Rattle.dist_model.proofs.Truths.{none_within}
use Rattle.dist_model.proofs.Calls.{IfGoes, by_name, if_cond, if_not}
use Rattle.dist_model.proofs.LearntAt.{Learnt, node_learns}
use Rattle.dist_model.specs.Introductions.{introduced, goes_on}
use Rattle.dist_model.specs.Dialing.{next_trunk}
use Rattle.dist_model.specs.Keeping.{Bearings}
use Rattle.dist_model.specs.Seen.{seen, is_living}
use Rattle.std.proofs.lemmas.Option.{none-some, same_Some}
use Rattle.conn_core.specs.declared.arrival.Fault.{Fault}
use Rattle.dist_model.specs.Arrivals.{arrive, arrive_at, is_good, signal_at}
use Rattle.dist_model.specs.declared.report.Kind.{Kind}
use Rattle.dist_model.specs.Handshake.{fault}
use Rattle.dist_model.specs.Sides.{State, TrunkSide, Up, is_over}
use Rattle.dist_model.specs.Taking.{take_item}
use Rattle.dist_model.specs.Commands.{Accepts, Outcome, Refuses}
use Rattle.dist_model.specs.declared.command.Command.{Command}
use Rattle.dist_model.specs.declared.report.Answer.{Answer}
use Rattle.dist_model.specs.declared.report.Effect.{Effect}
use Rattle.dist_model.specs.Downs.{IsCallOf, is_answered}
use Rattle.dist_model.specs.Items.{Item, Signalled, kind_of}
use Rattle.dist_model.specs.Names.{Name, place_cmp}
use Rattle.dist_model.specs.Node.{Node, living, route}
use Rattle.dist_model.specs.NodeEvents as event
use Rattle.dist_model.specs.NodeEvents.{NodeEvent, at_node}
use Rattle.dist_model.specs.Runs.{Goes, Runs, opening}
use Rattle.dist_model.specs.Telling.{monitor_signal}
use Rattle.monitor_core.specs.Monitors.{target_node}
use Rattle.monitor_core.specs.declared.monitor.Target.{Target}
use Rattle.dist_model.specs.Traces.{CalledIn, IsNameAt, MonitorsAreTakenAsCalled, MonitorsKnowTheirNode, MonitorsKnowTheirOwnNode, Taken, TakenAsCalled, Moment, ThroughoutTraced, Trace, WasCalledIn, introduction_known}
use Rattle.dist_model.specs.Traces.{said_on, side_said, moment_of, traced}
use Rattle.dist_model.specs.Work.{Work, at_work}
use Rattle.dist_model.specs.World.{Arrive, Call, Event, Local, Refused, Report, Reported}
use Rattle.dist_model.specs.World.{World, came_of, first_of, left, list_to, met, node_name, node_of, set_node, step, step_at}
use Rattle.erl_control.specs.declared.signal.Signal.{Signal}
use Rattle.erl_names.specs.declared.trunk.TrunkId.{TrunkId}
use Rattle.erl_term.specs.declared.refusal.Refusal.{Refusal}
use Rattle.erl_term.specs.declared.term.Pid.{Pid}
use Rattle.erl_term.specs.declared.term.Reference.{Reference}
use Rattle.erl_handshake.specs.declared.introduction.Introduction.{Introduction}
use Rattle.erl_handshake.specs.declared.setup.Setup.{Setup}
use Rattle.dist_model.specs.Handshake.{introduces}

-- a MONITOR_P of p for g on its way on t to y
pub record AskedOn (trace : Trace) (w : World) (t : TrunkId) (y : Name) (p : Pid) (g : Target) (r : Reference) : Type 0 where
  pub said : Introduction
  pub right : Right w.nodes y t said
  pub to : y ≡ target_node g
  pub called : WasCalledIn r p g said trace

abbrev pub AllAskedOn : Trace → World → Type 0
AllAskedOn trace w = (t : TrunkId) (y : Name) (p : Pid) (g : Target) (r : Reference) (pay : Bool) → IsNameAt y g
    → Contains (list_to w.lists t y) (Signalled (monitor_signal p g r) pay)
    → AskedOn trace w t y p g r

-- the call of a monitor
call_of : (p : Pid) (g : Target) (x : Name) → p.node ≡ x → IsCallOf p g (Call x (monitoring p g))
call_of p (Target.Pid q) x e = ap (λ z. Call z (Command.Monitor p q)) (sym e)
call_of p (Target.Name name node) x e = ap (λ z. Call z (Command.MonitorName p node name)) (sym e)

pub answered_by : (r : Reference) (x : Name) (p : Pid) (g : Target) (fx : List (Effect Item))
    → is_answered r (Call x (monitoring p g)) (Reported (Answer.Reference r) fx) ≡ true
answered_by r x p (Target.Pid q) fx = same_reference_refl r
answered_by r x p (Target.Name name node) fx = same_reference_refl r

-- or any other event
pub data IsMonitoring (e : Event) : Type 0 where
  Monitors : (x : Name) (p : Pid) (g : Target) → e ≡ Call x (monitoring p g) → IsMonitoring e
  Otherwise : ((w : World) (p : Pid) (g : Target) → met w e ≡ event.Call (monitoring p g) → ⊥) → IsMonitoring e

pub is_monitoring : (e : Event) → IsMonitoring e
is_monitoring (Call x (Command.Monitor p q)) = Monitors x p (Target.Pid q) refl
is_monitoring (Call x (Command.MonitorName p node name)) = Monitors x p (Target.Name name node) refl
is_monitoring (Call x Command.Spawn) = Otherwise (λ w p g i. no_call p g i)
  where
    no_call : (p : Pid) (g : Target) → event.Call Command.Spawn ≡ event.Call (monitoring p g) → ⊥
    no_call p (Target.Pid q) i = cc
    no_call p (Target.Name name node) i = cc
is_monitoring e = Otherwise (λ w p g i. no_call w p g i)
  where
    no_call : (w : World) (p : Pid) (g : Target) → met w e ≡ event.Call (monitoring p g) → ⊥
    no_call w p (Target.Pid q) i = cc
    no_call w p (Target.Name name node) i = cc

-- nothing has come on its way
later : (trace : Trace) (m : Moment) (w : World) → AllAskedOn trace w → AllAskedOn (m ∷ trace) w
later trace m w k t y p g r pay at c = let a = k t y p g r pay at c in record { said = a.said; right = a.right; to = a.to; called = inr a.called }

-- one that is sent
module _ (w : World) (g : Fine w) (n : Node) where
  module _ (x : Name) (p0 : Pid) (g0 : Target) (hx : node_of w.nodes x ≡ Some n) (a : Answer) (o : Work)
      (j : at_node w.names n (event.Call (monitoring p0 g0)) ≡ Accepts a o) (trace : Trace) where
    abbrev moment : Moment
    moment = moment_of w (Call x (monitoring p0 g0)) (Reported a o.effects)

    here : living n p0 ≡ true → p0.node ≡ x
    here l = same_name_true p0.node n.mint.name (never_own n p0 ((g.0.core.nodes x n hx).born p0 l)) ∙ node_of_name w.nodes x n hx

    sent_by : (t : TrunkId) (y : Name) (p : Pid) (h : Target) (r : Reference) (pay : Bool) → IsNameAt y h
        → Contains o.effects (Effect.Sent (Some t) y (Signalled (monitor_signal p h r) pay)) → AskedOn (moment ∷ trace) w t y p h r
    sent_by t y p h r pay at c =
        let k = (call_asks n p0 g0 w.names a o j).0 t y p h r pay at c in
        let v = route_from n (target_node g0) t k.route in
        let nx : p0.node ≡ x = here k.here in
        let b : AskedOn (moment ∷ trace) w t (target_node g0) p0 g0 r = record {
          said = v.found.introduction;
          right = subst (λ z. Right w.nodes z t v.found.introduction) v.peer
              (g.1.known x n t v.found hx v.there (up_goes v.found.state v.up).1);
          to = refl;
          called = inl (record {
            call = call_of p0 g0 x nx;
            answered = ap (λ z. is_answered r (Call x (monitoring p0 g0)) (Reported z o.effects)) k.answer ∙ answered_by r x p0 g0 o.effects;
            known = ap (λ z. introduction_known z (target_node g0)) (ap (node_of w.nodes) nx ∙ hx)
                ∙ ap (λ b. cond b (Some (introduces n)) (said_on n (route n (target_node g0)))) k.away
                ∙ ap (said_on n) k.route
                ∙ ap side_said v.there;
          });
        } in
        subst (λ z. AskedOn (moment ∷ trace) w t z p h r) (sym k.to) (subst (λ z. AskedOn (moment ∷ trace) w t (target_node g0) p z r) k.target
        (subst (λ z. AskedOn (moment ∷ trace) w t (target_node g0) z g0 r) k.owner b))

    listed_by : (p : Pid) (h : Target) (r : Reference) (pay : Bool) → IsNameAt x h
        → (Contains n.local (Signalled (monitor_signal p h r) pay) → (x ≡ target_node h) × WasCalledIn r p h (introduces n) trace)
        → Contains o.node.local (Signalled (monitor_signal p h r) pay)
        → (x ≡ target_node h) × WasCalledIn r p h (introduces n) (moment ∷ trace)
    listed_by p h r pay at old c = pick ((call_asks n p0 g0 w.names a o j).1 p h r pay
        (subst (λ z. IsNameAt z h) (sym (node_of_name w.nodes x n hx)) at) c)
      where
        pick : Contains n.local (Signalled (monitor_signal p h r) pay) ⊎ AskedHere n p0 g0 a p h r
            → (x ≡ target_node h) × WasCalledIn r p h (introduces n) (moment ∷ trace)
        pick (inl d) = let v = old d in (v.0, inr v.1)
        pick (inr k) =
            let nx : p0.node ≡ x = here k.here in
            let qx : target_node g0 ≡ x = same_name_true (target_node g0) n.mint.name k.own ∙ node_of_name w.nodes x n hx in
            let b : CalledIn r p0 g0 (introduces n) moment = record {
              call = call_of p0 g0 x nx;
              answered = ap (λ z. is_answered r (Call x (monitoring p0 g0)) (Reported z o.effects)) k.answer ∙ answered_by r x p0 g0 o.effects;
              known = ap (λ z. introduction_known z (target_node g0)) (ap (node_of w.nodes) nx ∙ hx)
                  ∙ ap (λ b. cond b (Some (introduces n)) (said_on n (route n (target_node g0)))) k.own;
            } in (
              sym qx ∙ ap target_node k.target,
              inl (subst (λ z. CalledIn r p z (introduces n) moment) k.target
                  (subst (λ z. CalledIn r z g0 (introduces n) moment) k.owner b)),
            )

  asks_it : (p : Pid) (h : Target) (r : Reference) (pay : Bool) → asks (Signalled (monitor_signal p h r) pay) ≡ true
  asks_it p (Target.Pid q) r pay = refl
  asks_it p (Target.Name name node) r pay = refl

  sent : (e : Event) → node_of w.nodes (node_name e) ≡ Some n → (a : Answer) (o : Work) → at_node w.names n (met w e) ≡ Accepts a o
      → (trace : Trace) (t : TrunkId) (y : Name) (p : Pid) (h : Target) (r : Reference) (pay : Bool) → IsNameAt y h
      → Contains o.effects (Effect.Sent (Some t) y (Signalled (monitor_signal p h r) pay))
      → AskedOn (moment_of w e (Reported a o.effects) ∷ trace) w t y p h r
  sent e hx a o j trace t y p h r pay at c = go (is_monitoring e)
    where
      by : (x : Name) (p0 : Pid) (g0 : Target) (e : Event) → e ≡ Call x (monitoring p0 g0) → node_of w.nodes (node_name e) ≡ Some n
          → at_node w.names n (met w e) ≡ Accepts a o → AskedOn (moment_of w e (Reported a o.effects) ∷ trace) w t y p h r
      by x p0 g0 e i = subst (λ z. node_of w.nodes (node_name z) ≡ Some n → at_node w.names n (met w z) ≡ Accepts a o
          → AskedOn (moment_of w z (Reported a o.effects) ∷ trace) w t y p h r) (sym i)
          (λ hx j. sent_by x p0 g0 hx a o j trace t y p h r pay at c)

      go : IsMonitoring e → AskedOn (moment_of w e (Reported a o.effects) ∷ trace) w t y p h r
      go (Monitors x p0 g0 i) = by x p0 g0 e i hx j
      go (Otherwise f) =
          let z : asks (Signalled (monitor_signal p h r) pay) ≡ false = (if_accepted (UnaskedIn (own_left n (met w e))) (at_node w.names n (met w e)) a o j
          (node_unasked w.names n (met w e) (λ p g i. f w p g i))).0 (Some t) y (Signalled (monitor_signal p h r) pay) c in
          let u : true ≡ false = sym (asks_it p h r pay) ∙ z in cc

  abbrev IsListed : Answer → Work → Trace → Pid → Target → Reference → Event → Type 0
  IsListed a o trace p h r e =
      (node_name e ≡ target_node h) × WasCalledIn r p h (introduces n) (moment_of w e (Reported a o.effects) ∷ trace)

  -- one that the node keeps for itself
  listed : (e : Event) → node_of w.nodes (node_name e) ≡ Some n → (a : Answer) (o : Work) → at_node w.names n (met w e) ≡ Accepts a o
      → (trace : Trace) (p : Pid) (h : Target) (r : Reference) (pay : Bool) → IsNameAt (node_name e) h
      → (Contains n.local (Signalled (monitor_signal p h r) pay) → (node_name e ≡ target_node h) × WasCalledIn r p h (introduces n) trace)
      → Contains o.node.local (Signalled (monitor_signal p h r) pay)
      → (node_name e ≡ target_node h) × WasCalledIn r p h (introduces n) (moment_of w e (Reported a o.effects) ∷ trace)
  listed e hx a o j trace p h r pay at old c = go (is_monitoring e)
    where
      by : (x : Name) (p0 : Pid) (g0 : Target) (e : Event) → e ≡ Call x (monitoring p0 g0) → node_of w.nodes (node_name e) ≡ Some n
          → at_node w.names n (met w e) ≡ Accepts a o → IsNameAt (node_name e) h
          → (Contains n.local (Signalled (monitor_signal p h r) pay) → (node_name e ≡ target_node h) × WasCalledIn r p h (introduces n) trace)
          → IsListed a o trace p h r e
      by x p0 g0 e i = subst (λ z. node_of w.nodes (node_name z) ≡ Some n → at_node w.names n (met w z) ≡ Accepts a o → IsNameAt (node_name z) h
          → (Contains n.local (Signalled (monitor_signal p h r) pay) → (node_name z ≡ target_node h) × WasCalledIn r p h (introduces n) trace)
          → IsListed a o trace p h r z) (sym i)
          (λ hx j at old. listed_by x p0 g0 hx a o j trace p h r pay at old c)

      go : IsMonitoring e → IsListed a o trace p h r e
      go (Monitors x p0 g0 i) = by x p0 g0 e i hx j at old
      go (Otherwise f) =
          let v = old (was_there n (met w e) o (Signalled (monitor_signal p h r) pay)
          (if_accepted (UnaskedIn (own_left n (met w e))) (at_node w.names n (met w e)) a o j
          (node_unasked w.names n (met w e) (λ p g i. f w p g i))) (asks_it p h r pay) c) in
          (v.0, inr v.1)

-- a node keeps its creation, or its list is empty
abbrev KeepsOwn : Node → Work → Type 0
KeepsOwn n o = (introduces o.node ≡ introduces n) ⊎ (o.node.local ≡ [])

keeps_own : (names : List Name) (n : Node) (e : NodeEvent) → side_at n (next_trunk n) ≡ None → IfGoes (at_node names n e) (KeepsOwn n)
keeps_own names n event.Stop h = if_cond n.up _ Refusal.NodeDown _ (λ u. inl refl)
keeps_own names n event.Start h = if_not n.up _ Refusal.NodeUp _ (if_cond (nat_lt (n.mint.creation + 1) (2 ^ 32)) _ Refusal.IdsUsedUp _
    (λ u. inr refl))
keeps_own names n e h = as_learnt (at_node names n e) (node_learns names n e h refl)
  where
    as_learnt : (r : Outcome) → IfGoes r (Learnt n e) → IfGoes r (KeepsOwn n)
    as_learnt (Refuses k) v = tt
    as_learnt (Accepts a o) v = inl v.own

-- an event keeps it
asked_step : (w : World) → Fine w → (trace : Trace) → AllAskedOn trace w → (o : Option Node) (e : Event) → node_of w.nodes (node_name e) ≡ o
    → AllAskedOn (moment_of w e ((step_at w o e).report) ∷ trace) ((step_at w o e).world)
asked_step w g trace k None e hn = later trace _ w k
asked_step w g trace k (Some n) e hn = go (at_node w.names n (met w e)) refl ((known_step w (Some n) e hn g.0).1)
  where
    go : (r : Outcome) → at_node w.names n (met w e) ≡ r
        → ((z : Name) (t : TrunkId) (c : Introduction) → Right w.nodes z t c → Right ((came_of w (node_name e) (left w e) r).world.nodes) z t c)
        → AllAskedOn (moment_of w e ((came_of w (node_name e) (left w e) r).report) ∷ trace) ((came_of w (node_name e) (left w e) r).world)
    go (Refuses why) j f t y p h r pay at c = later trace _ w k t y p h r pay at c
    go (Accepts a o) j f t y p h r pay at c = pick (Contains-append_cases (list_to (left w e) t y) (at_place t y (sent_in o.effects)) i
        (subst (λ l. Contains l i) (list_to_carried (left w e) o.effects t y) c))
      where
        i : Item
        i = Signalled (monitor_signal p h r) pay

        pick : Contains (list_to (left w e) t y) (Signalled (monitor_signal p h r) pay)
            ⊎ Contains (at_place t y (sent_in o.effects)) (Signalled (monitor_signal p h r) pay)
            → AskedOn (moment_of w e (Reported a o.effects) ∷ trace)
            ((came_of w (node_name e) (left w e) (Accepts a o)).world) t y p h r
        pick (inl d) =
            let b = k t y p h r pay at (left_before w e t y (Signalled (monitor_signal p h r) pay) d) in
            record { said = b.said; right = f y t b.said b.right; to = b.to; called = inr b.called }
        pick (inr d) =
            let b = sent w g n e hn a o j trace t y p h r pay at (sent_at t y o.effects (Signalled (monitor_signal p h r) pay) d) in
            record { said = b.said; right = f y t b.said b.right; to = b.to; called = b.called }

abbrev pub AllListed : Trace → World → Type 0
AllListed trace w = (x : Name) (n : Node) (p : Pid) (g : Target) (r : Reference) (pay : Bool) → node_of w.nodes x ≡ Some n → IsNameAt x g
    → Contains n.local (Signalled (monitor_signal p g r) pay) → (x ≡ target_node g) × WasCalledIn r p g (introduces n) trace

still_listed : (trace : Trace) (m : Moment) (w : World) → AllListed trace w → AllListed (m ∷ trace) w
still_listed trace m w k x n p g r pay h at c = let v = k x n p g r pay h at c in (v.0, inr v.1)

listed_step : (w : World) → Fine w → (trace : Trace) → AllListed trace w → (o : Option Node) (e : Event) → node_of w.nodes (node_name e) ≡ o
    → AllListed (moment_of w e ((step_at w o e).report) ∷ trace) ((step_at w o e).world)
listed_step w g trace k None e hn = still_listed trace _ w k
listed_step w g trace k (Some n) e hn = go (at_node w.names n (met w e)) refl
  where
    go : (r : Outcome) → at_node w.names n (met w e) ≡ r
        → AllListed (moment_of w e ((came_of w (node_name e) (left w e) r).report) ∷ trace) ((came_of w (node_name e) (left w e) r).world)
    go (Refuses why) j y b p h r pay hy at c = still_listed trace _ w k y b p h r pay hy at c
    go (Accepts a o) j y b p h r pay hy at c = by_name _ (node_name e) y
        (λ i.
        let nm : o.node.mint.name ≡ node_name e = (if_accepted (Bearings n (met w e)) (at_node w.names n (met w e)) a o j
        (bearings_kept w.names n (met w e))).name ∙ node_of_name w.nodes (node_name e) n hn in
        let same : o.node ≡ b = same_Some o.node b (sym (node_of_set_same w.nodes (node_name e) n o.node hn nm)
        ∙ ap (node_of (set_node w.nodes (node_name e) o.node)) i ∙ hy) in
        let v = mine same (subst (λ z. IsNameAt z h) (sym i) at)
        (subst (λ (z : Node). Contains z.local (Signalled (monitor_signal p h r) pay)) (sym same) c) in
        (sym i ∙ v.0, v.1))
        (λ i.
        let nm : o.node.mint.name ≡ node_name e = (if_accepted (Bearings n (met w e)) (at_node w.names n (met w e)) a o j
        (bearings_kept w.names n (met w e))).name ∙ node_of_name w.nodes (node_name e) n hn in
        let v = k y b p h r pay (sym (node_of_set_other w.nodes (node_name e) y o.node nm i) ∙ hy) at c in (v.0, inr v.1))
      where
        mine : o.node ≡ b → IsNameAt (node_name e) h → Contains o.node.local (Signalled (monitor_signal p h r) pay)
            → (node_name e ≡ target_node h) × WasCalledIn r p h (introduces b) (moment_of w e (Reported a o.effects) ∷ trace)
        mine same here d = pick (if_accepted (KeepsOwn n) (at_node w.names n (met w e)) a o j
            (keeps_own w.names n (met w e) (next_none w (node_name e) n hn g.0)))
          where
            pick : KeepsOwn n o
                → (node_name e ≡ target_node h) × WasCalledIn r p h (introduces b) (moment_of w e (Reported a o.effects) ∷ trace)
            pick (inr f) = absurd (none_within (Signalled (monitor_signal p h r) pay)
                (subst (λ z. Contains z (Signalled (monitor_signal p h r) pay)) f d))
            pick (inl f) =
                let v = listed w g n e hn a o j trace p h r pay here (λ d. k (node_name e) n p h r pay hn here d) d in (
                  v.0,
                  subst (λ z. WasCalledIn r p h z (moment_of w e (Reported a o.effects) ∷ trace))
                      (sym f ∙ ap (λ (z : Node). introduces z) same) v.1,
                )

-- and so each run
fine_step : (w : World) (e : Event) → Fine w → Fine ((step w e).world)
fine_step w e g = (
  good_step_at w (node_of w.nodes (node_name e)) e refl g.0,
  (known_step w (node_of w.nodes (node_name e)) e refl g.0).0 g.1,
)

-- ---- deliveries

answers_if : (b : Bool) (k : Outcome) (j : Refusal) (P : Answer → Work → Type 0) → (b ≡ true → IfAnswers k P) → IfAnswers (cond b k (Refuses j)) P
answers_if true k j P h = h refl
answers_if false k j P h = tt

-- a side that takes a signal is up
abbrev IsUpAt : Node → TrunkId → Type 0
IsUpAt n t = (s : TrunkSide) × (side_at n t ≡ Some s) × (s.state ≡ Up)

abbrev TookUp : Node → TrunkId → Answer → Work → Type 0
TookUp n t a o = a ≡ Answer.Took Kind.Monitor → IsUpAt n t

took_up : (names : List Name) (n : Node) (t : TrunkId) (s : Signal) (pay : Bool) (k : ℕ)
    → IfAnswers (at_node names n (event.Arrive t (Some (Signalled s pay)) k)) (TookUp n t)
took_up names n t s pay k = answers_if n.up _ Refusal.NodeDown (TookUp n t) (λ u. go (side_at n t) refl)
  where
    at : (v : TrunkSide) → side_at n t ≡ Some v → (x : State) → v.state ≡ x
        → IfAnswers (signal_at x t v (Signalled s pay) (at_work n)) (TookUp n t)
    at v h Up e = good (is_good n v (Signalled s pay))
      where
        good : (b : Bool) → IfAnswers (cond b (Accepts (Answer.Took (kind_of (Signalled s pay))) (take_item v.peer (Signalled s pay) (at_work n)))
            (fault Fault.Forged t v (at_work n))) (TookUp n t)
        good true = λ z. (v, h, e)
        good false = λ z. (v, h, e)
    at v h _ e = λ z. cc

    comes : (v : TrunkSide) → side_at n t ≡ Some v → (b : Bool)
        → IfAnswers (cond b (Refuses Refusal.NotLive) (arrive_at None t v (Signalled s pay) (at_work n))) (TookUp n t)
    comes v h true = tt
    comes v h false = at v h v.state refl

    go : (v : Option TrunkSide) → side_at n t ≡ v → IfAnswers (arrive n t v (Some (Signalled s pay)) k) (TookUp n t)
    go None h = λ z. cc
    go (Some v) h = comes v h (is_over v.state)

abbrev pub Held : Trace → World → Event → Pid → Target → Reference → Type 0
Held trace w e p g r =
    (c : Introduction) × (introduced w (target_node g) ≡ Some c) × (node_name e ≡ target_node g) × WasCalledIn r p g c trace

taken_step : (w : World) → Fine w → (trace : Trace) → AllAskedOn trace w → AllListed trace w → (e : Event) (a : Answer)
    (fx : List (Effect Item)) → Reported a fx ≡ (step w e).report → (p : Pid) (g : Target) (r : Reference)
    → Taken r p g (moment_of w e (Reported a fx)) → Held trace w e p g r
taken_step w g trace k l (Arrive t y j) a fx h p q r v = at (node_of w.nodes y) refl h
  where
    i : Item
    i = Signalled (monitor_signal p q r) v.payload

    asked : AskedOn trace w t y p q r
    asked = k t y p q r v.payload v.at (contains_first (list_to w.lists t y) (Signalled (monitor_signal p q r) v.payload) v.first)

    up : (n : Node) → node_of w.nodes y ≡ Some n → IsUpAt n t → Held trace w (Arrive t y j) p q r
    up n hx u = (
      asked.said,
      ap (introduced w) (sym asked.to) ∙ right_is w y u.0.peer t asked.said (record {
        side = u.0;
        there = ap (λ z. side_in z t) hx ∙ u.1;
        peer = refl;
        state = ap goes_on u.2;
      }) asked.right,
      asked.to,
      asked.called,
    )

    at : (o : Option Node) → node_of w.nodes y ≡ o → Reported a fx ≡ (step_at w o (Arrive t y j)).report → Held trace w (Arrive t y j) p q r
    at None hx z = cc
    at (Some n) hx z = up n hx (out (at_node w.names n (met w (Arrive t y j))) (subst (λ f. IfAnswers (at_node w.names n (event.Arrive t f j)) (TookUp n t))
        (sym v.first) (took_up w.names n t (monitor_signal p q r) v.payload j)) z)
      where
        out : (o : Outcome) → IfAnswers o (TookUp n t) → Reported a fx ≡ (came_of w y (left w (Arrive t y j)) o).report → IsUpAt n t
        out (Refuses why) f z = cc
        out (Accepts b o) f z =
            let ab : a ≡ b = cc in
            f (sym ab ∙ same_Some a (Answer.Took Kind.Monitor) v.took)
taken_step w g trace k l (Local y) a fx h p q r v = at (node_of w.nodes y) refl v.first
  where
    at : (o : Option Node) → node_of w.nodes y ≡ o → first_of (local_at o) ≡ Some (Signalled (monitor_signal p q r) v.payload)
        → Held trace w (Local y) p q r
    at None hx z = absurd (none-some (Signalled (monitor_signal p q r) v.payload) z)
    at (Some n) hx z =
        let b = l y n p q r v.payload hx v.at (contains_first n.local (Signalled (monitor_signal p q r) v.payload) z) in
        (introduces n, ap (introduced w) (sym b.0) ∙ ap (λ o. seen o None (λ node. Some (introduces node))) hx, b.0, b.1)
taken_step w g trace k l e a fx h p q r v = absurd (none-some (Signalled (monitor_signal p q r) v.payload) v.first)

-- of each that was taken
abbrev pub AllHeld : Trace → Type 0
AllHeld [] = Unit {0}
AllHeld (last ∷ before) =
    ((p : Pid) (g : Target) (r : Reference) → Taken r p g last → Held before last.before last.happening.event p g r) × AllHeld before

abbrev pub Both : Trace → World → Type 0
Both trace w = AllAskedOn trace w × AllListed trace w × AllHeld trace

pub asked_runs : (es : List Event) (rs : List Report) (w v : World) (trace : Trace) → Fine w → Both trace w → Runs w es rs v
    → Both (traced w es rs trace) v
asked_runs [] [] w v trace g k h = subst (Both trace) (sym h) k
asked_runs (e ∷ es) (Refused why ∷ rs) w v trace g k h =
    asked_runs es rs w v (moment_of w e (Refused why) ∷ trace) g (
      later trace (moment_of w e (Refused why)) w k.0,
      still_listed trace (moment_of w e (Refused why)) w k.1,
      ((λ p q r v. absurd (none-some (Answer.Took Kind.Monitor) v.took)), k.2),
    )
    (subst (λ z. Runs z es rs v) (refused_unchanged w h.0 e why h.1) h.2)
asked_runs (e ∷ es) (Reported a fx ∷ rs) w v trace g k h = asked_runs es rs ((step w e).world) v (moment_of w e (Reported a fx) ∷ trace)
    (fine_step w e g) (now h.1) (subst (λ z. Runs z es rs v) (next h.1) h.2)
  where
    now : Goes w e (Reported a fx) h.0 → Both (moment_of w e (Reported a fx) ∷ trace) ((step w e).world)
    now (inl d) = (
      subst (λ z. AllAskedOn (moment_of w e z ∷ trace) ((step w e).world)) (sym d.0)
          (asked_step w g trace k.0 (node_of w.nodes (node_name e)) e refl),
      subst (λ z. AllListed (moment_of w e z ∷ trace) ((step w e).world)) (sym d.0)
          (listed_step w g trace k.1 (node_of w.nodes (node_name e)) e refl),
      (taken_step w g trace k.0 k.1 e a fx d.0, k.2),
    )
    now (inr d) = let z = d.0 in cc

    next : Goes w e (Reported a fx) h.0 → h.0 ≡ (step w e).world
    next (inl d) = d.1
    next (inr d) = let z = d.0 in cc
asked_runs _ _ w v trace g k h = absurd h

pub opening_asks : (cs : List (Name × Setup)) → Both [] (opening cs)
opening_asks cs = (
  λ t y p g r pay at c. absurd (none_within (Signalled (monitor_signal p g r) pay)
      (subst (λ l. Contains l (Signalled (monitor_signal p g r) pay)) (ap list_in (fm.get-empty place_cmp (t, y))) c)),
  λ x n p g r pay h at c. let k = new_is cs cs x n h in absurd (none_within (Signalled (monitor_signal p g r) pay)
      (subst (λ l. Contains l (Signalled (monitor_signal p g r) pay)) (ap (λ (z : Node). z.local) k.2) c)),
  tt,
)

pub monitors_know : ThroughoutTraced MonitorsKnowTheirNode
monitors_know cs es rs w h t y p g r pay at c side =
    let b = asked_runs es rs (opening cs) w [] (good_opening cs, known_opening cs) (opening_asks cs) h in
    let a = b.0 t y p g r pay at c in
    (a.said, right_is w y p.node t a.said side a.right, a.to, a.called)

pub own_monitors_know : ThroughoutTraced MonitorsKnowTheirOwnNode
own_monitors_know cs es rs w h x p g r pay at c = go (node_of w.nodes x) refl c
  where
    go : (o : Option Node) → node_of w.nodes x ≡ o → Contains (local_at o) (Signalled (monitor_signal p g r) pay)
        → (c : Introduction) × (introduced w x ≡ Some c) × (x ≡ target_node g) × WasCalledIn r p g c (traced (opening cs) es rs [])
    go None j d = absurd (none_within (Signalled (monitor_signal p g r) pay) d)
    go (Some n) j d =
        let b = asked_runs es rs (opening cs) w [] (good_opening cs, known_opening cs) (opening_asks cs) h in
        let v = b.1 x n p g r pay j at d in
        (introduces n, ap (λ o. seen o None (λ node. Some (introduces node))) j, v.0, v.1)

-- the living processes of a node were of its incarnation
abbrev pub AllBefore : Trace → Type 0
AllBefore [] = Unit {0}
AllBefore (last ∷ before) = AllPeopled last.before.nodes × AllBefore before

pub peopled_before : (es : List Event) (rs : List Report) (w : World) (trace : Trace) → AllPeopled w.nodes → AllBefore trace
    → AllBefore (traced w es rs trace)
peopled_before [] rs w trace g k = k
peopled_before (e ∷ es) [] w trace g k = k
peopled_before (e ∷ es) (Refused why ∷ rs) w trace g k = peopled_before es rs w (moment_of w e (Refused why) ∷ trace) g (g, k)
peopled_before (e ∷ es) (Reported a fx ∷ rs) w trace g k =
    peopled_before es rs ((step w e).world) (moment_of w e (Reported a fx) ∷ trace)
    (after w g (node_of w.nodes (node_name e)) e refl) (g, k)

pub holder_is : (w : World) → AllPeopled w.nodes → (y : Name) (c : Introduction) → introduced w y ≡ Some c → (held : Pid) → held.node ≡ y
    → is_living w held ≡ true → held.creation ≡ c.creation
holder_is w g y c h p e l = go (node_of w.nodes y) refl
  where
    go : (o : Option Node) → node_of w.nodes y ≡ o → p.creation ≡ c.creation
    go None j = absurd (none-some c (sym (ap (λ o. seen o None (λ node. Some (introduces node))) j) ∙ h))
    go (Some n) j =
        ((g y n j).alive p (sym (ap (λ o. living_at o p) (ap (node_of w.nodes) e ∙ j)) ∙ l)).1
        ∙ ap (λ (z : Introduction). z.creation) (same_Some (introduces n) c (sym (ap (λ o. seen o None (λ node. Some (introduces node))) j) ∙ h))

taken_as_called : (trace : Trace) → AllHeld trace → AllBefore trace → TakenAsCalled trace
taken_as_called [] k b = tt
taken_as_called (m ∷ trace) k b = (
  λ p g r v. let u = k.0 p g r v in (u.0, u.1, u.2, u.3, holder_is m.before b.0 (target_node g) u.0 u.1),
  taken_as_called trace k.1 b.1,
)

pub monitors_taken : ThroughoutTraced MonitorsAreTakenAsCalled
monitors_taken cs es rs w h = taken_as_called (traced (opening cs) es rs [])
    ((asked_runs es rs (opening cs) w [] (good_opening cs, known_opening cs) (opening_asks cs) h).2)
    (peopled_before es rs (opening cs) [] (peopled_opening cs) tt)
