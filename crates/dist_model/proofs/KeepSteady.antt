-- A node stays steady, whatever event comes to it.
use Rattle.std.proofs.Common.{◌≡◌, Bool, true, false, not, List, refl, sym, ap, ◌∙◌, ◌&&◌, ◌||◌, Some, ◌⊎◌, inl, inr}
use Rattle.std.proofs.lemmas.Option.{none-some}
use Rattle.std.specs.FinMap as fm
use Rattle.dist_model.proofs.Calls.{IfGoes}
use Rattle.dist_model.proofs.HandshakeParts.{Roomy, Turned, Unparks, as_state, fresh_kept}
use Rattle.dist_model.proofs.KeepAlive.{Alive, alive_aside, alive_parts, all_alive, alive_spawned}
use Rattle.dist_model.proofs.KeepBearings.{if_accepted}
use Rattle.dist_model.proofs.KeepEvents.{Rest, at_node_keeps, dial_goes, outer_parts}
use Rattle.dist_model.proofs.KeepParts.{Parts}
use Rattle.dist_model.proofs.KeepSingle
use Rattle.dist_model.proofs.KeepSingle.{NoNew, single_dial, single_fresh, single_stopped}
use Rattle.dist_model.proofs.Sides.{Single, asks, beside, holds, holds_kinds, side_at}
use Rattle.dist_model.specs.Arrivals.{handshake_in}
use Rattle.dist_model.specs.Commands.{Accepts}
use Rattle.dist_model.specs.declared.report.Answer.{Answer}
use Rattle.dist_model.specs.Dialing.{draw_trunk, next_trunk}
use Rattle.dist_model.specs.Handshake.{set_state, with_side, write}
use Rattle.dist_model.specs.Incarnations.{started, stopped}
use Rattle.dist_model.specs.Keeping.{Steady, Towards, is_attempt, is_engaged}
use Rattle.dist_model.specs.Names.{Name}
use Rattle.dist_model.specs.Node.{Node}
use Rattle.dist_model.specs.NodeEvents.{Arrive, Dial, Local, NodeEvent, Start, Stop, at_node, Call}
use Rattle.dist_model.specs.Runs.{new_node}
use Rattle.dist_model.specs.Sides.{Accepting, Asked, AwaitsStatus, Gone, Losing, Parked, State, TrunkSide, Up, is_gone}
use Rattle.dist_model.specs.Work.{Work, at_work}
use Rattle.erl_handshake.specs.declared.message.ShakeMsg.{ShakeMsg}
use Rattle.erl_names.specs.Order.{trunk_cmp}
use Rattle.erl_names.specs.declared.trunk.TrunkId.{TrunkId}
use Rattle.erl_handshake.specs.declared.setup.Setup.{Setup}
use Rattle.dist_model.specs.Sides.{untold}

-- ---- the two tests of a state are one that stands beside

engaged_asks : (x : State) → is_gone x ≡ false → is_engaged x ≡ not (asks x)
engaged_asks Gone h = cc
engaged_asks _ h = refl

attempt_holds : (x : State) → is_gone x ≡ false → is_attempt x ≡ not (holds x)
attempt_holds Gone h = cc
attempt_holds _ h = refl

engaged_there : (x : State) → is_engaged x ≡ true → is_gone x ≡ false
engaged_there Gone h = cc
engaged_there (Asked w) h = cc
engaged_there (Parked w) h = cc
engaged_there _ h = refl

attempt_there : (x : State) → is_attempt x ≡ true → is_gone x ≡ false
attempt_there Gone h = cc
attempt_there Up h = cc
attempt_there Losing h = cc
attempt_there _ h = refl

none_asks : (p q r w : Bool) → not r ≡ true → not q ≡ true → ((p && q) || (r && w)) ≡ true → ⊥
none_asks p q true w h k b = cc
none_asks p true false w h k b = cc
none_asks true false false w h k b = cc
none_asks false false false w h k b = cc

none_holds : (p q r w : Bool) → not p ≡ true → not w ≡ true → ((p && q) || (r && w)) ≡ true → ⊥
none_holds false q true false h k b = cc
none_holds false q false false h k b = cc
none_holds _ q r _ h k b = cc

engaged_apart : (x y : State) → is_engaged x ≡ true → is_engaged y ≡ true → beside x y ≡ true → ⊥
engaged_apart x y h k b = none_asks (holds x) (asks y) (asks x) (holds y)
    (sym (engaged_asks x (engaged_there x h)) ∙ h) (sym (engaged_asks y (engaged_there y k)) ∙ k) b

attempts_apart : (x y : State) → is_attempt x ≡ true → is_attempt y ≡ true → beside x y ≡ true → ⊥
attempts_apart x y h k b = none_holds (holds x) (asks y) (asks x) (holds y)
    (sym (attempt_holds x (attempt_there x h)) ∙ h) (sym (attempt_holds y (attempt_there y k)) ∙ k) b

steady_of : (n : Node) → Single n.sides → Alive n → Steady n
steady_of n k a = record {
  engaged = λ t u s v hs hv p es ev. pick t u s v (engaged_apart s.state v.state es ev)
      (k t u s v hs hv p (engaged_there s.state es) (engaged_there v.state ev));
  attempts = λ t u s v hs hv p es ev. pick t u s v (attempts_apart s.state v.state es ev)
      (k t u s v hs hv p (attempt_there s.state es) (attempt_there v.state ev));
  ends = a.ends;
  owners = a.owners;
  bound = a.bound;
  holders = a.holders;
  one_name = a.one_name;
}
  where
    pick : (t u : TrunkId) (s v : TrunkSide) → (beside s.state v.state ≡ true → ⊥) → (t ≡ u) ⊎ (beside s.state v.state ≡ true) → t ≡ u
    pick t u s v no_way (inl e) = e
    pick t u s v no_way (inr b) = absurd (no_way b)

single_of : (n : Node) → Steady n → Single n.sides
single_of n k t u s v hs hv p gs gv = go (asks s.state) (asks v.state) (holds s.state) (holds v.state) refl refl refl refl
  where
    engaged : asks s.state ≡ false → asks v.state ≡ false → t ≡ u
    engaged i j = k.engaged t u s v hs hv p (engaged_asks s.state gs ∙ ap not i) (engaged_asks v.state gv ∙ ap not j)

    attempts : holds s.state ≡ false → holds v.state ≡ false → t ≡ u
    attempts i j = k.attempts t u s v hs hv p (attempt_holds s.state gs ∙ ap not i) (attempt_holds v.state gv ∙ ap not j)

    go : (a b c d : Bool) → asks s.state ≡ a → asks v.state ≡ b → holds s.state ≡ c → holds v.state ≡ d
        → (t ≡ u) ⊎ (beside s.state v.state ≡ true)
    go false false c d i j x y = inl (engaged i j)
    go a b false false i j x y = inl (attempts x y)
    go true b true d i j x y = let z : true ≡ false = sym i ∙ (holds_kinds s.state x).1 in cc
    go a true c true i j x y = let z : true ≡ false = sym j ∙ (holds_kinds v.state y).1 in cc
    go _ _ _ _ i j x y = inr (λ o. (x o && j o) || (i o && y o))

-- ---- the sides

abbrev single_parts : Parts KeepSingle.X
single_parts = outer_parts (λ m d. Single m)

single_kept : (names : List Name) (n : Node) (e : NodeEvent) → Single n.sides → IfGoes (at_node names n e) KeepSingle.X
single_kept names n e k =
    at_node_keeps NoNew KeepSingle.X single_parts KeepSingle.turned KeepSingle.wrote KeepSingle.opens names n k e (rest e)
  where
    rest : (d : NodeEvent) → Rest NoNew KeepSingle.X single_parts KeepSingle.turned KeepSingle.wrote KeepSingle.opens names n k d
    rest (Call d) = λ s p. k
    rest (Arrive t (Some i) w) = λ at. single_fresh (handshake_in i) t w (at_work n) k
    rest Local = λ l. k
    rest (Dial y w) = single_dial names n y w k
    rest Stop = single_stopped n
    rest Start = single_stopped n
    rest _ = tt

-- ---- the living

abbrev Y : Work → Type 0
Y o = Alive o.node

abbrev AnyNew : TrunkId → Name → Type 0
AnyNew t y = Unit {0}

aside : (t : TrunkId) (s : TrunkSide) (o : Work) → Y o → Y (with_side t s o)
aside t s o k = alive_aside o.node ((with_side t s o).node) refl refl refl refl refl k

turned : (t : TrunkId) (s : TrunkSide) (o : Work) → Turned o.node t s → Roomy o.node t s → Y o → Y (with_side t s o)
turned t s o c r k = aside t s o k

wrote : (t : TrunkId) (y : Name) (m : ShakeMsg) (o : Work) → Towards o.node t y → Y o → Y (write t y m o)
wrote t y m o v k = k

opens : (t : TrunkId) (s : TrunkSide) (o : Work) → side_at o.node t ≡ Some s → s.state ≡ Losing → Y o
    → Unparks AnyNew Y turned wrote s.peer (set_state t s Gone o)
opens t s o h e k u b w f p i j = aside u (as_state b (Accepting w)) (set_state t s Gone o) j

alive_kept : (names : List Name) (n : Node) (e : NodeEvent) → Alive n → IfGoes (at_node names n e) Y
alive_kept names n e k = at_node_keeps AnyNew Y alive_parts turned wrote opens names n k e (rest e)
  where
    rest : (d : NodeEvent) → Rest AnyNew Y alive_parts turned wrote opens names n k d
    rest (Call d) = λ s p. alive_spawned n p k
    rest (Arrive t (Some i) w) = λ at. fresh_kept AnyNew Y turned wrote t tt (handshake_in i) w (at_work n) at k
    rest Local = λ l. alive_aside n (record n { local = l }) refl refl refl refl refl k
    rest (Dial y w) = dial_goes Y names n y w (λ i j.
        aside (next_trunk n) (record { peer = y; introduction = untold; state = AwaitsStatus w }) (at_work (draw_trunk n))
        (alive_aside n (draw_trunk n) refl refl refl refl refl k))
    rest Stop = all_alive (stopped n) refl refl refl refl
    rest Start = all_alive (started n) refl refl refl refl
    rest _ = tt

pub steady_kept : (names : List Name) (n : Node) (e : NodeEvent) (a : Answer) (o : Work) → Steady n → at_node names n e ≡ Accepts a o
    → Steady o.node
steady_kept names n e a o k h = steady_of o.node
    (if_accepted KeepSingle.X (at_node names n e) a o h (single_kept names n e (single_of n k)))
    (if_accepted Y (at_node names n e) a o h (alive_kept names n e (record
    { ends = k.ends; owners = k.owners; bound = k.bound; holders = k.holders; one_name = k.one_name })))

pub steady_new : (x : Name) (setup : Setup) → Steady (new_node x setup)
steady_new x setup = steady_of (new_node x setup)
    (λ t u s v hs hv p gs gv. absurd (none-some s (sym (fm.get-empty trunk_cmp t) ∙ hs))) (all_alive (new_node x setup) refl refl refl refl)
