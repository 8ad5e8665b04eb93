-- A side that is lost or gone stays so, whatever event comes to its node.
use Rattle.std.proofs.Common.{◌≡◌, List, Option, None, Some, cond, true, refl, sym, ap, ◌∙◌, arith}
use Rattle.std.proofs.lemmas.Option.{none-some, same_Some}
use Rattle.std.specs.FinMap as fm
use Rattle.std.specs.FinMap.{FinMap}
use Rattle.dist_model.proofs.Calls.{IfGoes, by_test}
use Rattle.dist_model.proofs.ClosedSides.{gone_side, gone_sides}
use Rattle.dist_model.proofs.HandshakeParts.{Aged, Fresh, Roomy, Shut, Turned, Unparks, as_state, fresh_kept, parked_ages, set_at}
use Rattle.dist_model.proofs.KeepBearings.{if_accepted}
use Rattle.dist_model.proofs.KeepEvents.{Rest, at_node_keeps, dial_goes, outer_parts}
use Rattle.dist_model.proofs.KeepParts.{Parts}
use Rattle.dist_model.proofs.Keys.{same_trunk, same_trunk_true}
use Rattle.dist_model.proofs.Sides.{side_at}
use Rattle.dist_model.specs.Arrivals.{handshake_in}
use Rattle.dist_model.specs.Commands.{Accepts}
use Rattle.dist_model.specs.Dialing.{draw_trunk, next_trunk}
use Rattle.dist_model.specs.Handshake.{set_state, with_side, write}
use Rattle.dist_model.specs.Incarnations.{stopped}
use Rattle.dist_model.specs.Keeping.{CountsOwn, Towards}
use Rattle.dist_model.specs.Names.{Name}
use Rattle.dist_model.specs.Node.{Node}
use Rattle.dist_model.specs.NodeEvents.{Arrive, Call, Dial, Local, NodeEvent, Start, Stop, at_node}
use Rattle.dist_model.specs.Sides.{Accepting, AwaitsStatus, Gone, Losing, TrunkSide, is_over}
use Rattle.dist_model.specs.Work.{Work, at_work}
use Rattle.dist_model.specs.declared.report.Answer.{Answer}
use Rattle.erl_handshake.specs.declared.message.ShakeMsg.{ShakeMsg}
use Rattle.erl_names.specs.Order.{trunk_cmp}
use Rattle.erl_names.specs.declared.trunk.TrunkId.{TrunkId}
use Rattle.dist_model.specs.Sides.{untold}

-- there is such a side, and it is over
pub record IsOver (sides : FinMap trunk_cmp TrunkSide) (t : TrunkId) : Type 0 where
  pub side : TrunkSide
  pub there : fm.get sides t ≡ Some side
  pub over : is_over side.state ≡ true

module _ (t : TrunkId) where
  abbrev X : Work → Type 0
  X o = IsOver o.node.sides t

  abbrev AnyNew : TrunkId → Name → Type 0
  AnyNew u y = Unit {0}

  parts : Parts X
  parts = outer_parts (λ m d. IsOver m t)

  -- one side is set
  sets : (u : TrunkId) (s : TrunkSide) (o : Work) → Turned o.node u s → X o → X (with_side u s o)
  sets u s o c k = by_test _ (same_trunk t u) (λ e. here (same_trunk_true t u e) (is e) c)
      (λ e. record { side = k.side; there = set_at o u s t ∙ ap (λ b. cond b (Some s) (side_at o.node t)) e ∙ k.there; over = k.over })
    where
      is : same_trunk t u ≡ true → side_at ((with_side u s o).node) t ≡ Some s
      is e = set_at o u s t ∙ ap (λ b. cond b (Some s) (side_at o.node t)) e

      at : t ≡ u → side_at o.node u ≡ Some k.side
      at e = ap (side_at o.node) (sym e) ∙ k.there

      here : t ≡ u → side_at ((with_side u s o).node) t ≡ Some s → Turned o.node u s → X (with_side u s o)
      here e j (Fresh q f) = absurd (none-some k.side (sym f ∙ at e))
      here e j (Aged a f g) = record {
        side = s;
        there = j;
        over = g.over (ap (λ (z : TrunkSide). is_over z.state) (same_Some a k.side (sym f ∙ at e)) ∙ k.over);
      }
      here e j (Shut a f p g r) = record { side = s; there = j; over = ap is_over g }

  turned : (u : TrunkId) (s : TrunkSide) (o : Work) → Turned o.node u s → Roomy o.node u s → X o → X (with_side u s o)
  turned u s o c r k = sets u s o c k

  wrote : (u : TrunkId) (y : Name) (m : ShakeMsg) (o : Work) → Towards o.node u y → X o → X (write u y m o)
  wrote u y m o v k = k

  opens : (u : TrunkId) (s : TrunkSide) (o : Work) → side_at o.node u ≡ Some s → s.state ≡ Losing → X o
      → Unparks AnyNew X turned wrote s.peer (set_state u s Gone o)
  opens u s o h e k v b w f p i j = sets v (as_state b (Accepting w)) (set_state u s Gone o) (Aged b f (parked_ages b w i)) j

  ends : (n : Node) → X (at_work n) → X (at_work (stopped n))
  ends n k = record {
    side = as_state k.side Gone;
    there = gone_sides n t ∙ ap gone_side k.there;
    over = refl;
  }

  -- the trunk that a node dials next isn't one that it has a side of
  none_dialed : (n : Node) → CountsOwn n → (s : TrunkSide) → side_at n (next_trunk n) ≡ Some s → ⊥
  none_dialed n c s h = let l = c (next_trunk n) s h refl in omega arith

  none_next : (n : Node) → CountsOwn n → side_at n (next_trunk n) ≡ None
  none_next n c = go (side_at n (next_trunk n)) refl
    where
      go : (o : Option TrunkSide) → side_at n (next_trunk n) ≡ o → o ≡ None
      go None h = refl
      go (Some s) h = absurd (none_dialed n c s h)

  keeps : (names : List Name) (n : Node) (e : NodeEvent) → CountsOwn n → X (at_work n) → IfGoes (at_node names n e) X
  keeps names n e c k = at_node_keeps AnyNew X parts turned wrote opens names n k e (rest e)
    where
      rest : (d : NodeEvent) → Rest AnyNew X parts turned wrote opens names n k d
      rest (Call d) = λ s p. k
      rest (Arrive u (Some i) w) = λ at. fresh_kept AnyNew X turned wrote u tt (handshake_in i) w (at_work n) at k
      rest Local = λ l. k
      rest (Dial y w) = dial_goes X names n y w (λ i j.
          sets (next_trunk n) (record { peer = y; introduction = untold; state = AwaitsStatus w }) (at_work (draw_trunk n))
          (Fresh tt (none_next n c)) k)
      rest Stop = ends n k
      rest Start = ends n k
      rest _ = tt

pub stays_over : (names : List Name) (n : Node) (e : NodeEvent) (a : Answer) (o : Work) → CountsOwn n → at_node names n e ≡ Accepts a o
    → (t : TrunkId) → IsOver n.sides t → IsOver o.node.sides t
stays_over names n e a o c h t k = if_accepted (λ o. IsOver o.node.sides t) (at_node names n e) a o h (keeps t names n e c k)
