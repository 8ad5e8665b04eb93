-- A node has dialed each trunk of its own that it has a side of, so that the next one that it dials is new to it.
use Rattle.std.proofs.Common.{◌≡◌, ◌+◌, ◌≤◌, ℕ, List, refl, sym, ap, ◌∙◌, arith, Option, Some, None, ◌⊎◌, inl, inr}
use Rattle.std.proofs.lemmas.Option.{none-some}
use Rattle.std.specs.FinMap as fm
use Rattle.dist_model.proofs.Calls.{IfGoes, if_cond}
use Rattle.dist_model.proofs.HandshakeParts.{Roomy, Turned, Unparks, fresh_kept}
use Rattle.dist_model.proofs.KeepBearings.{bearings_kept, if_accepted}
use Rattle.dist_model.proofs.KeepEvents.{Rest, at_node_keeps, dial_goes, outer_parts}
use Rattle.dist_model.proofs.Sides.{side_at}
use Rattle.dist_model.specs.Arrivals.{handshake_in}
use Rattle.dist_model.specs.Commands.{Accepts}
use Rattle.dist_model.specs.declared.report.Answer.{Answer}
use Rattle.dist_model.specs.Dialing.{dial, next_trunk}
use Rattle.dist_model.specs.Handshake.{set_state, with_side, write}
use Rattle.dist_model.specs.Keeping.{Bearings, Comes, ComesOfOthers, CountsOwn, Dials, Towards}
use Rattle.dist_model.specs.Names.{Name}
use Rattle.dist_model.specs.Node.{Node}
use Rattle.dist_model.specs.NodeEvents.{Arrive, Dial, Local, NodeEvent, Start, Stop, at_node, Call}
use Rattle.dist_model.specs.Runs.{new_node}
use Rattle.dist_model.specs.Sides.{Gone, Losing, TrunkSide}
use Rattle.dist_model.specs.Work.{Work, at_work}
use Rattle.erl_handshake.specs.declared.message.ShakeMsg.{ShakeMsg}
use Rattle.erl_names.specs.Order.{trunk_cmp}
use Rattle.erl_names.specs.declared.trunk.TrunkId.{TrunkId}
use Rattle.erl_term.specs.declared.refusal.Refusal.{Refusal}
use Rattle.erl_handshake.specs.declared.setup.Setup.{Setup}

-- ---- what was dialed never falls

module _ (names : List Name) (n : Node) where
  abbrev X : Work → Type 0
  X o = n.dialed ≤ o.node.dialed

  abbrev AnyNew : TrunkId → Name → Type 0
  AnyNew t y = Unit {0}

  turned : (t : TrunkId) (s : TrunkSide) (o : Work) → Turned o.node t s → Roomy o.node t s → X o → X (with_side t s o)
  turned t s o c r k = k

  wrote : (t : TrunkId) (y : Name) (m : ShakeMsg) (o : Work) → Towards o.node t y → X o → X (write t y m o)
  wrote t y m o v k = k

  opens : (t : TrunkId) (s : TrunkSide) (o : Work) → side_at o.node t ≡ Some s → s.state ≡ Losing → X o
      → Unparks AnyNew X turned wrote s.peer (set_state t s Gone o)
  opens t s o h e k u b w f p i j = j

  start : X (at_work n)
  start = omega arith

  rest : (d : NodeEvent) → Rest AnyNew X (outer_parts (λ m c. n.dialed ≤ c)) turned wrote opens names n start d
  rest (Call d) = λ s p. start
  rest (Arrive t (Some i) w) = λ at. fresh_kept AnyNew X turned wrote t tt (handshake_in i) w (at_work n) at start
  rest Local = λ l. start
  rest (Dial y w) = dial_goes X names n y w (λ i j. omega arith)
  rest Stop = start
  rest Start = start
  rest _ = tt

  rises : (e : NodeEvent) → IfGoes (at_node names n e) X
  rises e = at_node_keeps AnyNew X (outer_parts (λ m c. n.dialed ≤ c)) turned wrote opens names n start e (rest e)

  module _ (e : NodeEvent) (a : Answer) (o : Work) (h : at_node names n e ≡ Accepts a o) where
    bears : Bearings n e o
    bears = if_accepted (Bearings n e) (at_node names n e) a o h (bearings_kept names n e)

    abbrev P : Work → Type 0
    P o = n.dialed + 1 ≤ o.node.dialed

    dialed_one : (y : Name) (w : ℕ) → e ≡ Dial y w → n.dialed + 1 ≤ o.node.dialed
    dialed_one y w i = if_accepted P (at_node names n (Dial y w)) a o (ap (at_node names n) (sym i) ∙ h)
        (if_cond n.up (dial names n y w) Refusal.NodeDown P (λ u. dial_goes P names n y w (λ i j. omega arith)))

    next_count : (t : TrunkId) → t ≡ next_trunk n → t.count ≡ n.dialed + 1
    next_count t i = ap (λ (z : TrunkId). z.count) i

    pub counted_kept : CountsOwn n → ComesOfOthers n e → CountsOwn o.node
    counted_kept k others t s at d = go (side_at n t) refl
      where
        own : t.dialer ≡ n.mint.name
        own = d ∙ bears.name

        new : side_at n t ≡ None → (Comes e t × (s.peer ≡ t.dialer)) ⊎ Dials n e t s.peer → t.count ≤ o.node.dialed
        new i (inl c) = absurd (others t c.0 own i)
        new i (inr c) = omega (arith, next_count t c.1, dialed_one s.peer c.0.0 c.0.1)

        go : (v : Option TrunkSide) → side_at n t ≡ v → t.count ≤ o.node.dialed
        go None i = new i (bears.new t s i at)
        go (Some v) i = omega (arith, k t v i own, if_accepted X (at_node names n e) a o h (rises e))

    pub counted_stays : CountsOwn n → (t : TrunkId) (y : Name) → Towards n t y → Towards o.node t y
    counted_stays k t y v = go (bears.stays t y v)
      where
        go : Towards o.node t y ⊎ ((z : Name) × Dials n e t z × Towards o.node t z) → Towards o.node t y
        go (inl j) = j
        go (inr j) = absurd (omega (arith, next_count t j.1.1, k t v.side v.there (ap (λ (z : TrunkId). z.dialer) j.1.1)))

pub counted_new : (x : Name) (setup : Setup) → CountsOwn (new_node x setup)
counted_new x setup t s h d = absurd (none-some s (sym (fm.get-empty trunk_cmp t) ∙ h))
