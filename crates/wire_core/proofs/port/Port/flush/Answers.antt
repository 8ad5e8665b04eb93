use Rattle.std.proofs.Common.{◌≡◌, ◌+◌, ◌^◌, ◌<◌, ◌∙◌, List, [], ◌∷◌, ◌++◌, refl, sym, ap, inr, subst, arith}
use Rattle.wire_core.proofs.Full.{came_back, some_is, went}
use Rattle.wire_core.proofs.StreamsKept.{last_put, part_put}
use Rattle.wire_core.specs.Ports.{EndsFull, PortSeen}
use Rattle.wire_core.specs.Streams.{IsNext}
use Rattle.wire_core.specs.declared.parcel.Parcel.{Parcel}
use Rattle.wire_core.proofs.port.Port.flush.Goals as goal

pub returns-then-is_err-clause-full : goal.returns-then-is_err-clause-full
returns-then-is_err-clause-full g c is =
    let full : EndsFull c.self.inside.out.pieces =
    came_back c.put.result (EndsFull c.self.inside.out.pieces) c.if-is_err.ensures.value c.put.ensures.full in
    inr (subst EndsFull (ap (λ (port : PortSeen). port.pieces) c.self.view_is) full)

pub overflow_add-self : goal.overflow_add-self
overflow_add-self g c =
    let p = c.self.inside in
    let n =
    subst (λ (port : PortSeen). IsNext port c.in-Some.piece c.in-Some.is_last) (sym c.self.view_is)
    (some_is c.in_ok-piece.field-0 _ _ c.in-Some.is c.in_ok-piece.ensures.next) in
    let h : p.begun + p.greatest < 2 ^ 64 = n.fits c.if-is_last.false in
    omega (arith, h)

pub invariant_of-self-in-Some-pop_front : goal.invariant_of-self-in-Some-pop_front
invariant_of-self-in-Some-pop_front g c =
    let p = c.self.inside in
    let n =
    subst (λ (port : PortSeen). IsNext port c.in-Some.piece c.in-Some.is_last) (sym c.self.view_is)
    (some_is c.in_ok-piece.field-0 _ _ c.in-Some.is c.in_ok-piece.ensures.next) in
    let pieces_are =
    went c.put.result (c.put.new.self.pieces ≡ p.out.pieces ++ c.in-Some.piece ∷ []) c.if-is_err.ensures.value c.put.ensures.put in
    let put_is = c.push_reserved.ensures.items ∙ ap (λ (l : List Parcel). l ++ c.in-Some-pop_front.first ∷ []) c.reserve.ensures.items in (
      last_put c.front_is_told.ensures.told _ c.in-Some.piece c.in-Some.is_last c.self.invariant.0 n c.put.new.self.pieces pieces_are
          c.push_reserved.new.self.items c.pop_front.new.self.items c.in-Some-pop_front.first put_is
          c.in-Some-pop_front.ensures.items c.if-is_last.true,
      c.self.invariant.1,
      c.self.invariant.2,
      c.self.invariant.3,
    )

pub invariant_of-self-else-is_last : goal.invariant_of-self-else-is_last
invariant_of-self-else-is_last g c =
    let p = c.self.inside in
    let n =
    subst (λ (port : PortSeen). IsNext port c.in-Some.piece c.in-Some.is_last) (sym c.self.view_is)
    (some_is c.in_ok-piece.field-0 _ _ c.in-Some.is c.in_ok-piece.ensures.next) in
    let pieces_are =
    went c.put.result (c.put.new.self.pieces ≡ p.out.pieces ++ c.in-Some.piece ∷ []) c.if-is_err.ensures.value c.put.ensures.put in (
      part_put c.front_is_told.ensures.told _ c.in-Some.piece c.in-Some.is_last c.self.invariant.0 n c.put.new.self.pieces pieces_are
          c.reserve.new.self.items p.outbox.items c.reserve.ensures.items refl c.if-is_last.false,
      c.self.invariant.1,
      c.self.invariant.2,
      c.self.invariant.3,
    )
