use Rattle.std.proofs.Common.{ℕ, ◌+◌, ◌<◌, ◌≤◌, List, drop, length, take, ap, subst, ◌∙◌}
use Rattle.wire_core.proofs.StreamsKept.{first_in, next_of}
use Rattle.wire_core.specs.Ports.{PortSeen, behind_first}
use Rattle.wire_core.specs.Streams.{IsNext}
use Rattle.wire_core.proofs.port.Port.next_piece.Goals as goal

pub returns-clause-next : goal.returns-clause-next
returns-clause-next c =
    let p = c.self.inside in
    let first = c.in-Some.first.now in
    let e = c.in-Some.ensures in
    let b = c.next_bytes-is_last.ensures in
    let is_last = c.next_bytes-is_last.result.1 in
    let same = c.as_slice.ensures.bytes in
    subst (λ (port : PortSeen). IsNext port c.new.result is_last) c.self.view_is
    (next_of c.front_is_told.ensures.told _ c.new.result first
    (behind_first p.outbox.items) c.in_ok-bytes.bytes.items is_last c.new.ensures c.self.invariant.0
    (first_in p.outbox.items first e.item.3.0 e.lookup)
    (c.in_ok-bytes.ensures.items ∙ b.next ∙ ap (λ (l : List ℕ). take p.greatest (drop p.begun l)) same)
    (λ is. subst (λ (l : List ℕ). length l ≤ p.begun + p.greatest) same (b.last is))
    (λ is. subst (λ (l : List ℕ). p.begun + p.greatest < length l) same (b.part is))
    b.fits)
