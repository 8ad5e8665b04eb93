use Rattle.std.proofs.Common.{List, subst, sym}
use Rattle.wire_core.proofs.StreamsKept.{more_waits}
use Rattle.wire_core.specs.Streams.{PutInPieces}
use Rattle.wire_core.specs.declared.parcel.Parcel.{Parcel}
use Rattle.wire_core.proofs.port.Port.send.Goals as goal

pub invariant_of-self-2 : goal.invariant_of-self-2
invariant_of-self-2 c =
    let p = c.self.inside in (
      subst (λ (l : List Parcel). PutInPieces p.out.pieces p.put.items l p.begun) (sym c.in_ok-push_back.ensures.items)
          (more_waits c.front_is_told.ensures.told p.out.pieces p.put.items p.outbox.items p.begun c.args.parcel
          c.as_slice.ensures.item c.self.invariant.0),
      c.self.invariant.1,
      c.self.invariant.2,
      c.self.invariant.3,
    )
