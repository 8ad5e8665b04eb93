use Rattle.std.proofs.Common.{}
use Rattle.wire_core.proofs.Slots.{drop_next}
use Rattle.wire_core.proofs.port.Port.drop_first.Goals as goal

pub returns-then-self-len : goal.returns-then-self-len
returns-then-self-len c =
    let p = c.self.inside in
    let slot = drop_next p.handled p.taken.items in
    rw (← c.self.view_is) (λ i. record {
      trunk = p.trunk;
      peer = p.peer;
      put = p.put.items;
      outbox = p.outbox.items;
      taken = p.taken.items;
      slot = slot i;
      pieces = p.out.pieces;
      begun = p.begun;
      gathered = p.gathered.items;
      greatest = p.greatest;
    })
