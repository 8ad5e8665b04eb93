use Rattle.std.proofs.Common.{◌<◌, arith, length, refl, sym}
use Rattle.world_core.proofs.Stepped.{refused_dropped}
use Rattle.world_core.proofs.world.World.drop_refused_at.Goals as goal

pub returns-then-place-len : goal.returns-then-place-len
returns-then-place-len c = λ m h.
    let w = c.args.self.now in
    let node = c.index.result.now in
    let l : c.args.place < length w.nodes.items = omega arith in
    refused_dropped w m h c.args.place node node l (sym c.index.ensures) (record { nodes = w.nodes; lists = c.drop_refused.new.lists })
    refl c.args.trunk.now c.drop_refused.ensures
