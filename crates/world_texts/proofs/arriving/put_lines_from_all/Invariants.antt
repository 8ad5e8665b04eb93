use Rattle.std.proofs.Common.{◌≡◌, ◌++◌, string_bytes, take}
use Rattle.std.specs.List.{flat_map}
use Rattle.dist_model.specs.World.{World as TheWorld}
use Rattle.node_core.specs.Model.{model_of}
use Rattle.world_core.specs.Names.{name_of}
use Rattle.world_core.specs.Stands.{StandsFor}
use Rattle.world_texts.specs.Shown.{travels_line}
use Rattle.world_texts.proofs.arriving.put_lines_from_all.Given as goal

abbrev pub invariant-loop-peer : goal.invariant-loop-peer
invariant-loop-peer l =
    (m : TheWorld) → StandsFor l.world m
    → string_bytes l.out ≡ string_bytes l.fn.out
    ++ flat_map (λ peer. travels_line m (model_of l.node) (name_of peer)) (take l.peer-index l.peers)
