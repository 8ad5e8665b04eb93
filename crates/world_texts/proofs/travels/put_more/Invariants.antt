use Rattle.std.proofs.Common.{◌≡◌, ◌++◌, List, map, string_bytes, take}
use Rattle.std.specs.List.{flat_map}
use Rattle.dist_model.specs.Items.{Item}
use Rattle.node_frames.specs.Frames.{framed}
use Rattle.world_core.specs.Stands.{AreSpelled}
use Rattle.world_texts.specs.Travelling.{more_text}
use Rattle.world_texts.proofs.travels.put_more.Given as goal

abbrev pub invariant-loop-frame : goal.invariant-loop-frame
invariant-loop-frame l =
    (items : List Item) → AreSpelled items → l.frames ≡ map framed items
    → string_bytes l.out ≡ string_bytes l.fn.out ++ flat_map more_text (take l.frame-index items)
