use Rattle.std.proofs.Common.{◌≡◌, ◌++◌, drop, map, take}
use Rattle.diagram.specs.Lines.{lines_of, tops_from, tops_of}
use Rattle.diagram.specs.Lists.{items_of}
use Rattle.diagram.proofs.layout.place.Given as goal

abbrev pub invariant-loop-row : goal.invariant-loop-row
invariant-loop-row l = record {
  tops : l.tops.items ++ tops_from l.top (drop l.row-index l.rows) ≡ tops_of l.rows;
  lines : map items_of l.all_lines.items ≡ map lines_of (take l.row-index l.rows);
}
