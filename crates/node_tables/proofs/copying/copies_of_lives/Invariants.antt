use Rattle.std.proofs.Common.{◌≡◌, map, take}
use Rattle.node_tables.specs.Lives.{life_of, links_of}
use Rattle.node_tables.proofs.copying.copies_of_lives.Given as goal

abbrev pub invariant-loop-life : goal.invariant-loop-life
invariant-loop-life l = record {
  lives : map life_of l.copies.items ≡ map life_of (take l.life-index l.lives);
  links : map links_of l.copies.items ≡ map links_of (take l.life-index l.lives);
}
