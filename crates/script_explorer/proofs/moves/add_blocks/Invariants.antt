use Rattle.std.proofs.Common.{◌≡◌, ◌++◌, drop}
use Rattle.script_explorer.specs.Moves.{block_moves, steps_of}
use Rattle.script_explorer.proofs.moves.add_blocks.Given as goal

abbrev pub invariant-loop-place : goal.invariant-loop-place
invariant-loop-place l =
    l.moves.items ++ block_moves l.place (steps_of (drop l.place l.blocks)) l.taken
    ≡ l.fn.moves.items ++ block_moves 0 (steps_of l.blocks) l.taken
