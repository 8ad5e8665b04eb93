-- The rule of a wire: what the giver's pass has put is what the taker's pass has taken, followed by what the wire holds, and is cut
-- from items. One pass at most may put, and one at most may take. A pass that is spent may neither, and knows nothing.
use Rattle.std.specs.Prelude.{◌≡◌, ℕ, Bool, true, false, List, [], ◌++◌}
use mathlib.Core.Option.{some}
use lib.ListN.{get_elem?}
use Rattle.crossbeam_queue.specs.Passes.{Pass, view}
use Rattle.wire_core.specs.Cuts.{AreCut}
use Rattle.wire_core.specs.Pieces.{PieceSeen}
use Rattle.wire_core.specs.declared.rule.View.{View}

-- what a pass knows
abbrev pub known : Pass PieceSeen View → View
known pass = view pass

abbrev pub knowing : Bool → Bool → List PieceSeen → List PieceSeen → View
knowing puts takes put taken = record { puts = puts; takes = takes; put = put; taken = taken }

-- before it is cut, the one pass may do both
abbrev pub whole : View
whole = knowing true true [] []

abbrev pub giver : List PieceSeen → View
giver put = knowing true false put []

abbrev pub taker : List PieceSeen → View
taker taken = knowing false true [] taken

abbrev pub spent : View
spent = knowing false false [] []

-- the passes of a wire that holds these items, each with its number
pub record Passes (items : List PieceSeen) (views : List View) : Type 0 where
  pub giving : ℕ
  pub taking : ℕ
  pub put : List PieceSeen
  pub taken : List PieceSeen
  pub whole : put ≡ taken ++ items
  pub cut : AreCut put
  pub puts : (pass : ℕ) (v : View) → get_elem? views pass ≡ some v → v.puts ≡ true → (pass ≡ giving) × (v.put ≡ put)
  pub takes : (pass : ℕ) (v : View) → get_elem? views pass ≡ some v → v.takes ≡ true → (pass ≡ taking) × (v.taken ≡ taken)
