use Rattle.std.proofs.Common.{◌≡◌, ◌+◌, ◌*◌, ◌-◌, ◌≤◌, length, List}
use Rattle.std.specs.Prelude.{nat_le}
use Rattle.erl_term.specs.Data.{Data}
use Rattle.erl_term.specs.View.{items_of}
use Rattle.erl_term.specs.Canonical.{most_levels}
use Rattle.script_terms.specs.Binding.{Look, Knows}
use Rattle.script_terms.specs.Reading.{separated_at, term_at}
use Rattle.script_terms.proofs.Separated.{with_front}
use Rattle.script_terms.proofs.ItemsRead.{ItemsRead}
use Rattle.script_terms.proofs.checking.+check.Given as goal

abbrev pub decreases-check_value : goal.decreases-check_value
decreases-check_value l = 3 * l.brackets

abbrev pub decreases-check_tuple : goal.decreases-check_tuple
decreases-check_tuple l = 3 * l.brackets + 2

abbrev pub decreases-check_list : goal.decreases-check_list
decreases-check_list l = 3 * l.brackets + 2

abbrev pub decreases-check_elements : goal.decreases-check_elements
decreases-check_elements l = 3 * l.brackets + 1

abbrev pub decreases-check_cells : goal.decreases-check_cells
decreases-check_cells l = 3 * l.brackets + 1

abbrev pub invariant-check_elements-loop : goal.invariant-check_elements-loop
invariant-check_elements-loop l = (look : Look) → Knows l.names look →
    (front : List Data)
    × (with_front front (separated_at (term_at look l.brackets) 125 (length l.bytes - l.counter) l.rest)
    ≡ separated_at (term_at look l.brackets) 125 (length l.bytes) l.bytes)
    × (l.row.fit ≡ nat_le (most_levels (items_of front)) l.brackets)

abbrev pub invariant-check_cells-loop-index : goal.invariant-check_cells-loop-index
invariant-check_cells-loop-index l =
    (l.opened ≤ l.index)
    × ((look : Look) → Knows l.names look → ItemsRead (term_at look l.brackets) l.brackets l.bytes l.index l.opened l.rest l.row)
