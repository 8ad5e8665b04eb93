use Rattle.std.proofs.Common.{◌≡◌, ◌+◌, ◌*◌, ◌-◌, ◌≤◌, length, map}
use Rattle.erl_term.specs.View.{view, items_view}
use Rattle.script_terms.specs.Binding.{Look, Knows}
use Rattle.script_terms.specs.Reading.{separated_at, term_at, cells_at}
use Rattle.script_terms.proofs.Separated.{with_front}
use Rattle.script_terms.proofs.Cells.{state}
use Rattle.script_terms.proofs.reading.+read.Given as goal

abbrev pub decreases-value_of : goal.decreases-value_of
decreases-value_of l = 3 * l.brackets

abbrev pub decreases-tuple_of : goal.decreases-tuple_of
decreases-tuple_of l = 3 * l.brackets + 2

abbrev pub decreases-list_of : goal.decreases-list_of
decreases-list_of l = 3 * l.brackets + 2

abbrev pub decreases-elements_of : goal.decreases-elements_of
decreases-elements_of l = 3 * l.brackets + 1

abbrev pub decreases-cells_of : goal.decreases-cells_of
decreases-cells_of l = 3 * l.brackets + 1

abbrev pub invariant-elements_of-loop : goal.invariant-elements_of-loop
invariant-elements_of-loop l = (look : Look) → Knows l.names look →
    with_front (map view l.elements.items) (separated_at (term_at look l.brackets) 125 (length l.bytes - l.counter) l.rest)
    ≡ separated_at (term_at look l.brackets) 125 (length l.bytes) l.bytes

abbrev pub invariant-cells_of-loop : goal.invariant-cells_of-loop
invariant-cells_of-loop l =
    (l.opened ≤ l.counter) × ((look : Look) → Knows l.names look →
    state (term_at look l.brackets) (items_view l.items.items) l.opened (length l.bytes) l.counter l.rest
    ≡ cells_at (term_at look l.brackets) (length l.bytes) l.bytes)
