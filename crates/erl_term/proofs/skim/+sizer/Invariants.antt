use Rattle.std.proofs.Common.{◌+◌, ◌*◌}
use Rattle.erl_term.specs.Reading.{read_term}
use Rattle.erl_term.proofs.Measured.{Measured}
use Rattle.erl_term.proofs.skim.+sizer.Given as goal

abbrev pub decreases-term_measure_of : goal.decreases-term_measure_of
decreases-term_measure_of l = 3 * l.levels

abbrev pub decreases-tuple_measure_of : goal.decreases-tuple_measure_of
decreases-tuple_measure_of l = 3 * l.below + 2

abbrev pub decreases-items_measure_of : goal.decreases-items_measure_of
decreases-items_measure_of l = 3 * l.below + 1

abbrev pub invariant-items_measure_of-loop : goal.invariant-items_measure_of-loop
invariant-items_measure_of-loop l = Measured (read_term l.below) l.count l.bytes l.counter l.items l.rest

abbrev pub decreases-list_measure_of : goal.decreases-list_measure_of
decreases-list_measure_of l = 3 * l.below + 2
