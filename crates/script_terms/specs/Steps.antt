-- How a list goes on behind an item: the same as in its form, seen one item at a time.
use Rattle.std.specs.Prelude.{ℕ, zero, suc, List, Result, Ok, Err, ◌==◌, if◌then◌else◌}
use Rattle.erl_term.specs.Reading.{◌>>=◌}
use Rattle.script_terms.specs.declared.lists.Step.{Step}
use Rattle.script_terms.specs.declared.lists.Step.TheVariants as step
use Rattle.script_terms.specs.declared.fault.TermFault.{TermFault}
use Rattle.script_terms.specs.declared.fault.TermFault.TheVariants.{BadTerm}
use Rattle.script_terms.specs.Reading.{Read, next_at, mark_at}

-- behind a |
unfoldable pub tail_step_at : List ℕ → Read Step
tail_step_at bytes =
    next_at bytes >>= λ c.
    if c.0 == 91 then (next_at c.1 >>= λ d. if d.0 == 93 then Ok (step.End, d.1) else Ok (step.List, c.1))
    else Ok (step.Tail, bytes)

unfoldable pub step_at : List ℕ → Read Step
step_at bytes =
    next_at bytes >>= λ c.
    if c.0 == 44 then Ok (step.Item, c.1)
    else if c.0 == 93 then Ok (step.End, bytes)
    else if c.0 == 124 then tail_step_at c.1
    else Err BadTerm

-- the bytes behind so many of one byte
unfoldable pub marks_at : ℕ → ℕ → List ℕ → Result (List ℕ) TermFault
marks_at mark zero bytes = Ok bytes
marks_at mark (suc count) bytes = mark_at mark bytes >>= λ c. marks_at mark count c.1
