-- Some events lead to the world at the end of a script.
use Rattle.std.proofs.Common.{ℕ, ◌+◌, Bool, true, false, cond, ltb, List, [], ◌∷◌, Result, Ok, Err, IfOk}
use Rattle.script_lines.specs.declared.reason.Reason.{Reason}
use Rattle.run_traces.specs.declared.trace.Trace.{Trace}
use Rattle.script_session.specs.Session.{State, Step, fresh_state, line_does}
use Rattle.script_session.specs.Stands.{IsLed}
use Rattle.script_core.specs.Script.{Run, TooManyLines, lines_of, runs_lines, runs_step, script, stops}

-- a line keeps that
abbrev pub Leads : Type 0
Leads = (state : State) (line : List ℕ) → IsLed state → IfOk (line_does state line) (λ step. IsLed step.state)

stepped : (number : ℕ) (state : State) (does : Result Step Reason) (rest : State → Run) → IsLed state → IfOk does (λ step. IsLed step.state)
    → ((after : State) → IsLed after → IsLed (rest after).state) → IsLed (runs_step number state does rest).state
stepped number state (Ok step) rest h k r = r step.state k
stepped number state (Err reason) rest h k r = h

pick : (b : Bool) (x y : Run) → IsLed x.state → IsLed y.state → IsLed (cond b x y).state
pick true x y h k = h
pick false x y h k = k

lines_led : Leads → (number : ℕ) (state : State) (lines : List (List ℕ)) → IsLed state → IsLed (runs_lines number state lines).state
lines_led leads number state [] h = h
lines_led leads number state (line ∷ lines) h =
    pick (ltb 1048576 number) (stops TooManyLines state)
    (runs_step number state (line_does state line) (λ (after : State). runs_lines (number + 1) after lines)) h
    (stepped number state (line_does state line) (λ (after : State). runs_lines (number + 1) after lines) h
    (leads state line h) (λ after a. lines_led leads (number + 1) after lines a))

pub script_led : ((trace : Trace) (word : ℕ) → IsLed (fresh_state trace word)) → Leads
    → (trace : Trace) (seed : ℕ) (input : List ℕ) → IsLed (script trace seed input).state
script_led fresh leads trace seed input = lines_led leads 1 (fresh_state trace seed) (lines_of input) (fresh trace seed)
