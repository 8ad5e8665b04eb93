use Rattle.std.proofs.Common.{◌≡◌, ℕ, List, Some}
use Rattle.script_core.specs.Outcomes.{IsAt, Progress, opening}
use Rattle.script_session.specs.Session.{State}
use Rattle.script_core.proofs.script.Script.read_all.Given as goal

abbrev pub invariant-loop : goal.invariant-loop
invariant-loop g l =
    (from : State) (input : List ℕ) → IsAt g.S.Lines.stands l.fn.self (opening from) → g.R.Read.remaining l.fn.reader
    ≡ Some input → Progress from input (g.R.Read.remaining l.reader) (IsAt g.S.Lines.stands l.self)
    (g.W.Write.contents l.fn.writer) (g.W.Write.contents l.writer)
