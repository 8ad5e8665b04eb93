use Rattle.std.proofs.Common.{subst}
use Rattle.script_core.specs.declared.script.Outcome.TheVariants.{Failed}
use Rattle.script_core.specs.Script.{runs_from}
use Rattle.script_core.specs.Outcomes.{Answers, GoesOn, IsAt}
use Rattle.script_core.proofs.ScriptLemmas.{begins, for_known, progress_front}
use Rattle.script_core.proofs.script.Script.read_all.Goals as goal

pub returns-in-Some : goal.returns-in-Some
returns-in-Some g c = λ from at.
    let held = g.W.Write.contents c.args.writer.now in
    let new = g.W.Write.contents c.read_on.new.writer in
    for_known (g.R.Read.remaining c.args.reader.now) (λ input. Answers (runs_from from input) held new c.in-Some.outcome) (λ input e.
    subst
    (GoesOn from input (g.R.Read.remaining c.read_on.new.reader) (IsAt g.S.Lines.stands c.read_on.new.self) held new) c.in-Some.is
    (c.read_on.ensures.goes from input held (c.loop.invariant from input at e)))

pub returns : goal.returns
returns g c = λ from at.
    let held = g.W.Write.contents c.args.writer.now in
    let new = g.W.Write.contents c.loop.writer in
    for_known (g.R.Read.remaining c.args.reader.now) (λ input. Answers (runs_from from input) held new Failed) (λ input e.
    progress_front from input (g.R.Read.remaining c.loop.reader) (IsAt g.S.Lines.stands c.loop.self) held new
    (c.loop.invariant from input at e))

pub loop-init : goal.loop-init
loop-init g c = λ from input at e.
    begins from input (g.R.Read.remaining c.args.reader.now) (IsAt g.S.Lines.stands c.args.self.now)
    (g.W.Write.contents c.args.writer.now) e at
