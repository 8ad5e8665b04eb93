use Rattle.std.proofs.Common.{◌≡◌, map, rules, subst, sym, ap, ◌∙◌}
use Rattle.script_core.proofs.Merging.{before_the_first}
use Rattle.script_core.proofs.EndsRepeating.{ends_before, ends_given}
use Rattle.script_core.proofs.ScriptLemmas.{for_known}
use Rattle.script_core.specs.Threaded.{HasRun, RunsScript, fresh_known}
use Rattle.script_core.specs.declared.script.Outcome.TheVariants as outcome
use Rattle.script_threads.specs.declared.session.ThreadedSession.{ThreadedSession}
use Rattle.script_core.proofs.repeating.run_repeating.Goals as goal

pub returns-then-eq : goal.returns-then-eq
returns-then-eq g c =
    let remaining = g.R.Read.remaining c.args.reader.now in
    let session = c.into_session-session.result.session in
    let none = ap (λ xs. map (λ x. x.items) xs) c.keeping_lines.ensures.lines in
    let kept = c.new-script.ensures.kept fresh_known (c.keeping_lines.ensures.known, sym none) in
    let nothing = ap (λ it. map (λ x. x.items) it.lines.items) c.new-script.ensures.session ∙ none in
    let ran : c.read_all-outcome.result ≡ outcome.Ran = search rules in
    ends_given 1 session remaining (g.W.Write.contents c.args.writer.now)
    (g.W.Write.contents c.write_script.new.writer) c.write_script.result
    (for_known remaining (λ bytes. HasRun fresh_known bytes session) (λ bytes e.
    subst (λ (it : ThreadedSession). HasRun fresh_known bytes it) (ap (λ it. it.session) (sym c.into_session-session.ensures))
    (subst (RunsScript fresh_known bytes c.read_all-outcome.new.script.session.session) ran
    (c.read_all-outcome.ensures fresh_known bytes (before_the_first c.new-script.result bytes remaining e kept nothing)))))
    c.write_script.ensures

pub returns : goal.returns
returns g c =
    let remaining = g.R.Read.remaining c.args.reader.now in
    let none = ap (λ xs. map (λ x. x.items) xs) c.keeping_lines.ensures.lines in
    let kept = c.new-script.ensures.kept fresh_known (c.keeping_lines.ensures.known, sym none) in
    let nothing = ap (λ it. map (λ x. x.items) it.lines.items) c.new-script.ensures.session ∙ none in
    ends_before 1 c.read_all-outcome.new.script.session.session remaining (g.W.Write.contents c.args.writer.now)
    c.read_all-outcome.result (search rules) (λ bytes e.
    c.read_all-outcome.ensures fresh_known bytes (before_the_first c.new-script.result bytes remaining e kept nothing))
