use Rattle.std.proofs.Common.{None, rules, subst, string_bytes}
use Rattle.std.specs.Io.KnownBytes.{Appends}
use Rattle.script_core.specs.Script.{script}
use Rattle.script_session.specs.Session.{fresh_state}
use Rattle.script_core.proofs.DrawnLemmas.{drawn, ends_all}
use Rattle.script_core.proofs.script.run_drawing.Goals as goal

pub returns-in-Ok-write_whole-clause-draws : goal.returns-in-Ok-write_whole-clause-draws
returns-in-Ok-write_whole-clause-draws g c =
    let old = g.W.Write.contents c.args.writer.now in
    let new = g.W.Write.contents c.write_whole.new.writer in
    drawn (string_bytes c.in-Ok.drawing) old new c.read_all-outcome.result (search rules) c.in-Ok.ensures
    (subst (Appends old new) c.as_bytes.ensures.value c.in-Ok-write_whole.ensures.ok)

pub returns-in-Ok-write_whole-clause-ends : goal.returns-in-Ok-write_whole-clause-ends
returns-in-Ok-write_whole-clause-ends g c =
    let at = fresh_state c.args.options.now.trace c.args.options.now.seed in
    ends_all (g.R.Read.remaining c.args.reader.now)
    (script c.args.options.now.trace c.args.options.now.seed) None None c.read_all-outcome.result
    (let opened = c.new-script.ensures.at at c.new-session.ensures in
    c.read_all-outcome.ensures at (record {
      session = c.draw_picture.ensures.state at opened.session;
      pending = opened.pending;
      number = opened.number;
      one_line = opened.one_line;
      short = opened.short;
    }))
