use Rattle.script_core.proofs.exploring.run_exploring.Goals as goal

pub returns-in-Err : goal.returns-in-Err
returns-in-Err g c = c.in-Err.ensures c.args.options.now.form c.args.options.now.seed (g.W.Write.contents c.args.writer.now)
