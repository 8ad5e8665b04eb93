use Rattle.std.proofs.Common.{ap, string_bytes, sym, ◌∙◌}
use Rattle.script_threads.proofs.EndTold.{on_err, on_ok, tells_end, tells_nothing, unfinished_first}
use Rattle.script_threads.specs.Standing.{has_started, nodes_of}
use Rattle.script_threads.specs.declared.threads.Cast.TheVariants as cast
use Rattle.script_threads.proofs.session.ThreadedSession.finish.Goals as goal

pub returns-in-Running-clause-ok : goal.returns-in-Running-clause-ok
returns-in-Running-clause-ok g c =
    on_ok c.finish_running.result
    (tells_end c.args.trace c.args.self.threads.cast (cast.Running c.in-Running.running) (string_bytes c.args.out.now)
    (string_bytes c.finish_running.new.out)
    (sym (ap nodes_of c.in-Running.is) ∙ c.in_ok-cast.ensures.nodes)
    (λ idle. sym c.in-Running.is ∙ c.in_ok-cast.ensures.same idle) c.finish_running.ensures.some)
    c.finish_running.ensures.merged

pub returns-in-Running-clause-err : goal.returns-in-Running-clause-err
returns-in-Running-clause-err g c =
    on_err c.finish_running.result
    (λ e. unfinished_first c.args.self.threads.cast (cast.Running c.in-Running.running) e
    (sym (ap nodes_of c.in-Running.is) ∙ c.in_ok-cast.ensures.nodes)
    (λ idle. sym c.in-Running.is ∙ c.in_ok-cast.ensures.same idle))
    c.finish_running.ensures.err

pub returns-clause-ok : goal.returns-clause-ok
returns-clause-ok g c =
    tells_nothing c.args.trace c.args.self.threads.cast (cast.Named c.in-Named.field-0) (string_bytes c.args.out.now)
    (sym (ap nodes_of c.in-Named.is) ∙ c.in_ok-cast.ensures.nodes) (sym (ap has_started c.in-Named.is) ∙ c.in_ok-cast.ensures.started)
