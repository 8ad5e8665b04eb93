use Rattle.std.proofs.Common.{ap, sym, ◌∙◌}
use Rattle.script_threads.proofs.EndTold.{on_err, unfinished_first}
use Rattle.script_threads.proofs.ScriptGiven.{gives_nothing, gives_script, if_ok}
use Rattle.script_threads.specs.Standing.{has_started, nodes_of}
use Rattle.script_threads.specs.declared.threads.Cast.TheVariants as cast
use Rattle.script_threads.proofs.session.ThreadedSession.finish_as_script.Goals as goal

pub returns-in-Running-clause-ok : goal.returns-in-Running-clause-ok
returns-in-Running-clause-ok g c =
    if_ok c.repeat_running.result
    (λ script. gives_script c.args.seed c.args.self.threads.cast (cast.Running c.in-Running.running) script.items
    (sym (ap nodes_of c.in-Running.is) ∙ c.in_ok-cast.ensures.nodes)
    (λ idle. sym c.in-Running.is ∙ c.in_ok-cast.ensures.same idle) c.repeat_running.ensures.some)
    c.repeat_running.ensures.repeated

pub returns-in-Running-clause-err : goal.returns-in-Running-clause-err
returns-in-Running-clause-err g c =
    on_err c.repeat_running.result
    (λ e. unfinished_first c.args.self.threads.cast (cast.Running c.in-Running.running) e
    (sym (ap nodes_of c.in-Running.is) ∙ c.in_ok-cast.ensures.nodes)
    (λ idle. sym c.in-Running.is ∙ c.in_ok-cast.ensures.same idle))
    c.repeat_running.ensures.err

pub returns-clause-ok : goal.returns-clause-ok
returns-clause-ok g c =
    gives_nothing c.args.seed c.args.self.threads.cast (cast.Named c.in-Named.field-0) c.new.result.items
    (sym (ap nodes_of c.in-Named.is) ∙ c.in_ok-cast.ensures.nodes) (sym (ap has_started c.in-Named.is) ∙ c.in_ok-cast.ensures.started)
    c.new.ensures.items
