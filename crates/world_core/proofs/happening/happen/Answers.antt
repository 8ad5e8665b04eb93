use Rattle.std.proofs.Common.{refl, subst, sym}
use Rattle.node_core.specs.Model.{model_of}
use Rattle.node_core.specs.declared.node_event.NodeEvent.TheVariants as event
use Rattle.world_core.proofs.Planned.{Happens, as_sent}
use Rattle.world_core.proofs.happening.happen.Goals as goal

pub returns-in-Call : goal.returns-in-Call
returns-in-Call c = λ names.
    let m = model_of c.args.node.now in
    let new = model_of c.call.new.node in
    subst (λ e. Happens e names m new c.args.lists.now c.call.new.lists c.args.is_known c.call.result) (sym c.in-Call.is)
    (λ first h. as_sent (event.Call c.in-Call.command) _ m new c.args.lists.now c.call.new.lists c.call.result
    (λ n t x frames. refl) (c.call.ensures names))

pub returns-in-Local : goal.returns-in-Local
returns-in-Local c = λ names.
    let m = model_of c.args.node.now in
    let new = model_of c.local.new.node in
    subst (λ e. Happens e names m new c.args.lists.now c.local.new.lists c.args.is_known c.local.result) (sym c.in-Local.is)
    (λ first h.
    as_sent (event.Local) _ m new c.args.lists.now c.local.new.lists c.local.result (λ n t x frames. refl) (c.local.ensures names))

pub returns-in-Lose : goal.returns-in-Lose
returns-in-Lose c = λ names.
    let m = model_of c.args.node.now in
    let new = model_of c.lose.new.node in
    subst (λ e. Happens e names m new c.args.lists.now c.lose.new.lists c.args.is_known c.lose.result) (sym c.in-Lose.is)
    (λ first h. as_sent (event.Lose c.in-Lose.trunk) _ m new c.args.lists.now c.lose.new.lists c.lose.result
    (λ n t x frames. refl) (c.lose.ensures names))

pub returns-in-Sweep : goal.returns-in-Sweep
returns-in-Sweep c = λ names.
    let m = model_of c.args.node.now in
    let new = model_of c.sweep.new.node in
    subst (λ e. Happens e names m new c.args.lists.now c.sweep.new.lists c.args.is_known c.sweep.result) (sym c.in-Sweep.is)
    (λ first h.
    as_sent (event.Sweep) _ m new c.args.lists.now c.sweep.new.lists c.sweep.result (λ n t x frames. refl) (c.sweep.ensures names))

pub returns-in-Arrive : goal.returns-in-Arrive
returns-in-Arrive c = λ names.
    let m = model_of c.args.node.now in
    let new = model_of c.arrive.new.node in
    subst (λ e. Happens e names m new c.args.lists.now c.arrive.new.lists c.args.is_known c.arrive.result) (sym c.in-Arrive.is)
    (λ first h. c.arrive.ensures names first h)

pub returns-in-Stop : goal.returns-in-Stop
returns-in-Stop c = λ names.
    let m = model_of c.args.node.now in
    let new = model_of c.stop.new.node in
    subst (λ e. Happens e names m new c.args.lists.now c.args.lists.now c.args.is_known c.stop.result) (sym c.in-Stop.is)
    (λ first h. as_sent event.Stop _ m new c.args.lists.now c.args.lists.now c.stop.result (λ n t x frames. refl) (c.stop.ensures names))

pub returns-in-Start : goal.returns-in-Start
returns-in-Start c = λ names.
    let m = model_of c.args.node.now in
    let new = model_of c.start.new.node in
    subst (λ e. Happens e names m new c.args.lists.now c.args.lists.now c.args.is_known c.start.result) (sym c.in-Start.is)
    (λ first h. as_sent event.Start _ m new c.args.lists.now c.args.lists.now c.start.result (λ n t x frames. refl) (c.start.ensures names))
