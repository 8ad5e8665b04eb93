use Rattle.std.specs.Option.{option_map}
use Rattle.dist_model.specs.Node as model
use Rattle.erl_names.specs.declared.trunk.TrunkId.{TrunkId}
use Rattle.node_lock.specs.Answers.{trunk_in}
use Rattle.node_lock.specs.Applying.{with_opened}
use Rattle.std.proofs.Common.{slice_get, ap, ◌∙◌}
use Rattle.node_history.specs.Telling.{placed}
use Rattle.node_lock.proofs.ResultsTold.{dialed_not, dialed_out}
use Rattle.node_lock.proofs.dialing.dial.Goals as goal

pub returns-in-Err-clause-history : goal.returns-in-Err-clause-history
returns-in-Err-clause-history c =
    (dialed_not c.args.history.now c.act.new.self c.args.outlets.now.items c.args.outlets.now.items c.args.is_known c.args.peer c.args.word c.args.above
    (placed c.act.result) c.act.ensures.tries c.in-Err.e (ap placed c.in-Err.is)).0

pub returns-in-Err-clause-why : goal.returns-in-Err-clause-why
returns-in-Err-clause-why c =
    (dialed_not c.args.history.now c.act.new.self c.args.outlets.now.items c.args.outlets.now.items c.args.is_known c.args.peer c.args.word c.args.above
    (placed c.act.result) c.act.ensures.tries c.in-Err.e (ap placed c.in-Err.is)).1

pub returns-clause-ok : goal.returns-clause-ok
returns-clause-ok c =
    let halves = c.in_ok-halves.halves in
    dialed_out c.args.history.now c.act.new.self c.args.outlets.now.items c.open.new.outlets.items c.args.is_known c.args.peer c.args.word c.args.above
    (placed c.act.result) c.act.ensures.tries
    c.args.greatest.bytes c.in-Ok.told.place halves.ours.trunk.dialer halves.peer c.count_in-count.result (ap placed c.in-Ok.is)
    (c.in_ok-halves.ensures.dialer ∙ ap (λ (m : model.Node). m.mint.name) c.node.ensures) c.in_ok-halves.ensures.peer
    (c.count_in-count.ensures ∙ ap (λ x. option_map (λ (t : TrunkId). t.count) (trunk_in x))
    (c.entry_at.ensures ∙ ap (λ es. slice_get es c.in-Ok.told.place) c.entries.ensures))
    (c.open.ensures ∙ ap
    (λ os. with_opened c.args.greatest.bytes halves.ours.trunk.dialer halves.peer c.in-Ok.told.place c.count_in-count.result os)
    c.in_ok-reserve.ensures.items)
