use Rattle.std.proofs.Common.{◌≡◌, sym, subst, ◌∙◌, false, rules}
use Rattle.dist_model.specs.Exits.{sent_exit}
use Rattle.dist_model.specs.Node.{traps}
use Rattle.exit_core.specs.Reaction.{reaction}
use Rattle.node_plan.specs.Carried.{Carries, IsFree}
use Rattle.node_processes.specs.Exiting.{FitsWhereEnds}
use Rattle.node_plan.specs.Seen.{seen}
use Rattle.node_plan.specs.declared.change.Change.{Change}
use Rattle.node_processes.proofs.Reactions.{sent_fits, reacts_to_other}
use Rattle.node_processes.proofs.reacting.other_exit.Goals as goal

pub carry_out-requires-clause-fits : goal.carry_out-requires-clause-fits
carry_out-requires-clause-fits c =
    let m = seen c.args.node.now in
    let p = c.args.process.now in
    let q = c.args.sender.now in
    let x = c.args.reason in
    let from : c.in_ok-clone.field-0 ≡ q = search rules in
    let is : c.in_ok-reaction.reaction ≡ reaction (traps m p) (sent_exit p q x) = c.in_ok-reaction.ensures
    ∙ (λ i.
    reaction (traps m p) (record { sender = from i; reason = x; link = false; is_active = false; is_own = c.same_pid.ensures i })) in
    subst FitsWhereEnds (sym is) (sent_fits (traps m p) p q x c.requires.fits)

pub returns-clause-carries : goal.returns-clause-carries
returns-clause-carries c = λ w h.
    let m = seen c.args.node.now in
    let p = c.args.process.now in
    let q = c.args.sender.now in
    let x = c.args.reason in
    let r = c.in_ok-reaction.reaction in
    let from : c.in_ok-clone.field-0 ≡ q = search rules in
    let is : r ≡ reaction (traps m p) (sent_exit p q x) = c.in_ok-reaction.ensures
    ∙ (λ i.
    reaction (traps m p) (record { sender = from i; reason = x; link = false; is_active = false; is_own = c.same_pid.ensures i })) in
    let free : IsFree c.args.plan.now.change p = subst (λ (planned : Change). IsFree planned p) (sym c.requires.none) tt in
    subst (λ v. Carries m v c.carry_out.new.plan c.carry_out.result) (sym (reacts_to_other c.args.plan.now m w p q x r h free is))
    (c.carry_out.ensures.carries w h)
