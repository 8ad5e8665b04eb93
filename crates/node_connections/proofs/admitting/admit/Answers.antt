use Rattle.std.proofs.Common.{◌≡◌, true, false, rules, sym, ap, subst, ◌∙◌}
use Rattle.dist_model.specs.Admission.{answer_to, others}
use Rattle.dist_model.specs.Commands.{Accepts}
use Rattle.dist_model.specs.Work.{at_work}
use Rattle.erl_handshake.specs.Admission.{admission}
use Rattle.erl_handshake.specs.declared.admission.Admission.{Admission}
use Rattle.node_connections.proofs.Named.{one_ends}
use Rattle.node_connections.specs.Admitted.{admitted_by}
use Rattle.node_plan.proofs.Outcomes.{made_by}
use Rattle.node_plan.specs.Seen.{seen}
use Rattle.node_connections.proofs.admitting.admit.Goals as goal

pub returns : goal.returns
returns c =
    let m = seen c.args.node.now in
    let side = c.args.side.now in
    let t = side.trunk in
    let due = c.in-Some.due in
    let is : due ≡ admission t.dialer m.mint.name t.count (others m t.dialer) = search rules in
    let one = one_ends m t.dialer m.mint.name t.count c.args.node.now.steady.attempts in
    rw c.or_refuse.ensures (made_by m _ (answer_to due.progress)
    (admitted_by due side c.args.challenge c.args.introduction (at_work m)) c.carry_out.new.plan c.carry_out.result
    (ap (λ (d : Admission). Accepts (answer_to d.progress) (admitted_by d side c.args.challenge c.args.introduction (at_work m))) (sym is))
    (c.carry_out.ensures.told m ∙ c.answers.ensures.told m ∙ c.answer_to.ensures)
    (c.carry_out.ensures.makes (subst (λ (d : Admission). d.ends_dialing ≡ true → d.ends_waiting ≡ false) (sym is) one) c.requires.none
    (c.answers.ensures.makes m (at_work m) c.requires.makes)))
