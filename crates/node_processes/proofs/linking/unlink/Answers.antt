use Rattle.std.proofs.Common.{◌≡◌, true, false, ap, ◌∙◌, rules, Ok, Option, ℕ, cond}
use Rattle.std.specs.Option.{ok_or}
use Rattle.dist_model.specs.Calls.{toward}
use Rattle.dist_model.specs.Commands.{Accepts, Outcome, with_id}
use Rattle.dist_model.specs.Linking.{unlink_as, unlink_by}
use Rattle.dist_model.specs.Node.{end_of}
use Rattle.dist_model.specs.Work.{at_work}
use Rattle.dist_model.specs.declared.report.Answer.{Answer}
use Rattle.erl_names.specs.Draw as kind
use Rattle.erl_names.specs.Minted.{id_of}
use Rattle.erl_term.specs.declared.refusal.Refusal.{Refusal}
use Rattle.link_core.specs.Table.{is_active}
use Rattle.node_plan.specs.Seen.{seen}
use Rattle.node_processes.proofs.NextNumber.{next_is}
use Rattle.node_plan.proofs.Outcomes.{planned, planned_by}
use Rattle.node_processes.proofs.linking.unlink.Goals as goal

pub returns-then-not-is_active : goal.returns-then-not-is_active
returns-then-not-is_active c =
    let m = seen c.args.node.now in
    let p = c.args.process.now in
    let q = c.args.partner.now in
    let due = unlink_by (end_of m p q) p q (at_work m) in
    let none : is_active (end_of m p q) ≡ false = search rules in
    planned m _ Answer.Done (at_work m) c.args.plan.now
    (c.in_ok-acts.ensures.due (toward m q due) ∙ c.in_ok-aims_at.ensures due
    ∙ ap (λ b. cond b (with_id (id_of m.mint kind.UnlinkId) (λ id. Accepts Answer.Done (unlink_as id p q (at_work m))))
    (Accepts Answer.Done (at_work m))) none)
    c.requires.told c.requires.carries

pub returns : goal.returns
returns c =
    let m = seen c.args.node.now in
    let p = c.args.process.now in
    let q = c.args.partner.now in
    let id = c.in_ok-id.id in
    let due = unlink_by (end_of m p q) p q (at_work m) in
    let active : is_active (end_of m p q) ≡ true = search rules in
    let at : ok_or (id_of m.mint kind.UnlinkId) Refusal.IdsUsedUp ≡ Ok id = search rules in
    let next = next_is m.mint kind.UnlinkId Refusal.IdsUsedUp id at in
    let of : Option ℕ → Outcome = λ o. with_id o (λ id. Accepts Answer.Done (unlink_as id p q (at_work m))) in
    let work = unlink_as id p q (at_work m) in
    rw c.or_refuse.ensures (planned_by m _ Answer.Done work c.unlink_as.new.plan c.unlink_as.result
    (c.in_ok-acts.ensures.due (toward m q due) ∙ c.in_ok-aims_at.ensures due
    ∙ ap (λ b. cond b (of (id_of m.mint kind.UnlinkId)) (Accepts Answer.Done (at_work m))) active ∙ ap of next.drawn)
    (c.unlink_as.ensures.told m ∙ c.requires.told) (c.unlink_as.ensures.carries (at_work m) c.requires.carries))
