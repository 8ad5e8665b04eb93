use Rattle.std.proofs.Common.{◌≡◌, Bool, true, false, cond, ◌||◌, ap, ◌∙◌, rules}
use Rattle.dist_model.specs.Calls.{toward}
use Rattle.dist_model.specs.Commands.{Accepts}
use Rattle.dist_model.specs.Linking.{link, link_new}
use Rattle.dist_model.specs.Names.{same_pid}
use Rattle.dist_model.specs.Node.{end_of, reaches}
use Rattle.dist_model.specs.Work.{Work, at_work}
use Rattle.dist_model.specs.declared.report.Answer.{Answer}
use Rattle.link_core.specs.Table.{is_active}
use Rattle.node_plan.specs.Seen.{seen}
use Rattle.node_plan.proofs.Outcomes.{planned, planned_by}
use Rattle.node_processes.proofs.linking.link.Goals as goal

nothing : (a b : Bool) (x y : Work) → (a || b) ≡ true → cond a x (cond b x y) ≡ x
nothing true b x y h = λ i. x
nothing false b x y h = ap (λ t. cond t x y) h

something : (a b : Bool) (x y : Work) → (a || b) ≡ false → cond a x (cond b x y) ≡ y
something true b x y h = cc
something false b x y h = ap (λ t. cond t x y) h

pub returns-then-same_pid : goal.returns-then-same_pid
returns-then-same_pid c =
    let m = seen c.args.node.now in
    let p = c.args.process.now in
    let q = c.args.partner.now in
    let work = link p q (at_work m) in
    let stays : (same_pid p q || is_active (end_of m p q)) ≡ true = search rules in
    planned m _ Answer.Done (at_work m) c.args.plan.now
    (c.in_ok-acts.ensures.due (toward m q (Accepts Answer.Done work)) ∙ c.in_ok-aims_at.ensures (Accepts Answer.Done work)
    ∙ ap (Accepts Answer.Done)
    (nothing (same_pid p q) (is_active (end_of m p q)) (at_work m) (link_new (reaches m q.node) p q (at_work m)) stays))
    c.requires.told c.requires.carries

pub returns : goal.returns
returns c =
    let m = seen c.args.node.now in
    let p = c.args.process.now in
    let q = c.args.partner.now in
    let work = link p q (at_work m) in
    let new = link_new (reaches m q.node) p q (at_work m) in
    let other : (same_pid p q || is_active (end_of m p q)) ≡ false = search rules in
    rw c.or_refuse.ensures (planned_by m _ Answer.Done new c.link_new.new.plan c.link_new.result
    (c.in_ok-acts.ensures.due (toward m q (Accepts Answer.Done work)) ∙ c.in_ok-aims_at.ensures (Accepts Answer.Done work)
    ∙ ap (Accepts Answer.Done) (something (same_pid p q) (is_active (end_of m p q)) (at_work m) new other))
    (c.link_new.ensures.told m ∙ c.requires.told) (c.link_new.ensures.carries (at_work m) c.requires.carries))
