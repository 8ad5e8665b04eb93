use Rattle.std.proofs.Common.{◌≡◌, Bool, true, false, cond, sym, subst, rules}
use Rattle.dist_model.specs.Monitoring.{watch}
use Rattle.dist_model.specs.Node.{reaches}
use Rattle.dist_model.specs.Telling.{asked, object}
use Rattle.dist_model.specs.Work.{at_work, draw, post, put}
use Rattle.erl_names.specs.Draw as kind
use Rattle.exit_core.specs.Messages.{down_term}
use Rattle.link_core.specs.News.{noconnection}
use Rattle.monitor_core.specs.Monitors.{target_node, watch_of}
use Rattle.node_plan.specs.Carried.{Carries}
use Rattle.node_plan.specs.Seen.{seen}
use Rattle.node_plan.specs.Targets.{target_of}
use Rattle.node_processes.proofs.monitoring.monitor_as.Goals as goal

pub returns-then-reaches-clause-carries : goal.returns-then-reaches-clause-carries
returns-then-reaches-clause-carries c = λ h.
    let m = seen c.args.node.now in
    let p = c.args.owner.now in
    let target = target_of c.args.target in
    let r = c.args.reference.now in
    let drawn = draw kind.Reference (at_work m) in
    let there : reaches m (target_node target) ≡ true = search rules in
    let P : Bool → Type 0 =
    λ b. Carries m
    (cond b (post (asked p target r) (watch r (watch_of p target) drawn)) (put p (down_term r (object target) noconnection) drawn))
    c.monitor_reached.new.plan c.monitor_reached.result in
    subst P (sym there) (c.monitor_reached.ensures.carries drawn (c.draw_reference.ensures.carries m (at_work m) h))

pub returns-else-reaches-clause-carries : goal.returns-else-reaches-clause-carries
returns-else-reaches-clause-carries c = λ h.
    let m = seen c.args.node.now in
    let p = c.args.owner.now in
    let target = target_of c.args.target in
    let r = c.args.reference.now in
    let drawn = draw kind.Reference (at_work m) in
    let there : reaches m (target_node target) ≡ false = search rules in
    let P : Bool → Type 0 =
    λ b. Carries m
    (cond b (post (asked p target r) (watch r (watch_of p target) drawn)) (put p (down_term r (object target) noconnection) drawn))
    c.monitor_lost.new.plan c.monitor_lost.result in
    subst P (sym there) (c.monitor_lost.ensures.carries m drawn c.requires.living (c.draw_reference.ensures.carries m (at_work m) h))
