use Rattle.std.proofs.Common.{sym, ap, ◌∙◌}
use Rattle.std.specs.Option.{is_some}
use Rattle.dist_model.specs.Names.{same_name}
use Rattle.monitor_core.proofs.Maps.{is_some_copied}
use Rattle.monitor_core.specs.declared.monitor.Registration.{Registration}
use Rattle.node_plan.specs.Seen.{seen}
use Rattle.node_connections.proofs.Kept.{next_other}
use Rattle.node_connections.proofs.left.has_another_registration.Goals as goal

pub returns : goal.returns
returns c =
    c.is_some.ensures ∙ sym (is_some_copied c.next_towards.result) ∙ ap is_some c.next_towards.ensures
    ∙ next_other c.watchers.result.now.monitors (seen c.args.node.now).registered c.watchers.ensures
    (λ (w : Registration). same_name w.owner.node c.args.peer.now) c.args.gone.now c.requires
