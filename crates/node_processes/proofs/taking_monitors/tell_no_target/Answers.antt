use Rattle.std.proofs.Common.{◌≡◌, rules, ap, ◌∙◌}
use Rattle.erl_control.specs.Fits.{fits}
use Rattle.link_core.specs.News.{noproc}
use Rattle.node_processes.proofs.Reactions.{noproc_fits}
use Rattle.node_processes.proofs.taking_monitors.tell_no_target.Goals as goal

pub tell_end-requires : goal.tell_end-requires
tell_end-requires c =
    let is : c.in_ok-reason.reason ≡ noproc = search rules in
    ap fits is ∙ noproc_fits
