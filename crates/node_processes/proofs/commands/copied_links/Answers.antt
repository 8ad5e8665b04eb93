use Rattle.std.proofs.Common.{◌≡◌, List, ◌∷◌, [], ◌++◌, None, Some, rules, ap, sym, ◌∙◌}
use Rattle.std.specs.Option.{option_copied}
use Rattle.sorted_map.proofs.Walked.{fewer_ahead, walked_all, walked_none, walked_on}
use Rattle.sorted_map.specs.Entries.{next}
use Rattle.dist_model.specs.Node.{ends_of}
use Rattle.erl_term.proofs.Order.{pid_cmp_total}
use Rattle.erl_term.specs.Order.{pid_cmp}
use Rattle.erl_term.specs.declared.term.Pid.{Pid}
use Rattle.link_core.specs.declared.end.End.{End}
use Rattle.node_plan.specs.Seen.{seen}
use Rattle.node_processes.proofs.commands.copied_links.Goals as goal

pub loop-partner-init : goal.loop-partner-init
loop-partner-init c =
    c.new-entries.ensures.items ∙ sym (walked_none pid_cmp (ends_of (seen c.args.node.now) c.args.process.now))

pub loop-partner-smaller : goal.loop-partner-smaller
loop-partner-smaller c =
    let entries = ends_of (seen c.args.node.now) c.args.process.now in
    let behind = option_copied c.loop-partner.behind in
    let found : next pid_cmp behind entries ≡ Some c.in-Some.field-0.now = sym c.next_link.ensures.link ∙ ap option_copied c.in-Some.is in
    fewer_ahead pid_cmp pid_cmp_total behind entries c.in-Some.field-0.now c.next_link.ensures.sorted found

pub loop-partner-preserved : goal.loop-partner-preserved
loop-partner-preserved c =
    let entries = ends_of (seen c.args.node.now) c.args.process.now in
    let behind = option_copied c.loop-partner.behind in
    let item = c.in-Some.field-0.now in
    let found : next pid_cmp behind entries ≡ Some item = sym c.next_link.ensures.link ∙ ap option_copied c.in-Some.is in
    let more = walked_on pid_cmp pid_cmp_total behind entries item c.next_link.ensures.sorted found in
    let same : c.in_ok-clone.field-0 ≡ item.0 = search rules in
    c.in_ok-push.ensures.items ∙ ap (λ (partner : Pid). c.loop-partner.entries.items ++ (partner, item.1) ∷ []) same
    ∙ ap (λ (l : List (Pid × End)). l ++ item ∷ []) c.loop-partner.invariant ∙ sym more

pub returns : goal.returns
returns c =
    let entries = ends_of (seen c.args.node.now) c.args.process.now in
    let behind = option_copied c.loop-partner.behind in
    let none : next pid_cmp behind entries ≡ None = sym c.next_link.ensures.link ∙ ap option_copied c.in_default.is in
    c.loop-partner.invariant ∙ walked_all pid_cmp behind entries none
