use Rattle.std.proofs.Common.{◌≡◌, ◌++◌, List, None, Some, ap, sym, ◌∙◌, string_bytes}
use Rattle.std.specs.List.{flat_map}
use Rattle.std.specs.Option.{option_copied}
use Rattle.sorted_map.proofs.Walked.{fewer_ahead, walked, walked_all, walked_none, walked_on}
use Rattle.sorted_map.specs.Entries.{next}
use Rattle.dist_model.specs.Node.{ends_of}
use Rattle.erl_term.proofs.Order.{pid_cmp_total}
use Rattle.erl_term.specs.Order.{pid_cmp}
use Rattle.erl_term.specs.declared.term.Pid.{Pid}
use Rattle.link_core.specs.declared.end.End.{End}
use Rattle.node_core.specs.Model.{model_of}
use Rattle.node_texts.specs.Whole.{link_line}
use Rattle.node_texts.proofs.Told.{told_more, told_none}
use Rattle.node_texts.proofs.whole.put_links.Goals as goal

pub loop-partner-init : goal.loop-partner-init
loop-partner-init c =
    let entries = ends_of (model_of c.args.node.now) c.args.process.now in
    told_none link_line (walked pid_cmp None entries) (string_bytes c.args.out.now) (walked_none pid_cmp entries)

pub loop-partner-smaller : goal.loop-partner-smaller
loop-partner-smaller c =
    let entries = ends_of (model_of c.args.node.now) c.args.process.now in
    let behind = option_copied c.loop-partner.behind in
    let found : next pid_cmp behind entries ≡ Some c.in-Some.field-0.now = sym c.next_link.ensures.link ∙ ap option_copied c.in-Some.is in
    fewer_ahead pid_cmp pid_cmp_total behind entries c.in-Some.field-0.now c.next_link.ensures.sorted found

pub loop-partner-preserved : goal.loop-partner-preserved
loop-partner-preserved c =
    let entries = ends_of (model_of c.args.node.now) c.args.process.now in
    let behind = option_copied c.loop-partner.behind in
    let item = c.in-Some.field-0.now in
    let found : next pid_cmp behind entries ≡ Some item = sym c.next_link.ensures.link ∙ ap option_copied c.in-Some.is in
    let more = walked_on pid_cmp pid_cmp_total behind entries item c.next_link.ensures.sorted found in
    told_more link_line (walked pid_cmp behind entries) (walked pid_cmp (Some item.0) entries) item
    (string_bytes c.args.out.now) (string_bytes c.loop-partner.out) (string_bytes c.put_link.new.out) more
    c.loop-partner.invariant c.in_ok-put_link.ensures

pub returns : goal.returns
returns c =
    let entries = ends_of (model_of c.args.node.now) c.args.process.now in
    let behind = option_copied c.loop-partner.behind in
    let none : next pid_cmp behind entries ≡ None = sym c.next_link.ensures.link ∙ ap option_copied c.in_default.is in
    c.loop-partner.invariant
    ∙ ap (λ (l : List (Pid × End)). string_bytes c.args.out.now ++ flat_map link_line l) (walked_all pid_cmp behind entries none)
