use Rattle.std.proofs.Common.{◌≡◌, List, None, Some, ap, sym, ◌∙◌, subst, rules}
use Rattle.std.specs.Option.{option_copied}
use Rattle.sorted_map.proofs.Walked.{fewer_ahead, walked, walked_all, walked_none, walked_on}
use Rattle.sorted_map.specs.Entries.{next}
use Rattle.dist_model.specs.Node.{ends_of}
use Rattle.dist_model.specs.Work.{post_all}
use Rattle.erl_term.proofs.Order.{pid_cmp_total}
use Rattle.erl_term.specs.Order.{pid_cmp}
use Rattle.erl_term.specs.declared.term.Pid.{Pid}
use Rattle.link_core.specs.declared.end.End.{End}
use Rattle.node_plan.specs.Carried.{CarriesOut}
use Rattle.node_plan.specs.Parts.{link_in}
use Rattle.node_processes.specs.Exiting.{exit_to, exits_to}
use Rattle.node_plan.specs.Seen.{seen}
use Rattle.node_plan.specs.declared.change.LinkChange.{LinkChange}
use Rattle.node_processes.proofs.LastSignals.{post_more}
use Rattle.node_processes.proofs.ending.post_exits.Goals as goal

pub loop-partner-init : goal.loop-partner-init
loop-partner-init c =
    let m = seen c.args.node.now in
    let p = c.args.process.now in
    let x = c.args.reason.now in
    let planned = link_in c.args.plan.now.change in
    record {
      told = λ w h. subst (CarriesOut c.args.plan.now m)
          (ap (λ (l : List (Pid × End)). post_all (exits_to planned p x l) w) (sym (walked_none pid_cmp (ends_of m p)))) h;
      answer = search rules;
      change = search rules;
      watches = search rules;
      watchers = search rules;
    }

pub loop-partner-smaller : goal.loop-partner-smaller
loop-partner-smaller c =
    let m = seen c.args.node.now in
    let p = c.args.process.now in
    let behind = option_copied c.loop-partner.behind in
    let found : next pid_cmp behind (ends_of m p) ≡ Some c.in-Some.field-0.now = sym c.next_link.ensures.link ∙ ap option_copied c.in-Some.is in
    fewer_ahead pid_cmp pid_cmp_total behind (ends_of m p) c.in-Some.field-0.now c.next_link.ensures.sorted found

pub loop-partner-preserved : goal.loop-partner-preserved
loop-partner-preserved c =
    let m = seen c.args.node.now in
    let p = c.args.process.now in
    let x = c.args.reason.now in
    let entries = ends_of m p in
    let planned = link_in c.args.plan.now.change in
    let behind = option_copied c.loop-partner.behind in
    let item = c.in-Some.field-0.now in
    let found : next pid_cmp behind entries ≡ Some item = sym c.next_link.ensures.link ∙ ap option_copied c.in-Some.is in
    let more = walked_on pid_cmp pid_cmp_total behind entries item c.next_link.ensures.sorted found in
    record {
      told = λ w h.
          let before = post_all (exits_to planned p x (walked pid_cmp behind entries)) w in
          let one : CarriesOut c.post_exit.new.plan m (post_all (exit_to (link_in c.loop-partner.plan.change) p x item.0 item.1) before) =
          c.in_ok-post_exit.ensures.carries before (c.loop-partner.invariant.told w h) in
          subst (CarriesOut c.post_exit.new.plan m) (ap (λ (l : LinkChange). post_all (exit_to l p x item.0 item.1) before)
          (ap link_in c.loop-partner.invariant.change) ∙ sym
          (post_more (λ y. exit_to planned p x y.0 y.1) (walked pid_cmp behind entries) (walked pid_cmp (Some item.0) entries) item w more)) one;
      answer = c.in_ok-post_exit.ensures.answer ∙ c.loop-partner.invariant.answer;
      change = c.in_ok-post_exit.ensures.change ∙ c.loop-partner.invariant.change;
      watches = c.in_ok-post_exit.ensures.watches ∙ c.loop-partner.invariant.watches;
      watchers = c.in_ok-post_exit.ensures.watchers ∙ c.loop-partner.invariant.watchers;
    }

pub returns-clause-carries : goal.returns-clause-carries
returns-clause-carries c = λ w h.
    let m = seen c.args.node.now in
    let p = c.args.process.now in
    let x = c.args.reason.now in
    let planned = link_in c.args.plan.now.change in
    let behind = option_copied c.loop-partner.behind in
    let none : next pid_cmp behind (ends_of m p) ≡ None = sym c.next_link.ensures.link ∙ ap option_copied c.in_default.is in
    subst (CarriesOut c.loop-partner.plan m)
    (ap (λ (l : List (Pid × End)). post_all (exits_to planned p x l) w) (walked_all pid_cmp behind (ends_of m p) none))
    (c.loop-partner.invariant.told w h)
