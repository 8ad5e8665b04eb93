use Rattle.std.proofs.Common.{◌≡◌, List, ◌∷◌, [], None, Some, ap, sym, ◌∙◌, subst, cond, rules}
use Rattle.std.specs.FinMap as fm
use Rattle.std.specs.Option.{option_copied}
use Rattle.dist_model.specs.Exits.{demonitors}
use Rattle.dist_model.specs.Names.{same_pid}
use Rattle.dist_model.specs.Work.{Addressed, post_all}
use Rattle.dist_model.specs.Telling.{taken_back}
use Rattle.erl_term.specs.declared.term.Reference.{Reference}
use Rattle.monitor_core.specs.Monitors.{WatchMap}
use Rattle.monitor_core.specs.declared.monitor.Watch.{Watch}
use Rattle.monitor_core.proofs.Walks.{fewer_ahead, next, walked, walked_all, walked_more, walked_none}
use Rattle.node_plan.specs.Carried.{CarriesOut}
use Rattle.node_plan.specs.Seen.{seen}
use Rattle.node_processes.proofs.LastSignals.{flat_passing, post_more}
use Rattle.node_processes.proofs.ending.post_demonitors.Goals as goal

pub loop-reference-init : goal.loop-reference-init
loop-reference-init c =
    let m = seen c.args.node.now in
    let p = c.args.process.now in
    let passes = λ (w : Watch). same_pid w.owner p in
    let entries = fm.entries c.watches-watches.result.now.monitors in
    record {
      told = λ w h. subst (CarriesOut c.args.plan.now m)
          (ap (λ (l : List (Reference × Watch)). post_all (demonitors p l) w) (sym (walked_none passes entries))) h;
      answer = search rules;
      change = search rules;
      watches = search rules;
      watchers = search rules;
    }

pub loop-reference-smaller : goal.loop-reference-smaller
loop-reference-smaller c =
    let m = seen c.args.node.now in
    let p = c.args.process.now in
    let passes = λ (w : Watch). same_pid w.owner p in
    let entries = fm.entries c.watches-watches.result.now.monitors in
    let behind = option_copied c.loop-reference.behind in
    let found : next passes behind entries ≡ Some c.in-Some.field-0.now = sym c.next_owned_by.ensures ∙ ap option_copied c.in-Some.is in
    fewer_ahead passes behind entries c.in-Some.field-0.now found

pub loop-reference-preserved : goal.loop-reference-preserved
loop-reference-preserved c =
    let m = seen c.args.node.now in
    let p = c.args.process.now in
    let passes = λ (w : Watch). same_pid w.owner p in
    let entries = fm.entries c.watches-watches.result.now.monitors in
    let told_of = λ (e : Reference × Watch). cond (same_pid e.1.owner p) (taken_back p e.1.target e.0 ∷ []) [] in
    let behind = option_copied c.loop-reference.behind in
    let found : next passes behind entries ≡ Some c.in-Some.field-0.now = sym c.next_owned_by.ensures ∙ ap option_copied c.in-Some.is in
    let item = c.in-Some.field-0.now in
    let more = walked_more passes behind entries item (fm.entries_sorted c.watches-watches.result.now.monitors) found in
    record {
      told = λ w h.
          subst (CarriesOut c.post_demonitor.new.plan m)
          (sym (post_more told_of (walked passes behind entries) (walked passes (Some item.0) entries) item w more))
          (c.in_ok-post_demonitor.ensures.carries (post_all (demonitors p (walked passes behind entries)) w)
          (c.loop-reference.invariant.told w h));
      answer = c.in_ok-post_demonitor.ensures.answer ∙ c.loop-reference.invariant.answer;
      change = c.in_ok-post_demonitor.ensures.change ∙ c.loop-reference.invariant.change;
      watches = c.in_ok-post_demonitor.ensures.watches ∙ c.loop-reference.invariant.watches;
      watchers = c.in_ok-post_demonitor.ensures.watchers ∙ c.loop-reference.invariant.watchers;
    }

pub returns-clause-carries : goal.returns-clause-carries
returns-clause-carries c = λ w h.
    let m = seen c.args.node.now in
    let p = c.args.process.now in
    let passes = λ (w : Watch). same_pid w.owner p in
    let entries = fm.entries c.watches-watches.result.now.monitors in
    let behind = option_copied c.loop-reference.behind in
    let none : next passes behind entries ≡ None = sym c.next_owned_by.ensures ∙ ap option_copied c.in_default.is in
    let all = walked_all passes behind entries none in
    subst (CarriesOut c.loop-reference.plan m)
    (ap (λ (l : List (Reference × Watch)). post_all (demonitors p l) w) all
    ∙ ap (λ (letters : List Addressed). post_all letters w) (flat_passing (λ (e : Reference × Watch). same_pid e.1.owner p)
    (λ (e : Reference × Watch). taken_back p e.1.target e.0 ∷ []) entries)
    ∙ ap (λ (monitors : WatchMap). post_all (demonitors p (fm.entries monitors)) w) c.watches-watches.ensures)
    (c.loop-reference.invariant.told w h)
