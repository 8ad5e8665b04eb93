use Rattle.std.proofs.Common.{◌≡◌, ◌++◌, List, None, Some, ap, sym, ◌∙◌, string_bytes}
use Rattle.std.specs.FinMap as fm
use Rattle.std.specs.List.{filter, flat_map}
use Rattle.std.specs.Option.{option_copied}
use Rattle.dist_model.specs.Names.{same_pid}
use Rattle.erl_term.specs.declared.term.Reference.{Reference}
use Rattle.monitor_core.specs.Monitors.{WatchMap}
use Rattle.monitor_core.specs.declared.monitor.Watch.{Watch}
use Rattle.monitor_core.proofs.Walks.{fewer_ahead, next, walked, walked_all, walked_more, walked_none}
use Rattle.node_texts.specs.Forms.{own_in}
use Rattle.node_texts.proofs.Told.{told_more, told_none}
use Rattle.node_texts.proofs.monitors.put_own.Goals as goal

pub loop-reference-init : goal.loop-reference-init
loop-reference-init c =
    let passes = λ (w : Watch). same_pid w.owner c.args.process.now in
    let entries = fm.entries c.watches-watches.result.now.monitors in
    told_none (own_in c.args.form) (walked passes None entries) (string_bytes c.args.out.now) (walked_none passes entries)

pub loop-reference-smaller : goal.loop-reference-smaller
loop-reference-smaller c =
    let passes = λ (w : Watch). same_pid w.owner c.args.process.now in
    let entries = fm.entries c.watches-watches.result.now.monitors in
    let behind = option_copied c.loop-reference.behind in
    let found : next passes behind entries ≡ Some c.in-Some.field-0.now = sym c.next_owned_by.ensures ∙ ap option_copied c.in-Some.is in
    fewer_ahead passes behind entries c.in-Some.field-0.now found

pub loop-reference-preserved : goal.loop-reference-preserved
loop-reference-preserved c =
    let passes = λ (w : Watch). same_pid w.owner c.args.process.now in
    let entries = fm.entries c.watches-watches.result.now.monitors in
    let behind = option_copied c.loop-reference.behind in
    let item = c.in-Some.field-0.now in
    let found : next passes behind entries ≡ Some item = sym c.next_owned_by.ensures ∙ ap option_copied c.in-Some.is in
    let more = walked_more passes behind entries item (fm.entries_sorted c.watches-watches.result.now.monitors) found in
    told_more (own_in c.args.form) (walked passes behind entries) (walked passes (Some item.0) entries) item
    (string_bytes c.args.out.now) (string_bytes c.loop-reference.out) (string_bytes c.put_watch.new.out) more
    c.loop-reference.invariant c.in_ok-put_watch.ensures

pub returns : goal.returns
returns c =
    let passes = λ (w : Watch). same_pid w.owner c.args.process.now in
    let entries = fm.entries c.watches-watches.result.now.monitors in
    let behind = option_copied c.loop-reference.behind in
    let out = string_bytes c.args.out.now in
    let none : next passes behind entries ≡ None = sym c.next_owned_by.ensures ∙ ap option_copied c.in_default.is in
    c.loop-reference.invariant
    ∙ ap (λ (l : List (Reference × Watch)). out ++ flat_map (own_in c.args.form) l) (walked_all passes behind entries none)
    ∙ ap (λ (monitors : WatchMap). out ++ flat_map (own_in c.args.form) (filter (λ entry. passes entry.1) (fm.entries monitors))) c.watches-watches.ensures
