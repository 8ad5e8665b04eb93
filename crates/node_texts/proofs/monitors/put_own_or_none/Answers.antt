use Rattle.std.proofs.Common.{◌≡◌, ◌++◌, ℕ, List, None, Some, OnOk, ap, codes, sym, refl, rules, subst, ◌∙◌, string_bytes}
use Rattle.std.specs.FinMap as fm
use Rattle.std.specs.Option.{option_copied}
use Rattle.dist_model.specs.Names.{same_pid}
use Rattle.monitor_core.specs.Monitors.{WatchMap}
use Rattle.monitor_core.specs.declared.monitor.Watch.{Watch}
use Rattle.monitor_core.proofs.Walks.{next}
use Rattle.node_texts.specs.Monitors.{or_none, own_text}
use Rattle.node_texts.proofs.Told.{none_told, some_told, told}
use Rattle.node_texts.proofs.monitors.put_own_or_none.Goals as goal

pub returns-in-Some : goal.returns-in-Some
returns-in-Some c =
    let passes = λ (w : Watch). same_pid w.owner c.args.process.now in
    let entries = fm.entries c.watches.result.now.monitors in
    let found : next passes None entries ≡ Some c.in-Some.field-0.now = sym c.first_owned_by.ensures ∙ ap option_copied c.in-Some.is in
    let out = string_bytes c.args.out.now in
    subst (λ (text : List ℕ). OnOk c.put_own.result (string_bytes c.put_own.new.out ≡ out ++ text))
    (subst (λ (monitors : WatchMap). told passes own_text (fm.entries monitors) ≡ or_none (told passes own_text (fm.entries monitors)))
    c.watches.ensures (sym (some_told passes own_text (λ entry rest. refl) entries c.in-Some.field-0.now found)))
    c.put_own.ensures

pub returns-in-None : goal.returns-in-None
returns-in-None c =
    let passes = λ (w : Watch). same_pid w.owner c.args.process.now in
    let entries = fm.entries c.watches.result.now.monitors in
    let none : next passes None entries ≡ None = sym c.first_owned_by.ensures ∙ ap option_copied c.in-None.is in
    let out = string_bytes c.args.out.now in
    let pushed : OnOk c.push_str.result (string_bytes c.push_str.new.self ≡ out ++ codes " none") = search rules in
    subst (λ (text : List ℕ). OnOk c.push_str.result (string_bytes c.push_str.new.self ≡ out ++ text))
    (sym (none_told passes own_text entries none)
    ∙ ap (λ (monitors : WatchMap). or_none (told passes own_text (fm.entries monitors))) c.watches.ensures) pushed
