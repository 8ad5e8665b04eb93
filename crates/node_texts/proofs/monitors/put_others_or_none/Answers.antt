use Rattle.std.proofs.Common.{◌≡◌, ◌++◌, ℕ, List, None, Some, OnOk, ap, codes, sym, refl, rules, subst, ◌∙◌, string_bytes}
use Rattle.std.specs.FinMap as fm
use Rattle.std.specs.Option.{option_copied}
use Rattle.dist_model.specs.Names.{same_pid}
use Rattle.monitor_core.specs.Monitors.{RegistrationMap}
use Rattle.monitor_core.specs.declared.monitor.Registration.{Registration}
use Rattle.monitor_core.proofs.Walks.{next}
use Rattle.node_texts.specs.Monitors.{or_none, other_text}
use Rattle.node_texts.proofs.Told.{none_told, some_told, told}
use Rattle.node_texts.proofs.monitors.put_others_or_none.Goals as goal

pub returns-in-Some : goal.returns-in-Some
returns-in-Some c =
    let passes = λ (w : Registration). same_pid w.held c.args.process.now in
    let entries = fm.entries c.watchers.result.now.monitors in
    let found : next passes None entries ≡ Some c.in-Some.field-0.now = sym c.first_held.ensures ∙ ap option_copied c.in-Some.is in
    let out = string_bytes c.args.out.now in
    subst (λ (text : List ℕ). OnOk c.put_others.result (string_bytes c.put_others.new.out ≡ out ++ text))
    (subst (λ (monitors : RegistrationMap). told passes other_text (fm.entries monitors) ≡ or_none (told passes other_text (fm.entries monitors)))
    c.watchers.ensures (sym (some_told passes other_text (λ entry rest. refl) entries c.in-Some.field-0.now found)))
    c.put_others.ensures

pub returns-in-None : goal.returns-in-None
returns-in-None c =
    let passes = λ (w : Registration). same_pid w.held c.args.process.now in
    let entries = fm.entries c.watchers.result.now.monitors in
    let none : next passes None entries ≡ None = sym c.first_held.ensures ∙ ap option_copied c.in-None.is in
    let out = string_bytes c.args.out.now in
    let pushed : OnOk c.push_str.result (string_bytes c.push_str.new.self ≡ out ++ codes " none") = search rules in
    subst (λ (text : List ℕ). OnOk c.push_str.result (string_bytes c.push_str.new.self ≡ out ++ text))
    (sym (none_told passes other_text entries none)
    ∙ ap (λ (monitors : RegistrationMap). or_none (told passes other_text (fm.entries monitors))) c.watchers.ensures) pushed
