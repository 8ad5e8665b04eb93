use Rattle.std.proofs.Common.{◌≡◌, ◌++◌, ℕ, ap, codes, length, rules, string_bytes, subst, sym, ◌∙◌}
use Rattle.script_explorer.specs.Printed.{AreNumbered, shown_texts, unmet_texts}
use Rattle.script_explorer.specs.Texts.{IsSummary}
use Rattle.script_explorer.proofs.explored.text_of.Goals as goal

pub returns : goal.returns
returns c =
    let all = c.in_ok-put_outcomes.ensures in
    let last = c.in_ok-unmet.ensures in
    let summary = string_bytes c.in_ok-summary.summary in
    let summed : IsSummary (length c.in_ok-outcomes.field-0.outcomes.items) summary = search rules in
    let parts : c.put_broken.new.out.items ≡ codes "# " ++ summary ++ codes "\n" ++ shown_texts all.0 ++ unmet_texts last.0 =
    search rules in
    record {
      summary = summary;
      shown = all.0;
      summed = subst (λ (count : ℕ). IsSummary count summary) (sym (all.1 ∙ ap length c.deref.ensures.value)) summed;
      numbered = subst (λ (count : ℕ). AreNumbered 1 count all.0) (sym all.1) all.2;
      unmet = last.0;
      text = parts;
      told = sym last.2;
    }
