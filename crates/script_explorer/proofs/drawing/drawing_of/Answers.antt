use Rattle.std.proofs.Common.{◌∷◌, ◌++◌, List, ℕ, ap, length, rules, string_bytes, subst, sym, ◌∙◌}
use Rattle.script_explorer.specs.Drawn.{IsDocumentOf, unmet_headings}
use Rattle.script_explorer.specs.Printed.{AreNumbered}
use Rattle.script_explorer.specs.Texts.{IsSummary}
use Rattle.script_explorer.proofs.drawing.drawing_of.Goals as goal

pub returns : goal.returns
returns c =
    let all = c.in_ok-panels.ensures in
    let last = c.in_ok-unmet.ensures in
    let lines = c.in_ok-caption.ensures in
    let summary = string_bytes c.in_ok-summary.summary in
    let summed : IsSummary (length c.args.scripts.now.outcomes.items) summary = search rules in
    let document : IsDocumentOf (summary ∷ lines.0) c.add_unmet.new.panels.items c.in_ok-text.text.items = search rules in
    record {
      summary = summary;
      more = lines.0;
      shown = all.0;
      summed = subst (λ (count : ℕ). IsSummary count summary) (sym (all.1 ∙ ap length c.deref.ensures.value)) summed;
      numbered = subst (λ (count : ℕ). AreNumbered 1 count all.0) (sym all.1) all.2;
      unmet = last.0;
      told = sym last.2;
      panels = c.add_unmet.new.panels.items;
      headings = last.1 ∙ ap (λ (h : List (List (List ℕ))). h ++ unmet_headings last.0) all.3;
      document = document;
    }
