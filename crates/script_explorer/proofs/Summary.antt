-- The summary of an exploration.
use Rattle.std.proofs.Common.{◌≡◌, ℕ, Bool, List, ◌++◌, ap, ◌∙◌}
use Rattle.script_explorer.specs.Texts.{IsSummary, bound_text, counts_text}

pub summary_is : (states outcomes : ℕ) (is_bounded : Bool) (most : ℕ) (counts text : List ℕ) → counts ≡ counts_text states outcomes
    → text ≡ counts ++ bound_text is_bounded most → IsSummary outcomes text
summary_is states outcomes is_bounded most counts text first others = record {
  states = states;
  is_bounded = is_bounded;
  most = most;
  is = others ∙ ap (λ (l : List ℕ). l ++ bound_text is_bounded most) first;
}
