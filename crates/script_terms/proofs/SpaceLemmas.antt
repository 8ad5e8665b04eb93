-- A text may be cut at its first space outside of quotes.
use Rattle.std.proofs.Common.{◌≡◌, ◌≤◌, ◌<◌, ℕ, suc, Bool, true, false, cond, List, [], ◌∷◌, length, get_or, refl, arith}
use Rattle.std.proofs.lemmas.Bool.{eqb-true}
use Rattle.std.proofs.lemmas.Str.{IsCharBoundary-before_ascii}
use Rattle.std.specs.Str.{IsCharBoundary}
use Rattle.script_terms.specs.Spaces.{count_before, is_gap}
use Rattle.script_terms.specs.Unbound.{behind}
use Rattle.script_terms.specs.declared.unbound.Place.{Place}
use Rattle.script_terms.specs.declared.unbound.Place.TheVariants.{Outside, Quoted, Escaped}

-- a space stands at the place, or the text ends there
abbrev IsGapAt : List ℕ → ℕ → Type 0
IsGapAt text n = (n ≤ length text) × (n < length text → get_or text n 0 ≡ 32)

space : (place : Place) (c : ℕ) → is_gap place c ≡ true → c ≡ 32
space Outside c h = eqb-true c 32 h
space Quoted c h = absurd cc
space Escaped c h = absurd cc

gap : (place : Place) (text : List ℕ) → IsGapAt text (count_before place text)
unfolding count_before
gap place [] = (omega arith, λ h. absurd (omega arith))
gap place (c ∷ cs) = go (is_gap place c) refl (gap (behind place c) cs)
  where
    go : (b : Bool) → is_gap place c ≡ b → IsGapAt cs (count_before (behind place c) cs)
        → IsGapAt (c ∷ cs) (cond b 0 (suc (count_before (behind place c) cs)))
    go true e rest = (omega arith, λ _. space place c e)
    go false e rest = let within = rest.0 in (omega arith, λ h. rest.1 (omega arith))

pub may_be_cut : (text : List ℕ) → IsCharBoundary text (count_before Outside text)
may_be_cut text =
    let at = gap Outside text in (
      at.0,
      λ less. let e = at.1 less in
          (IsCharBoundary-before_ascii text (count_before Outside text) less (omega arith)).1 less,
    )
