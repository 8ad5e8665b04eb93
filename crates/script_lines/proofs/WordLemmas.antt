-- Spaces before a text and behind it.
use Rattle.std.proofs.Common.{◌≡◌, ◌≢◌, ℕ, Bool, true, false, cond, List, [], ◌∷◌, ◌++◌}
use Rattle.std.proofs.Common.{refl, ap, ◌∙◌, subst, arith, length, get_or, take, ◌+◌}
use Rattle.std.proofs.lemmas.List.{length-append}
use Rattle.std.proofs.Math.Seq.{get_or-append_seam, take-append_seam}
use Rattle.std.proofs.lemmas.Str.{IsCharBoundary-before_ascii, IsUtf8-take}
use Rattle.std.specs.Str.{IsUtf8}
use Rattle.std.proofs.lemmas.Bool.{eqb-true}
use Rattle.script_lines.specs.Words.{is_space, from_word, before, trimmed}

pub no_space : (text : List ℕ) → ((rest : List ℕ) → text ≢ 32 ∷ rest) → from_word text ≡ text
no_space [] h = refl
no_space (c ∷ cs) h = by (is_space c) refl
  where
    by : (b : Bool) → is_space c ≡ b → cond b (from_word cs) (c ∷ cs) ≡ c ∷ cs
    by true e = absurd (h cs (ap (λ (n : ℕ). n ∷ cs) (eqb-true c 32 e)))
    by false e = refl

pub space_behind : (text : List ℕ) → trimmed (text ++ 32 ∷ []) ≡ trimmed text
space_behind [] = refl
space_behind (c ∷ cs) = ap (before c) (space_behind cs)

-- a text that ends with no space
last_kept : (c : ℕ) (rest : List ℕ) → ((front : List ℕ) → c ∷ rest ≢ front ++ 32 ∷ []) → trimmed rest ≡ rest → before c rest ≡ c ∷ rest
last_kept c (d ∷ ds) h e = refl
last_kept c [] h e = by (is_space c) refl
  where
    by : (b : Bool) → is_space c ≡ b → cond b [] (c ∷ []) ≡ c ∷ []
    by true e = absurd (h [] (ap (λ (n : ℕ). n ∷ []) (eqb-true c 32 e)))
    by false e = refl

pub no_space_behind : (text : List ℕ) → ((front : List ℕ) → text ≢ front ++ 32 ∷ []) → trimmed text ≡ text
no_space_behind [] h = refl
no_space_behind (c ∷ cs) h =
    let rest = no_space_behind cs (λ front e. h (c ∷ front) (ap (λ (w : List ℕ). c ∷ w) e)) in
    ap (before c) rest ∙ last_kept c cs h rest

-- a text that ends with a space is a text without it
pub front_is_text : (text front : List ℕ) → IsUtf8 text → text ≡ front ++ 32 ∷ [] → IsUtf8 front
front_is_text text front h e =
    let n : length text ≡ length front + 1 = ap length e ∙ length-append front (32 ∷ []) in
    let space : get_or text (length front) 0 ≡ 32 = ap (λ (w : List ℕ). get_or w (length front) 0) e ∙ get_or-append_seam front 32 [] 0 in
    let at = IsCharBoundary-before_ascii text (length front) (omega arith) (omega arith) in
    subst IsUtf8 (ap (take (length front)) e ∙ take-append_seam front (32 ∷ [])) (IsUtf8-take text (length front) h at)
