-- The lines that scripts have in common.
use Rattle.std.proofs.Common.{◌≡◌, ℕ, ◌+◌, ◌<◌, ◌&&◌, true, List, ◌∷◌, Global, Some, Vec, ap, drop, get_or, length, sym, ◌∙◌}
use Rattle.std.specs.Borrow.{Bor}
use Rattle.std.proofs.lemmas.List.{drop_more}
use Rattle.std.proofs.lemmas.Option.{slice_get-get_or}
use Rattle.std.proofs.lemmas.Slice.Eq.{bytes_eq-Decides}
use Rattle.script_explorer.specs.Common.{all_have, has_line, is_line}

pub next_script : (place : ℕ) (line : List ℕ) (scripts : List (Bor (List (Vec ℕ Global)))) (i : ℕ) (script : Bor (List (Vec ℕ Global)))
    → i < length scripts → script ≡ get_or scripts i script
    → all_have place line (drop i scripts) ≡ (has_line place line script.now && all_have place line (drop (i + 1) scripts))
next_script place line scripts i script within is =
    ap (all_have place line)
    (drop_more scripts i script within ∙ ap (λ (s : Bor (List (Vec ℕ Global))). s ∷ drop (i + 1) scripts) (sym is))

-- the only line at a place
pub is_same : (script : List (Vec ℕ Global)) (i : ℕ) (item : Vec ℕ Global) (line : List ℕ) → i < length script
    → item ≡ get_or script i item → has_line i line script ≡ true → item.items ≡ line
is_same script i item line within is has =
    (bytes_eq-Decides item.items line).0
    (sym (ap (is_line line) (slice_get-get_or script i item within ∙ ap Some (sym is))) ∙ has)
