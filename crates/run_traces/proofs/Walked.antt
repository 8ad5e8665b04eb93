-- One element more of a list that a loop walks.
use Rattle.std.proofs.Common.{◌≡◌, ℕ, ◌+◌, ◌<◌, List, [], ◌∷◌, ◌++◌, get_or, length, take, sym, ap, ◌∙◌}
use Rattle.std.proofs.lemmas.List.{flat_map_more, take_more}
use Rattle.std.specs.List.{flat_map}

pub walked_more : {X A : Type 0} (on : X → List A) (xs : List X) (n : ℕ) (x d : X) (before out new : List A) → n < length xs
    → x ≡ get_or xs n d → out ≡ before ++ flat_map on (take n xs) → new ≡ out ++ on x → new ≡ before ++ flat_map on (take (n + 1) xs)
walked_more {X} {A} on xs n x d before out new l is e f =
    f ∙ ap (λ (told : List A). told ++ on x) e ∙ flat_map_more on before (take n xs) x
    ∙ ap (λ (last : X). before ++ flat_map on (take n xs ++ last ∷ [])) is
    ∙ ap (λ (taken : List X). before ++ flat_map on taken) (sym (take_more xs n d l))
