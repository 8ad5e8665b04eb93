-- One element more, in a loop.
use Rattle.std.proofs.Common.{◌≡◌, ℕ, zero, suc, ◌+◌, ◌<◌, Bool, List, [], ◌∷◌, ◌++◌, get_or}
use Rattle.std.proofs.Common.{length, map, refl, sym, ap, ◌∙◌, add-one, arith, drop, take}
use Rattle.std.specs.List.{AllWithin, count_by}
use Rattle.std.proofs.lemmas.List.{take_more}
use Rattle.std.proofs.lemmas.List.Elements.{AllWithin-more, at_read}
use Rattle.joined_books.proofs.EachOnce.{bit, count_append, count_cons}

module _ {X : Type 0} where
  pub all_next : (P : X → Type 0) (xs : List X) (i : ℕ) (x : X) → i < length xs → x ≡ get_or xs i x → AllWithin P xs 0 i → P x
      → AllWithin P xs 0 (i + 1)
  all_next P xs i x below is before here = AllWithin-more P xs 0 i before (at_read xs P i x below is here)

  pub drop_next : (xs : List X) (i : ℕ) (x : X) → i < length xs → x ≡ get_or xs i x → drop i xs ≡ x ∷ drop (i + 1) xs
  drop_next xs i x below is = go xs i x below is ∙ ap (λ n. x ∷ drop n xs) (sym (add-one i))
    where
      go : (xs : List X) (i : ℕ) (x : X) → i < length xs → x ≡ get_or xs i x → drop i xs ≡ x ∷ drop (suc i) xs
      go [] i x below is = absurd (omega arith)
      go (y ∷ ys) zero x below is = ap (λ z. z ∷ ys) (sym is)
      go (y ∷ ys) (suc i) x below is = go ys i x (omega arith) is

  pub take_next : (xs : List X) (i : ℕ) (x : X) → i < length xs → x ≡ get_or xs i x → take (i + 1) xs ≡ take i xs ++ x ∷ []
  take_next xs i x below is = take_more xs i x below ∙ ap (λ y. take i xs ++ y ∷ []) (sym is)

  pub split_next : (xs : List X) (i : ℕ) (x : X) → i < length xs → x ≡ get_or xs i x → take (i + 1) xs ++ drop (i + 1) xs ≡ xs
  split_next xs i x below is = both (i + 1) xs
    where
      both : (n : ℕ) (xs : List X) → take n xs ++ drop n xs ≡ xs
      both zero xs = refl
      both (suc n) [] = refl
      both (suc n) (x ∷ xs) = ap (λ l. x ∷ l) (both n xs)

  pub map_push : {Y : Type 0} (f : X → Y) (xs : List X) (x : X) → map f (xs ++ x ∷ []) ≡ map f xs ++ f x ∷ []
  map_push f [] x = refl
  map_push f (y ∷ ys) x = ap (λ l. f y ∷ l) (map_push f ys x)

  pub count_next : (p : X → Bool) (xs : List X) (i : ℕ) (x : X) → i < length xs → x ≡ get_or xs i x
      → count_by p (take (i + 1) xs) ≡ count_by p (take i xs) + bit (p x)
  count_next p xs i x below is =
      let a = ap (λ l. count_by p l) (take_next xs i x below is) in
      let b = count_append p (take i xs) (x ∷ []) in
      let c = count_cons p x [] in
      omega arith
