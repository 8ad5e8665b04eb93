-- Facts of each number of a list, and of lists that rise.
use Rattle.std.proofs.Common.{ℕ, List, [], ◌∷◌, ◌++◌}
use Rattle.monitor_core.specs.Slots.{Each, Rises}

pub each_weaker : (P Q : ℕ → Type 0) → ((x : ℕ) → P x → Q x) → (xs : List ℕ) → Each P xs → Each Q xs
each_weaker P Q f [] h = tt
each_weaker P Q f (x ∷ xs) h = (f x h.0, each_weaker P Q f xs h.1)

pub each_both : (P Q : ℕ → Type 0) (xs : List ℕ) → Each P xs → Each Q xs → Each (λ x. P x × Q x) xs
each_both P Q [] h k = tt
each_both P Q (x ∷ xs) h k = ((h.0, k.0), each_both P Q xs h.1 k.1)

pub each_append : (P : ℕ → Type 0) (xs ys : List ℕ) → Each P xs → Each P ys → Each P (xs ++ ys)
each_append P [] ys h k = k
each_append P (x ∷ xs) ys h k = (h.0, each_append P xs ys h.1 k)

pub each_left : (P : ℕ → Type 0) (xs ys : List ℕ) → Each P (xs ++ ys) → Each P xs
each_left P [] ys h = tt
each_left P (x ∷ xs) ys h = (h.0, each_left P xs ys h.1)

pub each_right : (P : ℕ → Type 0) (xs ys : List ℕ) → Each P (xs ++ ys) → Each P ys
each_right P [] ys h = h
each_right P (x ∷ xs) ys h = each_right P xs ys h.1

pub rises_weaker : (Q : ℕ → Type 0) (R S : ℕ → ℕ → Type 0) → ((x y : ℕ) → Q x → Q y → R x y → S x y) → (xs : List ℕ)
    → Each Q xs → Rises R xs → Rises S xs
rises_weaker Q R S g [] q h = tt
rises_weaker Q R S g (x ∷ xs) q h =
    (each_weaker (λ y. Q y × R x y) (S x) (λ y k. g x y q.0 k.0 k.1) xs (each_both Q (R x) xs q.1 h.0), rises_weaker Q R S g xs q.1 h.1)

-- a list that rises, with one more behind it
pub rises_front : (R : ℕ → ℕ → Type 0) (xs : List ℕ) (last : ℕ) → Rises R (xs ++ last ∷ []) → Rises R xs
rises_front R [] last h = tt
rises_front R (x ∷ xs) last h = (each_left (R x) xs (last ∷ []) h.0, rises_front R xs last h.1)

pub before_last : (R : ℕ → ℕ → Type 0) (xs : List ℕ) (last : ℕ) → Rises R (xs ++ last ∷ []) → Each (λ x. R x last) xs
before_last R [] last h = tt
before_last R (x ∷ xs) last h = ((each_right (R x) xs (last ∷ []) h.0).0, before_last R xs last h.1)

pub rises_more : (R : ℕ → ℕ → Type 0) (xs : List ℕ) (last : ℕ) → Rises R xs → Each (λ x. R x last) xs → Rises R (xs ++ last ∷ [])
rises_more R [] last h b = (tt, tt)
rises_more R (x ∷ xs) last h b = (each_append (R x) xs (last ∷ []) h.0 (b.0, tt), rises_more R xs last h.1 b.1)
