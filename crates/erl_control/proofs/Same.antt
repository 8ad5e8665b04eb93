-- Whether two terms are the same.
use Rattle.std.proofs.Common.{◌≡◌, ℕ, refl, ap, arith, ◌⊎◌, inl, inr}
use Rattle.std.proofs.lemmas.Bool.{cases_lt}
use base.Stored.{Gv, gnil, gnum, gcons, num}
use Rattle.erl_term.specs.Data.{Data}
use Rattle.erl_term.specs.Code.{of_data, data_code}

pub same_or_not : (k j : ℕ) → (k ≡ j) ⊎ (¬ (k ≡ j))
same_or_not k j =
    elim (cases_lt k j) [
      | inl lt ↦ inr (λ e. omega arith)
      | inr le ↦ elim (cases_lt j k) [ inl lt ↦ inr (λ e. omega arith) | inr ge ↦ inl (omega arith) ]
    ]

both_same : (a b c d : Gv) → ((a ≡ c) ⊎ (¬ (a ≡ c))) → ((b ≡ d) ⊎ (¬ (b ≡ d))) → (gcons a b ≡ gcons c d) ⊎ (¬ (gcons a b ≡ gcons c d))
both_same a b c d (inl e) (inl f) = inl (rw (e, f) refl)
both_same a b c d (inl e) (inr g) = inr (λ p. g cc)
both_same a b c d (inr f) q = inr (λ p. f cc)

same_number : (m n : ℕ) → ((m ≡ n) ⊎ (¬ (m ≡ n))) → (gnum m ≡ gnum n) ⊎ (¬ (gnum m ≡ gnum n))
same_number m n (inl e) = inl (ap gnum e)
same_number m n (inr f) = inr (λ p. f (ap num p))

same_tree : (a b : Gv) → (a ≡ b) ⊎ (¬ (a ≡ b))
same_tree gnil gnil = inl refl
same_tree (gnum m) (gnum n) = same_number m n (same_or_not m n)
same_tree (gcons a b) (gcons c d) = both_same a b c d (same_tree a c) (same_tree b d)
same_tree a b = inr (λ p. cc)

pub same_term : (t u : Data) → (t ≡ u) ⊎ (¬ (t ≡ u))
same_term t u =
    elim (same_tree (of_data t) (of_data u)) [
      | inl e ↦ inl (data_code.inj t u e)
      | inr f ↦ inr (λ p. f (ap of_data p))
    ]
