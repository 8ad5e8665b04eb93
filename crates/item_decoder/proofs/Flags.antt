-- The words for flags, a bit after the other.
use Rattle.std.proofs.Common.{◌≡◌, ℕ, suc, zero, ◌-◌, ◌<◌, ◌/◌, List, ◌++◌, Result, Ok, Err, OnOk, ap, ◌∙◌, append_assoc, arith}
use Rattle.item_decoder.specs.Words.{flag_words, one_flag}

pub flag_words_step : (left bits : ℕ) → 0 < left → flag_words left bits ≡ one_flag (64 - left) bits ++ flag_words (left - 1) (bits / 2)
flag_words_step zero bits less = absurd (omega arith)
flag_words_step (suc left) bits less =
    let e : left ≡ suc left - 1 = omega arith in ap (λ (n : ℕ). one_flag (64 - suc left) bits ++ flag_words n (bits / 2)) e

-- a text to which x was appended, and then y
pub both_put : {A E : Type 0} (result : Result A E) (old middle new x y : List ℕ) → middle ≡ old ++ x → OnOk result (new ≡ middle ++ y)
    → OnOk result (new ≡ old ++ (x ++ y))
both_put (Ok a) old middle new x y first last = last ∙ ap (λ (w : List ℕ). w ++ y) first ∙ append_assoc old x y
both_put (Err e) old middle new x y first last = last
