-- Reading with commas between, as a loop does.
use Rattle.std.proofs.Common.{◌≡◌, ℕ, suc, ◌-◌, ◌+◌, ◌≤◌, ◌<◌, true, false, eqb, cond, List}
use Rattle.std.proofs.Common.{[], ◌∷◌, ◌++◌, append_assoc, Ok, Err, refl, sym, ap, ◌∙◌, arith}
use Rattle.erl_term.specs.Reading.{◌>>=◌}
use Rattle.script_terms.specs.declared.fault.TermFault.{TermFault}
use Rattle.script_terms.specs.declared.fault.TermFault.TheVariants.{BadTerm}
use Rattle.script_terms.specs.Reading.{Read, next_at, separated_at}

-- the items that were read before, and those that are still read
abbrev pub with_front : {A : Type 0} → List A → Read (List A) → Read (List A)
with_front front read = read >>= λ x. Ok (front ++ x.0, x.1)

regroup : {A : Type 0} (front : List A) (d : A) (read : Read (List A))
    → with_front front (read >>= λ x. Ok (d ∷ x.0, x.1)) ≡ with_front (front ++ d ∷ []) read
regroup {A} front d (Ok x) = ap (λ (ts : List A). Ok (ts, x.1)) (sym (append_assoc front (d ∷ []) x.0))
regroup front d (Err f) = refl

module _ {A : Type 0} (one : List ℕ → Read A) (close : ℕ) where
  -- one more, and the mark behind it
  turn : (m : ℕ) (rest : List ℕ) (d : A) (after : List ℕ) (c : ℕ) (behind : List ℕ) → one rest ≡ Ok (d, after)
      → next_at after ≡ Ok (c, behind)
      → separated_at one close (suc m) rest ≡ cond (eqb c 44) (separated_at one close m behind >>= λ ts. Ok (d ∷ ts.0, ts.1))
      (cond (eqb c close) (Ok (d ∷ [], behind)) (Err BadTerm))
  unfolding separated_at
  turn m rest d after c behind h k = rw (h, k) refl

  pub goes_on : (front : List A) (n i : ℕ) (rest : List ℕ) (d : A) (after : List ℕ) (c : ℕ) (behind : List ℕ) (total : Read (List A))
      → i < n → one rest ≡ Ok (d, after) → next_at after ≡ Ok (c, behind) → c ≡ 44
      → with_front front (separated_at one close (n - i) rest) ≡ total
      → with_front (front ++ d ∷ []) (separated_at one close (n - (i + 1)) behind) ≡ total
  goes_on front n i rest d after c behind total lt h k comma so_far =
      let e : n - i ≡ suc (n - (i + 1)) = omega arith in
      let s : with_front front (separated_at one close (n - i) rest) ≡ with_front (front ++ d ∷ [])
      (separated_at one close (n - (i + 1)) behind) = rw (e, turn (n - (i + 1)) rest d after c behind h k, comma)
      (regroup front d (separated_at one close (n - (i + 1)) behind)) in
      sym s ∙ so_far

  pub closes : (front : List A) (n i : ℕ) (rest : List ℕ) (d : A) (after : List ℕ) (c : ℕ) (behind : List ℕ) (total : Read (List A))
      → i < n → one rest ≡ Ok (d, after) → next_at after ≡ Ok (c, behind) → eqb c 44 ≡ false → eqb c close ≡ true
      → with_front front (separated_at one close (n - i) rest) ≡ total → total ≡ Ok (front ++ d ∷ [], behind)
  closes front n i rest d after c behind total lt h k other mark so_far =
      let e : n - i ≡ suc (n - (i + 1)) = omega arith in
      let s : with_front front (separated_at one close (n - i) rest) ≡ Ok (front ++ d ∷ [], behind) =
      rw (e, turn (n - (i + 1)) rest d after c behind h k, other, mark) refl in
      sym so_far ∙ s

  pub bad_one : (front : List A) (n i : ℕ) (rest : List ℕ) (f : TermFault) (total : Read (List A)) → i < n → one rest ≡ Err f
      → with_front front (separated_at one close (n - i) rest) ≡ total → total ≡ Err f
  unfolding separated_at
  bad_one front n i rest f total lt h so_far =
      let e : n - i ≡ suc (n - (i + 1)) = omega arith in
      let s : with_front front (separated_at one close (n - i) rest) ≡ Err f = rw (e, h) refl in
      sym so_far ∙ s

  pub bad_next : (front : List A) (n i : ℕ) (rest : List ℕ) (d : A) (after : List ℕ) (f : TermFault) (total : Read (List A))
      → i < n → one rest ≡ Ok (d, after) → next_at after ≡ Err f
      → with_front front (separated_at one close (n - i) rest) ≡ total → total ≡ Err f
  unfolding separated_at
  bad_next front n i rest d after f total lt h k so_far =
      let e : n - i ≡ suc (n - (i + 1)) = omega arith in
      let s : with_front front (separated_at one close (n - i) rest) ≡ Err f = rw (e, h, k) refl in
      sym so_far ∙ s

  pub bad_mark : (front : List A) (n i : ℕ) (rest : List ℕ) (d : A) (after : List ℕ) (c : ℕ) (behind : List ℕ) (total : Read (List A))
      → i < n → one rest ≡ Ok (d, after) → next_at after ≡ Ok (c, behind) → eqb c 44 ≡ false → eqb c close ≡ false
      → with_front front (separated_at one close (n - i) rest) ≡ total → total ≡ Err BadTerm
  bad_mark front n i rest d after c behind total lt h k other mark so_far =
      let e : n - i ≡ suc (n - (i + 1)) = omega arith in
      let s : with_front front (separated_at one close (n - i) rest) ≡ Err BadTerm =
      rw (e, turn (n - (i + 1)) rest d after c behind h k, other, mark) refl in
      sym so_far ∙ s

  pub bad_end : (front : List A) (n i : ℕ) (rest : List ℕ) (total : Read (List A)) → n ≤ i
      → with_front front (separated_at one close (n - i) rest) ≡ total → total ≡ Err BadTerm
  unfolding separated_at
  bad_end front n i rest total le so_far =
      let e : n - i ≡ 0 = omega arith in
      let s : with_front front (separated_at one close (n - i) rest) ≡ Err BadTerm = rw e refl in
      sym so_far ∙ s
