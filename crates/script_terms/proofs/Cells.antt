-- The cells of a list, one item after the other.
use Rattle.std.proofs.Common.{◌≡◌, ℕ, suc, ◌-◌, ◌+◌, ◌≤◌, ◌<◌, Bool, true, false, eqb, cond}
use Rattle.std.proofs.Common.{List, [], ◌∷◌, Result, Ok, Err, refl, sym, ap, ◌∙◌, arith, add-one}
use Rattle.erl_term.specs.Reading.{◌>>=◌}
use Rattle.erl_term.specs.Data.{Data, int, atom, tuple, list, improper, binary, pid, reference, Items, no_items, item, append_items, joined}
use Rattle.script_terms.specs.declared.lists.Step.{Step}
use Rattle.script_terms.specs.declared.lists.Step.TheVariants as step
use Rattle.script_terms.specs.declared.fault.TermFault.{TermFault}
use Rattle.script_terms.specs.declared.fault.TermFault.TheVariants.{BadTerm}
use Rattle.script_terms.specs.Reading.{Read, mark_at, tail_at, cells_at}
use Rattle.script_terms.specs.Steps.{step_at, tail_step_at, marks_at}
use Rattle.erl_term.proofs.Behind.{joined_none}

append_append : (ts us vs : Items) → append_items ts (append_items us vs) ≡ append_items (append_items ts us) vs
append_append no_items us vs = refl
append_append (item t ts) us vs = ap (item t) (append_append ts us vs)

abbrev end_or_list : Bool → ℕ → List ℕ → Read Step
end_or_list b d ds = cond b (Ok (step.End, ds)) (Ok (step.List, d ∷ ds))

-- an item, and what stands behind it
abbrev then : Data → Read Data → Read Data
then t read = read >>= λ u. mark_at 93 u.1 >>= λ close. Ok (joined (item t no_items) u.0, close.1)

module _ (one : List ℕ → Read Data) where
  abbrev by_step : ℕ → Data → Step → List ℕ → Read Data
  by_step m t step.Item after = cells_at one m after >>= λ u. Ok (joined (item t no_items) u.0, u.1)
  by_step m t step.List after = then t (cells_at one m after)
  by_step m t step.End after = mark_at 93 after >>= λ close. Ok (list (item t no_items), close.1)
  by_step m t step.Tail after = then t (one after)

  in_tail : (m : ℕ) (t : Data) (c : ℕ) (cs : List ℕ) (b : Bool) → eqb c 91 ≡ b
      → then t (tail_at one (cells_at one m) (c ∷ cs)) ≡ (tail_step_at (c ∷ cs) >>= λ s. by_step m t s.0 s.1)
  unfolding tail_step_at
  in_tail m t c cs false e = rw e refl
  in_tail m t c [] true e = rw e refl
  in_tail m t c (d ∷ ds) true e = rw e (inner (eqb d 93))
    where
      inner : (b : Bool)
          → then t (cond b (Ok (list no_items, ds)) (cells_at one m (d ∷ ds))) ≡ (end_or_list b d ds >>= λ s. by_step m t s.0 s.1)
      inner true = refl
      inner false = refl

  in_tail_of : (m : ℕ) (t : Data) (bytes : List ℕ)
      → then t (tail_at one (cells_at one m) bytes) ≡ (tail_step_at bytes >>= λ s. by_step m t s.0 s.1)
  unfolding tail_step_at
  in_tail_of m t [] = refl
  in_tail_of m t (c ∷ cs) = in_tail m t c cs (eqb c 91) refl

  behind : (m : ℕ) (t : Data) (c : ℕ) (cs : List ℕ) (comma close bar : Bool) → eqb c 44 ≡ comma → eqb c 93 ≡ close → eqb c 124 ≡ bar
      → cond (eqb c 44) (cells_at one m cs >>= λ u. Ok (joined (item t no_items) u.0, u.1))
      (cond (eqb c 93) (Ok (list (item t no_items), cs)) (cond (eqb c 124) (then t (tail_at one (cells_at one m) cs)) (Err BadTerm)))
      ≡ (step_at (c ∷ cs) >>= λ s. by_step m t s.0 s.1)
  unfolding step_at
  behind m t c cs true close bar e f g = rw e refl
  behind m t c cs false true bar e f g = rw (e, f, f) refl
  behind m t c cs false false true e f g = rw (e, f, g) (in_tail_of m t cs)
  behind m t c cs false false false e f g = rw (e, f, g) refl

  -- the form of a list, seen one item at a time
  cells_turn : (m : ℕ) (bytes : List ℕ) (t : Data) (after : List ℕ) → one bytes ≡ Ok (t, after)
      → cells_at one (suc m) bytes ≡ (step_at after >>= λ s. by_step m t s.0 s.1)
  unfolding cells_at step_at
  cells_turn m bytes t [] h = rw h refl
  cells_turn m bytes t (c ∷ cs) h = rw h (behind m t c cs (eqb c 44) (eqb c 93) (eqb c 124) refl refl refl)

-- ---- lists in the tails of lists

joined_more : (ts : Items) (t u : Data) → joined ts (joined (item t no_items) u) ≡ joined (append_items ts (item t no_items)) u
joined_more ts t (list us) = ap list (append_append ts (item t no_items) us)
joined_more ts t (improper us u) = ap (λ (vs : Items). improper vs u) (append_append ts (item t no_items) us)
joined_more no_items t (int z) = refl
joined_more no_items t (atom a) = refl
joined_more no_items t (tuple us) = refl
joined_more no_items t (binary a) = refl
joined_more no_items t (pid p) = refl
joined_more no_items t (reference r) = refl
joined_more (item s ts) t (int z) = refl
joined_more (item s ts) t (atom a) = refl
joined_more (item s ts) t (tuple us) = refl
joined_more (item s ts) t (binary a) = refl
joined_more (item s ts) t (pid p) = refl
joined_more (item s ts) t (reference r) = refl

-- the items that were read before, and behind them so many lists that are still open
abbrev pub wrapped : Items → ℕ → Read Data → Read Data
wrapped ts opened read = read >>= λ u. marks_at 93 opened u.1 >>= λ rest. Ok (joined ts u.0, rest)

abbrev pub and_one : Items → Data → Items
and_one ts t = append_items ts (item t no_items)

wrap_item : (ts : Items) (k : ℕ) (t : Data) (read : Read Data)
    → wrapped ts k (read >>= λ u. Ok (joined (item t no_items) u.0, u.1)) ≡ wrapped (and_one ts t) k read
wrap_item ts k t (Ok u) = ap (λ (d : Data). marks_at 93 k u.1 >>= λ rest. Ok (d, rest)) (joined_more ts t u.0)
wrap_item ts k t (Err e) = refl

wrap_then : (ts : Items) (k : ℕ) (t : Data) (read : Read Data) → wrapped ts k (then t read) ≡ wrapped (and_one ts t) (k + 1) read
unfolding marks_at
wrap_then ts k t (Err e) = refl
wrap_then ts k t (Ok u) = rw add-one (by (mark_at 93 u.1))
  where
    by : (r : Read ℕ) → wrapped ts k (r >>= λ close. Ok (joined (item t no_items) u.0, close.1))
        ≡ ((r >>= λ c. marks_at 93 k c.1) >>= λ rest. Ok (joined (and_one ts t) u.0, rest))
    by (Ok c) = ap (λ (d : Data). marks_at 93 k c.1 >>= λ rest. Ok (d, rest)) (joined_more ts t u.0)
    by (Err e) = refl

wrap_end : (ts : Items) (k : ℕ) (t : Data) (after : List ℕ)
    → wrapped ts k (mark_at 93 after >>= λ close. Ok (list (item t no_items), close.1))
    ≡ (marks_at 93 (k + 1) after >>= λ rest. Ok (list (and_one ts t), rest))
unfolding marks_at
wrap_end ts k t after = rw add-one (by (mark_at 93 after))
  where
    by : (r : Read ℕ) → wrapped ts k (r >>= λ close. Ok (list (item t no_items), close.1))
        ≡ ((r >>= λ c. marks_at 93 k c.1) >>= λ rest. Ok (list (and_one ts t), rest))
    by (Ok c) = refl
    by (Err e) = refl

module _ (one : List ℕ → Read Data) where
  abbrev pub state : Items → ℕ → ℕ → ℕ → List ℕ → Read Data
  state ts k n i rest = wrapped ts k (cells_at one (n - i) rest)

  at_step : (ts : Items) (k n i : ℕ) (rest : List ℕ) (d : Data) (after : List ℕ) (s : Step) (behind : List ℕ) → i < n
      → one rest ≡ Ok (d, after) → step_at after ≡ Ok (s, behind)
      → state ts k n i rest ≡ wrapped ts k (by_step one (n - (i + 1)) d s behind)
  at_step ts k n i rest d after s behind lt h j =
      let e : n - i ≡ suc (n - (i + 1)) = omega arith in
      rw (e, cells_turn one (n - (i + 1)) rest d after h, j) refl

  pub cells_item : (ts : Items) (k n i : ℕ) (rest : List ℕ) (d : Data) (after behind : List ℕ) (total : Read Data) → i < n
      → one rest ≡ Ok (d, after) → step_at after ≡ Ok (step.Item, behind) → state ts k n i rest ≡ total
      → state (and_one ts d) k n (i + 1) behind ≡ total
  cells_item ts k n i rest d after behind total lt h j so_far =
      sym (at_step ts k n i rest d after step.Item behind lt h j ∙ wrap_item ts k d (cells_at one (n - (i + 1)) behind)) ∙ so_far

  pub cells_list : (ts : Items) (k n i : ℕ) (rest : List ℕ) (d : Data) (after behind : List ℕ) (total : Read Data) → i < n
      → one rest ≡ Ok (d, after) → step_at after ≡ Ok (step.List, behind) → state ts k n i rest ≡ total
      → state (and_one ts d) (k + 1) n (i + 1) behind ≡ total
  cells_list ts k n i rest d after behind total lt h j so_far =
      sym (at_step ts k n i rest d after step.List behind lt h j ∙ wrap_then ts k d (cells_at one (n - (i + 1)) behind)) ∙ so_far

  pub cells_end : (ts : Items) (k n i : ℕ) (rest : List ℕ) (d : Data) (after behind : List ℕ) (r : Result (List ℕ) TermFault)
      (total : Read Data) → i < n → one rest ≡ Ok (d, after) → step_at after ≡ Ok (step.End, behind) → marks_at 93
      (k + 1) behind ≡ r → state ts k n i rest ≡ total → total ≡ (r >>= λ x. Ok (list (and_one ts d), x))
  cells_end ts k n i rest d after behind r total lt h j m so_far =
      sym so_far ∙ at_step ts k n i rest d after step.End behind lt h j ∙ wrap_end ts k d behind
      ∙ ap (λ (q : Result (List ℕ) TermFault). q >>= λ x. Ok (list (and_one ts d), x)) m

  pub cells_tail : (ts : Items) (k n i : ℕ) (rest : List ℕ) (d : Data) (after behind : List ℕ) (u : Data) (last : List ℕ)
      (r : Result (List ℕ) TermFault) (total : Read Data) → i < n → one rest ≡ Ok (d, after) → step_at after ≡ Ok
      (step.Tail, behind) → one behind ≡ Ok (u, last) → marks_at 93 (k + 1) last ≡ r → state ts k n i rest ≡ total → total
      ≡ (r >>= λ x. Ok (joined (and_one ts d) u, x))
  cells_tail ts k n i rest d after behind u last r total lt h j g m so_far =
      sym so_far ∙ at_step ts k n i rest d after step.Tail behind lt h j ∙ wrap_then ts k d (one behind)
      ∙ ap (wrapped (and_one ts d) (k + 1)) g
      ∙ ap (λ (q : Result (List ℕ) TermFault). q >>= λ x. Ok (joined (and_one ts d) u, x)) m

  pub tail_bad : (ts : Items) (k n i : ℕ) (rest : List ℕ) (d : Data) (after behind : List ℕ) (f : TermFault) (total : Read Data)
      → i < n → one rest ≡ Ok (d, after) → step_at after ≡ Ok (step.Tail, behind) → one behind ≡ Err f
      → state ts k n i rest ≡ total → total ≡ Err f
  tail_bad ts k n i rest d after behind f total lt h j g so_far =
      sym so_far ∙ at_step ts k n i rest d after step.Tail behind lt h j ∙ wrap_then ts k d (one behind)
      ∙ ap (wrapped (and_one ts d) (k + 1)) g

  pub item_bad : (ts : Items) (k n i : ℕ) (rest : List ℕ) (f : TermFault) (total : Read Data) → i < n → one rest ≡ Err f
      → state ts k n i rest ≡ total → total ≡ Err f
  unfolding cells_at
  item_bad ts k n i rest f total lt h so_far =
      let e : n - i ≡ suc (n - (i + 1)) = omega arith in
      let s : state ts k n i rest ≡ Err f = rw (e, h) refl in
      sym so_far ∙ s

  pub step_bad : (ts : Items) (k n i : ℕ) (rest : List ℕ) (d : Data) (after : List ℕ) (f : TermFault) (total : Read Data)
      → i < n → one rest ≡ Ok (d, after) → step_at after ≡ Err f → state ts k n i rest ≡ total → total ≡ Err f
  step_bad ts k n i rest d after f total lt h j so_far =
      let e : n - i ≡ suc (n - (i + 1)) = omega arith in
      let s : state ts k n i rest ≡ Err f = rw (e, cells_turn one (n - (i + 1)) rest d after h, j) refl in
      sym so_far ∙ s

  pub cells_none : (ts : Items) (k n i : ℕ) (rest : List ℕ) (total : Read Data) → n ≤ i → state ts k n i rest ≡ total → total ≡ Err BadTerm
  unfolding cells_at
  cells_none ts k n i rest total le so_far =
      let e : n - i ≡ 0 = omega arith in
      let s : state ts k n i rest ≡ Err BadTerm = rw e refl in
      sym so_far ∙ s

  -- before the first item
  pub cells_start : (n : ℕ) (bytes : List ℕ) → state no_items 0 n 0 bytes ≡ cells_at one n bytes
  unfolding marks_at
  cells_start n bytes = let e : n - 0 ≡ n = omega arith in rw e (by (cells_at one n bytes))
    where
      by : (r : Read Data) → wrapped no_items 0 r ≡ r
      by (Ok u) = ap (λ (d : Data). Ok (d, u.1)) (joined_none u.0)
      by (Err e) = refl
