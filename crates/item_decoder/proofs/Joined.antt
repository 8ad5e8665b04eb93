-- Lines of items, one behind the other.
use Rattle.std.proofs.Common.{◌≡◌, ℕ, ◌+◌, ◌≤◌, List, [], ◌∷◌, ◌++◌, Bool, true, false, ◌&&◌, None, Some, length, drop, refl, sym, ap, subst, ◌∙◌, append_assoc, arith}
use Rattle.std.proofs.lemmas.List.{append-nil, drop-drop, length-drop}
use Rattle.item_decoder.specs.Answers.{IsAnswer, IsBegun, is_found}
use Rattle.item_decoder.specs.All.{AreLines, IsLine, IsProgress, IsRest, MayStep, all_found, total}
use Rattle.item_decoder.specs.Stages.{after, reader_of}
use Rattle.item_decoder.specs.Told.{IsTold, Moves}
use Rattle.item_decoder.specs.declared.all.Step.{Step}
use Rattle.item_decoder.specs.declared.all.Style.{Style}
use Rattle.item_decoder.specs.declared.stages.Next.{Next}
use Rattle.item_decoder.specs.declared.told.Told.{Told}

-- one more item behind the others
pub one_more : (style : Style) (tolds : List Told) (next : Next) (at : ℕ) (bytes lines left line : List ℕ) (last : Next) (told : Told)
    → AreLines style next at bytes lines tolds left last → IsTold (reader_of last left) left told → IsLine style (at + total tolds) told line
    → AreLines style next at bytes (lines ++ line) (tolds ++ told ∷ []) (drop told.len left) (after last told.answer)
one_more style [] next at bytes lines left line last told h is is_line =
    let here : at + 0 ≡ at = omega arith in (
      subst (λ b. IsTold (reader_of next b) b told) h.1 (subst (λ n. IsTold (reader_of n left) left told) h.2 is),
      line,
      [],
      subst (λ k. IsLine style k told line) here is_line,
      ap (λ w. w ++ line) h.0 ∙ sym (append-nil line),
      (refl, ap (λ b. drop told.len b) h.1, ap (λ n. after n told.answer) h.2),
    )
one_more style (t ∷ more) next at bytes lines left line last told h is is_line =
    let there : at + (t.len + total more) ≡ (at + t.len) + total more = omega arith in (
      h.0,
      h.1,
      h.2 ++ line,
      h.3,
      ap (λ w. w ++ line) h.4 ∙ append_assoc h.1 h.2 line,
      one_more style more (after next t.answer) (at + t.len) (drop t.len bytes) h.2 left line last told h.5 is
          (subst (λ k. IsLine style k told line) there is_line),
    )

pub total_more : (tolds : List Told) (told : Told) → total (tolds ++ told ∷ []) ≡ total tolds + told.len
total_more [] told = omega arith
total_more (t ∷ more) told = omega (arith, total_more more told)

and_true : (b : Bool) → (b && true) ≡ (true && b)
and_true true = refl
and_true false = refl

and_next : (a b c : Bool) → (a && (b && c)) ≡ ((a && b) && c)
and_next true b c = refl
and_next false b c = refl

pub found_more : (tolds : List Told) (told : Told) → all_found (tolds ++ told ∷ []) ≡ all_found tolds && is_found told.answer
found_more [] told = and_true (is_found told.answer)
found_more (t ∷ more) told =
    ap (λ b. is_found t.answer && b) (found_more more told) ∙ and_next (is_found t.answer) (all_found more) (is_found told.answer)

-- the lines of all items so far
pub record SoFar (style : Style) (first : Next) (from : ℕ) (bytes old : List ℕ) (taken : ℕ) (all_read : Bool) (now : List ℕ) (next : Next) : Type 0 where
  pub tolds : List Told
  pub lines : List ℕ
  pub are : AreLines style first from bytes lines tolds (drop taken bytes) next
  pub all : total tolds ≡ taken
  pub found : all_read ≡ all_found tolds
  pub appended : now ≡ old ++ lines
  pub within : taken ≤ length bytes

pub none_so_far : (style : Style) (first : Next) (from : ℕ) (bytes old : List ℕ) → SoFar style first from bytes old 0 true old first
none_so_far style first from bytes old = record {
  tolds = [];
  lines = [];
  are = (refl, refl, refl);
  all = refl;
  found = refl;
  appended = sym (append-nil old);
  within = omega arith;
}

-- a step over one item more
pub step_so_far : (style : Style) (first : Next) (from : ℕ) (bytes old : List ℕ) (taken : ℕ) (all_read : Bool) (now new : List ℕ) (next : Next) (told : Told) (step : Step)
    (ends : Bool) → SoFar style first from bytes old taken all_read now next → IsTold (reader_of next (drop taken bytes)) (drop taken bytes) told
    → Moves (drop taken bytes) told.len → MayStep style next (from + taken) told ends now new (Some step)
    → SoFar style first from bytes old (taken + step.len) (all_read && step.found) new step.next
step_so_far style first from bytes old taken all_read now new next told step ends so is moves may =
    subst (λ s. SoFar style first from bytes old (taken + s.len) (all_read && s.found) new s.next) (sym may.0)
    (record {
      tolds = so.tolds ++ told ∷ [];
      lines = so.lines ++ may.1;
      are = subst (λ left. AreLines style first from bytes (so.lines ++ may.1) (so.tolds ++ told ∷ []) left (after next told.answer))
          (drop-drop told.len taken bytes)
          (one_more style so.tolds first from bytes so.lines (drop taken bytes) may.1 next told so.are is
          (subst (λ k. IsLine style (from + k) told may.1) (sym so.all) may.2));
      all = total_more so.tolds told ∙ ap (λ k. k + told.len) so.all;
      found = ap (λ b. b && is_found told.answer) so.found ∙ sym (found_more so.tolds told);
      appended = may.3 ∙ ap (λ w. w ++ may.1) so.appended ∙ append_assoc old so.lines may.1;
      within = omega (arith, so.within, moves.0, length-drop taken bytes);
    })

-- all that was told of
abbrev pub Ended : (style : Style) (first : Next) (from : ℕ) (bytes old : List ℕ) (taken : ℕ) (all_read : Bool) (now : List ℕ) (next : Next) (ends : Bool) → Type 0
Ended style first from bytes old taken all_read now next ends =
    (lines : List ℕ) × (now ≡ old ++ lines) × IsProgress style first from bytes lines ends (record { taken = taken; all_read = all_read }) next

ended : (style : Style) (first : Next) (from : ℕ) (bytes old : List ℕ) (taken : ℕ) (all_read : Bool) (now : List ℕ) (next : Next) (ends : Bool)
    → SoFar style first from bytes old taken all_read now next → IsRest ends next (drop taken bytes) → Ended style first from bytes old taken all_read now next ends
ended style first from bytes old taken all_read now next ends so rest =
    (so.lines, so.appended, record { tolds = so.tolds; are = so.are; found = so.found; within = so.within; rest = rest })

no_bytes : (xs : List ℕ) → length xs ≡ 0 → xs ≡ []
no_bytes [] e = refl
no_bytes (x ∷ xs) e = absurd (omega (arith, e))

nothing_left : (bytes : List ℕ) (taken : ℕ) → length bytes ≤ taken → drop taken bytes ≡ []
nothing_left bytes taken all = no_bytes (drop taken bytes) (omega (arith, length-drop taken bytes, all))

rest_at_end : (ends : Bool) (next : Next) (left : List ℕ) → left ≡ [] → IsRest ends next left
rest_at_end true next left e = e
rest_at_end false next left e = λ some. let none : length left ≡ 0 = ap length e in absurd (omega (arith, none, some))

-- behind the last byte
pub progress_at_end : (style : Style) (first : Next) (from : ℕ) (bytes old : List ℕ) (taken : ℕ) (all_read : Bool) (now : List ℕ) (next : Next) (ends : Bool)
    → SoFar style first from bytes old taken all_read now next → length bytes ≤ taken → Ended style first from bytes old taken all_read now next ends
progress_at_end style first from bytes old taken all_read now next ends so all =
    ended style first from bytes old taken all_read now next ends so (rest_at_end ends next (drop taken bytes) (nothing_left bytes taken all))

-- in front of an item that may go on
pub progress_before : (style : Style) (first : Next) (from : ℕ) (bytes old : List ℕ) (taken : ℕ) (all_read : Bool) (now new : List ℕ) (next : Next) (told : Told) (ends : Bool)
    → SoFar style first from bytes old taken all_read now next → IsTold (reader_of next (drop taken bytes)) (drop taken bytes) told
    → MayStep style next (from + taken) told ends now new None → Ended style first from bytes old taken all_read new next ends
progress_before style first from bytes old taken all_read now new next told ends so is may =
    let left = drop taken bytes in
    let begun : IsBegun (reader_of next left) left = subst (IsAnswer (reader_of next left) left) may.1 is.is in
    subst (λ e. Ended style first from bytes old taken all_read new next e) (sym may.0)
    (subst (λ w. Ended style first from bytes old taken all_read w next false) (sym may.2)
    (ended style first from bytes old taken all_read now next false so (λ some. begun)))
