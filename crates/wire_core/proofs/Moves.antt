-- Each step keeps the rule of a wire.
use Rattle.std.proofs.Common.{◌≡◌, ◌≢◌, ℕ, zero, suc, true, true≢false, List, [], ◌∷◌, ◌++◌}
use Rattle.std.proofs.Common.{length, set, sym, refl, ap, ◌∙◌, subst, ⊎_elim, append_assoc}
use mathlib.Core.Option.{some, some-ne-none}
use lib.ListN.{get_elem?}
use Rattle.crossbeam_queue.specs.Fifo.{Pushes, Pops, Forks, Merges, Learns}
use Rattle.crossbeam_queue.proofs.Lists.{at_set, at_snoc}
use Rattle.wire_core.specs.declared.rule.View.{View}
use Rattle.wire_core.specs.Cuts.{AreCut, IsCut, marks_of}
use Rattle.wire_core.specs.Pieces.{PieceSeen}
use Rattle.wire_core.specs.Passing.{Passes, giver, knowing, spent, taker, whole}
use Rattle.wire_core.proofs.Cuts.{cut_front, marks_append, nothing_is_cut}

-- ---- what holds of each pass

abbrev Each : (ℕ → View → Type 0) → List View → Type 0
Each F views = (pass : ℕ) (v : View) → get_elem? views pass ≡ some v → F pass v

each_set : (F : ℕ → View → Type 0) (views : List View) (pass : ℕ) (w : View) → F pass w
    → ((j : ℕ) (u : View) → j ≢ pass → get_elem? views j ≡ some u → F j u) → Each F (set views pass w)
each_set F views pass w mine others j u e =
    ⊎_elim (λ (x : (j ≡ pass) × (w ≡ u)). subst (λ (y : ℕ × View). F y.0 y.1) (λ i. (sym x.0 i, x.1 i)) mine)
    (λ (x : (j ≢ pass) × (get_elem? views j ≡ some u)). others j u x.0 x.1) (at_set views pass j w u e)

-- one that wasn't among the passes is the new one
at_end : (views : List View) (a b : View) (j : ℕ) → get_elem? views j ≢ some b → get_elem? (views ++ a ∷ []) j ≡ some b → j ≡ length views
at_end [] a b zero n e = refl
at_end [] a b (suc j) n e = absurd (some-ne-none b (sym e))
at_end (x ∷ xs) a b zero n e = absurd (n e)
at_end (x ∷ xs) a b (suc j) n e = ap suc (at_end xs a b j n e)

abbrev Puts : ℕ → List PieceSeen → ℕ → View → Type 0
Puts giving put pass v = v.puts ≡ true → (pass ≡ giving) × (v.put ≡ put)

abbrev Takes : ℕ → List PieceSeen → ℕ → View → Type 0
Takes taking taken pass v = v.takes ≡ true → (pass ≡ taking) × (v.taken ≡ taken)

-- ---- the steps

pub begins : Passes [] (whole ∷ [])
begins = record {
  giving = 0;
  taking = 0;
  put = [];
  taken = [];
  whole = refl;
  cut = nothing_is_cut;
  puts = each_set (Puts 0 []) (whole ∷ []) 0 whole (λ _. (refl, refl)) (λ j u other e _. nobody_else j u other e);
  takes = each_set (Takes 0 []) (whole ∷ []) 0 whole (λ _. (refl, refl)) (λ j u other e _. nobody_else j u other e);
}
  where
    nobody_else : {X : Type 0} (j : ℕ) (u : View) → j ≢ 0 → get_elem? (whole ∷ []) j ≡ some u → X
    nobody_else j u other e = absurd (other (at_end [] whole u j (λ x. some-ne-none u (sym x)) e))

pub gives : (n pass : ℕ) (v : View) (x : PieceSeen) → v.puts ≡ true → AreCut (v.put ++ x ∷ [])
    → Pushes Passes n pass v x (λ w. w ≡ knowing v.puts v.takes (v.put ++ x ∷ []) v.taken)
gives n pass v x may cut items views _ h at =
    let w : View = knowing v.puts v.takes (v.put ++ x ∷ []) v.taken in
    let mine = h.puts pass v at may in (
      w,
      record {
        giving = h.giving;
        taking = h.taking;
        put = h.put ++ x ∷ [];
        taken = h.taken;
        whole = ap (λ l. l ++ x ∷ []) h.whole ∙ append_assoc h.taken items (x ∷ []);
        cut = subst (λ l. AreCut (l ++ x ∷ [])) mine.1 cut;
        puts = each_set (Puts h.giving (h.put ++ x ∷ [])) views pass w (λ _. (mine.0, ap (λ l. l ++ x ∷ []) mine.1))
            (λ j u other e p. absurd (other ((h.puts j u e p).0 ∙ sym mine.0)));
        takes = each_set (Takes h.taking h.taken) views pass w (h.takes pass v at) (λ j u other e. h.takes j u e);
      },
      refl,
    )

pub takes : (pass : ℕ) (v : View) → v.takes ≡ true
    → Pops Passes pass v (λ x w. (w ≡ knowing v.puts v.takes v.put (v.taken ++ x ∷ [])) × AreCut (v.taken ++ x ∷ []))
takes pass v may x items views h at =
    let w : View = knowing v.puts v.takes v.put (v.taken ++ x ∷ []) in
    let mine = h.takes pass v at may in
    let whole = h.whole ∙ sym (append_assoc h.taken (x ∷ []) items) in
    let cut : AreCut (h.taken ++ x ∷ []) =
    cut_front (marks_of (h.taken ++ x ∷ [])) (marks_of items)
    (subst IsCut (ap marks_of whole ∙ marks_append (h.taken ++ x ∷ []) items) h.cut) in (
      w,
      record {
        giving = h.giving;
        taking = h.taking;
        put = h.put;
        taken = h.taken ++ x ∷ [];
        whole = whole;
        cut = h.cut;
        puts = each_set (Puts h.giving h.put) views pass w (h.puts pass v at) (λ j u other e. h.puts j u e);
        takes = each_set (Takes h.taking (h.taken ++ x ∷ [])) views pass w (λ _. (mine.0, ap (λ l. l ++ x ∷ []) mine.1))
            (λ j u other e p. absurd (other ((h.takes j u e p).0 ∙ sym mine.0)));
      },
      (refl, subst (λ l. AreCut (l ++ x ∷ [])) (sym mine.1) cut),
    )

-- one pass for both is cut in two, the second behind all
pub is_cut : (pass : ℕ) (v : View) → v.puts ≡ true → v.takes ≡ true → Forks Passes pass v (giver v.put) (taker v.taken)
is_cut pass v may_put may_take items views h at =
    let mine = h.puts pass v at may_put in
    let also = h.takes pass v at may_take in
    let first : List View = set views pass (giver v.put) in
    let Old : ℕ → View → Type 0 = λ j u. Puts h.giving h.put j u × (u.takes ≢ true) in
    let old : Each Old first = each_set Old views pass (giver v.put) ((λ _. mine), λ p. true≢false (sym p))
    (λ j u other e. (h.puts j u e, λ p. other ((h.takes j u e p).0 ∙ sym also.0))) in
    record {
      giving = h.giving;
      taking = length first;
      put = h.put;
      taken = h.taken;
      whole = h.whole;
      cut = h.cut;
      puts = λ j u e. ⊎_elim (λ x. (old j u x).0) (λ x p. absurd (true≢false (sym (ap (λ (y : View). y.puts) x ∙ p))))
          (at_snoc first (taker v.taken) u j e);
      takes = λ j u e p. ⊎_elim (λ x. absurd ((old j u x).1 p))
          (λ x. (at_end first (taker v.taken) u j (λ was. (old j u was).1 p) e, ap (λ (y : View). y.taken) (sym x) ∙ also.1))
          (at_snoc first (taker v.taken) u j e);
    }

-- the two are put together again
pub is_joined : (pass : ℕ) (v : View) (other : ℕ) (u : View) → v.puts ≡ true → u.takes ≡ true
    → Merges Passes pass v other u (knowing true true v.put u.taken) spent
is_joined pass v other u may_put may_take items views h at two at' =
    let both : View = knowing true true v.put u.taken in
    let mine = h.puts pass v at may_put in
    let first : List View = set views pass both in
    let was : get_elem? views other ≡ some u = ⊎_elim (λ x. absurd (two x.0)) (λ x. x.1) (at_set views pass other both u at') in
    let theirs = h.takes other u was may_take in
    let TakesNow : ℕ → View → Type 0 = λ j y. j ≢ other → Takes pass h.taken j y in
    let now : Each TakesNow first =
    each_set TakesNow views pass both (λ _ _. (refl, theirs.1))
    (λ j y _ e apart p. absurd (apart ((h.takes j y e p).0 ∙ sym theirs.0))) in
    record {
      giving = h.giving;
      taking = pass;
      put = h.put;
      taken = h.taken;
      whole = h.whole;
      cut = h.cut;
      puts = each_set (Puts h.giving h.put) first other spent (λ p. absurd (true≢false (sym p)))
          (λ j y _ e. (each_set (Puts h.giving h.put) views pass both (λ _. mine) (λ i z _ f. h.puts i z f)) j y e);
      takes = each_set (Takes pass h.taken) first other spent (λ p. absurd (true≢false (sym p))) (λ j y apart e. now j y e apart);
    }

-- who has both passes learns what is left
pub learns_rest : (pass : ℕ) (v : View) → v.puts ≡ true → v.takes ≡ true → Learns Passes pass v (λ items. v.put ≡ v.taken ++ items)
learns_rest pass v may_put may_take items views h at =
    (h.puts pass v at may_put).1 ∙ h.whole ∙ ap (λ l. l ++ items) (sym (h.takes pass v at may_take).1)

-- the giver learns that what is on the wire is the end of what it put
pub learns_end : (pass : ℕ) (v : View) → v.puts ≡ true → Learns Passes pass v (λ items. (taken : List PieceSeen) × (v.put ≡ taken ++ items))
learns_end pass v may items views h at = (h.taken, (h.puts pass v at may).1 ∙ h.whole)
