use Rattle.std.proofs.Common.{◌≡◌, ℕ, List, true, false, ap, arith, inl, inr, length, rules, subst, sym, true≢false, ◌∙◌}
use Rattle.std.proofs.lemmas.Bool.Decides.{eqb_tells}
use Rattle.std.proofs.lemmas.Option.{slice_get_past}
use Rattle.script_explorer.proofs.Alike.{is_same}
use Rattle.script_explorer.specs.Common.{all_have, has_line, is_line}
use Rattle.script_explorer.proofs.common.common_lines.Goals as goal

pub returns-then-not-all_have : goal.returns-then-not-all_have
returns-then-not-all_have c =
    let first = c.args.first.now in
    let others = c.args.others.now in
    let i = c.loop-place.place in
    let item = c.index-first-place.result in
    let no : all_have i c.deref.result.now others ≡ false = search rules in
    record {
      within = omega arith;
      alike = c.loop-place.invariant;
      differ = λ line has all.
          true≢false
          (sym (subst (λ (l : List ℕ). all_have i l others ≡ true)
          (sym (c.deref.ensures.value ∙ is_same first i item line c.loop-place-test.true c.index-first-place.is has)) all)
          ∙ no);
    }

pub loop-place-preserved : goal.loop-place-preserved
loop-place-preserved c = λ place line within has.
    let first = c.args.first.now in
    let others = c.args.others.now in
    let i = c.loop-place.place in
    let item = c.index-first-place.result in
    let yes : all_have i c.deref.result.now others ≡ true = search rules in
    elim (eqb_tells place i) [
      | inl t ↦
          subst (λ (p : ℕ). all_have p line others ≡ true) (sym t.1)
          (subst (λ (l : List ℕ). all_have i l others ≡ true)
          (c.deref.ensures.value
          ∙ is_same first i item line c.loop-place-test.true c.index-first-place.is (subst (λ (p : ℕ). has_line p line first ≡ true) t.1 has))
          yes)
      | inr t ↦ c.loop-place.invariant place line (let a = t.1 in omega arith) has
    ]

pub returns : goal.returns
returns c =
    let first = c.args.first.now in
    record {
      within = omega arith;
      alike = λ place line within has. c.loop-place.invariant place line (omega arith) has;
      differ = λ line has all. true≢false (sym has ∙ ap (is_line line) (slice_get_past first (length first) (omega arith)));
    }
