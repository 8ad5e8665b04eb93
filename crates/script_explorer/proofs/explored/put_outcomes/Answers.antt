use Rattle.std.proofs.Common.{[], ◌∷◌, ◌++◌, ◌+◌, List, ℕ, ap, append_assoc, append-nil, arith, length, refl, sym, ◌∙◌}
use Rattle.std.proofs.lemmas.List.Concat.{flat_map-append}
use Rattle.std.proofs.lemmas.List.{length-append}
use Rattle.script_explorer.proofs.OneMore.{numbered_more}
use Rattle.script_explorer.specs.Printed.{Shown, shown_text, shown_texts}
use Rattle.script_explorer.proofs.explored.put_outcomes.Goals as goal

pub loop-place-init : goal.loop-place-init
loop-place-init c = ([], refl, tt, sym (append-nil c.args.out.now.items))

pub loop-place-preserved : goal.loop-place-preserved
loop-place-preserved c =
    let was = c.loop-place.invariant in
    let more = c.in_ok-put_outcome.ensures in
    let old = c.args.out.now.items in
    let one : List (Shown c.args.seed) = more.0 ∷ [] in (
      was.0 ++ one,
      length-append was.0 one ∙ ap (λ (n : ℕ). n + 1) was.1,
      numbered_more c.args.seed 1 (length c.args.scripts.now) was.0 more.0 was.2 (omega (arith, more.1, was.1)) more.2,
      more.3
          ∙ ap (λ (l : List ℕ). l ++ shown_text more.0) was.3
          ∙ append_assoc old (shown_texts was.0) (shown_text more.0)
          ∙ ap (λ (l : List ℕ). old ++ (shown_texts was.0 ++ l)) (sym (append-nil (shown_text more.0)))
          ∙ ap (λ (l : List ℕ). old ++ l) (sym (flat_map-append shown_text was.0 one)),
    )

pub returns : goal.returns
returns c = let all = c.loop-place.invariant in (all.0, omega (arith, all.1), all.2, all.3)
