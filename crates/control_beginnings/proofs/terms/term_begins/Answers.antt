use Rattle.std.proofs.Common.{◌≡◌, ◌≤◌, ◌∙◌, ◌∷◌, ◌++◌, ap, arith, rules, List, ℕ, []}
use Rattle.control_beginnings.proofs.Wrapping.{one_more, all_wrapped}
use Rattle.control_beginnings.proofs.terms.term_begins.Goals as goal

pub loop-preserved : goal.loop-preserved
loop-preserved c =
    let items : c.extend_from_slice.new.self.items ≡ c.loop.text.items ++ 104 ∷ 1 ∷ [] = search rules in
    let le : c.args.levels ≤ c.loop.counter = omega arith in
    items ∙ one_more c.loop.counter c.args.levels c.loop.text.items le c.loop.invariant

pub returns : goal.returns
returns c =
    let items : c.extend_from_slice-2.new.self.items ≡ c.loop.text.items ++ c.args.bytes.now = search rules in
    let z : c.loop.counter ≡ 64 = omega arith in
    all_wrapped c.loop.counter c.args.levels _ c.args.bytes.now c.spelling_begins.result c.requires z
    (c.as_slice.ensures.value ∙ items ∙ ap (λ (w : List ℕ). w ++ c.args.bytes.now) c.loop.invariant) c.spelling_begins.ensures
