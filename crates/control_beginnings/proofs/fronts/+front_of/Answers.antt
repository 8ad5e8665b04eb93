use Rattle.std.proofs.Common.{◌≡◌, suc, ◌≤◌, rules, arith, get_or, Some, None, ◌∙◌, sym}
use Rattle.std.proofs.lemmas.Bool.{true≢false}
use Rattle.std.proofs.lemmas.Bool.Decides.{Decides-eqb}
use Rattle.std.proofs.lemmas.Slice.Eq.{strip_prefix_is}
use Rattle.erl_term.specs.Parts.{lists}
use Rattle.erl_control.proofs.Sequence.{front_is}
use Rattle.control_beginnings.specs.Parts.{Starts}
use Rattle.control_beginnings.proofs.Passing.{front_more, front_refused}
use Rattle.control_beginnings.proofs.fronts.+front_of.Goals as goal
use Rattle.control_beginnings.proofs.fronts.+front_of.Goals.{else-below-ge1-via-then-below-ge1+else-begins_word, else-below-ge1-via-else-below-ge1}

pub returns-in-Some-strip_prefix : goal.returns-in-Some-strip_prefix
returns-in-Some-strip_prefix t c =
    let more : c.args.levels ≡ suc c.in-Some.below = search rules in
    front_more c.args.levels c.in-Some.below c.args.bytes.now c.in-Some-strip_prefix.tail.now c.front_of.result more
    (strip_prefix_is Decides-eqb c.args.bytes.now (lists 1) (Some c.in-Some-strip_prefix.tail) c.in-Some-strip_prefix.ensures.cases)
    c.front_of.ensures

pub returns-else-below-ge1 : goal.returns-else-below-ge1
returns-else-below-ge1 t c =
    let more : c.args.levels ≡ suc c.in-Some.below = search rules in
    let first : get_or c.args.bytes.now 0 0 ≡ 108 = search rules in
    let none = strip_prefix_is Decides-eqb c.args.bytes.now (lists 1) None c.in_default-strip_prefix.ensures.cases in
    let never : 1 ≤ c.in-Some.below → Starts (λ b. b ≡ lists 1) c.args.bytes.now → ⊥ =
    elim c.else-below-ge1.branch [
      | else-below-ge1-via-then-below-ge1+else-begins_word w ↦ λ le s. true≢false (sym (w.begins_word.ensures.1 s) ∙ w.if-begins_word.false)
      | else-below-ge1-via-else-below-ge1 w ↦ λ le s. let no = w.if-below-ge1.false in omega arith
    ] in
    front_refused c.args.levels c.in-Some.below c.args.bytes.now _ more (front_is c.args.bytes.now 108 c.in-108.len_at_least first) never none
