use Rattle.std.proofs.Common.{◌≡◌, rules, get_or, refl, sym, subst}
use Rattle.erl_control.proofs.Sequence.{front_is}
use Rattle.control_beginnings.specs.Parts.{Starts, IsAnySpelling}
use Rattle.control_beginnings.proofs.Wrapping.{nil_of, empty_starts, front_starts, no_front}
use Rattle.control_beginnings.proofs.terms.spelling_begins.Goals as goal

pub returns-in-empty : goal.returns-in-empty
returns-in-empty c = (λ t. subst (Starts IsAnySpelling) (sym (nil_of c.args.bytes.now c.in-empty.len_below)) empty_starts, λ s. refl)

pub returns-in-Some : goal.returns-in-Some
returns-in-Some c =
    let first : get_or c.args.bytes.now 0 0 ≡ 131 = search rules in
    front_starts c.args.bytes.now _ c.in-Some.rest.now _ c.is_empty.result (front_is c.args.bytes.now 131 c.in-131.len_at_least first)
    c.in-Some.ensures.takes c.is_empty.ensures

pub returns-in-None : goal.returns-in-None
returns-in-None c =
    let first : get_or c.args.bytes.now 0 0 ≡ 131 = search rules in
    c.is_unfinished.ensures
    (no_front c.args.bytes.now _ (front_is c.args.bytes.now 131 c.in-131.len_at_least first) c.in-None.ensures.again)
