use Rattle.std.proofs.Common.{◌≡◌, true, rules, get_or, refl}
use Rattle.std.proofs.lemmas.Result.{IfOk-weaker}
use Rattle.erl_control.proofs.Sequence.{front_is}
use Rattle.control_beginnings.specs.Parts.{has_tag}
use Rattle.control_beginnings.proofs.Wrapping.{nil_of}
use Rattle.control_beginnings.proofs.Kindred.{own_starts, some_starts}
use Rattle.control_beginnings.proofs.parts.own_begins.Goals as goal

pub returns-in-empty : goal.returns-in-empty
returns-in-empty c = (λ t. some_starts c.args.kind c.args.bytes.now (nil_of c.args.bytes.now c.in-empty.len_below), λ s. refl)

pub returns-else-not-has_tag : goal.returns-else-not-has_tag
returns-else-not-has_tag c =
    let front = front_is c.args.bytes.now (get_or c.args.bytes.now 0 0) c.in-len1-up.len_at_least refl in
    let has : has_tag c.args.kind (get_or c.args.bytes.now 0 0) ≡ true = search rules in
    IfOk-weaker c.term_begins.result _ _ (λ begins h. own_starts c.args.kind c.args.bytes.now _ _ begins front has h)
    c.term_begins.ensures
