use Rattle.std.proofs.Common.{◌≡◌, ◌<◌, false, length, rules, refl}
use Rattle.erl_term.specs.declared.term.Term.{the_lemmas}
use Rattle.erl_term.specs.Canonical.{is_list}
use Rattle.erl_term.specs.View.{view}
use Rattle.erl_term.proofs.Joined.{joined_list, joined_other}
use Rattle.erl_term.proofs.lists.join.Goals as goal

pub returns-in_ok-append-in-List : goal.returns-in_ok-append-in-List
returns-in_ok-append-in-List c =
    joined_list c.args.items.items c.append.new.self c.in-List.more c.in-List.tail c.args.tail _ c.in-List.is
    c.in_ok-append-in-List.ensures.items refl

pub returns-in_ok-new-in_default : goal.returns-in_ok-new-in_default
returns-in_ok-new-in_default c =
    let other : is_list (view c.args.tail) ≡ false = search (rules, the_lemmas) in
    let some : 0 < length c.args.items.items = search rules in
    let same : c.in_ok-new-in_default.field-0.value ≡ c.args.tail = search rules in
    joined_other c.args.items c.in_ok-new-in_default.field-0 c.args.tail _ some other same refl
