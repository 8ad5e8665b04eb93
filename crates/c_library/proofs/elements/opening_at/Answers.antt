use Rattle.std.proofs.Common.{◌≡◌, rules, get_or}
use Rattle.erl_control.proofs.Sequence.{opening, front_is}
use Rattle.c_library.proofs.elements.opening_at.Goals as goal

pub returns-in-131 : goal.returns-in-131
returns-in-131 c =
    let first : get_or c.args.bytes.now 0 0 ≡ 131 = search rules in
    opening c.args.bytes.now _ c.tuple_head_at.result (front_is c.args.bytes.now 131 c.in-131.len_at_least first) c.tuple_head_at.ensures
