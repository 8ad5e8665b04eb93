use Rattle.std.proofs.Common.{◌≡◌, get_or, rules}
use Rattle.erl_control.proofs.Sequence.{front_is}
use Rattle.control_beginnings.proofs.Sequences.{skips_version}
use Rattle.control_beginnings.proofs.parts.behind_message.Goals as goal

pub returns-in-131 : goal.returns-in-131
returns-in-131 c =
    let first : get_or c.args.bytes.now 0 0 ≡ 131 = search rules in
    skips_version c.args.bytes.now _ c.behind_term.result (front_is c.args.bytes.now 131 c.in-131.len_at_least first) c.behind_term.ensures
