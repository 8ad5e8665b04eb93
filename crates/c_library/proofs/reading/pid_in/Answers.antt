use Rattle.std.proofs.Common.{◌≡◌, rules, get_or, subst, sym}
use Rattle.std.specs.Prelude.{MatchOption}
use Rattle.erl_term.specs.declared.term.Pid.{Pid}
use Rattle.erl_term.specs.Spelling.{IsPid}
use Rattle.erl_control.proofs.Sequence.{front_is}
use Rattle.c_library.specs.Reading.{IsSeen}
use Rattle.c_library.proofs.reading.pid_in.Goals as goal

pub returns-in-88 : goal.returns-in-88
returns-in-88 c =
    let first : get_or c.args.bytes.now 0 0 ≡ 88 = search rules in
    subst (λ w. MatchOption c.fields_at.result ((p : Pid) → ¬ IsPid p w) (λ seen. (p : Pid) × IsPid p w × IsSeen w p seen))
    (sym (front_is c.args.bytes.now 88 c.in-88.len_at_least first)) c.fields_at.ensures
