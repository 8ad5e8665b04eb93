use Rattle.std.proofs.Common.{map, string_bytes, take}
use Rattle.script_explorer.proofs.replaying.run_all.Given as goal
use Rattle.script_session.specs.Running.{LeadsTo}
use Rattle.script_session.specs.Session.{State}
use Rattle.script_session.specs.Stands.{IsSession}

abbrev pub invariant-loop-line : goal.invariant-loop-line
invariant-loop-line l =
    (from : State)
    → IsSession l.fn.session from
    → (last : State)
    × LeadsTo from (map (λ line. line.items) (take l.line-index l.lines)) (map string_bytes l.texts.items) last
    × IsSession l.session last
