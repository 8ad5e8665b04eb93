-- Process identifiers as C gives them.
use Rattle.std.specs.Prelude.{ℕ, List}
use Rattle.erl_term.specs.declared.term.Pid.{Pid}
use Rattle.c_library.specs.declared.buffers.ErldistPid.{ErldistPid}

-- the pid with these numbers on this node
abbrev pub pid_on : List ℕ → ErldistPid → Pid
pid_on node p = record { node = node; creation = p.creation; id = p.id; serial = p.serial }
