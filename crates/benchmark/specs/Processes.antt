-- The processes that take part.
use Rattle.std.specs.Prelude.{List, ℕ}
use Rattle.erl_term.specs.declared.term.Pid.{Pid}

-- of the first incarnation of a node
abbrev pub first_pid : List ℕ → ℕ → Pid
first_pid node id = record { node = node; creation = 1; id = id; serial = 0 }
