-- The pids and references of one incarnation of a node.
use Rattle.std.specs.Prelude.{ℕ, [], ◌∷◌}
use Rattle.erl_term.specs.declared.term.Pid.{Pid}
use Rattle.erl_term.specs.declared.term.Reference.{Reference}
use Rattle.erl_names.specs.Minted.{Minted}

-- (ERTS User's Guide, External Term Format, NEW_PID_EXT)
abbrev pub pid_of : Minted → ℕ → Pid
pid_of m id = record { node = m.name; creation = m.creation; id = id; serial = 0 }

-- (ERTS User's Guide, External Term Format, NEWER_REFERENCE_EXT)
abbrev pub reference_of : Minted → ℕ → Reference
reference_of m count = record { node = m.name; creation = m.creation; words = count ∷ 0 ∷ 0 ∷ [] }
