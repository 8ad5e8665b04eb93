-- The messages that exits become.
-- (Reference Manual, Processes, Receiving Exit Signals and Monitors.)
use Rattle.std.specs.Prelude.{ℕ, List, ◌∷◌, [], codes}
use Rattle.erl_term.specs.declared.term.Pid.{Pid}
use Rattle.erl_term.specs.declared.term.Reference.{Reference}
use Rattle.erl_term.specs.Data.{Data, atom, tuple, pid, reference}
use Rattle.erl_term.specs.View.{items_of}

-- {'EXIT', Sender, Reason}, to a process that traps exits
abbrev pub exit_term : Pid → Data → Data
exit_term sender reason = tuple (items_of (atom (codes "EXIT") ∷ pid sender ∷ reason ∷ []))

-- {'DOWN', Ref, process, Object, Info}, to the owner of a monitor. The object is the pid that was monitored, or {Name, Node}
abbrev pub down_term : Reference → Data → Data → Data
down_term r object info = tuple (items_of (atom (codes "DOWN") ∷ reference r ∷ atom (codes "process") ∷ object ∷ info ∷ []))

-- {Name, Node}
abbrev pub named_term : List ℕ → List ℕ → Data
named_term name node = tuple (items_of (atom name ∷ atom node ∷ []))
