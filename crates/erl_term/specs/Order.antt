-- The orders of pids and of references.
use Rattle.std.specs.declared.cmp.Ordering.{Ordering}
use Rattle.std.specs.Ordering.{nat_cmp, ordering_then}
use Rattle.std.specs.Cmp.Lexicographic.{slice_cmp}
use Rattle.erl_term.specs.declared.term.Pid.{Pid}
use Rattle.erl_term.specs.declared.term.Reference.{Reference}
use Rattle.erl_term.specs.contracts.term.PidOrd.TheImpl as pid_ord

-- the name of the node by its bytes, then the creation, the id and the serial
abbrev pub pid_cmp : Pid → Pid → Ordering
pid_cmp p q =
    ordering_then (slice_cmp nat_cmp p.node q.node)
    (ordering_then (nat_cmp p.creation q.creation) (ordering_then (nat_cmp p.id q.id) (nat_cmp p.serial q.serial)))

-- what `cmp` answers
abbrev pub compared : Pid → Pid → Ordering
compared = (pid_ord.ghosts).cmp

-- the name of the node by its bytes, then the creation and the words
abbrev pub reference_cmp : Reference → Reference → Ordering
reference_cmp r s =
    ordering_then (slice_cmp nat_cmp r.node s.node) (ordering_then (nat_cmp r.creation s.creation) (slice_cmp nat_cmp r.words s.words))
