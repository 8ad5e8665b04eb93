-- The text of the monitors of a process.
-- (Reference Manual, Processes, Monitors.)
use Rattle.std.specs.Prelude.{ℕ, List, [], ◌∷◌, ◌++◌, codes}
use Rattle.std.specs.FinMap as fm
use Rattle.std.specs.List.{filter, flat_map}
use Rattle.dist_model.specs.Names.{same_pid}
use Rattle.dist_model.specs.Node.{Node}
use Rattle.erl_term.specs.declared.term.Pid.{Pid}
use Rattle.erl_term.specs.declared.term.Reference.{Reference}
use Rattle.monitor_core.specs.declared.monitor.Registration.{Registration}
use Rattle.monitor_core.specs.declared.monitor.Target.{Target}
use Rattle.monitor_core.specs.declared.monitor.Watch.{Watch}
use Rattle.script_terms.specs.Printing.{atom_text, pid_text, reference_text}

-- a name with its node is printed as a tuple
abbrev pub target_text : Target → List ℕ
target_text (Target.Pid p) = pid_text p
target_text (Target.Name name node) = codes "{" ++ atom_text name ++ codes "," ++ atom_text node ++ codes "}"

-- the monitors that a process owns, in the order of their references
abbrev pub own_of : Node → Pid → List (Reference × Watch)
own_of node p = filter (λ entry. same_pid entry.1.owner p) (fm.entries node.watches)

-- those that others have of it
abbrev pub others_of : Node → Pid → List (Reference × Registration)
others_of node p = filter (λ entry. same_pid entry.1.held p) (fm.entries node.registered)

abbrev pub own_text : Reference × Watch → List ℕ
own_text entry = codes " " ++ reference_text entry.0 ++ codes "=" ++ target_text entry.1.target

abbrev pub other_text : Reference × Registration → List ℕ
other_text entry = codes " " ++ reference_text entry.0 ++ codes "=" ++ pid_text entry.1.owner

-- the text itself, unless it is empty
abbrev pub or_none : List ℕ → List ℕ
or_none [] = codes " none"
or_none (first ∷ rest) = first ∷ rest

abbrev pub monitors_text : Node → Pid → List ℕ
monitors_text node p =
    codes "monitors own" ++ or_none (flat_map own_text (own_of node p))
    ++ codes " others" ++ or_none (flat_map other_text (others_of node p)) ++ codes "\n"
