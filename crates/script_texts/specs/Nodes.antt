-- The printed texts of a node and its processes.
use Rattle.std.specs.Prelude.{ℕ, Bool, true, false, List, [], ◌++◌, length, codes, Option, None, Some}
use Rattle.std.specs.Fmt.{decimal}
use Rattle.std.specs.List.{flat_map, slice_get}
use Rattle.dist_model.specs.Names.{Name}
use Rattle.dist_model.specs.Node.{Ended, Life, Living}
use Rattle.erl_term.specs.Data.{Data}
use Rattle.erl_term.specs.declared.term.Pid.{Pid}
use Rattle.script_terms.specs.Printing.{pid_text, term_text}

abbrev pub up_text : Bool → List ℕ
up_text true = codes "up"
up_text false = codes "down"

abbrev pub node_text : Name → Bool → ℕ → List ℕ
node_text name up creation = codes "node " ++ name ++ codes " " ++ up_text up ++ codes " " ++ decimal creation ++ codes "\n"

abbrev pub trap_text : Bool → List ℕ
trap_text true = codes "trap"
trap_text false = codes "plain"

-- a message that waits, the oldest first
abbrev pub waiting_text : Data → List ℕ
waiting_text message = codes "  " ++ term_text message ++ codes "\n"

abbrev pub waiting : Option Data → List ℕ
waiting None = []
waiting (Some message) = waiting_text message

-- the one at a place
abbrev pub waiting_at : List Data → ℕ → List ℕ
waiting_at messages place = waiting (slice_get messages place)

abbrev pub life_text : Pid → Life → List ℕ
life_text p (Living trap mailbox) =
    codes "proc " ++ pid_text p ++ codes " alive " ++ trap_text trap ++ codes " " ++ decimal (length mailbox) ++ codes "\n"
    ++ flat_map waiting_text mailbox
life_text p (Ended reason) = codes "proc " ++ pid_text p ++ codes " ended " ++ term_text reason ++ codes "\n"
