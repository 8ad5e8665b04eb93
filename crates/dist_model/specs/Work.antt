-- A node in the midst of an event: its new state, and its effects so far.
use Rattle.std.specs.Prelude.{Option, None, Some, ◌&&◌, if◌then◌else◌, List, [], ◌∷◌, ◌++◌}
use Rattle.std.specs.FinMap as fm
use Rattle.dist_model.specs.Items.{Item, Signalled, has_reason}
use Rattle.dist_model.specs.Names.{Name, pair_cmp, same_name}
use Rattle.dist_model.specs.Node.{Life, Living, Node, payload_to, route}
use Rattle.dist_model.specs.declared.report.Effect.{Effect}
use Rattle.erl_control.specs.declared.signal.Signal.{Signal}
use Rattle.erl_names.specs.Draw.{Draw}
use Rattle.erl_names.specs.Minted.{drawn}
use Rattle.erl_names.specs.declared.trunk.TrunkId.{TrunkId}
use Rattle.erl_term.specs.Data.{Data}
use Rattle.erl_term.specs.Order.{pid_cmp}
use Rattle.erl_term.specs.declared.term.Pid.{Pid}
use Rattle.link_core.specs.declared.end.End.{End}
use Rattle.std.specs.FinMap.{FinMap}

pub record Work : Type 0 where
  pub node : Node
  -- in the order in which they happened
  pub effects : List (Effect Item)

abbrev pub at_work : Node → Work
at_work node = record { node = node; effects = [] }

abbrev pub report : Effect Item → Work → Work
report effect work = record work { effects = work.effects ++ effect ∷ [] }

-- ---- sending

abbrev pub keep_local : Item → Work → Work
keep_local item work = record {
  node = record (work.node) { local = work.node.local ++ item ∷ [] };
  effects = work.effects ++ Effect.Sent None work.node.mint.name item ∷ [];
}

abbrev pub send_on : Option TrunkId → Name → Item → Work → Work
send_on None peer item work = work
send_on (Some trunk) peer item work = report (Effect.Sent (Some trunk) peer item) work

-- into the own list, onto the trunk that is up, or nowhere
abbrev pub post_to : Name → Item → Work → Work
post_to target item work =
    if same_name target work.node.mint.name then keep_local item work else send_on (route work.node target) target item work

-- a signal, and the node that it goes to
pub record Addressed : Type 0 where
  pub node : Name
  pub signal : Signal

abbrev pub to_node : Name → Signal → Addressed
to_node name signal = record { node = name; signal = signal }

-- to the node of a process
abbrev pub to_pid : Pid → Signal → Addressed
to_pid p signal = to_node p.node signal

-- the signal as the sending node spells it
abbrev pub spelled : Node → Addressed → Item
spelled node letter = Signalled letter.signal (has_reason letter.signal && payload_to node letter.node)

-- a signal goes to the node that it is addressed to. (Reference Manual, Processes, Delivery of Signals)
abbrev pub post : Addressed → Work → Work
post letter work = post_to letter.node (spelled work.node letter) work

abbrev pub post_all : List Addressed → Work → Work
post_all [] work = work
post_all (letter ∷ rest) work = post_all rest (post letter work)

-- ---- changes of the node

abbrev pub delivered : Option Life → Data → Option Life
delivered (Some (Living trap mailbox)) message = Some (Living trap (mailbox ++ message ∷ []))
delivered life message = life

abbrev pub set_life : FinMap pid_cmp Life → Pid → Option Life → FinMap pid_cmp Life
set_life lives p None = lives
set_life lives p (Some life) = fm.insert lives p life

-- a message comes into the mailbox of a living process
abbrev pub put : Pid → Data → Work → Work
put p message work = record work {
  node = record (work.node) { lives = set_life work.node.lives p (delivered (fm.get work.node.lives p) message) };
  effects = work.effects ++ Effect.Put p message ∷ [];
}

abbrev pub set_in : FinMap pair_cmp End → Pid × Pid → End → FinMap pair_cmp End
set_in ends pair End.None = fm.remove ends pair
set_in ends pair End.Active = fm.insert ends pair End.Active
set_in ends pair (End.Pending id) = fm.insert ends pair (End.Pending id)

abbrev pub set_end : Pid → Pid → End → Work → Work
set_end p q end work = record work { node = record (work.node) { ends = set_in work.node.ends (p, q) end } }

-- a number is drawn
abbrev pub draw : Draw → Work → Work
draw kind work = record work { node = record (work.node) { mint = drawn work.node.mint kind } }
