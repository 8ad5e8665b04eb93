-- The monitors of a run by their references: which calls began and ended them, and the DOWN messages that came of them.
-- (Reference Manual, Processes, Monitors.)
use Rattle.std.specs.Prelude.{◌≡◌, ◌⊎◌, ℕ, ◌+◌, Bool, true, false, if◌then◌else◌, List, [], ◌∷◌, ◌++◌, ◌&&◌, codes, nat_eq, Option, None, Some}
use Rattle.std.specs.Cmp.Lexicographic.{pointwise}
use Rattle.std.specs.Ordering.{eq_by_cmp}
use Rattle.dist_model.specs.declared.report.Answer.{Answer}
use Rattle.dist_model.specs.declared.command.Command.{Command}
use Rattle.dist_model.specs.Items.{Item}
use Rattle.dist_model.specs.Histories.{History}
use Rattle.dist_model.specs.declared.report.Kind.{Kind}
use Rattle.dist_model.specs.declared.report.Effect.{Effect}
use Rattle.dist_model.specs.World.{Arrive, Call, Event, Local, Refused, Report, Reported}
use Rattle.erl_term.specs.Data.{Data, atom, item, no_items, pid, reference, tuple}
use Rattle.erl_term.specs.declared.term.Pid.{Pid}
use Rattle.monitor_core.specs.declared.monitor.Target.{Target}
use Rattle.erl_term.specs.declared.term.Reference.{Reference}
use Rattle.erl_term.specs.Order.{reference_cmp}

abbrev pub same_reference : Reference → Reference → Bool
same_reference r s = eq_by_cmp reference_cmp r s

-- ---- the calls

-- a Monitor or MonitorName call was answered with this reference
abbrev pub is_answered : Reference → Event → Report → Bool
is_answered r (Call node (Command.Monitor p q)) (Reported (Answer.Reference s) effects) = same_reference r s
is_answered r (Call node (Command.MonitorName p target name)) (Reported (Answer.Reference s) effects) = same_reference r s
is_answered r _ _ = false

-- how often
abbrev pub answers : Reference → History → ℕ
answers r [] = 0
answers r (last ∷ before) = (if is_answered r last.event last.report then 1 else 0) + answers r before

-- it is the call by which p monitors the target
abbrev pub IsCallOf : Pid → Target → Event → Type 0
IsCallOf p (Target.Pid q) event = event ≡ Call p.node (Command.Monitor p q)
IsCallOf p (Target.Name name node) event = event ≡ Call p.node (Command.MonitorName p node name)

-- p monitors the target under it
abbrev pub Monitored : Reference → Pid → Target → History → Type 0
Monitored r p target [] = ⊥
Monitored r p target (last ∷ before) =
    (IsCallOf p target last.event × (is_answered r last.event last.report ≡ true)) ⊎ Monitored r p target before

-- a Demonitor call for it went through
abbrev pub is_demonitored : Reference → Event → Report → Bool
is_demonitored r (Call node (Command.Demonitor p s)) (Reported answer effects) = same_reference r s
is_demonitored r _ _ = false

abbrev pub Demonitored : Reference → History → Type 0
Demonitored r [] = ⊥
Demonitored r (last ∷ before) = (is_demonitored r last.event last.report ≡ true) ⊎ Demonitored r before

-- ---- the messages

-- its receiver, its target, and its reason
pub record Down : Type 0 where
  pub owner : Pid
  pub target : Target
  pub info : Data

-- Pid, or {Name, Node}
abbrev pub target_in : Data → Option Target
target_in (pid p) = Some (Target.Pid p)
target_in (tuple (item (atom name) (item (atom node) no_items))) = Some (Target.Name name node)
target_in _ = None

abbrev pub down_of : Pid → Option Target → Data → List Down
down_of owner None info = []
down_of owner (Some target) info = (record { owner = owner; target = target; info = info }) ∷ []

-- {'DOWN', Ref, process, Object, Info}
abbrev pub down_in : Reference → Pid → Data → List Down
down_in r owner (tuple (item (atom name) (item (reference of) (item (atom kind) (item object (item info no_items)))))) =
    if pointwise nat_eq name (codes "DOWN") && same_reference r of && pointwise nat_eq kind (codes "process")
    then down_of owner (target_in object) info
    else []
down_in r owner _ = []

abbrev pub downs_in : Reference → List (Effect Item) → List Down
downs_in r [] = []
downs_in r (Effect.Put owner message ∷ rest) = down_in r owner message ++ downs_in r rest
downs_in r (effect ∷ rest) = downs_in r rest

-- what a process sent may have that form too. It is a message and no DOWN
abbrev pub is_sent_message : Answer → Bool
is_sent_message (Answer.Took Kind.Send) = true
is_sent_message (Answer.Took Kind.RegSend) = true
is_sent_message _ = false

abbrev pub takes_message : Event → Report → Bool
takes_message (Arrive trunk node word) (Reported answer effects) = is_sent_message answer
takes_message (Local node) (Reported answer effects) = is_sent_message answer
takes_message _ _ = false

abbrev pub downs_by : Reference → Event → Report → List Down
downs_by r event (Refused refusal) = []
downs_by r event (Reported answer effects) = if takes_message event (Reported answer effects) then [] else downs_in r effects

-- the latest first
abbrev pub downs : Reference → History → List Down
downs r [] = []
downs r (last ∷ before) = downs_by r last.event last.report ++ downs r before
