-- The calls of a node.
-- (Reference Manual, Processes: Process Creation, Registered Processes, Links, Monitors, Error Handling.)
use Rattle.std.specs.Prelude.{Option, None, Some, is_some, Bool, false, if◌then◌else◌, [], ◌∷◌, ◌&&◌, nat_eq, codes}
use Rattle.std.specs.FinMap as fm
use Rattle.std.specs.Cmp.Lexicographic.{pointwise}
use Rattle.erl_names.specs.Draw as kind
use Rattle.dist_model.specs.Commands.{Accepts, Outcome, Refuses, with_id}
use Rattle.dist_model.specs.declared.report.Answer.{Answer}
use Rattle.dist_model.specs.declared.command.Command.{Command}
use Rattle.dist_model.specs.Exits.{end_process}
use Rattle.erl_control.specs.Fits.{fits}
use Rattle.dist_model.specs.Linking.{link, unlink_by}
use Rattle.dist_model.specs.Monitoring.{demonitor_by, monitor}
use Rattle.dist_model.specs.Names.{Name, same_name}
use Rattle.dist_model.specs.Naming.{NameMap, name_of, without_holder}
use Rattle.dist_model.specs.Node.{Life, Living, Node, end_of, ends_of, living, is_stranger, monitors_names}
use Rattle.dist_model.specs.Work.{Work, at_work, draw, post, set_life, to_node, to_pid}
use Rattle.erl_control.specs.declared.signal.Signal.{Signal}
use Rattle.erl_names.specs.Ids.{pid_of, reference_of}
use Rattle.erl_names.specs.Minted.{drawn, id_of}
use Rattle.erl_term.specs.Data.{Data}
use Rattle.erl_term.specs.declared.refusal.Refusal.{Refusal}
use Rattle.erl_term.specs.declared.term.Pid.{Pid}
use Rattle.monitor_core.specs.declared.monitor.Target.{Target}

-- the acting process has to be living here
abbrev pub acting : Node → Pid → Outcome → Outcome
acting node p outcome = if living node p then outcome else Refuses Refusal.NoSuchProcess

-- no process can act on a pid of this node that the node never spawned
abbrev pub toward : Node → Pid → Outcome → Outcome
toward node q outcome = if same_name q.node node.mint.name && is_stranger node q then Refuses Refusal.Forged else outcome

abbrev pub fitting : Data → Outcome → Outcome
fitting term outcome = if fits term then outcome else Refuses Refusal.TooLong

-- a node that is connected has to offer monitors by name, and so has this one
abbrev pub offering : Node → Name → Outcome → Outcome
offering node name outcome = if monitors_names node name then outcome else Refuses Refusal.NotOffered

abbrev pub spawn_life : Node → Pid → Work
spawn_life node p = at_work (record node { mint = drawn node.mint kind.Pid; lives = fm.insert node.lives p (Living false []) })

abbrev pub with_life : Node → Pid → Option Life → Work
with_life node p life = at_work (record node { lives = set_life node.lives p life })

abbrev pub trapping : Option Life → Bool → Option Life
trapping (Some (Living trap mailbox)) on = Some (Living on mailbox)
trapping life on = life

abbrev pub first_message : Option Life → Option Data
first_message (Some (Living trap (message ∷ rest))) = Some message
first_message _ = None

abbrev pub without_first : Option Life → Option Life
without_first (Some (Living trap (message ∷ rest))) = Some (Living trap rest)
without_first life = life

-- ---- registered names. (Reference Manual, Processes, Registered Processes; erlang:register/2, unregister/1 and whereis/1)

abbrev pub with_names : Node → NameMap → Work
with_names node names = at_work (record node { names = names })

abbrev pub is_undefined : Name → Bool
is_undefined name = pointwise nat_eq name (codes "undefined")

-- `undefined` is no name of a process, a name is of one process, and a process has one name
abbrev pub taking : Node → Pid → Name → Outcome → Outcome
taking node p name outcome =
    if is_undefined name then Refuses Refusal.BadName else
    (if is_some (fm.get node.names name) then Refuses Refusal.NameTaken else
    (if is_some (name_of node.names p) then Refuses Refusal.HasName else outcome))

abbrev pub giving_up : Node → Pid → Outcome → Outcome
giving_up node p outcome = if is_some (name_of node.names p) then outcome else Refuses Refusal.NoName

-- ---- all calls

abbrev pub call : Node → Command → Outcome
call node Command.Spawn = with_id (id_of node.mint kind.Pid) (λ id.
    Accepts (Answer.Pid (pid_of node.mint id)) (spawn_life node (pid_of node.mint id)))
call node (Command.Send p q message) =
    acting node p (toward node q (fitting message (Accepts Answer.Done (post (to_pid q (Signal.Send q message)) (at_work node)))))
call node (Command.SendName p target name message) =
    acting node p (fitting message (Accepts Answer.Done (post (to_node target (Signal.RegSend p name message)) (at_work node))))
call node (Command.Link p q) = acting node p (toward node q (Accepts Answer.Done (link p q (at_work node))))
call node (Command.Unlink p q) = acting node p (toward node q (unlink_by (end_of node p q) p q (at_work node)))
call node (Command.Monitor p q) = acting node p (toward node q (with_id (id_of node.mint kind.Reference) (λ count.
    let r = reference_of node.mint count in
    Accepts (Answer.Reference r) (monitor r p (Target.Pid q) (draw kind.Reference (at_work node))))))
call node (Command.MonitorName p target name) = acting node p (offering node target (with_id (id_of node.mint kind.Reference) (λ count.
    let r = reference_of node.mint count in
    Accepts (Answer.Reference r) (monitor r p (Target.Name name target) (draw kind.Reference (at_work node))))))
call node (Command.Demonitor p r) = acting node p (demonitor_by (fm.get node.watches r) p r (at_work node))
call node (Command.Trap p on) = acting node p (Accepts Answer.Done (with_life node p (trapping (fm.get node.lives p) on)))
call node (Command.ExitTo p q reason) =
    acting node p (toward node q (fitting reason (Accepts Answer.Done (post (to_pid q (Signal.Exit2 p q reason)) (at_work node)))))
call node (Command.ExitSelf p reason) = acting node p (fitting reason (Accepts Answer.Done (end_process p reason (at_work node))))
call node (Command.Receive p) =
    acting node p (Accepts (Answer.Message (first_message (fm.get node.lives p))) (with_life node p (without_first (fm.get node.lives p))))
call node (Command.LinksOf p) = acting node p (Accepts (Answer.Links (ends_of node p)) (at_work node))
call node (Command.IsAlive p) = Accepts (Answer.Alive (living node p)) (at_work node)
call node (Command.Register p name) =
    acting node p (taking node p name (Accepts Answer.Done (with_names node (fm.insert node.names name p))))
call node (Command.Unregister p) = acting node p (giving_up node p (Accepts Answer.Done (with_names node (without_holder node.names p))))
call node (Command.WhereIs name) = Accepts (Answer.Holder (fm.get node.names name)) (at_work node)
