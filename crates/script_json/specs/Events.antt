-- Events at a node, in JSON: an object with the kind of the event, and its parameters.
use Rattle.std.specs.Prelude.{ℕ, List, codes}
use Rattle.dist_model.specs.declared.command.Command.{Command}
use Rattle.dist_model.specs.declared.command.Command.TheVariants as command
use Rattle.erl_handshake.specs.declared.profile.Profile.{Profile}
use Rattle.script_json.specs.Texts.{atom, connection, monitor, payload, process}
use Rattle.serde_json.specs.Data.{Data, boolean, member, no_members, number, object, string, unsigned}
use Rattle.node_core.specs.declared.node_event.NodeEvent.{NodeEvent}
use Rattle.node_core.specs.declared.node_event.NodeEvent.TheVariants as event

abbrev pub command_data : Command → Data
command_data command.Spawn = object (member (codes "kind") (string (codes "spawn")) no_members)
command_data (command.Send from to message) =
    object (member (codes "from") (process from) (member (codes "kind") (string (codes "send"))
    (member (codes "message") (payload message) (member (codes "to") (process to) no_members))))
command_data (command.SendName from node name message) =
    object (member (codes "from") (process from) (member (codes "kind") (string (codes "sendname"))
    (member (codes "message") (payload message) (member (codes "name") (atom name) (member (codes "node") (string node) no_members)))))
command_data (command.Link from to) =
    object
    (member (codes "from") (process from) (member (codes "kind") (string (codes "link")) (member (codes "to") (process to) no_members)))
command_data (command.Unlink from to) =
    object (member (codes "from") (process from)
    (member (codes "kind") (string (codes "unlink")) (member (codes "to") (process to) no_members)))
command_data (command.Monitor owner target) =
    object (member (codes "kind") (string (codes "monitor")) (member (codes "owner") (process owner)
    (member (codes "target") (process target) no_members)))
command_data (command.MonitorName owner node name) =
    object (member (codes "kind") (string (codes "monitorname")) (member (codes "name") (atom name)
    (member (codes "node") (string node) (member (codes "owner") (process owner) no_members))))
command_data (command.Demonitor owner reference) =
    object (member (codes "kind") (string (codes "demonitor")) (member (codes "owner") (process owner)
    (member (codes "reference") (monitor reference) no_members)))
command_data (command.Trap p on) =
    object
    (member (codes "kind") (string (codes "trap")) (member (codes "on") (boolean on) (member (codes "process") (process p) no_members)))
command_data (command.ExitTo from to reason) =
    object (member (codes "from") (process from) (member (codes "kind") (string (codes "exit"))
    (member (codes "reason") (payload reason) (member (codes "to") (process to) no_members))))
command_data (command.ExitSelf p reason) =
    object (member (codes "kind") (string (codes "die"))
    (member (codes "process") (process p) (member (codes "reason") (payload reason) no_members)))
command_data (command.Receive p) =
    object (member (codes "kind") (string (codes "receive")) (member (codes "process") (process p) no_members))
command_data (command.LinksOf p) = object (member (codes "kind") (string (codes "links")) (member (codes "process") (process p) no_members))
command_data (command.IsAlive p) = object (member (codes "kind") (string (codes "alive")) (member (codes "process") (process p) no_members))
command_data (command.Register p name) =
    object (member (codes "kind") (string (codes "register"))
    (member (codes "name") (atom name) (member (codes "process") (process p) no_members)))
command_data (command.Unregister p) =
    object (member (codes "kind") (string (codes "unregister")) (member (codes "process") (process p) no_members))
command_data (command.WhereIs name) =
    object (member (codes "kind") (string (codes "whereis")) (member (codes "name") (atom name) no_members))

-- only a node to which the connection is new uses the challenge of an arrival
abbrev pub event_data : NodeEvent → Data
event_data (event.Call command) = command_data command
event_data (event.Arrive trunk word) =
    object (member (codes "challenge") (number (unsigned word))
    (member (codes "kind") (string (codes "arrive")) (member (codes "trunk") (connection trunk) no_members)))
event_data event.Local = object (member (codes "kind") (string (codes "local")) no_members)
event_data (event.Lose trunk) =
    object (member (codes "kind") (string (codes "lose")) (member (codes "trunk") (connection trunk) no_members))
event_data event.Sweep = object (member (codes "kind") (string (codes "sweep")) no_members)
event_data (event.Dial peer word) =
    object (member (codes "challenge") (number (unsigned word))
    (member (codes "kind") (string (codes "dial")) (member (codes "peer") (string peer) no_members)))
event_data event.Stop = object (member (codes "kind") (string (codes "stop")) no_members)
event_data event.Start = object (member (codes "kind") (string (codes "start")) no_members)

-- ---- a node comes into the world of a script

abbrev pub profile_number : Profile → ℕ
profile_number Profile.One = 1
profile_number Profile.Two = 2
profile_number Profile.Three = 3

abbrev pub joined_data : (cookie : List ℕ) → Profile → Data
joined_data cookie profile =
    object (member (codes "cookie") (string cookie)
    (member (codes "kind") (string (codes "node")) (member (codes "profile") (number (unsigned (profile_number profile))) no_members)))
