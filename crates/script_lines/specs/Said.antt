-- The meaning of a line, without the places of its words. Terms and atoms stand as their texts.
use Rattle.std.specs.Prelude.{ℕ, Bool, List, Option}
use Rattle.std.specs.Option.{option_map}
use Rattle.erl_handshake.specs.declared.profile.Profile.{Profile}
use Rattle.erl_term.specs.declared.term.Pid.{Pid}
use Rattle.erl_term.specs.declared.term.Reference.{Reference}
use Rattle.erl_names.specs.declared.trunk.TrunkId.{TrunkId}
use Rattle.script_lines.specs.declared.line.Connection.{Connection}
use Rattle.script_lines.specs.declared.line.Line.{Line}
use Rattle.script_lines.specs.declared.line.Line.TheVariants as line

pub data Said : Type 0 where
  Node : (name cookie : List ℕ) → Profile → Said
  Pair : Said
  Spawn : (node name : List ℕ) → Said
  Send : (from to : Pid) → (term : List ℕ) → Said
  Link : (from to : Pid) → Said
  Unlink : (from to : Pid) → Said
  Monitor : (owner target : Pid) → (name : List ℕ) → Said
  Demonitor : (owner : Pid) → Reference → Said
  Trap : (process : Pid) → (on : Bool) → Said
  Exit : (from to : Pid) → (term : List ℕ) → Said
  Die : (process : Pid) → (term : List ℕ) → Said
  Receive : (process : Pid) → Said
  Links : (process : Pid) → Said
  Alive : (process : Pid) → Said
  Monitors : (process : Pid) → Said
  Register : (process : Pid) → (name : List ℕ) → Said
  Unregister : (process : Pid) → Said
  WhereIs : (node name : List ℕ) → Said
  SendName : (from : Pid) → (node name term : List ℕ) → Said
  MonitorName : (owner : Pid) → (node atom name : List ℕ) → Said
  Ends : (first second : Pid) → Said
  Dial : (node peer : List ℕ) → Said
  Route : (node peer : List ℕ) → Said
  Travels : (node peer : List ℕ) → Said
  Why : (node peer : List ℕ) → Said
  Lose : (node peer : List ℕ) → Option TrunkId → Said
  Cut : (node peer : List ℕ) → Said
  Stop : (node : List ℕ) → Said
  Start : (node : List ℕ) → Said
  Deliver : (node peer : List ℕ) → Option TrunkId → Said
  Local : (node : List ℕ) → Said
  Sweep : (node : List ℕ) → Said
  Settle : Said
  Challenge : (number : ℕ) → Said
  Show : (all : Bool) → Said
  Expect : (words : List ℕ) → Said

-- a connection that a word names
abbrev pub trunk_of : Connection → TrunkId
trunk_of it = record { dialer = it.dialer.now; count = it.count }

abbrev pub said : Line → Said
said (line.Node name cookie profile) = Node name.now cookie.now profile
said line.Pair = Pair
said (line.Spawn node name) = Spawn node.now name.now
said (line.Send from to term) = Send from.now to.now term.now
said (line.Link from to) = Link from.now to.now
said (line.Unlink from to) = Unlink from.now to.now
said (line.Monitor owner target name) = Monitor owner.now target.now name.now
said (line.Demonitor owner reference) = Demonitor owner.now reference.now
said (line.Trap process on) = Trap process.now on
said (line.Exit from to term) = Exit from.now to.now term.now
said (line.Die process term) = Die process.now term.now
said (line.Receive process) = Receive process.now
said (line.Links process) = Links process.now
said (line.Alive process) = Alive process.now
said (line.Monitors process) = Monitors process.now
said (line.Register process name) = Register process.now name.now
said (line.Unregister process) = Unregister process.now
said (line.WhereIs node name) = WhereIs node.now name.now
said (line.SendName from node name term) = SendName from.now node.now name.now term.now
said (line.MonitorName owner node atom name) = MonitorName owner.now node.now atom.now name.now
said (line.Ends first second) = Ends first.now second.now
said (line.Dial node peer) = Dial node.now peer.now
said (line.Route node peer) = Route node.now peer.now
said (line.Travels node peer) = Travels node.now peer.now
said (line.Why node peer) = Why node.now peer.now
said (line.Lose node peer connection) = Lose node.now peer.now (option_map trunk_of connection)
said (line.Cut node peer) = Cut node.now peer.now
said (line.Stop node) = Stop node.now
said (line.Start node) = Start node.now
said (line.Deliver node peer connection) = Deliver node.now peer.now (option_map trunk_of connection)
said (line.Local node) = Local node.now
said (line.Sweep node) = Sweep node.now
said line.Settle = Settle
said (line.Challenge number) = Challenge number
said (line.Show all) = Show all
said (line.Expect words) = Expect words.now
