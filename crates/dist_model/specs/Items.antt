-- What travels between two nodes, and from a node to itself.
-- (ERTS User's Guide, Distribution Protocol.)
use Rattle.std.specs.List.{flat_map}
use Rattle.std.specs.Prelude.{Bool, true, false, if◌then◌else◌, ◌&&◌, List, [], ◌∷◌}
use Rattle.dist_model.specs.Names.{same_pid}
use Rattle.dist_model.specs.declared.report.Kind.{Kind}
use Rattle.erl_control.specs.declared.signal.Signal.{Signal}
use Rattle.erl_handshake.specs.declared.message.ShakeMsg.{ShakeMsg}
use Rattle.erl_term.specs.declared.term.Pid.{Pid}
use Rattle.link_core.specs.News.{Exited, LinkNews, Signals}
use Rattle.link_core.specs.declared.end.LinkSignal.{LinkSignal}

-- A signal stands with `true` if its reason follows the control term.
pub data Item : Type 0 where
  Signalled : (signal : Signal) → (payload : Bool) → Item
  Handshake : ShakeMsg → Item
  -- tells that the peer is there
  Tick : Item

-- the signals that have a reason, which may follow the control term
abbrev pub has_reason : Signal → Bool
has_reason (Signal.Exit from to reason) = true
has_reason (Signal.Exit2 from to reason) = true
has_reason (Signal.MonitorExit from to r reason) = true
has_reason (Signal.MonitorNameExit name to r reason) = true
has_reason _ = false

-- the signal by which p tells q news of their link
abbrev pub telling : Pid → Pid → LinkNews → Signal
telling p q (Signals LinkSignal.Link) = Signal.Link p q
telling p q (Signals (LinkSignal.Unlink id)) = Signal.UnlinkId id p q
telling p q (Signals (LinkSignal.Ack id)) = Signal.UnlinkIdAck id p q
telling p q (Exited reason) = Signal.Exit p q reason

-- what p tells q of their link by an item, and by those of a list
abbrev pub if_between : Pid → Pid → Pid → Pid → LinkNews → List LinkNews
if_between p q from to told = if same_pid from p && same_pid to q then told ∷ [] else []

abbrev pub news_in : Pid → Pid → Item → List LinkNews
news_in p q (Signalled (Signal.Link from to) payload) = if_between p q from to (Signals LinkSignal.Link)
news_in p q (Signalled (Signal.Exit from to reason) payload) = if_between p q from to (Exited reason)
news_in p q (Signalled (Signal.UnlinkId id from to) payload) = if_between p q from to (Signals (LinkSignal.Unlink id))
news_in p q (Signalled (Signal.UnlinkIdAck id from to) payload) = if_between p q from to (Signals (LinkSignal.Ack id))
news_in p q _ = []

abbrev pub news : Pid → Pid → List Item → List LinkNews
news p q = flat_map (news_in p q)

-- what an item is
abbrev pub kind_of : Item → Kind
kind_of (Signalled (Signal.Link from to) payload) = Kind.Link
kind_of (Signalled (Signal.Send to message) payload) = Kind.Send
kind_of (Signalled (Signal.RegSend from name message) payload) = Kind.RegSend
kind_of (Signalled (Signal.Exit from to reason) payload) = Kind.Exit
kind_of (Signalled (Signal.Exit2 from to reason) payload) = Kind.Exit2
kind_of (Signalled (Signal.Monitor from to r) payload) = Kind.Monitor
kind_of (Signalled (Signal.MonitorName from name r) payload) = Kind.Monitor
kind_of (Signalled (Signal.Demonitor from to r) payload) = Kind.Demonitor
kind_of (Signalled (Signal.DemonitorName from name r) payload) = Kind.Demonitor
kind_of (Signalled (Signal.MonitorExit from to r reason) payload) = Kind.MonitorExit
kind_of (Signalled (Signal.MonitorNameExit name to r reason) payload) = Kind.MonitorExit
kind_of (Signalled (Signal.UnlinkId id from to) payload) = Kind.Unlink
kind_of (Signalled (Signal.UnlinkIdAck id from to) payload) = Kind.UnlinkAck
kind_of (Handshake (ShakeMsg.SendName flags creation name)) = Kind.SendName
kind_of (Handshake (ShakeMsg.Status status)) = Kind.Status
kind_of (Handshake (ShakeMsg.Challenge flags challenge creation name)) = Kind.Challenge
kind_of (Handshake (ShakeMsg.ChallengeReply challenge digest)) = Kind.ChallengeReply
kind_of (Handshake (ShakeMsg.ChallengeAck digest)) = Kind.ChallengeAck
kind_of Tick = Kind.Tick
