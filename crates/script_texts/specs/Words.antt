-- The words for what travels, what is swept and what breaks a side of a connection.
-- (ERTS User's Guide, Distribution Protocol.)
use Rattle.std.specs.Prelude.{ℕ, List, codes}
use Rattle.conn_core.specs.declared.arrival.Fault.{Fault}
use Rattle.conn_core.specs.declared.arrival.Fault.TheVariants.{Shake, Frame, Forged}
use Rattle.dist_model.specs.declared.report.Kind.{Kind}
use Rattle.dist_model.specs.declared.report.Kind.TheVariants as kind
use Rattle.dist_model.specs.declared.report.Swept.{Swept}
use Rattle.dist_model.specs.declared.report.Swept.TheVariants as swept
use Rattle.erl_control.specs.declared.error.FrameFault.{FrameFault}
use Rattle.erl_control.specs.declared.error.FrameFault.TheVariants as frame
use Rattle.erl_handshake.specs.Faults.{refusal_of}
use Rattle.erl_term.specs.ErrorNumbers.{refusal_name}
use Rattle.erl_term.specs.declared.refusal.Refusal.TheVariants as refusal

abbrev pub kind_name : Kind → List ℕ
kind_name kind.SendName = codes "send_name"
kind_name kind.Status = codes "status"
kind_name kind.Challenge = codes "challenge"
kind_name kind.ChallengeReply = codes "challenge_reply"
kind_name kind.ChallengeAck = codes "challenge_ack"
kind_name kind.Tick = codes "tick"
kind_name kind.Link = codes "link"
kind_name kind.Send = codes "send"
kind_name kind.RegSend = codes "reg_send"
kind_name kind.Exit = codes "exit"
kind_name kind.Exit2 = codes "exit2"
kind_name kind.Monitor = codes "monitor"
kind_name kind.Demonitor = codes "demonitor"
kind_name kind.MonitorExit = codes "monitor_exit"
kind_name kind.Unlink = codes "unlink"
kind_name kind.UnlinkAck = codes "unlink_ack"

abbrev pub swept_name : Swept → List ℕ
swept_name swept.Link = codes "link"
swept_name swept.Watch = codes "watch"
swept_name swept.Registration = codes "registration"
swept_name swept.Side = codes "side"

abbrev pub frame_fault_name : FrameFault → List ℕ
frame_fault_name frame.NotPassThrough = codes "NotPassThrough"
frame_fault_name frame.BadControl = codes "BadControl"
frame_fault_name frame.TooLong = codes "TooLong"
frame_fault_name (frame.Term e) = codes "Term"

-- a fault of the handshake, and a forged signal, have the names of the refusals that they are
abbrev pub fault_name : Fault → List ℕ
fault_name (Shake why) = refusal_name (refusal_of why)
fault_name (Frame why) = frame_fault_name why
fault_name Forged = refusal_name refusal.Forged
