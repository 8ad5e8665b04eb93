-- The parts of a signal's text, as they are read one after the other.
use Rattle.std.specs.Prelude.{◌≡◌, ◌≢◌, ℕ, ◌<◌, ◌^◌, Bool, true, false, is_some, pos, List, [], ◌∷◌, ◌++◌}
use Rattle.erl_term.specs.declared.parts.TupleHead.{TupleHead}
use Rattle.erl_term.specs.declared.term.Pid.{Pid}
use Rattle.erl_term.specs.declared.term.Reference.{Reference}
use Rattle.erl_term.specs.Data.{Data, int, atom, pid, reference}
use Rattle.erl_term.specs.Spelling.{Spells, IsSpelling}
use Rattle.erl_term.specs.Parts.{IsTupleHead}
use Rattle.erl_control.specs.declared.fields.TargetRef.{TargetRef}
use Rattle.erl_control.specs.declared.fields.TargetRef.TheVariants.{Pid as ByPid, Name as ByName}
use Rattle.erl_control.specs.declared.tags.TheConstants.{LINK, SEND, REG_SEND, EXIT, EXIT2, MONITOR_P, DEMONITOR_P}
use Rattle.erl_control.specs.declared.tags.TheConstants.{MONITOR_P_EXIT, UNLINK_ID, UNLINK_ID_ACK}
use Rattle.erl_control.specs.declared.tags.TheConstants.{LINK_ARITY, SEND_ARITY, REG_SEND_ARITY, EXIT_ARITY, EXIT2_ARITY, MONITOR_P_ARITY}
use Rattle.erl_control.specs.declared.tags.TheConstants.{DEMONITOR_P_ARITY, MONITOR_P_EXIT_ARITY, UNLINK_ID_ARITY, UNLINK_ID_ACK_ARITY}
use Rattle.erl_control.specs.declared.tags.TheConstants.{PAYLOAD_EXIT, PAYLOAD_EXIT2, PAYLOAD_MONITOR_P_EXIT}
use Rattle.erl_control.specs.declared.tags.TheConstants.{PAYLOAD_EXIT_ARITY, PAYLOAD_EXIT2_ARITY, PAYLOAD_MONITOR_P_EXIT_ARITY}
use Rattle.erl_control.specs.declared.signal.Signal.{Signal}
use Rattle.erl_control.specs.declared.signal.Signal.TheVariants as signal
use Rattle.erl_control.specs.declared.signal_ref.SignalRef.{SignalRef}
use Rattle.erl_control.specs.declared.signal.Item.{Item}
use Rattle.erl_control.specs.declared.signal.Item.TheVariants.{Tick, Signal as SignalItem}
use Rattle.erl_control.specs.declared.error.FrameError.{FrameError}
use Rattle.erl_control.specs.declared.error.FrameError.TheVariants.{NotPassThrough, BadControl, TooLong, Term, OutOfMemory}
use Rattle.erl_control.specs.Control.{control_in, message_in, IsUnlinkId, Carries, IsFit}
use Rattle.erl_control.specs.Parts.{signal_in}
use Rattle.erl_control.specs.Frame.{IsSignalText}
use Rattle.erl_control.specs.Answer.{IsTermFault, IsBadControl, IsUnfit}

-- a text of S, and then one of T
pub record IsPair {A B : Type 0} (S : A → List ℕ → Type 0) (T : B → List ℕ → Type 0) (x : A × B) (text : List ℕ) : Type 0 where
  pub front : List ℕ
  pub back : List ℕ
  pub is_front : S x.0 front
  pub is_back : T x.1 back
  pub parts : text ≡ front ++ back

-- the version byte, and the head of a tuple
pub record IsOpening (x : TupleHead) (text : List ℕ) : Type 0 where
  pub head : List ℕ
  pub is_head : IsTupleHead 64 x head
  pub bytes : text ≡ 131 ∷ head

-- a number of 64 bits without a sign, of so many levels at most
abbrev pub IsNaturalText : ℕ → ℕ → List ℕ → Type 0
IsNaturalText levels n text = (n < 2 ^ 64) × Spells levels (int (pos n)) text

-- the opening of a row, and its first element
pub record IsRowHead (x : TupleHead × ℕ) (text : List ℕ) : Type 0 where
  pub front : List ℕ
  pub back : List ℕ
  pub is_front : IsOpening x.0 front
  pub is_back : IsNaturalText x.0.levels x.1 back
  pub parts : text ≡ front ++ back

-- ---- fields, each of so many levels at most

abbrev pub IsIdText : ℕ → ℕ → List ℕ → Type 0
IsIdText levels id text = IsUnlinkId id × Spells levels (int (pos id)) text

abbrev pub IsPidText : ℕ → Pid → List ℕ → Type 0
IsPidText levels p text = Spells levels (pid p) text

abbrev pub IsReferenceText : ℕ → Reference → List ℕ → Type 0
IsReferenceText levels r text = Spells levels (reference r) text

abbrev pub IsNameText : ℕ → List ℕ → List ℕ → Type 0
IsNameText levels name text = Spells levels (atom name) text

abbrev pub IsTermText : ℕ → Data → List ℕ → Type 0
IsTermText levels t text = Spells levels t text

-- a process that is monitored, by its pid or by its registered name
abbrev pub target_term : TargetRef → Data
target_term (ByPid p) = pid p
target_term (ByName name) = atom name

abbrev pub IsTargetText : ℕ → TargetRef → List ℕ → Type 0
IsTargetText levels target text = Spells levels (target_term target) text

-- From and To
abbrev pub ArePids : ℕ → Pid × Pid → List ℕ → Type 0
ArePids levels = IsPair (IsPidText levels) (IsPidText levels)

-- Id, From and To
abbrev pub AreIdAndPids : ℕ → ℕ × (Pid × Pid) → List ℕ → Type 0
AreIdAndPids levels = IsPair (IsIdText levels) (ArePids levels)

-- From, To and Reason
abbrev pub ArePidsAndReason : ℕ → (Pid × Pid) × Data → List ℕ → Type 0
ArePidsAndReason levels = IsPair (ArePids levels) (IsTermText levels)

-- From, To and Ref, where To is monitored
abbrev pub AreMonitor : ℕ → (Pid × TargetRef) × Reference → List ℕ → Type 0
AreMonitor levels = IsPair (IsPair (IsPidText levels) (IsTargetText levels)) (IsReferenceText levels)

-- From, To and Ref, where From was monitored
abbrev pub AreMonitored : ℕ → (TargetRef × Pid) × Reference → List ℕ → Type 0
AreMonitored levels = IsPair (IsPair (IsTargetText levels) (IsPidText levels)) (IsReferenceText levels)

-- the same, and Reason
abbrev pub AreMonitorExit : ℕ → ((TargetRef × Pid) × Reference) × Data → List ℕ → Type 0
AreMonitorExit levels = IsPair (AreMonitored levels) (IsTermText levels)

-- Unused and To
abbrev pub AreSend : ℕ → Data × Pid → List ℕ → Type 0
AreSend levels = IsPair (IsTermText levels) (IsPidText levels)

-- the same, and the message behind the control term
abbrev pub AreSendAndMessage : ℕ → (Data × Pid) × Data → List ℕ → Type 0
AreSendAndMessage levels = IsPair (AreSend levels) (IsSpelling 64)

-- From, Unused and ToName
abbrev pub AreRegSend : ℕ → (Pid × Data) × List ℕ → List ℕ → Type 0
AreRegSend levels = IsPair (IsPair (IsPidText levels) (IsTermText levels)) (IsNameText levels)

-- the same, and the message behind the control term
abbrev pub AreRegSendAndMessage : ℕ → ((Pid × Data) × List ℕ) × Data → List ℕ → Type 0
AreRegSendAndMessage levels = IsPair (AreRegSend levels) (IsSpelling 64)

-- From and To, and the reason behind the control term
abbrev pub ArePidsAndPayload : ℕ → (Pid × Pid) × Data → List ℕ → Type 0
ArePidsAndPayload levels = IsPair (ArePids levels) (IsSpelling 64)

-- From, which was monitored, To and Ref, and the reason behind the control term
abbrev pub AreMonitorExitAndPayload : ℕ → ((TargetRef × Pid) × Reference) × Data → List ℕ → Type 0
AreMonitorExitAndPayload levels = IsPair (AreMonitored levels) (IsSpelling 64)

-- ---- rows

abbrev pub tag_of : Signal → Bool → ℕ
tag_of (signal.Link from to) payload = LINK
tag_of (signal.Send to message) payload = SEND
tag_of (signal.RegSend from name message) payload = REG_SEND
tag_of (signal.Exit from to reason) false = EXIT
tag_of (signal.Exit from to reason) true = PAYLOAD_EXIT
tag_of (signal.Exit2 from to reason) false = EXIT2
tag_of (signal.Exit2 from to reason) true = PAYLOAD_EXIT2
tag_of (signal.Monitor from to r) payload = MONITOR_P
tag_of (signal.MonitorName from name r) payload = MONITOR_P
tag_of (signal.Demonitor from to r) payload = DEMONITOR_P
tag_of (signal.DemonitorName from name r) payload = DEMONITOR_P
tag_of (signal.MonitorExit from to r reason) false = MONITOR_P_EXIT
tag_of (signal.MonitorExit from to r reason) true = PAYLOAD_MONITOR_P_EXIT
tag_of (signal.MonitorNameExit name to r reason) false = MONITOR_P_EXIT
tag_of (signal.MonitorNameExit name to r reason) true = PAYLOAD_MONITOR_P_EXIT
tag_of (signal.UnlinkId id from to) payload = UNLINK_ID
tag_of (signal.UnlinkIdAck id from to) payload = UNLINK_ID_ACK

abbrev pub arity_of : Signal → Bool → ℕ
arity_of (signal.Link from to) payload = LINK_ARITY
arity_of (signal.Send to message) payload = SEND_ARITY
arity_of (signal.RegSend from name message) payload = REG_SEND_ARITY
arity_of (signal.Exit from to reason) false = EXIT_ARITY
arity_of (signal.Exit from to reason) true = PAYLOAD_EXIT_ARITY
arity_of (signal.Exit2 from to reason) false = EXIT2_ARITY
arity_of (signal.Exit2 from to reason) true = PAYLOAD_EXIT2_ARITY
arity_of (signal.Monitor from to r) payload = MONITOR_P_ARITY
arity_of (signal.MonitorName from name r) payload = MONITOR_P_ARITY
arity_of (signal.Demonitor from to r) payload = DEMONITOR_P_ARITY
arity_of (signal.DemonitorName from name r) payload = DEMONITOR_P_ARITY
arity_of (signal.MonitorExit from to r reason) false = MONITOR_P_EXIT_ARITY
arity_of (signal.MonitorExit from to r reason) true = PAYLOAD_MONITOR_P_EXIT_ARITY
arity_of (signal.MonitorNameExit name to r reason) false = MONITOR_P_EXIT_ARITY
arity_of (signal.MonitorNameExit name to r reason) true = PAYLOAD_MONITOR_P_EXIT_ARITY
arity_of (signal.UnlinkId id from to) payload = UNLINK_ID_ARITY
arity_of (signal.UnlinkIdAck id from to) payload = UNLINK_ID_ACK_ARITY

-- what stands behind the tag, each element of so many levels at most, and the message
abbrev pub AreFields : ℕ → Signal → Bool → List ℕ → Type 0
AreFields levels (signal.Link from to) payload b = ArePids levels (from, to) b
AreFields levels (signal.Send to message) payload b = (unused : Data) × AreSendAndMessage levels ((unused, to), message) b
AreFields levels (signal.RegSend from name message) payload b =
    (unused : Data) × AreRegSendAndMessage levels (((from, unused), name), message) b
AreFields levels (signal.Exit from to reason) false b = ArePidsAndReason levels ((from, to), reason) b
AreFields levels (signal.Exit from to reason) true b = ArePidsAndPayload levels ((from, to), reason) b
AreFields levels (signal.Exit2 from to reason) false b = ArePidsAndReason levels ((from, to), reason) b
AreFields levels (signal.Exit2 from to reason) true b = ArePidsAndPayload levels ((from, to), reason) b
AreFields levels (signal.Monitor from to r) payload b = AreMonitor levels ((from, ByPid to), r) b
AreFields levels (signal.MonitorName from name r) payload b = AreMonitor levels ((from, ByName name), r) b
AreFields levels (signal.Demonitor from to r) payload b = AreMonitor levels ((from, ByPid to), r) b
AreFields levels (signal.DemonitorName from name r) payload b = AreMonitor levels ((from, ByName name), r) b
AreFields levels (signal.MonitorExit from to r reason) false b = AreMonitorExit levels (((ByPid from, to), r), reason) b
AreFields levels (signal.MonitorExit from to r reason) true b = AreMonitorExitAndPayload levels (((ByPid from, to), r), reason) b
AreFields levels (signal.MonitorNameExit name to r reason) false b = AreMonitorExit levels (((ByName name, to), r), reason) b
AreFields levels (signal.MonitorNameExit name to r reason) true b = AreMonitorExitAndPayload levels (((ByName name, to), r), reason) b
AreFields levels (signal.UnlinkId id from to) payload b = AreIdAndPids levels (id, (from, to)) b
AreFields levels (signal.UnlinkIdAck id from to) payload b = AreIdAndPids levels (id, (from, to)) b

-- the same, of the signals of one tag, and how many elements the control term has
abbrev pub HasFields : ℕ → ℕ → SignalRef × ℕ → List ℕ → Type 0
HasFields levels tag x b =
    (payload : Bool) × (tag_of (signal_in x.0) payload ≡ tag) × (arity_of (signal_in x.0) payload ≡ x.1)
    × AreFields levels (signal_in x.0) payload b

-- ---- a control term that a message follows

-- what stands behind its tag, but for the message
abbrev pub AreBefore : ℕ → Data → Signal → Bool → List ℕ → Type 0
AreBefore levels unused (signal.Send to message) payload b = AreSend levels (unused, to) b
AreBefore levels unused (signal.RegSend from name message) payload b = AreRegSend levels ((from, unused), name) b
AreBefore levels unused (signal.Exit from to reason) true b = ArePids levels (from, to) b
AreBefore levels unused (signal.Exit2 from to reason) true b = ArePids levels (from, to) b
AreBefore levels unused (signal.MonitorExit from to r reason) true b = AreMonitored levels ((ByPid from, to), r) b
AreBefore levels unused (signal.MonitorNameExit name to r reason) true b = AreMonitored levels ((ByName name, to), r) b
AreBefore levels unused s payload b = ⊥

-- the same, of the control terms of one tag and so many elements
abbrev pub IsBefore : ℕ → ℕ → ℕ → List ℕ → Type 0
IsBefore levels tag n b =
    (s : Signal) × (payload : Bool) × (unused : Data) × (tag_of s payload ≡ tag) × (arity_of s payload ≡ n)
    × AreBefore levels unused s payload b

-- the control term, by its tag
abbrev pub IsFollowedText : ℕ → List ℕ → Type 0
IsFollowedText tag text =
    (s : Signal) × (payload : Bool) × (unused : Data) × (tag_of s payload ≡ tag) × (is_some (message_in s payload) ≡ true)
    × IsSpelling 64 (control_in unused s payload) text

-- ---- the text of a signal and the body of a frame

abbrev pub IsText : SignalRef → List ℕ → Type 0
IsText s b = IsSignalText (signal_in s) b

-- no signal's text stands at the front
abbrev pub HasNoText : List ℕ → Type 0
HasNoText text = (s : Signal) (front rest : List ℕ) → IsSignalText s front → text ≡ front ++ rest → ⊥

abbrev pub IsTextFault : List ℕ → FrameError → Type 0
IsTextFault text (Term e) = IsTermFault text e
IsTextFault text BadControl = IsBadControl text
IsTextFault text TooLong = IsUnfit text
IsTextFault text NotPassThrough = ⊥
IsTextFault text OutOfMemory = ⊥

-- the whole text of a signal, and what it carries fits
abbrev pub IsFitText : Signal → List ℕ → Type 0
IsFitText s text = IsSignalText s text × Carries IsFit s

-- what a frame's body carries
abbrev pub IsBody : Item → List ℕ → Type 0
IsBody Tick body = body ≡ []
IsBody (SignalItem s) body = (text : List ℕ) × (body ≡ 112 ∷ text) × IsFitText s text

abbrev pub IsBodyFault : List ℕ → FrameError → Type 0
IsBodyFault body NotPassThrough = (first : ℕ) × (text : List ℕ) × (body ≡ first ∷ text) × (first ≢ 112)
IsBodyFault body (Term e) = (text : List ℕ) × (body ≡ 112 ∷ text) × IsTermFault text e
IsBodyFault body BadControl = (text : List ℕ) × (body ≡ 112 ∷ text) × IsBadControl text
IsBodyFault body TooLong = (text : List ℕ) × (body ≡ 112 ∷ text) × IsUnfit text
IsBodyFault body OutOfMemory = ⊥
