-- The fields of each signal where it lies in the bytes.
use Rattle.std.proofs.Common.{◌≡◌, ℕ, Bool, true, false, List, Option, None, Bor, refl, sym, ap, arith}
use Rattle.erl_term.specs.declared.term.Pid.{Pid}
use Rattle.erl_term.specs.declared.term.Reference.{Reference}
use Rattle.std.specs.Prelude.{pos}
use Rattle.erl_term.specs.Data.{Data, int}
use Rattle.erl_term.specs.Parts.{ReadsFront}
use Rattle.erl_control.specs.declared.signal.Signal.{Signal}
use Rattle.erl_control.specs.declared.signal.Signal.TheVariants as signal
use Rattle.erl_control.specs.declared.signal_ref.SignalRef.{SignalRef}
use Rattle.erl_control.specs.declared.signal_ref.SignalRef.TheVariants.{Link, Send, RegSend, Exit, Exit2, Monitor, Demonitor}
use Rattle.erl_control.specs.declared.signal_ref.SignalRef.TheVariants.{MonitorExit, UnlinkId, UnlinkIdAck}
use Rattle.erl_control.specs.declared.signal_ref.SignalRef.TheVariants.{MonitorName, DemonitorName, MonitorNameExit}
use Rattle.erl_control.specs.declared.fields.TargetRef.{TargetRef}
use Rattle.erl_control.specs.declared.fields.TargetRef.TheVariants.{Pid as ByPid, Name as ByName}
use Rattle.erl_control.specs.Parts.{signal_in}
use Rattle.erl_control.specs.Reading.{ArePids, AreIdAndPids, ArePidsAndReason, AreMonitor, AreMonitored, AreRegSend, AreRegSendAndMessage}
use Rattle.erl_control.specs.Reading.{AreSend, AreBefore, IsBefore, AreMonitorExit, AreSendAndMessage, ArePidsAndPayload, AreMonitorExitAndPayload, AreFields, arity_of, tag_of, HasFields}
use Rattle.erl_control.proofs.Sequence.{mapped, read_as}

-- each signal lies somewhere
pub lying : (s : Signal) → (y : SignalRef) × (signal_in y ≡ s)
lying (signal.Link p q) = (Link p q, refl)
lying (signal.Send p t) = (Send p t, refl)
lying (signal.RegSend p a t) = (RegSend p a t, refl)
lying (signal.Exit p q t) = (Exit p q t, refl)
lying (signal.Exit2 p q t) = (Exit2 p q t, refl)
lying (signal.Monitor p q r) = (Monitor p q r, refl)
lying (signal.MonitorName p n r) = (MonitorName p n r, refl)
lying (signal.Demonitor p q r) = (Demonitor p q r, refl)
lying (signal.DemonitorName p n r) = (DemonitorName p n r, refl)
lying (signal.MonitorExit p q r t) = (MonitorExit p q r t, refl)
lying (signal.MonitorNameExit n q r t) = (MonitorNameExit n q r t, refl)
lying (signal.UnlinkId id p q) = (UnlinkId id p q, refl)
lying (signal.UnlinkIdAck id p q) = (UnlinkIdAck id p q, refl)

abbrev pub link : Pid × Pid → SignalRef × ℕ
link x = (Link x.0 x.1, 3)

abbrev pub send : (Data × Pid) × Data → SignalRef × ℕ
send x = (Send x.0.1 x.1, 3)

abbrev pub reg_send : ((Pid × Data) × List ℕ) × Data → SignalRef × ℕ
reg_send x = (RegSend x.0.0.0 x.0.1 x.1, 4)

abbrev pub exit : (Pid × Pid) × Data → SignalRef × ℕ
exit x = (Exit x.0.0 x.0.1 x.1, 4)

abbrev pub payload_exit : (Pid × Pid) × Data → SignalRef × ℕ
payload_exit x = (Exit x.0.0 x.0.1 x.1, 3)

abbrev pub exit2 : (Pid × Pid) × Data → SignalRef × ℕ
exit2 x = (Exit2 x.0.0 x.0.1 x.1, 4)

abbrev pub payload_exit2 : (Pid × Pid) × Data → SignalRef × ℕ
payload_exit2 x = (Exit2 x.0.0 x.0.1 x.1, 3)

abbrev monitor_of : Pid → TargetRef → Reference → SignalRef
monitor_of p (ByPid q) r = Monitor p q r
monitor_of p (ByName n) r = MonitorName p n r

abbrev demonitor_of : Pid → TargetRef → Reference → SignalRef
demonitor_of p (ByPid q) r = Demonitor p q r
demonitor_of p (ByName n) r = DemonitorName p n r

abbrev monitor_exit_of : TargetRef → Pid → Reference → Data → SignalRef
monitor_exit_of (ByPid p) q r t = MonitorExit p q r t
monitor_exit_of (ByName n) q r t = MonitorNameExit n q r t

abbrev pub monitor : (Pid × TargetRef) × Reference → SignalRef × ℕ
monitor x = (monitor_of x.0.0 x.0.1 x.1, 4)

abbrev pub demonitor : (Pid × TargetRef) × Reference → SignalRef × ℕ
demonitor x = (demonitor_of x.0.0 x.0.1 x.1, 4)

abbrev pub monitor_exit : ((TargetRef × Pid) × Reference) × Data → SignalRef × ℕ
monitor_exit x = (monitor_exit_of x.0.0.0 x.0.0.1 x.0.1 x.1, 5)

abbrev pub payload_monitor_exit : ((TargetRef × Pid) × Reference) × Data → SignalRef × ℕ
payload_monitor_exit x = (monitor_exit_of x.0.0.0 x.0.0.1 x.0.1 x.1, 4)

abbrev pub unlink_id : ℕ × (Pid × Pid) → SignalRef × ℕ
unlink_id x = (UnlinkId x.0 x.1.0 x.1.1, 4)

abbrev pub unlink_id_ack : ℕ × (Pid × Pid) → SignalRef × ℕ
unlink_id_ack x = (UnlinkIdAck x.0 x.1.0 x.1.1, 4)

-- the fields that a signal of this tag has
abbrev Has : {A : Type 0} → (A → List ℕ → Type 0) → (A → SignalRef × ℕ) → SignalRef × ℕ → List ℕ → Type 0
Has {A} S f y b = (x : A) × (f x ≡ y) × S x b

module _ (levels : ℕ) where
  link_from : (y : SignalRef × ℕ) (b : List ℕ) → HasFields levels 1 y b → Has (ArePids levels) link y b
  link_from (Link p q, n) b (false, e, a, f) = ((p, q), ap (λ (m : ℕ). ((Link p q), m)) a, f)
  link_from (Link p q, n) b (true, e, a, f) = ((p, q), ap (λ (m : ℕ). ((Link p q), m)) a, f)
  link_from (y, n) b (false, e, a, f) = absurd (omega arith)
  link_from (y, n) b (true, e, a, f) = absurd (omega arith)

  send_from : (y : SignalRef × ℕ) (b : List ℕ) → HasFields levels 2 y b → Has (AreSendAndMessage levels) send y b
  send_from (Send p t, n) b (false, e, a, f) = (((f.0, p), t), ap (λ (m : ℕ). ((Send p t), m)) a, f.1)
  send_from (Send p t, n) b (true, e, a, f) = (((f.0, p), t), ap (λ (m : ℕ). ((Send p t), m)) a, f.1)
  send_from (y, n) b (false, e, a, f) = absurd (omega arith)
  send_from (y, n) b (true, e, a, f) = absurd (omega arith)

  reg_send_from : (y : SignalRef × ℕ) (b : List ℕ) → HasFields levels 6 y b → Has (AreRegSendAndMessage levels) reg_send y b
  reg_send_from (RegSend p k t, n) b (false, e, a, f) = ((((p, f.0), k), t), ap (λ (m : ℕ). ((RegSend p k t), m)) a, f.1)
  reg_send_from (RegSend p k t, n) b (true, e, a, f) = ((((p, f.0), k), t), ap (λ (m : ℕ). ((RegSend p k t), m)) a, f.1)
  reg_send_from (y, n) b (false, e, a, f) = absurd (omega arith)
  reg_send_from (y, n) b (true, e, a, f) = absurd (omega arith)

  exit_in : (p q : Pid) (t : Data) (n : ℕ) (b : List ℕ) (w : Bool) → tag_of (signal.Exit p q t) w ≡ 3 → arity_of (signal.Exit p q t) w ≡ n
      → AreFields levels (signal.Exit p q t) w b → Has (ArePidsAndReason levels) exit (Exit p q t, n) b
  exit_in p q t n b false e a f = (((p, q), t), ap (λ (m : ℕ). (Exit p q t, m)) a, f)
  exit_in p q t n b true e a f = absurd (omega arith)

  exit_from : (y : SignalRef × ℕ) (b : List ℕ) → HasFields levels 3 y b → Has (ArePidsAndReason levels) exit y b
  exit_from (Exit p q t, n) b h = exit_in p q t n b h.0 h.1 h.2 h.3
  exit_from (y, n) b (false, e, a, f) = absurd (omega arith)
  exit_from (y, n) b (true, e, a, f) = absurd (omega arith)

  payload_exit_in : (p q : Pid) (t : Data) (n : ℕ) (b : List ℕ) (w : Bool) → tag_of (signal.Exit p q t) w ≡ 24 → arity_of (signal.Exit p q t) w ≡ n
      → AreFields levels (signal.Exit p q t) w b → Has (ArePidsAndPayload levels) payload_exit (Exit p q t, n) b
  payload_exit_in p q t n b true e a f = (((p, q), t), ap (λ (m : ℕ). (Exit p q t, m)) a, f)
  payload_exit_in p q t n b false e a f = absurd (omega arith)

  payload_exit_from : (y : SignalRef × ℕ) (b : List ℕ) → HasFields levels 24 y b → Has (ArePidsAndPayload levels) payload_exit y b
  payload_exit_from (Exit p q t, n) b h = payload_exit_in p q t n b h.0 h.1 h.2 h.3
  payload_exit_from (y, n) b (false, e, a, f) = absurd (omega arith)
  payload_exit_from (y, n) b (true, e, a, f) = absurd (omega arith)

  exit2_in : (p q : Pid) (t : Data) (n : ℕ) (b : List ℕ) (w : Bool) → tag_of (signal.Exit2 p q t) w ≡ 8 → arity_of (signal.Exit2 p q t) w ≡ n
      → AreFields levels (signal.Exit2 p q t) w b → Has (ArePidsAndReason levels) exit2 (Exit2 p q t, n) b
  exit2_in p q t n b false e a f = (((p, q), t), ap (λ (m : ℕ). (Exit2 p q t, m)) a, f)
  exit2_in p q t n b true e a f = absurd (omega arith)

  exit2_from : (y : SignalRef × ℕ) (b : List ℕ) → HasFields levels 8 y b → Has (ArePidsAndReason levels) exit2 y b
  exit2_from (Exit2 p q t, n) b h = exit2_in p q t n b h.0 h.1 h.2 h.3
  exit2_from (y, n) b (false, e, a, f) = absurd (omega arith)
  exit2_from (y, n) b (true, e, a, f) = absurd (omega arith)

  payload_exit2_in : (p q : Pid) (t : Data) (n : ℕ) (b : List ℕ) (w : Bool) → tag_of (signal.Exit2 p q t) w ≡ 26 → arity_of (signal.Exit2 p q t) w ≡ n
      → AreFields levels (signal.Exit2 p q t) w b → Has (ArePidsAndPayload levels) payload_exit2 (Exit2 p q t, n) b
  payload_exit2_in p q t n b true e a f = (((p, q), t), ap (λ (m : ℕ). (Exit2 p q t, m)) a, f)
  payload_exit2_in p q t n b false e a f = absurd (omega arith)

  payload_exit2_from : (y : SignalRef × ℕ) (b : List ℕ) → HasFields levels 26 y b → Has (ArePidsAndPayload levels) payload_exit2 y b
  payload_exit2_from (Exit2 p q t, n) b h = payload_exit2_in p q t n b h.0 h.1 h.2 h.3
  payload_exit2_from (y, n) b (false, e, a, f) = absurd (omega arith)
  payload_exit2_from (y, n) b (true, e, a, f) = absurd (omega arith)

  monitor_to : (x : (Pid × TargetRef) × Reference) (b : List ℕ) → AreMonitor levels x b → HasFields levels 19 (monitor x) b
  monitor_to ((p, ByPid q), r) b s = (false, refl, refl, s)
  monitor_to ((p, ByName n), r) b s = (false, refl, refl, s)

  monitor_from : (y : SignalRef × ℕ) (b : List ℕ) → HasFields levels 19 y b → Has (AreMonitor levels) monitor y b
  monitor_from (Monitor p q r, n) b (false, e, a, f) = (((p, ByPid q), r), ap (λ (m : ℕ). ((Monitor p q r), m)) a, f)
  monitor_from (Monitor p q r, n) b (true, e, a, f) = (((p, ByPid q), r), ap (λ (m : ℕ). ((Monitor p q r), m)) a, f)
  monitor_from (MonitorName p k r, n) b (false, e, a, f) = (((p, ByName k), r), ap (λ (m : ℕ). ((MonitorName p k r), m)) a, f)
  monitor_from (MonitorName p k r, n) b (true, e, a, f) = (((p, ByName k), r), ap (λ (m : ℕ). ((MonitorName p k r), m)) a, f)
  monitor_from (y, n) b (false, e, a, f) = absurd (omega arith)
  monitor_from (y, n) b (true, e, a, f) = absurd (omega arith)

  demonitor_to : (x : (Pid × TargetRef) × Reference) (b : List ℕ) → AreMonitor levels x b → HasFields levels 20 (demonitor x) b
  demonitor_to ((p, ByPid q), r) b s = (false, refl, refl, s)
  demonitor_to ((p, ByName n), r) b s = (false, refl, refl, s)

  demonitor_from : (y : SignalRef × ℕ) (b : List ℕ) → HasFields levels 20 y b → Has (AreMonitor levels) demonitor y b
  demonitor_from (Demonitor p q r, n) b (false, e, a, f) = (((p, ByPid q), r), ap (λ (m : ℕ). ((Demonitor p q r), m)) a, f)
  demonitor_from (Demonitor p q r, n) b (true, e, a, f) = (((p, ByPid q), r), ap (λ (m : ℕ). ((Demonitor p q r), m)) a, f)
  demonitor_from (DemonitorName p k r, n) b (false, e, a, f) = (((p, ByName k), r), ap (λ (m : ℕ). ((DemonitorName p k r), m)) a, f)
  demonitor_from (DemonitorName p k r, n) b (true, e, a, f) = (((p, ByName k), r), ap (λ (m : ℕ). ((DemonitorName p k r), m)) a, f)
  demonitor_from (y, n) b (false, e, a, f) = absurd (omega arith)
  demonitor_from (y, n) b (true, e, a, f) = absurd (omega arith)

  monitor_exit_in : (p q : Pid) (r : Reference) (t : Data) (n : ℕ) (b : List ℕ) (w : Bool) → tag_of (signal.MonitorExit p q r t) w ≡ 21 → arity_of (signal.MonitorExit p q r t) w ≡ n
      → AreFields levels (signal.MonitorExit p q r t) w b → Has (AreMonitorExit levels) monitor_exit (MonitorExit p q r t, n) b
  monitor_exit_in p q r t n b false e a f = ((((ByPid p, q), r), t), ap (λ (m : ℕ). (MonitorExit p q r t, m)) a, f)
  monitor_exit_in p q r t n b true e a f = absurd (omega arith)

  name_exit_in : (k : List ℕ) (q : Pid) (r : Reference) (t : Data) (n : ℕ) (b : List ℕ) (w : Bool) → tag_of (signal.MonitorNameExit k q r t) w ≡ 21 → arity_of (signal.MonitorNameExit k q r t) w ≡ n
      → AreFields levels (signal.MonitorNameExit k q r t) w b → Has (AreMonitorExit levels) monitor_exit (MonitorNameExit k q r t, n) b
  name_exit_in k q r t n b false e a f = ((((ByName k, q), r), t), ap (λ (m : ℕ). (MonitorNameExit k q r t, m)) a, f)
  name_exit_in k q r t n b true e a f = absurd (omega arith)

  monitor_exit_to : (x : ((TargetRef × Pid) × Reference) × Data) (b : List ℕ) → AreMonitorExit levels x b → HasFields levels 21 (monitor_exit x) b
  monitor_exit_to (((ByPid p, q), r), t) b s = (false, refl, refl, s)
  monitor_exit_to (((ByName n, q), r), t) b s = (false, refl, refl, s)

  monitor_exit_from : (y : SignalRef × ℕ) (b : List ℕ) → HasFields levels 21 y b → Has (AreMonitorExit levels) monitor_exit y b
  monitor_exit_from (MonitorExit p q r t, n) b h = monitor_exit_in p q r t n b h.0 h.1 h.2 h.3
  monitor_exit_from (MonitorNameExit k q r t, n) b h = name_exit_in k q r t n b h.0 h.1 h.2 h.3
  monitor_exit_from (y, n) b (false, e, a, f) = absurd (omega arith)
  monitor_exit_from (y, n) b (true, e, a, f) = absurd (omega arith)

  payload_monitor_exit_in : (p q : Pid) (r : Reference) (t : Data) (n : ℕ) (b : List ℕ) (w : Bool) → tag_of (signal.MonitorExit p q r t) w ≡ 28 → arity_of (signal.MonitorExit p q r t) w ≡ n
      → AreFields levels (signal.MonitorExit p q r t) w b → Has (AreMonitorExitAndPayload levels) payload_monitor_exit (MonitorExit p q r t, n) b
  payload_monitor_exit_in p q r t n b true e a f = ((((ByPid p, q), r), t), ap (λ (m : ℕ). (MonitorExit p q r t, m)) a, f)
  payload_monitor_exit_in p q r t n b false e a f = absurd (omega arith)

  payload_name_exit_in : (k : List ℕ) (q : Pid) (r : Reference) (t : Data) (n : ℕ) (b : List ℕ) (w : Bool) → tag_of (signal.MonitorNameExit k q r t) w ≡ 28 → arity_of (signal.MonitorNameExit k q r t) w ≡ n
      → AreFields levels (signal.MonitorNameExit k q r t) w b → Has (AreMonitorExitAndPayload levels) payload_monitor_exit (MonitorNameExit k q r t, n) b
  payload_name_exit_in k q r t n b true e a f = ((((ByName k, q), r), t), ap (λ (m : ℕ). (MonitorNameExit k q r t, m)) a, f)
  payload_name_exit_in k q r t n b false e a f = absurd (omega arith)

  payload_monitor_exit_to : (x : ((TargetRef × Pid) × Reference) × Data) (b : List ℕ) → AreMonitorExitAndPayload levels x b
      → HasFields levels 28 (payload_monitor_exit x) b
  payload_monitor_exit_to (((ByPid p, q), r), t) b s = (true, refl, refl, s)
  payload_monitor_exit_to (((ByName n, q), r), t) b s = (true, refl, refl, s)

  payload_monitor_exit_from : (y : SignalRef × ℕ) (b : List ℕ) → HasFields levels 28 y b → Has (AreMonitorExitAndPayload levels) payload_monitor_exit y b
  payload_monitor_exit_from (MonitorExit p q r t, n) b h = payload_monitor_exit_in p q r t n b h.0 h.1 h.2 h.3
  payload_monitor_exit_from (MonitorNameExit k q r t, n) b h = payload_name_exit_in k q r t n b h.0 h.1 h.2 h.3
  payload_monitor_exit_from (y, n) b (false, e, a, f) = absurd (omega arith)
  payload_monitor_exit_from (y, n) b (true, e, a, f) = absurd (omega arith)

  unlink_id_from : (y : SignalRef × ℕ) (b : List ℕ) → HasFields levels 35 y b → Has (AreIdAndPids levels) unlink_id y b
  unlink_id_from (UnlinkId id p q, n) b (false, e, a, f) = ((id, (p, q)), ap (λ (m : ℕ). ((UnlinkId id p q), m)) a, f)
  unlink_id_from (UnlinkId id p q, n) b (true, e, a, f) = ((id, (p, q)), ap (λ (m : ℕ). ((UnlinkId id p q), m)) a, f)
  unlink_id_from (y, n) b (false, e, a, f) = absurd (omega arith)
  unlink_id_from (y, n) b (true, e, a, f) = absurd (omega arith)

  unlink_id_ack_from : (y : SignalRef × ℕ) (b : List ℕ) → HasFields levels 36 y b → Has (AreIdAndPids levels) unlink_id_ack y b
  unlink_id_ack_from (UnlinkIdAck id p q, n) b (false, e, a, f) = ((id, (p, q)), ap (λ (m : ℕ). ((UnlinkIdAck id p q), m)) a, f)
  unlink_id_ack_from (UnlinkIdAck id p q, n) b (true, e, a, f) = ((id, (p, q)), ap (λ (m : ℕ). ((UnlinkIdAck id p q), m)) a, f)
  unlink_id_ack_from (y, n) b (false, e, a, f) = absurd (omega arith)
  unlink_id_ack_from (y, n) b (true, e, a, f) = absurd (omega arith)

  pub read_link : (bytes : List ℕ) (o : Option ((Pid × Pid) × Bor (List ℕ))) → ReadsFront (ArePids levels) bytes o
      → ReadsFront (HasFields levels 1) bytes (mapped link o)
  read_link bytes o r = read_as (ArePids levels) (HasFields levels 1) link (λ x b s. (false, refl, refl, s)) link_from bytes o r

  pub read_send : (bytes : List ℕ) (o : Option (((Data × Pid) × Data) × Bor (List ℕ))) → ReadsFront (AreSendAndMessage levels) bytes o
      → ReadsFront (HasFields levels 2) bytes (mapped send o)
  read_send bytes o r = read_as (AreSendAndMessage levels) (HasFields levels 2) send (λ x b s. (false, refl, refl, (x.0.0, s))) send_from bytes o r

  pub read_reg_send : (bytes : List ℕ) (o : Option ((((Pid × Data) × List ℕ) × Data) × Bor (List ℕ))) → ReadsFront (AreRegSendAndMessage levels) bytes o
      → ReadsFront (HasFields levels 6) bytes (mapped reg_send o)
  read_reg_send bytes o r =
      read_as (AreRegSendAndMessage levels) (HasFields levels 6) reg_send (λ x b s. (false, refl, refl, (x.0.0.1, s))) reg_send_from bytes o r

  pub read_exit : (bytes : List ℕ) (o : Option (((Pid × Pid) × Data) × Bor (List ℕ))) → ReadsFront (ArePidsAndReason levels) bytes o
      → ReadsFront (HasFields levels 3) bytes (mapped exit o)
  read_exit bytes o r = read_as (ArePidsAndReason levels) (HasFields levels 3) exit (λ x b s. (false, refl, refl, s)) exit_from bytes o r

  pub read_payload_exit : (bytes : List ℕ) (o : Option (((Pid × Pid) × Data) × Bor (List ℕ))) → ReadsFront (ArePidsAndPayload levels) bytes o
      → ReadsFront (HasFields levels 24) bytes (mapped payload_exit o)
  read_payload_exit bytes o r = read_as (ArePidsAndPayload levels) (HasFields levels 24) payload_exit (λ x b s. (true, refl, refl, s)) payload_exit_from bytes o r

  pub read_exit2 : (bytes : List ℕ) (o : Option (((Pid × Pid) × Data) × Bor (List ℕ))) → ReadsFront (ArePidsAndReason levels) bytes o
      → ReadsFront (HasFields levels 8) bytes (mapped exit2 o)
  read_exit2 bytes o r = read_as (ArePidsAndReason levels) (HasFields levels 8) exit2 (λ x b s. (false, refl, refl, s)) exit2_from bytes o r

  pub read_payload_exit2 : (bytes : List ℕ) (o : Option (((Pid × Pid) × Data) × Bor (List ℕ))) → ReadsFront (ArePidsAndPayload levels) bytes o
      → ReadsFront (HasFields levels 26) bytes (mapped payload_exit2 o)
  read_payload_exit2 bytes o r = read_as (ArePidsAndPayload levels) (HasFields levels 26) payload_exit2 (λ x b s. (true, refl, refl, s)) payload_exit2_from bytes o r

  pub read_monitor : (bytes : List ℕ) (o : Option (((Pid × TargetRef) × Reference) × Bor (List ℕ))) → ReadsFront (AreMonitor levels) bytes o
      → ReadsFront (HasFields levels 19) bytes (mapped monitor o)
  read_monitor bytes o r = read_as (AreMonitor levels) (HasFields levels 19) monitor monitor_to monitor_from bytes o r

  pub read_demonitor : (bytes : List ℕ) (o : Option (((Pid × TargetRef) × Reference) × Bor (List ℕ))) → ReadsFront (AreMonitor levels) bytes o
      → ReadsFront (HasFields levels 20) bytes (mapped demonitor o)
  read_demonitor bytes o r = read_as (AreMonitor levels) (HasFields levels 20) demonitor demonitor_to demonitor_from bytes o r

  pub read_monitor_exit : (bytes : List ℕ) (o : Option ((((TargetRef × Pid) × Reference) × Data) × Bor (List ℕ))) → ReadsFront (AreMonitorExit levels) bytes o
      → ReadsFront (HasFields levels 21) bytes (mapped monitor_exit o)
  read_monitor_exit bytes o r = read_as (AreMonitorExit levels) (HasFields levels 21) monitor_exit monitor_exit_to monitor_exit_from bytes o r

  pub read_payload_monitor_exit : (bytes : List ℕ) (o : Option ((((TargetRef × Pid) × Reference) × Data) × Bor (List ℕ))) → ReadsFront (AreMonitorExitAndPayload levels) bytes o
      → ReadsFront (HasFields levels 28) bytes (mapped payload_monitor_exit o)
  read_payload_monitor_exit bytes o r =
      read_as (AreMonitorExitAndPayload levels) (HasFields levels 28) payload_monitor_exit payload_monitor_exit_to payload_monitor_exit_from bytes o r

  pub read_unlink_id : (bytes : List ℕ) (o : Option ((ℕ × (Pid × Pid)) × Bor (List ℕ))) → ReadsFront (AreIdAndPids levels) bytes o
      → ReadsFront (HasFields levels 35) bytes (mapped unlink_id o)
  read_unlink_id bytes o r = read_as (AreIdAndPids levels) (HasFields levels 35) unlink_id (λ x b s. (false, refl, refl, s)) unlink_id_from bytes o r

  pub read_unlink_id_ack : (bytes : List ℕ) (o : Option ((ℕ × (Pid × Pid)) × Bor (List ℕ))) → ReadsFront (AreIdAndPids levels) bytes o
      → ReadsFront (HasFields levels 36) bytes (mapped unlink_id_ack o)
  read_unlink_id_ack bytes o r = read_as (AreIdAndPids levels) (HasFields levels 36) unlink_id_ack (λ x b s. (false, refl, refl, s)) unlink_id_ack_from bytes o r

  -- no signal has another tag
  pub no_tag : (tag : ℕ) (bytes : List ℕ) → (¬ (tag ≡ 1)) → (¬ (tag ≡ 2)) → (¬ (tag ≡ 6)) → (¬ (tag ≡ 3)) → (¬ (tag ≡ 8)) → (¬ (tag ≡ 19)) → (¬ (tag ≡ 20)) → (¬ (tag ≡ 21)) → (¬ (tag ≡ 35)) → (¬ (tag ≡ 36)) → (¬ (tag ≡ 24)) → (¬ (tag ≡ 26)) → (¬ (tag ≡ 28)) → ReadsFront (HasFields levels tag) bytes None
  no_tag tag bytes a b r c d e f g h i j k l = record { takes = tt; again = λ y text rest t p. never y.0 t.0 t.1 }
    where
      never : (y : SignalRef) (payload : Bool) → tag_of (signal_in y) payload ≡ tag → ⊥
      never (Link p q) payload m = a (sym m)
      never (Send p t) payload m = b (sym m)
      never (RegSend p n t) payload m = r (sym m)
      never (Exit p q t) false m = c (sym m)
      never (Exit p q t) true m = j (sym m)
      never (Exit2 p q t) false m = d (sym m)
      never (Exit2 p q t) true m = k (sym m)
      never (Monitor p q r) payload m = e (sym m)
      never (MonitorName p n r) payload m = e (sym m)
      never (Demonitor p q r) payload m = f (sym m)
      never (DemonitorName p n r) payload m = f (sym m)
      never (MonitorExit p q r t) false m = g (sym m)
      never (MonitorExit p q r t) true m = l (sym m)
      never (MonitorNameExit n q r t) false m = g (sym m)
      never (MonitorNameExit n q r t) true m = l (sym m)
      never (UnlinkId id p q) payload m = h (sym m)
      never (UnlinkIdAck id p q) payload m = i (sym m)

-- ---- control terms that a message follows

abbrev nothing : Data
nothing = int (pos 0)

module _ (levels : ℕ) where
  send_before : (y : ℕ) (b : List ℕ) → IsBefore levels 2 y b → (x : Data × Pid) × (3 ≡ y) × AreSend levels x b
  send_before y b (signal.Send p t, false, u, e, a, f) = ((u, p), a, f)
  send_before y b (signal.Send p t, true, u, e, a, f) = ((u, p), a, f)
  send_before y b (s, false, u, e, a, f) = absurd (omega arith)
  send_before y b (s, true, u, e, a, f) = absurd (omega arith)

  pub read_send_before : (bytes : List ℕ) (o : Option ((Data × Pid) × Bor (List ℕ))) → ReadsFront (AreSend levels) bytes o
      → ReadsFront (IsBefore levels 2) bytes (mapped (λ _. 3) o)
  read_send_before bytes o r =
      read_as (AreSend levels) (IsBefore levels 2) (λ _. 3) (λ x b s. (signal.Send x.1 x.0, false, x.0, refl, refl, s)) send_before bytes o r

  reg_send_before : (y : ℕ) (b : List ℕ) → IsBefore levels 6 y b → (x : (Pid × Data) × List ℕ) × (4 ≡ y) × AreRegSend levels x b
  reg_send_before y b (signal.RegSend p n t, false, u, e, a, f) = (((p, u), n), a, f)
  reg_send_before y b (signal.RegSend p n t, true, u, e, a, f) = (((p, u), n), a, f)
  reg_send_before y b (s, false, u, e, a, f) = absurd (omega arith)
  reg_send_before y b (s, true, u, e, a, f) = absurd (omega arith)

  pub read_reg_send_before : (bytes : List ℕ) (o : Option (((Pid × Data) × List ℕ) × Bor (List ℕ))) → ReadsFront (AreRegSend levels) bytes o
      → ReadsFront (IsBefore levels 6) bytes (mapped (λ _. 4) o)
  read_reg_send_before bytes o r =
      read_as (AreRegSend levels) (IsBefore levels 6) (λ _. 4) (λ x b s. (signal.RegSend x.0.0 x.1 nothing, false, x.0.1, refl, refl, s)) reg_send_before bytes o r

  exit_before_in : (p q : Pid) (t : Data) (u : Data) (y : ℕ) (b : List ℕ) (w : Bool) → arity_of (signal.Exit p q t) w ≡ y
      → AreBefore levels u (signal.Exit p q t) w b → (x : Pid × Pid) × (3 ≡ y) × ArePids levels x b
  exit_before_in p q t u y b true a f = ((p, q), a, f)
  exit_before_in p q t u y b false a f = absurd f

  exit_before : (y : ℕ) (b : List ℕ) → IsBefore levels 24 y b → (x : Pid × Pid) × (3 ≡ y) × ArePids levels x b
  exit_before y b (signal.Exit p q t, w, u, e, a, f) = exit_before_in p q t u y b w a f
  exit_before y b (s, false, u, e, a, f) = absurd (omega arith)
  exit_before y b (s, true, u, e, a, f) = absurd (omega arith)

  pub read_exit_before : (bytes : List ℕ) (o : Option ((Pid × Pid) × Bor (List ℕ))) → ReadsFront (ArePids levels) bytes o
      → ReadsFront (IsBefore levels 24) bytes (mapped (λ _. 3) o)
  read_exit_before bytes o r =
      read_as (ArePids levels) (IsBefore levels 24) (λ _. 3) (λ x b s. (signal.Exit x.0 x.1 nothing, true, nothing, refl, refl, s)) exit_before bytes o r

  exit2_before_in : (p q : Pid) (t : Data) (u : Data) (y : ℕ) (b : List ℕ) (w : Bool) → arity_of (signal.Exit2 p q t) w ≡ y
      → AreBefore levels u (signal.Exit2 p q t) w b → (x : Pid × Pid) × (3 ≡ y) × ArePids levels x b
  exit2_before_in p q t u y b true a f = ((p, q), a, f)
  exit2_before_in p q t u y b false a f = absurd f

  exit2_before : (y : ℕ) (b : List ℕ) → IsBefore levels 26 y b → (x : Pid × Pid) × (3 ≡ y) × ArePids levels x b
  exit2_before y b (signal.Exit2 p q t, w, u, e, a, f) = exit2_before_in p q t u y b w a f
  exit2_before y b (s, false, u, e, a, f) = absurd (omega arith)
  exit2_before y b (s, true, u, e, a, f) = absurd (omega arith)

  pub read_exit2_before : (bytes : List ℕ) (o : Option ((Pid × Pid) × Bor (List ℕ))) → ReadsFront (ArePids levels) bytes o
      → ReadsFront (IsBefore levels 26) bytes (mapped (λ _. 3) o)
  read_exit2_before bytes o r =
      read_as (ArePids levels) (IsBefore levels 26) (λ _. 3) (λ x b s. (signal.Exit2 x.0 x.1 nothing, true, nothing, refl, refl, s)) exit2_before bytes o r

  monitor_exit_before_in : (p q : Pid) (r : Reference) (t : Data) (u : Data) (y : ℕ) (b : List ℕ) (w : Bool) → arity_of (signal.MonitorExit p q r t) w ≡ y
      → AreBefore levels u (signal.MonitorExit p q r t) w b → (x : (TargetRef × Pid) × Reference) × (4 ≡ y) × AreMonitored levels x b
  monitor_exit_before_in p q r t u y b true a f = (((ByPid p, q), r), a, f)
  monitor_exit_before_in p q r t u y b false a f = absurd f

  name_exit_before_in : (k : List ℕ) (q : Pid) (r : Reference) (t : Data) (u : Data) (y : ℕ) (b : List ℕ) (w : Bool) → arity_of (signal.MonitorNameExit k q r t) w ≡ y
      → AreBefore levels u (signal.MonitorNameExit k q r t) w b → (x : (TargetRef × Pid) × Reference) × (4 ≡ y) × AreMonitored levels x b
  name_exit_before_in k q r t u y b true a f = (((ByName k, q), r), a, f)
  name_exit_before_in k q r t u y b false a f = absurd f

  monitor_exit_before : (y : ℕ) (b : List ℕ) → IsBefore levels 28 y b → (x : (TargetRef × Pid) × Reference) × (4 ≡ y) × AreMonitored levels x b
  monitor_exit_before y b (signal.MonitorExit p q r t, w, u, e, a, f) = monitor_exit_before_in p q r t u y b w a f
  monitor_exit_before y b (signal.MonitorNameExit k q r t, w, u, e, a, f) = name_exit_before_in k q r t u y b w a f
  monitor_exit_before y b (s, false, u, e, a, f) = absurd (omega arith)
  monitor_exit_before y b (s, true, u, e, a, f) = absurd (omega arith)

  monitor_exit_after : (x : (TargetRef × Pid) × Reference) (b : List ℕ) → AreMonitored levels x b → IsBefore levels 28 4 b
  monitor_exit_after ((ByPid p, q), r) b s = (signal.MonitorExit p q r nothing, true, nothing, refl, refl, s)
  monitor_exit_after ((ByName n, q), r) b s = (signal.MonitorNameExit n q r nothing, true, nothing, refl, refl, s)

  pub read_monitor_exit_before : (bytes : List ℕ) (o : Option (((TargetRef × Pid) × Reference) × Bor (List ℕ))) → ReadsFront (AreMonitored levels) bytes o
      → ReadsFront (IsBefore levels 28) bytes (mapped (λ _. 4) o)
  read_monitor_exit_before bytes o r =
      read_as (AreMonitored levels) (IsBefore levels 28) (λ _. 4) monitor_exit_after monitor_exit_before bytes o r

  -- no other tag is that of such a term
  pub no_before_tag : (tag : ℕ) (bytes : List ℕ) → (¬ (tag ≡ 2)) → (¬ (tag ≡ 6)) → (¬ (tag ≡ 24)) → (¬ (tag ≡ 26)) → (¬ (tag ≡ 28)) → ReadsFront (IsBefore levels tag) bytes None
  no_before_tag tag bytes a r b c d = record { takes = tt; again = λ n text rest t p. never t.0 t.1 t.2 text t.3 t.5 }
    where
      never : (s : Signal) (payload : Bool) (unused : Data) (x : List ℕ) → tag_of s payload ≡ tag → AreBefore levels unused s payload x → ⊥
      never (signal.Send p t) payload unused x m f = a (sym m)
      never (signal.RegSend p n t) payload unused x m f = r (sym m)
      never (signal.Exit p q t) true unused x m f = b (sym m)
      never (signal.Exit2 p q t) true unused x m f = c (sym m)
      never (signal.MonitorExit p q r t) true unused x m f = d (sym m)
      never (signal.MonitorNameExit n q r t) true unused x m f = d (sym m)
      never (signal.Exit p q t) false unused x m f = absurd f
      never (signal.Exit2 p q t) false unused x m f = absurd f
      never (signal.MonitorExit p q r t) false unused x m f = absurd f
      never (signal.MonitorNameExit n q r t) false unused x m f = absurd f
      never _ payload unused x m f = absurd f
