-- What a frame carries can be sent on.
use Rattle.std.proofs.Common.{◌^◌, ◌<◌, Bool, true, false, ℕ, List, length, Some, Ok, take, ap, arith}
use Rattle.std.proofs.lemmas.List.{length-append}
use Rattle.erl_control.specs.Answer.{IsFrameDue}
use Rattle.erl_control.specs.Control.{Carries, Fits, IsFit, IsSendable, control_in, message_in}
use Rattle.erl_control.specs.Frame.{IsFramed, SpellsMessage, IsSignalText}
use Rattle.erl_control.specs.declared.signal.Item.TheVariants.{Signal as SignalItem}
use Rattle.erl_control.specs.declared.signal.Signal.{Signal}
use Rattle.erl_control.specs.declared.signal.Signal.TheVariants.{Send, RegSend, Exit, Exit2}
use Rattle.erl_control.specs.declared.signal.Signal.TheVariants.{MonitorExit, MonitorNameExit}
use Rattle.erl_term.specs.Canonical.{IsInRange}
use Rattle.erl_term.specs.Spelling.{IsSpelling}
use Rattle.erl_term.proofs.InRange.{spelled_in_range}

carried : (s : Signal) (text : List ℕ) → IsSignalText s text → length text < 2 ^ 32 → Carries IsFit s → Carries Fits s
carried s text r short fit = by s r.payload r.spelled r.told fit
  where
    lens : (length r.control < 2 ^ 32) × (length r.message < 2 ^ 32)
    lens = let e = ap length r.bytes in let both = length-append r.control r.message in (omega arith, omega arith)

    by : (s : Signal) (payload : Bool) → IsSpelling 64 (control_in r.unused s payload) r.control
        → SpellsMessage (message_in s payload) r.message → Carries IsFit s → Carries Fits s
    by (Send to message) payload c m f = (spelled_in_range 64 message r.message m lens.1, f.0, f.1)
    by (RegSend from name message) payload c m f = (spelled_in_range 64 message r.message m lens.1, f.0, f.1)
    by (Exit from to reason) false c m f =
        let all : IsInRange (control_in r.unused (Exit from to reason) false) = spelled_in_range 64 _ r.control c lens.0 in
        (all.1.1.1.1.0, f.0, f.1)
    by (Exit from to reason) true c m f = (spelled_in_range 64 reason r.message m lens.1, f.0, f.1)
    by (Exit2 from to reason) false c m f =
        let all : IsInRange (control_in r.unused (Exit2 from to reason) false) = spelled_in_range 64 _ r.control c lens.0 in
        (all.1.1.1.1.0, f.0, f.1)
    by (Exit2 from to reason) true c m f = (spelled_in_range 64 reason r.message m lens.1, f.0, f.1)
    by (MonitorExit from to reference reason) false c m f =
        let all : IsInRange (control_in r.unused (MonitorExit from to reference reason) false) = spelled_in_range 64 _ r.control c lens.0 in
        (all.1.1.1.1.1.0, f.0, f.1)
    by (MonitorExit from to reference reason) true c m f = (spelled_in_range 64 reason r.message m lens.1, f.0, f.1)
    by (MonitorNameExit name to reference reason) false c m f =
        let all : IsInRange (control_in r.unused (MonitorNameExit name to reference reason) false) = spelled_in_range 64 _ r.control c lens.0 in
        (all.1.1.1.1.1.0, f.0, f.1)
    by (MonitorNameExit name to reference reason) true c m f = (spelled_in_range 64 reason r.message m lens.1, f.0, f.1)
    by _ payload c m f = tt

pub framed_sendable : (s : Signal) (b : List ℕ) → IsFramed (SignalItem s) b → IsSendable s
framed_sendable s b r = let short = r.short in (r.is_text.has_id, carried s r.text r.is_text (omega arith) r.fit)

pub due_sendable : (s : Signal) (bytes : List ℕ) (len : ℕ) → IsFrameDue bytes (Ok (Some (SignalItem s, len))) → IsSendable s
due_sendable s bytes len d = framed_sendable s (take len bytes) d.1
