-- What bytes come to at a side is what is due of them as a message, or as a frame.
use Rattle.std.proofs.Common.{◌≡◌, inl, inr, ℕ, List, Option, Some, None, Result, Ok, Err, refl, ap, sym, ◌∙◌}
use Rattle.erl_term.specs.declared.refusal.Refusal.{Refusal}
use Rattle.erl_term.specs.declared.refusal.Refusal.TheVariants.{BadMessage}
use Rattle.erl_control.specs.declared.signal.Item.{Item}
use Rattle.erl_control.specs.declared.error.FrameError.{FrameError}
use Rattle.erl_control.specs.declared.error.FrameError.TheVariants as error
use Rattle.erl_control.specs.declared.error.FrameFault.{FrameFault}
use Rattle.erl_control.specs.declared.error.FrameFault.TheVariants as fault
use Rattle.erl_control.specs.Numbers.{fault_of, error_of}
use Rattle.erl_control.specs.Answer.{IsFrameDue}
use Rattle.erl_handshake.specs.declared.message.Role.{Role}
use Rattle.erl_handshake.specs.declared.message.ShakeMsg.{ShakeMsg}
use Rattle.erl_handshake.specs.declared.identity.Identity.{Identity}
use Rattle.erl_handshake.specs.Answer.{IsShakeDue}
use Rattle.conn_core.specs.declared.standing.Standing.{Standing}
use Rattle.conn_core.specs.declared.side.Side.{Side}
use Rattle.conn_core.specs.declared.arrival.Arrival.{Arrival}
use Rattle.conn_core.specs.Side.{on_message, on_no_message, on_item, on_no_frame}
use Rattle.conn_core.specs.Arrivals.{MessageDue, FrameDue}

-- one thing, and no second
abbrev pub One : (Option Arrival → Type 0) → Type 0
One Due = (due : Option Arrival) × Due due × ((other : Option Arrival) → Due other → other ≡ due)

-- ---- a side that shakes hands

abbrev Shaken : Type 0
Shaken = Result (Option (ShakeMsg × ℕ)) Refusal

abbrev of_shaken : Identity → Side → ℕ → Shaken → Option Arrival
of_shaken own side word (Ok None) = None
of_shaken own side word (Ok (Some x)) = Some (on_message own side.peer side.standing x.0 word x.1)
of_shaken own side word (Err e) = Some (on_no_message side.standing)

shaken_due : (reader : Role) (own : Identity) (side : Side) (bytes : List ℕ) (word : ℕ) (read : Shaken) → IsShakeDue reader bytes read →
    MessageDue reader own side bytes word (of_shaken own side word read)
shaken_due reader own side bytes word (Ok None) d = d
shaken_due reader own side bytes word (Ok (Some x)) d = inl (x.0, x.1, d, refl)
shaken_due reader own side bytes word (Err e) d = inr ((refl, d.1), refl)

pub of_message : (reader : Role) (own : Identity) (side : Side) (bytes : List ℕ) (word : ℕ) (due : Option Arrival)
    → MessageDue reader own side bytes word due →
    (read : Shaken) × IsShakeDue reader bytes read × (due ≡ of_shaken own side word read)
of_message reader own side bytes word None d = (Ok None, d, refl)
of_message reader own side bytes word (Some a) (inl x) = (Ok (Some (x.0, x.1)), x.2, ap Some x.3)
of_message reader own side bytes word (Some a) (inr x) = (Err BadMessage, x.0, ap Some x.1)

pub one_message : (reader : Role) (own : Identity) (side : Side) (bytes : List ℕ) (word : ℕ) (read : Shaken)
    → IsShakeDue reader bytes read →
    ((other : Shaken) → IsShakeDue reader bytes other → other ≡ read) → One (MessageDue reader own side bytes word)
one_message reader own side bytes word read d once = (
  of_shaken own side word read,
  shaken_due reader own side bytes word read d,
  λ other m.
      let from = of_message reader own side bytes word other m in
      from.2 ∙ ap (of_shaken own side word) (once from.0 from.1),
)

-- ---- a side that is up

abbrev Framed : Type 0
Framed = Result (Option (Item × ℕ)) FrameError

abbrev broken_by : Standing → Option FrameFault → Option Arrival
broken_by standing (Some why) = Some (on_no_frame standing why)
broken_by standing None = None

abbrev of_framed : Standing → Framed → Option Arrival
of_framed standing (Ok None) = None
of_framed standing (Ok (Some x)) = Some (on_item standing x.0 x.1)
of_framed standing (Err e) = broken_by standing (fault_of e)

framed_due : (standing : Standing) (bytes : List ℕ) (read : Framed) → IsFrameDue bytes read
    → FrameDue standing bytes (of_framed standing read)
framed_due standing bytes (Ok None) d = d
framed_due standing bytes (Ok (Some x)) d = inl (x.0, x.1, d, refl)
framed_due standing bytes (Err error.NotPassThrough) d = inr (fault.NotPassThrough, d, refl)
framed_due standing bytes (Err error.BadControl) d = inr (fault.BadControl, d, refl)
framed_due standing bytes (Err error.TooLong) d = inr (fault.TooLong, d, refl)
framed_due standing bytes (Err (error.Term e)) d = inr (fault.Term e, d, refl)
framed_due standing bytes (Err error.OutOfMemory) d = absurd d

fault_back : (why : FrameFault) → fault_of (error_of why) ≡ Some why
fault_back fault.NotPassThrough = refl
fault_back _ = refl

of_frame : (standing : Standing) (bytes : List ℕ) (due : Option Arrival) → FrameDue standing bytes due → (read : Framed)
    × IsFrameDue bytes read × (due ≡ of_framed standing read)
of_frame standing bytes None d = (Ok None, d, refl)
of_frame standing bytes (Some a) (inl x) = (Ok (Some (x.0, x.1)), x.2, ap Some x.3)
of_frame standing bytes (Some a) (inr x) =
    let by : of_framed standing (Err (error_of x.0)) ≡ Some (on_no_frame standing x.0) = ap (broken_by standing) (fault_back x.0) in
    (Err (error_of x.0), x.1, ap Some x.2 ∙ sym by)

pub one_frame : (standing : Standing) (bytes : List ℕ) (read : Framed) → IsFrameDue bytes read →
    ((other : Framed) → IsFrameDue bytes other → other ≡ read) → One (FrameDue standing bytes)
one_frame standing bytes read d once = (
  of_framed standing read,
  framed_due standing bytes read d,
  λ other f.
      let from = of_frame standing bytes other f in
      from.2 ∙ ap (of_framed standing) (once from.0 from.1),
)
