-- What stands at the front of bytes stands at the front of more of them.
use Rattle.std.proofs.Common.{◌≡◌, inl, inr, ℕ, ◌<◌, ◌≤◌, List, [], ◌∷◌, ◌++◌, Some, Err}
use Rattle.std.proofs.Common.{length, refl, ap, sym, subst, ◌∙◌, append_assoc, arith}
use Rattle.std.proofs.lemmas.List.{length-append, take-append-le}
use Rattle.byteorder.specs.Endian.{big_number}
use Rattle.erl_control.specs.declared.error.FrameFault.{FrameFault}
use Rattle.erl_control.specs.declared.error.FrameFault.TheVariants as fault
use Rattle.erl_control.specs.Numbers.{error_of}
use Rattle.erl_control.specs.Answer as frame
use Rattle.erl_control.specs.Answer.{IsFrameDue}
use Rattle.erl_control.specs.Frame.{IsFramed, limit}
use Rattle.erl_handshake.specs.declared.message.Role.{Role}
use Rattle.erl_handshake.specs.declared.message.Role.TheVariants as role
use Rattle.erl_handshake.specs.declared.identity.Identity.{Identity}
use Rattle.erl_handshake.specs.Answer as shake
use Rattle.erl_handshake.specs.Messages.{IsShake, counted}
use Rattle.conn_core.specs.declared.standing.Standing.{Standing}
use Rattle.conn_core.specs.declared.standing.Standing.TheVariants.{Dialing, Accepting, Up, Losing, Gone}
use Rattle.conn_core.specs.declared.side.Side.{Side}
use Rattle.conn_core.specs.declared.arrival.Arrival.{Arrival}
use Rattle.conn_core.specs.Arrivals.{ArrivalDue, DueAt, FrameDue, MessageDue}

longer : (front more : List ℕ) (n : ℕ) → n ≤ length front → n ≤ length (front ++ more)
longer front more n h = let e = length-append front more in omega arith

-- ---- messages

more_shake : (front more body : List ℕ) → shake.HasBody front body → shake.HasBody (front ++ more) body
more_shake front more body b = record {
  rest = b.rest ++ more;
  short = b.short;
  parts = ap (λ l. l ++ more) b.parts ∙ append_assoc (counted body) b.rest more;
}

more_message : (reader : Role) (own : Identity) (side : Side) (front more : List ℕ) (word : ℕ) (a : Arrival)
    → MessageDue reader own side front word (Some a) → MessageDue reader own side (front ++ more) word (Some a)
more_message reader own side front more word a (inl x) =
    let same = take-append-le x.1 front more x.2.within in
    inl (x.0, x.1, record { within = longer front more x.1 x.2.within; is_text = subst (IsShake reader x.0) (sym same) x.2.is_text }, x.3)
more_message reader own side front more word a (inr x) = inr ((x.0.0, (x.0.1.0, more_shake front more x.0.1.0 x.0.1.1, x.0.1.2)), x.1)

-- ---- frames

more_body : (front more body : List ℕ) → frame.HasBody front body → frame.HasBody (front ++ more) body
more_body front more body b = record {
  len = b.len;
  rest = b.rest ++ more;
  number = b.number;
  short = b.short;
  parts = ap (λ l. l ++ more) b.parts ∙ append_assoc b.len (body ++ b.rest) more ∙ ap (λ l. b.len ++ l) (append_assoc body b.rest more);
}

same_number : (front more : List ℕ) → 4 ≤ length front → big_number 4 (front ++ more) ≡ big_number 4 front
same_number (a ∷ b ∷ c ∷ d ∷ rest) more h = refl
same_number [] more h = absurd (omega arith)
same_number (a ∷ []) more h = absurd (omega arith)
same_number (a ∷ b ∷ []) more h = absurd (omega arith)
same_number (a ∷ b ∷ c ∷ []) more h = absurd (omega arith)

more_long : (front more : List ℕ) → frame.IsLong front → frame.IsLong (front ++ more)
more_long front more h = (longer front more 4 h.0, subst (λ n. limit < n) (sym (same_number front more h.0)) h.1)

more_fault : (why : FrameFault) (front more : List ℕ) → IsFrameDue front (Err (error_of why))
    → IsFrameDue (front ++ more) (Err (error_of why))
more_fault fault.NotPassThrough front more h = (h.0, h.1, more_body front more _ h.2, h.3)
more_fault fault.BadControl front more h = (h.0, more_body front more _ h.1, h.2)
more_fault fault.TooLong front more (inl h) = inl (more_long front more h)
more_fault fault.TooLong front more (inr h) = inr (h.0, more_body front more _ h.1, h.2)
more_fault (fault.Term e) front more h = (h.0, more_body front more _ h.1, h.2)

more_frame : (standing : Standing) (front more : List ℕ) (a : Arrival) → FrameDue standing front (Some a)
    → FrameDue standing (front ++ more) (Some a)
more_frame standing front more a (inl x) =
    let same = take-append-le x.1 front more x.2.0 in
    inl (x.0, x.1, (longer front more x.1 x.2.0, subst (IsFramed x.0) (sym same) x.2.1), x.3)
more_frame standing front more a (inr x) = inr (x.0, more_fault x.0 front more x.1, x.2)

-- ---- both

more_at : (standing : Standing) (own : Identity) (side : Side) (front more : List ℕ) (word : ℕ) (a : Arrival)
    → DueAt standing own side front word (Some a) → DueAt standing own side (front ++ more) word (Some a)
more_at (Dialing d) own side front more word a h = more_message role.Dialer own side front more word a h
more_at (Accepting d) own side front more word a h = more_message role.Acceptor own side front more word a h
more_at (Up introduction) own side front more word a h = more_frame (Up introduction) front more a h
more_at (Losing introduction) own side front more word a h = absurd h
more_at Gone own side front more word a h = absurd h

pub more_due : (own : Identity) (side : Side) (front more : List ℕ) (word : ℕ) (a : Arrival)
    → ArrivalDue own side front word (Some a) → ArrivalDue own side (front ++ more) word (Some a)
more_due own side front more word a h = more_at side.standing own side front more word a h
