-- One thing more is taken, and then there is less to do.
use Rattle.std.proofs.Common.{◌≡◌, inl, inr, Bool, true, false, ℕ, zero, suc, ◌+◌, ◌<◌, ◌≤◌, List, [], ◌∷◌, ◌++◌, Option, Some, None, length, drop, take}
use Rattle.std.proofs.Common.{refl, ap, sym, subst, ◌∙◌, arith}
use Rattle.std.proofs.lemmas.List.{length-append, length-drop}
use Rattle.erl_handshake.specs.declared.identity.Identity.{Identity}
use Rattle.erl_handshake.specs.declared.message.Role.{Role}
use Rattle.erl_handshake.specs.declared.message.Role.TheVariants as role
use Rattle.erl_handshake.specs.declared.message.ShakeMsg.{ShakeMsg}
use Rattle.erl_handshake.specs.Messages.{IsShake}
use Rattle.erl_control.specs.declared.signal.Item.{Item}
use Rattle.erl_control.specs.declared.signal.Item.TheVariants.{Tick, Signal}
use Rattle.erl_control.specs.Frame.{IsFramed}
use Rattle.conn_core.specs.declared.standing.Standing.{Standing}
use Rattle.conn_core.specs.declared.standing.Standing.TheVariants.{Dialing, Accepting, Up, Losing, Gone}
use Rattle.conn_core.specs.declared.side.Side.{Side}
use Rattle.conn_core.specs.declared.arrival.Arrival.{Arrival}
use Rattle.conn_core.specs.Side.{listens, lost, on_message, state_of}
use Rattle.conn_core.specs.Arrivals.{ArrivalDue, DueAt, FrameDue, MessageDue}
use Rattle.conn_pieces.specs.Streams.{behind, standing_as, Gives, IsAtRest}
use Rattle.conn_pieces.proofs.Whole.{due_within}
use Rattle.conn_pieces.proofs.Cut.{listens_at}

pub rest_of : (own : Identity) (word : ℕ) (side new : Side) (bytes left : List ℕ) (due : Option Arrival) → due ≡ None
    → ArrivalDue own side bytes word due → new ≡ standing_as due side → left ≡ behind due bytes
    → IsAtRest own word new left × (new ≡ side) × (left ≡ bytes)
rest_of own word side new bytes left None e due stands is_left = (
  subst (λ s. IsAtRest own word s left) (sym stands) (subst (λ l. IsAtRest own word side l) (sym is_left) (inl due)),
  stands,
  is_left,
)
rest_of own word side new bytes left (Some a) e due stands is_left = cc

pub one_more : (own : Identity) (word : ℕ) (side : Side) (bytes : List ℕ) (given : List Arrival) (between : Side) (left : List ℕ)
    (a : Arrival) (end : Side) (rest : List ℕ) → Gives own word side bytes given between left → Gives own word between left (a ∷ []) end rest
    → Gives own word side bytes (given ++ a ∷ []) end rest
one_more own word side bytes [] between left a end rest g h =
    subst (λ s. Gives own word s bytes (a ∷ []) end rest) g.0 (subst (λ l. Gives own word between l (a ∷ []) end rest) g.1 h)
one_more own word side bytes (b ∷ given) between left a end rest g h =
    (g.0, one_more own word (standing_as (Some b) side) (drop b.len bytes) given between left a end rest g.1 h)

-- ---- what takes no bytes leaves a side that takes nothing more

lost_deaf : (standing : Standing) → listens (state_of (lost standing)) ≡ false
lost_deaf (Dialing d) = refl
lost_deaf (Accepting a) = refl
lost_deaf (Up introduction) = refl
lost_deaf (Losing introduction) = refl
lost_deaf Gone = refl

shake_some : (reader : Role) (message : ShakeMsg) (bytes : List ℕ) (len : ℕ) → IsShake reader message (take len bytes) → 0 < len
shake_some reader message bytes zero h = let e : 0 ≡ suc (suc (length h.body)) = ap length h.parts in absurd (omega arith)
shake_some reader message bytes (suc n) h = omega arith

frame_some : (item : Item) (bytes : List ℕ) (len : ℕ) → IsFramed item (take len bytes) → 0 < len
frame_some Tick bytes zero h = cc
frame_some (Signal signal) bytes zero h =
    let e : 0 ≡ length h.len + suc (length h.text) = ap length h.bytes ∙ length-append h.len (112 ∷ h.text) in absurd (omega arith)
frame_some item bytes (suc n) h = omega arith

message_deaf : (own : Identity) (peer : List ℕ) (standing : Standing) (message : ShakeMsg) (word len : ℕ) → 0 < len
    → (on_message own peer standing message word len).len ≡ 0 → listens (state_of (on_message own peer standing message word len).standing) ≡ false
message_deaf own peer (Dialing d) message word len some z = absurd (omega arith)
message_deaf own peer (Accepting a) message word len some z = absurd (omega arith)
message_deaf own peer (Up introduction) message word len some z = refl
message_deaf own peer (Losing introduction) message word len some z = refl
message_deaf own peer Gone message word len some z = refl

deaf_message : (reader : Role) (own : Identity) (side : Side) (bytes : List ℕ) (word : ℕ) (a : Arrival) → a.len ≡ 0
    → MessageDue reader own side bytes word (Some a) → listens (state_of a.standing) ≡ false
deaf_message reader own side bytes word a z (inl x) =
    let some = shake_some reader x.0 bytes x.1 x.2.is_text in
    let none = ap (λ b. b.len) (sym x.3) ∙ z in
    ap (λ b. listens (state_of b.standing)) x.3 ∙ message_deaf own side.peer side.standing x.0 word x.1 some none
deaf_message reader own side bytes word a z (inr x) =
    ap (λ b. listens (state_of b.standing)) x.1 ∙ lost_deaf side.standing

deaf_frame : (standing : Standing) (bytes : List ℕ) (a : Arrival) → a.len ≡ 0 → FrameDue standing bytes (Some a)
    → listens (state_of a.standing) ≡ false
deaf_frame standing bytes a z (inl x) =
    let some = frame_some x.0 bytes x.1 x.2.1 in
    let none : x.1 ≡ 0 = ap (λ b. b.len) (sym x.3) ∙ z in absurd (omega arith)
deaf_frame standing bytes a z (inr x) = ap (λ b. listens (state_of b.standing)) x.2 ∙ lost_deaf standing

deaf_at : (standing : Standing) (own : Identity) (side : Side) (bytes : List ℕ) (word : ℕ) (a : Arrival) → a.len ≡ 0
    → DueAt standing own side bytes word (Some a) → listens (state_of a.standing) ≡ false
deaf_at (Dialing d) own side bytes word a z h = deaf_message role.Dialer own side bytes word a z h
deaf_at (Accepting d) own side bytes word a z h = deaf_message role.Acceptor own side bytes word a z h
deaf_at (Up introduction) own side bytes word a z h = deaf_frame (Up introduction) bytes a z h
deaf_at (Losing introduction) own side bytes word a z h = absurd h
deaf_at Gone own side bytes word a z h = absurd h

-- ---- what is left to do

abbrev pub one_if : Bool → ℕ
one_if true = 1
one_if false = 0

one_at_most : (b : Bool) → one_if b ≤ 1
one_at_most true = omega arith
one_at_most false = omega arith

abbrev pub work : Side → List ℕ → ℕ
work side bytes = length bytes + one_if (listens (state_of side.standing))

less_at : (own : Identity) (word : ℕ) (side : Side) (bytes : List ℕ) (a : Arrival) → (n : ℕ) → n ≡ a.len → ArrivalDue own side bytes word (Some a)
    → work (standing_as (Some a) side) (drop a.len bytes) < work side bytes
less_at own word side bytes a zero e due =
    let old : one_if (listens (state_of side.standing)) ≡ 1 = ap one_if (listens_at side.standing own side bytes word (Some a) due) in
    let new : one_if (listens (state_of a.standing)) ≡ 0 = ap one_if (deaf_at side.standing own side bytes word a (sym e) due) in
    let d = length-drop a.len bytes in
    omega arith
less_at own word side bytes a (suc n) e due =
    let old : one_if (listens (state_of side.standing)) ≡ 1 = ap one_if (listens_at side.standing own side bytes word (Some a) due) in
    let new = one_at_most (listens (state_of a.standing)) in
    let d = length-drop a.len bytes in
    let w = due_within own side bytes word a due in
    omega arith

pub less : (own : Identity) (word : ℕ) (side : Side) (bytes : List ℕ) (a : Arrival) (end : Side) (rest : List ℕ)
    → Gives own word side bytes (a ∷ []) end rest → work end rest < work side bytes
less own word side bytes a end rest g =
    subst (λ s. work s rest < work side bytes) (sym g.1.0)
    (subst (λ l. work (standing_as (Some a) side) l < work side bytes) (sym g.1.1) (less_at own word side bytes a a.len refl g.0))
