-- The rows of the table are the texts of signals.
use Rattle.std.proofs.Common.{◌≡◌, ℕ, ◌<◌, Bool, true, false, List, [], ◌∷◌, ◌++◌, get_or, refl, ap, ◌∙◌, arith}
use Rattle.std.proofs.Common.{inl, inr, ◌⊎◌}
use Rattle.std.specs.Prelude.{pos}
use Rattle.erl_term.specs.Data.{Data, int, atom, pid, Items, no_items, item}
use Rattle.erl_term.specs.Spelling.{IsSpelling}
use Rattle.erl_term.specs.declared.term.Pid.{Pid as ThePid}
use Rattle.erl_control.specs.declared.signal.Signal.{Signal}
use Rattle.erl_control.specs.declared.signal.Signal.TheVariants.{Link, Send, RegSend, Exit, Exit2, Monitor, Demonitor}
use Rattle.erl_control.specs.declared.signal.Signal.TheVariants.{MonitorExit, UnlinkId, UnlinkIdAck}
use Rattle.erl_control.specs.declared.signal.Signal.TheVariants.{MonitorName, DemonitorName, MonitorNameExit}
use Rattle.erl_control.specs.Control.{control_in, message_in, HasId}
use Rattle.erl_control.specs.Frame.{SpellsMessage, IsSignalText}
use Rattle.control_beginnings.specs.declared.parts.Kind.TheVariants.{Pid, Name, Target, Reference}
use Rattle.control_beginnings.specs.declared.parts.Part.TheVariants.{Id, Of, Term, Message}
use Rattle.control_beginnings.specs.Parts.{IsRowText, is_of, Entry, IsEntry, no_entry}
use Rattle.control_beginnings.proofs.Kindred.{as_pid, as_name}
use Rattle.control_beginnings.proofs.Matching.{opened, closed, made, one_message, message_of, two, three}

abbrev pub table : List Entry
table =
    (3, (1, Of Pid ∷ Of Pid ∷ []))
    ∷ (3, (2, Term ∷ Of Pid ∷ Message ∷ []))
    ∷ (4, (3, Of Pid ∷ Of Pid ∷ Term ∷ []))
    ∷ (4, (6, Of Pid ∷ Term ∷ Of Name ∷ Message ∷ []))
    ∷ (4, (8, Of Pid ∷ Of Pid ∷ Term ∷ []))
    ∷ (4, (19, Of Pid ∷ Of Target ∷ Of Reference ∷ []))
    ∷ (4, (20, Of Pid ∷ Of Target ∷ Of Reference ∷ []))
    ∷ (5, (21, Of Target ∷ Of Pid ∷ Of Reference ∷ Term ∷ []))
    ∷ (3, (24, Of Pid ∷ Of Pid ∷ Message ∷ []))
    ∷ (3, (26, Of Pid ∷ Of Pid ∷ Message ∷ []))
    ∷ (4, (28, Of Target ∷ Of Pid ∷ Of Reference ∷ Message ∷ []))
    ∷ (4, (35, Id ∷ Of Pid ∷ Of Pid ∷ []))
    ∷ (4, (36, Id ∷ Of Pid ∷ Of Pid ∷ []))
    ∷ []

-- ---- the text of a signal is in the table

abbrev pub IsInTable : List ℕ → Type 0
IsInTable b = (k : ℕ) × (k < 13) × IsEntry (get_or table k no_entry) b

in_table : (s : Signal) (payload : Bool) (unused : Data) (control message b : List ℕ) → HasId s
    → IsSpelling 64 (control_in unused s payload) control → SpellsMessage (message_in s payload) message
    → 131 ∷ b ≡ control ++ message → IsInTable b
in_table (Link p q) w x c m b h s t e =
    (0, omega arith, made x (Link p q) w (Of Pid ∷ Of Pid ∷ []) [] b c m s (refl, (refl, tt)) (λ l. t) e)
in_table (Send p r) w x c m b h s t e =
    (1, omega arith, made x (Send p r) w (Term ∷ Of Pid ∷ []) (Message ∷ []) b c m s (tt, (refl, tt)) (λ l. one_message l r m t) e)
in_table (Exit p q r) false x c m b h s t e =
    (2, omega arith, made x (Exit p q r) false (Of Pid ∷ Of Pid ∷ Term ∷ []) [] b c m s (refl, (refl, (tt, tt))) (λ l. t) e)
in_table (RegSend p n r) w x c m b h s t e =
    (3, omega arith, made x (RegSend p n r) w (Of Pid ∷ Term ∷ Of Name ∷ []) (Message ∷ []) b c m s (refl, (tt, (refl, tt))) (λ l. one_message l r m t) e)
in_table (Exit2 p q r) false x c m b h s t e =
    (4, omega arith, made x (Exit2 p q r) false (Of Pid ∷ Of Pid ∷ Term ∷ []) [] b c m s (refl, (refl, (tt, tt))) (λ l. t) e)
in_table (Monitor p q r) w x c m b h s t e =
    (5, omega arith, made x (Monitor p q r) w (Of Pid ∷ Of Target ∷ Of Reference ∷ []) [] b c m s (refl, (refl, (refl, tt))) (λ l. t) e)
in_table (MonitorName p n r) w x c m b h s t e =
    (5, omega arith, made x (MonitorName p n r) w (Of Pid ∷ Of Target ∷ Of Reference ∷ []) [] b c m s (refl, (refl, (refl, tt))) (λ l. t) e)
in_table (Demonitor p q r) w x c m b h s t e =
    (6, omega arith, made x (Demonitor p q r) w (Of Pid ∷ Of Target ∷ Of Reference ∷ []) [] b c m s (refl, (refl, (refl, tt))) (λ l. t) e)
in_table (DemonitorName p n r) w x c m b h s t e =
    (6, omega arith, made x (DemonitorName p n r) w (Of Pid ∷ Of Target ∷ Of Reference ∷ []) [] b c m s (refl, (refl, (refl, tt))) (λ l. t) e)
in_table (MonitorExit p q r z) false x c m b h s t e =
    (7, omega arith, made x (MonitorExit p q r z) false (Of Target ∷ Of Pid ∷ Of Reference ∷ Term ∷ []) [] b c m s (refl, (refl, (refl, (tt, tt)))) (λ l. t) e)
in_table (MonitorNameExit n q r z) false x c m b h s t e =
    (7, omega arith, made x (MonitorNameExit n q r z) false (Of Target ∷ Of Pid ∷ Of Reference ∷ Term ∷ []) [] b c m s (refl, (refl, (refl, (tt, tt)))) (λ l. t) e)
in_table (Exit p q r) true x c m b h s t e =
    (8, omega arith, made x (Exit p q r) true (Of Pid ∷ Of Pid ∷ []) (Message ∷ []) b c m s (refl, (refl, tt)) (λ l. one_message l r m t) e)
in_table (Exit2 p q r) true x c m b h s t e =
    (9, omega arith, made x (Exit2 p q r) true (Of Pid ∷ Of Pid ∷ []) (Message ∷ []) b c m s (refl, (refl, tt)) (λ l. one_message l r m t) e)
in_table (MonitorExit p q r z) true x c m b h s t e =
    (10, omega arith, made x (MonitorExit p q r z) true (Of Target ∷ Of Pid ∷ Of Reference ∷ []) (Message ∷ []) b c m s (refl, (refl, (refl, tt))) (λ l. one_message l z m t) e)
in_table (MonitorNameExit n q r z) true x c m b h s t e =
    (10, omega arith, made x (MonitorNameExit n q r z) true (Of Target ∷ Of Pid ∷ Of Reference ∷ []) (Message ∷ []) b c m s (refl, (refl, (refl, tt))) (λ l. one_message l z m t) e)
in_table (UnlinkId id p q) w x c m b h s t e =
    (11, omega arith, made x (UnlinkId id p q) w (Id ∷ Of Pid ∷ Of Pid ∷ []) [] b c m s ((id, h, refl), (refl, (refl, tt))) (λ l. t) e)
in_table (UnlinkIdAck id p q) w x c m b h s t e =
    (12, omega arith, made x (UnlinkIdAck id p q) w (Id ∷ Of Pid ∷ Of Pid ∷ []) [] b c m s ((id, h, refl), (refl, (refl, tt))) (λ l. t) e)

pub signal_in_table : (s : Signal) (b : List ℕ) → IsSignalText s (131 ∷ b) → IsInTable b
signal_in_table s b i = in_table s i.payload i.unused i.control i.message b i.has_id i.spelled i.told i.bytes

-- the version byte
pub first_byte : (s : Signal) (b : List ℕ) → IsSignalText s b → (rest : List ℕ) × (b ≡ 131 ∷ rest)
first_byte s b i =
    let c = i.spelled in
    (c.term ++ i.message, i.bytes ∙ ap (λ (w : List ℕ). w ++ i.message) c.bytes)

-- ---- a row of the table is the text of a signal

abbrev pub IsSignal : List ℕ → Type 0
IsSignal b = (s : Signal) × IsSignalText s (131 ∷ b)

nothing : Data
nothing = int (pos 0)

pub as_target : (t : Data) → is_of Target t ≡ true → ((p : ThePid) × (t ≡ pid p)) ⊎ ((a : List ℕ) × (t ≡ atom a))
as_target (pid p) e = inl (p, refl)
as_target (atom a) e = inr (a, refl)
as_target t e = absurd cc

two_is : (t u x y : Data) (ts : Items) → t ≡ x → u ≡ y → ts ≡ item t (item u no_items) → item x (item y no_items) ≡ ts
two_is t u x y ts e f g = cc

pub three_is : (t u v x y z : Data) (ts : Items) → t ≡ x → u ≡ y → v ≡ z → ts ≡ item t (item u (item v no_items))
    → item x (item y (item z no_items)) ≡ ts
three_is t u v x y z ts e f g h = cc

pub four_is : (t u v w x y z a : Data) (ts : Items) → t ≡ x → u ≡ y → v ≡ z → w ≡ a → ts ≡ item t (item u (item v (item w no_items)))
    → item x (item y (item z (item a no_items))) ≡ ts
four_is t u v w x y z a ts e f g h i = cc

pub link_row : (b : List ℕ) → IsRowText 3 1 (Of Pid ∷ Of Pid ∷ []) b → IsSignal b
link_row b r =
    let o = opened 3 1 (Of Pid ∷ Of Pid ∷ []) [] b tt r in
    let w = two (Of Pid) (Of Pid) o.split.items o.split.fit in
    let p = as_pid w.t w.first in
    let q = as_pid w.u w.second in (
      Link p.0 q.0,
      closed (int (pos 0)) (Link p.0 q.0) false (Of Pid ∷ Of Pid ∷ []) [] b o (omega arith) tt
          (two_is w.t w.u (pid p.0) (pid q.0) o.split.items p.1 q.1 w.is) o.split.are_more,
    )

pub send_row : (b : List ℕ) → IsRowText 3 2 (Term ∷ Of Pid ∷ Message ∷ []) b → IsSignal b
send_row b r =
    let o = opened 3 2 (Term ∷ Of Pid ∷ []) (Message ∷ []) b tt r in
    let w = two Term (Of Pid) o.split.items o.split.fit in
    let q = as_pid w.u w.second in
    let m = message_of o.levels o.split.back o.split.are_more in (
      Send q.0 m.0,
      closed w.t (Send q.0 m.0) false (Term ∷ Of Pid ∷ []) (Message ∷ []) b o (omega arith) tt
          (two_is w.t w.u w.t (pid q.0) o.split.items refl q.1 w.is) m.1,
    )

pub reg_send_row : (b : List ℕ) → IsRowText 4 6 (Of Pid ∷ Term ∷ Of Name ∷ Message ∷ []) b → IsSignal b
reg_send_row b r =
    let o = opened 4 6 (Of Pid ∷ Term ∷ Of Name ∷ []) (Message ∷ []) b tt r in
    let w = three (Of Pid) Term (Of Name) o.split.items o.split.fit in
    let p = as_pid w.t w.first in
    let n = as_name w.v w.third in
    let m = message_of o.levels o.split.back o.split.are_more in (
      RegSend p.0 n.0 m.0,
      closed w.u (RegSend p.0 n.0 m.0) false (Of Pid ∷ Term ∷ Of Name ∷ []) (Message ∷ []) b o (omega arith) tt
          (three_is w.t w.u w.v (pid p.0) w.u (atom n.0) o.split.items p.1 refl n.1 w.is) m.1,
    )

pub exit_row : (b : List ℕ) → IsRowText 4 3 (Of Pid ∷ Of Pid ∷ Term ∷ []) b → IsSignal b
exit_row b r =
    let o = opened 4 3 (Of Pid ∷ Of Pid ∷ Term ∷ []) [] b tt r in
    let w = three (Of Pid) (Of Pid) Term o.split.items o.split.fit in
    let p = as_pid w.t w.first in
    let q = as_pid w.u w.second in (
      Exit p.0 q.0 w.v,
      closed (int (pos 0)) (Exit p.0 q.0 w.v) false (Of Pid ∷ Of Pid ∷ Term ∷ []) [] b o (omega arith) tt
          (three_is w.t w.u w.v (pid p.0) (pid q.0) w.v o.split.items p.1 q.1 refl w.is) o.split.are_more,
    )

pub exit2_row : (b : List ℕ) → IsRowText 4 8 (Of Pid ∷ Of Pid ∷ Term ∷ []) b → IsSignal b
exit2_row b r =
    let o = opened 4 8 (Of Pid ∷ Of Pid ∷ Term ∷ []) [] b tt r in
    let w = three (Of Pid) (Of Pid) Term o.split.items o.split.fit in
    let p = as_pid w.t w.first in
    let q = as_pid w.u w.second in (
      Exit2 p.0 q.0 w.v,
      closed (int (pos 0)) (Exit2 p.0 q.0 w.v) false (Of Pid ∷ Of Pid ∷ Term ∷ []) [] b o (omega arith) tt
          (three_is w.t w.u w.v (pid p.0) (pid q.0) w.v o.split.items p.1 q.1 refl w.is) o.split.are_more,
    )

pub payload_exit_row : (b : List ℕ) → IsRowText 3 24 (Of Pid ∷ Of Pid ∷ Message ∷ []) b → IsSignal b
payload_exit_row b r =
    let o = opened 3 24 (Of Pid ∷ Of Pid ∷ []) (Message ∷ []) b tt r in
    let w = two (Of Pid) (Of Pid) o.split.items o.split.fit in
    let p = as_pid w.t w.first in
    let q = as_pid w.u w.second in
    let m = message_of o.levels o.split.back o.split.are_more in (
      Exit p.0 q.0 m.0,
      closed (int (pos 0)) (Exit p.0 q.0 m.0) true (Of Pid ∷ Of Pid ∷ []) (Message ∷ []) b o (omega arith) tt
          (two_is w.t w.u (pid p.0) (pid q.0) o.split.items p.1 q.1 w.is) m.1,
    )

pub payload_exit2_row : (b : List ℕ) → IsRowText 3 26 (Of Pid ∷ Of Pid ∷ Message ∷ []) b → IsSignal b
payload_exit2_row b r =
    let o = opened 3 26 (Of Pid ∷ Of Pid ∷ []) (Message ∷ []) b tt r in
    let w = two (Of Pid) (Of Pid) o.split.items o.split.fit in
    let p = as_pid w.t w.first in
    let q = as_pid w.u w.second in
    let m = message_of o.levels o.split.back o.split.are_more in (
      Exit2 p.0 q.0 m.0,
      closed (int (pos 0)) (Exit2 p.0 q.0 m.0) true (Of Pid ∷ Of Pid ∷ []) (Message ∷ []) b o (omega arith) tt
          (two_is w.t w.u (pid p.0) (pid q.0) o.split.items p.1 q.1 w.is) m.1,
    )

pub unlink_row : (b : List ℕ) → IsRowText 4 35 (Id ∷ Of Pid ∷ Of Pid ∷ []) b → IsSignal b
unlink_row b r =
    let o = opened 4 35 (Id ∷ Of Pid ∷ Of Pid ∷ []) [] b tt r in
    let w = three Id (Of Pid) (Of Pid) o.split.items o.split.fit in
    let i = w.first in
    let p = as_pid w.u w.second in
    let q = as_pid w.v w.third in (
      UnlinkId i.0 p.0 q.0,
      closed (int (pos 0)) (UnlinkId i.0 p.0 q.0) false (Id ∷ Of Pid ∷ Of Pid ∷ []) [] b o (omega arith) i.1
          (three_is w.t w.u w.v (int (pos i.0)) (pid p.0) (pid q.0) o.split.items i.2 p.1 q.1 w.is) o.split.are_more,
    )

pub unlink_ack_row : (b : List ℕ) → IsRowText 4 36 (Id ∷ Of Pid ∷ Of Pid ∷ []) b → IsSignal b
unlink_ack_row b r =
    let o = opened 4 36 (Id ∷ Of Pid ∷ Of Pid ∷ []) [] b tt r in
    let w = three Id (Of Pid) (Of Pid) o.split.items o.split.fit in
    let i = w.first in
    let p = as_pid w.u w.second in
    let q = as_pid w.v w.third in (
      UnlinkIdAck i.0 p.0 q.0,
      closed (int (pos 0)) (UnlinkIdAck i.0 p.0 q.0) false (Id ∷ Of Pid ∷ Of Pid ∷ []) [] b o (omega arith) i.1
          (three_is w.t w.u w.v (int (pos i.0)) (pid p.0) (pid q.0) o.split.items i.2 p.1 q.1 w.is) o.split.are_more,
    )
