-- The rows of the table: a control term tells its signal, but for the message.
use Rattle.std.proofs.Common.{◌≡◌, ℕ, ◌^◌, Bool, true, false, cond, eqb, List, [], Option, Some, refl, sym, ap, subst, ◌∙◌, arith, ◌⊎◌, inl, inr}
use Rattle.std.proofs.lemmas.Bool.{cases_lt}
use Rattle.std.specs.Prelude.{pos, is_some}
use Rattle.erl_term.specs.declared.term.Pid.{Pid}
use Rattle.erl_term.specs.declared.term.Reference.{Reference}
use Rattle.erl_term.specs.Data.{Data, int, atom, tuple, pid, reference, Items, no_items, item}
use Rattle.erl_control.specs.declared.signal.Signal.{Signal}
use Rattle.erl_control.specs.declared.signal.Signal.TheVariants.{Link, Send, RegSend, Exit, Exit2, Monitor, Demonitor}
use Rattle.erl_control.specs.declared.signal.Signal.TheVariants.{MonitorExit, UnlinkId, UnlinkIdAck}
use Rattle.erl_control.specs.declared.signal.Signal.TheVariants.{MonitorName, DemonitorName, MonitorNameExit}
use Rattle.erl_control.specs.Control.{control_in, message_in, IsUnlinkId, HasId}
use Rattle.erl_control.specs.Answer.{IsRow}
use Rattle.erl_control.proofs.Same.{same_term}

-- ---- the parts of a term, where it is a row

abbrev nothing : Data
nothing = int (pos 0)

abbrev no_pid : Pid
no_pid = record { node = []; creation = 0; id = 0; serial = 0 }

abbrev pid_in : Data → Pid
pid_in (pid p) = p
pid_in t = no_pid

abbrev name_in : Data → List ℕ
name_in (atom a) = a
name_in t = []

abbrev is_name : Data → Bool
is_name (atom a) = true
is_name t = false

abbrev reference_in : Data → Reference
reference_in (reference r) = r
reference_in t = record { node = []; creation = 0; words = [] }

abbrev id_in : Data → ℕ
id_in (int (pos n)) = n
id_in t = 0

abbrev rest_in : Items → Items
rest_in (item t ts) = ts
rest_in no_items = no_items

abbrev first_in : Items → Data
first_in (item t ts) = t
first_in no_items = nothing

abbrev items_in : Data → Items
items_in (tuple ts) = ts
items_in t = no_items

-- the fields behind the tag
abbrev a_in : Data → Data
a_in t = first_in (rest_in (items_in t))

abbrev b_in : Data → Data
b_in t = first_in (rest_in (rest_in (items_in t)))

abbrev c_in : Data → Data
c_in t = first_in (rest_in (rest_in (rest_in (items_in t))))

abbrev d_in : Data → Data
d_in t = first_in (rest_in (rest_in (rest_in (rest_in (items_in t)))))

-- monitors, and their exits, by a pid or by a name
abbrev monitor_in : Data → Signal
monitor_in t =
    cond (is_name (b_in t)) (MonitorName (pid_in (a_in t)) (name_in (b_in t)) (reference_in (c_in t)))
    (Monitor (pid_in (a_in t)) (pid_in (b_in t)) (reference_in (c_in t)))

abbrev demonitor_in : Data → Signal
demonitor_in t =
    cond (is_name (b_in t)) (DemonitorName (pid_in (a_in t)) (name_in (b_in t)) (reference_in (c_in t)))
    (Demonitor (pid_in (a_in t)) (pid_in (b_in t)) (reference_in (c_in t)))

abbrev monitor_exit_in : Data → Data → Signal
monitor_exit_in t reason =
    cond (is_name (a_in t)) (MonitorNameExit (name_in (a_in t)) (pid_in (b_in t)) (reference_in (c_in t)) reason)
    (MonitorExit (pid_in (a_in t)) (pid_in (b_in t)) (reference_in (c_in t)) reason)

abbrev by_tag : ℕ → Data → Signal
by_tag n t =
    cond (eqb n 1) (Link (pid_in (a_in t)) (pid_in (b_in t)))
    (cond (eqb n 2) (Send (pid_in (b_in t)) nothing)
    (cond (eqb n 6) (RegSend (pid_in (a_in t)) (name_in (c_in t)) nothing)
    (cond (eqb n 3) (Exit (pid_in (a_in t)) (pid_in (b_in t)) (c_in t))
    (cond (eqb n 8) (Exit2 (pid_in (a_in t)) (pid_in (b_in t)) (c_in t))
    (cond (eqb n 19) (monitor_in t)
    (cond (eqb n 20) (demonitor_in t)
    (cond (eqb n 21) (monitor_exit_in t (d_in t))
    (cond (eqb n 24) (Exit (pid_in (a_in t)) (pid_in (b_in t)) nothing)
    (cond (eqb n 26) (Exit2 (pid_in (a_in t)) (pid_in (b_in t)) nothing)
    (cond (eqb n 28) (monitor_exit_in t nothing)
    (cond (eqb n 35) (UnlinkId (id_in (a_in t)) (pid_in (b_in t)) (pid_in (c_in t)))
    (UnlinkIdAck (id_in (a_in t)) (pid_in (b_in t)) (pid_in (c_in t))))))))))))))

-- the signal of which the term is a row, but for the message
abbrev signal_in : Data → Signal
signal_in t = by_tag (id_in (first_in (items_in t))) t

-- the tags of the control terms that a message follows
abbrev is_followed_tag : ℕ → Bool
is_followed_tag n = cond (eqb n 2) true (cond (eqb n 6) true (cond (eqb n 24) true (cond (eqb n 26) true (eqb n 28))))

abbrev pub payload_in : Data → Bool
payload_in t = is_followed_tag (id_in (first_in (items_in t)))

abbrev pub but_message : Signal → Bool → Signal
but_message (Send to message) payload = Send to nothing
but_message (RegSend from name message) payload = RegSend from name nothing
but_message (Exit from to reason) true = Exit from to nothing
but_message (Exit2 from to reason) true = Exit2 from to nothing
but_message (MonitorExit from to r reason) true = MonitorExit from to r nothing
but_message (MonitorNameExit name to r reason) true = MonitorNameExit name to r nothing
but_message s payload = s

signal_back : (unused : Data) (s : Signal) (payload : Bool) → signal_in (control_in unused s payload) ≡ but_message s payload
signal_back unused (Link p q) payload = refl
signal_back unused (Exit p q t) false = refl
signal_back unused (Exit p q t) true = refl
signal_back unused (Exit2 p q t) false = refl
signal_back unused (Exit2 p q t) true = refl
signal_back unused (MonitorExit p q r t) false = refl
signal_back unused (MonitorExit p q r t) true = refl
signal_back unused (MonitorNameExit n q r t) false = refl
signal_back unused (MonitorNameExit n q r t) true = refl
signal_back unused _ payload = refl

followed_back : (unused : Data) (s : Signal) (payload : Bool) → payload_in (control_in unused s payload) ≡ is_some (message_in s payload)
followed_back unused (Link p q) payload = refl
followed_back unused (Exit p q t) false = refl
followed_back unused (Exit p q t) true = refl
followed_back unused (Exit2 p q t) false = refl
followed_back unused (Exit2 p q t) true = refl
followed_back unused (MonitorExit p q r t) false = refl
followed_back unused (MonitorExit p q r t) true = refl
followed_back unused (MonitorNameExit n q r t) false = refl
followed_back unused (MonitorNameExit n q r t) true = refl
followed_back unused _ payload = refl

pub row_tells : (u v : Data) (s r : Signal) (a b : Bool) → control_in u s a ≡ control_in v r b → but_message s a ≡ but_message r b
row_tells u v s r a b e = sym (signal_back u s a) ∙ ap signal_in e ∙ signal_back v r b

-- and whether a message follows
pub followed_tells : (u v : Data) (s r : Signal) (a b : Bool) → control_in u s a ≡ control_in v r b
    → is_some (message_in s a) ≡ is_some (message_in r b)
followed_tells u v s r a b e = sym (followed_back u s a) ∙ ap payload_in e ∙ followed_back v r b

-- ---- whether a term is a row

-- the field that nobody uses, where it is a row with one: the second field of REG_SEND, and the first of SEND
abbrev unused_in : Data → Data
unused_in t = cond (eqb (id_in (first_in (items_in t))) 6) (b_in t) (a_in t)

row_back : (unused : Data) (s : Signal) (payload : Bool)
    → control_in (unused_in (control_in unused s payload)) (but_message s payload) payload ≡ control_in unused s payload
row_back unused (Link p q) payload = refl
row_back unused (Exit p q t) false = refl
row_back unused (Exit p q t) true = refl
row_back unused (Exit2 p q t) false = refl
row_back unused (Exit2 p q t) true = refl
row_back unused (MonitorExit p q r t) false = refl
row_back unused (MonitorExit p q r t) true = refl
row_back unused (MonitorNameExit n q r t) false = refl
row_back unused (MonitorNameExit n q r t) true = refl
row_back unused _ payload = refl

id_kept : (s : Signal) (payload : Bool) → HasId s → HasId (but_message s payload)
id_kept (Send p t) payload h = tt
id_kept (RegSend p n t) payload h = tt
id_kept (Exit p q t) false h = tt
id_kept (Exit p q t) true h = tt
id_kept (Exit2 p q t) false h = tt
id_kept (Exit2 p q t) true h = tt
id_kept (MonitorExit p q r t) false h = tt
id_kept (MonitorExit p q r t) true h = tt
id_kept (MonitorNameExit n q r t) false h = tt
id_kept (MonitorNameExit n q r t) true h = tt
id_kept s payload h = h

id_or_not : (id : ℕ) → IsUnlinkId id ⊎ (¬ IsUnlinkId id)
id_or_not id =
    elim (cases_lt id 1) [
      | inl low ↦ inr (λ u. let l = u.0 in omega arith)
      | inr le ↦ elim (cases_lt id (2 ^ 64)) [ inl lt ↦ inl (le, lt) | inr high ↦ inr (λ u. let l = u.1 in omega arith) ]
    ]

has_id_or_not : (s : Signal) → HasId s ⊎ (¬ HasId s)
has_id_or_not (UnlinkId id p q) = id_or_not id
has_id_or_not (UnlinkIdAck id p q) = id_or_not id
has_id_or_not s = inl tt

-- what it must be, if it is a row: in this spelling or in that
abbrev rebuilt : Data → Bool → Data
rebuilt t payload = control_in (unused_in t) (signal_in t) payload

rebuilt_row : (t : Data) (r : IsRow t) → (t ≡ rebuilt t r.1) × HasId (signal_in t)
rebuilt_row t r =
    let back = ap signal_in r.4 ∙ signal_back r.2 r.0 r.1 in (
      r.4 ∙ sym (row_back r.2 r.0 r.1) ∙ ap (λ (u : Data). control_in (unused_in u) (but_message r.0 r.1) r.1) (sym r.4)
          ∙ ap (λ (s : Signal). control_in (unused_in t) s r.1) (sym back),
      subst HasId (sym back) (id_kept r.0 r.1 r.3),
    )

no_row : (t : Data) → (¬ (t ≡ rebuilt t false)) → (¬ (t ≡ rebuilt t true)) → ¬ IsRow t
no_row t f g r = by r.1 ((rebuilt_row t r).0)
  where
    by : (payload : Bool) → t ≡ rebuilt t payload → ⊥
    by false e = f e
    by true e = g e

row_or_not : (t : Data) → ((t ≡ rebuilt t false) ⊎ (¬ (t ≡ rebuilt t false))) → ((t ≡ rebuilt t true) ⊎ (¬ (t ≡ rebuilt t true)))
    → (HasId (signal_in t) ⊎ (¬ HasId (signal_in t))) → IsRow t ⊎ (¬ IsRow t)
row_or_not t (inl e) g (inl h) = inl (signal_in t, false, unused_in t, h, e)
row_or_not t (inr f) (inl e) (inl h) = inl (signal_in t, true, unused_in t, h, e)
row_or_not t (inr f) (inr g) (inl h) = inr (no_row t f g)
row_or_not t e g (inr f) = inr (λ r. f ((rebuilt_row t r).1))

pub is_row : (t : Data) → IsRow t ⊎ (¬ IsRow t)
is_row t = row_or_not t (same_term t (rebuilt t false)) (same_term t (rebuilt t true)) (has_id_or_not (signal_in t))

-- ---- the message

pub with_message : Signal → Option Data → Signal
with_message (Send to message) (Some t) = Send to t
with_message (RegSend from name message) (Some t) = RegSend from name t
with_message (Exit from to reason) (Some t) = Exit from to t
with_message (Exit2 from to reason) (Some t) = Exit2 from to t
with_message (MonitorExit from to r reason) (Some t) = MonitorExit from to r t
with_message (MonitorNameExit name to r reason) (Some t) = MonitorNameExit name to r t
with_message s o = s

whole_signal : (s : Signal) (payload : Bool) → with_message (but_message s payload) (message_in s payload) ≡ s
unfolding with_message
whole_signal (Send p t) payload = refl
whole_signal (RegSend p n t) payload = refl
whole_signal (Exit p q t) false = refl
whole_signal (Exit p q t) true = refl
whole_signal (Exit2 p q t) false = refl
whole_signal (Exit2 p q t) true = refl
whole_signal (MonitorExit p q r t) false = refl
whole_signal (MonitorExit p q r t) true = refl
whole_signal (MonitorNameExit n q r t) false = refl
whole_signal (MonitorNameExit n q r t) true = refl
whole_signal s payload = refl

pub same_signal : (s r : Signal) (a b : Bool) → but_message s a ≡ but_message r b → message_in s a ≡ message_in r b → s ≡ r
same_signal s r a b p q =
    sym (whole_signal s a) ∙ ap (λ (z : Signal). with_message z (message_in s a)) p ∙ ap (with_message (but_message r b)) q
    ∙ whole_signal r b

-- the signal with that message
pub told_signal : (s : Signal) (payload : Bool) (t : Data) (unused : Data) → is_some (message_in s payload) ≡ true
    → (control_in unused (with_message s (Some t)) payload ≡ control_in unused s payload) × (message_in (with_message s (Some t)) payload ≡ Some t)
unfolding with_message
told_signal (Send p m) payload t unused e = (refl, refl)
told_signal (RegSend p n m) payload t unused e = (refl, refl)
told_signal (Exit p q m) true t unused e = (refl, refl)
told_signal (Exit2 p q m) true t unused e = (refl, refl)
told_signal (MonitorExit p q r m) true t unused e = (refl, refl)
told_signal (MonitorNameExit n q r m) true t unused e = (refl, refl)
told_signal (Exit p q m) false t unused e = absurd cc
told_signal (Exit2 p q m) false t unused e = absurd cc
told_signal (MonitorExit p q r m) false t unused e = absurd cc
told_signal (MonitorNameExit n q r m) false t unused e = absurd cc
told_signal s payload t unused e = absurd cc

pub told_id : (s : Signal) (payload : Bool) (t : Data) → is_some (message_in s payload) ≡ true → HasId (with_message s (Some t))
unfolding with_message
told_id (Send p m) payload t e = tt
told_id (RegSend p n m) payload t e = tt
told_id (Exit p q m) w t e = tt
told_id (Exit2 p q m) w t e = tt
told_id (MonitorExit p q r m) w t e = tt
told_id (MonitorNameExit n q r m) w t e = tt
told_id s payload t e = absurd cc

pub followed_id : (s : Signal) (payload : Bool) → is_some (message_in s payload) ≡ true → HasId s
followed_id (UnlinkId id p q) payload e = absurd cc
followed_id (UnlinkIdAck id p q) payload e = absurd cc
followed_id s payload e = tt
