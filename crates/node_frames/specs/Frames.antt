-- Items as they are sent: the bytes, and the sender and receiver of a signal.
-- (ERTS User's Guide, Distribution Protocol.)
use Rattle.std.specs.Prelude.{◌≡◌, Option, None, Some, ℕ, List, [], ◌∷◌, true, refl}
use Rattle.std.specs.Coded.{Coded, code_by, coded×, coded_list, coded_option, coded_ℕ}
use Rattle.dist_model.specs.Items.{Handshake, Item, Signalled, Tick, has_reason}
use Rattle.dist_model.specs.declared.report.Effect.{Effect}
use Rattle.erl_control.specs.Canonical.{canonical_frame}
use Rattle.erl_control.specs.Ends.{receiver_of, sender_of}
use Rattle.erl_control.specs.Frame.{IsFramed}
use Rattle.erl_control.specs.declared.signal.Item.TheVariants as frame
use Rattle.erl_handshake.specs.Messages.{HasFields, written}
use Rattle.erl_term.specs.declared.term.Pid.{Pid}

-- The bytes in which it is sent. The payload of a signal is its reason, which follows the control term.
abbrev pub bytes_of : Item → List ℕ
bytes_of (Signalled signal payload) = canonical_frame signal payload
bytes_of (Handshake message) = written message
bytes_of Tick = 0 ∷ 0 ∷ 0 ∷ 0 ∷ []

-- an item of these bytes: a reader of frames, or of the handshake, reads the item from them. Only a reason follows a control term
abbrev pub IsSpelled : Item → Type 0
IsSpelled (Signalled signal payload) =
    IsFramed (frame.Signal signal) (canonical_frame signal payload) × (payload ≡ true → has_reason signal ≡ true)
IsSpelled (Handshake message) = HasFields message
IsSpelled Tick = Unit {0}

-- the sender and the receiver, if the signal names both. A message names no sender
abbrev pub named : Option Pid → Option Pid → Option (Pid × Pid)
named None to = None
named (Some from) None = None
named (Some from) (Some to) = Some (from, to)

abbrev pub between_of : Item → Option (Pid × Pid)
between_of (Signalled signal payload) = named (sender_of signal) (receiver_of signal)
between_of (Handshake message) = None
between_of Tick = None

pub record Framed : Type 0 where
  pub bytes : List ℕ
  pub between : Option (Pid × Pid)

abbrev pub framed_code : Coded Pid → Coded Framed
framed_code pid =
    code_by (List ℕ × Option (Pid × Pid)) (coded× (coded_list coded_ℕ) (coded_option (coded× pid pid)))
    (λ f. (f.bytes, f.between)) (λ p. record { bytes = p.0; between = p.1 }) (λ _. refl)

abbrev pub framed : Item → Framed
framed item = record { bytes = bytes_of item; between = between_of item }

abbrev pub shown : Effect Item → Effect Framed
shown (Effect.Put to message) = Effect.Put to message
shown (Effect.Ended process reason) = Effect.Ended process reason
shown (Effect.LinkExit process partner reason) = Effect.LinkExit process partner reason
shown (Effect.Sent trunk peer item) = Effect.Sent trunk peer (framed item)

abbrev pub SendsSpelled : Effect Item → Type 0
SendsSpelled (Effect.Sent trunk peer item) = IsSpelled item
SendsSpelled _ = Unit {0}

-- all that is sent has a spelling
abbrev pub AllSpelled : List (Effect Item) → Type 0
AllSpelled [] = Unit {0}
AllSpelled (effect ∷ rest) = SendsSpelled effect × AllSpelled rest
