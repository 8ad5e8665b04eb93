-- The bytes of an item tell the item, and parcels that say the same carry the same.
use Rattle.std.proofs.Common.{◌≡◌, Bool, ℕ, List, [], ◌++◌, true, refl, sym, ap, ◌∙◌, subst, arith}
use Rattle.std.proofs.lemmas.Option.{same_Some}
use Rattle.dist_model.specs.Items.{Handshake, Item, Signalled, Tick, has_reason, kind_of}
use Rattle.dist_model.specs.declared.report.Kind.{Kind}
use Rattle.erl_control.specs.Canonical.{canonical_frame}
use Rattle.erl_control.specs.Frame.{IsFramed}
use Rattle.erl_control.specs.declared.signal.Item.{Item as Framed}
use Rattle.erl_control.specs.declared.signal.Item.TheVariants as frame
use Rattle.erl_control.specs.declared.signal.Signal.{Signal}
use Rattle.erl_handshake.proofs.Dues.{same_message, written_shake}
use Rattle.erl_handshake.specs.Messages.{IsFor, written}
use Rattle.erl_handshake.specs.declared.message.Role.{Role}
use Rattle.erl_handshake.specs.declared.message.Role.TheVariants.{Acceptor, Dialer}
use Rattle.erl_handshake.specs.declared.message.ShakeMsg.{ShakeMsg}
use Rattle.node_frames.proofs.Payloads.{payload_told}
use Rattle.node_frames.proofs.Told.{kind_is_told}
use Rattle.node_frames.specs.Kinds.{kind_in}
use Rattle.node_frames.specs.Frames.{IsSpelled, bytes_of}

abbrev pub OneFrame : Type 0
OneFrame = (i j : Framed) (a b x y : List ℕ) → IsFramed i a → IsFramed j b → a ++ x ≡ b ++ y → (i ≡ j) × (a ≡ b)

-- ---- of one kind

same_kind : (x y : Item) → IsSpelled x → IsSpelled y → bytes_of x ≡ bytes_of y → kind_of x ≡ kind_of y
same_kind x y p q e = same_Some (kind_of x) (kind_of y) (sym (kind_is_told x p) ∙ ap kind_in e ∙ kind_is_told y q)

abbrev group : Kind → ℕ
group Kind.SendName = 1
group Kind.Status = 1
group Kind.Challenge = 1
group Kind.ChallengeReply = 1
group Kind.ChallengeAck = 1
group Kind.Tick = 2
group _ = 0

signal_group : (s : Signal) (payload : Bool) → group (kind_of (Signalled s payload)) ≡ 0
signal_group (Signal.Link from to) payload = refl
signal_group s payload = refl

message_group : (m : ShakeMsg) → group (kind_of (Handshake m)) ≡ 1
message_group (ShakeMsg.Status status) = refl
message_group m = refl

abbrev reader_of : Kind → Role
reader_of Kind.SendName = Acceptor
reader_of _ = Dialer

read_by : (m : ShakeMsg) → IsFor (reader_of (kind_of (Handshake m))) m
read_by (ShakeMsg.SendName flags creation name) = refl
read_by (ShakeMsg.Challenge flags challenge creation name) = refl
read_by _ = tt

-- ---- the item

apart : (x y : Item) → (group (kind_of x) ≡ group (kind_of y) → ⊥) → kind_of x ≡ kind_of y → ⊥
apart x y differ e = differ (ap group e)

spelled_alike : (s t : Signal) (a b : Bool) → s ≡ t → (a ≡ true → has_reason s ≡ true) → (b ≡ true → has_reason t ≡ true)
    → canonical_frame s a ≡ canonical_frame t b → Signalled s a ≡ Signalled t b
spelled_alike s t a b same p q e =
    let frames : canonical_frame s a ≡ canonical_frame s b = e ∙ ap (λ x. canonical_frame x b) (sym same) in
    ap (Signalled s) (payload_told s a b p (λ h. ap has_reason same ∙ q h) frames) ∙ ap (λ x. Signalled x b) same

pub bytes_tell_items : OneFrame → (x y : Item) → IsSpelled x → IsSpelled y → bytes_of x ≡ bytes_of y → x ≡ y
bytes_tell_items one (Signalled s a) (Signalled t b) p q e =
    let h = one (frame.Signal s) (frame.Signal t) (canonical_frame s a) (canonical_frame t b) [] [] p.0 q.0 (ap (λ bs. bs ++ []) e) in
    spelled_alike s t a b (signals s t h.0) p.1 q.1 e
  where
    signals : (s t : Signal) → ◌≡◌ {A = Framed} (frame.Signal s) (frame.Signal t) → s ≡ t
    signals s t h = cc
bytes_tell_items one (Signalled s a) (Handshake m) p q e =
    absurd (apart (Signalled s a) (Handshake m) (λ g. let x = signal_group s a in let y = message_group m in omega arith)
    (same_kind (Signalled s a) (Handshake m) p q e))
bytes_tell_items one (Signalled s a) Tick p q e =
    absurd (apart (Signalled s a) Tick (λ g. let x = signal_group s a in omega arith) (same_kind (Signalled s a) Tick p q e))
bytes_tell_items one (Handshake m) (Signalled s a) p q e =
    absurd (apart (Handshake m) (Signalled s a) (λ g. let x = signal_group s a in let y = message_group m in omega arith)
    (same_kind (Handshake m) (Signalled s a) p q e))
bytes_tell_items one (Handshake m) (Handshake k) p q e =
    let kinds = same_kind (Handshake m) (Handshake k) p q e in
    let role = reader_of (kind_of (Handshake m)) in
    let other : IsFor role k = subst (λ r. IsFor r k) (ap reader_of (sym kinds)) (read_by k) in
    let h = same_message role m k (written m) (written k) [] [] (written_shake role m (read_by m) p) (written_shake role k other q)
    (ap (λ b. b ++ []) e) in
    ap Handshake h.0
bytes_tell_items one (Handshake m) Tick p q e =
    absurd (apart (Handshake m) Tick (λ g. let y = message_group m in omega arith) (same_kind (Handshake m) Tick p q e))
bytes_tell_items one Tick (Signalled s a) p q e =
    absurd (apart Tick (Signalled s a) (λ g. let x = signal_group s a in omega arith) (same_kind Tick (Signalled s a) p q e))
bytes_tell_items one Tick (Handshake m) p q e =
    absurd (apart Tick (Handshake m) (λ g. let y = message_group m in omega arith) (same_kind Tick (Handshake m) p q e))
bytes_tell_items one Tick Tick p q e = refl
