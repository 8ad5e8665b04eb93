-- The bytes of an item tell its kind.
use Rattle.std.proofs.Common.{◌≡◌, Bool, ℕ, zero, suc, ◌+◌, ◌<◌, ◌≤◌, Some, true, false, List, [], ◌∷◌}
use Rattle.std.proofs.Common.{◌++◌, length, ◌==◌, if◌then◌else◌, refl, sym, ap, ◌∙◌, subst, arith}
use Rattle.std.specs.List.{AllPass}
use Rattle.std.proofs.lemmas.Bool.Decides.{nat_tests}
use Rattle.std.proofs.lemmas.Bool.{eq-eqb}
use Rattle.dist_model.specs.Items.{Handshake, Item, Signalled, Tick, kind_of}
use Rattle.dist_model.specs.declared.report.Kind.{Kind}
use Rattle.erl_control.specs.Canonical.{canonical_frame}
use Rattle.erl_control.specs.declared.signal.Signal.{Signal}
use Rattle.erl_handshake.specs.Messages.{HasFields, written}
use Rattle.erl_handshake.specs.declared.message.ShakeMsg.{ShakeMsg}
use Rattle.erl_names.specs.Name.{IsNodeName, is_host_byte, is_name_byte}
use Rattle.erl_term.specs.Canonical.{canonical_head, canonical_int}
use Rattle.node_frames.specs.Kinds.{byte_at, kind_in, kind_told, message_kind, named_kind, number_at, signal_kind}
use Rattle.node_frames.specs.Frames.{IsSpelled, bytes_of}
use Rattle.node_frames.proofs.Beginnings.{beginning_is}

differ : (n k : ℕ) → k < n → (n == k) ≡ false
differ n k h = grind (arith, nat_tests)

-- ---- messages

-- a name has three bytes at least, and none of them is 0
letter : (b : ℕ) → is_name_byte b ≡ true → 1 ≤ b
letter zero h = absurd (let no : false ≡ true = h in cc)
letter (suc b) h = omega arith

host_letter : (b : ℕ) → is_host_byte b ≡ true → 1 ≤ b
host_letter zero h = absurd (let no : false ≡ true = h in cc)
host_letter (suc b) h = omega arith

third_in : (a h : List ℕ) → AllPass is_name_byte a → AllPass is_host_byte h → 0 < length a → 0 < length h → 1 ≤ byte_at (a ++ 64 ∷ h) 2
third_in [] h p q la lh = absurd (omega arith)
third_in (x ∷ []) [] p q la lh = absurd (omega arith)
third_in (x ∷ []) (y ∷ h) p q la lh = host_letter y (q 0 0 (omega arith))
third_in (x ∷ y ∷ []) h p q la lh = omega arith
third_in (x ∷ y ∷ z ∷ a) h p q la lh = letter z (p 2 0 (omega arith))

third : (name : List ℕ) → IsNodeName name → 1 ≤ byte_at name 2
third name is =
    subst (λ n. 1 ≤ byte_at n 2) (sym is.parts) (third_in is.name is.host is.name_word.1 is.host_word.1 is.name_word.0 is.host_word.0)

name_is : (flags creation : ℕ) (name : List ℕ) → IsNodeName name
    → named_kind (written (ShakeMsg.SendName flags creation name)) ≡ Kind.SendName
name_is flags creation name is =
    let bytes = written (ShakeMsg.SendName flags creation name) in
    let other : (number_at bytes 19 + 21 == length bytes) ≡ false = let t = third name is in let s = is.short in differ _ _ (omega arith) in
    ap (λ b. if b then Kind.Challenge else Kind.SendName) other

challenge_is : (flags word creation : ℕ) (name : List ℕ) → IsNodeName name
    → named_kind (written (ShakeMsg.Challenge flags word creation name)) ≡ Kind.Challenge
challenge_is flags word creation name is =
    let bytes = written (ShakeMsg.Challenge flags word creation name) in
    let same : (number_at bytes 19 + 21 == length bytes) ≡ true = let s = is.short in eq-eqb _ _ (omega arith) in
    ap (λ b. if b then Kind.Challenge else Kind.SendName) same

-- a message is told by its letter
by_letter : (m : ShakeMsg) → HasFields m → kind_in (written m) ≡ message_kind (byte_at (written m) 2) (written m)
by_letter m h = ap (λ t. kind_told t (written m)) (beginning_is (Handshake m) h)

message_is : (m : ShakeMsg) → HasFields m → kind_in (written m) ≡ Some (kind_of (Handshake m))
message_is (ShakeMsg.SendName flags creation name) h =
    by_letter (ShakeMsg.SendName flags creation name) h ∙ ap (λ kind. Some kind) (name_is flags creation name h.2)
message_is (ShakeMsg.Challenge flags word creation name) h =
    by_letter (ShakeMsg.Challenge flags word creation name) h ∙ ap (λ kind. Some kind) (challenge_is flags word creation name h.3)
message_is m h = by_letter m h

-- ---- frames

is_no_tick : (signal : Signal) (payload : Bool) → (length (canonical_frame signal payload) == 4) ≡ false
is_no_tick signal payload = differ (length (canonical_frame signal payload)) 4 (omega arith)

tag_is : (signal : Signal) (payload : Bool)
    → signal_kind (byte_at (canonical_frame signal payload) 9) ≡ Some (kind_of (Signalled signal payload))
unfolding canonical_head canonical_int
tag_is (Signal.Exit from to reason) true = refl
tag_is (Signal.Exit from to reason) false = refl
tag_is (Signal.Exit2 from to reason) true = refl
tag_is (Signal.Exit2 from to reason) false = refl
tag_is (Signal.MonitorExit from to r reason) true = refl
tag_is (Signal.MonitorExit from to r reason) false = refl
tag_is (Signal.MonitorNameExit name to r reason) true = refl
tag_is (Signal.MonitorNameExit name to r reason) false = refl
tag_is signal payload = refl

pub kind_is_told : (item : Item) → IsSpelled item → kind_in (bytes_of item) ≡ Some (kind_of item)
kind_is_told (Signalled signal payload) h =
    let bytes = canonical_frame signal payload in
    ap (λ t. kind_told t bytes) (beginning_is (Signalled signal payload) h)
    ∙ ap (λ b. if b then Some Kind.Tick else signal_kind (byte_at bytes 9)) (is_no_tick signal payload) ∙ tag_is signal payload
kind_is_told (Handshake message) h = message_is message h
kind_is_told Tick h = refl
