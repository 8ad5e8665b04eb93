-- The length at the front of an item.
use Rattle.std.proofs.Common.{◌≡◌, Bool, ℕ, suc, ◌+◌, ◌*◌, ◌/◌, ◌%◌, ◌<◌, ◌≤◌, Option, None, Some, true, false, List, []}
use Rattle.std.proofs.Common.{◌∷◌, ◌++◌, length, nat_lt, if◌then◌else◌, refl, ap, ◌∙◌, arith, length-append}
use Rattle.std.specs.Int.{to_be_bytes, w16}
use Rattle.std.proofs.lemmas.Bool.{le-ltb}
use Rattle.byteorder.specs.Endian.{big_bytes}
use Rattle.dist_model.specs.Items.{Handshake, Signalled, Tick}
use Rattle.erl_control.specs.Canonical.{canonical_frame, canonical_text}
use Rattle.erl_control.specs.Frame.{IsSignalFrame}
use Rattle.erl_control.specs.declared.signal.Signal.{Signal}
use Rattle.erl_handshake.specs.Messages.{HasFields, content}
use Rattle.erl_handshake.specs.declared.message.ShakeMsg.{ShakeMsg}
use Rattle.node_frames.specs.Beginnings.{begins_message, third_tells}
use Rattle.node_frames.specs.Frames.{bytes_of}
use Rattle.node_frames.proofs.Beginnings.{beginning_is_needed, beginning_is_told, beginning_stays}
use Rattle.node_frames.proofs.Statuses.{status_short}
use Rattle.wire_core.specs.Fronts.{frame_length, front_length, length_told, message_length}
use Rattle.wire_core.specs.Gathering.{FrontIsNeeded, FrontIsTold, FrontStays}

-- the first bytes decide which length is read
by_told : (bytes : List ℕ) (told : Option Bool) → begins_message bytes ≡ told → front_length bytes ≡ length_told told bytes
by_told bytes told e = ap (λ t. length_told t bytes) e

-- ---- as much of the front as there is tells the same

message_stays : (bytes rest : List ℕ) (n : ℕ) → message_length bytes ≡ Some n → message_length (bytes ++ rest) ≡ Some n
message_stays [] rest n h = absurd cc
message_stays (a ∷ []) rest n h = absurd cc
message_stays (a ∷ b ∷ bytes) rest n h = h

frame_stays : (bytes rest : List ℕ) (n : ℕ) → frame_length bytes ≡ Some n → frame_length (bytes ++ rest) ≡ Some n
frame_stays [] rest n h = absurd cc
frame_stays (a ∷ []) rest n h = absurd cc
frame_stays (a ∷ b ∷ []) rest n h = absurd cc
frame_stays (a ∷ b ∷ c ∷ []) rest n h = absurd cc
frame_stays (a ∷ b ∷ c ∷ d ∷ bytes) rest n h = h

pub front_stays : FrontStays
front_stays bytes rest n = go (begins_message bytes) refl
  where
    go : (told : Option Bool) → begins_message bytes ≡ told → length_told told bytes ≡ Some n → front_length (bytes ++ rest) ≡ Some n
    go None e h = absurd cc
    go (Some true) e h =
        by_told (bytes ++ rest) (Some true) (beginning_stays bytes rest true e) ∙ message_stays bytes rest n h
    go (Some false) e h =
        by_told (bytes ++ rest) (Some false) (beginning_stays bytes rest false e) ∙ frame_stays bytes rest n h

few : (bytes : List ℕ) → length bytes < 2 → front_length bytes ≡ None
few bytes h = by_told bytes None (beginning_is_needed.0 bytes h)

-- of 0 or 1
of_frame : (a b : ℕ) (rest : List ℕ) → 256 * a + b ≤ 1 → begins_message (a ∷ b ∷ rest) ≡ Some false
of_frame a b rest low =
    ap (λ t. if t then Some true else if nat_lt 1 (256 * a + b) then third_tells rest else Some false)
    (le-ltb 16 (256 * a + b) (omega arith))
    ∙ ap (λ t. if t then third_tells rest else Some false) (le-ltb 1 (256 * a + b) low)

few_of_frame : (a b : ℕ) (rest : List ℕ) → 256 * a + b ≤ 1 → length rest < 2 → front_length (a ∷ b ∷ rest) ≡ None
few_of_frame a b [] low h = by_told (a ∷ b ∷ []) (Some false) (of_frame a b [] low)
few_of_frame a b (c ∷ []) low h = by_told (a ∷ b ∷ c ∷ []) (Some false) (of_frame a b (c ∷ []) low)
few_of_frame a b (c ∷ d ∷ rest) low h = absurd (omega arith)

few_of_short : (a b : ℕ) (rest : List ℕ) → 2 ≤ 256 * a + b → 256 * a + b ≤ 16 → length rest < 3 → front_length (a ∷ b ∷ rest) ≡ None
few_of_short a b rest low high h = by_told (a ∷ b ∷ rest) None (beginning_is_needed.1 a b rest low high h)

pub front_is_needed : FrontIsNeeded
front_is_needed = (few, few_of_frame, few_of_short)

-- ---- messages

counted_length : (bytes rest : List ℕ) → length bytes < 65536
    → message_length ((to_be_bytes w16 (length bytes) ++ bytes) ++ rest) ≡ Some (length (to_be_bytes w16 (length bytes) ++ bytes))
counted_length bytes rest high =
    let n = length bytes in
    let same : 256 * (n / 256 % 256) + n % 256 + 2 ≡ suc (suc n) = omega arith in
    ap (λ k. Some k) same

written_length : (m : ShakeMsg) → HasFields m → (rest : List ℕ)
    → message_length (bytes_of (Handshake m) ++ rest) ≡ Some (length (bytes_of (Handshake m)))
written_length (ShakeMsg.SendName flags creation name) h rest =
    let s = h.2.short in counted_length (content (ShakeMsg.SendName flags creation name)) rest (omega arith)
written_length (ShakeMsg.Status status) h rest =
    let s = status_short status in counted_length (content (ShakeMsg.Status status)) rest (omega arith)
written_length (ShakeMsg.Challenge flags word creation name) h rest =
    let s = h.3.short in counted_length (content (ShakeMsg.Challenge flags word creation name)) rest (omega arith)
written_length (ShakeMsg.ChallengeReply word digest) h rest =
    let s = h.1 in counted_length (content (ShakeMsg.ChallengeReply word digest)) rest (omega arith)
written_length (ShakeMsg.ChallengeAck digest) h rest = counted_length (content (ShakeMsg.ChallengeAck digest)) rest (omega arith)

-- ---- frames

framed_length : (n : ℕ) (text rest : List ℕ) → n ≤ 1048576 → n ≡ length text
    → frame_length ((big_bytes 4 n ++ text) ++ rest) ≡ Some (length (big_bytes 4 n ++ text))
framed_length n text rest high is =
    let number = 256 * (n / 16777216 % 256) + n / 65536 % 256 in
    let all : ℕ = 65536 * number + (256 * (n / 256 % 256) + n % 256) + 4 in
    let same : all ≡ suc (suc (suc (suc (length text)))) = omega arith in
    ap (λ k. Some k) same

signal_length : (signal : Signal) (payload : Bool) → IsSignalFrame signal (canonical_frame signal payload) → (rest : List ℕ)
    → frame_length (canonical_frame signal payload ++ rest) ≡ Some (length (canonical_frame signal payload))
signal_length signal payload is rest =
    let text = canonical_text signal payload in
    let l : length (canonical_frame signal payload) ≡ length (is.len ++ 112 ∷ is.text) = ap (λ (b : List ℕ). length b) is.bytes in
    let n = is.number.len in
    let s = is.short in
    framed_length (suc (length text)) (112 ∷ text) rest (omega (arith, length-append is.len (112 ∷ is.text))) refl

pub front_is_told : FrontIsTold
front_is_told (Signalled signal payload) h rest =
    by_told (canonical_frame signal payload ++ rest) (Some false) (beginning_is_told (Signalled signal payload) h rest)
    ∙ signal_length signal payload h.0 rest
front_is_told (Handshake message) h rest =
    by_told (bytes_of (Handshake message) ++ rest) (Some true) (beginning_is_told (Handshake message) h rest) ∙ written_length message h rest
front_is_told Tick h rest = refl
