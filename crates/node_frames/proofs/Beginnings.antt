-- The first bytes of an item tell a message of the handshake from a frame.
use Rattle.std.proofs.Common.{◌≡◌, ◌≢◌, Bool, ℕ, suc, ◌+◌, ◌*◌, ◌/◌, ◌%◌, ◌<◌, ◌≤◌, Option, None, Some, true, false, List, [], ◌∷◌}
use Rattle.std.proofs.Common.{◌++◌, length, nat_lt, if◌then◌else◌, refl, sym, ap, ◌∙◌, arith}
use Rattle.std.proofs.lemmas.Bool.{le-ltb, lt-ltb}
use Rattle.std.proofs.lemmas.List.{append-nil, length-append}
use Rattle.std.specs.Prelude.{slice_index_or}
use Rattle.byteorder.specs.Endian.{big_bytes}
use Rattle.dist_model.specs.Due.{is_handshake}
use Rattle.dist_model.specs.Items.{Handshake, Item, Signalled, Tick}
use Rattle.erl_control.specs.Canonical.{canonical_frame, canonical_text}
use Rattle.erl_control.specs.Frame.{IsSignalFrame}
use Rattle.erl_control.specs.declared.signal.Signal.{Signal}
use Rattle.erl_handshake.specs.Messages.{HasFields, content, counted, written}
use Rattle.erl_handshake.specs.declared.message.ShakeMsg.{ShakeMsg}
use Rattle.erl_handshake.specs.declared.status.Status.{Status}
use Rattle.erl_names.specs.Name.{IsNodeName}
use Rattle.node_frames.specs.Beginnings.{BeginningIsNeeded, BeginningIsTold, BeginningStays, ShortHasNo112, begins_message, third_tells}
use Rattle.node_frames.specs.Frames.{IsSpelled, bytes_of}

-- ---- as much of the beginning as there is tells the same

of_number : (large some : Bool) (more : Option Bool) (told : Bool)
    → (if large then Some true else if some then None else Some false) ≡ Some told
    → (if large then Some true else if some then more else Some false) ≡ Some told
of_number true some more told e = e
of_number false true more told e = absurd cc
of_number false false more told e = e

pub beginning_stays : BeginningStays
beginning_stays [] rest told h = absurd cc
beginning_stays (a ∷ []) rest told h = absurd cc
beginning_stays (a ∷ b ∷ []) rest told h = of_number (nat_lt 16 (256 * a + b)) (nat_lt 1 (256 * a + b)) (third_tells rest) told h
beginning_stays (a ∷ b ∷ c ∷ []) rest told h =
    of_number (nat_lt 16 (256 * a + b)) (nat_lt 1 (256 * a + b)) (third_tells (c ∷ rest)) told h
beginning_stays (a ∷ b ∷ c ∷ d ∷ []) rest told h =
    of_number (nat_lt 16 (256 * a + b)) (nat_lt 1 (256 * a + b)) (third_tells (c ∷ d ∷ rest)) told h
beginning_stays (a ∷ b ∷ c ∷ d ∷ e ∷ bytes) rest told h = h

few : (bytes : List ℕ) → length bytes < 2 → begins_message bytes ≡ None
few [] h = refl
few (a ∷ []) h = refl
few (a ∷ b ∷ bytes) h = absurd (omega arith)

by_third : (number : ℕ) (more : Option Bool) → 2 ≤ number → number ≤ 16
    → (if nat_lt 16 number then Some true else if nat_lt 1 number then more else Some false) ≡ more
by_third number more low high =
    ap (λ t. if t then Some true else if nat_lt 1 number then more else Some false) (le-ltb 16 number high)
    ∙ ap (λ t. if t then more else Some false) (lt-ltb 1 number low)

few_of_short : (a b : ℕ) (rest : List ℕ) → 2 ≤ 256 * a + b → 256 * a + b ≤ 16 → length rest < 3 → begins_message (a ∷ b ∷ rest) ≡ None
few_of_short a b [] low high h = by_third (256 * a + b) None low high
few_of_short a b (c ∷ []) low high h = by_third (256 * a + b) None low high
few_of_short a b (c ∷ d ∷ []) low high h = by_third (256 * a + b) None low high
few_of_short a b (c ∷ d ∷ e ∷ rest) low high h = absurd (omega arith)

pub beginning_is_needed : BeginningIsNeeded
beginning_is_needed = (few, few_of_short)

-- ---- messages

-- of 17 bytes and more the length tells
counted_is : (bytes rest : List ℕ) → 17 ≤ length bytes → length bytes < 65536 → begins_message (counted bytes ++ rest) ≡ Some true
counted_is bytes rest low high =
    let number = 256 * (length bytes / 256 % 256) + length bytes % 256 in
    ap (λ t. if t then Some true else if nat_lt 1 number then third_tells (bytes ++ rest) else Some false) (lt-ltb 16 number (omega arith))

name_long : (name : List ℕ) → IsNodeName name → 3 ≤ length name
name_long name is =
    let l : length name ≡ length (is.name ++ 64 ∷ is.host) = ap (λ (b : List ℕ). length b) is.parts in
    let a = is.name_word.0 in
    let b = is.host_word.0 in
    omega (arith, length-append is.name (64 ∷ is.host))

status_is : (status : Status) (rest : List ℕ) → begins_message (written (ShakeMsg.Status status) ++ rest) ≡ Some true
status_is Status.Ok rest = refl
status_is Status.OkSimultaneous rest = refl
status_is Status.Nok rest = refl
status_is Status.NotAllowed rest = refl
status_is Status.Alive rest = refl
status_is Status.True rest = refl
status_is Status.False rest = refl

message_is : (m : ShakeMsg) → HasFields m → (rest : List ℕ) → begins_message (written m ++ rest) ≡ Some true
message_is (ShakeMsg.SendName flags creation name) h rest =
    let l = name_long name h.2 in
    let s = h.2.short in counted_is (content (ShakeMsg.SendName flags creation name)) rest (omega arith) (omega arith)
message_is (ShakeMsg.Status status) h rest = status_is status rest
message_is (ShakeMsg.Challenge flags word creation name) h rest =
    let s = h.3.short in counted_is (content (ShakeMsg.Challenge flags word creation name)) rest (omega arith) (omega arith)
message_is (ShakeMsg.ChallengeReply word digest) h rest =
    let s = h.1 in counted_is (content (ShakeMsg.ChallengeReply word digest)) rest (omega arith) (omega arith)
message_is (ShakeMsg.ChallengeAck digest) h rest = counted_is (content (ShakeMsg.ChallengeAck digest)) rest (omega arith) (omega arith)

-- the third byte of the text of a status, and the second
status_no_112 : (status : Status) → slice_index_or (written (ShakeMsg.Status status)) 4 0 ≢ 112
status_no_112 Status.Ok e = absurd (omega arith)
status_no_112 Status.OkSimultaneous e = absurd (omega arith)
status_no_112 Status.Nok e = absurd (omega arith)
status_no_112 Status.NotAllowed e = absurd (omega arith)
status_no_112 Status.Alive e = absurd (omega arith)
status_no_112 Status.True e = absurd (omega arith)
status_no_112 Status.False e = absurd (omega arith)

pub short_has_no_112 : ShortHasNo112
short_has_no_112 (ShakeMsg.SendName flags creation name) h le = let l = name_long name h.2 in absurd (omega arith)
short_has_no_112 (ShakeMsg.Status status) h le = status_no_112 status
short_has_no_112 (ShakeMsg.Challenge flags word creation name) h le = absurd (omega arith)
short_has_no_112 (ShakeMsg.ChallengeReply word digest) h le = let s = h.1 in absurd (omega arith)
short_has_no_112 (ShakeMsg.ChallengeAck digest) h le = absurd (omega arith)

-- ---- frames

-- of a frame the first two bytes are 0 or 1, or the fifth is 112
framed_is : (n : ℕ) (text rest : List ℕ) → n ≤ 1048576 → begins_message ((big_bytes 4 n ++ 112 ∷ text) ++ rest) ≡ Some false
framed_is n text rest high =
    let number = 256 * (n / 16777216 % 256) + n / 65536 % 256 in
    ap (λ t. if t then Some true else if nat_lt 1 number then Some false else Some false) (le-ltb 16 number (omega arith))
    ∙ go (nat_lt 1 number)
  where
    go : (t : Bool) → (if t then Some false else Some false) ≡ Some false
    go true = refl
    go false = refl

signal_is : (signal : Signal) (payload : Bool) → IsSignalFrame signal (canonical_frame signal payload) → (rest : List ℕ)
    → begins_message (canonical_frame signal payload ++ rest) ≡ Some false
signal_is signal payload is rest =
    let text = canonical_text signal payload in
    let l : length (canonical_frame signal payload) ≡ length (is.len ++ 112 ∷ is.text) = ap (λ (b : List ℕ). length b) is.bytes in
    let n = is.number.len in
    let s = is.short in
    framed_is (suc (length text)) text rest (omega (arith, length-append is.len (112 ∷ is.text)))

-- ---- items

pub beginning_is_told : BeginningIsTold
beginning_is_told (Signalled signal payload) h rest = signal_is signal payload h.0 rest
beginning_is_told (Handshake message) h rest = message_is message h rest
beginning_is_told Tick h rest = refl

-- with nothing behind them
pub beginning_is : (item : Item) → IsSpelled item → begins_message (bytes_of item) ≡ Some (is_handshake item)
beginning_is item h = ap begins_message (sym (append-nil (bytes_of item))) ∙ beginning_is_told item h []
