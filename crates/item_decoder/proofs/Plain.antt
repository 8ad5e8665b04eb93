-- No object has a number with a fraction, so its text is told exactly. The names of flags, a bit after the other.
use Rattle.std.proofs.Common.{◌≡◌, ℕ, zero, suc, ◌-◌, ◌<◌, ◌/◌, List, [], ◌∷◌, ◌++◌, false, Result, Ok, Err, OnOk, map, refl, ap, sym, ◌∙◌, append_assoc, arith}
use Rattle.std.proofs.lemmas.List.{map-append}
use Rattle.erl_control.specs.declared.signal.Signal.{Signal}
use Rattle.erl_handshake.specs.declared.message.ShakeMsg.{ShakeMsg}
use Rattle.item_decoder.specs.Objects.{data_by, flag_names, one_name, plain_data, flagged_data, told_item}
use Rattle.item_decoder.specs.declared.answers.Answer.{Answer}
use Rattle.item_decoder.specs.declared.answers.Found.{Found}
use Rattle.item_texts.specs.declared.reading.ReadItem.{ReadItem}
use Rattle.script_json.specs.Fields.{handshake_data, signal_data}
use Rattle.serde_json.specs.Data.{Data, string}
use Rattle.serde_json.specs.View.{items_of}
use Rattle.serde_json.specs.Written.{has_float, items_have_float}

in_signal : (signal : Signal) → has_float (signal_data signal) ≡ false
in_signal (Signal.Link from to) = refl
in_signal _ = refl

in_handshake : (message : ShakeMsg) → has_float (handshake_data message) ≡ false
in_handshake (ShakeMsg.Status status) = refl
in_handshake _ = refl

in_item : (found : Found) → has_float (told_item found) ≡ false
in_item (Found.Term term) = refl
in_item (Found.Item (ReadItem.Signal signal)) = in_signal signal
in_item (Found.Item (ReadItem.Message message)) = in_handshake message
in_item (Found.Item ReadItem.Tick) = refl

in_names : (names : List (List ℕ)) → items_have_float (items_of (map string names)) ≡ false
in_names [] = refl
in_names (name ∷ names) = in_names names

in_plain : (at : ℕ) (found : Found) (n : ℕ) → has_float (plain_data at (told_item found) n) ≡ false
in_plain at found n = rw (in_item found) refl

in_flagged : (at : ℕ) (names : List (List ℕ)) (found : Found) (n : ℕ) → has_float (flagged_data at names (told_item found) n) ≡ false
in_flagged at names found n = rw (in_names names, in_item found) refl

pub in_told : (at : ℕ) (answer : Answer) (place : ℕ) (words : List ℕ) → has_float (data_by at answer place words) ≡ false
in_told at (Answer.Found (Found.Term term) n) place words = in_plain at (Found.Term term) n
in_told at (Answer.Found (Found.Item (ReadItem.Signal signal)) n) place words = in_plain at (Found.Item (ReadItem.Signal signal)) n
in_told at (Answer.Found (Found.Item (ReadItem.Message (ShakeMsg.SendName flags creation name))) n) place words =
    in_flagged at (flag_names 64 flags) (Found.Item (ReadItem.Message (ShakeMsg.SendName flags creation name))) n
in_told at (Answer.Found (Found.Item (ReadItem.Message (ShakeMsg.Challenge flags challenge creation name))) n) place words =
    in_flagged at (flag_names 64 flags) (Found.Item (ReadItem.Message (ShakeMsg.Challenge flags challenge creation name))) n
in_told at (Answer.Found (Found.Item (ReadItem.Message (ShakeMsg.Status status))) n) place words =
    in_plain at (Found.Item (ReadItem.Message (ShakeMsg.Status status))) n
in_told at (Answer.Found (Found.Item (ReadItem.Message (ShakeMsg.ChallengeReply challenge digest))) n) place words =
    in_plain at (Found.Item (ReadItem.Message (ShakeMsg.ChallengeReply challenge digest))) n
in_told at (Answer.Found (Found.Item (ReadItem.Message (ShakeMsg.ChallengeAck digest))) n) place words =
    in_plain at (Found.Item (ReadItem.Message (ShakeMsg.ChallengeAck digest))) n
in_told at (Answer.Found (Found.Item ReadItem.Tick) n) place words = in_plain at (Found.Item ReadItem.Tick) n
in_told at Answer.Begun place words = refl
in_told at (Answer.Refused why) place words = refl

-- ---- flags

pub flag_names_step : (left bits : ℕ) → 0 < left → flag_names left bits ≡ one_name (64 - left) bits ++ flag_names (left - 1) (bits / 2)
flag_names_step zero bits less = absurd (omega arith)
flag_names_step (suc left) bits less =
    let e : left ≡ suc left - 1 = omega arith in ap (λ (n : ℕ). one_name (64 - suc left) bits ++ flag_names n (bits / 2)) e

-- a list to which the names x were pushed, and then y
pub both_pushed : {A E : Type 0} (result : Result A E) (old middle new : List Data) (x y : List (List ℕ)) → middle ≡ old ++ map string x
    → OnOk result (new ≡ middle ++ map string y) → OnOk result (new ≡ old ++ map string (x ++ y))
both_pushed (Ok a) old middle new x y first last =
    last ∙ ap (λ (w : List Data). w ++ map string y) first ∙ append_assoc old (map string x) (map string y)
    ∙ ap (λ (w : List Data). old ++ w) (sym (map-append string x y))
both_pushed (Err e) old middle new x y first last = last
