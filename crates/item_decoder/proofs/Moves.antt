-- An item takes a byte at least, and no more than there are.
use Rattle.std.proofs.Common.{◌≡◌, ℕ, ◌<◌, ◌≤◌, List, [], ◌∷◌, ◌++◌, length, take, ap, arith}
use Rattle.std.proofs.lemmas.List.{length-append, length-take}
use Rattle.erl_handshake.proofs.Bytes.{length-counted}
use Rattle.erl_handshake.specs.Messages.{counted}
use Rattle.fault_places.specs.declared.places.Reader.{Reader}
use Rattle.item_decoder.specs.Answers.{IsFound}
use Rattle.item_decoder.specs.Told.{Moves}
use Rattle.item_decoder.specs.declared.answers.Found.{Found}
use Rattle.item_texts.specs.declared.reading.ReadItem.{ReadItem}

some_moves : (bytes front : List ℕ) (n : ℕ) → n ≤ length bytes → take n bytes ≡ front → 0 < length front → Moves bytes n
some_moves bytes front n within e some =
    let l : length (take n bytes) ≡ length front = ap length e in
    (within, λ any. omega (arith, length-take n bytes, l, some))

pub found_moves : (reader : Reader) (bytes : List ℕ) (found : Found) (n : ℕ) → IsFound reader bytes found n → Moves bytes n
found_moves Reader.Term bytes (Found.Term t) n h =
    some_moves bytes (131 ∷ h.0.is_text.term) n h.0.within h.0.is_text.bytes (omega arith)
found_moves Reader.Term bytes (Found.Item item) n h = absurd h
found_moves Reader.Frame bytes (Found.Item (ReadItem.Signal signal)) n h =
    some_moves bytes (h.1.len ++ 112 ∷ h.1.text) n h.0 h.1.bytes (omega (arith, length-append h.1.len (112 ∷ h.1.text)))
found_moves Reader.Frame bytes (Found.Item ReadItem.Tick) n h = some_moves bytes (0 ∷ 0 ∷ 0 ∷ 0 ∷ []) n h.0 h.1 (omega arith)
found_moves Reader.Frame bytes (Found.Item (ReadItem.Message message)) n h = absurd h
found_moves Reader.Frame bytes (Found.Term t) n h = absurd h
found_moves (Reader.Message role) bytes (Found.Item (ReadItem.Message message)) n h =
    some_moves bytes (counted h.is_text.body) n h.within h.is_text.parts (omega (arith, length-counted h.is_text.body))
found_moves (Reader.Message role) bytes (Found.Item (ReadItem.Signal signal)) n h = absurd h
found_moves (Reader.Message role) bytes (Found.Item ReadItem.Tick) n h = absurd h
found_moves (Reader.Message role) bytes (Found.Term t) n h = absurd h
