-- The place of a receipt in a history, and the order of a seat's receipts.
use Rattle.std.specs.Prelude.{◌≡◌, ◌<◌, ◌-◌, ℕ, suc, true, Option, None, Some, List, length, refl, slice_get}
use Rattle.std.specs.Coded.{Coded, code_by, coded×, coded_list, coded_ℕ}
use Rattle.node_history.specs.Acts.{is_act}
use Rattle.node_history.specs.declared.entry.Entry.{Entry}
use Rattle.node_lock.specs.declared.seat.Asked.{Asked}
use Rattle.node_history.specs.Said.{said}

-- the entry is that of a caller's act: it has the receipt's stamp, the act's event and the receipt's answer
abbrev pub IsEnteredAs : Asked → Option Entry → Type 0
IsEnteredAs asked None = ⊥
IsEnteredAs asked (Some entry) =
    (entry.stamp ≡ asked.receipt.stamp) × (is_act entry.event ≡ true) × (entry.event ≡ asked.event)
    × (said entry.answer ≡ said asked.receipt.answer)

abbrev pub last_of : List Asked → Option Asked
last_of receipts = slice_get receipts (length receipts - 1)

-- the last receipt, if there is one, stands at its place
abbrev pub LastIsEntered : Option Asked → List Entry → Type 0
LastIsEntered None entries = Unit {0}
LastIsEntered (Some asked) entries = IsEnteredAs asked (slice_get entries asked.receipt.position)

-- a receipt is behind another one: its entry has a greater place in the history, and a greater stamp
abbrev pub IsBehind : Option Asked → Asked → Type 0
IsBehind None asked = Unit {0}
IsBehind (Some before) asked = (before.receipt.position < asked.receipt.position) × (before.receipt.stamp < asked.receipt.stamp)

-- each receipt is behind the one before it
abbrev pub Follows : (before after : Option Asked) → Type 0
Follows before None = Unit {0}
Follows before (Some asked) = IsBehind before asked

abbrev pub Rise : List Asked → Type 0
Rise receipts = (k : ℕ) → Follows (slice_get receipts k) (slice_get receipts (suc k))

-- the receipts of a seat, and the number of those that can come without memory
pub record ReceiptsSeen : Type 0 where
  pub items : List Asked
  pub room : ℕ

abbrev pub receipts_code : Coded Asked → Coded ReceiptsSeen
receipts_code asked =
    code_by (List Asked × ℕ) (coded× (coded_list asked) coded_ℕ) (λ r. (r.items, r.room)) (λ p. record { items = p.0; room = p.1 })
    (λ _. refl)
