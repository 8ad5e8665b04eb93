-- Receipts of seats, one seat more.
use Rattle.std.proofs.Common.{◌≡◌, ◌≢◌, ℕ, zero, suc, ◌+◌, ◌<◌, ◌≤◌, Bool, true, false, Option, Some, None, List, []}
use Rattle.std.proofs.Common.{◌∷◌, ◌++◌, get_or, inl, inr, if◌then◌else◌, length, length-append, map, refl, sym, ap}
use Rattle.std.proofs.Common.{◌∙◌, subst, arith, append_assoc, append-nil, drop, take, slice_get, slice_index_or}
use Rattle.std.specs.List.{All, Contains, count_by}
use Rattle.std.proofs.lemmas.Bool.Decides.{eqb_tells}
use Rattle.std.proofs.lemmas.List.Elements.{All-nil, Contains-append_left, Contains-append_right}
use Rattle.dist_books.proofs.Numbers.{in_or_out}
use Rattle.joined_books.proofs.EachOnce.{count_cons}
use Rattle.joined_books.proofs.OneMore.{split_next, take_next}
use Rattle.joined_books.proofs.Marks.{all_marked, none_marked, strange_more}
use Rattle.joined_books.proofs.Zipped.{part_beyond, part_of}
use Rattle.joined_books.specs.Marks.{AreMarked, IsStrange}
use Rattle.joined_books.specs.Parts.{entries_at}
use Rattle.joined_books.specs.Receipts.{AllEntered, AreEnteredApart, AreReceipts, HasReceipts, IsShort}
use Rattle.joined_books.specs.Receipts.{IsEnteredIn, acts_of, own_receipts, position_of, receipts_of}
use Rattle.node_lock.specs.Seen.{BookSeen}
use Rattle.node_history.specs.Acts.{is_act}
use Rattle.node_history.specs.declared.entry.Entry.{Entry}
use Rattle.node_lock.specs.Seats.{IsEnteredAs}
use Rattle.node_lock.specs.declared.seat.Asked.{Asked}
use Rattle.node_lock.specs.declared.seat.Seat.{Seat}
use Rattle.dist_books.specs.Acting.{nowhere}

receipts_append : (node : ℕ) (xs ys : List Seat) → receipts_of node (xs ++ ys) ≡ receipts_of node xs ++ receipts_of node ys
receipts_append node [] ys = refl
receipts_append node (x ∷ xs) ys =
    ap (λ l. own_receipts node x ++ l) (receipts_append node xs ys)
    ∙ sym (append_assoc (own_receipts node x) (receipts_of node xs) (receipts_of node ys))

module _ (node : ℕ) (seats : List Seat) (i : ℕ) (x : Seat) (below : i < length seats) (is : x ≡ get_or seats i x) where
  pub seat_next : receipts_of node (take (i + 1) seats) ≡ receipts_of node (take i seats) ++ own_receipts node x
  seat_next =
      ap (λ l. receipts_of node l) (take_next seats i x below is) ∙ receipts_append node (take i seats) (x ∷ [])
      ∙ ap (λ l. receipts_of node (take i seats) ++ l) (append-nil (own_receipts node x))

  pub seats_split : receipts_of node seats ≡ (receipts_of node (take i seats) ++ own_receipts node x) ++ receipts_of node
      (drop (i + 1) seats)
  seats_split =
      ap (λ l. receipts_of node l) (sym (split_next seats i x below is)) ∙ receipts_append node (take (i + 1) seats) (drop (i + 1) seats)
      ∙ ap (λ l. l ++ receipts_of node (drop (i + 1) seats)) seat_next

  -- how many
  pub held_next : (found more own : ℕ) → found ≡ length (receipts_of node (take i seats)) → own ≡ length (own_receipts node x)
      → more ≡ found + own
      → more ≡ length (receipts_of node (take (i + 1) seats))
  held_next found more own was is_own sum =
      let all = ap (λ l. length l) seat_next ∙ length-append (receipts_of node (take i seats)) (own_receipts node x) in omega arith

  pub held_beyond : (found own : ℕ) → found ≡ length (receipts_of node (take i seats)) → own ≡ length (own_receipts node x)
      → found + own ≤ length (receipts_of node seats)
  held_beyond found own was is_own =
      let all = ap (λ l. length l) seats_split in
      let a = length-append (receipts_of node (take i seats) ++ own_receipts node x) (receipts_of node (drop (i + 1) seats)) in
      let b = length-append (receipts_of node (take i seats)) (own_receipts node x) in
      omega arith

  -- a strange one among those of this seat
  pub strange_in : (IsThere : Asked → Type 0) (at : ℕ)
      → IsStrange position_of IsThere (receipts_of node (take i seats) ++ own_receipts node x) at
      → IsStrange position_of IsThere (receipts_of node seats) at
  strange_in IsThere at h =
      subst (λ l. IsStrange position_of IsThere l at) (sym seats_split)
      (strange_more position_of IsThere (receipts_of node (take i seats) ++ own_receipts node x) (receipts_of node (drop (i + 1) seats)) at
      h)

-- ---- a seat of no node

no_entry : (asked : Asked) → IsEnteredIn [] asked → ⊥
no_entry asked h = h

own_are : (node : ℕ) (x : Seat) → node ≡ x.node → own_receipts node x ≡ x.receipts.items
own_are node x e = elim (eqb_tells x.node node) [
  | inl t ↦ ap (λ b. if b then x.receipts.items else []) t.0
  | inr t ↦ absurd (t.1 (sym e))
]

pub strange_seat : (books : List BookSeen) (seats : List Seat) (i : ℕ) (x : Seat) (node : ℕ) (asked : Asked) → i < length seats
    → x ≡ get_or seats i x
    → node ≡ x.node → length books ≤ node → Contains x.receipts.items asked
    → IsStrange position_of (IsEnteredIn (entries_at books node)) (receipts_of node seats) asked.receipt.position
strange_seat books seats i x node asked below is e beyond there = record {
  one = asked;
  there = subst (λ l. Contains l asked) (sym (seats_split node seats i x below is))
      (Contains-append_left (receipts_of node (take i seats) ++ own_receipts node x) (receipts_of node (drop (i + 1) seats)) asked
      (Contains-append_right (receipts_of node (take i seats)) (own_receipts node x) asked
      (subst (λ l. Contains l asked) (sym (own_are node x e)) there)));
  place_is = refl;
  strange = inl (λ s. no_entry asked
      (subst (λ l. IsEnteredIn l asked) (part_beyond (λ (b : BookSeen). b.history.entries.items) books node [] (omega arith)) s));
}

none_of : (node : ℕ) (seats : List Seat)
    → ((k : ℕ) (d : Seat) → k < length seats → (get_or seats k d).node ≡ node → (get_or seats k d).receipts.items ≡ [])
    → receipts_of node seats ≡ []
none_of node [] h = refl
none_of node (x ∷ xs) h =
    let rest = none_of node xs (λ k d below. h (suc k) d (omega arith)) in
    ap (λ l. own_receipts node x ++ l) rest ∙ append-nil (own_receipts node x) ∙ elim (eqb_tells x.node node) [
      | inl t ↦ ap (λ b. if b then x.receipts.items else []) t.0 ∙ h 0 x (omega arith) t.1
      | inr t ↦ ap (λ b. if b then x.receipts.items else []) t.0
    ]

-- ---- all of a node

pub entries_are : (books : List BookSeen) (k : ℕ) (x : BookSeen) → k < length books → x ≡ get_or books k x
    → entries_at books k ≡ x.history.entries.items
entries_are books k x below is =
    part_of (λ (b : BookSeen). b.history.entries.items) books k x [] below ∙ ap (λ (b : BookSeen). b.history.entries.items) (sym is)

is_some_act : {E : Type 0} (f : E → Bool) → Option E → Bool
is_some_act f None = false
is_some_act f (Some e) = f e

bit_at : {E : Type 0} (f : E → Bool) (es : List E) (p : ℕ) → slice_index_or (map f es) p false ≡ is_some_act f (slice_get es p)
unfolding is_some_act
bit_at f [] p = refl
bit_at f (e ∷ es) zero = refl
bit_at f (e ∷ es) (suc p) = bit_at f es p

act_in : (asked : Asked) (o : Option Entry) → IsEnteredAs asked o → is_some_act (λ (entry : Entry). is_act entry.event) o ≡ true
unfolding is_some_act
act_in asked None h = absurd h
act_in asked (Some entry) h = h.1

count_map : {E : Type 0} (f : E → Bool) (es : List E) → count_by (λ b. b) (map f es) ≡ count_by f es
count_map f [] = refl
count_map f (e ∷ es) =
    let a = count_cons (λ (b : Bool). b) (f e) (map f es) in
    let b = count_cons f e es in
    let c = count_map f es in
    omega arith

has_all : (entries : List Entry) (marks : List Bool) (receipts : List Asked)
    → AreMarked position_of (IsEnteredIn entries) (length entries) marks receipts
    → length receipts ≡ count_by (λ (entry : Entry). is_act entry.event) entries → HasReceipts entries receipts
has_all entries marks receipts marked as_many = record {
  stand = marked.stand;
  once = all_marked position_of (IsEnteredIn entries) (length entries) marks (acts_of entries) receipts marked
      (λ asked s. bit_at (λ (entry : Entry). is_act entry.event) entries asked.receipt.position
      ∙ act_in asked (slice_get entries asked.receipt.position) s)
      (as_many ∙ sym (count_map (λ (entry : Entry). is_act entry.event) entries));
}

has_none : (entries : List Entry) (receipts : List Asked) → entries ≡ [] → receipts ≡ [] → HasReceipts entries receipts
has_none entries receipts none nothing =
    subst (λ l. HasReceipts l receipts) (sym none) (subst (λ l. HasReceipts [] l) (sym nothing) empty)
  where
    empty : HasReceipts [] []
    empty = record { stand = All-nil (IsEnteredIn []); once = λ position. refl }

same_number : (m n : ℕ) → (m ≢ n → ⊥) → m ≡ n
same_number m n h = elim (eqb_tells m n) [ inl t ↦ t.1 | inr t ↦ absurd (h t.1) ]

pub all_stand : (books : List BookSeen) (seats : List Seat) → ((node : ℕ) → node < length books → AreEnteredApart books seats node)
    → All (λ (seat : Seat). length books ≤ seat.node → seat.receipts.items ≡ []) seats → AllEntered books seats
all_stand books seats stand nowhere node = elim (in_or_out node (length books)) [
  | inl within ↦ stand node within
  | inr beyond ↦ (
    [],
    nothing (entries_at books node) (receipts_of node seats)
        (part_beyond (λ (b : BookSeen). b.history.entries.items) books node [] (omega arith))
        (none_of node seats (λ k d below e. nowhere k d below (omega arith))),
  )
]
  where
    nothing : (entries : List Entry) (receipts : List Asked) → entries ≡ [] → receipts ≡ []
        → AreMarked position_of (IsEnteredIn entries) (length entries) [] receipts
    nothing entries receipts none no_more =
        let P : List Entry → Type 0 = λ l. AreMarked position_of (IsEnteredIn l) (length l) [] receipts in
        let Q : List Asked → Type 0 = λ l. AreMarked position_of (IsEnteredIn []) 0 [] l in
        subst P (sym none) (subst Q (sym no_more) (none_marked position_of (IsEnteredIn []) 0 [] refl (λ p. refl)))

pub are_receipts : (books : List BookSeen) (seats : List Seat) → ((node : ℕ) → node < length books → AreEnteredApart books seats node)
    → All (λ (seat : Seat). length books ≤ seat.node → seat.receipts.items ≡ []) seats
    → ((node : ℕ) → node < length books → IsShort (entries_at books node) (receipts_of node seats) → ⊥) → AreReceipts books seats
are_receipts books seats stand nowhere enough node = elim (in_or_out node (length books)) [
  | inl within ↦ (
      let m = stand node within in
      has_all (entries_at books node) m.0 (receipts_of node seats) m.1 (same_number _ _ (enough node within)))
  | inr beyond ↦ has_none (entries_at books node) (receipts_of node seats)
      (part_beyond (λ (b : BookSeen). b.history.entries.items) books node [] (omega arith))
      (none_of node seats (λ k d below e. nowhere k d below (omega arith)))
]
