-- Each call keeps what went over the wires of a port what it has put and taken.
use Rattle.std.proofs.Common.{◌≡◌, ℕ, zero, suc, ◌+◌, ◌^◌, ◌<◌, ◌≤◌, Bool, true, false, Option, None, Some, List, [], ◌∷◌}
use Rattle.std.proofs.Common.{◌++◌, drop, get_or, length, take, refl, sym, ap, ◌∙◌, subst, append_assoc, append-nil, arith}
use Rattle.std.proofs.lemmas.List.{length-append}
use Rattle.dist_model.specs.Items.{Item}
use Rattle.node_frames.specs.Frames.{bytes_of}
use Rattle.wire_core.specs.Cuts.{AreCut, AreSpelled, IsCut, marked, marks_of, marks_of_items, unmarked}
use Rattle.wire_core.specs.Fronts.{front_length}
use Rattle.wire_core.specs.Gathering.{FrontIsTold, IsCutBehind, IsItem, IsWholeByFront}
use Rattle.wire_core.specs.Pieces.{IsLength, PieceSeen, piece_of}
use Rattle.wire_core.specs.Spellings.{SpellsItem}
use Rattle.wire_core.specs.declared.parcel.Parcel.{Parcel}
use Rattle.wire_core.proofs.Cuts.{marked_append, marks_append, same_stamp, unmarked_append, unmarked_marked}
use Rattle.wire_core.specs.Fetching.{IsWhole}
use Rattle.wire_core.specs.Ports.{PortSeen, behind_first, next_piece}
use Rattle.wire_core.specs.Streams.{AllSpellItems, IsBegun, IsNext, PutInPieces, TakenInPieces, begun_marks, marks_of_parcels}

-- ---- parcels

pub parcels_append : (a b : List Parcel) → marks_of_parcels (a ++ b) ≡ marks_of_parcels a ++ marks_of_parcels b
parcels_append [] b = refl
parcels_append (p ∷ a) b =
    ap (λ l. marked p.stamp p.bytes ++ l) (parcels_append a b)
    ∙ sym (append_assoc (marked p.stamp p.bytes) (marks_of_parcels a) (marks_of_parcels b))

parcels_snoc : (a : List Parcel) (p : Parcel) → marks_of_parcels (a ++ p ∷ []) ≡ marks_of_parcels a ++ marked p.stamp p.bytes
parcels_snoc a p = parcels_append a (p ∷ []) ∙ ap (λ l. marks_of_parcels a ++ l) (append-nil (marked p.stamp p.bytes))

pieces_snoc : (a : List PieceSeen) (p : PieceSeen) → marks_of (a ++ p ∷ []) ≡ marks_of a ++ marked p.stamp p.bytes
pieces_snoc a p = marks_append a (p ∷ []) ∙ ap (λ l. marks_of a ++ l) (append-nil (marked p.stamp p.bytes))

spell_snoc : (a : List Parcel) (p : Parcel) → AllSpellItems a → SpellsItem p.bytes → AllSpellItems (a ++ p ∷ [])
spell_snoc [] p h s = (s, tt)
spell_snoc (x ∷ a) p h s = (h.0, spell_snoc a p h.1 s)

-- the items of parcels
record ItemsOf (parcels : List Parcel) : Type 0 where
  items : List (ℕ × Item)
  spelled : AreSpelled items
  marks : marks_of_items items ≡ marks_of_parcels parcels

items_of : (parcels : List Parcel) → AllSpellItems parcels → ItemsOf parcels
items_of [] h = record { items = []; spelled = tt; marks = refl }
items_of (p ∷ parcels) h =
    let r = items_of parcels h.1 in
    record {
      items = (p.stamp, h.0.item) ∷ r.items;
      spelled = (h.0.spelled, r.spelled);
      marks = ap (λ l. marked p.stamp l ++ marks_of_items r.items) h.0.written ∙ ap (λ l. marked p.stamp p.bytes ++ l) r.marks;
    }

-- an item has bytes
pub has_bytes : FrontIsTold → (bytes : List ℕ) → SpellsItem bytes → 0 < length bytes
has_bytes told [] s =
    let f : front_length (bytes_of s.item ++ []) ≡ Some (length (bytes_of s.item)) = told s.item s.spelled [] in
    let none : ◌≡◌ {A = Option ℕ} None (Some (length (bytes_of s.item))) = sym (ap (λ l. front_length (l ++ [])) s.written) ∙ f in
    absurd cc
has_bytes told (x ∷ bytes) s = omega arith

-- ---- a piece of the first that waits

take_none : (n : ℕ) → take {A = ℕ} n [] ≡ []
take_none zero = refl
take_none (suc n) = refl

pub take_more : (a b : ℕ) (l : List ℕ) → take a l ++ take b (drop a l) ≡ take (a + b) l
take_more zero b l = ap (λ n. take n l) (let e : b ≡ 0 + b = omega arith in e)
take_more (suc a) b [] = take_none b ∙ sym (take_none (suc a + b))
take_more (suc a) b (x ∷ l) =
    let e : suc (a + b) ≡ suc a + b = omega arith in ap (λ m. x ∷ m) (take_more a b l) ∙ ap (λ n. take n (x ∷ l)) e

pub take_all : (n : ℕ) (l : List ℕ) → length l ≤ n → take n l ≡ l
take_all zero [] h = refl
take_all (suc n) [] h = refl
take_all zero (x ∷ l) h = absurd (omega arith)
take_all (suc n) (x ∷ l) h = ap (λ m. x ∷ m) (take_all n l (omega arith))

take_drop : (n : ℕ) (l : List ℕ) → take n l ++ drop n l ≡ l
take_drop zero l = refl
take_drop (suc n) [] = refl
take_drop (suc n) (x ∷ l) = ap (λ m. x ∷ m) (take_drop n l)

pub none_begun : (outbox : List Parcel) → begun_marks 0 outbox ≡ []
none_begun [] = refl
none_begun (p ∷ outbox) = refl

module _ (told : FrontIsTold) (pieces : List PieceSeen) (put rest : List Parcel) (first : Parcel) (begun greatest : ℕ)
    (h : PutInPieces pieces put (first ∷ rest) begun) where
  abbrev b : List ℕ
  b = first.bytes

  abbrev piece : PieceSeen
  piece = piece_of first.stamp (take greatest (drop begun b))

  with_piece : marks_of (pieces ++ piece ∷ []) ≡ marks_of_parcels put ++ marked first.stamp (take (begun + greatest) b)
  with_piece = pieces_snoc pieces piece ∙ ap (λ l. l ++ marked first.stamp piece.bytes) h.marks
      ∙ append_assoc (marks_of_parcels put) (marked first.stamp (take begun b)) (marked first.stamp piece.bytes)
      ∙ ap (λ l. marks_of_parcels put ++ l)
      (sym (marked_append first.stamp (take begun b) piece.bytes) ∙ ap (marked first.stamp) (take_more begun greatest b))

  pub next_is_cut : AreCut (pieces ++ piece ∷ [])
  next_is_cut =
      let r = items_of (put ++ first ∷ []) (spell_snoc put first h.items h.waiting.0) in
      let back = marked first.stamp (drop (begun + greatest) b) in
      record {
        items = r.items;
        spelled = r.spelled;
        rest = back;
        whole = ap (λ l. l ++ back) with_piece
            ∙ append_assoc (marks_of_parcels put) (marked first.stamp (take (begun + greatest) b)) back
            ∙ ap (λ l. marks_of_parcels put ++ l)
            (sym (marked_append first.stamp (take (begun + greatest) b) (drop (begun + greatest) b))
            ∙ ap (marked first.stamp) (take_drop (begun + greatest) b))
            ∙ sym (parcels_snoc put first) ∙ sym r.marks;
      }

  put_part : begun + greatest < length b → PutInPieces (pieces ++ piece ∷ []) put (first ∷ rest) (begun + greatest)
  put_part part = record { items = h.items; waiting = h.waiting; is_begun = part; marks = with_piece }

  put_last : length b ≤ begun + greatest → PutInPieces (pieces ++ piece ∷ []) (put ++ first ∷ []) rest 0
  put_last all = record {
    items = spell_snoc put first h.items h.waiting.0;
    waiting = h.waiting.1;
    is_begun = begins rest h.waiting.1;
    marks = with_piece ∙ ap (λ l. marks_of_parcels put ++ marked first.stamp l) (take_all (begun + greatest) b all)
        ∙ sym (parcels_snoc put first)
        ∙ sym (append-nil (marks_of_parcels (put ++ first ∷ [])))
        ∙ ap (λ l. marks_of_parcels (put ++ first ∷ []) ++ l) (sym (none_begun rest));
  }
    where
      begins : (l : List Parcel) → AllSpellItems l → IsBegun 0 l
      begins [] s = refl
      begins (p ∷ ps) s = has_bytes told p.bytes s.0

-- ---- a piece that was taken

module _ (told : FrontIsTold) (behind : IsCutBehind) (whole : IsWholeByFront) (pieces : List PieceSeen) (taken : List Parcel)
    (gathered : List ℕ) (piece : PieceSeen)
    (h : TakenInPieces pieces taken gathered) (some : 1 ≤ length piece.bytes) (cut : AreCut (pieces ++ piece ∷ [])) where
  abbrev now : List (ℕ × ℕ)
  now = h.part ++ marked piece.stamp piece.bytes

  now_is : unmarked now ≡ gathered ++ piece.bytes
  now_is = unmarked_append h.part (marked piece.stamp piece.bytes) ∙ ap (λ l. l ++ unmarked (marked piece.stamp piece.bytes)) h.part_is
      ∙ ap (λ l. gathered ++ l) (unmarked_marked piece.stamp piece.bytes)

  with_taken : marks_of (pieces ++ piece ∷ []) ≡ marks_of_parcels taken ++ now
  with_taken = pieces_snoc pieces piece ∙ ap (λ l. l ++ marked piece.stamp piece.bytes) h.marks
      ∙ append_assoc (marks_of_parcels taken) h.part (marked piece.stamp piece.bytes)

  pub taken_part : TakenInPieces (pieces ++ piece ∷ []) taken (gathered ++ piece.bytes)
  taken_part = record { items = h.items; part = now; part_is = now_is; marks = with_taken }

  is_item : front_length (gathered ++ piece.bytes) ≡ Some (length (gathered ++ piece.bytes)) → IsItem now
  is_item front =
      let r = items_of taken h.items in
      let c : IsCut (marks_of_items r.items ++ now) = subst IsCut (with_taken ∙ ap (λ l. l ++ now) (sym r.marks)) cut in
      whole now (behind r.items now r.spelled c) (subst (λ l. front_length l ≡ Some (length l)) (sym now_is) front)

  pub spells_item : front_length (gathered ++ piece.bytes) ≡ Some (length (gathered ++ piece.bytes)) → SpellsItem (gathered ++ piece.bytes)
  spells_item front =
      let i = is_item front in
      record {
        item = i.item;
        spelled = i.spelled;
        written = sym (unmarked_marked i.stamp (bytes_of i.item)) ∙ sym (ap unmarked i.marks_are) ∙ now_is;
      }

  pub taken_whole : (front : front_length (gathered ++ piece.bytes) ≡ Some (length (gathered ++ piece.bytes))) (p : Parcel)
      → p.stamp ≡ piece.stamp
      → p.bytes ≡ gathered ++ piece.bytes → TakenInPieces (pieces ++ piece ∷ []) (taken ++ p ∷ []) []
  taken_whole front p stamp bytes =
      let i = is_item front in
      let stamp_is : piece.stamp ≡ i.stamp = same_stamp h.part i.stamp piece.stamp piece.bytes (bytes_of i.item) some i.marks_are in
      let same : now ≡ marked p.stamp p.bytes =
      i.marks_are ∙ ap (λ n. marked n (bytes_of i.item)) (sym stamp_is ∙ sym stamp)
      ∙ ap (marked p.stamp) (sym (unmarked_marked i.stamp (bytes_of i.item)) ∙ sym (ap unmarked i.marks_are) ∙ now_is ∙ sym bytes) in
      record {
        items = spell_snoc taken p h.items (subst SpellsItem (sym bytes) (spells_item front));
        part = [];
        part_is = refl;
        marks = with_taken ∙ ap (λ l. marks_of_parcels taken ++ l) same ∙ sym (parcels_snoc taken p)
            ∙ sym (append-nil (marks_of_parcels (taken ++ p ∷ [])));
      }

-- ---- what waits

pub more_waits : FrontIsTold → (pieces : List PieceSeen) (put outbox : List Parcel) (begun : ℕ) (p : Parcel) → SpellsItem p.bytes
    → PutInPieces pieces put outbox begun → PutInPieces pieces put (outbox ++ p ∷ []) begun
more_waits told pieces put outbox begun p s h = record {
  items = h.items;
  waiting = spell_snoc outbox p h.waiting s;
  is_begun = is outbox h.is_begun;
  marks = h.marks ∙ ap (λ l. marks_of_parcels put ++ l) (same outbox h.is_begun);
}
  where
    is : (l : List Parcel) → IsBegun begun l → IsBegun begun (l ++ p ∷ [])
    is [] e = let some : 0 < length p.bytes = has_bytes told p.bytes s in omega arith
    is (x ∷ l) e = e

    same : (l : List Parcel) → IsBegun begun l → begun_marks begun l ≡ begun_marks begun (l ++ p ∷ [])
    same [] e = ap (λ n. marked p.stamp (take n p.bytes)) (sym e)
    same (x ∷ l) e = refl

-- ---- as the code tells it

same_first : (a b : Parcel) (xs ys : List Parcel) → a ∷ xs ≡ b ∷ ys → (a ≡ b) × (xs ≡ ys)
same_first a b xs ys e = (let p : a ≡ b = cc in p, let q : xs ≡ ys = cc in q)

module _ (told : FrontIsTold) (port : PortSeen) (piece : PieceSeen) (is_last : Bool)
    (h : PutInPieces port.pieces port.put port.outbox port.begun) (n : IsNext port piece is_last)
    (pieces : List PieceSeen) (pieces_are : pieces ≡ port.pieces ++ piece ∷ []) where
  held : PutInPieces port.pieces port.put (n.first ∷ n.rest) port.begun
  held = subst (λ o. PutInPieces port.pieces port.put o port.begun) n.outbox h

  these : port.pieces ++ next_piece port n.first ∷ [] ≡ pieces
  these = ap (λ x. port.pieces ++ x ∷ []) (sym n.piece_is) ∙ sym pieces_are

  pub part_put : (put outbox : List Parcel) → put ≡ port.put → outbox ≡ port.outbox → is_last ≡ false
      → PutInPieces pieces put outbox (port.begun + port.greatest)
  part_put put outbox put_is outbox_is is =
      let m = put_part told port.pieces port.put n.rest n.first port.begun port.greatest held (n.part is) in
      let o = outbox_is ∙ n.outbox in
      subst (λ (x : List PieceSeen × (List Parcel × List Parcel)). PutInPieces x.0 x.1.0 x.1.1 (port.begun + port.greatest))
      (λ i. (these i, (sym put_is i, sym o i))) m

  pub last_put : (put outbox : List Parcel) (x : Parcel) → put ≡ port.put ++ x ∷ [] → port.outbox ≡ x ∷ outbox
      → is_last ≡ true → PutInPieces pieces put outbox 0
  last_put put outbox x put_is outbox_is is =
      let m = put_last told port.pieces port.put n.rest n.first port.begun port.greatest held (n.last is) in
      let f = same_first n.first x n.rest outbox (sym n.outbox ∙ outbox_is) in
      let w : port.put ++ n.first ∷ [] ≡ put = ap (λ y. port.put ++ y ∷ []) f.0 ∙ sym put_is in
      subst (λ (y : List PieceSeen × (List Parcel × List Parcel)). PutInPieces y.0 y.1.0 y.1.1 0) (λ i. (these i, (w i, f.1 i))) m

-- the first of the outbox in pieces
pub next_of : FrontIsTold → (port : PortSeen) (piece : PieceSeen) (first : Parcel) (rest : List Parcel) (bytes : List ℕ) (is_last : Bool)
    → piece ≡ piece_of first.stamp bytes → PutInPieces port.pieces port.put port.outbox port.begun
    → port.outbox ≡ first ∷ rest → bytes ≡ take port.greatest (drop port.begun first.bytes)
    → (is_last ≡ true → length first.bytes ≤ port.begun + port.greatest)
    → (is_last ≡ false → port.begun + port.greatest < length first.bytes)
    → (is_last ≡ false → port.begun + port.greatest < 2 ^ 64) → IsNext port piece is_last
next_of told port piece first rest bytes is_last piece_is h outbox bytes_are last part fits =
    let same : next_piece port first ≡ piece = ap (piece_of first.stamp) (sym bytes_are) ∙ sym piece_is in
    record {
      first = first;
      rest = rest;
      outbox = outbox;
      piece_is = sym same;
      last = last;
      part = part;
      fits = fits;
      cut = subst (λ x. AreCut (port.pieces ++ x ∷ [])) same
          (next_is_cut told port.pieces port.put rest first port.begun port.greatest
          (subst (λ o. PutInPieces port.pieces port.put o port.begun) outbox h));
    }

-- a piece was taken
module _ (told : FrontIsTold) (behind : IsCutBehind) (whole : IsWholeByFront) (pieces new_pieces : List PieceSeen)
    (taken new_taken : List Parcel) (gathered new_gathered : List ℕ)
    (piece : PieceSeen) (h : TakenInPieces pieces taken gathered) (short : IsLength (length piece.bytes))
    (pieces_are : new_pieces ≡ pieces ++ piece ∷ []) (cut : AreCut new_pieces)
    (taken_are : new_taken ≡ taken) (gathered_are : new_gathered ≡ gathered ++ piece.bytes) where
  these_cut : AreCut (pieces ++ piece ∷ [])
  these_cut = subst AreCut pieces_are cut

  pub part_taken : TakenInPieces new_pieces new_taken new_gathered
  part_taken =
      subst (λ (x : List PieceSeen × (List Parcel × List ℕ)). TakenInPieces x.0 x.1.0 x.1.1)
      (λ i. (sym pieces_are i, (sym taken_are i, sym gathered_are i)))
      (taken_part told behind whole pieces taken gathered piece h short.0 these_cut)

  pub spells : IsWhole new_gathered → SpellsItem new_gathered
  spells front =
      subst SpellsItem (sym gathered_are)
      (spells_item told behind whole pieces taken gathered piece h short.0 these_cut (subst IsWhole gathered_are front))

  pub whole_taken : IsWhole new_gathered → (p : Parcel) → p.stamp ≡ piece.stamp → p.bytes ≡ new_gathered → (all : List Parcel)
      → all ≡ new_taken ++ p ∷ []
      → (left : List ℕ) → left ≡ [] → TakenInPieces new_pieces all left
  whole_taken front p stamp bytes all all_are left none =
      subst (λ (x : List PieceSeen × (List Parcel × List ℕ)). TakenInPieces x.0 x.1.0 x.1.1)
      (λ i. (sym pieces_are i, (sym (all_are ∙ ap (λ l. l ++ p ∷ []) taken_are) i, sym none i)))
      (taken_whole told behind whole pieces taken gathered piece h short.0 these_cut
      (subst IsWhole gathered_are front) p stamp (bytes ∙ gathered_are))

pub first_in : (l : List Parcel) (x : Parcel) → 0 < length l → x ≡ get_or l 0 x → l ≡ x ∷ behind_first l
first_in [] x some is = absurd (omega arith)
first_in (y ∷ l) x some is = ap (λ z. z ∷ l) (sym is)

pub handled_more : (n : ℕ) (l : List Parcel) (p : Parcel) → n ≤ length l → n ≤ length (l ++ p ∷ [])
handled_more n l p h = omega (arith, length-append l (p ∷ []))
