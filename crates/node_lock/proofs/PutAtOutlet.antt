-- What is put at an outlet, and what waits there.
use Rattle.std.proofs.Common.{◌≡◌, ◌⊎◌, ℕ, zero, suc, ◌+◌, Bool, true, false, cond, drop, if◌then◌else◌}
use Rattle.std.proofs.Common.{nat_lt, take, arith, None, Some, Result, Ok, Err, List, [], ◌∷◌, ◌++◌, get_or}
use Rattle.std.proofs.Common.{inl, inr, length, map, refl, set, sym, ap, ◌∙◌, subst, append_assoc, append-nil}
use Rattle.std.specs.Prelude.{OnErr, is_none}
use Rattle.std.specs.List.{position}
use Rattle.std.specs.Ordering.{eq_by_cmp}
use Rattle.std.specs.declared.alloc.AllocError.{AllocError}
use Rattle.std.proofs.lemmas.List.{length-append, map-append}
use Rattle.std.proofs.lemmas.Bool.{ltb-false}
use Rattle.dist_books.specs.Acting.{Way}
use Rattle.erl_names.specs.Order.{trunk_cmp}
use Rattle.erl_names.specs.declared.trunk.TrunkId.{TrunkId}
use Rattle.erl_term.specs.declared.refusal.Refusal.{Refusal}
use Rattle.node_lock.proofs.BookedCalls.{found_first}
use Rattle.node_lock.proofs.OutletMoves.{Moved, at_port}
use Rattle.node_lock.proofs.Places.{IsFirst, first_is, none_is}
use Rattle.node_lock.proofs.Ways.{none_behind}
use Rattle.node_lock.specs.Passing.{AtOutlet, IsStill, Puts, Takes, said, waits, with_outlet}
use Rattle.node_lock.specs.Seen.{BookSeen}
use Rattle.node_lock.specs.Standing.{outlet_of}
use Rattle.node_lock.specs.Waiting.{waiting}
use Rattle.node_lock.specs.declared.outlet.Outlet.{Outlet}
use Rattle.node_history.specs.declared.entry.Entry.{Entry}
use Rattle.node_history.specs.declared.history.History.{History}
use Rattle.node_frames.specs.Frames.{Framed}
use Rattle.wire_core.proofs.StreamsKept.{none_begun, parcels_append, take_all, take_more}
use Rattle.wire_core.specs.Fetching.{Fetches}
use Rattle.wire_core.specs.Ports.{EndsFull, PortSeen, first_of, flushed, next_piece, sending}
use Rattle.wire_core.specs.Streams.{begun_marks, marks_of_parcels}
use Rattle.wire_core.specs.Pieces.{PieceSeen}
use Rattle.wire_core.proofs.Cuts.{marked_append, marks_append}
use Rattle.wire_core.specs.Cuts.{marked, marks_of}
use Rattle.wire_core.specs.declared.parcel.Parcel.{Parcel}

abbrev framed_said : ℕ × Framed → ℕ × List ℕ
framed_said sent = (sent.0, sent.1.bytes)

-- ---- nothing is put

-- its pieces stay, and what waits waits in the outbox or behind it
puts_kept : (es : List Entry) (o : Outlet) (outbox : List Parcel) (entry effects : ℕ)
    → waits es o ≡ waits es (record { port = record o.port { outbox = outbox }; entry = entry; effects = effects })
    → begun_marks o.port.begun o.port.outbox ≡ begun_marks o.port.begun outbox
    → Puts es o (record { port = record o.port { outbox = outbox }; entry = entry; effects = effects }) 0
puts_kept es o outbox entry effects waited begun = record {
  trunk = refl;
  peer = refl;
  taken = refl;
  slot = refl;
  gathered = refl;
  greatest = refl;
  cut = [];
  many = refl;
  pieces = sym (append-nil o.port.pieces);
  moved = [];
  few = omega arith;
  put = sym (append-nil o.port.put);
  waited = waited;
  bytes = append-nil (begun_marks o.port.begun o.port.outbox) ∙ begun;
}

pub puts_none : (es : List Entry) (o : Outlet) → Puts es o o 0
puts_none es o = puts_kept es o o.port.outbox o.entry o.effects refl refl

-- so many bytes of the one, and then of the next
same_bytes : {A : Type 0} (a b c x y p q : List A) → a ++ x ≡ p ++ b → b ++ y ≡ q ++ c → a ++ (x ++ y) ≡ (p ++ q) ++ c
same_bytes a b c x y p q h k =
    sym (append_assoc a x y) ∙ ap (λ l. l ++ y) h ∙ append_assoc p b y ∙ ap (λ l. p ++ l) k ∙ sym (append_assoc p q c)

pub puts_both : (es : List Entry) (o n m : Outlet) (a b : ℕ) → Puts es o n a → Puts es n m b → Puts es o m (a + b)
puts_both es o n m a b p q = record {
  trunk = q.trunk ∙ p.trunk;
  peer = q.peer ∙ p.peer;
  taken = q.taken ∙ p.taken;
  slot = q.slot ∙ p.slot;
  gathered = q.gathered ∙ p.gathered;
  greatest = q.greatest ∙ p.greatest;
  cut = p.cut ++ q.cut;
  many = length-append p.cut q.cut ∙ ap (λ k. k + length q.cut) p.many ∙ ap (λ k. a + k) q.many;
  pieces = q.pieces ∙ ap (λ l. l ++ q.cut) p.pieces ∙ append_assoc o.port.pieces p.cut q.cut;
  moved = p.moved ++ q.moved;
  few = let f = p.few in let g = q.few in omega (arith, length-append p.moved q.moved);
  put = q.put ∙ ap (λ l. l ++ q.moved) p.put ∙ append_assoc o.port.put p.moved q.moved;
  waited = p.waited ∙ ap (λ l. map said p.moved ++ l) q.waited ∙ sym (append_assoc (map said p.moved) (map said q.moved) (waits es m))
      ∙ ap (λ l. l ++ waits es m) (sym (map-append said p.moved q.moved));
  bytes = ap (λ l. begun_marks o.port.begun o.port.outbox ++ l) (marks_append p.cut q.cut)
      ∙ same_bytes (begun_marks o.port.begun o.port.outbox) (begun_marks n.port.begun n.port.outbox)
      (begun_marks m.port.begun m.port.outbox)
      (marks_of p.cut) (marks_of q.cut) (marks_of_parcels p.moved) (marks_of_parcels q.moved) p.bytes q.bytes
      ∙ ap (λ l. l ++ begun_marks m.port.begun m.port.outbox) (sym (parcels_append p.moved q.moved));
}

-- ---- what the history sent next comes into the outbox

-- one more that waits isn't begun
begun_same : (parcel : Parcel) (begun : ℕ) (outbox : List Parcel) → (outbox ≡ [] → begun ≡ 0)
    → begun_marks begun outbox ≡ begun_marks begun (outbox ++ parcel ∷ [])
begun_same parcel begun [] none = ap (λ n. marked parcel.stamp (take n parcel.bytes)) (sym (none refl))
begun_same parcel begun (x ∷ outbox) none = refl

pub puts_staged : (es : List Entry) (o : Outlet) (parcel : Parcel) (stamp : ℕ) (frame : Framed) (entry effects : ℕ)
    → waiting (o.port.trunk, o.port.peer) o.entry o.effects es ≡ (stamp, frame) ∷ waiting (o.port.trunk, o.port.peer) entry effects es
    → parcel.stamp ≡ stamp → parcel.bytes ≡ frame.bytes → (o.port.outbox ≡ [] → o.port.begun ≡ 0)
    → Puts es o (record { port = sending o.port parcel; entry = entry; effects = effects }) 0
puts_staged es o parcel stamp frame entry effects next stamp_is bytes_are begun =
    let rest = waiting (o.port.trunk, o.port.peer) entry effects es in
    let same : said parcel ≡ framed_said (stamp, frame) = λ i. (stamp_is i, bytes_are i) in
    puts_kept es o (o.port.outbox ++ parcel ∷ []) entry effects
    (ap (λ l. map said o.port.outbox ++ map framed_said l) next
    ∙ ap (λ x. map said o.port.outbox ++ (x ∷ map framed_said rest)) (sym same)
    ∙ sym (append_assoc (map said o.port.outbox) (said parcel ∷ []) (map framed_said rest))
    ∙ ap (λ l. l ++ map framed_said rest) (sym (map-append said o.port.outbox (parcel ∷ []))))
    (begun_same parcel o.port.begun o.port.outbox begun)

-- nothing waits behind the last entry that was looked at
pub puts_past : (es : List Entry) (o : Outlet) (entry : ℕ)
    → waiting (o.port.trunk, o.port.peer) o.entry o.effects es ≡ waiting (o.port.trunk, o.port.peer) entry 0 es
    → Puts es o (record { port = o.port; entry = entry; effects = 0 }) 0
puts_past es o entry same = puts_kept es o o.port.outbox entry 0 (ap (λ l. map said o.port.outbox ++ map framed_said l) same) refl

snoc_is_some : (parcels : List Parcel) (parcel : Parcel) → parcels ++ parcel ∷ [] ≡ [] → ⊥
snoc_is_some [] parcel h = cc
snoc_is_some (x ∷ xs) parcel h = cc

nothing_waits : (es : List Entry) (o : Outlet) → waiting (o.port.trunk, o.port.peer) o.entry o.effects es ≡ [] → o.port.outbox ≡ []
    → waits es o ≡ []
nothing_waits es o none idle = ap (λ l. map said l ++ map framed_said (waiting (o.port.trunk, o.port.peer) o.entry o.effects es)) idle
    ∙ ap (λ l. map framed_said l) none

-- ---- a piece of the first of the outbox is put

pub puts_one : (es : List Entry) (o : Outlet) (outbox : List Parcel) → o.port.outbox ≡ outbox → (outbox ≡ [] → ⊥)
    → Puts es o (record o { port = flushed o.port outbox }) 1
puts_one es o [] is some = absurd (some refl)
puts_one es o (first ∷ rest) is some = go (nat_lt (o.port.begun + o.port.greatest) (length first.bytes)) refl
  where
    k : ℕ
    k = o.port.begun

    n : ℕ
    n = o.port.greatest

    pieces : List PieceSeen
    pieces = o.port.pieces ++ next_piece o.port first ∷ []

    begun : (m : ℕ) → begun_marks m o.port.outbox ≡ marked first.stamp (take m first.bytes)
    begun m = ap (λ l. begun_marks m l) is

    next : begun_marks k o.port.outbox ++ marks_of (next_piece o.port first ∷ []) ≡ marked first.stamp (take (k + n) first.bytes)
    next = ap (λ l. l ++ marks_of (next_piece o.port first ∷ [])) (begun k)
        ∙ ap (λ l. marked first.stamp (take k first.bytes) ++ l) (append-nil (marked first.stamp (take n (drop k first.bytes))))
        ∙ sym (marked_append first.stamp (take k first.bytes) (take n (drop k first.bytes)))
        ∙ ap (marked first.stamp) (take_more k n first.bytes)

    all : nat_lt (k + n) (length first.bytes) ≡ false → take (k + n) first.bytes ≡ first.bytes
    all last = take_all (k + n) first.bytes (ltb-false (k + n) (length first.bytes) last)

    go : (is_part : Bool) → nat_lt (k + n) (length first.bytes) ≡ is_part
        → Puts es o (record o {
          port = if is_part then record o.port { pieces = pieces; begun = k + n } else record o.port
              { pieces = pieces; begun = 0; put = o.port.put ++ first ∷ []; outbox = rest };
        }) 1
    go true part = record {
      trunk = refl;
      peer = refl;
      taken = refl;
      slot = refl;
      gathered = refl;
      greatest = refl;
      cut = next_piece o.port first ∷ [];
      many = refl;
      pieces = refl;
      moved = [];
      few = omega arith;
      put = sym (append-nil o.port.put);
      waited = refl;
      bytes = next ∙ sym (begun (k + n));
    }
    go false last = record {
      trunk = refl;
      peer = refl;
      taken = refl;
      slot = refl;
      gathered = refl;
      greatest = refl;
      cut = next_piece o.port first ∷ [];
      many = refl;
      pieces = refl;
      moved = first ∷ [];
      few = omega arith;
      put = refl;
      waited = ap (λ l. map said l ++ map framed_said (waiting (o.port.trunk, o.port.peer) o.entry o.effects es)) is;
      bytes = next ∙ ap (marked first.stamp) (all last) ∙ sym (append-nil (marked first.stamp first.bytes))
          ∙ sym (append-nil (marks_of_parcels (first ∷ [])))
          ∙ ap (λ l. marks_of_parcels (first ∷ []) ++ l) (sym (none_begun rest));
    }

-- ---- the outlet of a connection

with_set : (trunk : TrunkId) (k : ℕ) (os : List Outlet) (new : Outlet) → IsFirst trunk k os → set os k new ≡ with_outlet trunk new os
with_set trunk k [] new h = absurd h
with_set trunk zero (o ∷ os) new h = ap (λ b. cond b (new ∷ os) (o ∷ with_outlet trunk new os)) (sym h)
with_set trunk (suc k) (o ∷ os) new h =
    ap (λ l. o ∷ l) (with_set trunk k os new h.1) ∙ ap (λ b. cond b (new ∷ os) (o ∷ with_outlet trunk new os)) (sym h.0)

pub at_outlet : (trunk : TrunkId) (Becomes : Outlet → Outlet → Type 0) (k : ℕ) (os : List Outlet) (old new : Outlet) → IsFirst trunk k os
    → old ≡ get_or os k old → Becomes old new → AtOutlet trunk Becomes os (set os k new)
at_outlet trunk Becomes k os old new first is so =
    (old, new, first_is trunk k os old first ∙ ap (λ (o : Outlet). Some o) (sym is), so, with_set trunk k os new first)

-- ---- as the code tells it

pub puts_same : (es : List Entry) (o : Outlet) (port : PortSeen) → port ≡ o.port → Puts es o (record o { port = port }) 0
puts_same es o port is = subst (λ x. Puts es o (record o { port = x }) 0) (sym is) (puts_none es o)

module _ (es : List Entry) (o : Outlet) (t : TrunkId) (x : List ℕ) (trunk : t ≡ o.port.trunk) (peer : x ≡ o.port.peer) where
  pub puts_staged_at : (o.port.outbox ≡ [] → o.port.begun ≡ 0)
      → (port : PortSeen) (parcel : Parcel) (stamp : ℕ) (frame : Framed) (entry effects : ℕ)
      → waiting (t, x) o.entry o.effects es ≡ (stamp, frame) ∷ waiting (t, x) entry effects es
      → parcel.stamp ≡ stamp → parcel.bytes ≡ frame.bytes → port ≡ sending o.port parcel
      → Puts es o (record { port = port; entry = entry; effects = effects }) 0
  puts_staged_at begun port parcel stamp frame entry effects h s b is =
      subst (λ y. Puts es o (record { port = y; entry = entry; effects = effects }) 0) (sym is)
      (puts_staged es o parcel stamp frame entry effects
      (at_port es o t x trunk peer _ h
      ∙ ap (λ (way : Way). (stamp, frame) ∷ waiting way entry effects es) (λ i. (trunk i, peer i))) s b begun)

  pub puts_past_at : waiting (t, x) o.entry o.effects es ≡ [] → Puts es o (record o { entry = length es; effects = 0 }) 0
  puts_past_at h = puts_past es o (length es) (at_port es o t x trunk peer [] h ∙ sym (none_behind (o.port.trunk, o.port.peer) es))

pub staged_waits : (o : Outlet) (port : PortSeen) (parcel : Parcel) → port ≡ sending o.port parcel → port.outbox ≡ [] → ⊥
staged_waits o port parcel is empty = snoc_is_some o.port.outbox parcel (sym (ap (λ (p : PortSeen). p.outbox) is) ∙ empty)

pub past_waits : (es : List Entry) (o : Outlet) → o.port.outbox ≡ [] → waits es (record o { entry = length es; effects = 0 }) ≡ []
past_waits es o idle = nothing_waits es (record o { entry = length es; effects = 0 }) (none_behind (o.port.trunk, o.port.peer) es) idle

pub some_waits : (outbox : List Parcel) (b : Bool) → b ≡ is_none (first_of outbox) → b ≡ false → outbox ≡ [] → ⊥
some_waits [] b is not_idle h = cc
some_waits (x ∷ xs) b is not_idle h = cc

-- the first of what waits is put, if there is room
module _ (es : List Entry) (o mid : Outlet) (port : PortSeen) (p : Puts es o mid 0) (r : Moved) where
  abbrev after : Outlet
  after = record mid { port = port }

  pub one_put : (r ≡ Ok true → port ≡ flushed mid.port mid.port.outbox) → (r ≡ Ok true → mid.port.outbox ≡ [] → ⊥)
      → r ≡ Ok true → Puts es o after 1
  one_put put some is = puts_both es o mid after 0 1 p
      (subst (λ x. Puts es mid (record mid { port = x }) 1) (sym (put is)) (puts_one es mid mid.port.outbox refl (some is)))

  pub none_put : port ≡ mid.port → Puts es o after 0
  none_put same = puts_both es o mid after 0 0 p (puts_same es mid port same)

  pub still : (mid.port.outbox ≡ [] → waits es mid ≡ []) → (r ≡ Ok false → port ≡ mid.port)
      → (r ≡ Ok false → (mid.port.outbox ≡ []) ⊎ EndsFull mid.port.pieces)
      → r ≡ Ok false → Puts es o after 0 × IsStill es after
  still ready unchanged full is =
      let same = unchanged is in (
        none_put same,
        elim (full is) [
          | inl empty ↦ inl (subst (λ x. waits es (record mid { port = x }) ≡ []) (sym same) (ready empty))
          | inr ends ↦ inr (subst (λ (x : PortSeen). EndsFull x.pieces) (sym same) ends)
        ],
      )

  pub none_put_err : OnErr r (port ≡ mid.port) → OnErr r (Puts es o after 0)
  none_put_err = go r
    where
      go : (x : Moved) → OnErr x (port ≡ mid.port) → OnErr x (Puts es o after 0)
      go (Ok b) h = tt
      go (Err e) h = none_put h

-- ---- a piece is taken, or nothing has changed

pub taken_one : (o : Outlet) (port : PortSeen) (r : Moved) → (r ≡ Ok true → Fetches o.port port)
    → (r ≡ Ok true → o.port.slot ≡ []) → r ≡ Ok true
    → Takes o (record o { port = port })
taken_one o port r taken empty is = (port, empty is, taken is, refl)

pub unchanged_err : (o : Outlet) (port : PortSeen) (r : Moved) → OnErr r (port ≡ o.port)
    → OnErr r (◌≡◌ {A = Outlet} (record o { port = port }) o)
unchanged_err o port (Ok b) h = tt
unchanged_err o port (Err e) h = ap (λ (p : PortSeen). record o { port = p }) h

-- ---- as a book tells it

pub on_err : {X E P : Type 0} (r : Result X E) → P → OnErr r P
on_err (Ok x) h = tt
on_err (Err e) h = h

pub ok_is : {A : Type 0} (a b : A) → ◌≡◌ {A = Result A Refusal} (Ok a) (Ok b) → ◌≡◌ {A = Result A AllocError} (Ok a) (Ok b)
ok_is a b h = cc

pub nowhere : (trunk : TrunkId) (seen : BookSeen) (outlets os' : List Outlet) → outlets ≡ seen.outlets → os' ≡ outlets
    → None ≡ position (λ o. eq_by_cmp trunk_cmp trunk o.port.trunk) os' → outlet_of trunk seen.outlets ≡ None
nowhere trunk seen outlets os' view same none =
    none_is trunk seen.outlets
    (ap (λ l. position (λ (o : Outlet). eq_by_cmp trunk_cmp trunk o.port.trunk) l) (sym (same ∙ view)) ∙ sym none)

module _ (trunk : TrunkId) (seen : BookSeen) (history : History) (outlets os' : List Outlet) (es : List Entry) (k : ℕ) (old new : Outlet)
    (history_is : history ≡ seen.history) (outlets_are : outlets ≡ seen.outlets) (same : os' ≡ outlets)
    (there : Some k ≡ position (λ o. eq_by_cmp trunk_cmp trunk o.port.trunk) os') (is : old ≡ get_or outlets k old)
    (entries : es ≡ history.entries.items) where
  pub moved_at : (Becomes : Outlet → Outlet → Type 0) → Becomes old new → AtOutlet trunk Becomes seen.outlets (set outlets k new)
  moved_at Becomes h =
      subst (λ os. AtOutlet trunk Becomes os (set outlets k new)) outlets_are
      (at_outlet trunk Becomes k outlets old new (found_first trunk outlets os' k same there) is h)

  of_book : es ≡ seen.history.entries.items
  of_book = entries ∙ ap (λ (h : History). h.entries.items) history_is

  pub puts_at : (count : ℕ) → Puts es old new count
      → AtOutlet trunk (λ o n. Puts seen.history.entries.items o n count) seen.outlets (set outlets k new)
  puts_at count h = moved_at (λ o n. Puts seen.history.entries.items o n count) (subst (λ l. Puts l old new count) of_book h)

  pub still_at : IsStill es new → AtOutlet trunk (λ o n. IsStill seen.history.entries.items n) seen.outlets (set outlets k new)
  still_at h = moved_at (λ o n. IsStill seen.history.entries.items n) (subst (λ l. IsStill l new) of_book h)
