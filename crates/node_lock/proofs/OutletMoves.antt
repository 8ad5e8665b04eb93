-- What moves at an outlet: into its outbox, onto its wire, and off its other wire.
use Rattle.std.proofs.Common.{◌≡◌, ℕ, ◌+◌, ◌<◌, Bool, true, false, Result, Ok, Err, OnErr, List, [], ◌∷◌, ◌++◌}
use Rattle.std.proofs.Common.{if◌then◌else◌, inl, inr, length, nat_lt, refl, sym, ap, ◌∙◌, subst, append_assoc, append-nil}
use Rattle.std.specs.declared.alloc.AllocError.{AllocError}
use Rattle.dist_books.specs.Books.{Port, Stamped}
use Rattle.dist_books.specs.Growing.{Shifts}
use Rattle.erl_names.specs.declared.trunk.TrunkId.{TrunkId}
use Rattle.node_history.specs.declared.entry.Entry.{Entry}
use Rattle.node_lock.proofs.Ways.{none_behind}
use Rattle.node_lock.specs.Feeding.{Fed, FeedsShifted, KeepsFeeding}
use Rattle.node_lock.specs.Standing.{Feeds}
use Rattle.node_lock.specs.Waiting.{AreFramesOf, IsFrameOf, waiting}
use Rattle.node_lock.specs.declared.outlet.Outlet.{Outlet}
use Rattle.node_frames.specs.Frames.{Framed}
use Rattle.wire_core.specs.Fetching.{Fetches}
use Rattle.wire_core.specs.Ports.{PortSeen, flushed, next_piece, sending}
use Rattle.wire_core.specs.Standing.{FetchShifts, FlushShifts, ShiftsTo}
use Rattle.wire_core.proofs.SameItems.{carry_snoc}
use Rattle.wire_core.specs.Pieces.{PieceSeen}
use Rattle.wire_core.specs.Spellings.{SpellsItem}
use Rattle.wire_core.specs.declared.parcel.Parcel.{Parcel}

-- ---- the port moves, and the place stays

module _ (t : TrunkId) (es : List Entry) (o : Outlet) (p : Port) (f : Feeds t es o p) (new : PortSeen)
    (trunk : new.trunk ≡ o.port.trunk) (peer : new.peer ≡ o.port.peer) where
  pub shifted : ShiftsTo new f.staged → FeedsShifted t es (record o { port = new }) p
  shifted h =
      let n = h.next in
      let g = h.shifts in
      let q : Port = record f.staged { outbox = f.staged.outbox ++ f.rest } in
      record {
        next = record n { outbox = n.outbox ++ f.rest };
        feeds = record {
          staged = n;
          rest = f.rest;
          port_is = refl;
          stands = h.stands;
          trunk_is = trunk ∙ f.trunk_is;
          to_come = subst (λ x. AreFramesOf (waiting (t, x) o.entry o.effects es) f.rest) (sym peer) f.to_come;
          place = f.place;
        };
        shifts = subst (λ (r : Port). Shifts r (record n { outbox = n.outbox ++ f.rest })) (sym f.port_is) (record {
          peer = g.peer;
          out = sym (append_assoc n.put n.outbox f.rest) ∙ ap (λ l. l ++ f.rest) g.out ∙ append_assoc f.staged.put f.staged.outbox f.rest;
          more = g.more;
          taken = g.taken;
          slot = g.slot;
        });
      }

flushed_trunk : (seen : PortSeen) (waiting : List Parcel) → ((flushed seen waiting).trunk ≡ seen.trunk)
    × ((flushed seen waiting).peer ≡ seen.peer)
flushed_trunk seen [] = (refl, refl)
flushed_trunk seen (x ∷ xs) = go (nat_lt (seen.begun + seen.greatest) (length x.bytes))
  where
    pieces : List PieceSeen
    pieces = seen.pieces ++ next_piece seen x ∷ []

    go : (is_part : Bool)
        → ((if is_part then record seen { pieces = pieces; begun = seen.begun + seen.greatest } else record seen
        { pieces = pieces; begun = 0; put = seen.put ++ x ∷ []; outbox = xs }).trunk ≡ seen.trunk)
        × ((if is_part then record seen { pieces = pieces; begun = seen.begun + seen.greatest } else record seen
        { pieces = pieces; begun = 0; put = seen.put ++ x ∷ []; outbox = xs }).peer ≡ seen.peer)
    go true = (refl, refl)
    go false = (refl, refl)

pub flush_keeps : FlushShifts → (es : List Entry) (o : Outlet) → KeepsFeeding es o (record o { port = flushed o.port o.port.outbox })
flush_keeps law es o t p f =
    let w = flushed_trunk o.port o.port.outbox in
    shifted t es o p f (flushed o.port o.port.outbox) w.0 w.1 (law o.port f.staged f.stands)

fetched_trunk : (old new : PortSeen) → Fetches old new → (new.trunk ≡ old.trunk) × (new.peer ≡ old.peer)
fetched_trunk old new f = elim f.comes [
  | inl e ↦ (ap (λ (p : PortSeen). p.trunk) e.becomes, ap (λ (p : PortSeen). p.peer) e.becomes)
  | inr g ↦ (ap (λ (p : PortSeen). p.trunk) g.becomes, ap (λ (p : PortSeen). p.peer) g.becomes)
]

pub fetch_keeps : FetchShifts → (es : List Entry) (o : Outlet) (new : PortSeen) → Fetches o.port new
    → KeepsFeeding es o (record o { port = new })
fetch_keeps law es o new h t p f = let w = fetched_trunk o.port new h in shifted t es o p f new w.0 w.1 (law o.port new f.staged h f.stands)

pub nothing_keeps : (es : List Entry) (o : Outlet) → KeepsFeeding es o o
nothing_keeps es o t p f =
    record {
      next = p;
      feeds = f;
      shifts = record { peer = refl; out = refl; more = []; taken = sym (append-nil p.taken); slot = sym (append-nil p.slot) };
    }

pub both_keep : (es : List Entry) (o n m : Outlet) → KeepsFeeding es o n → KeepsFeeding es n m → KeepsFeeding es o m
both_keep es o n m a b t p f =
    let x = a t p f in
    let y = b t x.next x.feeds in
    let g = x.shifts in
    let h = y.shifts in
    record {
      next = y.next;
      feeds = y.feeds;
      shifts = record {
        peer = h.peer ∙ g.peer;
        out = h.out ∙ g.out;
        more = g.more ++ h.more;
        taken = h.taken ∙ ap (λ l. l ++ h.more) g.taken ∙ append_assoc p.taken g.more h.more;
        slot = h.slot ∙ ap (λ l. l ++ h.more) g.slot ∙ append_assoc p.slot g.more h.more;
      };
    }

-- ---- what the history sent next comes into the outbox

first_item : (frame : ℕ × Framed) (fs : List (ℕ × Framed)) (rest : List Stamped) → AreFramesOf (frame ∷ fs) rest
    → (x : Stamped) × (xs : List Stamped) × (rest ≡ x ∷ xs) × IsFrameOf frame x × AreFramesOf fs xs
first_item frame fs [] h = absurd h
first_item frame fs (x ∷ xs) h = (x, xs, refl, h.0, h.1)

pub staged_keeps : (es : List Entry) (o : Outlet) (parcel : Parcel) (stamp : ℕ) (frame : Framed) (entry effects : ℕ)
    → waiting (o.port.trunk, o.port.peer) o.entry o.effects es ≡ (stamp, frame) ∷ waiting (o.port.trunk, o.port.peer) entry effects es
    → parcel.stamp ≡ stamp → parcel.bytes ≡ frame.bytes → entry < length es
    → KeepsFeeding es o (record { port = sending o.port parcel; entry = entry; effects = effects })
staged_keeps es o parcel stamp frame entry effects next stamp_is bytes_are within t p f =
    let S = f.staged in
    let there : waiting (t, o.port.peer) o.entry o.effects es ≡ (stamp, frame) ∷ waiting (t, o.port.peer) entry effects es =
    subst
    (λ u. waiting (u, o.port.peer) o.entry o.effects es ≡ (stamp, frame) ∷ waiting (u, o.port.peer) entry effects es) f.trunk_is next in
    let g =
    first_item (stamp, frame) (waiting (t, o.port.peer) entry effects es) f.rest
    (subst (λ fs. AreFramesOf fs f.rest) there f.to_come) in
    let x = g.0 in
    let xs = g.1 in
    let is = g.3 in
    record {
      next = p;
      feeds = record {
        staged = record S { outbox = S.outbox ++ x ∷ [] };
        rest = xs;
        port_is = f.port_is ∙ ap (λ (l : List Stamped). record S { outbox = S.outbox ++ l }) g.2
            ∙ ap (λ (l : List Stamped). record S { outbox = l }) (sym (append_assoc S.outbox (x ∷ []) xs));
        stands = record {
          peer = f.stands.peer;
          put = f.stands.put;
          outbox = carry_snoc o.port.outbox S.outbox parcel x f.stands.outbox
              (record { stamp = stamp_is ∙ is.stamp; bytes = bytes_are ∙ ap (λ (y : Framed). y.bytes) is.frame_is; spelled = is.spelled });
          taken = f.stands.taken;
          slot = f.stands.slot;
        };
        trunk_is = f.trunk_is;
        to_come = g.4;
        place = inl within;
      };
      shifts = record { peer = refl; out = refl; more = []; taken = sym (append-nil p.taken); slot = sym (append-nil p.slot) };
    }

-- nothing more was sent
pub passed_keeps : (es : List Entry) (o : Outlet) → waiting (o.port.trunk, o.port.peer) o.entry o.effects es ≡ []
    → KeepsFeeding es o (record o { entry = length es; effects = 0 })
passed_keeps es o none t p f =
    let there : waiting (t, o.port.peer) o.entry o.effects es ≡ [] =
    subst (λ u. waiting (u, o.port.peer) o.entry o.effects es ≡ []) f.trunk_is none in
    record {
      next = p;
      feeds = record {
        staged = f.staged;
        rest = f.rest;
        port_is = f.port_is;
        stands = f.stands;
        trunk_is = f.trunk_is;
        to_come = subst (λ fs. AreFramesOf fs f.rest) (there ∙ sym (none_behind (t, o.port.peer) es)) f.to_come;
        place = inr (refl, refl);
      };
      shifts = record { peer = refl; out = refl; more = []; taken = sym (append-nil p.taken); slot = sym (append-nil p.slot) };
    }

-- ---- what is sent next is an item's

pub next_spells : (es : List Entry) (o : Outlet) (stamp : ℕ) (frame : Framed) (rest : List (ℕ × Framed)) → Fed es o
    → waiting (o.port.trunk, o.port.peer) o.entry o.effects es ≡ (stamp, frame) ∷ rest → SpellsItem frame.bytes
next_spells es o stamp frame rest fed next =
    let t = fed.0 in
    let f = fed.2 in
    let there : waiting (t, o.port.peer) o.entry o.effects es ≡ (stamp, frame) ∷ rest =
    subst (λ u. waiting (u, o.port.peer) o.entry o.effects es ≡ (stamp, frame) ∷ rest) f.trunk_is next in
    let g = first_item (stamp, frame) rest f.rest (subst (λ fs. AreFramesOf fs f.rest) there f.to_come) in
    record { item = g.0.1; spelled = g.3.spelled; written = sym (ap (λ (y : Framed). y.bytes) g.3.frame_is) }

pub fed_after : (es : List Entry) (o n : Outlet) → Fed es o → KeepsFeeding es o n → Fed es n
fed_after es o n fed keeps = let f = keeps fed.0 fed.1 fed.2 in (fed.0, f.next, f.feeds)

-- ---- as the code tells it

abbrev pub Moved : Type 0
Moved = Result Bool AllocError

pub same_keeps : (es : List Entry) (o : Outlet) (port : PortSeen) → port ≡ o.port → KeepsFeeding es o (record o { port = port })
same_keeps es o port is = subst (λ x. KeepsFeeding es o (record o { port = x })) (sym is) (nothing_keeps es o)

pub fetched_keeps : FetchShifts → (es : List Entry) (o : Outlet) (port : PortSeen) (r : Moved)
    → (r ≡ Ok true → Fetches o.port port) → (r ≡ Ok false → port ≡ o.port) → OnErr r (port ≡ o.port)
    → KeepsFeeding es o (record o { port = port })
fetched_keeps law es o port (Ok true) taken none err = fetch_keeps law es o port (taken refl)
fetched_keeps law es o port (Ok false) taken none err = same_keeps es o port (none refl)
fetched_keeps law es o port (Err e) taken none err = same_keeps es o port err

pub flushed_keeps : FlushShifts → (es : List Entry) (o : Outlet) (port : PortSeen) (r : Moved)
    → (r ≡ Ok true → port ≡ flushed o.port o.port.outbox) → (r ≡ Ok false → port ≡ o.port) → OnErr r (port ≡ o.port)
    → KeepsFeeding es o (record o { port = port })
flushed_keeps law es o port (Ok true) put none err =
    subst (λ x. KeepsFeeding es o (record o { port = x })) (sym (put refl)) (flush_keeps law es o)
flushed_keeps law es o port (Ok false) put none err = same_keeps es o port (none refl)
flushed_keeps law es o port (Err e) put none err = same_keeps es o port err

module _ (es : List Entry) (o : Outlet) (t : TrunkId) (x : List ℕ) (trunk : t ≡ o.port.trunk) (peer : x ≡ o.port.peer) where
  pub at_port : (l : List (ℕ × Framed)) → waiting (t, x) o.entry o.effects es ≡ l
      → waiting (o.port.trunk, o.port.peer) o.entry o.effects es ≡ l
  at_port l h =
      subst (λ u. waiting (u, o.port.peer) o.entry o.effects es ≡ l) trunk (subst (λ y. waiting (t, y) o.entry o.effects es ≡ l) peer h)

  pub piece_at : (stamp : ℕ) (frame : Framed) (rest : List (ℕ × Framed)) → Fed es o
      → waiting (t, x) o.entry o.effects es ≡ (stamp, frame) ∷ rest → SpellsItem frame.bytes
  piece_at stamp frame rest fed h = next_spells es o stamp frame rest fed (at_port ((stamp, frame) ∷ rest) h)

  pub passed_at : waiting (t, x) o.entry o.effects es ≡ [] → KeepsFeeding es o (record o { entry = length es; effects = 0 })
  passed_at h = passed_keeps es o (at_port [] h)

  pub staged_at : (port : PortSeen) (parcel : Parcel) (stamp : ℕ) (frame : Framed) (entry effects : ℕ)
      → waiting (t, x) o.entry o.effects es ≡ (stamp, frame) ∷ waiting (t, x) entry effects es
      → parcel.stamp ≡ stamp → parcel.bytes ≡ frame.bytes → entry < length es → port ≡ sending o.port parcel
      → KeepsFeeding es o (record { port = port; entry = entry; effects = effects })
  staged_at port parcel stamp frame entry effects h s b within is =
      let there =
      subst (λ u. waiting (u, o.port.peer) o.entry o.effects es ≡ (stamp, frame) ∷ waiting (u, o.port.peer) entry effects es) trunk
      (subst (λ y. waiting (t, y) o.entry o.effects es ≡ (stamp, frame) ∷ waiting (t, y) entry effects es) peer h) in
      subst (λ y. KeepsFeeding es o (record { port = y; entry = entry; effects = effects })) (sym is)
      (staged_keeps es o parcel stamp frame entry effects there s b within)
