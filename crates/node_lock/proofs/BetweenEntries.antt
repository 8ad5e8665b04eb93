-- Between two entries parcels move, and ports come.
use Rattle.std.proofs.Common.{◌≡◌, ℕ, Bool, true, false, cond, Option, None, Some, List, [], ◌∷◌, ◌++◌, set, refl, sym, subst}
use Rattle.wire_core.proofs.SameItems.{nothing_more}
use Rattle.dist_books.specs.Acting.{Nodes, name_at, opened_at}
use Rattle.dist_books.specs.Books.{Book, Port, new_book}
use Rattle.dist_books.specs.Growing.{BooksRest, Comes, Moves, NewBooksFollow}
use Rattle.dist_model.proofs.Keys.{same_trunk, same_trunk_true}
use Rattle.dist_model.specs.Names.{Name}
use Rattle.erl_names.specs.declared.trunk.TrunkId.{TrunkId}
use Rattle.node_core.specs.Model.{model_of}
use Rattle.node_history.specs.declared.entry.Entry.{Entry}
use Rattle.node_history.specs.declared.history.History.{History}
use Rattle.node_lock.proofs.Places.{IsFirst, outlet_push, outlet_set}
use Rattle.node_lock.specs.Feeding.{KeepsFeeding}
use Rattle.node_lock.specs.Standing.{Feeds, FeedsAt, HasBook, TellEntries, outlet_of}
use Rattle.node_lock.specs.declared.outlet.Outlet.{Outlet}

moves_not : (own : Name) (t : TrunkId) (o : Option Port) → Moves own t o o
moves_not own t None = tt
moves_not own t (Some p) = nothing_more p

module _ (rest : BooksRest) (place : ℕ) (nodes : Nodes) (history : History) (outlets : List Outlet)
    (s : HasBook place history outlets nodes) where
  abbrev own : Name
  own = name_at nodes place

  abbrev es : List Entry
  es = history.entries.items

  abbrev next : (TrunkId → Option Port) → Book
  next ports = record { node = s.book.node; last = s.book.last; history = s.book.history; ports = ports }

  pub rested : (ports : TrunkId → Option Port) (outlets' : List Outlet) → ((t : TrunkId) → Moves own t (s.book.ports t) (ports t))
      → ((t : TrunkId) → FeedsAt t es (outlet_of t outlets') (ports t)) → HasBook place history outlets' nodes
  rested ports outlets' moves feeds = record {
    book = next ports;
    is = record { node = s.is.node; last = s.is.last; entries = s.is.entries; ports = feeds };
    follows = rest nodes place s.book (next ports) s.follows (record { node = refl; last = refl; history = refl; ports = moves });
  }

  -- ---- at one port

  module _ (trunk : TrunkId) (k : ℕ) (old new : Outlet) (first : IsFirst trunk k outlets) (there : outlet_of trunk outlets ≡ Some old)
      (keeps : KeepsFeeding es old new) where
    shifted_at : (o : Option Port) → FeedsAt trunk es (Some old) o → (n : Option Port) × Moves own trunk o n × FeedsAt trunk es (Some new) n
    shifted_at None h = absurd h
    shifted_at (Some p) h = let f = keeps trunk p h in (Some f.next, f.shifts, f.feeds)

    here : (n : Option Port) × Moves own trunk (s.book.ports trunk) n × FeedsAt trunk es (Some new) n
    here = shifted_at (s.book.ports trunk) (subst (λ o. FeedsAt trunk es o (s.book.ports trunk)) there (s.is.ports trunk))

    fed_trunk : (n : Option Port) → FeedsAt trunk es (Some new) n → new.port.trunk ≡ trunk
    fed_trunk None h = absurd h
    fed_trunk (Some q) h = h.trunk_is

    abbrev ports : TrunkId → Option Port
    ports t = cond (same_trunk t trunk) here.0 (s.book.ports t)

    moves : (t : TrunkId) (b : Bool) → same_trunk t trunk ≡ b → Moves own t (s.book.ports t) (cond b here.0 (s.book.ports t))
    moves t true is = subst (λ x. Moves own x (s.book.ports x) here.0) (sym (same_trunk_true t trunk is)) here.1
    moves t false is = moves_not own t (s.book.ports t)

    feeds : (t : TrunkId) (b : Bool) → same_trunk t trunk ≡ b
        → FeedsAt t es (cond b (Some new) (outlet_of t outlets)) (cond b here.0 (s.book.ports t))
    feeds t true is = subst (λ x. FeedsAt x es (Some new) here.0) (sym (same_trunk_true t trunk is)) here.2
    feeds t false is = s.is.ports t

    pub shifted : HasBook place history (set outlets k new) nodes
    shifted = rested ports (set outlets k new) (λ t. moves t (same_trunk t trunk) refl)
        (λ t. subst (λ o. FeedsAt t es o (ports t)) (sym (outlet_set t trunk k outlets new first (fed_trunk here.0 here.2)))
        (feeds t (same_trunk t trunk) refl))

  -- ---- a port comes, of a connection that another node has dialed

  module _ (new : Outlet) (p : Port) (none : outlet_of new.port.trunk outlets ≡ None) (comes : Comes own new.port.trunk p)
      (is : Feeds new.port.trunk es new p) where
    abbrev trunk : TrunkId
    trunk = new.port.trunk

    nothing : (o : Option Port) → FeedsAt trunk es None o → o ≡ None
    nothing None h = refl
    nothing (Some q) h = absurd h

    was_none : s.book.ports trunk ≡ None
    was_none = nothing (s.book.ports trunk) (subst (λ o. FeedsAt trunk es o (s.book.ports trunk)) none (s.is.ports trunk))

    abbrev with_port : TrunkId → Option Port
    with_port t = cond (same_trunk t trunk) (Some p) (s.book.ports t)

    comes_at : (t : TrunkId) (b : Bool) → same_trunk t trunk ≡ b → Moves own t (s.book.ports t) (cond b (Some p) (s.book.ports t))
    comes_at t true same =
        subst (λ x. Moves own x (s.book.ports x) (Some p)) (sym (same_trunk_true t trunk same))
        (subst (λ o. Moves own trunk o (Some p)) (sym was_none) comes)
    comes_at t false same = moves_not own t (s.book.ports t)

    feeds_new : (t : TrunkId) (b : Bool) → same_trunk t trunk ≡ b
        → FeedsAt t es (cond b (Some new) (outlet_of t outlets)) (cond b (Some p) (s.book.ports t))
    feeds_new t true same = subst (λ x. FeedsAt x es (Some new) (Some p)) (sym (same_trunk_true t trunk same)) is
    feeds_new t false same = s.is.ports t

    pub installed : HasBook place history (outlets ++ new ∷ []) nodes
    installed = rested with_port (outlets ++ new ∷ []) (λ t. comes_at t (same_trunk t trunk) refl)
        (λ t. subst (λ o. FeedsAt t es o (with_port t)) (sym (outlet_push t outlets new none)) (feeds_new t (same_trunk t trunk) refl))

-- ---- a new book

pub new_stands : (follow : NewBooksFollow) (place : ℕ) (nodes : Nodes) (history : History) → model_of history.node ≡ opened_at nodes place
    → history.last ≡ 0 → history.entries.items ≡ [] → HasBook place history [] nodes
new_stands follow place nodes history node last entries = record {
  book = new_book (opened_at nodes place);
  is = record {
    node = sym node;
    last = sym last;
    entries = subst (λ (l : List Entry). TellEntries (name_at nodes place) l []) (sym entries) tt;
    ports = λ t. tt;
  };
  follows = follow nodes place;
}
