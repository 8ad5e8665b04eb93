-- How long pieces may be is set at all ends of connections.
use Rattle.std.proofs.Common.{◌≡◌, ℕ, zero, suc, ◌+◌, ◌<◌, Bool, true, false, Option, None, Some, List, [], ◌∷◌}
use Rattle.std.proofs.Common.{◌++◌, drop, get_or, if◌then◌else◌, length, map, set, take, refl, sym, ap, ◌∙◌, arith}
use Rattle.std.specs.Ordering.{eq_by_cmp}
use Rattle.dist_books.specs.Books.{Port}
use Rattle.dist_model.specs.Names.{Name}
use Rattle.erl_names.specs.Order.{trunk_cmp}
use Rattle.erl_names.specs.declared.trunk.TrunkId.{TrunkId}
use Rattle.node_history.specs.declared.entry.Entry.{Entry}
use Rattle.node_history.specs.declared.history.History.{History}
use Rattle.node_lock.specs.Passing.{with_piece}
use Rattle.node_lock.proofs.Places.{apart_in_pieces}
use Rattle.node_lock.specs.Standing.{FeedsAt, IsBook, outlet_of}
use Rattle.node_lock.specs.declared.outlet.Outlet.{Outlet}
use Rattle.erl_handshake.specs.declared.setup.Setup.{Setup}

-- ---- one after the other

module _ {A : Type 0} (f : A → A) where
  at_suc : (l : List A) (k : ℕ) (x : A) (m : List A) → m ≡ map f (take k l) ++ drop k l → k < length l → x ≡ get_or m k x
      → set m k (f x) ≡ map f (take (suc k) l) ++ drop (suc k) l
  at_suc [] k x m e h is = absurd (omega arith)
  at_suc (y ∷ l) zero x m e h is =
      let same : x ≡ y = is ∙ ap (λ n. get_or n 0 x) e in
      ap (λ n. set n 0 (f x)) e ∙ ap (λ z. f z ∷ l) same
  at_suc (y ∷ l) (suc k) x [] e h is = absurd cc
  at_suc (y ∷ l) (suc k) x (z ∷ m) e h is =
      let first : z ≡ f y = cc in
      let rest : m ≡ map f (take k l) ++ drop k l = cc in
      (λ i. first i ∷ set m k (f x)) ∙ ap (λ n. f y ∷ n) (at_suc l k x m rest (omega arith) is)

  pub set_next : (l m : List A) (k : ℕ) (x : A) → m ≡ map f (take k l) ++ drop k l → k < length l → x ≡ get_or m k x
      → set m k (f x) ≡ map f (take (k + 1) l) ++ drop (k + 1) l
  set_next l m k x e h is =
      let more : suc k ≡ k + 1 = omega arith in at_suc l k x m e h is ∙ ap (λ n. map f (take n l) ++ drop n l) more

  pub all_set : (l m : List A) (k : ℕ) → m ≡ map f (take k l) ++ drop k l → length l ≡ k → m ≡ map f l
  all_set l m k e h = e ∙ ap (λ n. map f (take n l) ++ drop n l) (sym h) ∙ whole l
    where
      whole : (l : List A) → map f (take (length l) l) ++ drop (length l) l ≡ map f l
      whole [] = refl
      whole (y ∷ l) = ap (λ n. f y ∷ n) (whole l)

-- ---- a book of which pieces may have another length

module _ (greatest : ℕ) (t : TrunkId) (es : List Entry) where
  fed : (o : Outlet) (p : Option Port) → FeedsAt t es (Some o) p → FeedsAt t es (Some (with_piece greatest o)) p
  fed o None h = absurd h
  fed o (Some p) h = record {
    staged = h.staged;
    rest = h.rest;
    port_is = h.port_is;
    stands = record { peer = h.stands.peer; put = h.stands.put; outbox = h.stands.outbox; taken = h.stands.taken; slot = h.stands.slot };
    trunk_is = h.trunk_is;
    to_come = h.to_come;
    place = h.place;
  }

  all_fed : (os : List Outlet) (p : Option Port) → FeedsAt t es (outlet_of t os) p
      → FeedsAt t es (outlet_of t (map (with_piece greatest) os)) p
  all_fed [] p h = h
  all_fed (o ∷ os) p h = go (λ k. all_fed os p k) (eq_by_cmp trunk_cmp t o.port.trunk) h
    where
      go : (FeedsAt t es (outlet_of t os) p → FeedsAt t es (outlet_of t (map (with_piece greatest) os)) p) → (b : Bool)
          → FeedsAt t es (if b then Some o else outlet_of t os) p
          → FeedsAt t es (if b then Some (with_piece greatest o) else outlet_of t (map (with_piece greatest) os)) p
      go others true k = fed o p k
      go others false k = others k

pub pieces_kept : (greatest : ℕ) (names : List Name) (place : ℕ) (setup : Setup) (history : History) (outlets : List Outlet)
    → IsBook names place setup history outlets → IsBook names place setup history (map (with_piece greatest) outlets)
pieces_kept greatest names place setup history outlets kept = (
  kept.0,
  λ nodes a.
      let s = kept.1 nodes a in
      record {
        book = s.book;
        is = record {
          node = s.is.node;
          last = s.is.last;
          entries = s.is.entries;
          ports = λ t. all_fed greatest t history.entries.items outlets (s.book.ports t) (s.is.ports t);
        };
        follows = s.follows;
      },
  apart_in_pieces greatest outlets kept.2,
)
