-- Nodes by their numbers and names, and books by their numbers.
use Rattle.std.proofs.Common.{◌≡◌, ℕ, zero, suc, ◌<◌, ◌≤◌, Bool, true, false, Some, List, [], ◌∷◌, ◌⊎◌, inl}
use Rattle.std.proofs.Common.{inr, if◌then◌else◌, map, length, refl, sym, ap, ◌∙◌, subst, arith, slice_index_or}
use Rattle.std.proofs.lemmas.Bool.Decides.{leb_tells}
use Rattle.std.proofs.lemmas.List.Elements.{All-nil}
use Rattle.dist_books.specs.Acting.{Nodes, name_at, opened_at}
use Rattle.dist_books.specs.Books.{AllKept, AreDistinct, Book, Kept, NewBooksAreKept, book_at, new_book, no_book, number_of}
use Rattle.dist_model.proofs.Keys.{same_name_is, same_name_refl, same_name_true}
use Rattle.dist_model.specs.Names.{Name, same_name}
use Rattle.dist_model.specs.Runs.{new_node}
use Rattle.dist_model.specs.World.{node_of}
use Rattle.dist_books.specs.Acting.{nowhere}
use Rattle.erl_handshake.specs.declared.setup.Setup.{Setup}

pub in_or_out : (k n : ℕ) → (k < n) ⊎ (n ≤ k)
in_or_out k n = elim (leb_tells n k) [ inl h ↦ inr h.1 | inr h ↦ inl (let a = h.1 in omega arith) ]

past_end : {X : Type 0} (xs : List X) (k : ℕ) (d : X) → length xs ≤ k → slice_index_or xs k d ≡ d
past_end [] k d h = refl
past_end (x ∷ xs) zero d h = absurd (omega arith)
past_end (x ∷ xs) (suc k) d h = past_end xs k d (omega arith)

-- ---- names

number_below : (nodes : Nodes) (k : ℕ) (name : Name) → k < length nodes → name_at nodes k ≡ name → number_of nodes name ≤ k
number_below [] k name below is = absurd (omega arith)
number_below (x ∷ xs) k name below is = pick (same_name x.0 name) refl k below is (number_below xs)
  where
    pick : (b : Bool) → same_name x.0 name ≡ b → (k : ℕ) → k < length (x ∷ xs) → name_at (x ∷ xs) k ≡ name
        → ((j : ℕ) (y : Name) → j < length xs → name_at xs j ≡ y → number_of xs y ≤ j) → (if b then 0 else suc (number_of xs name)) ≤ k
    pick true same k below is rest = omega arith
    pick false same zero below is rest = absurd (let no : true ≡ false = sym (same_name_is x.0 name is) ∙ same in cc)
    pick false same (suc k) below is rest = let h = rest k name (omega arith) is in omega arith

-- a name is that of a node, or of none
abbrev pub IsKnown : Nodes → Name → Type 0
IsKnown nodes name = (number_of nodes name < length nodes) × (name_at nodes (number_of nodes name) ≡ name)

pub known_or_not : (nodes : Nodes) (name : Name) → IsKnown nodes name ⊎ (length nodes ≤ number_of nodes name)
known_or_not [] name = inr (omega arith)
known_or_not (x ∷ xs) name = pick (same_name x.0 name) refl (known_or_not xs name)
  where
    pick : (b : Bool) → same_name x.0 name ≡ b → IsKnown xs name ⊎ (length xs ≤ number_of xs name)
        → (((if b then 0 else suc (number_of xs name)) < length (x ∷ xs))
        × (name_at (x ∷ xs) (if b then 0 else suc (number_of xs name)) ≡ name))
        ⊎ (length (x ∷ xs) ≤ (if b then 0 else suc (number_of xs name)))
    pick true same rest = inl (omega arith, same_name_true x.0 name same)
    pick false same (inl h) = inl ((let a = h.0 in omega arith), h.1)
    pick false same (inr h) = inr (omega arith)

pub number_there : (nodes : Nodes) → AreDistinct nodes → (k : ℕ) → k < length nodes → number_of nodes (name_at nodes k) ≡ k
number_there nodes distinct k below = elim (known_or_not nodes (name_at nodes k)) [
  | inl h ↦ distinct (number_of nodes (name_at nodes k)) k h.0 below h.1
  | inr h ↦ absurd (let most = number_below nodes k (name_at nodes k) below refl in omega arith)
]

-- the opening world has each node
pub opened_there : (nodes : Nodes) → AreDistinct nodes → (k : ℕ) → k < length nodes
    → node_of (map (λ node. new_node node.0 node.1) nodes) (name_at nodes k) ≡ Some (opened_at nodes k)
opened_there [] distinct k below = absurd (omega arith)
opened_there (x ∷ xs) distinct zero below =
    ap (λ b. if b then Some (new_node x.0 x.1) else node_of (map (λ node. new_node node.0 node.1) xs) x.0) (same_name_refl x.0)
opened_there (x ∷ xs) distinct (suc k) below = pick (same_name x.0 (name_at xs k)) refl ∙ opened_there xs apart k (omega arith)
  where
    apart : AreDistinct xs
    apart i j a b same = let h : suc i ≡ suc j = distinct (suc i) (suc j) (omega arith) (omega arith) same in omega arith

    pick : (b : Bool) → same_name x.0 (name_at xs k) ≡ b
        → node_of (map (λ node. new_node node.0 node.1) (x ∷ xs)) (name_at xs k) ≡ node_of (map (λ node. new_node node.0 node.1) xs)
        (name_at xs k)
    pick true is = absurd (let h : 0 ≡ suc k = distinct 0 (suc k) (omega arith) below (same_name_true x.0 (name_at xs k) is) in omega arith)
    pick false is = ap (λ b. if b then Some (new_node x.0 x.1) else node_of (map (λ node. new_node node.0 node.1) xs) (name_at xs k)) is

-- ---- books

pub new_books_are_kept : NewBooksAreKept
new_books_are_kept nodes k = (
  [],
  record {
    history = refl;
    leads = refl;
    rise = refl;
    earlier = All-nil _;
    out = λ trunk peer. refl;
    into = λ trunk. refl;
    port = λ trunk. tt;
  },
)

-- nobody's book is kept too
nobody_kept : (nodes : Nodes) (k : ℕ) → length nodes ≤ k → Kept nodes k no_book
nobody_kept nodes k out =
    subst (λ (node : Name × Setup). Kept nodes k (new_book (new_node node.0 node.1))) (past_end nodes k nowhere out)
    (new_books_are_kept nodes k)

pub book_beyond : (nodes : Nodes) (books : List Book) → length books ≡ length nodes → (k : ℕ) → length nodes ≤ k → book_at books k ≡ no_book
book_beyond nodes books one_each k out = past_end books k no_book (omega (arith, one_each, out))

pub each_kept : (nodes : Nodes) (books : List Book) → length books ≡ length nodes → AllKept nodes books → (k : ℕ)
    → Kept nodes k (book_at books k)
each_kept nodes books one_each kept k = elim (in_or_out k (length nodes)) [
  | inl h ↦ kept k h
  | inr h ↦ subst (λ book. Kept nodes k book) (sym (book_beyond nodes books one_each k h)) (nobody_kept nodes k h)
]
