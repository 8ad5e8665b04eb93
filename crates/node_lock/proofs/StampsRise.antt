-- The stamps of a book's entries rise, and so each is at most that of the last entry.
use Rattle.std.proofs.Common.{◌≡◌, ℕ, zero, suc, ◌<◌, ◌≤◌, List, [], ◌∷◌, map, length, Some, refl, ap, slice_get, slice_index_or, arith}
use Rattle.std.proofs.lemmas.Option.{same_Some, none-some}
use Rattle.dist_books.specs.Acting.{Nodes, name_at, names_of}
use Rattle.dist_books.specs.Books.{Rise}
use Rattle.dist_model.specs.Names.{Name}
use Rattle.dist_model.specs.World.{Event, Report}
use Rattle.dist_books.specs.Logs as merging
use Rattle.node_history.specs.declared.entry.Entry.{Entry}
use Rattle.node_history.specs.declared.history.History.{History}
use Rattle.node_lock.specs.Standing.{AreNodes, IsBook, TellEntries}
use Rattle.node_lock.specs.declared.outlet.Outlet.{Outlet}
use Rattle.dist_books.specs.Acting.{nowhere}
use Rattle.erl_handshake.specs.declared.setup.Setup.{Setup}

up_to_last : (from : ℕ) (of : List (merging.Entry Event Report)) (last : ℕ) → Rise from of last → from ≤ last
up_to_last from [] last h = omega (arith, h)
up_to_last from (entry ∷ rest) last h = let k = up_to_last entry.stamp rest last h.1 in omega (arith, h.0, k)

each_up_to : (own : Name) (from : ℕ) (entries : List Entry) (of : List (merging.Entry Event Report)) (last : ℕ)
    → TellEntries own entries of → Rise from of last → (k : ℕ) (entry : Entry) → slice_get entries k ≡ Some entry → entry.stamp ≤ last
each_up_to own from [] [] last t r k entry g = absurd (none-some entry g)
each_up_to own from [] (o ∷ os) last t r k entry g = absurd t
each_up_to own from (e ∷ es) [] last t r k entry g = absurd t
each_up_to own from (e ∷ es) (o ∷ os) last t r zero entry g =
    let is : e.stamp ≡ entry.stamp = ap (λ (x : Entry). x.stamp) (same_Some e entry g) in
    let told = t.0.stamp in
    let below = up_to_last o.stamp os last r.1 in
    omega (arith, is, told, below)
each_up_to own from (e ∷ es) (o ∷ os) last t r (suc k) entry g = each_up_to own o.stamp es os last t.1 r.1 k entry g

-- nodes of these names that all have one setup
abbrev of_one_setup : Setup → List Name → Nodes
of_one_setup setup names = map (λ name. (name, setup)) names

are_named : (setup : Setup) (names : List Name) → names_of (of_one_setup setup names) ≡ names
are_named setup [] = refl
are_named setup (name ∷ names) = ap (λ rest. name ∷ rest) (are_named setup names)

has_setup : (setup : Setup) (names : List Name) (place : ℕ) → place < length names
    → (slice_index_or (of_one_setup setup names) place nowhere).1 ≡ setup
has_setup setup [] place below = absurd (omega (arith, below))
has_setup setup (name ∷ names) zero below = refl
has_setup setup (name ∷ names) (suc k) below = has_setup setup names k (omega (arith, below))

pub stamps_rise : (names : List Name) (place : ℕ) (setup : Setup) (history : History) (outlets : List Outlet)
    → IsBook names place setup history outlets
    → (k : ℕ) (entry : Entry) → slice_get history.entries.items k ≡ Some entry → entry.stamp ≤ history.last
stamps_rise names place setup history outlets book k entry g =
    let nodes = of_one_setup setup names in
    let are : AreNodes names place setup nodes = record { named = are_named setup names; secret = has_setup setup names place book.0 } in
    let has = book.1 nodes are in
    let up = each_up_to (name_at nodes place) 0 history.entries.items has.book.history has.book.last has.is.entries has.follows.replays.rise k entry g in
    let last = has.is.last in
    omega (arith, up, last)
