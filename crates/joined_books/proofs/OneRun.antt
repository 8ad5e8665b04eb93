-- Model books of which a log replays each, and places of their entries in order: these are one run. Of the entries themselves it
-- matters alone that each tells one of the model's.
use Rattle.std.proofs.Common.{◌≡◌, ℕ, ◌<◌, Some, List, [], ◌∷◌, ◌++◌, map, ap, ◌∙◌, arith, slice_get}
use Rattle.std.specs.List.{All, AllZip}
use Rattle.std.proofs.lemmas.List.Elements.{All-cons, All-nil}
use Rattle.std.proofs.lemmas.List.Kept.{AllPairs-cons}
use Rattle.dist_books.proofs.Numbers.{each_kept}
use Rattle.dist_books.specs.Acting.{Nodes, name_at}
use Rattle.dist_books.specs.Books as books
use Rattle.dist_books.specs.Books.{Book, book_at}
use Rattle.dist_books.specs.Merged.{AreBooks, BooksAreARun, BooksAreSafe, IsMerged, IsOneRun, IsSafeAt}
use Rattle.dist_books.specs.Merged as model
use Rattle.dist_model.specs.Names.{Name}
use Rattle.dist_model.specs.World.{Event, Local, Refused, Report}
use Rattle.erl_term.specs.declared.refusal.Refusal.{Refusal}
use Rattle.joined_books.proofs.Modelled as modelled
use Rattle.joined_books.proofs.Ordered.{Rise}
use Rattle.joined_books.proofs.Zipped.{beside, zip_maps, zip_weaker}
use Rattle.joined_books.specs.Places.{IsOrdered, places_from}
use Rattle.joined_books.specs.declared.trace.Placed.{Placed}
use Rattle.dist_books.specs.Logs.{Entry}

abbrev Told : Type 0
Told = Entry Event Report

abbrev pub stamp_of : Told → ℕ
stamp_of entry = entry.stamp

nothing : Told
nothing = record { stamp = 0; event = Local []; answer = Refused Refusal.NothingThere }

-- ---- the stamps of a history rise

later : (from : ℕ) (history : List Told) (last : ℕ) → books.Rise from history last → All (λ stamp. from < stamp) (map stamp_of history)
later from [] last h = All-nil (λ stamp. from < stamp)
later from (entry ∷ rest) last h =
    All-cons (λ stamp. from < stamp) entry.stamp (map stamp_of rest) h.0
    (λ k d below. omega (arith, h.0, later entry.stamp rest last h.1 k d below))

pub rises : (from : ℕ) (history : List Told) (last : ℕ) → books.Rise from history last → Rise (map stamp_of history)
rises from [] last h = λ i j d before below. absurd (omega arith)
rises from (entry ∷ rest) last h =
    AllPairs-cons (λ x y. x < y) entry.stamp (map stamp_of rest) (later entry.stamp rest last h.1) (rises entry.stamp rest last h.1)

pub histories_rise : (nodes : Nodes) (models : List Book) → AreBooks nodes models → (k : ℕ) → Rise (map stamp_of (book_at models k).history)
histories_rise nodes models are k =
    let h = each_kept nodes models are.one_each are.kept k in rises 0 (book_at models k).history (book_at models k).last h.1.rise

-- ---- the run

module _ {E : Type 0} (stamp : E → ℕ) (Tells : Name → E → Told → Type 0) where
  pub record IsPlace (nodes : Nodes) (entries : ℕ → List E) (placed : Placed) (of : model.Placed) : Type 0 where
    pub node : of.0 ≡ placed.node
    pub entry : E
    pub there : slice_get (entries placed.node) placed.position ≡ Some entry
    pub tells : Tells (name_at nodes placed.node) entry of.1

  pub record Assembled (nodes : Nodes) (models : List Book) (entries : ℕ → List E) (items : List Placed) : Type 0 where
    pub merged : List model.Placed
    pub shown : AllZip (IsPlace nodes entries) items merged
    pub run : IsOneRun nodes models merged
    pub safe : (before behind : List model.Placed) → merged ≡ before ++ behind → IsSafeAt nodes before

  pub assembled : ((own : Name) (entry : E) (of : Told) → Tells own entry of → stamp_of of ≡ stamp entry)
      → (nodes : Nodes) (models : List Book) (entries : ℕ → List E) (items : List Placed) → AreBooks nodes models
      → ((k : ℕ) → AllZip (Tells (name_at nodes k)) (entries k) (book_at models k).history)
      → IsOrdered (λ k. map stamp (entries k)) items → BooksAreARun → BooksAreSafe → Assembled nodes models entries items
  assembled stamps nodes models entries items are told ordered is_run is_safe =
      let history : ℕ → List Told = λ k. (book_at models k).history in
      let order : IsOrdered (modelled.stamps_at stamp_of history nothing) items = record {
        each = λ k. ordered.each k ∙ ap (λ l. places_from k 0 l)
            (zip_maps (Tells (name_at nodes k)) stamp stamp_of (stamps (name_at nodes k)) (entries k) (history k) (told k));
        sorted = ordered.sorted;
      } in
      let merged : List model.Placed = map (modelled.tagged stamp_of history nothing) items in
      let is_merged : IsMerged models merged = record {
        each = modelled.each stamp_of history nothing items order;
        sorted = modelled.sorted stamp_of history nothing items order;
      } in
      record {
        merged = merged;
        shown = zip_weaker (modelled.IsShown stamp_of history nothing) (IsPlace nodes entries) (place history told) items merged
            (modelled.shown stamp_of history nothing items order);
        run = is_run nodes models merged are is_merged;
        safe = is_safe nodes models merged are is_merged;
      }
    where
      place : (history : ℕ → List Told) → ((k : ℕ) → AllZip (Tells (name_at nodes k)) (entries k) (history k))
          → (placed : Placed) (of : model.Placed) → modelled.IsShown stamp_of history nothing placed of → IsPlace nodes entries placed of
      place history all placed of h =
          let b = beside (Tells (name_at nodes placed.node)) (entries placed.node) (history placed.node) placed.position of.1
          (all placed.node) h.at.there in
          record { node = h.node; entry = b.x; there = b.there; tells = b.goes }
