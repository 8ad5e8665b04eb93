-- Books that are in place, replayed and whole are one run.
use Rattle.std.proofs.Common.{◌≡◌, ℕ, ◌<◌, List, [], ◌∷◌, get_or, inl, inr, length, map, sym, ap, ◌∙◌, subst, arith, slice_index_or}
use Rattle.std.specs.List.{All, AllZip}
use Rattle.std.proofs.lemmas.List.{length-map}
use Rattle.dist_books.proofs.Numbers.{in_or_out}
use Rattle.dist_books.specs.Acting.{Nodes, name_at}
use Rattle.dist_books.specs.Books.{AllKept, AreDistinct, Book, book_at, no_book}
use Rattle.dist_books.specs.Merged.{AreBooks, BooksAreARun, BooksAreSafe}
use Rattle.dist_books.specs.Merged as model
use Rattle.dist_model.specs.Names.{Name}
use Rattle.dist_model.specs.World.{Event, Report}
use Rattle.joined_books.proofs.Agree.{IsModelOf, agree}
use Rattle.joined_books.proofs.OneRun.{IsPlace, assembled, histories_rise, stamp_of}
use Rattle.joined_books.proofs.Carried.{BytesTell}
use Rattle.joined_books.proofs.NodeNames.{distinct, name_is, part_mapped, some_of}
use Rattle.joined_books.proofs.Ordered.{Rise, ordered}
use Rattle.joined_books.proofs.Zipped.{Chosen, choose, part_beyond, part_of, past, zip_maps, zip_weaker}
use Rattle.joined_books.specs.Joined.{AllReplay, AreARun, IsTrace, Shows}
use Rattle.joined_books.specs.Names.{AreInPlace}
use Rattle.joined_books.specs.Parts.{entries_at, part_at, stamps_of}
use Rattle.joined_books.specs.Places.{IsByStampAndNode, all_places, places_from}
use Rattle.joined_books.specs.Wires.{AreWhole, own}
use Rattle.joined_books.specs.declared.trace.Placed.{Placed}
use Rattle.dist_books.specs.Logs.{Entry as Told}
use Rattle.node_lock.specs.Seen.{BookSeen}
use Rattle.node_lock.specs.Standing.{AreNodes, TellEntries, TellsEntry}
use Rattle.node_history.specs.declared.entry.Entry.{Entry}
use Rattle.std.specs.List.Sorted.{IsPermutation}

module _ (nodes : Nodes) (books : List BookSeen) (in_place : AreInPlace nodes books) where
  are_nodes : (k : ℕ) (d : BookSeen) → k < length books → AreNodes (get_or books k d).names k (get_or books k d).setup nodes
  are_nodes k d below = record { named = sym (in_place.each k d below).names; secret = sym (in_place.each k d below).setup }

  owns : (k : ℕ) (d : BookSeen) → k < length books → own (get_or books k d) ≡ name_at nodes k
  owns k d below =
      let p = in_place.each k d below in
      ap (λ n. slice_index_or (get_or books k d).names n []) p.place
      ∙ ap (λ (l : List Name). slice_index_or l k []) p.names ∙ sym (name_is nodes k)

  are_distinct : AreDistinct nodes
  are_distinct =
      distinct nodes
      (λ k within. (let here : k < length books = omega (arith, in_place.one_each) in
      (in_place.each k (some_of books k here) here).once))

  -- ---- what the model keeps of the books

  models_of : AllReplay books → Chosen (IsModelOf nodes) books
  models_of replay = choose (IsModelOf nodes) books one
    where
      one : (k : ℕ) (d : BookSeen) → k < length books → (m : Book) × IsModelOf nodes k (get_or books k d) m
      one k d below =
          let book = get_or books k d in
          let place = (in_place.each k d below).place in
          let named : AreNodes book.names book.place book.setup nodes =
          subst (λ n. AreNodes book.names n book.setup nodes) (sym place) (are_nodes k d below) in
          let stands = (replay k d below).1 nodes named in
          (stands.book, subst (λ n. IsModelOf nodes n book stands.book) place (record { is = stands.is; follows = stands.follows }))

  module _ (models : Chosen (IsModelOf nodes) books) where
    kept : AllKept nodes models.ys
    kept k within =
        let here : k < length books = omega (arith, in_place.one_each) in
        let m = models.each k (some_of books k here) no_book here in (m.follows.log, m.follows.replays)

    are_books : BytesTell → AreWhole books → AreBooks nodes models.ys
    are_books tell whole = record {
      distinct = are_distinct;
      one_each = models.lens ∙ in_place.one_each;
      kept = kept;
      agree = agree nodes books models (sym in_place.one_each) owns tell whole;
    }

    told : (own : Name) (entries : List Entry) (history : List (Told Event Report)) → TellEntries own entries history
        → AllZip (TellsEntry own) entries history
    told own [] [] h = tt
    told own [] (x ∷ xs) h = h
    told own (e ∷ es) [] h = h
    told own (e ∷ es) (x ∷ xs) h = (h.0, told own es xs h.1)

    all_told : (k : ℕ) → AllZip (TellsEntry (name_at nodes k)) (entries_at books k) (book_at models.ys k).history
    all_told k = elim (in_or_out k (length books)) [
      | inl within ↦ (
          let d = some_of books k within in
          let m = models.each k d no_book within in
          subst (λ l. AllZip (TellsEntry (name_at nodes k)) l (book_at models.ys k).history)
          (sym (part_of (λ (b : BookSeen). b.history.entries.items) books k d [] within))
          (told (name_at nodes k) (get_or books k d).history.entries.items (book_at models.ys k).history m.is.entries))
      | inr beyond ↦ (
          let none : entries_at books k ≡ [] = part_beyond (λ (b : BookSeen). b.history.entries.items) books k [] (omega arith) in
          let nobody : book_at models.ys k ≡ no_book = past models.ys k no_book (let l = models.lens in omega arith) in
          subst (λ l. AllZip (TellsEntry (name_at nodes k)) l (book_at models.ys k).history) (sym none)
          (subst (λ (b : Book). AllZip (TellsEntry (name_at nodes k)) [] b.history) (sym nobody) tt))
    ]

    tells_stamp : (own : Name) (entry : Entry) (of : Told Event Report) → TellsEntry own entry of → stamp_of of ≡ entry.stamp
    tells_stamp own entry of h = h.stamp

    same_stamps : (k : ℕ) → map (λ (entry : Entry). entry.stamp) (entries_at books k) ≡ map stamp_of (book_at models.ys k).history
    same_stamps k =
        zip_maps (TellsEntry (name_at nodes k)) (λ (entry : Entry). entry.stamp) stamp_of (tells_stamp (name_at nodes k))
        (entries_at books k) (book_at models.ys k).history (all_told k)

    stamps_are : (k : ℕ) → part_at stamps_of books k ≡ map (λ (entry : Entry). entry.stamp) (entries_at books k)
    stamps_are k = part_mapped (λ (b : BookSeen). b.history.entries.items) (λ (entry : Entry). entry.stamp) books k

    rise : AreBooks nodes models.ys → All Rise (map stamps_of books)
    rise are k d below =
        let within : k < length books = omega (arith, length-map books stamps_of) in
        let e = some_of books k within in
        let same : get_or (map stamps_of books) k d ≡ map stamp_of (book_at models.ys k).history =
        part_of stamps_of books k e d within ∙ sym (part_of stamps_of books k e [] within) ∙ stamps_are k ∙ same_stamps k in
        subst Rise (sym same) (histories_rise nodes models.ys are k)

    -- ---- the run

    in_order : (items : List Placed) → AreBooks nodes models.ys → IsPermutation (all_places 0 (map stamps_of books)) items
        → IsByStampAndNode items
        → IsTrace books items
    in_order items are all sorted = ordered (map stamps_of books) items (rise are) all sorted

    shows : (placed : Placed) (x : model.Placed)
        → IsPlace (λ (entry : Entry). entry.stamp) TellsEntry nodes (entries_at books) placed x → Shows books nodes placed x
    shows placed x h = record { node = h.node; entry = h.entry; there = h.there; tells = h.tells }

    a_run : (items : List Placed) → AreBooks nodes models.ys → IsTrace books items → BooksAreARun → BooksAreSafe → AreARun nodes books items
    a_run items are trace is_run is_safe =
        let a = assembled (λ (entry : Entry). entry.stamp) TellsEntry tells_stamp nodes models.ys (entries_at books) items are all_told
        (record { each = λ k. trace.each k ∙ ap (λ l. places_from k 0 l) (stamps_are k); sorted = trace.sorted }) is_run is_safe in
        record {
          models = models.ys;
          merged = a.merged;
          one_each = sym in_place.one_each;
          stand = λ k d below. record { named = are_nodes k d below; is = (models.each k d no_book below).is };
          are = are;
          shown = zip_weaker (IsPlace (λ (entry : Entry). entry.stamp) TellsEntry nodes (entries_at books)) (Shows books nodes)
              shows items a.merged a.shown;
          run = a.run;
          safe = a.safe;
        }

pub record IsJoined (nodes : Nodes) (books : List BookSeen) (items : List Placed) : Type 0 where
  pub trace : IsTrace books items
  pub run : AreARun nodes books items

pub joined : BooksAreARun → BooksAreSafe → BytesTell → (nodes : Nodes) (books : List BookSeen) (items : List Placed) → AllReplay books
    → AreInPlace nodes books → AreWhole books
    → IsPermutation (all_places 0 (map stamps_of books)) items → IsByStampAndNode items → IsJoined nodes books items
joined is_run is_safe tell nodes books items replay in_place whole all sorted =
    let models = models_of nodes books in_place replay in
    let are = are_books nodes books in_place models tell whole in
    let trace = in_order nodes books in_place models items are all sorted in
    record { trace = trace; run = a_run nodes books in_place models items are trace is_run is_safe }
