-- Sorted by stamp and node, the entries of all books are merged: the stamps of a book rise.
use Rattle.std.proofs.Common.{◌≡◌, ℕ, zero, suc, ◌<◌, List, [], ◌∷◌, get_or, length, map, refl, sym, ◌∙◌, subst, arith, slice_index_or}
use Rattle.std.specs.List.{All}
use Rattle.std.proofs.lemmas.List.Elements.{All-cons, All-map, All-nil}
use Rattle.std.proofs.lemmas.List.Kept.{AllPairs-cons}
use Rattle.dist_books.proofs.Numbers.{each_kept}
use Rattle.dist_books.specs.Books.{Book, Rise, book_at}
use Rattle.dist_books.specs.Merged.{SortsMerge}
use Rattle.dist_model.specs.World.{Event, Report}
use Rattle.dist_books.proofs.SortedLogs.{sort_merges}
use Rattle.dist_books.specs.Logs.{Entry}
use Rattle.dist_books.specs.Sorting.{Rises}

abbrev stamp_of : Entry Event Report → ℕ
stamp_of entry = entry.stamp

later : (from : ℕ) (history : List (Entry Event Report)) (last : ℕ) → Rise from history last → All (λ entry. from < entry.stamp) history
later from [] last h = All-nil (λ entry. from < entry.stamp)
later from (entry ∷ rest) last h =
    All-cons (λ entry. from < entry.stamp) entry rest h.0 (λ k d below. omega (arith, h.0, later entry.stamp rest last h.1 k d below))

rises : (from : ℕ) (history : List (Entry Event Report)) (last : ℕ) → Rise from history last → Rises stamp_of history
rises from [] last h = λ i j d before below. absurd (omega arith)
rises from (entry ∷ rest) last h =
    AllPairs-cons (λ x y. stamp_of x < stamp_of y) entry rest (later entry.stamp rest last h.1) (rises entry.stamp rest last h.1)

-- the book of a number, whatever stands in for those that aren't there
same_book : (books : List Book) (k : ℕ) (d : Book) → k < length books → get_or books k d ≡ book_at books k
same_book [] k d below = absurd (omega arith)
same_book (book ∷ books) zero d below = refl
same_book (book ∷ books) (suc k) d below = same_book books k d (omega arith)

history_at : (books : List Book) (k : ℕ) → slice_index_or (map (λ (book : Book). book.history) books) k [] ≡ (book_at books k).history
history_at [] k = refl
history_at (book ∷ books) zero = refl
history_at (book ∷ books) (suc k) = history_at books k

pub sorts_merge : SortsMerge
sorts_merge nodes books merged one_each kept same sorted =
    let rise : (k : ℕ) → Rises stamp_of (book_at books k).history =
    λ k. (let h = each_kept nodes books one_each kept k in rises 0 (book_at books k).history (book_at books k).last h.1.rise) in
    let all : All (λ (book : Book). Rises stamp_of book.history) books =
    λ k d below. subst (λ (book : Book). Rises stamp_of book.history) (sym (same_book books k d below)) (rise k) in
    let h =
    sort_merges stamp_of (map (λ (book : Book). book.history) books) merged
    (All-map (Rises stamp_of) (λ (book : Book). book.history) books all)
    same sorted in
    record { each = λ k. h.0 k ∙ history_at books k; sorted = h.1 }
