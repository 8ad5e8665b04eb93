-- The text at the end of a script.
use Rattle.std.proofs.Common.{◌≡◌, ◌≢◌, ◌<◌, ◌==◌, ℕ, eqb, Bool, true, false, List, length, refl, sym, ap, subst, ◌∙◌, arith}
use Rattle.std.proofs.lemmas.Bool.Decides.{nat_tests}
use Rattle.cluster_run.specs.Finishing.{IsFinished}
use Rattle.dist_books.specs.Acting.{Nodes}
use Rattle.joined_books.specs.Faults.{IsFault}
use Rattle.joined_books.specs.declared.error.FinishError.{FinishError}
use Rattle.joined_books.specs.declared.error.FinishError.TheVariants as faults
use Rattle.node_lock.specs.Seen.{BookSeen}
use Rattle.node_lock.specs.declared.seat.Seat.{Seat}
use Rattle.script_threads.specs.Merged.{AreMerged, AreSeats, AreUnmerged, Ends, IsUnfinished, Tells, trace_text, unfinished_by}
use Rattle.script_threads.specs.Standing.{is_idle, nodes_of}
use Rattle.script_threads.specs.declared.finishing.Unfinished.{Unfinished}
use Rattle.script_threads.specs.declared.finishing.Unfinished.TheVariants as unfinished
use Rattle.script_threads.specs.declared.threads.Cast.{Cast}
use Rattle.script_threads.specs.declared.threads.Cast.TheVariants as cast
use Rattle.script_texts.specs.Texts.{merged_text}
use Rattle.std.specs.Prelude.{◌++◌, IfErr, OnOk, Ok, Err, Result}

pub on_ok : {X E P Q : Type 0} (r : Result X E) → (P → Q) → OnOk r P → OnOk r Q
on_ok (Ok x) f h = f h
on_ok (Err e) f h = tt

pub on_err : {X E : Type 0} {P Q : E → Type 0} (r : Result X E) → ((e : E) → P e → Q e) → IfErr r P → IfErr r Q
on_err (Ok x) f h = tt
on_err (Err e) f h = f e h

pub some_nodes : (count : ℕ) → 0 < count → (count == 0) ≡ false
some_nodes count h = grind (arith, nat_tests)

-- the threads may have been started for the end
at_first : (trace : Bool) (named now : Cast) (old_text new_text : List ℕ) → nodes_of now ≡ nodes_of named
    → (is_idle named ≡ false → now ≡ named)
    → AreMerged trace now old_text new_text → AreMerged trace named old_text new_text
at_first trace (cast.Named nodes) now old_text new_text same stays m = record {
  books = m.books;
  seats = m.seats;
  entries = m.entries;
  seated = tt;
  finished = subst (λ (n : Nodes). IsFinished n m.books m.seats m.entries) same m.finished;
  text = subst (λ (n : Nodes). new_text ≡ old_text ++ trace_text trace n m.books m.entries ++ merged_text) same m.text;
}
at_first trace (cast.Running running) now old_text new_text same stays m =
    subst (λ (it : Cast). AreMerged trace it old_text new_text) (stays refl) m

pub tells_end : (trace : Bool) (named now : Cast) (old_text new_text : List ℕ) → nodes_of now ≡ nodes_of named
    → (is_idle named ≡ false → now ≡ named)
    → 0 < length (nodes_of now) → AreMerged trace now old_text new_text → Ends trace named old_text new_text
tells_end trace named now old_text new_text same stays some m =
    subst (λ (b : Bool). Tells b trace named old_text new_text)
    (sym (ap (λ (n : Nodes). eqb (length n) 0) (sym same) ∙ some_nodes (length (nodes_of now)) some))
    (at_first trace named now old_text new_text same stays m)

pub tells_nothing : (trace : Bool) (named now : Cast) (text : List ℕ) → nodes_of now ≡ nodes_of named
    → eqb (length (nodes_of now)) 0 ≡ true → Ends trace named text text
tells_nothing trace named now text same none =
    subst (λ (b : Bool). Tells b trace named text text) (sym (ap (λ (n : Nodes). eqb (length n) 0) (sym same) ∙ none)) refl

-- ---- an end without a merge

-- of books that are there
module _ (named : Cast) (some : 0 < length (nodes_of named)) (books : List BookSeen) (seats : List Seat) (seated : AreSeats named seats) where
  unmerged : (f : FinishError) → length books ≡ length (nodes_of named) → IsFault (nodes_of named) books seats f
      → unfinished_by f ≡ unfinished.Unmerged → AreUnmerged named
  unmerged f whole is by = record {
    some = some;
    books = books;
    seats = seats;
    fault = f;
    one_each = whole;
    seated = seated;
    is = is;
    unmerged = by;
  }

  pub unfinished_so : (f : FinishError) (e : Unfinished) → e ≡ unfinished_by f
      → (f ≢ faults.OutOfMemory → length books ≡ length (nodes_of named)) → IsFault (nodes_of named) books seats f → IsUnfinished named e
  unfinished_so f unfinished.OutOfMemory e whole is = tt
  unfinished_so f unfinished.Unrepeated e whole is = tt
  unfinished_so f unfinished.Unmerged e whole is =
      unmerged f (whole (λ none. let no : unfinished.Unmerged ≡ unfinished.OutOfMemory = e ∙ ap unfinished_by none in cc)) is (sym e)

-- the threads may have been started for the end
pub unfinished_first : (named now : Cast) (e : Unfinished) → nodes_of now ≡ nodes_of named → (is_idle named ≡ false → now ≡ named)
    → IsUnfinished now e → IsUnfinished named e
unfinished_first named now unfinished.OutOfMemory same stays u = tt
unfinished_first named now unfinished.Unrepeated same stays u = tt
unfinished_first (cast.Named nodes) now unfinished.Unmerged same stays u = record {
  some = subst (λ (n : Nodes). 0 < length n) same u.some;
  books = u.books;
  seats = u.seats;
  fault = u.fault;
  one_each = subst (λ (n : Nodes). length u.books ≡ length n) same u.one_each;
  seated = tt;
  is = subst (λ (n : Nodes). IsFault n u.books u.seats u.fault) same u.is;
  unmerged = u.unmerged;
}
unfinished_first (cast.Running running) now unfinished.Unmerged same stays u = subst AreUnmerged (stays refl) u
