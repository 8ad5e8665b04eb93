-- The outcome of merged books.
use Rattle.std.proofs.Common.{◌≡◌, List, ◌∙◌, subst}
use Rattle.std.specs.Prelude.{IfOk, Result, Ok}
use Rattle.cluster_run.specs.Finishing.{IsFinished}
use Rattle.dist_books.specs.Acting.{Nodes}
use Rattle.erl_term.specs.declared.refusal.Refusal.{Refusal}
use Rattle.joined_books.specs.Joined.{AreARun, IsTrace}
use Rattle.joined_books.specs.Receipts.{AreReceipts}
use Rattle.joined_books.specs.declared.error.FinishError.{FinishError}
use Rattle.joined_books.specs.declared.trace.Placed.{Placed}
use Rattle.joined_books.specs.declared.trace.Trace.{Trace}
use Rattle.node_lock.specs.Seen.{BookSeen}
use Rattle.node_lock.specs.declared.seat.Seat.{Seat}
use Rattle.world_core.specs.Stands.{StandsFor}
use Rattle.world_core.specs.declared.world.World.{World}

-- of nodes, books and seats that were lent
module _ (entries : List Placed) (own nodes lent_nodes : Nodes) (books lent_books : List BookSeen) (seats lent_seats : List Seat)
    (kept : nodes ≡ own) (nodes_are : lent_nodes ≡ nodes) (books_are : lent_books ≡ books) (seats_are : lent_seats ≡ seats) where
  pub finished : IsTrace lent_books entries → AreARun lent_nodes lent_books entries → AreReceipts lent_books lent_seats
      → (nodes ≡ own) × IsFinished own books seats entries
  finished trace run receipts =
      let is : AreARun own books entries =
      subst (λ l. AreARun own l entries) books_are (subst (λ l. AreARun l lent_books entries) (nodes_are ∙ kept) run) in (
        kept,
        record {
          one_each = is.one_each;
          trace = subst (λ l. IsTrace l entries) books_are trace;
          run = is;
          receipts = subst (λ l. AreReceipts l seats) books_are (subst (λ l. AreReceipts lent_books l) seats_are receipts);
        },
      )

  -- as the merge answers
  module _ (r : Result Trace FinishError) (trace : Trace) (is : r ≡ Ok trace) (entries_are : trace.entries.items ≡ entries) where
    at_trace : (P : List Placed → Type 0) → IfOk r (λ t. P t.entries.items) → P entries
    at_trace P h = subst P entries_are (subst (λ q. IfOk q (λ t. P t.entries.items)) is h)

    pub finished_in : IfOk r (λ t. IsTrace lent_books t.entries.items) → IfOk r (λ t. AreARun lent_nodes lent_books t.entries.items)
        → IfOk r (λ t. AreReceipts lent_books lent_seats) → (nodes ≡ own) × IsFinished own books seats entries
    finished_in t run receipts =
        finished (at_trace (IsTrace lent_books) t) (at_trace (AreARun lent_nodes lent_books) run)
        (at_trace (λ es. AreReceipts lent_books lent_seats) receipts)

-- the world at the end of their run
module _ (entries : List Placed) (nodes lent_nodes : Nodes) (books lent_books : List BookSeen) (r : Result World Refusal) where
  abbrev pub IsItsWorld : Nodes → List BookSeen → Type 0
  IsItsWorld ns bs = (run : AreARun ns bs entries) → IfOk r (λ world. StandsFor world run.run.world)

  pub lent : lent_nodes ≡ nodes → lent_books ≡ books → IsItsWorld lent_nodes lent_books → IsItsWorld nodes books
  lent nodes_are books_are is =
      subst (λ l. IsItsWorld nodes l) books_are (subst (λ l. IsItsWorld l lent_books) nodes_are is)
