-- The end of a script of nodes in threads: its last lines, and the claim on the nodes' histories.
use Rattle.std.specs.Prelude.{◌≡◌, ◌<◌, Option, None, Some, ℕ, Bool, true, false, ◌==◌, List}
use Rattle.std.specs.Prelude.{[], ◌++◌, length, Result, Ok, Err, if◌then◌else◌, slice_get}
use Rattle.std.specs.List.{flat_map}
use Rattle.cluster_run.specs.Finishing.{IsFinished}
use Rattle.dist_books.specs.Acting.{Nodes}
use Rattle.dist_model.specs.Names.{Name}
use Rattle.dist_model.specs.declared.report.Report.{Report}
use Rattle.erl_term.specs.declared.refusal.Refusal.{Refusal}
use Rattle.joined_books.specs.Faults.{IsFault}
use Rattle.joined_books.specs.declared.error.FinishError.{FinishError}
use Rattle.joined_books.specs.declared.error.FinishError.TheVariants as faults
use Rattle.joined_books.specs.declared.trace.Placed.{Placed}
use Rattle.node_lock.specs.Seen.{BookSeen}
use Rattle.node_history.specs.declared.entry.Entry.{Entry}
use Rattle.node_lock.specs.declared.seat.Seat.{Seat}
use Rattle.node_frames.specs.Frames.{Framed}
use Rattle.run_traces.specs.Traces.{sent_in}
use Rattle.script_texts.specs.Texts.{merged_text}
use Rattle.script_threads.specs.Standing.{nodes_of}
use Rattle.script_threads.specs.declared.finishing.Unfinished.{Unfinished}
use Rattle.script_threads.specs.declared.finishing.Unfinished.TheVariants as unfinished
use Rattle.script_threads.specs.declared.threads.Cast.{Cast}
use Rattle.script_threads.specs.declared.threads.Cast.TheVariants as cast
use Rattle.erl_handshake.specs.declared.setup.Setup.{Setup}

-- ---- the items that were sent with an entry

abbrev pub sents_of : Name → Result (Report Framed) Refusal → List ℕ
sents_of name (Ok report) = flat_map (sent_in name) report.effects.items
sents_of name (Err why) = []

abbrev pub sents_with : Name → Option Entry → List ℕ
sents_with name None = []
sents_with name (Some entry) = sents_of name entry.answer

abbrev pub sents_in : Option (Name × Setup) → Option BookSeen → ℕ → List ℕ
sents_in (Some node) (Some book) position = sents_with node.0 (slice_get book.history.entries.items position)
sents_in _ _ position = []

abbrev pub sents_at : Nodes → List BookSeen → Placed → List ℕ
sents_at nodes books placed = sents_in (slice_get nodes placed.node) (slice_get books placed.node) placed.position

-- with all of these, in their order, if that is asked for
abbrev pub trace_text : Bool → Nodes → List BookSeen → List Placed → List ℕ
trace_text trace nodes books entries = if trace then flat_map (sents_at nodes books) entries else []

-- ---- the end

-- the seats by which the script has called its nodes
abbrev pub AreSeats : Cast → List Seat → Type 0
AreSeats (cast.Named nodes) seats = Unit {0}
AreSeats (cast.Running running) seats = seats ≡ running.seats.items

-- the books of the nodes are one safe run, in which what the script has asked for, and nothing else, was asked for; and that is told
pub record AreMerged (trace : Bool) (named : Cast) (old_text new_text : List ℕ) : Type 0 where
  pub books : List BookSeen
  pub seats : List Seat
  pub entries : List Placed
  pub seated : AreSeats named seats
  pub finished : IsFinished (nodes_of named) books seats entries
  pub text : new_text ≡ old_text ++ trace_text trace (nodes_of named) books entries ++ merged_text

-- a script that has named no node tells nothing
abbrev pub Tells : Bool → (trace : Bool) → Cast → (old_text new_text : List ℕ) → Type 0
Tells true trace named old_text new_text = new_text ≡ old_text
Tells false trace named old_text new_text = AreMerged trace named old_text new_text

abbrev pub Ends : (trace : Bool) → Cast → (old_text new_text : List ℕ) → Type 0
Ends trace named old_text new_text = Tells (length (nodes_of named) == 0) trace named old_text new_text

-- ---- an end without a merge

abbrev pub unfinished_by : FinishError → Unfinished
unfinished_by faults.OutOfMemory = unfinished.OutOfMemory
unfinished_by _ = unfinished.Unmerged

-- there are nodes, and a book for each; and what is wrong with the books, or with what the script has asked for, is where the fault says
pub record AreUnmerged (named : Cast) : Type 0 where
  pub some : 0 < length (nodes_of named)
  pub books : List BookSeen
  pub seats : List Seat
  pub fault : FinishError
  pub one_each : length books ≡ length (nodes_of named)
  pub seated : AreSeats named seats
  pub is : IsFault (nodes_of named) books seats fault
  pub unmerged : unfinished_by fault ≡ unfinished.Unmerged

-- memory may be wanting at any place, and a script at the end
abbrev pub IsUnfinished : Cast → Unfinished → Type 0
IsUnfinished named unfinished.OutOfMemory = Unit {0}
IsUnfinished named unfinished.Unrepeated = Unit {0}
IsUnfinished named unfinished.Unmerged = AreUnmerged named
