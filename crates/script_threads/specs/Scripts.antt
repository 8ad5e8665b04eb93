-- The merged run of nodes in threads as a plain script.
use Rattle.std.specs.Prelude.{◌≡◌, ℕ, ◌==◌, Bool, true, false, List, [], length}
use Rattle.cluster_run.specs.Finishing.{IsFinished}
use Rattle.joined_books.specs.declared.trace.Placed.{Placed}
use Rattle.node_lock.specs.Seen.{BookSeen}
use Rattle.node_lock.specs.declared.seat.Seat.{Seat}
use Rattle.script_repeats.specs.Repeats.{Repeats}
use Rattle.script_repeats.specs.declared.repeating.Unrepeated.{Unrepeated}
use Rattle.script_repeats.specs.declared.repeating.Unrepeated.TheVariants as unrepeated
use Rattle.script_threads.specs.Merged.{AreSeats}
use Rattle.script_threads.specs.Standing.{nodes_of}
use Rattle.script_threads.specs.declared.finishing.Unfinished.{Unfinished}
use Rattle.script_threads.specs.declared.finishing.Unfinished.TheVariants as unfinished
use Rattle.script_threads.specs.declared.threads.Cast.{Cast}

-- the books of the nodes are one safe run, in which what the script has asked for, and nothing else, was asked for; and
-- from this seed on the script repeats it
pub record AreRepeated (seed : ℕ) (named : Cast) (script : List ℕ) : Type 0 where
  pub books : List BookSeen
  pub seats : List Seat
  pub entries : List Placed
  pub seated : AreSeats named seats
  pub finished : IsFinished (nodes_of named) books seats entries
  pub repeats : Repeats seed (nodes_of named) books entries script

-- the script is empty where no node was named
abbrev pub GivesScript : Bool → (seed : ℕ) → Cast → List ℕ → Type 0
GivesScript true seed named script = script ≡ []
GivesScript false seed named script = AreRepeated seed named script

abbrev pub EndsAsScript : (seed : ℕ) → Cast → List ℕ → Type 0
EndsAsScript seed named script = GivesScript (length (nodes_of named) == 0) seed named script

abbrev pub unrepeated_by : Unrepeated → Unfinished
unrepeated_by unrepeated.OutOfMemory = unfinished.OutOfMemory
unrepeated_by unrepeated.Unlike = unfinished.Unrepeated
