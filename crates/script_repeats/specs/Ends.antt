-- The end of a script that repeats a run.
use Rattle.std.specs.Prelude.{◌≡◌, ℕ, List}
use Rattle.dist_books.specs.Acting.{Nodes}
use Rattle.dist_books.specs.Merged as merged
use Rattle.dist_model.specs.Runs.{opening, reports_of}
use Rattle.joined_books.specs.Joined.{AreARun}
use Rattle.joined_books.specs.declared.trace.Placed.{Placed}
use Rattle.node_lock.specs.Seen.{BookSeen}
use Rattle.script_repeats.specs.Repeats.{Repeats}

-- its last world is that of the run, with the nodes of the books, and its events have the reports of the entries
pub record EndsAlike {seed : ℕ} {nodes : Nodes} {books : List BookSeen} {entries : List Placed} {text : List ℕ}
    (run : AreARun nodes books entries) (script : Repeats seed nodes books entries text) : Type 0 where
  pub world : script.last.stage.world ≡ run.run.world
  pub reports : reports_of script.events (opening nodes) ≡ merged.reports_of run.merged
