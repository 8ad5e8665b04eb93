-- What a caller is told: the place of an entry, and its answer.
use Rattle.std.specs.Prelude.{◌≡◌, ℕ, Option, None, Some, List, [], Result, Ok, Err, slice_get}
use Rattle.dist_model.specs.Commands.{Outcome}
use Rattle.dist_model.specs.Node.{Node}
use Rattle.erl_term.specs.declared.refusal.Refusal.{Refusal}
use Rattle.node_core.specs.Done.{Does}
use Rattle.node_history.specs.Entering.{Answer}
use Rattle.node_history.specs.declared.acts.Twice.{Twice}
use Rattle.node_history.specs.declared.entry.Entry.{Entry}
use Rattle.node_history.specs.declared.entry.Told.{Told}
use Rattle.node_history.specs.Spares.{filled}
use Rattle.node_history.specs.declared.spare.Spare.{Spare}
use Rattle.node_history.specs.Said.{said}

abbrev pub placed : Result Told Refusal → Result ℕ Refusal
placed (Ok told) = Ok told.place
placed (Err e) = Err e

-- the entry at the place that is told answers the same
abbrev pub Answers : Answer → Option Entry → Type 0
Answers answer None = ⊥
Answers answer (Some entry) = said answer ≡ said entry.answer

abbrev pub IsTold : List Entry → Told → Type 0
IsTold entries told = Answers told.answer (slice_get entries told.place)

-- one event, and its answer twice
pub record IsTwice (due : Outcome) (old new : Node) (twice : Twice) : Type 0 where
  pub does : Does due old new twice.answer
  pub same : said twice.copy ≡ said twice.answer

-- a copy of what has no effects
abbrev pub IsPlainCopy : Spare → (answer copy : Answer) → Type 0
IsPlainCopy spare (Ok report) copy = said copy ≡ Ok (filled spare report.answer, [])
IsPlainCopy spare (Err e) copy = copy ≡ Err e
