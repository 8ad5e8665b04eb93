-- What is claimed of the arrows of a queue, in words that know nothing of how they are found.
use Rattle.std.specs.Prelude.{◌≡◌, ℕ, ◌+◌, ◌<◌, ◌≤◌, Bool, true, false, ◌==◌, List, [], ◌∷◌, ◌++◌, Option, None, Some, if◌then◌else◌}
use Rattle.std.specs.List.{list_any}
use Rattle.diagram.specs.Queues.{Seen, after_row, has_next}
use Rattle.diagram.specs.declared.arrows.Arrow.{Arrow}
use Rattle.diagram.specs.declared.arrows.End.{End}
use Rattle.diagram.specs.declared.arrows.End.TheVariants.{Taken, Lost, OnItsWay}
use Rattle.diagram.specs.declared.queues.Place.{Place}
use Rattle.diagram.specs.declared.rows.Mark.{Mark}
use Rattle.diagram.specs.declared.rows.Mark.TheVariants as mark
use Rattle.diagram.specs.declared.rows.Row.{Row}

-- the mark at which an arrow begins
abbrev pub start_of : Arrow → Place
start_of arrow = record { row = arrow.row; mark = arrow.mark }

-- ---- the marks that send on a queue, from the first row on

abbrev pub sends_at : (queue row at : ℕ) → Mark → List Place
sends_at queue row at (mark.Note note) = []
sends_at queue row at (mark.Sent item) = if item.queue == queue then (record { row = row; mark = at }) ∷ [] else []

abbrev pub sends_in : (queue row at : ℕ) → List Mark → List Place
sends_in queue row at [] = []
sends_in queue row at (mark ∷ marks) = sends_at queue row at mark ++ sends_in queue row (at + 1) marks

abbrev pub sends : (queue at : ℕ) → List Row → List Place
sends queue at [] = []
sends queue at (row ∷ rows) = sends_in queue at 0 row.marks.items ++ sends queue (at + 1) rows

-- ---- the rows that take from a queue, and the first that gives it up

abbrev pub takes_from : (queue : ℕ) → (took : Option ℕ) → Bool
takes_from queue None = false
takes_from queue (Some other) = other == queue

abbrev pub takes : (queue at : ℕ) → List Row → List ℕ
takes queue at [] = []
takes queue at (row ∷ rows) = if takes_from queue row.took then at ∷ takes queue (at + 1) rows else takes queue (at + 1) rows

abbrev pub giving_up : (queue at : ℕ) → List Row → Option ℕ
giving_up queue at [] = None
giving_up queue at (row ∷ rows) = if list_any (λ other. other == queue) row.gave_up.items then Some at else giving_up queue (at + 1) rows

-- each row that takes from the queue finds an item on its way
abbrev pub IsFed : (queue at : ℕ) → List Row → Seen → Type 0
IsFed queue at [] seen = Unit {0}
IsFed queue at (row ∷ rows) seen =
    (takes_from queue row.took ≡ true → has_next seen ≡ true) × IsFed queue (at + 1) rows (after_row queue at row seen)

-- an arrow ends in one of so many rows: below the row in which it begins where the item is taken, in that row or below it where it is lost
abbrev pub EndsBelow : (rows start : ℕ) → End → Type 0
EndsBelow rows start (Taken at) = (start < at) × (at < rows)
EndsBelow rows start (Lost at) = (start ≤ at) × (at < rows)
EndsBelow rows start OnItsWay = start < rows

abbrev pub GoesDown : (rows : ℕ) → Arrow → Type 0
GoesDown rows arrow = EndsBelow rows arrow.row arrow.end
