-- The arrows of the items of a queue: the first item that was sent with the first row that took one, and so on.
use Rattle.std.specs.Prelude.{ℕ, List, [], ◌∷◌, Option, None, Some, max}
use Rattle.diagram.specs.Queues.{Seen, traffic_of}
use Rattle.diagram.specs.declared.arrows.Arrow.{Arrow}
use Rattle.diagram.specs.declared.arrows.End.{End}
use Rattle.diagram.specs.declared.arrows.End.TheVariants.{Taken, Lost, OnItsWay}
use Rattle.diagram.specs.declared.queues.Place.{Place}
use Rattle.diagram.specs.declared.rows.Row.{Row}

-- where an item of a row ends that no row takes: lost where its queue is given up, at once if that has happened already
abbrev pub untaken : (lost : Option ℕ) → (row : ℕ) → End
untaken None row = OnItsWay
untaken (Some at) row = Lost (max at row)

abbrev pub ends_at : (taken lost : Option ℕ) → (row : ℕ) → End
ends_at None lost row = untaken lost row
ends_at (Some at) lost row = Taken at

abbrev pub arrow : Place → End → Arrow
arrow place end = record { row = place.row; mark = place.mark; end = end }

-- each item that was sent has one arrow, to the row that took it if one did
abbrev pub pairs : (lost : Option ℕ) → (sent : List Place) → (taken : List ℕ) → List Arrow
pairs lost [] taken = []
pairs lost (place ∷ sent) [] = arrow place (untaken lost place.row) ∷ pairs lost sent []
pairs lost (place ∷ sent) (row ∷ taken) = arrow place (Taken row) ∷ pairs lost sent taken

abbrev pub paired : Seen → List Arrow
paired seen = pairs seen.lost seen.sent seen.taken

abbrev pub arrows_of : (queue : ℕ) → List Row → List Arrow
arrows_of queue rows = paired (traffic_of queue rows)
