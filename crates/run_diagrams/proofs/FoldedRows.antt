-- Folded lines begin and end no arrow.
use Rattle.std.proofs.Common.{◌≡◌, ℕ, zero, suc, ◌+◌, List, [], ◌∷◌, ◌++◌, Option, None, Result, Ok, Err, OnOk, ap, refl, ◌∙◌}
use Rattle.std.proofs.Common.{slice_index_or, slice_set}
use Rattle.diagram.specs.Arrows.{paired}
use Rattle.diagram.specs.Queues.{Seen, after_row, losing, nothing, sending, taking, traffic}
use Rattle.diagram.specs.declared.rows.Mark.{Mark}
use Rattle.diagram.specs.declared.rows.Row.{Row}
use Rattle.run_diagrams.specs.Folding.{KeepsArrows}

after_alike : (queue at : ℕ) (one other : Row) (seen : Seen) → one.took ≡ other.took → one.marks.items ≡ other.marks.items
    → one.gave_up.items ≡ other.gave_up.items → after_row queue at one seen ≡ after_row queue at other seen
after_alike queue at one other seen took marks gave_up =
    ap (λ (t : Option ℕ). losing queue at one.gave_up.items (sending queue at 0 one.marks.items (taking queue at t seen))) took
    ∙ ap (λ (m : List Mark). losing queue at one.gave_up.items (sending queue at 0 m (taking queue at other.took seen))) marks
    ∙ ap (λ (g : List ℕ). losing queue at g (sending queue at 0 other.marks.items (taking queue at other.took seen))) gave_up

traffic_alike : (queue at i : ℕ) (rows : List Row) (one other : Row) (seen : Seen) → other ≡ slice_index_or rows i other
    → one.took ≡ other.took → one.marks.items ≡ other.marks.items → one.gave_up.items ≡ other.gave_up.items
    → traffic queue at (slice_set rows i one) seen ≡ traffic queue at rows seen
traffic_alike queue at i [] one other seen is took marks gave_up = refl
traffic_alike queue at zero (row ∷ rows) one other seen is took marks gave_up =
    ap (λ (s : Seen). traffic queue (at + 1) rows s)
    (after_alike queue at one other seen took marks gave_up ∙ ap (λ (r : Row). after_row queue at r seen) is)
traffic_alike queue at (suc i) (row ∷ rows) one other seen is took marks gave_up =
    traffic_alike queue (at + 1) i rows one other (after_row queue at row seen) is took marks gave_up

after_idle : (queue at : ℕ) (row : Row) (seen : Seen) → row.took ≡ None → row.marks.items ≡ [] → row.gave_up.items ≡ []
    → after_row queue at row seen ≡ seen
after_idle queue at row seen took marks gave_up =
    ap (λ (t : Option ℕ). losing queue at row.gave_up.items (sending queue at 0 row.marks.items (taking queue at t seen))) took
    ∙ ap (λ (m : List Mark). losing queue at row.gave_up.items (sending queue at 0 m seen)) marks
    ∙ ap (λ (g : List ℕ). losing queue at g seen) gave_up

traffic_idle : (queue at : ℕ) (rows : List Row) (row : Row) (seen : Seen) → row.took ≡ None → row.marks.items ≡ []
    → row.gave_up.items ≡ [] → traffic queue at (rows ++ row ∷ []) seen ≡ traffic queue at rows seen
traffic_idle queue at [] row seen took marks gave_up = after_idle queue at row seen took marks gave_up
traffic_idle queue at (first ∷ rows) row seen took marks gave_up =
    traffic_idle queue (at + 1) rows row (after_row queue at first seen) took marks gave_up

pub keeps_where_alike : (rows : List Row) (i : ℕ) (one other : Row) → other ≡ slice_index_or rows i other
    → one.took ≡ other.took → one.marks.items ≡ other.marks.items → one.gave_up.items ≡ other.gave_up.items
    → KeepsArrows rows (slice_set rows i one)
keeps_where_alike rows i one other is took marks gave_up queue =
    ap paired (traffic_alike queue 0 i rows one other nothing is took marks gave_up)

pub keeps_behind : (rows new : List Row) (row : Row) → new ≡ rows ++ row ∷ [] → row.took ≡ None → row.marks.items ≡ []
    → row.gave_up.items ≡ [] → KeepsArrows rows new
keeps_behind rows new row behind took marks gave_up queue =
    ap (λ (all : List Row). paired (traffic queue 0 all nothing)) behind
    ∙ ap paired (traffic_idle queue 0 rows row nothing took marks gave_up)

pub whatever_result : {E : Type 0} (r : Result (Unit {0}) E) (P : Type 0) → P → OnOk r P
whatever_result (Ok done) P holds = holds
whatever_result (Err fault) P holds = tt
