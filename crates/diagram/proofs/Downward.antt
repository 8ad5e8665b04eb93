-- An arrow ends below the row in which it begins.
use Rattle.std.proofs.Common.{◌≡◌, ℕ, ◌+◌, ◌<◌, ◌≤◌, Bool, true, false, eqb, cond, List, [], ◌∷◌}
use Rattle.std.proofs.Common.{◌++◌, length, Option, None, Some, is_none, nat_lt, refl, subst, arith, All}
use Rattle.std.specs.List.{AllByRecursion}
use Rattle.std.proofs.lemmas.Bool.{and_parts, ltb-true}
use Rattle.std.proofs.lemmas.List.Elements.{All-from_recursion}
use Rattle.diagram.specs.Arrows.{arrows_of, pairs, untaken}
use Rattle.diagram.specs.Claims.{EndsBelow, GoesDown}
use Rattle.diagram.specs.Queues.{Seen, after_row, changed, given_up, has_next, losing, nothing}
use Rattle.diagram.specs.Queues.{sending, sent_at, sent_one, taking, took, traffic, traffic_of}
use Rattle.diagram.specs.declared.queues.Place.{Place}
use Rattle.diagram.specs.declared.rows.Mark.{Mark}
use Rattle.diagram.specs.declared.rows.Mark.TheVariants as mark
use Rattle.diagram.specs.declared.rows.Row.{Row}

-- all sent above a row
abbrev pub Earlier : ℕ → List Place → Type 0
Earlier n [] = Unit {0}
Earlier n (place ∷ sent) = (place.row < n) × Earlier n sent

-- each taken below the row that sent it
abbrev pub Later : (taken : List ℕ) → (sent : List Place) → Type 0
Later [] sent = Unit {0}
Later (row ∷ taken) [] = ⊥
Later (row ∷ taken) (place ∷ sent) = (place.row < row) × Later taken sent

abbrev pub Above : ℕ → List ℕ → Type 0
Above n [] = Unit {0}
Above n (row ∷ rows) = (row < n) × Above n rows

abbrev pub LostAbove : ℕ → Option ℕ → Type 0
LostAbove n None = Unit {0}
LostAbove n (Some row) = row < n

-- what a queue has seen when n rows have passed
pub record Fine (n : ℕ) (seen : Seen) : Type 0 where
  pub sent : Earlier n seen.sent
  pub later : Later seen.taken seen.sent
  pub taken : Above n seen.taken
  pub lost : LostAbove n seen.lost

earlier_wider : (n m : ℕ) (sent : List Place) → n ≤ m → Earlier n sent → Earlier m sent
earlier_wider n m [] le h = tt
earlier_wider n m (place ∷ sent) le h = (let first : place.row < n = h.0 in omega arith, earlier_wider n m sent le h.1)

above_wider : (n m : ℕ) (rows : List ℕ) → n ≤ m → Above n rows → Above m rows
above_wider n m [] le h = tt
above_wider n m (row ∷ rows) le h = (let first : row < n = h.0 in omega arith, above_wider n m rows le h.1)

lost_wider : (n m : ℕ) (lost : Option ℕ) → n ≤ m → LostAbove n lost → LostAbove m lost
lost_wider n m None le h = tt
lost_wider n m (Some row) le h = omega arith

earlier_more : (n : ℕ) (sent : List Place) (place : Place) → Earlier n sent → place.row < n → Earlier n (sent ++ place ∷ [])
earlier_more n [] place h k = (k, tt)
earlier_more n (first ∷ sent) place h k = (h.0, earlier_more n sent place h.1 k)

above_more : (n : ℕ) (rows : List ℕ) (row : ℕ) → Above n rows → row < n → Above n (rows ++ row ∷ [])
above_more n [] row h k = (k, tt)
above_more n (first ∷ rows) row h k = (h.0, above_more n rows row h.1 k)

later_sent : (taken : List ℕ) (sent more : List Place) → Later taken sent → Later taken (sent ++ more)
later_sent [] sent more h = tt
later_sent (row ∷ taken) [] more h = absurd h
later_sent (row ∷ taken) (place ∷ sent) more h = (h.0, later_sent taken sent more h.1)

later_taken : (n : ℕ) (taken : List ℕ) (sent : List Place) → Earlier n sent → length taken < length sent → Later taken sent
    → Later (taken ++ n ∷ []) sent
later_taken n [] [] e l h = absurd (omega arith)
later_taken n [] (place ∷ sent) e l h = (e.0, tt)
later_taken n (row ∷ taken) [] e l h = absurd h
later_taken n (row ∷ taken) (place ∷ sent) e l h = (h.0, later_taken n taken sent e.1 (omega arith) h.1)

wider : (n : ℕ) (seen : Seen) → Fine n seen → Fine (n + 1) seen
wider n seen h = record {
  sent = earlier_wider n (n + 1) seen.sent (omega arith) h.sent;
  later = h.later;
  taken = above_wider n (n + 1) seen.taken (omega arith) h.taken;
  lost = lost_wider n (n + 1) seen.lost (omega arith) h.lost;
}

-- ---- each step keeps it

took_if : (n : ℕ) (seen : Seen) (b : Bool) → (b ≡ true → length seen.taken < length seen.sent) → Fine n seen
    → Fine (n + 1) (cond b (record { sent = seen.sent; taken = seen.taken ++ n ∷ []; lost = seen.lost }) seen)
took_if n seen true l h = record {
  sent = earlier_wider n (n + 1) seen.sent (omega arith) h.sent;
  later = later_taken n seen.taken seen.sent h.sent (l refl) h.later;
  taken = above_more (n + 1) seen.taken n (above_wider n (n + 1) seen.taken (omega arith) h.taken) (omega arith);
  lost = lost_wider n (n + 1) seen.lost (omega arith) h.lost;
}
took_if n seen false l h = wider n seen h

took_fine : (n : ℕ) (seen : Seen) → Fine n seen → Fine (n + 1) (took n seen)
took_fine n seen h =
    took_if n seen (has_next seen)
    (λ t. let waits = and_parts (is_none seen.lost) (nat_lt (length seen.taken) (length seen.sent)) t in
    ltb-true (length seen.taken) (length seen.sent) waits.1) h

took_or_not : (n : ℕ) (seen : Seen) (b : Bool) → Fine n seen → Fine (n + 1) (changed (took n) b seen)
took_or_not n seen true h = took_fine n seen h
took_or_not n seen false h = wider n seen h

taking_fine : (queue n : ℕ) (from : Option ℕ) (seen : Seen) → Fine n seen → Fine (n + 1) (taking queue n from seen)
taking_fine queue n None seen h = wider n seen h
taking_fine queue n (Some other) seen h = took_or_not n seen (eqb other queue) h

sent_fine : (n at : ℕ) (seen : Seen) → Fine (n + 1) seen → Fine (n + 1) (sent_at n at seen)
sent_fine n at seen h = record {
  sent = earlier_more (n + 1) seen.sent (record { row = n; mark = at }) h.sent (omega arith);
  later = later_sent seen.taken seen.sent ((record { row = n; mark = at }) ∷ []) h.later;
  taken = h.taken;
  lost = h.lost;
}

changed_fine : (n : ℕ) (change : Seen → Seen) (b : Bool) (seen : Seen) → Fine n (change seen) → Fine n seen → Fine n (changed change b seen)
changed_fine n change true seen h k = h
changed_fine n change false seen h k = k

one_fine : (queue n at : ℕ) (mark : Mark) (seen : Seen) → Fine (n + 1) seen → Fine (n + 1) (sent_one queue n at mark seen)
one_fine queue n at (mark.Note note) seen h = h
one_fine queue n at (mark.Sent item) seen h = changed_fine (n + 1) (sent_at n at) (eqb item.queue queue) seen (sent_fine n at seen h) h

sending_fine : (queue n at : ℕ) (marks : List Mark) (seen : Seen) → Fine (n + 1) seen → Fine (n + 1) (sending queue n at marks seen)
sending_fine queue n at [] seen h = h
sending_fine queue n at (mark ∷ marks) seen h =
    sending_fine queue n (at + 1) marks (sent_one queue n at mark seen) (one_fine queue n at mark seen h)

lost_if : (n : ℕ) (seen : Seen) (b : Bool) → Fine (n + 1) seen
    → Fine (n + 1) (cond b (record { sent = seen.sent; taken = seen.taken; lost = Some n }) seen)
lost_if n seen true h = record { sent = h.sent; later = h.later; taken = h.taken; lost = omega arith }
lost_if n seen false h = h

losing_fine : (queue n : ℕ) (others : List ℕ) (seen : Seen) → Fine (n + 1) seen → Fine (n + 1) (losing queue n others seen)
losing_fine queue n [] seen h = h
losing_fine queue n (other ∷ others) seen h =
    losing_fine queue n others (changed (given_up n) (eqb other queue) seen)
    (changed_fine (n + 1) (given_up n) (eqb other queue) seen (lost_if n seen (is_none seen.lost) h) h)

after_fine : (queue n : ℕ) (row : Row) (seen : Seen) → Fine n seen → Fine (n + 1) (after_row queue n row seen)
after_fine queue n row seen h =
    losing_fine queue n row.gave_up.items (sending queue n 0 row.marks.items (taking queue n row.took seen))
    (sending_fine queue n 0 row.marks.items (taking queue n row.took seen) (taking_fine queue n row.took seen h))

traffic_fine : (queue n : ℕ) (rows : List Row) (seen : Seen) → Fine n seen → Fine (n + length rows) (traffic queue n rows seen)
traffic_fine queue n [] seen h = subst (λ (m : ℕ). Fine m seen) (omega arith) h
traffic_fine queue n (row ∷ rows) seen h =
    let same : n + 1 + length rows ≡ n + length (row ∷ rows) = omega arith in
    subst (λ (m : ℕ). Fine m (traffic queue (n + 1) rows (after_row queue n row seen))) same
    (traffic_fine queue (n + 1) rows (after_row queue n row seen) (after_fine queue n row seen h))

-- ---- so no arrow goes up

untaken_down : (n row : ℕ) (lost : Option ℕ) → row < n → LostAbove n lost → EndsBelow n row (untaken lost row)
untaken_down n row None h k = h
untaken_down n row (Some at) h k = (omega arith, omega arith)

pairs_down : (n : ℕ) (lost : Option ℕ) (sent : List Place) (taken : List ℕ) → Earlier n sent → Later taken sent
    → Above n taken → LostAbove n lost → AllByRecursion (GoesDown n) (pairs lost sent taken)
pairs_down n lost [] taken e l a k = tt
pairs_down n lost (place ∷ sent) [] e l a k = (untaken_down n place.row lost e.0 k, pairs_down n lost sent [] e.1 tt tt k)
pairs_down n lost (place ∷ sent) (row ∷ taken) e l a k = ((l.0, a.0), pairs_down n lost sent taken e.1 l.1 a.1 k)

fine_down : (n : ℕ) (seen : Seen) → Fine n seen → All (GoesDown n) (pairs seen.lost seen.sent seen.taken)
fine_down n seen h =
    All-from_recursion (GoesDown n) (pairs seen.lost seen.sent seen.taken)
    (pairs_down n seen.lost seen.sent seen.taken h.sent h.later h.taken h.lost)

pub all_down : (queue : ℕ) (rows : List Row) → All (GoesDown (length rows)) (arrows_of queue rows)
all_down queue rows =
    let same : 0 + length rows ≡ length rows = omega arith in
    fine_down (length rows) (traffic_of queue rows)
    (subst (λ (m : ℕ). Fine m (traffic_of queue rows)) same
    (traffic_fine queue 0 rows nothing (record { sent = tt; later = tt; taken = tt; lost = tt })))
