-- The marks that send on a queue, the rows that take from it, and what the queue sees of them.
use Rattle.std.proofs.Common.{◌≡◌, ℕ, ◌+◌, Bool, true, false, eqb, cond, ◌||◌, List, [], ◌∷◌, ◌++◌, map, Option}
use Rattle.std.proofs.Common.{None, Some, append_assoc, append-nil, is_none, refl, sym, ap, ◌∙◌}
use Rattle.std.specs.List.{list_any}
use Rattle.std.proofs.lemmas.Bool.{cond-true}
use Rattle.diagram.specs.Arrows.{arrows_of, pairs}
use Rattle.diagram.specs.Claims.{IsFed, giving_up, sends, sends_at, sends_in, start_of, takes, takes_from}
use Rattle.diagram.specs.Queues.{Seen, after_row, changed, given_up, has_next, losing, nothing}
use Rattle.diagram.specs.Queues.{sending, sent_at, sent_one, taking, took, traffic, traffic_of}
use Rattle.diagram.specs.declared.queues.Place.{Place}
use Rattle.diagram.specs.declared.rows.Mark.{Mark}
use Rattle.diagram.specs.declared.rows.Mark.TheVariants as mark
use Rattle.diagram.specs.declared.rows.Row.{Row}

-- ---- the arrows of a list of items begin where these were sent

pub starts : (lost : Option ℕ) (sent : List Place) (taken : List ℕ) → map start_of (pairs lost sent taken) ≡ sent
starts lost [] taken = refl
starts lost (place ∷ sent) [] = ap (λ (rest : List Place). place ∷ rest) (starts lost sent [])
starts lost (place ∷ sent) (row ∷ taken) = ap (λ (rest : List Place). place ∷ rest) (starts lost sent taken)

-- ---- what each step leaves of what was sent

kept_if : {A : Type 0} (of : Seen → A) (b : Bool) (other seen : Seen) → of other ≡ of seen → of (cond b other seen) ≡ of seen
kept_if of true other seen h = h
kept_if of false other seen h = refl

kept_by : {A : Type 0} (of : Seen → A) (change : Seen → Seen) (b : Bool) (seen : Seen) → of (change seen) ≡ of seen
    → of (changed change b seen) ≡ of seen
kept_by of change b seen h = kept_if of b (change seen) seen h

-- a row that takes changes nothing but what is taken
taking_keeps : {A : Type 0} (of : Seen → A) (queue row : ℕ) (from : Option ℕ) (seen : Seen)
    → of (record { sent = seen.sent; taken = seen.taken ++ row ∷ []; lost = seen.lost }) ≡ of seen
    → of (taking queue row from seen) ≡ of seen
taking_keeps of queue row None seen h = refl
taking_keeps of queue row (Some other) seen h =
    kept_by of (took row) (eqb other queue) seen
    (kept_if of (has_next seen) (record { sent = seen.sent; taken = seen.taken ++ row ∷ []; lost = seen.lost }) seen h)

given_up_is : {A : Type 0} (of : Seen → A) (row : ℕ) (seen : Seen)
    → of (record { sent = seen.sent; taken = seen.taken; lost = Some row }) ≡ of seen → of (given_up row seen) ≡ of seen
given_up_is of row seen h =
    kept_if of (is_none seen.lost) (record { sent = seen.sent; taken = seen.taken; lost = Some row }) seen h

losing_sent : (queue row : ℕ) (others : List ℕ) (seen : Seen) → (losing queue row others seen).sent ≡ seen.sent
losing_sent queue row [] seen = refl
losing_sent queue row (other ∷ others) seen =
    losing_sent queue row others (changed (given_up row) (eqb other queue) seen)
    ∙ kept_by (λ (s : Seen). s.sent) (given_up row) (eqb other queue) seen (given_up_is (λ (s : Seen). s.sent) row seen refl)

losing_taken : (queue row : ℕ) (others : List ℕ) (seen : Seen) → (losing queue row others seen).taken ≡ seen.taken
losing_taken queue row [] seen = refl
losing_taken queue row (other ∷ others) seen =
    losing_taken queue row others (changed (given_up row) (eqb other queue) seen)
    ∙ kept_by (λ (s : Seen). s.taken) (given_up row) (eqb other queue) seen (given_up_is (λ (s : Seen). s.taken) row seen refl)

one_sent : (queue row at : ℕ) (mark : Mark) (seen : Seen) → (sent_one queue row at mark seen).sent ≡ seen.sent ++ sends_at queue row at mark
one_sent queue row at (mark.Note note) seen = sym (append-nil seen.sent)
one_sent queue row at (mark.Sent item) seen =
    elim (eqb item.queue queue) as
    (λ b. (changed (sent_at row at) b seen).sent ≡ seen.sent ++ cond b ((record { row = row; mark = at }) ∷ []) []) [
      | true ↦ refl
      | false ↦ sym (append-nil seen.sent)
    ]

one_taken : (queue row at : ℕ) (mark : Mark) (seen : Seen) → (sent_one queue row at mark seen).taken ≡ seen.taken
one_taken queue row at (mark.Note note) seen = refl
one_taken queue row at (mark.Sent item) seen = kept_by (λ (s : Seen). s.taken) (sent_at row at) (eqb item.queue queue) seen refl

one_lost : (queue row at : ℕ) (mark : Mark) (seen : Seen) → (sent_one queue row at mark seen).lost ≡ seen.lost
one_lost queue row at (mark.Note note) seen = refl
one_lost queue row at (mark.Sent item) seen = kept_by (λ (s : Seen). s.lost) (sent_at row at) (eqb item.queue queue) seen refl

sending_sent : (queue row at : ℕ) (marks : List Mark) (seen : Seen)
    → (sending queue row at marks seen).sent ≡ seen.sent ++ sends_in queue row at marks
sending_sent queue row at [] seen = sym (append-nil seen.sent)
sending_sent queue row at (mark ∷ marks) seen =
    sending_sent queue row (at + 1) marks (sent_one queue row at mark seen)
    ∙ ap (λ (sent : List Place). sent ++ sends_in queue row (at + 1) marks) (one_sent queue row at mark seen)
    ∙ append_assoc seen.sent (sends_at queue row at mark) (sends_in queue row (at + 1) marks)

sending_taken : (queue row at : ℕ) (marks : List Mark) (seen : Seen) → (sending queue row at marks seen).taken ≡ seen.taken
sending_taken queue row at [] seen = refl
sending_taken queue row at (mark ∷ marks) seen =
    sending_taken queue row (at + 1) marks (sent_one queue row at mark seen) ∙ one_taken queue row at mark seen

sending_lost : (queue row at : ℕ) (marks : List Mark) (seen : Seen) → (sending queue row at marks seen).lost ≡ seen.lost
sending_lost queue row at [] seen = refl
sending_lost queue row at (mark ∷ marks) seen =
    sending_lost queue row (at + 1) marks (sent_one queue row at mark seen) ∙ one_lost queue row at mark seen

after_sent : (queue at : ℕ) (row : Row) (seen : Seen)
    → (after_row queue at row seen).sent ≡ seen.sent ++ sends_in queue at 0 row.marks.items
after_sent queue at row seen =
    losing_sent queue at row.gave_up.items (sending queue at 0 row.marks.items (taking queue at row.took seen))
    ∙ sending_sent queue at 0 row.marks.items (taking queue at row.took seen)
    ∙ ap (λ (sent : List Place). sent ++ sends_in queue at 0 row.marks.items)
    (taking_keeps (λ (s : Seen). s.sent) queue at row.took seen refl)

traffic_sent : (queue at : ℕ) (rows : List Row) (seen : Seen) → (traffic queue at rows seen).sent ≡ seen.sent ++ sends queue at rows
traffic_sent queue at [] seen = sym (append-nil seen.sent)
traffic_sent queue at (row ∷ rows) seen =
    traffic_sent queue (at + 1) rows (after_row queue at row seen)
    ∙ ap (λ (sent : List Place). sent ++ sends queue (at + 1) rows) (after_sent queue at row seen)
    ∙ append_assoc seen.sent (sends_in queue at 0 row.marks.items) (sends queue (at + 1) rows)

pub one_arrow_each : (queue : ℕ) (rows : List Row) → map start_of (arrows_of queue rows) ≡ sends queue 0 rows
one_arrow_each queue rows =
    let seen = traffic_of queue rows in
    starts seen.lost seen.sent seen.taken ∙ traffic_sent queue 0 rows nothing

-- ---- what is taken, where each row that takes finds something

abbrev taken_by : (b : Bool) → (row : ℕ) → List ℕ
taken_by b row = cond b (row ∷ []) []

-- a row that finds an item takes it
found : (row : ℕ) (seen : Seen) → has_next seen ≡ true → (took row seen).taken ≡ seen.taken ++ row ∷ []
found row seen h =
    ap (λ (s : Seen). s.taken)
    (cond-true (has_next seen) (record { sent = seen.sent; taken = seen.taken ++ row ∷ []; lost = seen.lost }) seen h)

found_if : (b : Bool) (row : ℕ) (seen : Seen) → (b ≡ true → has_next seen ≡ true)
    → (changed (took row) b seen).taken ≡ seen.taken ++ taken_by b row
found_if true row seen h = found row seen (h refl)
found_if false row seen h = sym (append-nil seen.taken)

taking_taken : (queue row : ℕ) (from : Option ℕ) (seen : Seen) → (takes_from queue from ≡ true → has_next seen ≡ true)
    → (taking queue row from seen).taken ≡ seen.taken ++ taken_by (takes_from queue from) row
taking_taken queue row None seen h = sym (append-nil seen.taken)
taking_taken queue row (Some other) seen h = found_if (eqb other queue) row seen h

after_taken : (queue at : ℕ) (row : Row) (seen : Seen) → (takes_from queue row.took ≡ true → has_next seen ≡ true)
    → (after_row queue at row seen).taken ≡ seen.taken ++ taken_by (takes_from queue row.took) at
after_taken queue at row seen h =
    losing_taken queue at row.gave_up.items (sending queue at 0 row.marks.items (taking queue at row.took seen))
    ∙ sending_taken queue at 0 row.marks.items (taking queue at row.took seen)
    ∙ taking_taken queue at row.took seen h

joined : (b : Bool) (at : ℕ) (rest : List ℕ) → taken_by b at ++ rest ≡ cond b (at ∷ rest) rest
joined true at rest = refl
joined false at rest = refl

traffic_taken : (queue at : ℕ) (rows : List Row) (seen : Seen) → IsFed queue at rows seen
    → (traffic queue at rows seen).taken ≡ seen.taken ++ takes queue at rows
traffic_taken queue at [] seen h = sym (append-nil seen.taken)
traffic_taken queue at (row ∷ rows) seen h =
    traffic_taken queue (at + 1) rows (after_row queue at row seen) h.1
    ∙ ap (λ (taken : List ℕ). taken ++ takes queue (at + 1) rows) (after_taken queue at row seen h.0)
    ∙ append_assoc seen.taken (taken_by (takes_from queue row.took) at) (takes queue (at + 1) rows)
    ∙ ap (λ (taken : List ℕ). seen.taken ++ taken) (joined (takes_from queue row.took) at (takes queue (at + 1) rows))

-- ---- the row that gives a queue up

abbrev or_else : Option ℕ → Option ℕ → Option ℕ
or_else None other = other
or_else (Some row) other = Some row

given_up_lost : (row : ℕ) (sent : List Place) (taken : List ℕ) (lost : Option ℕ)
    → (given_up row (record { sent = sent; taken = taken; lost = lost })).lost ≡ or_else lost (Some row)
given_up_lost row sent taken None = refl
given_up_lost row sent taken (Some at) = refl

-- giving up again changes nothing
or_again : (lost : Option ℕ) (row : ℕ) (b : Bool) → or_else (or_else lost (Some row)) (cond b (Some row) None) ≡ or_else lost (Some row)
or_again None row b = refl
or_again (Some at) row b = refl

or_none : (lost : Option ℕ) → or_else lost None ≡ lost
or_none None = refl
or_none (Some at) = refl

or_assoc : (a b c : Option ℕ) → or_else (or_else a b) c ≡ or_else a (or_else b c)
or_assoc None b c = refl
or_assoc (Some at) b c = refl

changed_lost : (row : ℕ) (b : Bool) (seen : Seen) → (changed (given_up row) b seen).lost ≡ or_else seen.lost (cond b (Some row) None)
changed_lost row true seen = given_up_lost row seen.sent seen.taken seen.lost
changed_lost row false seen = sym (or_none seen.lost)

any_step : (b c : Bool) (row : ℕ) → or_else (cond b (Some row) None) (cond c (Some row) None) ≡ cond (b || c) (Some row) None
any_step true c row = refl
any_step false c row = refl

losing_lost : (queue row : ℕ) (others : List ℕ) (seen : Seen)
    → (losing queue row others seen).lost ≡ or_else seen.lost (cond (list_any (λ other. eqb other queue) others) (Some row) None)
losing_lost queue row [] seen = sym (or_none seen.lost)
losing_lost queue row (other ∷ others) seen =
    let any = list_any (λ other. eqb other queue) others in
    losing_lost queue row others (changed (given_up row) (eqb other queue) seen)
    ∙ ap (λ (lost : Option ℕ). or_else lost (cond any (Some row) None)) (changed_lost row (eqb other queue) seen)
    ∙ or_assoc seen.lost (cond (eqb other queue) (Some row) None) (cond any (Some row) None)
    ∙ ap (λ (lost : Option ℕ). or_else seen.lost lost) (any_step (eqb other queue) any row)

after_lost : (queue at : ℕ) (row : Row) (seen : Seen)
    → (after_row queue at row seen).lost ≡ or_else seen.lost (cond (list_any (λ other. eqb other queue) row.gave_up.items) (Some at) None)
after_lost queue at row seen =
    losing_lost queue at row.gave_up.items (sending queue at 0 row.marks.items (taking queue at row.took seen))
    ∙ ap (λ (lost : Option ℕ). or_else lost (cond (list_any (λ other. eqb other queue) row.gave_up.items) (Some at) None))
    (sending_lost queue at 0 row.marks.items (taking queue at row.took seen)
    ∙ taking_keeps (λ (s : Seen). s.lost) queue at row.took seen refl)

given_step : (b : Bool) (at : ℕ) (rest : Option ℕ) → or_else (cond b (Some at) None) rest ≡ cond b (Some at) rest
given_step true at rest = refl
given_step false at rest = refl

traffic_lost : (queue at : ℕ) (rows : List Row) (seen : Seen)
    → (traffic queue at rows seen).lost ≡ or_else seen.lost (giving_up queue at rows)
traffic_lost queue at [] seen = sym (or_none seen.lost)
traffic_lost queue at (row ∷ rows) seen =
    let any = list_any (λ other. eqb other queue) row.gave_up.items in
    traffic_lost queue (at + 1) rows (after_row queue at row seen)
    ∙ ap (λ (lost : Option ℕ). or_else lost (giving_up queue (at + 1) rows)) (after_lost queue at row seen)
    ∙ or_assoc seen.lost (cond any (Some at) None) (giving_up queue (at + 1) rows)
    ∙ ap (λ (lost : Option ℕ). or_else seen.lost lost) (given_step any at (giving_up queue (at + 1) rows))

pub fed_in_order : (queue : ℕ) (rows : List Row) → IsFed queue 0 rows nothing
    → arrows_of queue rows ≡ pairs (giving_up queue 0 rows) (sends queue 0 rows) (takes queue 0 rows)
fed_in_order queue rows h =
    let seen = traffic_of queue rows in
    ap (λ (lost : Option ℕ). pairs lost seen.sent seen.taken) (traffic_lost queue 0 rows nothing)
    ∙ ap (λ (sent : List Place). pairs (giving_up queue 0 rows) sent seen.taken) (traffic_sent queue 0 rows nothing)
    ∙ ap (λ (taken : List ℕ). pairs (giving_up queue 0 rows) (sends queue 0 rows) taken) (traffic_taken queue 0 rows nothing h)
