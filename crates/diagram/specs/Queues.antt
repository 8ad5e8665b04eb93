-- What a queue sees of the rows: which items are sent on it, and which rows take one.
use Rattle.std.specs.Prelude.{ℕ, ◌+◌, Bool, ◌==◌, ◌&&◌, nat_lt, List, [], ◌∷◌, ◌++◌, length, Option, None, Some, is_none, if◌then◌else◌}
use Rattle.std.specs.Option.{option_map_or}
use Rattle.std.specs.List.{slice_get}
use Rattle.diagram.specs.declared.queues.Place.{Place}
use Rattle.diagram.specs.declared.queues.Traffic.{Traffic}
use Rattle.diagram.specs.declared.rows.Mark.{Mark}
use Rattle.diagram.specs.declared.rows.Mark.TheVariants as mark
use Rattle.diagram.specs.declared.rows.Row.{Row}

-- the places of the items that were sent on it, the rows that took one, and the row that gave it up
pub record Seen : Type 0 where
  pub sent : List Place
  pub taken : List ℕ
  pub lost : Option ℕ

abbrev pub nothing : Seen
nothing = record { sent = []; taken = []; lost = None }

-- an item is on its way, and the queue isn't given up
abbrev pub has_next : Seen → Bool
has_next seen = is_none seen.lost && nat_lt (length seen.taken) (length seen.sent)

-- a row takes the first that is on its way, if one is
abbrev pub took : (row : ℕ) → Seen → Seen
took row seen = if has_next seen then record { sent = seen.sent; taken = seen.taken ++ row ∷ []; lost = seen.lost } else seen

abbrev pub given_up : (row : ℕ) → Seen → Seen
given_up row seen = if is_none seen.lost then record { sent = seen.sent; taken = seen.taken; lost = Some row } else seen

abbrev pub sent_at : (row mark : ℕ) → Seen → Seen
sent_at row mark seen = record { sent = seen.sent ++ (record { row = row; mark = mark }) ∷ []; taken = seen.taken; lost = seen.lost }

-- ---- what a row does to a queue

abbrev pub changed : (Seen → Seen) → (is_it : Bool) → Seen → Seen
changed change is_it seen = if is_it then change seen else seen

abbrev pub taking : (queue row : ℕ) → (took_from : Option ℕ) → Seen → Seen
taking queue row None seen = seen
taking queue row (Some other) seen = changed (took row) (other == queue) seen

abbrev pub sent_one : (queue row at : ℕ) → Mark → Seen → Seen
sent_one queue row at (mark.Note note) seen = seen
sent_one queue row at (mark.Sent item) seen = changed (sent_at row at) (item.queue == queue) seen

abbrev pub sending : (queue row at : ℕ) → List Mark → Seen → Seen
sending queue row at [] seen = seen
sending queue row at (mark ∷ marks) seen = sending queue row (at + 1) marks (sent_one queue row at mark seen)

abbrev pub losing : (queue row : ℕ) → List ℕ → Seen → Seen
losing queue row [] seen = seen
losing queue row (other ∷ others) seen = losing queue row others (changed (given_up row) (other == queue) seen)

-- it takes, then it sends, then it gives queues up
abbrev pub after_row : (queue at : ℕ) → Row → Seen → Seen
after_row queue at row seen = losing queue at row.gave_up.items (sending queue at 0 row.marks.items (taking queue at row.took seen))

abbrev pub traffic : (queue at : ℕ) → List Row → Seen → Seen
traffic queue at [] seen = seen
traffic queue at (row ∷ rows) seen = traffic queue (at + 1) rows (after_row queue at row seen)

-- in the end
abbrev pub traffic_of : (queue : ℕ) → List Row → Seen
traffic_of queue rows = traffic queue 0 rows nothing

-- ---- in a table of what queues see

abbrev pub seen_of : Traffic → Seen
seen_of traffic = record { sent = traffic.sent.items; taken = traffic.taken.items; lost = traffic.lost }

abbrev pub seen_at : List Traffic → ℕ → Seen
seen_at table queue = option_map_or seen_of (slice_get table queue) nothing
