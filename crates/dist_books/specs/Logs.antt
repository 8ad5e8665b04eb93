-- The log of one node. Each of its lines is an event: what the node took off a channel, what it answered, what it put on channels.
-- States, events, answers, channels and symbols are any types. A symbol is what travels: an item, or a byte of one. It carries the
-- stamp of the line that sent it.
use Rattle.std.specs.Prelude.{◌≡◌, ℕ, ◌<◌, Bool, Option, None, Some, List, [], ◌∷◌, ◌++◌, All, map, if◌then◌else◌}

-- what is kept of an event
pub record Entry (E A : Type 0) : Type 0 where
  pub stamp : ℕ
  pub event : E
  pub answer : A

-- and what it took off a channel, if anything, and put on channels
pub record Line (E A C I : Type 0) : Type 0 where
  pub entry : Entry E A
  pub took : Option (C × List (ℕ × I))
  pub sent : List (C × List I)

abbrev pub entries_of : {E A C I : Type 0} → List (Line E A C I) → List (Entry E A)
entries_of log = map (λ line. line.entry) log

-- ---- symbols and their stamps

abbrev pub stamped : {I : Type 0} → ℕ → List I → List (ℕ × I)
stamped stamp symbols = map (λ symbol. (stamp, symbol)) symbols

abbrev pub bare : {I : Type 0} → List (ℕ × I) → List I
bare symbols = map (λ symbol. symbol.1) symbols

abbrev pub bare_took : {C I : Type 0} → Option (C × List (ℕ × I)) → Option (C × List I)
bare_took None = None
bare_took (Some took) = Some (took.0, bare took.1)

-- ---- channels

-- of what is put on several channels, that on this one
abbrev pub on : {C X : Type 0} → (C → C → Bool) → C → List (C × List X) → List X
on same c [] = []
on same c (sent ∷ rest) = (if same c sent.0 then sent.1 else []) ++ on same c rest

-- what is taken off this channel
abbrev pub off : {C X : Type 0} → (C → C → Bool) → C → Option (C × List X) → List X
off same c None = []
off same c (Some took) = if same c took.0 then took.1 else []

-- all that a log sends on a channel, and takes off it
abbrev pub sent_on : {E A C I : Type 0} → (C → C → Bool) → C → List (Line E A C I) → List (ℕ × I)
sent_on same c [] = []
sent_on same c (line ∷ log) = stamped line.entry.stamp (on same c line.sent) ++ sent_on same c log

abbrev pub took_on : {E A C I : Type 0} → (C → C → Bool) → C → List (Line E A C I) → List (ℕ × I)
took_on same c [] = []
took_on same c (line ∷ log) = off same c line.took ++ took_on same c log

-- ---- what a log says of its node

-- the lines lead the node of this number from one state to another
abbrev pub Leads : {S E A C I : Type 0} → (ℕ → S → E → Option (C × List I) → A → S → List (C × List I) → Type 0)
    → ℕ → S → List (Line E A C I) → S → Type 0
Leads acts k from [] to = to ≡ from
Leads {S} acts k from (line ∷ log) to =
    (next : S) × acts k from line.entry.event (bare_took line.took) line.entry.answer next line.sent × Leads acts k next log to

-- what a line takes was sent under stamps before its own
abbrev pub TakesEarlier : {C I : Type 0} → ℕ → Option (C × List (ℕ × I)) → Type 0
TakesEarlier stamp None = Unit {0}
TakesEarlier stamp (Some took) = All (λ symbol. symbol.0 < stamp) took.1

abbrev pub AllTakeEarlier : {E A C I : Type 0} → List (Line E A C I) → Type 0
AllTakeEarlier log = All (λ line. TakesEarlier line.entry.stamp line.took) log

-- ---- a log with one line more

abbrev pub LeadGrows : {S E A C I : Type 0} → (ℕ → S → E → Option (C × List I) → A → S → List (C × List I) → Type 0) → Type 0
LeadGrows {S} {E} {A} {C} {I} acts = (k : ℕ) (from now next : S) (log : List (Line E A C I)) (line : Line E A C I)
    → Leads acts k from log now
    → acts k now line.entry.event (bare_took line.took) line.entry.answer next line.sent → Leads acts k from (log ++ line ∷ []) next

abbrev pub SentGrows : (E A C I : Type 0) → (C → C → Bool) → Type 0
SentGrows E A C I same = (c : C) (log : List (Line E A C I)) (line : Line E A C I)
    → sent_on same c (log ++ line ∷ []) ≡ sent_on same c log ++ stamped line.entry.stamp (on same c line.sent)

abbrev pub TookGrows : (E A C I : Type 0) → (C → C → Bool) → Type 0
TookGrows E A C I same = (c : C) (log : List (Line E A C I)) (line : Line E A C I)
    → took_on same c (log ++ line ∷ []) ≡ took_on same c log ++ off same c line.took
