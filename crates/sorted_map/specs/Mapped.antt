-- Entries in the nodes of a tree, of which a spare one has none.
use Rattle.std.specs.Prelude.{◌≡◌, Option, None, Some, List, [], ◌∷◌, T}
use Rattle.std.specs.declared.cmp.Ordering.{Ordering}
use Rattle.std.specs.declared.cmp.Ordering.TheVariants.{Less}
use Rattle.std.specs.FinMap.{is_sorted}

-- those that are there
abbrev pub present : {A : Type 0} → List (Option A) → List A
present [] = []
present (None ∷ rest) = present rest
present (Some x ∷ rest) = x ∷ present rest

-- none is wanting
abbrev pub AllPresent : {A : Type 0} → List (Option A) → Type 0
AllPresent [] = Unit {0}
AllPresent (None ∷ rest) = ⊥
AllPresent (Some x ∷ rest) = AllPresent rest

-- each node has an entry, and they are in the strict order of their keys
abbrev pub AreEntries : {K V : Type 0} → (K → K → Ordering) → List (Option (K × V)) → Type 0
AreEntries cmp items = AllPresent items × T (is_sorted cmp (present items))

-- how an entry stands to the point that is sought, by its key
abbrev pub by_key : {K V : Type 0} → (K → Ordering) → Option (K × V) → Ordering
by_key order None = Less
by_key order (Some entry) = order entry.0

-- the answer at an entry is one at its key
abbrev pub AnswersAtKey : {K V : Type 0} → (K → Ordering → Type 0) → Option (K × V) → Ordering → Type 0
AnswersAtKey gives None answer = answer ≡ Less
AnswersAtKey gives (Some entry) answer = gives entry.0 answer

-- the value of the entry that was found
abbrev pub value_of : {K V : Type 0} → Option (Option (K × V)) → Option V
value_of None = None
value_of (Some None) = None
value_of (Some (Some entry)) = Some entry.1
