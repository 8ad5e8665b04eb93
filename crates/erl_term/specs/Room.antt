-- What is left of some room once the canonical spelling of a term stands there, without a version byte.
use Rattle.std.specs.Prelude.{◌≡◌, ℕ, ◌+◌, ◌^◌, ◌<◌, ◌≤◌, length, Option, MatchOption}
use Rattle.erl_term.specs.Data.{Data, Items, count}
use Rattle.erl_term.specs.Canonical.{canonical_term, canonical_items, levels_of, most_levels, IsInRange, AreInRange}

-- a value whose spelling has at most so many levels and takes at most so many bytes
abbrev pub HasRoom : ℕ → ℕ → Data → Type 0
HasRoom levels room t = IsInRange t × (levels_of t ≤ levels) × (length (canonical_term t) ≤ room)

-- what is left, and nothing exactly where the term has no room
abbrev pub Leaves : ℕ → ℕ → Data → Option ℕ → Type 0
Leaves levels room t left =
    MatchOption left (HasRoom levels room t → ⊥) (λ n. HasRoom levels room t × (length (canonical_term t) + n ≡ room))

-- the same of the items of a tuple or a list
abbrev pub HaveRoom : ℕ → ℕ → Items → Type 0
HaveRoom levels room ts = (count ts < 2 ^ 32) × AreInRange ts × (most_levels ts ≤ levels) × (length (canonical_items ts) ≤ room)

abbrev pub LeavesOfItems : ℕ → ℕ → Items → Option ℕ → Type 0
LeavesOfItems levels room ts left =
    MatchOption left (HaveRoom levels room ts → ⊥) (λ n. HaveRoom levels room ts × (length (canonical_items ts) + n ≡ room))
