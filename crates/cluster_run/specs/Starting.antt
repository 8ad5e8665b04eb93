-- How nodes are started, and why they aren't.
use Rattle.std.specs.Prelude.{◌≡◌, ◌⊎◌, false, map, true}
use Rattle.dist_books.specs.Acting.{Nodes}
use Rattle.erl_term.specs.declared.refusal.Refusal.{Refusal}
use Rattle.world_core.specs.Names.{are_distinct}

abbrev pub IsNoThread : Refusal → Type 0
IsNoThread e = (e ≡ Refusal.OutOfMemory) ⊎ (e ≡ Refusal.NoThread)

-- no two have one name
abbrev pub HaveNames : Nodes → Type 0
HaveNames nodes = are_distinct (map (λ node. node.0) nodes) ≡ true

abbrev pub IsStarted : (asked started : Nodes) → Type 0
IsStarted asked started = (started ≡ asked) × HaveNames asked

abbrev pub IsUnstarted : Nodes → Refusal → Type 0
IsUnstarted nodes e =
    ((e ≡ Refusal.BadName) × (are_distinct (map (λ node. node.0) nodes) ≡ false)) ⊎ (IsNoThread e × HaveNames nodes)
