-- The numbers of ways. A way is the direction of a connection to one of its two nodes.
use Rattle.std.specs.Prelude.{◌≡◌, ℕ, List, Some}
use Rattle.std.specs.List.{slice_get}
use Rattle.dist_model.specs.Names.{Name}
use Rattle.erl_names.specs.declared.trunk.TrunkId.{TrunkId}
use Rattle.run_diagrams.specs.declared.queues.Way.{Way}

abbrev pub way_of : TrunkId → Name → Way
way_of trunk to = record { trunk = trunk; to = to }

-- a number is that of this way
abbrev pub IsNumber : List Way → ℕ → Way → Type 0
IsNumber ways number way = slice_get ways number ≡ Some way

-- no way has two numbers
abbrev pub AreApart : List Way → Type 0
AreApart ways = (i j : ℕ) (way : Way) → IsNumber ways i way → IsNumber ways j way → i ≡ j
