-- The order of names, incarnations and connections.
use Rattle.std.specs.Prelude.{ℕ, List}
use Rattle.std.specs.declared.cmp.Ordering.{Ordering}
use Rattle.std.specs.Ordering.{nat_cmp, ordering_then}
use Rattle.std.specs.Cmp.Lexicographic.{slice_cmp}
use Rattle.erl_names.specs.declared.trunk.TrunkId.{TrunkId}
use Rattle.erl_names.specs.contracts.name.NodeNameOrd.TheImpl as name_ord
use Rattle.erl_names.specs.contracts.creation.CreationOrd.TheImpl as creation_ord
use Rattle.erl_names.specs.contracts.trunk.TrunkIdOrd.TheImpl as trunk_ord

-- by their bytes
abbrev pub name_cmp : List ℕ → List ℕ → Ordering
name_cmp = slice_cmp nat_cmp

-- the dialer's name, then the count
abbrev pub trunk_cmp : TrunkId → TrunkId → Ordering
trunk_cmp a b = ordering_then (name_cmp a.dialer b.dialer) (nat_cmp a.count b.count)

-- what `cmp` answers
abbrev pub names_compared : List ℕ → List ℕ → Ordering
names_compared = (name_ord.ghosts).cmp

abbrev pub creations_compared : ℕ → ℕ → Ordering
creations_compared = (creation_ord.ghosts).cmp

abbrev pub trunks_compared : TrunkId → TrunkId → Ordering
trunks_compared = (trunk_ord.ghosts).cmp
