-- The registered names of a node's processes, as the map that a node of the model keeps.
-- (Reference Manual, Processes, Registered Processes.)
use Rattle.std.specs.Prelude.{◌≤◌}
use Rattle.std.specs.FinMap as fm
use Rattle.dist_model.specs.Naming.{NameMap}
use Rattle.node_tables.specs.declared.names.Names.{Names}

abbrev pub names : Names → NameMap
names it = fm.from_sorted it.by_name.entries

-- memory is reserved for one more name
abbrev pub HasRoom : Names → Type 0
HasRoom it = (1 ≤ it.by_name.room) × (1 ≤ it.by_holder.room)
