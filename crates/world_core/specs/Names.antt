-- The names of the nodes of a world, by their places.
-- (Reference Manual, Distributed Erlang, Nodes.)
use Rattle.std.specs.Prelude.{ℕ, zero, suc, Bool, true, not, List, [], ◌∷◌, map, ◌&&◌}
use Rattle.dist_model.specs.Dialing.{has_name}
use Rattle.dist_model.specs.Names.{Name}
use Rattle.node_core.specs.Model.{model_of}
use Rattle.node_core.specs.declared.node.Node.{Node}

abbrev pub name_of : Node → Name
name_of node = (model_of node).mint.name

abbrev pub names_of : List Node → List Name
names_of = map name_of

-- no name stands there twice
abbrev pub are_distinct : List Name → Bool
are_distinct [] = true
are_distinct (name ∷ rest) = not (has_name name rest) && are_distinct rest

-- behind the last node stands nobody, whose name no node has
abbrev pub name_at : List Name → (place : ℕ) → Name
name_at [] place = []
name_at (name ∷ rest) zero = name
name_at (name ∷ rest) (suc place) = name_at rest place
