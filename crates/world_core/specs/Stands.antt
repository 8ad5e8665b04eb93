-- The world of the model that a world of code stands for.
-- (Reference Manual, Distributed Erlang; ERTS User's Guide, Distribution Protocol.)
use Rattle.std.specs.Prelude.{◌≡◌, ◌++◌, Bool, true, List, [], ◌∷◌, map}
use Rattle.dist_model.specs.Items.{Item}
use Rattle.dist_model.specs.Names.{Name}
use Rattle.dist_model.specs.Runs.{Runs, opening}
use Rattle.dist_model.specs.World.{Event, Report, list_to, World as TheWorld}
use Rattle.erl_names.specs.declared.trunk.TrunkId.{TrunkId}
use Rattle.node_core.specs.Model.{model_of}
use Rattle.node_frames.specs.Frames.{Framed, IsSpelled, framed}
use Rattle.world_core.specs.Coming.{is_taken}
use Rattle.world_core.specs.Names.{are_distinct, names_of}
use Rattle.world_core.specs.declared.world.World.{World}
use Rattle.world_core.specs.Lists.{at}
use Rattle.erl_handshake.specs.declared.setup.Setup.{Setup}

-- some events lead to it from an opening world
pub record IsReached (m : TheWorld) : Type 0 where
  pub nodes : List (Name × Setup)
  pub events : List Event
  pub reports : List Report
  pub runs : Runs (opening nodes) events reports m

abbrev pub AreSpelled : List Item → Type 0
AreSpelled [] = Unit {0}
AreSpelled (item ∷ rest) = IsSpelled item × AreSpelled rest

-- the frames of the items in flight on a connection to a node. The first may be left out if the node takes
-- none any more
pub record AreFramesOf (taken : Bool) (frames : List Framed) (items : List Item) : Type 0 where
  pub left_out : List Item
  pub kept : List Item
  pub parts : items ≡ left_out ++ kept
  pub are : frames ≡ map framed kept
  pub whole : taken ≡ true → left_out ≡ []

-- the same nodes by the same names, and the frames of the items in flight on each connection to each node
pub record StandsFor (w : World) (m : TheWorld) : Type 0 where
  pub names : m.names ≡ names_of w.nodes.items
  -- no two have one name, and each has one
  pub distinct : are_distinct ([] ∷ m.names) ≡ true
  pub nodes : m.nodes ≡ map model_of w.nodes.items
  pub lists : (trunk : TrunkId) (name : Name)
      → AreFramesOf (is_taken m trunk name) (at w.lists trunk name) (list_to m.lists trunk name)
  pub spelled : (trunk : TrunkId) (name : Name) → AreSpelled (list_to m.lists trunk name)
  pub reached : IsReached m
