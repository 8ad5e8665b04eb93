-- The steps that may come next: those of blocks, and those that come by themselves.
-- (ERTS User's Guide, Distribution Protocol; Reference Manual, Processes, Delivery of Signals.)
use Rattle.std.specs.Prelude.{is_some, ℕ, suc, Bool, if◌then◌else◌, List, [], ◌∷◌, ◌++◌, length, map, nat_lt, slice_index_or, Some, Vec}
use Rattle.std.specs.FinMap as fm
use Rattle.std.specs.Global.{Global}
use Rattle.dist_model.specs.Losses.{any_side}
use Rattle.dist_model.specs.Names.{Name}
use Rattle.dist_model.specs.Node.{Node}
use Rattle.dist_model.specs.Sides.{is_losing}
use Rattle.dist_model.specs.World.{World, first_of}
use Rattle.script_explorer.specs.declared.moves.Move.{Move}
use Rattle.script_explorer.specs.declared.moves.Move.TheVariants.{Block, Deliver, Local, Sweep}
use Rattle.script_explorer.specs.declared.plan.Step.{Step}
use Rattle.world_core.specs.Coming.{next_arrival}

-- the steps of each block
abbrev pub steps_of : List (Vec Step Global) → List (List Step)
steps_of blocks = map (λ block. block.items) blocks

-- a step, if it may come
abbrev pub only_if : Bool → Move → List Move
only_if may step = if may then step ∷ [] else []

-- the next step of each block that isn't at its end. `taken` has the number of steps of each block that were taken
abbrev pub block_moves : (place : ℕ) → List (List Step) → (taken : List ℕ) → List Move
block_moves place [] taken = []
block_moves place (block ∷ blocks) taken =
    only_if (nat_lt (slice_index_or taken place 0) (length block)) (Block place) ++ block_moves (suc place) blocks taken

-- at a node, what comes from each of its peers
abbrev pub deliveries : World → Node → (node peer : ℕ) → List Name → List Move
deliveries world it node peer [] = []
deliveries world it node peer (name ∷ names) =
    only_if (is_some (next_arrival world it (Some name))) (Deliver node peer) ++ deliveries world it node (suc peer) names

-- a signal to itself, a record of a lost connection, and what comes from its peers
abbrev pub moves_at : World → (place : ℕ) → Node → List Move
moves_at world place it =
    only_if (is_some (first_of it.local)) (Local place)
    ++ only_if (is_some (any_side is_losing (fm.entries it.sides))) (Sweep place)
    ++ deliveries world it place 0 world.names

-- at each node that is up
abbrev pub node_moves : World → (place : ℕ) → List Node → List Move
node_moves world place [] = []
node_moves world place (it ∷ nodes) = (if it.up then moves_at world place it else []) ++ node_moves world (suc place) nodes

abbrev pub moves : World → List (List Step) → (taken : List ℕ) → List Move
moves world blocks taken = block_moves 0 blocks taken ++ node_moves world 0 world.nodes
