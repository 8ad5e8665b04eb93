-- The effect of a sent signal: it stands in the own list, or is sent on the connection that is up, or nothing happens.
-- (Reference Manual, Processes, Delivery of Signals.)
use Rattle.std.specs.Prelude.{◌≡◌, Bool, true, false, Option, None, Some, List, [], ◌∷◌, ◌++◌}
use Rattle.dist_model.specs.Items.{Item}
use Rattle.dist_model.specs.Names.{Name, same_name}
use Rattle.dist_model.specs.Node.{Node, route}
use Rattle.dist_model.specs.Work.{Addressed, spelled}
use Rattle.dist_model.specs.declared.report.Effect.{Effect}
use Rattle.erl_control.specs.declared.signal.Signal.{Signal}
use Rattle.erl_names.specs.declared.trunk.TrunkId.{TrunkId}
use Rattle.node_frames.specs.Frames.{Framed, IsSpelled, framed}

-- The Bool is true if the signal goes to the own node, of the name `home`. `way` is the connection that is up, if one is. The signal
-- travels as `item`
abbrev pub IsSentBy : Bool → Option TrunkId → Name → Addressed → Item → (local local_after : List Signal)
    (effects effects_after : List (Effect Framed)) → Type 0
IsSentBy true way home letter item local local_after effects effects_after =
    (local_after ≡ local ++ letter.signal ∷ [])
    × (effects_after ≡ effects ++ Effect.Sent None home (framed item) ∷ [])
    × IsSpelled item
IsSentBy false (Some trunk) home letter item local local_after effects effects_after =
    (local_after ≡ local)
    × (effects_after ≡ effects ++ Effect.Sent (Some trunk) letter.node (framed item) ∷ [])
    × IsSpelled item
IsSentBy false None home letter item local local_after effects effects_after =
    (local_after ≡ local) × (effects_after ≡ effects)

-- the same, at a node
abbrev pub IsSent : Node → Addressed → (local local_after : List Signal) (effects effects_after : List (Effect Framed)) → Type 0
IsSent m letter local local_after effects effects_after =
    IsSentBy (same_name letter.node m.mint.name) (route m letter.node) m.mint.name letter (spelled m letter)
    local local_after effects effects_after
