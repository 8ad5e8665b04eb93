-- The event of a line, of those that bring about exactly one.
use Rattle.std.specs.Prelude.{◌≡◌, Some, Ok, if◌then◌else◌}
use Rattle.dist_model.specs.World.{Arrive, Event, World}
use Rattle.script_lines.specs.Said.{Said}
use Rattle.script_session.specs.Session.{State, does, plays, says_does}
use Rattle.script_session.specs.Stage as stage
use Rattle.script_session.specs.Stage.{Scene, Stage, takes_word}

-- an item on a connection that its node knows takes no challenge, and 0 stands for it
abbrev pub normal : World → Event → Event
normal world (Arrive trunk node word) = Arrive trunk node (if takes_word world (Arrive trunk node word) then word else 0)
normal world event = event

-- a command has just the effect of the event, and its text
pub record IsJust (scene : Stage → Scene) (it : Stage) (event : Event) : Type 0 where
  pub own : Event
  pub happens : scene it ≡ stage.happens own it
  pub is : event ≡ normal it.world own

-- the line is run, and is just the event
pub record IsEventOf (state : State) (said : Said) (event : Event) : Type 0 where
  pub runs : says_does state (Ok (Some said)) ≡ Ok (does said state)
  pub just : IsJust (plays state.names said) state.stage event
