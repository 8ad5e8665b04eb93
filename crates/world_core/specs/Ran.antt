-- The events of a world in code, which lead to the same as in the model.
use Rattle.std.specs.Prelude.{◌≡◌, ◌++◌, List, [], ◌∷◌, map}
use Rattle.dist_model.specs.Fates.{DownsRightly, ReactsRightly}
use Rattle.dist_model.specs.Histories.{told}
use Rattle.dist_model.specs.Names.{Name}
use Rattle.dist_model.specs.Runs.{Goes, Runs}
use Rattle.dist_model.specs.Safety.{Safe}
use Rattle.dist_model.specs.Traces.{traced}
use Rattle.dist_model.specs.World as model
use Rattle.node_core.specs.NodeEvents.{event_at}
use Rattle.node_core.specs.Told.{Answered, Tells}
use Rattle.world_core.specs.Names.{name_at}
use Rattle.world_core.specs.Stands.{StandsFor}
use Rattle.world_core.specs.declared.event.Event.{Event}
use Rattle.world_core.specs.declared.world.World.{World}

abbrev pub event_in : List Name → Event → model.Event
event_in names e = event_at (name_at names e.node) e.event

abbrev pub events_in : List Name → List Event → List model.Event
events_in names = map (event_in names)

abbrev pub TellAll : List Answered → List model.Report → Type 0
TellAll [] [] = Unit {0}
TellAll (answer ∷ answers) (report ∷ reports) = Tells answer report × TellAll answers reports
TellAll _ _ = ⊥

-- one event: the model's step, or OutOfMemory where the step refuses nothing. The new world stands for the model's
pub record Came (new : World) (m : model.World) (event : model.Event) (answer : Answered) : Type 0 where
  pub report : model.Report
  pub next : model.World
  pub goes : Goes m event report next
  pub tells : Tells answer report
  pub stands : StandsFor new next

-- a list of events: a run of the model, report by report
pub record Ran (new : World) (m : model.World) (events : List model.Event) (answers : List Answered) : Type 0 where
  pub reports : List model.Report
  pub next : model.World
  pub runs : Runs m events reports next
  pub tells : TellAll answers reports
  pub stands : StandsFor new next

-- the world between `before` and the events behind it is safe
pub record WasSafe (m : model.World) (before : List model.Event) (reports : List model.Report) : Type 0 where
  pub earlier : List model.Report
  pub later : List model.Report
  pub parts : reports ≡ earlier ++ later
  pub now : model.World
  pub runs : Runs m before earlier now
  pub safe : Safe (traced m before earlier []) now

-- the report of the event behind `before` is right: it tells of an exit of a link only to a process that held this link active, or that
-- links in this very event to a node that isn't reached, and of an exit or a DOWN only with a reason that is true in the world before it
pub record WasRight (m : model.World) (before : List model.Event) (event : model.Event) (reports : List model.Report) : Type 0 where
  pub earlier : List model.Report
  pub report : model.Report
  pub later : List model.Report
  pub parts : reports ≡ earlier ++ report ∷ later
  pub now : model.World
  pub runs : Runs m before earlier now
  pub reacts : ReactsRightly (told before earlier []) now event report
  pub downs : DownsRightly (traced m before earlier []) now event report

-- from an opening world: Safe holds at the end and before each event, and each report is right
pub record RanSafely (new : World) (m : model.World) (events : List model.Event) (answers : List Answered) : Type 0 where
  pub ran : Ran new m events answers
  pub at_the_end : Safe (traced m events ran.reports []) ran.next
  pub before_each : (before behind : List model.Event) → events ≡ before ++ behind → WasSafe m before ran.reports
  pub each_report : (before behind : List model.Event) (event : model.Event) → events ≡ before ++ event ∷ behind
      → WasRight m before event ran.reports
