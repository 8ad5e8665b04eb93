-- All that has happened in a run: its events, each with what was reported of it.
use Rattle.std.specs.Prelude.{List, [], ◌∷◌}
use Rattle.dist_model.specs.Names.{Name}
use Rattle.dist_model.specs.Runs.{Runs, opening, reports_of}
use Rattle.dist_model.specs.World.{Event, Report, World}
use Rattle.erl_handshake.specs.declared.setup.Setup.{Setup}

pub record Happening : Type 0 where
  pub event : Event
  pub report : Report

-- the latest first
abbrev pub History : Type 0
History = List Happening

-- these events with their reports, after all that was before
abbrev pub told : List Event → List Report → History → History
told [] reports before = before
told (event ∷ events) [] before = before
told (event ∷ events) (report ∷ reports) before = told events reports (record { event = event; report = report } ∷ before)

-- what has happened once these events have, where memory never wants
abbrev pub history : List Event → World → History
history events world = told events (reports_of events world) []

-- whatever happens, and so at each moment of whatever happens
abbrev pub Throughout : (History → World → Type 0) → Type 0
Throughout Holds = (nodes : List (Name × Setup)) (events : List Event) (reports : List Report) (world : World)
    → Runs (opening nodes) events reports world → Holds (told events reports []) world
