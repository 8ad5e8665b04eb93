-- A plan that does to a node the same as a work of the model.
use Rattle.std.specs.Prelude.{◌≡◌, ◌-◌, ◌^◌, ◌<◌, true, false, map, [], Result, Ok, Err}
use Rattle.std.specs.declared.alloc.AllocError.{AllocError}
use Rattle.dist_model.specs.Node.{Node}
use Rattle.dist_model.specs.Work.{Work}
use Rattle.node_tables.specs.Changes.{side_changed}
use Rattle.node_tables.specs.declared.change.SideChange.{SideChange}
use Rattle.erl_term.specs.declared.term.Pid.{Pid}
use Rattle.node_plan.specs.Suits.{IsNext, LetsAll, NameSuits, Suits}
use Rattle.node_frames.specs.Frames.{AllSpelled, shown}
use Rattle.node_frames.specs.Sendable.{are_sendable}
use Rattle.node_plan.specs.Plans.{committed}
use Rattle.node_plan.specs.declared.change.Change.{Change}
use Rattle.node_plan.specs.declared.change.Change.TheVariants as change
use Rattle.node_plan.specs.declared.change.Draws.TheVariants as draws
use Rattle.node_plan.specs.declared.change.LifeChange.TheVariants as life
use Rattle.node_plan.specs.declared.change.MonitorChange.TheVariants as monitor
use Rattle.node_plan.specs.declared.plan.Plan.{Plan}

-- the plan does nothing that a node may not do
pub record IsSound (plan : Plan) (m : Node) : Type 0 where
  pub suits : Suits plan.change m.up m.mint m.lives
  pub named : NameSuits plan.change m.names
  pub next : IsNext plan.watches plan.draws m.mint
  pub sendable : are_sendable plan.local.items ≡ true

pub record Makes (plan : Plan) (m : Node) (work : Work) : Type 0 where
  pub sound : IsSound plan m
  pub sides : LetsAll plan.sides.items m.sides
  pub dials : plan.dials ≡ true → m.dialed < 2 ^ 64 - 1
  pub node : work.node ≡ committed plan m
  pub effects : plan.effects.items ≡ map shown work.effects
  pub spelled : AllSpelled work.effects

-- the same, unless out of memory
abbrev pub MakesOr : Node → Work → Plan → Result (Unit {0}) AllocError → Type 0
MakesOr m work plan (Ok done) = Makes plan m work
MakesOr m work plan (Err e) = Unit {0}

-- the work, with one side changed
abbrev pub sided : SideChange → Work → Work
sided change work = record work { node = record (work.node) { sides = side_changed change work.node.sides } }

-- the same, for a plan that changes no side and dials nothing
pub record CarriesOut (plan : Plan) (m : Node) (work : Work) : Type 0 where
  pub sound : IsSound plan m
  pub still : plan.sides.items ≡ []
  pub calm : plan.dials ≡ false
  pub node : work.node ≡ committed plan m
  pub effects : plan.effects.items ≡ map shown work.effects
  pub spelled : AllSpelled work.effects

-- the same, unless out of memory
abbrev pub Carries : Node → Work → Plan → Result (Unit {0}) AllocError → Type 0
Carries m work plan (Ok done) = CarriesOut plan m work
Carries m work plan (Err e) = Unit {0}

-- ---- the plan so far

-- the process p may still change
abbrev pub IsFree : Change → Pid → Type 0
IsFree change.None p = Unit {0}
IsFree (change.Of own e life.Stays) p = own ≡ p
IsFree _ p = ⊥

-- the plan is empty
pub record IsBlank (plan : Plan) : Type 0 where
  pub draws : plan.draws ≡ draws.Nothing
  pub change : plan.change ≡ change.None
  pub watches : plan.watches ≡ monitor.Stays
  pub watchers : plan.watchers ≡ monitor.Stays
