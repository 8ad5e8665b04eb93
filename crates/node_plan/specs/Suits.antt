-- The changes that can be made at a node.
use Rattle.std.specs.Prelude.{◌≡◌, ◌+◌, ◌-◌, ◌^◌, ◌<◌, Bool, true, false, List, [], ◌∷◌, None}
use Rattle.std.specs.FinMap as fm
use Rattle.std.specs.FinMap.{FinMap}
use Rattle.dist_model.specs.Naming.{NameMap, name_of}
use Rattle.dist_model.specs.Node.{Life, is_living_life}
use Rattle.dist_model.specs.Sides.{TrunkSide}
use Rattle.erl_names.specs.Ids.{reference_of}
use Rattle.erl_names.specs.Minted.{Minted}
use Rattle.erl_names.specs.Order.{trunk_cmp}
use Rattle.node_tables.specs.Changes.{is_gone_in, IsDown, IsTowards, NoOtherUp, StaysGone, side_changed}
use Rattle.node_tables.specs.declared.change.SideChange.{SideChange}
use Rattle.node_tables.specs.declared.change.SideChange.TheVariants as side
use Rattle.erl_term.specs.Order.{pid_cmp}
use Rattle.node_plan.specs.declared.change.Change.{Change}
use Rattle.node_plan.specs.declared.change.Change.TheVariants as change
use Rattle.node_plan.specs.declared.change.Draws.{Draws}
use Rattle.node_plan.specs.declared.change.Draws.TheVariants as draws
use Rattle.monitor_core.specs.declared.monitor.Watch.{Watch}
use Rattle.node_plan.specs.declared.change.MonitorChange.{MonitorChange}
use Rattle.node_plan.specs.declared.change.MonitorChange.TheVariants as monitor

-- the process that changes is living, and a pid is left for a new process
abbrev pub Suits : Change → (up : Bool) → Minted → FinMap pid_cmp Life → Type 0
Suits change.None up m lives = Unit {0}
Suits change.Spawns up m lives = (up ≡ true) × (m.pids < 2 ^ 32 - 1)
Suits (change.TakesName naming) up m lives = Unit {0}
Suits (change.GivesName p) up m lives = Unit {0}
Suits (change.Of p e l) up m lives = is_living_life (fm.get lives p) ≡ true

-- a process takes a free name, and has none before
abbrev pub NameSuits : Change → NameMap → Type 0
NameSuits (change.TakesName naming) names = (fm.get names naming.name ≡ None) × (name_of names naming.process ≡ None)
NameSuits _ names = Unit {0}

-- a new monitor has the next reference, which the event draws
abbrev pub IsNext : MonitorChange Watch → Draws → Minted → Type 0
IsNext monitor.Stays draw m = Unit {0}
IsNext (monitor.Adds r owned) draw m = (draw ≡ draws.Reference) × (r ≡ reference_of m (m.references + 1)) × (m.references < 2 ^ 18 - 1)
IsNext (monitor.Removes r) draw m = Unit {0}

-- each change of the sides can be made when its turn comes
abbrev pub Lets : SideChange → FinMap trunk_cmp TrunkSide → Type 0
Lets (side.Adds new) sides = (fm.get sides new.trunk ≡ None) × IsDown new.standing
Lets (side.Stands trunk standing) sides = IsDown standing × StaysGone standing (fm.get sides trunk)
Lets (side.ComesUp trunk peer introduction) sides =
    IsTowards peer (fm.get sides trunk) × NoOtherUp sides trunk peer × (is_gone_in (fm.get sides trunk) ≡ false)

abbrev pub LetsAll : List SideChange → FinMap trunk_cmp TrunkSide → Type 0
LetsAll [] sides = Unit {0}
LetsAll (first ∷ rest) sides = Lets first sides × LetsAll rest (side_changed first sides)
