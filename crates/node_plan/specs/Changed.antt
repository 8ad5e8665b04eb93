-- The parts of a node after a change.
use Rattle.std.specs.Prelude.{◌+◌, Bool, false, if◌then◌else◌, List, [], ◌∷◌}
use Rattle.std.specs.FinMap as fm
use Rattle.std.specs.FinMap.{FinMap}
use Rattle.dist_model.specs.Calls.{first_message, trapping, without_first}
use Rattle.dist_model.specs.Names.{pair_cmp}
use Rattle.dist_model.specs.Naming.{NameMap, without_holder}
use Rattle.dist_model.specs.Node.{Life}
use Rattle.dist_model.specs.Node as model
use Rattle.dist_model.specs.Sides.{TrunkSide}
use Rattle.dist_model.specs.Work.{delivered}
use Rattle.dist_model.specs.declared.report.Answer.{Answer}
use Rattle.erl_names.specs.Draw as kind
use Rattle.erl_names.specs.Ids.{pid_of}
use Rattle.erl_names.specs.Minted.{Minted, drawn}
use Rattle.erl_names.specs.Order.{trunk_cmp}
use Rattle.erl_term.specs.Order.{pid_cmp}
use Rattle.erl_term.specs.declared.term.Pid.{Pid}
use Rattle.link_core.specs.declared.end.End.{End}
use Rattle.monitor_core.specs.Left.{without_held, without_owner}
use Rattle.monitor_core.specs.Monitors.{RegistrationMap, WatchMap, added}
use Rattle.monitor_core.specs.declared.monitor.Registration.{Registration}
use Rattle.monitor_core.specs.declared.monitor.Watch.{Watch}
use Rattle.node_tables.specs.Changes.{side_changed}
use Rattle.node_tables.specs.declared.change.SideChange.{SideChange}
use Rattle.node_tables.specs.Becomes.{end_changed}
use Rattle.node_tables.specs.Lives.{changed, ending, without_ends}
use Rattle.node_plan.specs.declared.change.Change.{Change}
use Rattle.node_plan.specs.declared.change.Change.TheVariants as change
use Rattle.node_plan.specs.declared.change.Draws.{Draws}
use Rattle.node_plan.specs.declared.change.Draws.TheVariants as draws
use Rattle.node_plan.specs.declared.change.LifeChange.{LifeChange}
use Rattle.node_plan.specs.declared.change.LifeChange.TheVariants as life
use Rattle.node_plan.specs.declared.change.LinkChange.{LinkChange}
use Rattle.node_plan.specs.declared.change.LinkChange.TheVariants as link
use Rattle.node_plan.specs.declared.change.MonitorChange.{MonitorChange}
use Rattle.node_plan.specs.declared.change.MonitorChange.TheVariants as monitor

-- ---- the draws

abbrev pub drawn_by : Draws → Minted → Minted
drawn_by draws.Nothing m = m
drawn_by draws.Reference m = drawn m kind.Reference
drawn_by draws.UnlinkId m = drawn m kind.UnlinkId

abbrev pub spawned_by : Change → Minted → Minted
spawned_by change.None m = m
spawned_by change.Spawns m = drawn m kind.Pid
spawned_by (change.TakesName naming) m = m
spawned_by (change.GivesName p) m = m
spawned_by (change.Of p e l) m = m

-- ---- the processes: first an end changes, and then its process

abbrev pub life_after : LifeChange → Pid → FinMap pid_cmp Life → FinMap pid_cmp Life
life_after life.Stays p lives = lives
life_after (life.Gets message) p lives = changed lives p (λ was. delivered was message)
life_after (life.Ends reason) p lives = changed lives p (ending reason)
life_after (life.Traps on) p lives = changed lives p (λ was. trapping was on)
life_after life.TakesFirst p lives = changed lives p without_first

abbrev pub lives_after : Change → Minted → FinMap pid_cmp Life → FinMap pid_cmp Life
lives_after change.None m lives = lives
lives_after change.Spawns m lives = fm.insert lives (pid_of m (m.pids + 1)) (model.Living false [])
lives_after (change.TakesName naming) m lives = lives
lives_after (change.GivesName p) m lives = lives
lives_after (change.Of p e l) m lives = life_after l p lives

abbrev pub end_after : LinkChange → Pid → FinMap pair_cmp End → FinMap pair_cmp End
end_after link.Stays p ends = ends
end_after (link.Becomes q how) p ends = end_changed ends (p, q) how

-- the ends that are left after a process has ended
abbrev pub ends_left : LifeChange → Pid → FinMap pair_cmp End → FinMap pair_cmp End
ends_left (life.Ends reason) p ends = without_ends ends p
ends_left _ p ends = ends

abbrev pub ends_after : Change → FinMap pair_cmp End → FinMap pair_cmp End
ends_after change.None ends = ends
ends_after change.Spawns ends = ends
ends_after (change.TakesName naming) ends = ends
ends_after (change.GivesName p) ends = ends
ends_after (change.Of p e l) ends = ends_left l p (end_after e p ends)

-- ---- the names: a process takes or gives up its own, and one that ends loses it

abbrev pub names_left : LifeChange → Pid → NameMap → NameMap
names_left (life.Ends reason) p names = without_holder names p
names_left _ p names = names

abbrev pub names_after : Change → NameMap → NameMap
names_after change.None names = names
names_after change.Spawns names = names
names_after (change.TakesName naming) names = fm.insert names naming.name naming.process
names_after (change.GivesName p) names = without_holder names p
names_after (change.Of p e l) names = names_left l p names

-- ---- the monitors: first one comes or goes, and then those of a process that ends

abbrev pub watched : MonitorChange Watch → WatchMap → WatchMap
watched monitor.Stays watches = watches
watched (monitor.Adds r m) watches = fm.insert watches r m
watched (monitor.Removes r) watches = fm.remove watches r

abbrev pub registered : MonitorChange Registration → RegistrationMap → RegistrationMap
registered monitor.Stays watchers = watchers
registered (monitor.Adds r m) watchers = added watchers r m
registered (monitor.Removes r) watchers = fm.remove watchers r

abbrev pub watches_left : Change → WatchMap → WatchMap
watches_left (change.Of p e (life.Ends reason)) watches = without_owner watches p
watches_left _ watches = watches

abbrev pub watchers_left : Change → RegistrationMap → RegistrationMap
watchers_left (change.Of p e (life.Ends reason)) watchers = without_held watchers p
watchers_left _ watchers = watchers

-- ---- the items in flight from the node to itself: the first one goes, and others come

abbrev pub behind_first : {A : Type 0} → List A → List A
behind_first [] = []
behind_first (first ∷ rest) = rest

abbrev pub popped : {A : Type 0} → Bool → List A → List A
popped pops items = if pops then behind_first items else items

-- ---- the sides: one after the other

abbrev pub sides_after : List SideChange → FinMap trunk_cmp TrunkSide → FinMap trunk_cmp TrunkSide
sides_after [] sides = sides
sides_after (first ∷ rest) sides = sides_after rest (side_changed first sides)

-- ---- the answer

-- the answer to a receive is the message, which leaves the mailbox only at the commit
abbrev pub told_by : Change → FinMap pid_cmp Life → Answer → Answer
told_by (change.Of p e life.TakesFirst) lives answer = Answer.Message (first_message (fm.get lives p))
told_by _ lives answer = answer
