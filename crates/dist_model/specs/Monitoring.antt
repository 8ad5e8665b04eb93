-- Monitors: a process monitors another, or takes that back, and what comes of it.
-- (Reference Manual, Processes, Monitors; ERTS User's Guide, Distribution Protocol, Protocol between Connected Nodes.)
use Rattle.std.specs.Prelude.{Option, None, Some, if◌then◌else◌, ◌&&◌}
use Rattle.std.specs.FinMap as fm
use Rattle.dist_model.specs.Commands.{Accepts, Outcome, Refuses}
use Rattle.dist_model.specs.declared.report.Answer.{Answer}
use Rattle.dist_model.specs.Names.{Name, same_pid}
use Rattle.dist_model.specs.Node.{living, reaches}
use Rattle.dist_model.specs.Telling.{asked, object, taken_back, told_end}
use Rattle.dist_model.specs.Work.{Work, post, put}
use Rattle.erl_term.specs.Data.{Data}
use Rattle.erl_term.specs.declared.refusal.Refusal.{Refusal}
use Rattle.erl_term.specs.declared.term.Pid.{Pid}
use Rattle.erl_term.specs.declared.term.Reference.{Reference}
use Rattle.exit_core.specs.Messages.{down_term}
use Rattle.link_core.specs.News.{noconnection, noproc}
use Rattle.monitor_core.specs.Monitors.{added, as_watch, is_held, itself, target_node, watch_of}
use Rattle.monitor_core.specs.declared.monitor.Registration.{Registration}
use Rattle.monitor_core.specs.declared.monitor.Target.{Target}
use Rattle.monitor_core.specs.declared.monitor.Watch.{Watch}

abbrev pub watch : Reference → Watch → Work → Work
watch r monitor work = record work { node = record (work.node) { watches = fm.insert work.node.watches r monitor } }

abbrev pub unwatch : Reference → Work → Work
unwatch r work = record work { node = record (work.node) { watches = fm.remove work.node.watches r } }

-- a reference that is registered stays as it is
abbrev pub register : Reference → Registration → Work → Work
register r monitor work = record work { node = record (work.node) { registered = added work.node.registered r monitor } }

abbrev pub unregister : Reference → Work → Work
unregister r work = record work { node = record (work.node) { registered = fm.remove work.node.registered r } }

-- p's monitor of q, as its call names it
abbrev pub pid_watch : Pid → Pid → Watch
pid_watch p q = watch_of p (Target.Pid q)

-- p monitors a target under a new reference. Where the target's node isn't reached it gets DOWN at once
abbrev pub monitor : Reference → Pid → Target → Work → Work
monitor r p target work =
    if reaches work.node (target_node target)
    then post (asked p target r) (watch r (watch_of p target) work)
    else put p (down_term r (object target) noconnection) work

-- p takes a monitor back: it has to be its own
abbrev pub demonitor_by : Option Watch → Pid → Reference → Work → Outcome
demonitor_by None p r work = Refuses Refusal.NotTheOwner
demonitor_by (Some watch) p r work =
    if same_pid watch.owner p
    then Accepts Answer.Done (post (taken_back p watch.target r) (unwatch r work))
    else Refuses Refusal.NotTheOwner

-- ---- MONITOR_P comes

-- p's monitor of a target, bound to the process q
abbrev pub bound : Pid → Target → Pid → Registration
bound p target q = record { owner = p; target = target; held = q }

-- of the process q itself
abbrev pub registration_of : Pid → Pid → Registration
registration_of p q = bound p (Target.Pid q) q

-- it is bound to a process that is living. Otherwise p is told that there is no such process
abbrev pub bind : Option Pid → Pid → Target → Reference → Work → Work
bind None p target r work = post (told_end target p r noproc) work
bind (Some q) p target r work =
    if living work.node q then register r (bound p target q) work else post (told_end target p r noproc) work

-- to q
abbrev pub take_monitor : Pid → Pid → Reference → Work → Work
take_monitor p q r work = bind (Some q) p (Target.Pid q) r work

-- to a name of this node: it is bound to the process that has the name now, whoever has it later
abbrev pub take_monitor_name : Pid → Name → Reference → Work → Work
take_monitor_name p name r work = bind (fm.get work.node.names name) p (Target.Name name work.node.mint.name) r work

-- ---- DEMONITOR_P comes to a target: the reference, the owner and the target have to be those of the monitor

abbrev pub take_demonitor : Pid → Target → Reference → Work → Work
take_demonitor p target r work = if is_held as_watch work.node.registered r (watch_of p target) then unregister r work else work

-- ---- MONITOR_P_EXIT of a target comes to p, which gets DOWN where it holds that very monitor

abbrev pub take_monitor_exit : Target → Pid → Reference → Data → Work → Work
take_monitor_exit target p r reason work =
    if living work.node p && is_held itself work.node.watches r (watch_of p target)
    then put p (down_term r (object target) reason) (unwatch r work)
    else work
