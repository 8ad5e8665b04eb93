-- Exits: the end of a process, and the arrival of an exit signal.
-- (Reference Manual, Processes, Receiving Exit Signals; Links; Monitors.)
use Rattle.std.specs.List.{flat_map}
use Rattle.std.specs.Prelude.{true, false, not, if◌then◌else◌, List, [], ◌∷◌, ◌++◌}
use Rattle.std.specs.FinMap as fm
use Rattle.dist_model.specs.Names.{same_pid}
use Rattle.dist_model.specs.Naming.{without_holder}
use Rattle.dist_model.specs.Node.{Ended, ends_of, traps}
use Rattle.dist_model.specs.Telling.{taken_back, told_end}
use Rattle.dist_model.specs.Work.{Addressed, Work, post_all, put, report, to_pid}
use Rattle.dist_model.specs.declared.report.Effect.{Effect}
use Rattle.erl_control.specs.declared.signal.Signal.{Signal}
use Rattle.erl_term.specs.Data.{Data}
use Rattle.erl_term.specs.declared.term.Pid.{Pid}
use Rattle.erl_term.specs.declared.term.Reference.{Reference}
use Rattle.exit_core.specs.Reaction.{reaction}
use Rattle.exit_core.specs.declared.reaction.ExitSignal.{ExitSignal}
use Rattle.exit_core.specs.declared.reaction.Reaction.{Reaction}
use Rattle.link_core.specs.Table.{is_active}
use Rattle.link_core.specs.declared.end.End.{End}
pub use Rattle.monitor_core.specs.Left.{is_bound, is_owned, without_held, without_owner}
use Rattle.monitor_core.specs.declared.monitor.Registration.{Registration}
use Rattle.monitor_core.specs.declared.monitor.Watch.{Watch}

-- ---- a process ends

-- EXIT to each partner to which its link is active
abbrev pub exit_for : Pid → Data → Pid → End → List Addressed
exit_for p reason q end = if is_active end then to_pid q (Signal.Exit p q reason) ∷ [] else []

abbrev pub exits : Pid → Data → List (Pid × End) → List Addressed
exits p reason = flat_map (λ link. exit_for p reason link.0 link.1)

-- MONITOR_P_EXIT to the owner of each monitor that is bound to it
abbrev pub monitor_exits : Pid → Data → List (Reference × Registration) → List Addressed
monitor_exits p reason = flat_map (λ entry.
    if same_pid entry.1.held p then told_end entry.1.target entry.1.owner entry.0 reason ∷ [] else [])

-- DEMONITOR_P for each of its own monitors
abbrev pub demonitors : Pid → List (Reference × Watch) → List Addressed
demonitors p = flat_map (λ entry.
    if same_pid entry.1.owner p then taken_back p entry.1.target entry.0 ∷ [] else [])

-- its mailbox, its name and its records go, and it keeps its reason
abbrev pub buried : Pid → Data → Work → Work
buried p reason work = record work {
  node = record (work.node) {
    lives = fm.insert work.node.lives p (Ended reason);
    names = without_holder work.node.names p;
    ends = fm.retain_keys work.node.ends (λ pair. not (same_pid pair.0 p));
    watches = without_owner work.node.watches p;
    registered = without_held work.node.registered p;
  };
  effects = work.effects ++ Effect.Ended p reason ∷ [];
}

-- each group in the order of its keys
abbrev pub end_process : Pid → Data → Work → Work
end_process p reason work = buried p reason
    (post_all (exits p reason (ends_of work.node p) ++ monitor_exits p reason (fm.entries work.node.registered)
    ++ demonitors p (fm.entries work.node.watches)) work)

-- ---- an exit signal comes to p

-- of its active link with q
abbrev pub linked_exit : Pid → Pid → Data → ExitSignal
linked_exit p q reason = record { sender = q; reason = reason; link = true; is_active = true; is_own = same_pid q p }

-- as q sent it
abbrev pub sent_exit : Pid → Pid → Data → ExitSignal
sent_exit p q reason = record { sender = q; reason = reason; link = false; is_active = false; is_own = same_pid q p }

abbrev pub carry_out : Reaction → Pid → Work → Work
carry_out Reaction.Ignore p work = work
carry_out (Reaction.Put message) p work = put p message work
carry_out (Reaction.End reason) p work = end_process p reason work

-- the link's record is gone by now, so no EXIT goes back to q
abbrev pub link_exit : Pid → Pid → Data → Work → Work
link_exit p q reason work = carry_out (reaction (traps work.node p) (linked_exit p q reason)) p (report (Effect.LinkExit p q reason) work)

abbrev pub other_exit : Pid → Pid → Data → Work → Work
other_exit p q reason work = carry_out (reaction (traps work.node p) (sent_exit p q reason)) p work
