-- A connection is lost, and the records of processes beyond it are swept, one at a time.
-- (Reference Manual, Processes, Links and Monitors; Distributed Erlang. That records go one at a time is own.)
use Rattle.std.specs.Prelude.{Option, None, Some, is_some, Bool, if◌then◌else◌, List}
use Rattle.std.specs.Option.{option_map, option_or}
use Rattle.std.specs.FinMap as fm
use Rattle.dist_model.specs.Commands.{Accepts, Outcome, Refuses}
use Rattle.dist_model.specs.declared.report.Answer.{Answer}
use Rattle.dist_model.specs.declared.report.Swept.{Swept}
use Rattle.dist_model.specs.Exits.{link_exit}
use Rattle.dist_model.specs.Handshake.{send_challenge, set_state}
use Rattle.dist_model.specs.Monitoring.{unregister, unwatch}
use Rattle.dist_model.specs.Names.{Name, same_name}
use Rattle.dist_model.specs.Node.{Node, first_where, side_where}
use Rattle.dist_model.specs.Sides.{Gone, Losing, Parked, State, TrunkSide, is_losing, is_parked, lost}
use Rattle.dist_model.specs.Work.{Work, at_work, put, set_end}
use Rattle.erl_names.specs.declared.trunk.TrunkId.{TrunkId}
use Rattle.erl_term.specs.declared.refusal.Refusal.{Refusal}
use Rattle.erl_term.specs.declared.term.Pid.{Pid}
use Rattle.erl_term.specs.declared.term.Reference.{Reference}
use Rattle.exit_core.specs.Messages.{down_term}
use Rattle.link_core.specs.News.{noconnection}
use Rattle.link_core.specs.Table.{is_active}
use Rattle.link_core.specs.declared.end.End.{End}
use Rattle.dist_model.specs.Telling.{object}
use Rattle.monitor_core.specs.Monitors.{target_node}
use Rattle.monitor_core.specs.declared.monitor.Registration.{Registration}
use Rattle.monitor_core.specs.declared.monitor.Watch.{Watch}

-- ---- the node notices a loss

abbrev pub lose_at : State → TrunkId → TrunkSide → Work → Outcome
lose_at Losing trunk side work = Refuses Refusal.NotLive
lose_at Gone trunk side work = Refuses Refusal.NotLive
lose_at state trunk side work = Accepts Answer.Done (set_state trunk side (lost state) work)

abbrev pub lose : Node → TrunkId → Option TrunkSide → Outcome
lose node trunk None = Refuses Refusal.NotLive
lose node trunk (Some side) = lose_at side.state trunk side (at_work node)

-- ---- the least record towards a peer: a link, then a monitor that a process owns, then one that others have of it

abbrev pub link_to : Name → List ((Pid × Pid) × End) → Option ((Pid × Pid) × End)
link_to peer = first_where (λ pair end. same_name pair.1.node peer)

abbrev pub watch_to : Name → List (Reference × Watch) → Option (Reference × Watch)
watch_to peer = first_where (λ r watch. same_name (target_node watch.target) peer)

abbrev pub registered_by : Name → List (Reference × Registration) → Option (Reference × Registration)
registered_by peer = first_where (λ r monitor. same_name monitor.owner.node peer)

pub data Record : Type 0 where
  OfLink : (process partner : Pid) → End → Record
  OfWatch : Reference → Watch → Record
  OfRegistration : Reference → Record

abbrev pub least_record : Name → Node → Option Record
least_record peer node =
    option_or (option_map (λ entry. OfLink entry.0.0 entry.0.1 entry.1) (link_to peer (fm.entries node.ends)))
    (option_or (option_map (λ entry. OfWatch entry.0 entry.1) (watch_to peer (fm.entries node.watches)))
    (option_map (λ entry. OfRegistration entry.0) (registered_by peer (fm.entries node.registered))))

abbrev pub swept_kind : Option Record → Swept
swept_kind None = Swept.Side
swept_kind (Some (OfLink p q end)) = Swept.Link
swept_kind (Some (OfWatch r monitor)) = Swept.Watch
swept_kind (Some (OfRegistration r)) = Swept.Registration

-- a process that is linked gets the exit signal noconnection
abbrev pub sweep_end : End → Pid → Pid → Work → Work
sweep_end end p q work = if is_active end then link_exit p q noconnection (set_end p q End.None work) else set_end p q End.None work

-- the owner of a monitor gets DOWN with noconnection
abbrev pub sweep_record : Option Record → Work → Work
sweep_record None work = work
sweep_record (Some (OfLink p q end)) work = sweep_end end p q work
sweep_record (Some (OfWatch r monitor)) work = put monitor.owner (down_term r (object monitor.target) noconnection) (unwatch r work)
sweep_record (Some (OfRegistration r)) work = unregister r work

-- ---- once no record is left the side is gone, and an attempt that waited for it goes on

abbrev pub released_by : State → TrunkId → TrunkSide → Work → Work
released_by (Parked word) trunk side work = send_challenge trunk side word work
released_by _ trunk side work = work

abbrev pub release_parked : Option (TrunkId × TrunkSide) → Work → Work
release_parked None work = work
release_parked (Some entry) work = released_by entry.1.state entry.0 entry.1 work

abbrev pub close_side : TrunkId → TrunkSide → Work → Work
close_side trunk side work =
    let closed = set_state trunk side Gone work in
    release_parked (side_where is_parked side.peer (fm.entries closed.node.sides)) closed

abbrev pub close_if_swept : TrunkId → TrunkSide → Work → Work
close_if_swept trunk side work = if is_some (least_record side.peer work.node) then work else close_side trunk side work

-- ---- a sweep takes the least record of the least trunk that is lost

abbrev pub any_side : (State → Bool) → List (TrunkId × TrunkSide) → Option (TrunkId × TrunkSide)
any_side test = first_where (λ trunk side. test side.state)

abbrev pub sweep_by : Option (TrunkId × TrunkSide) → Work → Outcome
sweep_by None work = Refuses Refusal.NothingThere
sweep_by (Some entry) work =
    let least = least_record entry.1.peer work.node in
    Accepts (Answer.Swept (swept_kind least)) (close_if_swept entry.0 entry.1 (sweep_record least work))

abbrev pub sweep : Node → Outcome
sweep node = sweep_by (any_side is_losing (fm.entries node.sides)) (at_work node)
