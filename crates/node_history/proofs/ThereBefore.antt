-- What an act answers is there before, but for what takes no memory.
use Rattle.std.proofs.Common.{◌≡◌, ℕ, Option, None, Some, Bool, true, false, not, is_some}
use Rattle.std.proofs.Common.{List, nat_lt, ◌+◌, ◌^◌, ◌&&◌, if◌then◌else◌, refl, sym, ap}
use Rattle.std.specs.FinMap as fm
use Rattle.dist_model.specs.Calls.{call, is_undefined}
use Rattle.dist_model.specs.Commands.{Accepts, Outcome, Refuses, with_id}
use Rattle.dist_model.specs.Dialing.{has_name, next_trunk}
use Rattle.dist_model.specs.Losses.{lose, lose_at}
use Rattle.dist_model.specs.Monitoring.{demonitor_by}
use Rattle.dist_model.specs.Names.{Name, same_name, same_pid}
use Rattle.dist_model.specs.Naming.{name_of}
use Rattle.dist_model.specs.Node.{Node, end_of, ends_of, is_stranger, living, monitors_names, side_where}
use Rattle.dist_model.specs.NodeEvents as model
use Rattle.dist_model.specs.NodeEvents.{at_node}
use Rattle.dist_model.specs.Sides as side
use Rattle.dist_model.specs.Sides.{State, TrunkSide, is_gone}
use Rattle.dist_model.specs.Work.{Work, at_work}
use Rattle.dist_model.specs.declared.command.Command.{Command}
use Rattle.dist_model.specs.declared.command.Command.TheVariants as command
use Rattle.dist_model.specs.declared.report.Answer.{Answer}
use Rattle.erl_control.specs.Fits.{fits}
use Rattle.erl_names.specs.Draw as kind
use Rattle.erl_names.specs.Ids.{reference_of}
use Rattle.erl_names.specs.Minted.{id_of}
use Rattle.erl_names.specs.declared.trunk.TrunkId.{TrunkId}
use Rattle.erl_term.specs.declared.refusal.Refusal.{Refusal}
use Rattle.erl_term.specs.declared.term.Pid.{Pid}
use Rattle.erl_term.specs.declared.term.Reference.{Reference}
use Rattle.link_core.specs.Table.{is_active}
use Rattle.link_core.specs.declared.end.End.{End}
use Rattle.monitor_core.specs.declared.monitor.Watch.{Watch}
use Rattle.node_history.specs.Acts.{is_act}
use Rattle.node_history.specs.Spares.{AreLinksFor, AreLinksOf, Fills, holder_for, holder_of, message_for, message_of}
use Rattle.node_history.specs.declared.spare.Spare.{Spare}
use Rattle.node_core.specs.NodeEvents.{met}
use Rattle.node_core.specs.declared.node_event.NodeEvent.{NodeEvent}
use Rattle.node_core.specs.declared.node_event.NodeEvent.TheVariants as event

module _ (spare : Spare) where
  only_if : (b : Bool) (e : Refusal) (o : Outcome) → Fills spare o → Fills spare (if b then o else Refuses e)
  only_if true e o h = h
  only_if false e o h = tt

  unless : (b : Bool) (e : Refusal) (o : Outcome) → Fills spare o → Fills spare (if b then Refuses e else o)
  unless true e o h = tt
  unless false e o h = h

  either_way : (b : Bool) (o p : Outcome) → Fills spare o → Fills spare p → Fills spare (if b then o else p)
  either_way true o p h k = h
  either_way false o p h k = k

  by_id : (o : Option ℕ) (f : ℕ → Outcome) → ((id : ℕ) → Fills spare (f id)) → Fills spare (with_id o f)
  by_id None f h = tt
  by_id (Some id) f h = h id

  -- where the process is living
  if_living : (b c : Bool) (e : Refusal) (o : Outcome) → b ≡ c → (b ≡ true → Fills spare o) → Fills spare (if c then o else Refuses e)
  if_living b true e o is h = h is
  if_living b false e o is h = tt

  watched : (monitor : Option Watch) (p : Pid) (r : Reference) (work : Work) → Fills spare (demonitor_by monitor p r work)
  watched None p r work = tt
  watched (Some monitor) p r work = only_if (same_pid monitor.owner p) Refusal.NotTheOwner _ refl

  lost_at : (state : State) (trunk : TrunkId) (s : TrunkSide) (work : Work) → Fills spare (lose_at state trunk s work)
  lost_at side.Losing trunk s work = tt
  lost_at side.Gone trunk s work = tt
  lost_at _ trunk s work = refl

  lost : (m : Node) (trunk : TrunkId) (s : Option TrunkSide) → Fills spare (lose m trunk s)
  lost m trunk None = tt
  lost m trunk (Some s) = lost_at s.state trunk s (at_work m)

  module _ (m : Node) (atom : spare.atom ≡ m.mint.name) (name : spare.name ≡ m.mint.name) where
    acted : (p : Pid) (o : Outcome) → Fills spare o → Fills spare (if living m p then o else Refuses Refusal.NoSuchProcess)
    acted p o h = only_if (living m p) Refusal.NoSuchProcess o h

    towards : (p q : Pid) (o : Outcome) → Fills spare o
        → Fills spare (if living m p then
        (if same_name q.node m.mint.name && is_stranger m q then Refuses Refusal.Forged else o) else Refuses Refusal.NoSuchProcess)
    towards p q o h = acted p _ (unless (same_name q.node m.mint.name && is_stranger m q) Refusal.Forged o h)

    called : (asked : Command) → spare.message ≡ message_of m asked → spare.holder ≡ holder_of m asked → AreLinksOf spare.links m asked → m.up ≡ true
        → Fills spare (call m asked)
    called command.Spawn message holder links up =
        by_id (id_of m.mint kind.Pid) _
        (λ id. ap (λ n. Answer.Pid (record { node = n; creation = m.mint.creation; id = id; serial = 0 })) atom)
    called (command.Send p q term) message holder links up = towards p q _ (only_if (fits term) Refusal.TooLong _ refl)
    called (command.SendName p target name term) message holder links up = acted p _ (only_if (fits term) Refusal.TooLong _ refl)
    called (command.Link p q) message holder links up = towards p q _ refl
    called (command.Unlink p q) message holder links up =
        towards p q _ (either_way (is_active (end_of m p q)) _ _ (by_id (id_of m.mint kind.UnlinkId) _ (λ id. refl)) refl)
    called (command.Monitor p q) message holder links up =
        towards p q _ (by_id (id_of m.mint kind.Reference) _
        (λ count. ap (λ n. Answer.Reference (record (reference_of m.mint count) { node = n })) atom))
    called (command.MonitorName p target name) message holder links up =
        acted p _ (only_if (monitors_names m target) Refusal.NotOffered _ (by_id (id_of m.mint kind.Reference) _
        (λ count. ap (λ n. Answer.Reference (record (reference_of m.mint count) { node = n })) atom)))
    called (command.Demonitor p r) message holder links up = acted p _ (watched (fm.get m.watches r) p r (at_work m))
    called (command.Trap p on) message holder links up = acted p _ refl
    called (command.ExitTo p q reason) message holder links up = towards p q _ (only_if (fits reason) Refusal.TooLong _ refl)
    called (command.ExitSelf p reason) message holder links up = acted p _ (only_if (fits reason) Refusal.TooLong _ refl)
    called (command.Receive p) message holder links up = acted p _ (ap (λ x. Answer.Message x) message)
    called (command.LinksOf p) message holder links up =
        if_living (living m p) (living m p) Refusal.NoSuchProcess _ refl (λ is. ap (λ x. Answer.Links x) (links up is))
    called (command.IsAlive p) message holder links up = refl
    called (command.Register p name) message holder links up =
        acted p _ (unless (is_undefined name) Refusal.BadName _
        (unless (is_some (fm.get m.names name)) Refusal.NameTaken _
        (unless (is_some (name_of m.names p)) Refusal.HasName _ refl)))
    called (command.Unregister p) message holder links up =
        acted p _ (only_if (is_some (name_of m.names p)) Refusal.NoName _ refl)
    called (command.WhereIs name) message holder links up = ap (λ x. Answer.Holder x) holder

    if_up : (u : Bool) (o : Outcome) → m.up ≡ u → (m.up ≡ true → Fills spare o) → Fills spare (if u then o else Refuses Refusal.NodeDown)
    if_up true o is h = h is
    if_up false o is h = tt

    pub fills : (names : List Name) (what : NodeEvent) → is_act what ≡ true → spare.message ≡ message_for m what → spare.holder ≡ holder_for m what
        → AreLinksFor spare.links m what
        → Fills spare (at_node names m (met what None))
    fills names (event.Call asked) act message holder links = if_up m.up _ refl (called asked message holder links)
    fills names (event.Lose trunk) act message holder links = if_up m.up _ refl (λ up. lost m trunk (fm.get m.sides trunk))
    fills names (event.Dial peer word) act message holder links = if_up m.up _ refl (λ up.
        unless (same_name peer m.mint.name) Refusal.SelfDial _
        (unless (not (has_name peer names)) Refusal.NothingThere _
        (unless (is_some (side_where (λ state. not (is_gone state)) peer (fm.entries m.sides))) Refusal.Busy _
        (unless (not (nat_lt (m.dialed + 1) (2 ^ 64))) Refusal.IdsUsedUp _
        (ap (λ n. Answer.Trunk (record (next_trunk m) { dialer = n })) name)))))
    fills names event.Stop act message holder links = if_up m.up _ refl (λ up. refl)
    fills names event.Start act message holder links =
        unless m.up Refusal.NodeUp _ (only_if (nat_lt (m.mint.creation + 1) (2 ^ 32)) Refusal.IdsUsedUp _ refl)
    fills names _ act message holder links = absurd (let no : false ≡ true = act in cc)

-- ---- a look at the links of a process changes nothing

looked : (m : Node) (p : Pid) (up alive : Bool) (said : Answer) (work : Work)
    → (if up then (if alive then Accepts (Answer.Links (ends_of m p)) (at_work m) else Refuses Refusal.NoSuchProcess) else
    Refuses Refusal.NodeDown) ≡ Accepts said work
    → (work.node ≡ m) × (said ≡ Answer.Links (ends_of m p))
looked m p true true said work h =
    let a : at_work m ≡ work = cc in let b : Answer.Links (ends_of m p) ≡ said = cc in (sym (ap (λ (w : Work). w.node) a), sym b)
looked m p true false said work h = absurd (cc)
looked m p false alive said work h = absurd (cc)

pub looks : (names : List Name) (m : Node) (p : Pid) (said : Answer) (work : Work)
    → at_node names m (model.Call (command.LinksOf p)) ≡ Accepts said work → (work.node ≡ m) × (said ≡ Answer.Links (ends_of m p))
looks names m p said work h = looked m p m.up (living m p) said work h

-- where it is refused, the node is down or the process isn't living
refused_looks : (m : Node) (p : Pid) (up alive : Bool) (e : Refusal)
    → (if up then (if alive then Accepts (Answer.Links (ends_of m p)) (at_work m) else Refuses Refusal.NoSuchProcess) else
    Refuses Refusal.NodeDown) ≡ Refuses e
    → up ≡ true → alive ≡ true → ⊥
refused_looks m p true true e h u a = cc
refused_looks m p true false e h u a = let no : false ≡ true = a in cc
refused_looks m p false alive e h u a = let no : false ≡ true = u in cc

pub looks_not : (names : List Name) (m : Node) (p : Pid) (e : Refusal)
    → at_node names m (model.Call (command.LinksOf p)) ≡ Refuses e → (links : List (Pid × End)) → AreLinksOf links m (command.LinksOf p)
looks_not names m p e h links up alive = absurd (refused_looks m p m.up (living m p) e h up alive)
