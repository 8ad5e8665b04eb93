-- What travels can be sent: each signal is one that erl_control writes a frame of.
use Rattle.erl_handshake.specs.declared.message.ShakeMsg.{ShakeMsg}
use Rattle.erl_names.specs.Draw as kind
use Rattle.std.proofs.Common.{◌≡◌, ℕ, ◌+◌, ◌^◌, ◌<◌, Bool, true, false, cond, not, List, [], ◌∷◌, ◌++◌, refl, sym}
use Rattle.std.proofs.Common.{ap, ◌∙◌, subst, arith, Option, Some, None, ◌&&◌, Contains, nat_lt}
use Rattle.std.proofs.lemmas.List.Elements.{All-append, All-cons, All-contains, All-head, All-nil, All-tail}
use Rattle.std.specs.List.{All}
use Rattle.std.specs.Option.{is_some}
use Rattle.std.specs.Prelude.{codes}
use Rattle.std.specs.FinMap as fm
use Rattle.std.specs.FinMap.{FinMap}
use Rattle.dist_model.proofs.Calls.{IfGoes, if_cond, if_drawn, if_not, registered_goes, unregistered_goes}
use Rattle.dist_model.proofs.ClosedSides.{any_found}
use Rattle.dist_model.proofs.DueParts.{sent_sweep}
use Rattle.erl_control.proofs.FitsTest.{ascii_text, fits_test}
use Rattle.dist_model.proofs.Founded.{Carried, carried_all, carried_lists, carried_post, carried_write, popped_lists}
use Rattle.dist_model.proofs.HandshakeParts.{fresh_kept, known_kept, lose_kept, swept_kept, Turned, Aged, as_state, parked_ages}
use Rattle.dist_model.proofs.Run.{always_kept}
use Rattle.dist_model.proofs.OneStep.{arrives, while_up}
use Rattle.dist_model.proofs.Seen.{list_in, local_at, new_nodes, replies}
use Rattle.dist_model.proofs.Sides.{side_at}
use Rattle.dist_model.specs.Arrivals.{arrive_at, arrive_fresh, handshake_in, take_local}
use Rattle.dist_model.specs.Calls.{acting, call, toward, with_names}
use Rattle.dist_model.specs.Claims.{EverySignalFits, EverySignalFitsWithin}
use Rattle.dist_model.specs.Commands.{Accepts, Outcome, Refuses}
use Rattle.dist_model.specs.declared.command.Command.{Command}
use Rattle.dist_model.specs.Dialing.{dial, draw_trunk, has_name, next_trunk}
use Rattle.dist_model.specs.Exits.{carry_out, demonitors, exit_for, exits, end_process, link_exit, linked_exit, monitor_exits, sent_exit}
use Rattle.erl_control.specs.Fits.{fits}
use Rattle.dist_model.specs.Handshake.{identity, with_side, write, set_state}
use Rattle.dist_model.specs.Incarnations.{start, stop, stopped}
use Rattle.dist_model.specs.Items.{Item, Signalled, telling}
use Rattle.dist_model.specs.Linking.{exit_follows, link_by, link_new, take_link, take_link_by, unlink_by}
use Rattle.dist_model.specs.Losses.{any_side, link_to, lose, registered_by, sweep, sweep_by, sweep_end, watch_to}
use Rattle.dist_model.proofs.Records.{least_as, sweep_link, sweep_registered, sweep_watch}
use Rattle.dist_model.specs.Monitoring.{bind, bound, demonitor_by, monitor, pid_watch, register, registration_of, unregister, unwatch, watch}
use Rattle.dist_model.specs.Names.{Name, place_cmp, same_name, same_pid}
use Rattle.dist_model.specs.Naming.{NameMap}
use Rattle.dist_model.specs.NodeEvents.{if_up}
use Rattle.dist_model.proofs.Envelopes.{Envelope, outgoing, sent_by, sent_in, sent_in-silent}
use Rattle.dist_model.specs.Node.{Node, end_of, living, is_stranger, monitors_names, reaches, side_where, traps_life, ends_of}
use Rattle.dist_model.specs.Runs.{Always, opening}
use Rattle.dist_model.specs.Sides.{AwaitsStatus, is_gone, is_losing, TrunkSide, Accepting, Gone}
use Rattle.dist_model.specs.Taking.{take_item, take_named}
use Rattle.dist_model.specs.Work.{Addressed, Work, at_work, draw, post, post_all, put, report, set_end, spelled, to_node, to_pid}
use Rattle.dist_model.specs.declared.report.Effect.{Effect}
use Rattle.dist_model.specs.World.{Arrive, Call, Dial, Event, Local, Lose, Start, Stop, Sweep}
use Rattle.dist_model.specs.World.{World, came_of, list_to, node_name, node_of, set_node, step_at}
use Rattle.erl_control.specs.Control.{Fits, IsSendable, IsUnlinkId}
use Rattle.erl_control.specs.declared.signal.Signal.{Signal}
use Rattle.erl_names.specs.Ids.{reference_of}
use Rattle.erl_names.specs.Minted.{Minted, id_of, last}
use Rattle.erl_names.specs.declared.trunk.TrunkId.{TrunkId}
use Rattle.erl_term.specs.Data.{Data, atom, pid}
use Rattle.erl_term.specs.declared.refusal.Refusal.{Refusal}
use Rattle.erl_term.specs.declared.term.Pid.{Pid}
use Rattle.erl_term.specs.declared.term.Reference.{Reference}
use Rattle.exit_core.specs.Messages.{down_term, exit_term, named_term}
use Rattle.exit_core.specs.Reaction.{is_atom, reaction}
use Rattle.exit_core.specs.declared.reaction.ExitSignal.{ExitSignal}
use Rattle.exit_core.specs.declared.reaction.Reaction.{Reaction}
use Rattle.link_core.specs.News.{Exited, LinkNews, Signals, heard, noconnection, noproc, reply}
use Rattle.link_core.specs.declared.end.End.{End}
use Rattle.link_core.specs.declared.end.LinkSignal.{LinkSignal}
use Rattle.monitor_core.specs.Monitors.{as_watch, is_held, itself, target_node, watch_of}
use Rattle.erl_handshake.specs.Roles.{send_name}
use Rattle.erl_term.specs.Canonical.{canonical_atom}
use Rattle.std.proofs.lemmas.Option.{same_Some, none-some}
use Rattle.erl_handshake.specs.declared.setup.Setup.{Setup}
use Rattle.dist_model.specs.Sides.{untold}
use Rattle.monitor_core.specs.declared.monitor.Target.{Target}
use Rattle.monitor_core.specs.declared.monitor.Watch.{Watch}
use Rattle.monitor_core.specs.declared.monitor.Registration.{Registration}
use Rattle.dist_model.specs.Telling.{asked, demonitor_signal, monitor_exit_signal, monitor_signal, object, taken_back, told_end}

abbrev pub Sendable : Item → Type 0
Sendable (Signalled s pay) = IsSendable s
Sendable _ = Unit {0}

abbrev One : Addressed → Type 0
One s = Sendable (Signalled s.signal false)

abbrev AllSendable : List Addressed → Type 0
AllSendable ss = All One ss

-- ---- the reasons that nodes give themselves

killed_fits : Fits (atom (codes "killed"))
unfolding canonical_atom
killed_fits = (ascii_text (codes "killed") refl (omega arith), omega arith, omega arith)

noproc_fits : Fits noproc
unfolding canonical_atom
noproc_fits = (ascii_text (codes "noproc") refl (omega arith), omega arith, omega arith)

noconnection_fits : Fits noconnection
unfolding canonical_atom
noconnection_fits = (ascii_text (codes "noconnection") refl (omega arith), omega arith, omega arith)

next_id : (c id : ℕ) → nat_lt c 18446744073709551615 ≡ true → c + 1 ≡ id → IsUnlinkId id
next_id c id h e = let less : c < 18446744073709551615 = grind arith in (omega (arith, e), omega (arith, e, less))

drawn_id : (m : Minted) (id : ℕ) → id_of m kind.UnlinkId ≡ Some id → IsUnlinkId id
drawn_id m id h = go (nat_lt m.unlink_ids (last kind.UnlinkId)) refl h
  where
    go : (b : Bool) → nat_lt m.unlink_ids (last kind.UnlinkId) ≡ b → cond b (Some (m.unlink_ids + 1)) None ≡ Some id → IsUnlinkId id
    go true e j = next_id m.unlink_ids id e (same_Some (m.unlink_ids + 1) id j)
    go false e j = cc

-- ---- a node in the midst of an event

abbrev X : Work → Type 0
X = Carried Sendable

posted : (s : Addressed) (o : Work) → IsSendable s.signal → X o → X (post s o)
posted s o h k = carried_post Sendable s.node (spelled o.node s) o h k

-- nothing is sent on a trunk
same : (o o' : Work) → o'.node.local ≡ o.node.local → outgoing o' ≡ outgoing o → X o → X o'
same o o' l s k = record {
  local = subst (λ z. All Sendable z) (sym l) k.local;
  sent = subst (λ z. All (λ (e : Envelope). Sendable e.item) z) (sym s) k.sent;
}

silent : (o o' : Work) (f : Effect Item) → o'.node.local ≡ o.node.local → o'.effects ≡ o.effects ++ f ∷ [] → sent_by f ≡ [] → X o → X o'
silent o o' f l e b k = same o o' l (ap sent_in e ∙ sent_in-silent o.effects f b) k

either : (b : Bool) (o p : Work) → X o → X p → X (cond b o p)
either true o p h k = h
either false o p h k = k

-- one that ends
one_or_none : (b : Bool) (s : Addressed) → IsSendable s.signal → AllSendable (cond b (s ∷ []) [])
one_or_none true s h = All-cons One s [] h (All-nil One)
one_or_none false s h = All-nil One

exits_sendable : (p : Pid) (x : Data) (es : List (Pid × End)) → Fits x → AllSendable (exits p x es)
exits_sendable p x [] f = All-nil One
exits_sendable p x (e ∷ es) f = All-append One (exit_for p x e.0 e.1) (exits p x es) (go e.1) (exits_sendable p x es f)
  where
    go : (d : End) → AllSendable (exit_for p x e.0 d)
    go End.Active = one_or_none true (to_pid e.0 (Signal.Exit p e.0 x)) (tt, f)
    go _ = All-nil One

exit_sendable : (t : Target) (o : Pid) (k : Reference) (x : Data) → Fits x → IsSendable (monitor_exit_signal t o k x)
exit_sendable (Target.Pid q) o k x f = (tt, f)
exit_sendable (Target.Name name node) o k x f = (tt, f)

told_sendable : (b : Bool) (t : Target) (o : Pid) (k : Reference) (x : Data) → Fits x → AllSendable (cond b (told_end t o k x ∷ []) [])
told_sendable b t o k x f = one_or_none b (told_end t o k x) (exit_sendable t o k x f)

take_back_sendable : (p : Pid) (t : Target) (k : Reference) → IsSendable (demonitor_signal p t k)
take_back_sendable p (Target.Pid q) k = (tt, tt)
take_back_sendable p (Target.Name name node) k = (tt, tt)

back_sendable : (b : Bool) (p : Pid) (t : Target) (k : Reference) → AllSendable (cond b (taken_back p t k ∷ []) [])
back_sendable b p t k = one_or_none b (taken_back p t k) (take_back_sendable p t k)

ask_sendable : (p : Pid) (t : Target) (k : Reference) → IsSendable (monitor_signal p t k)
ask_sendable p (Target.Pid q) k = (tt, tt)
ask_sendable p (Target.Name name node) k = (tt, tt)

monitor_exits_sendable : (p : Pid) (x : Data) (es : List (Reference × Registration)) → Fits x → AllSendable (monitor_exits p x es)
monitor_exits_sendable p x [] f = All-nil One
monitor_exits_sendable p x (e ∷ es) f = All-append One (cond (same_pid e.1.held p) (told_end e.1.target e.1.owner e.0 x ∷ []) [])
    (monitor_exits p x es)
    (told_sendable (same_pid e.1.held p) e.1.target e.1.owner e.0 x f) (monitor_exits_sendable p x es f)

demonitors_sendable : (p : Pid) (es : List (Reference × Watch)) → AllSendable (demonitors p es)
demonitors_sendable p [] = All-nil One
demonitors_sendable p (e ∷ es) = All-append One (cond (same_pid e.1.owner p) (taken_back p e.1.target e.0 ∷ []) []) (demonitors p es)
    (back_sendable (same_pid e.1.owner p) p e.1.target e.0) (demonitors_sendable p es)

finished : (p : Pid) (x : Data) (o : Work) → Fits x → X o → X (end_process p x o)
finished p x o f k =
    let a = exits p x (ends_of o.node p) in
    let b = monitor_exits p x (fm.entries o.node.registered) in
    let c = demonitors p (fm.entries o.node.watches) in
    silent (post_all ((a ++ b) ++ c) o) (end_process p x o) (Effect.Ended p x) refl refl refl
    (carried_all Sendable (λ s pay c. c) ((a ++ b) ++ c) o
    (All-append One (a ++ b) c (All-append One a b (exits_sendable p x (ends_of o.node p) f)
    (monitor_exits_sendable p x (fm.entries o.node.registered) f)) (demonitors_sendable p (fm.entries o.node.watches))) k)

-- an exit signal comes to one
reacted : (trap : Bool) (s : ExitSignal) (p : Pid) (o : Work) → Fits s.reason → X o → X (carry_out (reaction trap s) p o)
reacted trap s p o f k = go (s.link && not s.is_active) (not s.link && is_atom (codes "kill") s.reason) trap
    (is_atom (codes "normal") s.reason && not s.is_own)
  where
    go : (a b c d : Bool) → X (carry_out (cond a Reaction.Ignore
        (cond b (Reaction.End (atom (codes "killed"))) (cond c (Reaction.Put (exit_term s.sender s.reason))
        (cond d Reaction.Ignore (Reaction.End s.reason))))) p o)
    go false true c d = finished p (atom (codes "killed")) o killed_fits k
    go false false true d = silent o (put p (exit_term s.sender s.reason) o) (Effect.Put p (exit_term s.sender s.reason)) refl refl refl k
    go false false false false = finished p s.reason o f k
    go _ _ _ _ = k

link_exited : (p q : Pid) (x : Data) (o : Work) → Fits x → X o → X (link_exit p q x o)
link_exited p q x o f k = reacted (traps_life (fm.get o.node.lives p)) (linked_exit p q x) p (report (Effect.LinkExit p q x) o) f
    (silent o (report (Effect.LinkExit p q x) o) (Effect.LinkExit p q x) refl refl refl k)

-- ---- an item is taken

replied : (gone : Bool) (p q : Pid) (s : LinkNews) → IsSendable (telling q p s) → AllSendable (replies p q (reply gone s))
replied true p q (Signals LinkSignal.Link) h = one_or_none true (to_pid q (Signal.Exit p q noproc)) (tt, noproc_fits)
replied gone p q (Signals (LinkSignal.Unlink i)) h = one_or_none true (to_pid q (Signal.UnlinkIdAck i p q)) h
replied _ p q _ h = All-nil One

followed : (e : End) (s : LinkNews) (p q : Pid) (o : Work) → IsSendable (telling q p s) → X o → X (exit_follows e s p q o)
followed e (Signals s) p q o h k = k
followed End.Active (Exited x) p q o h k = link_exited p q x o h.1 k
followed _ _ p q o h k = k

link_taken : (p q : Pid) (s : LinkNews) (o : Work) → IsSendable (telling q p s) → X o → X (take_link p q s o)
link_taken p q s o h k = go (living o.node p)
  where
    go : (b : Bool) → X (take_link_by b p q s o)
    go true =
        let o1 = set_end p q (heard (end_of o.node p q) s) o in
        followed (end_of o.node p q) s p q (post_all (replies p q (reply false s)) o1) h
        (carried_all Sendable (λ s pay c. c) (replies p q (reply false s)) o1 (replied false p q s h) (same o o1 refl refl k))
    go false = carried_all Sendable (λ s pay c. c) (replies p q (reply true s)) o (replied true p q s h) k

named_bound : (v : Option Pid) (p : Pid) (name y : Name) (r : Reference) (o : Work) → X o → X (bind v p (Target.Name name y) r o)
named_bound v p name y r o k = go v
  where
    tells : X (post (told_end (Target.Name name y) p r noproc) o)
    tells = posted (told_end (Target.Name name y) p r noproc) o (tt, noproc_fits) k

    go : (v : Option Pid) → X (bind v p (Target.Name name y) r o)
    go None = tells
    go (Some q) = either (living o.node q) _ _ (same o (register r (bound p (Target.Name name y) q) o) refl refl k) tells

named_taken : (v : Option Pid) (m : Data) (o : Work) → X o → X (take_named v m o)
named_taken None m o k = k
named_taken (Some p) m o k = either (living o.node p) (put p m o) o (silent o (put p m o) (Effect.Put p m) refl refl refl k) k

taken : (y : Name) (i : Item) (o : Work) → Sendable i → X o → X (take_item y i o)
taken y (Signalled (Signal.Link q p) pay) o h k = link_taken p q (Signals LinkSignal.Link) o h k
taken y (Signalled (Signal.Exit q p x) pay) o h k = link_taken p q (Exited x) o h k
taken y (Signalled (Signal.UnlinkId i q p) pay) o h k = link_taken p q (Signals (LinkSignal.Unlink i)) o h k
taken y (Signalled (Signal.UnlinkIdAck i q p) pay) o h k = link_taken p q (Signals (LinkSignal.Ack i)) o h k
taken y (Signalled (Signal.Send p m) pay) o h k = either (living o.node p) (put p m o) o
    (silent o (put p m o) (Effect.Put p m) refl refl refl k) k
taken y (Signalled (Signal.RegSend q name m) pay) o h k = named_taken (fm.get o.node.names name) m o k
taken y (Signalled (Signal.Exit2 q p x) pay) o h k = either (living o.node p) _ o
    (reacted (traps_life (fm.get o.node.lives p)) (sent_exit p q x) p o h.1 k) k
taken y (Signalled (Signal.Monitor p q r) pay) o h k = either (living o.node q) _ _ (same o (register r (registration_of p q) o) refl refl k)
    (posted (to_pid p (Signal.MonitorExit q p r noproc)) o (tt, noproc_fits) k)
taken y (Signalled (Signal.MonitorName p name r) pay) o h k = named_bound (fm.get o.node.names name) p name o.node.mint.name r o k
taken y (Signalled (Signal.DemonitorName p name r) pay) o h k =
    either (is_held as_watch o.node.registered r (watch_of p (Target.Name name o.node.mint.name))) (unregister r o) o
    (same o (unregister r o) refl refl k) k
taken y (Signalled (Signal.MonitorNameExit name p r x) pay) o h k =
    either (living o.node p && is_held itself o.node.watches r (watch_of p (Target.Name name y))) _ o
    (silent o (put p (down_term r (named_term name y) x) (unwatch r o)) (Effect.Put p (down_term r (named_term name y) x)) refl refl refl k) k
taken y (Signalled (Signal.Demonitor p q r) pay) o h k = either (is_held as_watch o.node.registered r (pid_watch p q)) (unregister r o) o
    (same o (unregister r o) refl refl k) k
taken y (Signalled (Signal.MonitorExit q p r x) pay) o h k = either (living o.node p && is_held itself o.node.watches r (pid_watch p q)) _ o
    (silent o (put p (down_term r (pid q) x) (unwatch r o)) (Effect.Put p (down_term r (pid q) x)) refl refl refl k) k
taken y _ o h k = k

-- ---- a call

linked_new : (b : Bool) (p q : Pid) (o : Work) → X o → X (link_new b p q o)
linked_new true p q o k = posted (to_pid q (Signal.Link p q)) (set_end p q End.Active o) (tt, tt) (same o (set_end p q End.Active o) refl refl k)
linked_new false p q o k = link_exited p q noconnection (set_end p q End.None o) noconnection_fits
    (same o (set_end p q End.None o) refl refl k)

linked_by : (e : End) (p q : Pid) (o : Work) → X o → X (link_by e p q o)
linked_by End.Active p q o k = k
linked_by _ p q o k = linked_new (reaches o.node q.node) p q o k

unlinked_by : (e : End) (p q : Pid) (o : Work) → X o → IfGoes (unlink_by e p q o) X
unlinked_by End.Active p q o k = if_drawn (id_of o.node.mint kind.UnlinkId) _ X (λ id h.
    let o1 = set_end p q (End.Pending id) (draw kind.UnlinkId o) in posted (to_pid q (Signal.UnlinkId id p q)) o1 (drawn_id o.node.mint id h, tt)
    (same o o1 refl refl k))
unlinked_by _ p q o k = k

demonitored : (v : Option Watch) (p : Pid) (r : Reference) (o : Work) → X o → IfGoes (demonitor_by v p r o) X
demonitored None p r o k = tt
demonitored (Some v) p r o k = if_cond (same_pid v.owner p) _ Refusal.NotTheOwner X
    (λ e. posted (taken_back p v.target r) (unwatch r o) (take_back_sendable p v.target r) (same o (unwatch r o) refl refl k))

module _ (n : Node) (k : X (at_work n)) where
  acted : (p q : Pid) (o : Outcome) → IfGoes o X → IfGoes (acting n p (toward n q o)) X
  acted p q o h = if_cond (living n p) (toward n q o) Refusal.NoSuchProcess X
      (λ l. if_not (same_name q.node n.mint.name && is_stranger n q) o Refusal.Forged X h)

  fitted : (x : Data) (o : Outcome) → (Fits x → IfGoes o X) → IfGoes (cond (fits x) o (Refuses Refusal.TooLong)) X
  fitted x o h = if_cond (fits x) o Refusal.TooLong X (λ e. h ((fits_test x).0 e))

  by_living : (p : Pid) (o : Outcome) → IfGoes o X → IfGoes (acting n p o) X
  by_living p o h = if_cond (living n p) o Refusal.NoSuchProcess X (λ l. h)

  renamed : (m : NameMap) → X (with_names n m)
  renamed m = record { local = k.local; sent = k.sent }

  monitored : (p : Pid) (t : Target) (id : ℕ) → X (monitor (reference_of n.mint id) p t (draw kind.Reference (at_work n)))
  monitored p t id =
      let r = reference_of n.mint id in
      let o1 = draw kind.Reference (at_work n) in
      either (reaches n (target_node t)) _ (put p (down_term r (object t) noconnection) o1)
      (posted (asked p t r) (watch r (watch_of p t) o1) (ask_sendable p t r)
      (same (at_work n) (watch r (watch_of p t) o1) refl refl k))
      (same (at_work n) (put p (down_term r (object t) noconnection) o1) refl refl k)

  called : (c : Command) → IfGoes (call n c) X
  called Command.Spawn = if_drawn (id_of n.mint kind.Pid) _ X (λ id h. record { local = k.local; sent = k.sent })
  called (Command.Send p q m) = acted p q _ (fitted m _ (λ f. posted (to_pid q (Signal.Send q m)) (at_work n) (tt, f) k))
  called (Command.SendName p y name m) = by_living p _ (fitted m _ (λ f. posted (to_node y (Signal.RegSend p name m)) (at_work n) (tt, f) k))
  called (Command.Link p q) = acted p q _ (either (same_pid p q) (at_work n) _ k (linked_by (end_of n p q) p q (at_work n) k))
  called (Command.Unlink p q) = acted p q _ (unlinked_by (end_of n p q) p q (at_work n) k)
  called (Command.Monitor p q) = acted p q _ (if_drawn (id_of n.mint kind.Reference) _ X (λ id h. monitored p (Target.Pid q) id))
  called (Command.MonitorName p y name) = by_living p _ (if_cond (monitors_names n y) _ Refusal.NotOffered X
      (λ f. if_drawn (id_of n.mint kind.Reference) _ X (λ id h. monitored p (Target.Name name y) id)))
  called (Command.Demonitor p r) = by_living p _ (demonitored (fm.get n.watches r) p r (at_work n) k)
  called (Command.Trap p b) = by_living p _ (record { local = k.local; sent = k.sent })
  called (Command.ExitTo p q x) = acted p q _ (fitted x _ (λ f. posted (to_pid q (Signal.Exit2 p q x)) (at_work n) (tt, f) k))
  called (Command.ExitSelf p x) = by_living p _ (fitted x _ (λ f. finished p x (at_work n) f k))
  called (Command.Receive p) = by_living p _ (record { local = k.local; sent = k.sent })
  called (Command.LinksOf p) = by_living p _ k
  called (Command.IsAlive p) = k
  called (Command.Register p name) = if_cond (living n p) _ Refusal.NoSuchProcess X
      (λ l. registered_goes n p X (λ m c. renamed m) name l)
  called (Command.Unregister p) = by_living p _ (unregistered_goes n p X (λ m c. renamed m))
  called (Command.WhereIs name) = k

-- ---- what comes, and connections

side : (t : TrunkId) (s : TrunkSide) (o : Work) → Turned o.node t s → X o → X (with_side t s o)
side t s o h k = same o (with_side t s o) refl refl k

wrote : (t : TrunkId) (y : Name) (m : ShakeMsg) (o : Work) → X o → X (write t y m o)
wrote t y m o k = carried_write Sendable t y m o tt k

-- a sweep
end_swept : (e : End) (p q : Pid) (o : Work) → X o → X (sweep_end e p q o)
end_swept End.Active p q o k = link_exited p q noconnection (set_end p q End.None o) noconnection_fits
    (same o (set_end p q End.None o) refl refl k)
end_swept _ p q o k = same o (set_end p q End.None o) refl refl k

registered_swept : (d : Option (Reference × Registration)) (o : Work) → X o → X (sweep_registered d o)
registered_swept None o k = k
registered_swept (Some e) o k = same o (unregister e.0 o) refl refl k

watch_swept : (d : Option (Reference × Watch)) (y : Name) (o : Work) → X o → X (sweep_watch d y o)
watch_swept None y o k = registered_swept (registered_by y (fm.entries o.node.registered)) o k
watch_swept (Some e) y o k = silent o (put e.1.owner (down_term e.0 (object e.1.target) noconnection) (unwatch e.0 o))
    (Effect.Put e.1.owner (down_term e.0 (object e.1.target) noconnection)) refl refl refl k

link_swept : (d : Option ((Pid × Pid) × End)) (y : Name) (o : Work) → X o → X (sweep_link d y o)
link_swept None y o k = watch_swept (watch_to y (fm.entries o.node.watches)) y o k
link_swept (Some e) y o k = end_swept e.1 e.0.0 e.0.1 o k

close_if_swept : (n : Node) → X (at_work n) → IfGoes (sweep n) X
close_if_swept n k = go (any_side is_losing (fm.entries n.sides)) refl
  where
    go : (d : Option (TrunkId × TrunkSide)) → any_side is_losing (fm.entries n.sides) ≡ d → IfGoes (sweep_by d (at_work n)) X
    go None e = tt
    go (Some d) e =
        let at : side_at n d.0 ≡ Some d.1 = fm.get-entries n.sides d.0
        ∙ (any_found is_losing (fm.entries n.sides) d (fm.entries_sorted n.sides) e).0 in
        let o = sweep_link (link_to d.1.peer (fm.entries n.ends)) d.1.peer (at_work n) in
        subst (λ z. X (Rattle.dist_model.specs.Losses.close_if_swept d.0 d.1 z)) (sym (least_as d.1.peer (at_work n)))
        (swept_kept (λ u y. Unit {0}) X (λ u s o c r. side u s o c) (λ u y m o v. wrote u y m o) d.0 d.1 o
        (ap (λ l. fm.get l d.0) (sent_sweep n d.1.peer).sides ∙ at)
        (λ u b v f p e z. side u (as_state b (Accepting v)) (set_state d.0 d.1 Gone o) (Aged b f (parked_ages b v e)) z)
        (link_swept (link_to d.1.peer (fm.entries n.ends)) d.1.peer (at_work n) k))

dialed : (names : List Name) (n : Node) (y : Name) (w : ℕ) → X (at_work n) → IfGoes (dial names n y w) X
dialed names n y w k = if_not (same_name y n.mint.name) _ Refusal.SelfDial X (if_not (not (has_name y names)) _ Refusal.NothingThere X
    (if_not (is_some (side_where (λ v. not (is_gone v)) y (fm.entries n.sides))) _ Refusal.Busy X
    (if_not (not (nat_lt (n.dialed + 1) (2 ^ 64))) _ Refusal.IdsUsedUp X
    (let s : TrunkSide = record { peer = y; introduction = untold; state = AwaitsStatus w } in
    let o = with_side (next_trunk n) s (at_work (draw_trunk n)) in
    wrote (next_trunk n) y (send_name (identity n)) o (same (at_work n) o refl refl k)))))

started : (n : Node) → IfGoes (start n) X
started n = if_not n.up _ Refusal.NodeUp X (if_cond (nat_lt (n.mint.creation + 1) (2 ^ 32)) _ Refusal.IdsUsedUp X
    (λ e. record { local = All-nil Sendable; sent = All-nil _ }))

-- ---- a world

abbrev Locals : List Node → Type 0
Locals [] = Unit {0}
Locals (n ∷ ns) = All Sendable n.local × Locals ns

local_of : (ns : List Node) (x : Name) (n : Node) → node_of ns x ≡ Some n → Locals ns → All Sendable n.local
local_of [] x n h k = absurd (none-some n h)
local_of (m ∷ ns) x n h k = go (same_name m.mint.name x) h (λ e. local_of ns x n e k.1)
  where
    go : (b : Bool) → cond b (Some m) (node_of ns x) ≡ Some n → (node_of ns x ≡ Some n → All Sendable n.local) → All Sendable n.local
    go true e later = subst (λ (z : Node). All Sendable z.local) (same_Some m n e) k.0
    go false e later = later e

local_set : (ns : List Node) (x : Name) (n : Node) → All Sendable n.local → Locals ns → Locals (set_node ns x n)
local_set [] x n h k = tt
local_set (m ∷ ns) x n h k = go (same_name m.mint.name x) (local_set ns x n h k.1)
  where
    go : (b : Bool) → Locals (set_node ns x n) → Locals (cond b (n ∷ ns) (m ∷ set_node ns x n))
    go true later = (h, k.1)
    go false later = (k.0, later)

record Travels (w : World) : Type 0 where
  lists : (t : TrunkId) (x : Name) → All Sendable (list_to w.lists t x)
  locals : Locals w.nodes

begins : (n : Node) → All Sendable n.local → X (at_work n)
begins n h = record { local = h; sent = All-nil (λ (e : Envelope). Sendable e.item) }

module _ (w : World) (x : Name) (g : Travels w) where
  ends : (m : FinMap place_cmp (List Item)) (o : Outcome) → ((t : TrunkId) (y : Name) → All Sendable (list_to m t y)) → IfGoes o X
      → Travels ((came_of w x m o).world)
  ends m (Refuses j) l h = g
  ends m (Accepts a o) l h = record { lists = carried_lists Sendable m o l h.sent; locals = local_set w.nodes x o.node h.local g.locals }

  while_up_ends : (n : Node) (o : Outcome) → IfGoes o X → Travels ((came_of w x w.lists (if_up n o)).world)
  while_up_ends n o h = while_up w x n (λ s. Travels s.world) (λ r. g) w.lists o (ends w.lists o g.lists h)

  module _ (n : Node) (k : All Sendable n.local) where
    arrived : (t : TrunkId) (z : ℕ) → Travels ((step_at w (Some n) (Arrive t x z)).world)
    arrived t z = arrives w x n (λ s. Travels s.world) (λ r. g) t z
        (λ i rest first at. ends (fm.insert w.lists (t, x) rest) (arrive_fresh (handshake_in i) t z (at_work n))
        (popped_lists Sendable w.lists t x i rest first g.lists) (fresh_kept (λ u y. Unit {0}) X (λ u s o c r. side u s o c)
        (λ u y m o v. wrote u y m o) t tt (handshake_in i) z (at_work n) at (begins n k)))
        (λ i rest v first at over. ends (fm.insert w.lists (t, x) rest) (arrive_at (handshake_in i) t v i (at_work n))
        (popped_lists Sendable w.lists t x i rest first g.lists)
        (known_kept (λ u y. Unit {0}) X (λ u s o c r. side u s o c) (λ u y m o v. wrote u y m o) t v (at_work n) at (begins n k) i
        (λ u h. taken v.peer i (at_work n) (All-head Sendable i rest (subst (λ l. All Sendable l) first (g.lists t x))) (begins n k))
        (handshake_in i)))

    local_taken : (l : List Item) → n.local ≡ l → Travels ((came_of w x w.lists (take_local n l)).world)
    local_taken [] e = g
    local_taken (i ∷ xs) e =
        let h : All Sendable (i ∷ xs) = subst (λ l. All Sendable l) e k in
        ends w.lists (take_local n (i ∷ xs)) g.lists (taken n.mint.name i (at_work (record n { local = xs })) (All-head Sendable i xs h)
        (begins (record n { local = xs }) (All-tail Sendable i xs h)))

travels_at : (w : World) (o : Option Node) (e : Event) → node_of w.nodes (node_name e) ≡ o → Travels w → Travels ((step_at w o e).world)
travels_at w None e h g = g
travels_at w (Some n) (Call x c) h g =
    let k = local_of w.nodes x n h g.locals in while_up_ends w x g n (call n c) (called n (begins n k) c)
travels_at w (Some n) (Arrive t x z) h g = arrived w x g n (local_of w.nodes x n h g.locals) t z
travels_at w (Some n) (Local x) h g =
    let k = local_of w.nodes x n h g.locals in
    while_up w x n (λ s. Travels s.world) (λ r. g) w.lists (take_local n n.local) (local_taken w x g n k n.local refl)
travels_at w (Some n) (Lose t x) h g =
    let k = local_of w.nodes x n h g.locals in
    while_up_ends w x g n (lose n t (fm.get n.sides t))
    (lose_kept (λ u y. Unit {0}) X (λ u s o c r. side u s o c) (λ u y m o v. wrote u y m o) n t (fm.get n.sides t) refl (begins n k))
travels_at w (Some n) (Sweep x) h g =
    let k = local_of w.nodes x n h g.locals in while_up_ends w x g n (sweep n) (close_if_swept n (begins n k))
travels_at w (Some n) (Dial x y z) h g =
    let k = local_of w.nodes x n h g.locals in while_up_ends w x g n (dial w.names n y z) (dialed w.names n y z (begins n k))
travels_at w (Some n) (Stop x) h g =
    let k = local_of w.nodes x n h g.locals in while_up_ends w x g n (stop n) (begins (stopped n) k)
travels_at w (Some n) (Start x) h g = ends w x g w.lists (start n) g.lists (started n)

opens : (cs : List (Name × Setup)) → Travels (opening cs)
opens cs = record {
  lists = λ t x. subst (λ l. All Sendable l) (sym (ap list_in (fm.get-empty place_cmp (t, x)))) (All-nil Sendable);
  locals = go cs;
}
  where
    go : (ds : List (Name × Setup)) → Locals (new_nodes ds)
    go [] = tt
    go (d ∷ ds) = (All-nil Sendable, go ds)

abbrev kept : (Holds : World → Type 0) → ((w : World) → Travels w → Holds w) → Always Holds
kept Holds = always_kept Travels (λ w e g. travels_at w (node_of w.nodes (node_name e)) e refl g) Holds opens

pub every_signal_fits : Always EverySignalFits
every_signal_fits = kept EverySignalFits (λ w g t x s pay c. All-contains Sendable (list_to w.lists t x) (Signalled s pay) (g.lists t x) c)

pub every_signal_fits_within : Always EverySignalFitsWithin
every_signal_fits_within = kept EverySignalFitsWithin (λ w g x s pay c. go w g s pay (node_of w.nodes x) x refl c)
  where
    go : (w : World) → Travels w → (s : Signal) (pay : Bool) (o : Option Node) (x : Name) → node_of w.nodes x ≡ o
        → Contains (local_at o) (Signalled s pay)
        → IsSendable s
    go w g s pay None x e c = let lt = c.1 in absurd (omega arith)
    go w g s pay (Some n) x e c = All-contains Sendable n.local (Signalled s pay) (local_of w.nodes x n e g.locals) c
