-- What each part of an event keeps, but for its handshakes, is kept by the whole event.
use Rattle.erl_names.specs.Draw as kind
use Rattle.std.proofs.Common.{◌≡◌, ℕ, Bool, true, false, cond, not, List, [], ◌∷◌, refl, ap, ◌&&◌, ◌⊎◌, inl, inr, Option, Some, None}
use Rattle.std.proofs.lemmas.Bool.{and_parts}
use Rattle.std.specs.Prelude.{codes}
use Rattle.std.specs.FinMap as fm
use Rattle.std.proofs.lemmas.Option.{same_Some}
use Rattle.dist_model.proofs.Seen.{replies}
use Rattle.dist_model.proofs.Calls.{IfGoes, Renames, if_cond, if_drawn, if_not, living_trapping, living_without, registered_goes, unregistered_goes}
use Rattle.monitor_core.proofs.Held.{target_same}
use Rattle.dist_model.proofs.Keys.{same_pid_true}
use Rattle.dist_model.specs.Calls.{acting, call, spawn_life, toward, trapping, without_first}
use Rattle.dist_model.specs.Commands.{Outcome}
use Rattle.dist_model.specs.declared.command.Command.{Command}
use Rattle.dist_model.specs.Downs.{down_in}
use Rattle.dist_model.specs.Exits.{carry_out, end_process, link_exit, linked_exit, sent_exit}
use Rattle.erl_control.specs.Fits.{fits}
use Rattle.dist_model.specs.Items.{Handshake, Item, Signalled, Tick}
use Rattle.dist_model.specs.Linking.{exit_follows, link_by, link_new, take_link, take_link_by, unlink_by}
use Rattle.dist_model.proofs.Records.{sweep_link, sweep_registered, sweep_watch}
use Rattle.dist_model.specs.Losses.{registered_by, sweep_end, watch_to}
use Rattle.dist_model.specs.Monitoring.{bind, bound, pid_watch, register, registration_of, unregister, unwatch}
use Rattle.dist_model.specs.Names.{Name, same_name, same_pid}
use Rattle.dist_model.specs.Naming.{NameMap}
use Rattle.dist_model.specs.Node.{Life, Node, end_of, is_living_life, living, is_stranger, reaches, traps_life}
use Rattle.dist_model.specs.Taking.{take_item, take_named}
use Rattle.dist_model.specs.Work.{Addressed, Work, at_work, draw, post, post_all, put, report, set_end, set_life, to_node, to_pid}
use Rattle.dist_model.specs.declared.report.Effect.{Effect}
use Rattle.erl_control.specs.declared.signal.Signal.{Signal}
use Rattle.erl_names.specs.Ids.{pid_of}
use Rattle.erl_names.specs.Minted.{id_of}
use Rattle.erl_term.specs.Data.{Data, atom}
use Rattle.erl_term.specs.declared.refusal.Refusal.{Refusal}
use Rattle.erl_term.specs.declared.term.Pid.{Pid}
use Rattle.erl_term.specs.declared.term.Reference.{Reference}
use Rattle.exit_core.specs.Messages.{down_term, exit_term}
use Rattle.exit_core.specs.Reaction.{is_atom, reaction}
use Rattle.exit_core.specs.declared.reaction.ExitSignal.{ExitSignal}
use Rattle.exit_core.specs.declared.reaction.Reaction.{Reaction}
use Rattle.link_core.specs.News.{Exited, LinkNews, Signals, heard, noconnection, noproc, reply}
use Rattle.link_core.specs.declared.end.End.{End}
use Rattle.link_core.specs.declared.end.LinkSignal.{LinkSignal}
use Rattle.monitor_core.specs.Monitors.{as_watch, is_held, is_this, itself, same_target, watch_of}
use Rattle.monitor_core.specs.declared.monitor.Target.{Target}
use Rattle.monitor_core.specs.declared.monitor.Watch.{Watch}
use Rattle.monitor_core.specs.declared.monitor.Registration.{Registration}
use Rattle.dist_model.specs.Telling.{object, told_end}
use Rattle.dist_model.proofs.Entries.{IsBound}
use Rattle.std.specs.Option.{option_map}

-- a signal that founds no claim
abbrev pub is_plain : Signal → Bool
is_plain (Signal.Exit p q r) = false
is_plain (Signal.Monitor p q r) = false
is_plain (Signal.MonitorName p name r) = false
is_plain (Signal.Demonitor p q r) = false
is_plain (Signal.DemonitorName p name r) = false
is_plain (Signal.MonitorExit p q r x) = false
is_plain (Signal.MonitorNameExit name q r x) = false
is_plain _ = true

-- what may be said, why a process may react to an exit, why a monitor may end, and why a registration may come and go
pub record Rules : Type 1 where
  pub Says : Addressed → Type 0
  pub Reacts : Pid → Pid → Data → Type 0
  pub Tells : Reference → Watch → Data → Type 0
  pub Joins : Reference → Registration → Type 0
  pub Drops : Reference → Registration → Type 0

pub record Closed (rules : Rules) (X : Work → Type 0) : Type 0 where
  pub plain : (s : Addressed) → is_plain s.signal ≡ true → rules.Says s
  pub posted : (s : Addressed) (o : Work) → rules.Says s → X o → X (post s o)
  pub end_set : (p q : Pid) (e : End) (o : Work) → (living o.node p ≡ true) ⊎ (e ≡ End.None) → X o → X (set_end p q e o)
  pub drew : (o : Work) → X o → X (draw kind.UnlinkId o)
  pub life_set : (p : Pid) (l : Option Life) (o : Work) → is_living_life l ≡ living o.node p → X o
      → X (record o { node = record (o.node) { lives = set_life o.node.lives p l } })
  pub renamed : (m : NameMap) (o : Work) → Renames o.node m → X o → X (record o { node = record (o.node) { names = m } })
  pub message : (p : Pid) (m : Data) (o : Work) → ((r : Reference) → down_in r p m ≡ []) → X o → X (put p m o)
  pub reacted : (p q : Pid) (x : Data) (o : Work) → rules.Reacts p q x → X o → X (report (Effect.LinkExit p q x) o)
  pub finished : (p : Pid) (x : Data) (o : Work) → X o → X (end_process p x o)
  pub registers : (r : Reference) (m : Registration) (o : Work) → living o.node m.held ≡ true → IsBound m → rules.Joins r m → X o → X (register r m o)
  pub unregisters : (r : Reference) (m : Registration) (o : Work) → fm.get o.node.registered r ≡ Some m → rules.Drops r m → X o
      → X (unregister r o)
  pub ended : (r : Reference) (m : Watch) (x : Data) (o : Work) → fm.get o.node.watches r ≡ Some m → rules.Tells r m x → X o
      → X (put m.owner (down_term r (object m.target) x) (unwatch r o))

-- there is no such process, or it isn't living
abbrev pub NoneLives : Work → Option Pid → Type 0
NoneLives o v = (v ≡ None) ⊎ ((q : Pid) × (v ≡ Some q) × (living o.node q ≡ false))

-- why an item from the node y may be taken
pub record Reasons (rules : Rules) (X : Work → Type 0) (y : Name) (i : Item) (o : Work) : Type 0 where
  pub gone : (p q : Pid) (pay : Bool) → i ≡ Signalled (Signal.Link q p) pay → living o.node p ≡ false → rules.Says (to_pid q (Signal.Exit p q noproc))
  pub acts : (p q : Pid) (x : Data) (pay : Bool) → i ≡ Signalled (Signal.Exit q p x) pay → living o.node p ≡ true
      → end_of o.node p q ≡ End.Active → rules.Reacts p q x
  pub sent : (p : Pid) (m : Data) (pay : Bool) → i ≡ Signalled (Signal.Send p m) pay → X (put p m o)
  pub named : (q p : Pid) (name : Name) (m : Data) (pay : Bool) → i ≡ Signalled (Signal.RegSend q name m) pay → X (put p m o)
  pub nobody : (p q : Pid) (r : Reference) (pay : Bool) → i ≡ Signalled (Signal.Monitor p q r) pay → living o.node q ≡ false
      → rules.Says (to_pid p (Signal.MonitorExit q p r noproc))
  pub nobody_named : (p : Pid) (name : Name) (r : Reference) (pay : Bool) → i ≡ Signalled (Signal.MonitorName p name r) pay
      → NoneLives o (fm.get o.node.names name) → rules.Says (to_pid p (Signal.MonitorNameExit name p r noproc))
  pub joins : (p q : Pid) (r : Reference) (pay : Bool) → i ≡ Signalled (Signal.Monitor p q r) pay → living o.node q ≡ true
      → rules.Joins r (registration_of p q)
  pub joins_named : (p : Pid) (name : Name) (r : Reference) (pay : Bool) (q : Pid) → i ≡ Signalled (Signal.MonitorName p name r) pay
      → fm.get o.node.names name ≡ Some q → living o.node q ≡ true → rules.Joins r (bound p (Target.Name name o.node.mint.name) q)
  pub drops : (p q : Pid) (r : Reference) (pay : Bool) (m : Registration) → i ≡ Signalled (Signal.Demonitor p q r) pay
      → fm.get o.node.registered r ≡ Some m → as_watch m ≡ pid_watch p q → rules.Drops r m
  pub drops_named : (p : Pid) (name : Name) (r : Reference) (pay : Bool) (m : Registration)
      → i ≡ Signalled (Signal.DemonitorName p name r) pay → fm.get o.node.registered r ≡ Some m
      → as_watch m ≡ watch_of p (Target.Name name o.node.mint.name) → rules.Drops r m
  pub tells : (p q : Pid) (r : Reference) (x : Data) (pay : Bool) → i ≡ Signalled (Signal.MonitorExit q p r x) pay
      → fm.get o.node.watches r ≡ Some (pid_watch p q) → rules.Tells r (pid_watch p q) x
  pub tells_named : (p : Pid) (name : Name) (r : Reference) (x : Data) (pay : Bool)
      → i ≡ Signalled (Signal.MonitorNameExit name p r x) pay
      → fm.get o.node.watches r ≡ Some (watch_of p (Target.Name name y)) → rules.Tells r (watch_of p (Target.Name name y)) x

pub held_is : (v : Option Watch) (p : Pid) (t : Target) → is_this v (watch_of p t) ≡ true → v ≡ Some (watch_of p t)
held_is None p t h = cc
held_is (Some v) p t h =
    let b = and_parts (same_pid v.owner p) (same_target v.target t) h in
    let x : v.owner ≡ p = same_pid_true v.owner p b.0 in
    let y : v.target ≡ t = target_same v.target t b.1 in
    λ i. Some (record { owner = x i; target = y i })

pub held_watch : (v : Option Watch) (p : Pid) (t : Target) → is_this (option_map itself v) (watch_of p t) ≡ true → v ≡ Some (watch_of p t)
held_watch None p t h = cc
held_watch (Some v) p t h = held_is (Some v) p t h

pub held_registration : (v : Option Registration) (p : Pid) (t : Target) → is_this (option_map as_watch v) (watch_of p t) ≡ true
    → (m : Registration) × (v ≡ Some m) × (as_watch m ≡ watch_of p t)
held_registration None p t h = cc
held_registration (Some m) p t h = (m, refl, same_Some (as_watch m) (watch_of p t) (held_is (Some (as_watch m)) p t h))

-- a call that is not about a monitor
abbrev pub Apart : Command → Type 0
Apart d = ((p q : Pid) → d ≡ Command.Monitor p q → ⊥) × ((p : Pid) (r : Reference) → d ≡ Command.Demonitor p r → ⊥)
    × ((p : Pid) (y name : Name) → d ≡ Command.MonitorName p y name → ⊥)

module _ (rules : Rules) (X : Work → Type 0) (c : Closed rules X) where
  abbrev AllSaid : List Addressed → Type 0
  AllSaid [] = Unit {0}
  AllSaid (s ∷ ss) = rules.Says s × AllSaid ss

  post_all_kept : (ss : List Addressed) (o : Work) → AllSaid ss → X o → X (post_all ss o)
  post_all_kept [] o h k = k
  post_all_kept (s ∷ ss) o h k = post_all_kept ss (post s o) h.1 (c.posted s o h.0 k)

  reaction_kept : (a b d e : Bool) (q : Pid) (x : Data) (p : Pid) (o : Work) → X o
      → X (carry_out (cond a Reaction.Ignore (cond b (Reaction.End (atom (codes "killed")))
      (cond d (Reaction.Put (exit_term q x)) (cond e Reaction.Ignore (Reaction.End x))))) p o)
  reaction_kept false true d e q x p o k = c.finished p (atom (codes "killed")) o k
  reaction_kept false false true e q x p o k = c.message p (exit_term q x) o (λ r. refl) k
  reaction_kept false false false false q x p o k = c.finished p x o k
  reaction_kept _ _ _ _ q x p o k = k

  exit_kept : (trap : Bool) (s : ExitSignal) (p : Pid) (o : Work) → X o → X (carry_out (reaction trap s) p o)
  exit_kept trap s p o k =
      reaction_kept (s.link && not s.is_active) (not s.link && is_atom (codes "kill") s.reason) trap
      (is_atom (codes "normal") s.reason && not s.is_own) s.sender s.reason p o k

  link_exit_kept : (p q : Pid) (x : Data) (o : Work) → rules.Reacts p q x → X o → X (link_exit p q x o)
  link_exit_kept p q x o h k =
      exit_kept (traps_life (fm.get o.node.lives p)) (linked_exit p q x) p (report (Effect.LinkExit p q x) o) (c.reacted p q x o h k)

  -- a word of a link is heard
  follows_kept : (e : End) (s : LinkNews) (p q : Pid) (o : Work)
      → ((x : Data) → s ≡ Exited x → e ≡ End.Active → rules.Reacts p q x) → X o → X (exit_follows e s p q o)
  follows_kept e (Signals s) p q o h k = k
  follows_kept End.Active (Exited x) p q o h k = link_exit_kept p q x o (h x refl refl) k
  follows_kept _ _ p q o h k = k

  replies_said : (g : Bool) (s : LinkNews) (p q : Pid)
      → (g ≡ true → s ≡ Signals LinkSignal.Link → rules.Says (to_pid q (Signal.Exit p q noproc))) → AllSaid (replies p q (reply g s))
  replies_said true (Signals LinkSignal.Link) p q h = (h refl refl, tt)
  replies_said g (Signals (LinkSignal.Unlink i)) p q h = (c.plain (to_pid q (Signal.UnlinkIdAck i p q)) refl, tt)
  replies_said _ _ p q h = tt

  take_link_kept : (p q : Pid) (s : LinkNews) (o : Work)
      → (s ≡ Signals LinkSignal.Link → living o.node p ≡ false → rules.Says (to_pid q (Signal.Exit p q noproc)))
      → ((x : Data) → s ≡ Exited x → living o.node p ≡ true → end_of o.node p q ≡ End.Active → rules.Reacts p q x) → X o
      → X (take_link p q s o)
  take_link_kept p q s o gone acts k = go (living o.node p) refl
    where
      go : (b : Bool) → living o.node p ≡ b → X (take_link_by b p q s o)
      go true e =
          let o1 = set_end p q (heard (end_of o.node p q) s) o in
          follows_kept (end_of o.node p q) s p q (post_all (replies p q (reply false s)) o1) (λ x h a. acts x h e a)
          (post_all_kept (replies p q (reply false s)) o1 (replies_said false s p q
          (λ h. cc)) (c.end_set p q (heard (end_of o.node p q) s) o (inl e) k))
      go false e = post_all_kept (replies p q (reply true s)) o (replies_said true s p q (λ h i. gone i e)) k

  pub cond_kept : (b : Bool) (x y : Work) → (b ≡ true → X x) → (b ≡ false → X y) → X (cond b x y)
  cond_kept true x y h k = h refl
  cond_kept false x y h k = k refl

  named_kept : (v : Option Pid) (m : Data) (o : Work) → ((p : Pid) → X (put p m o)) → X o → X (take_named v m o)
  named_kept None m o h k = k
  named_kept (Some p) m o h k = cond_kept (living o.node p) _ o (λ l. h p) (λ l. k)

  -- MONITOR_P is bound to a process, or its end is told
  bind_kept : (v : Option Pid) (p : Pid) (t : Target) (r : Reference) (o : Work) → (NoneLives o v → rules.Says (told_end t p r noproc))
      → ((q : Pid) → v ≡ Some q → living o.node q ≡ true → IsBound (bound p t q) × rules.Joins r (bound p t q)) → X o → X (bind v p t r o)
  bind_kept None p t r o says joins k = c.posted (told_end t p r noproc) o (says (inl refl)) k
  bind_kept (Some q) p t r o says joins k = cond_kept (living o.node q) _ _
      (λ l. let j = joins q refl l in c.registers r (bound p t q) o l j.0 j.1 k)
      (λ l. c.posted (told_end t p r noproc) o (says (inr (q, refl, l))) k)

  pub item_kept : (y : Name) (i : Item) (o : Work) → Reasons rules X y i o → X o → X (take_item y i o)
  item_kept y (Signalled (Signal.Link q p) pay) o h k = take_link_kept p q (Signals LinkSignal.Link) o (λ e. h.gone p q pay refl) (λ x e. cc) k
  item_kept y (Signalled (Signal.Exit q p x) pay) o h k =
      take_link_kept p q (Exited x) o (λ e. cc) (λ z e. h.acts p q z pay (ap (λ w. Signalled (Signal.Exit q p (reason_in x w)) pay) e)) k
    where
      reason_in : Data → LinkNews → Data
      reason_in d (Signals s) = d
      reason_in d (Exited z) = z
  item_kept y (Signalled (Signal.UnlinkId i q p) pay) o h k = take_link_kept p q (Signals (LinkSignal.Unlink i)) o (λ e. cc) (λ x e. cc) k
  item_kept y (Signalled (Signal.UnlinkIdAck i q p) pay) o h k = take_link_kept p q (Signals (LinkSignal.Ack i)) o (λ e. cc) (λ x e. cc) k
  item_kept y (Signalled (Signal.Send p m) pay) o h k = cond_kept (living o.node p) _ o (λ l. h.sent p m pay refl) (λ l. k)
  item_kept y (Signalled (Signal.RegSend q name m) pay) o h k = named_kept (fm.get o.node.names name) m o (λ p. h.named q p name m pay refl) k
  item_kept y (Signalled (Signal.Exit2 q p x) pay) o h k =
      cond_kept (living o.node p) _ o (λ l. exit_kept (traps_life (fm.get o.node.lives p)) (sent_exit p q x) p o k) (λ l. k)
  item_kept y (Signalled (Signal.Monitor p q r) pay) o h k =
      cond_kept (living o.node q) _ _ (λ l. c.registers r (registration_of p q) o l refl (h.joins p q r pay refl l) k)
      (λ l. c.posted (to_pid p (Signal.MonitorExit q p r noproc)) o (h.nobody p q r pay refl l) k)
  item_kept y (Signalled (Signal.MonitorName p name r) pay) o h k =
      bind_kept (fm.get o.node.names name) p (Target.Name name o.node.mint.name) r o (h.nobody_named p name r pay refl)
      (λ q e l. (tt, h.joins_named p name r pay q refl e l)) k
  item_kept y (Signalled (Signal.Demonitor p q r) pay) o h k = cond_kept (is_held as_watch o.node.registered r (pid_watch p q)) _ o
      (λ l. let e = held_registration (fm.get o.node.registered r) p (Target.Pid q) l in
      c.unregisters r e.0 o e.1 (h.drops p q r pay e.0 refl e.1 e.2) k) (λ l. k)
  item_kept y (Signalled (Signal.DemonitorName p name r) pay) o h k =
      cond_kept (is_held as_watch o.node.registered r (watch_of p (Target.Name name o.node.mint.name))) _ o
      (λ l. let e = held_registration (fm.get o.node.registered r) p (Target.Name name o.node.mint.name) l in
      c.unregisters r e.0 o e.1 (h.drops_named p name r pay e.0 refl e.1 e.2) k) (λ l. k)
  item_kept y (Signalled (Signal.MonitorExit q p r x) pay) o h k =
      cond_kept (living o.node p && is_held itself o.node.watches r (pid_watch p q)) _ o
      (λ l. let e = held_watch (fm.get o.node.watches r) p (Target.Pid q) (and_parts (living o.node p) _ l).1 in
      c.ended r (pid_watch p q) x o e (h.tells p q r x pay refl e) k) (λ l. k)
  item_kept y (Signalled (Signal.MonitorNameExit name p r x) pay) o h k =
      cond_kept (living o.node p && is_held itself o.node.watches r (watch_of p (Target.Name name y))) _ o
      (λ l. let e = held_watch (fm.get o.node.watches r) p (Target.Name name y) (and_parts (living o.node p) _ l).1 in
      c.ended r (watch_of p (Target.Name name y)) x o e (h.tells_named p name r x pay refl e) k) (λ l. k)
  item_kept y (Handshake m) o h k = k
  item_kept y Tick o h k = k

  -- a call, but for those about monitors
  link_new_kept : (b : Bool) (p q : Pid) (o : Work) → living o.node p ≡ true → (b ≡ false → rules.Reacts p q noconnection) → X o
      → X (link_new b p q o)
  link_new_kept true p q o l own k = c.posted (to_pid q (Signal.Link p q)) (set_end p q End.Active o) (c.plain (to_pid q (Signal.Link p q)) refl)
      (c.end_set p q End.Active o (inl l) k)
  link_new_kept false p q o l own k = link_exit_kept p q noconnection (set_end p q End.None o) (own refl) (c.end_set p q End.None o
      (inl l) k)

  link_by_kept : (e : End) (p q : Pid) (o : Work) → living o.node p ≡ true → (reaches o.node q.node ≡ false
      → rules.Reacts p q noconnection) → X o → X (link_by e p q o)
  link_by_kept End.Active p q o l own k = k
  link_by_kept _ p q o l own k = link_new_kept (reaches o.node q.node) p q o l own k

  unlink_by_kept : (e : End) (p q : Pid) (o : Work) → living o.node p ≡ true → X o → IfGoes (unlink_by e p q o) X
  unlink_by_kept End.Active p q o l k = if_drawn (id_of o.node.mint kind.UnlinkId) _ X (λ id h.
      c.posted (to_pid q (Signal.UnlinkId id p q)) (set_end p q (End.Pending id) (draw kind.UnlinkId o)) (c.plain (to_pid q (Signal.UnlinkId id p q)) refl)
      (c.end_set p q (End.Pending id) (draw kind.UnlinkId o) (inl l) (c.drew o k)))
  unlink_by_kept _ p q o l k = k

  module _ (n : Node) (k : X (at_work n)) where
    pub acts_kept : (p q : Pid) (o : Outcome) → (living n p ≡ true → IfGoes o X) → IfGoes (acting n p (toward n q o)) X
    acts_kept p q o h =
        if_cond (living n p) (toward n q o) Refusal.NoSuchProcess X
        (λ l. if_not (same_name q.node n.mint.name && is_stranger n q) o Refusal.Forged X (h l))

    pub call_kept : (d : Command) → Apart d
        → ((id : ℕ) → d ≡ Command.Spawn → id_of n.mint kind.Pid ≡ Some id → X (spawn_life n (pid_of n.mint id)))
        → ((p q : Pid) → d ≡ Command.Link p q → living n p ≡ true → reaches n q.node ≡ false → rules.Reacts p q noconnection)
        → IfGoes (call n d) X
    call_kept Command.Spawn a s own = if_drawn (id_of n.mint kind.Pid) _ X (λ id h. s id refl h)
    call_kept (Command.Send p q m) a s own =
        acts_kept p q _
        (λ l. if_cond (fits m) _ Refusal.TooLong X (λ f. c.posted (to_pid q (Signal.Send q m)) (at_work n) (c.plain (to_pid q (Signal.Send q m)) refl) k))
    call_kept (Command.SendName p y name m) a s own =
        if_cond (living n p) _ Refusal.NoSuchProcess X (λ l. if_cond (fits m) _ Refusal.TooLong X
        (λ f. c.posted (to_node y (Signal.RegSend p name m)) (at_work n) (c.plain (to_node y (Signal.RegSend p name m)) refl) k))
    call_kept (Command.Link p q) a s own = acts_kept p q _ (λ l. cond_kept (same_pid p q) (at_work n) _ (λ e. k)
        (λ e. link_by_kept (end_of n p q) p q (at_work n) l (own p q refl l) k))
    call_kept (Command.Unlink p q) a s own = acts_kept p q _ (λ l. unlink_by_kept (end_of n p q) p q (at_work n) l k)
    call_kept (Command.Monitor p q) a s own = absurd (a.0 p q refl)
    call_kept (Command.MonitorName p y name) a s own = absurd (a.2 p y name refl)
    call_kept (Command.Demonitor p r) a s own = absurd (a.1 p r refl)
    call_kept (Command.Trap p b) a s own =
        if_cond (living n p) _ Refusal.NoSuchProcess X
        (λ l. c.life_set p (trapping (fm.get n.lives p) b) (at_work n) (living_trapping (fm.get n.lives p) b) k)
    call_kept (Command.ExitTo p q x) a s own =
        acts_kept p q _
        (λ l. if_cond (fits x) _ Refusal.TooLong X (λ f. c.posted (to_pid q (Signal.Exit2 p q x)) (at_work n) (c.plain (to_pid q (Signal.Exit2 p q x)) refl) k))
    call_kept (Command.ExitSelf p x) a s own =
        if_cond (living n p) _ Refusal.NoSuchProcess X (λ l. if_cond (fits x) _ Refusal.TooLong X (λ f. c.finished p x (at_work n) k))
    call_kept (Command.Receive p) a s own =
        if_cond (living n p) _ Refusal.NoSuchProcess X
        (λ l. c.life_set p (without_first (fm.get n.lives p)) (at_work n) (living_without (fm.get n.lives p)) k)
    call_kept (Command.LinksOf p) a s own = if_cond (living n p) _ Refusal.NoSuchProcess X (λ l. k)
    call_kept (Command.IsAlive p) a s own = k
    call_kept (Command.Register p name) a s own = if_cond (living n p) _ Refusal.NoSuchProcess X
        (λ l. registered_goes n p X (λ m r. c.renamed m (at_work n) r k) name l)
    call_kept (Command.Unregister p) a s own = if_cond (living n p) _ Refusal.NoSuchProcess X
        (λ l. unregistered_goes n p X (λ m r. c.renamed m (at_work n) r k))
    call_kept (Command.WhereIs name) a s own = k

  -- a sweep of records towards y
  end_swept : (e : End) (p q : Pid) (o : Work) → (e ≡ End.Active → rules.Reacts p q noconnection) → X o → X (sweep_end e p q o)
  end_swept End.Active p q o h k = link_exit_kept p q noconnection (set_end p q End.None o) (h refl) (c.end_set p q End.None o (inr refl) k)
  end_swept _ p q o h k = c.end_set p q End.None o (inr refl) k

  registered_swept : (d : Option (Reference × Registration)) (o : Work)
      → ((e : Reference × Registration) → d ≡ Some e → (fm.get o.node.registered e.0 ≡ Some e.1) × rules.Drops e.0 e.1) → X o
      → X (sweep_registered d o)
  registered_swept None o h k = k
  registered_swept (Some e) o h k = let v = h e refl in c.unregisters e.0 e.1 o v.0 v.1 k

  watch_swept : (d : Option (Reference × Watch)) (y : Name) (o : Work)
      → ((e : Reference × Watch) → d ≡ Some e → (fm.get o.node.watches e.0 ≡ Some e.1) × rules.Tells e.0 e.1 noconnection)
      → ((e : Reference × Registration) → registered_by y (fm.entries o.node.registered) ≡ Some e
      → (fm.get o.node.registered e.0 ≡ Some e.1) × rules.Drops e.0 e.1) → X o → X (sweep_watch d y o)
  watch_swept None y o h j k = registered_swept (registered_by y (fm.entries o.node.registered)) o j k
  watch_swept (Some e) y o h j k = let v = h e refl in c.ended e.0 e.1 noconnection o v.0 v.1 k

  pub link_swept : (d : Option ((Pid × Pid) × End)) (y : Name) (o : Work)
      → ((e : (Pid × Pid) × End) → d ≡ Some e → e.1 ≡ End.Active → rules.Reacts e.0.0 e.0.1 noconnection)
      → ((e : Reference × Watch) → watch_to y (fm.entries o.node.watches) ≡ Some e → (fm.get o.node.watches e.0 ≡ Some e.1)
      × rules.Tells e.0 e.1 noconnection)
      → ((e : Reference × Registration) → registered_by y (fm.entries o.node.registered) ≡ Some e
      → (fm.get o.node.registered e.0 ≡ Some e.1) × rules.Drops e.0 e.1) → X o → X (sweep_link d y o)
  link_swept None y o h i j k = watch_swept (watch_to y (fm.entries o.node.watches)) y o i j k
  link_swept (Some e) y o h i j k = end_swept e.1 e.0.0 e.0.1 o (h e refl) k
