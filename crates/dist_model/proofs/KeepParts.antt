-- What every part of an event keeps is kept by a call, a signal that is taken and a sweep, at any node.
use Rattle.erl_names.specs.Draw as kind
use Rattle.erl_names.specs.Draw.{Draw}
use Rattle.std.proofs.Common.{◌≡◌, true, ◌⊎◌, Option, Some, None, subst, sym}
use Rattle.std.specs.FinMap as fm
use Rattle.dist_model.proofs.Calls.{IfGoes, Renames, if_cond, if_drawn}
use Rattle.dist_model.proofs.Entries.{registered_found, watch_found}
use Rattle.dist_model.proofs.Parts.{Apart, Closed, Rules, acts_kept, call_kept, cond_kept, item_kept, link_swept}
use Rattle.dist_model.proofs.Records.{least_as}
use Rattle.dist_model.specs.Calls.{call, spawn_life}
use Rattle.dist_model.specs.Commands.{Accepts, with_id}
use Rattle.dist_model.specs.declared.command.Command.{Command}
use Rattle.dist_model.specs.declared.report.Answer.{Answer}
use Rattle.dist_model.specs.Exits.{end_process}
use Rattle.dist_model.specs.Items.{Item}
use Rattle.dist_model.specs.Losses.{least_record, link_to, sweep_record}
use Rattle.dist_model.specs.Monitoring.{demonitor_by, monitor, register, unregister, unwatch, watch}
use Rattle.dist_model.specs.Names.{Name, same_pid}
use Rattle.dist_model.specs.Naming.{NameMap}
use Rattle.dist_model.specs.Node.{Life, Node, is_living_life, living, monitors_names, reaches}
use Rattle.dist_model.specs.Taking.{take_item}
use Rattle.dist_model.specs.Work.{Addressed, Work, at_work, draw, post, put, report, set_end, set_life}
use Rattle.dist_model.specs.declared.report.Effect.{Effect}
use Rattle.erl_names.specs.Ids.{pid_of, reference_of}
use Rattle.erl_names.specs.Minted.{id_of}
use Rattle.erl_term.specs.Data.{Data}
use Rattle.erl_term.specs.declared.refusal.Refusal.{Refusal}
use Rattle.erl_term.specs.declared.term.Pid.{Pid}
use Rattle.erl_term.specs.declared.term.Reference.{Reference}
use Rattle.exit_core.specs.Messages.{down_term}
use Rattle.link_core.specs.News.{noconnection}
use Rattle.link_core.specs.declared.end.End.{End}
use Rattle.monitor_core.specs.Monitors.{target_node, watch_of}
use Rattle.monitor_core.specs.declared.monitor.Target.{Target}
use Rattle.monitor_core.specs.declared.monitor.Watch.{Watch}
use Rattle.dist_model.specs.Telling.{asked, object, taken_back}
use Rattle.monitor_core.specs.declared.monitor.Registration.{Registration}

-- the parts of an event, but for what it does to sides
pub record Parts (X : Work → Type 0) : Type 0 where
  pub posted : (s : Addressed) (o : Work) → X o → X (post s o)
  pub end_set : (p q : Pid) (e : End) (o : Work) → (living o.node p ≡ true) ⊎ (e ≡ End.None) → X o → X (set_end p q e o)
  pub drew : (d : Draw) (o : Work) → (d ≡ kind.Pid → ⊥) → X o → X (draw d o)
  pub life_set : (p : Pid) (l : Option Life) (o : Work) → is_living_life l ≡ living o.node p → X o
      → X (record o { node = record (o.node) { lives = set_life o.node.lives p l } })
  pub renamed : (m : NameMap) (o : Work) → Renames o.node m → X o → X (record o { node = record (o.node) { names = m } })
  pub message : (p : Pid) (m : Data) (o : Work) → X o → X (put p m o)
  pub reacted : (p q : Pid) (x : Data) (o : Work) → X o → X (report (Effect.LinkExit p q x) o)
  pub finished : (p : Pid) (x : Data) (o : Work) → X o → X (end_process p x o)
  pub registers : (r : Reference) (m : Registration) (o : Work) → living o.node m.held ≡ true → X o → X (register r m o)
  pub unregisters : (r : Reference) (o : Work) → X o → X (unregister r o)
  pub watches : (r : Reference) (m : Watch) (o : Work) → living o.node m.owner ≡ true → X o → X (watch r m o)
  pub unwatches : (r : Reference) (o : Work) → X o → X (unwatch r o)

abbrev any_rules : Rules
any_rules = record {
  Says = λ s. Unit {0};
  Reacts = λ p q x. Unit {0};
  Tells = λ r m x. Unit {0};
  Joins = λ r m. Unit {0};
  Drops = λ r m. Unit {0};
}

module _ (X : Work → Type 0) (c : Parts X) where
  closed : Closed any_rules X
  closed = record {
    plain = λ s h. tt;
    posted = λ s o h k. c.posted s o k;
    end_set = c.end_set;
    drew = λ o k. c.drew kind.UnlinkId o (λ e. cc) k;
    life_set = c.life_set;
    renamed = c.renamed;
    message = λ p m o h k. c.message p m o k;
    reacted = λ p q x o h k. c.reacted p q x o k;
    finished = c.finished;
    registers = λ r m o l b h k. c.registers r m o l k;
    unregisters = λ r m o e h k. c.unregisters r o k;
    ended = λ r m x o e h k. c.message m.owner (down_term r (object m.target) x) (unwatch r o) (c.unwatches r o k);
  }

  pub item_keeps : (y : Name) (i : Item) (o : Work) → X o → X (take_item y i o)
  item_keeps y i o k = item_kept any_rules X closed y i o (record {
    gone = λ p q pay e l. tt;
    acts = λ p q x pay e l a. tt;
    sent = λ p m pay e. c.message p m o k;
    named = λ q p name m pay e. c.message p m o k;
    nobody = λ p q r pay e l. tt;
    nobody_named = λ p name r pay e v. tt;
    joins = λ p q r pay e l. tt;
    joins_named = λ p name r pay q e f l. tt;
    drops = λ p q r pay m e l s. tt;
    drops_named = λ p name r pay m e l s. tt;
    tells = λ p q r x pay e l. tt;
    tells_named = λ p name r x pay e l. tt;
  }) k

  -- of either target
  targeted : (n : Node) (p : Pid) (t : Target) → living n p ≡ true → X (at_work n) → IfGoes (with_id (id_of n.mint kind.Reference) (λ id.
      Accepts (Answer.Reference (reference_of n.mint id)) (monitor (reference_of n.mint id) p t (draw kind.Reference (at_work n))))) X
  targeted n p t l k = if_drawn (id_of n.mint kind.Reference) _ X (λ id h.
      let o = draw kind.Reference (at_work n) in
      let r = reference_of n.mint id in
      cond_kept any_rules X closed (reaches o.node (target_node t)) _ _
      (λ e. c.posted (asked p t r) (watch r (watch_of p t) o) (c.watches r (watch_of p t) o l (c.drew kind.Reference
      (at_work n) (λ e. cc) k)))
      (λ e. c.message p (down_term r (object t) noconnection) o (c.drew kind.Reference (at_work n) (λ e. cc) k)))

  monitors : (n : Node) (p q : Pid) → X (at_work n) → IfGoes (call n (Command.Monitor p q)) X
  monitors n p q k = acts_kept any_rules X closed n k p q _ (λ l. targeted n p (Target.Pid q) l k)

  monitors_named : (n : Node) (p : Pid) (y name : Name) → X (at_work n) → IfGoes (call n (Command.MonitorName p y name)) X
  monitors_named n p y name k = if_cond (living n p) _ Refusal.NoSuchProcess X
      (λ l. if_cond (monitors_names n y) _ Refusal.NotOffered X (λ f. targeted n p (Target.Name name y) l k))

  demonitors : (v : Option Watch) (p : Pid) (r : Reference) (o : Work) → X o → IfGoes (demonitor_by v p r o) X
  demonitors None p r o k = tt
  demonitors (Some m) p r o k = if_cond (same_pid m.owner p) _ Refusal.NotTheOwner X
      (λ h. c.posted (taken_back p m.target r) (unwatch r o) (c.unwatches r o k))

  others : (n : Node) (d : Command) → Apart d
      → (d ≡ Command.Spawn → (p : Pid) → X (spawn_life n p)) → X (at_work n) → IfGoes (call n d) X
  others n d a s k = call_kept any_rules X closed n k d a (λ id e h. s e (pid_of n.mint id)) (λ p q e l r. tt)

  -- what a process begins with is for each X to say
  pub call_keeps : (n : Node) (d : Command) → (d ≡ Command.Spawn → (p : Pid) → X (spawn_life n p)) → X (at_work n) → IfGoes (call n d) X
  call_keeps n (Command.Monitor p q) s k = monitors n p q k
  call_keeps n (Command.MonitorName p y name) s k = monitors_named n p y name k
  call_keeps n (Command.Demonitor p r) s k = if_cond (living n p) _ Refusal.NoSuchProcess X
      (λ l. demonitors (fm.get n.watches r) p r (at_work n) k)
  call_keeps n d s k = others n d ((λ a b e. cc), (λ a r e. cc), (λ a y b e. cc)) s k

  -- the least record towards a peer
  pub record_keeps : (y : Name) (o : Work) → X o → X (sweep_record (least_record y o.node) o)
  record_keeps y o k = subst X (sym (least_as y o)) (link_swept any_rules X closed (link_to y (fm.entries o.node.ends)) y o (λ e h a. tt)
      (λ e h. ((watch_found y o.node.watches e h).0, tt)) (λ e h. ((registered_found y o.node.registered e h).0, tt)) k)
