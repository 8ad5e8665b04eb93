-- What stands first in a list is due: what a node sends but for the handshake is signals.
use Rattle.erl_names.specs.Draw as kind
use Rattle.std.proofs.Common.{ℕ, ◌≡◌, Bool, true, false, cond, List, [], ◌∷◌, ◌++◌, refl, sym, ap, subst, ◌∙◌, Option, Some, None, ◌&&◌}
use Rattle.std.specs.FinMap as fm
use Rattle.dist_model.proofs.Calls.{IfGoes, if_cond, if_drawn, if_not}
use Rattle.dist_model.proofs.DueMoves.{AllWords, Sent, words-push}
use Rattle.dist_model.proofs.Founded.{posts_keep}
use Rattle.dist_model.proofs.Posts.{AllRouted, post_routed}
use Rattle.dist_model.proofs.Parts.{Apart, Closed, Rules, call_kept, item_kept, link_swept}
use Rattle.dist_model.proofs.Entries.{registered_found, watch_found}
use Rattle.dist_model.proofs.Records.{sweep_link}
use Rattle.dist_model.proofs.Envelopes.{outgoing, sent_by, sent_in, sent_in-push, sent_in-silent}
use Rattle.exit_core.specs.Messages.{down_term}
use Rattle.dist_model.specs.declared.report.Effect.{Effect}
use Rattle.dist_model.specs.Losses.{link_to}
use Rattle.dist_model.specs.Calls.{call}
use Rattle.dist_model.specs.Commands.{Accepts, Refuses}
use Rattle.dist_model.specs.declared.command.Command.{Command}
use Rattle.dist_model.specs.declared.report.Answer.{Answer}
use Rattle.dist_model.specs.Exits.{demonitors, exits, end_process, monitor_exits}
use Rattle.dist_model.specs.Items.{Item}
use Rattle.dist_model.specs.Monitoring.{demonitor_by, monitor, unwatch, watch}
use Rattle.dist_model.specs.Names.{Name, same_name, same_pid}
use Rattle.dist_model.specs.Node.{Node, living, is_stranger, monitors_names, reaches, route, ends_of}
use Rattle.dist_model.specs.Taking.{take_item}
use Rattle.dist_model.specs.Work.{Addressed, Work, at_work, draw, keep_local, post, post_all, put, report, send_on, spelled}
use Rattle.erl_names.specs.Minted.{id_of}
use Rattle.erl_names.specs.declared.trunk.TrunkId.{TrunkId}
use Rattle.erl_term.specs.Data.{Data}
use Rattle.erl_term.specs.declared.refusal.Refusal.{Refusal}
use Rattle.erl_term.specs.declared.term.Pid.{Pid}
use Rattle.erl_term.specs.declared.term.Reference.{Reference}
use Rattle.erl_names.specs.Ids.{reference_of}
use Rattle.monitor_core.specs.Monitors.{target_node, watch_of}
use Rattle.monitor_core.specs.declared.monitor.Target.{Target}
use Rattle.monitor_core.specs.declared.monitor.Watch.{Watch}
use Rattle.dist_model.specs.Telling.{asked, object, taken_back}

module _ (n : Node) where
  pub sent_post : (s : Addressed) (o : Work) → Sent n o → Sent n (post s o)
  sent_post s o k = record {
    sides = posts_keep (λ z. z.sides) (λ z l. refl) s.node (spelled o.node s) o ∙ k.sides;
    name = posts_keep (λ z. z.mint.name) (λ z l. refl) s.node (spelled o.node s) o ∙ k.name;
    routed = post_routed s.node (spelled o.node s) o k.routed;
    words = go (same_name s.node o.node.mint.name);
  }
    where
      on : (r : Option TrunkId) → AllWords (outgoing (send_on r s.node (spelled o.node s) o))
      on None = k.words
      on (Some t) = subst AllWords (sym (sent_in-push o.effects (Effect.Sent (Some t) s.node (spelled o.node s))))
          (words-push (outgoing o) (record { trunk = t; target = s.node; item = spelled o.node s }) k.words refl)

      go : (b : Bool) → AllWords (outgoing (cond b (keep_local (spelled o.node s) o)
          (send_on (route o.node s.node) s.node (spelled o.node s) o)))
      go true = subst AllWords (sym (sent_in-silent o.effects (Effect.Sent None o.node.mint.name (spelled o.node s)) refl)) k.words
      go false = on (route o.node s.node)

  sent_all : (ss : List Addressed) (o : Work) → Sent n o → Sent n (post_all ss o)
  sent_all [] o k = k
  sent_all (s ∷ ss) o k = sent_all ss (post s o) (sent_post s o k)

  -- nothing is sent on a trunk
  silent : (o o' : Work) (f : Effect Item) → o'.node.sides ≡ o.node.sides → o'.node.mint.name ≡ o.node.mint.name
      → o'.effects ≡ o.effects ++ f ∷ [] → sent_by f ≡ [] → Sent n o → Sent n o'
  silent o o' f sd nm ef by k =
      let out : outgoing o' ≡ outgoing o = ap sent_in ef ∙ sent_in-silent o.effects f by in
      record {
        sides = sd ∙ k.sides;
        name = nm ∙ k.name;
        routed = subst (AllRouted o'.node.sides) (sym out) (subst (λ m. AllRouted m (outgoing o)) (sym sd) k.routed);
        words = subst AllWords (sym out) k.words;
      }

  sent_finish : (p : Pid) (x : Data) (o : Work) → Sent n o → Sent n (end_process p x o)
  sent_finish p x o k =
      let ss = exits p x (ends_of o.node p) ++ monitor_exits p x (fm.entries o.node.registered) ++ demonitors p
      (fm.entries o.node.watches) in
      silent (post_all ss o) (end_process p x o) (Effect.Ended p x) refl refl refl refl (sent_all ss o k)

  abbrev pub all_rules : Rules
  all_rules = record {
    Says = λ s. Unit {0};
    Reacts = λ p q x. Unit {0};
    Tells = λ r m x. Unit {0};
    Joins = λ r m. Unit {0};
    Drops = λ r m.
        Unit {0};
  }

  pub sent_closed : Closed all_rules (Sent n)
  sent_closed = record {
    plain = λ s h. tt;
    posted = λ s o h k. sent_post s o k;
    end_set = λ p q e o l k. record { sides = k.sides; name = k.name; routed = k.routed; words = k.words };
    drew = λ o k. record { sides = k.sides; name = k.name; routed = k.routed; words = k.words };
    life_set = λ p l o h k. record { sides = k.sides; name = k.name; routed = k.routed; words = k.words };
    renamed = λ m o h k. record { sides = k.sides; name = k.name; routed = k.routed; words = k.words };
    message = λ p m o h k. silent o (put p m o) (Effect.Put p m) refl refl refl refl k;
    reacted = λ p q x o h k. silent o (report (Effect.LinkExit p q x) o) (Effect.LinkExit p q x) refl refl refl refl k;
    finished = sent_finish;
    registers = λ r m o l b h k. record { sides = k.sides; name = k.name; routed = k.routed; words = k.words };
    unregisters = λ r m o e h k. record { sides = k.sides; name = k.name; routed = k.routed; words = k.words };
    ended = λ r m x o e h k. silent o (put m.owner (down_term r (object m.target) x) (unwatch r o))
        (Effect.Put m.owner (down_term r (object m.target) x)) refl refl refl refl k;
  }

  -- an item is taken
  pub sent_item : (y : Name) (i : Item) (o : Work) → Sent n o → Sent n (take_item y i o)
  sent_item y i o k = item_kept all_rules (Sent n) sent_closed y i o (record {
    gone = λ p q pay e l. tt;
    acts = λ p q x pay e l a. tt;
    sent = λ p m pay e. silent o (put p m o) (Effect.Put p m) refl refl refl refl k;
    named = λ q p name m pay e. silent o (put p m o) (Effect.Put p m) refl refl refl refl k;
    nobody = λ p q r pay e l. tt;
    nobody_named = λ p name r pay e v. tt;
    joins = λ p q r pay e l. tt;
    joins_named = λ p name r pay q e f l. tt;
    drops = λ p q r pay m e h s. tt;
    drops_named = λ p name r pay m e h s. tt;
    tells = λ p q r x pay e h. tt;
    tells_named = λ p name r x pay e h. tt;
  }) k

  pub sent_start : Sent n (at_work n)
  sent_start = record { sides = refl; name = refl; routed = tt; words = tt }

  unwatched : (r : Reference) → Sent n (unwatch r (at_work n))
  unwatched r = record { sides = refl; name = refl; routed = tt; words = tt }

  undone : (v : Watch) (p : Pid) (r : Reference) → Sent n (post (taken_back p v.target r) (unwatch r (at_work n)))
  undone v p r = sent_post (taken_back p v.target r) (unwatch r (at_work n)) (unwatched r)

  demonitored : (v : Option Watch) (p : Pid) (r : Reference) → IfGoes (demonitor_by v p r (at_work n)) (Sent n)
  demonitored None p r = tt
  demonitored (Some v) p r = go (same_pid v.owner p)
    where
      go : (b : Bool) → IfGoes (cond b (Accepts Answer.Done (post (taken_back p v.target r) (unwatch r (at_work n))))
          (Refuses Refusal.NotTheOwner)) (Sent n)
      go true = undone v p r
      go false = tt

  apart : (c : Command) → Apart c → IfGoes (call n c) (Sent n)
  apart c a = call_kept all_rules (Sent n) sent_closed n sent_start c a
      (λ id e h. record { sides = refl; name = refl; routed = tt; words = tt }) (λ p q e l r. tt)

  either : (b : Bool) (p q : Work) → Sent n p → Sent n q → Sent n (cond b p q)
  either true p q h k = h
  either false p q h k = k

  monitored : (p : Pid) (t : Target) (count : ℕ)
      → Sent n (monitor (reference_of n.mint count) p t (draw kind.Reference (at_work n)))
  monitored p t count = either (reaches n (target_node t)) _ _ (sent_post (asked p t (reference_of n.mint count))
      (watch (reference_of n.mint count) (watch_of p t) (draw kind.Reference (at_work n)))
      (record { sides = refl; name = refl; routed = tt; words = tt }))
      (record { sides = refl; name = refl; routed = tt; words = tt })

  -- a call
  pub sent_call : (c : Command) → IfGoes (call n c) (Sent n)
  sent_call (Command.Monitor p q) = if_cond (living n p) _ Refusal.NoSuchProcess (Sent n)
      (λ l. if_not (same_name q.node n.mint.name && is_stranger n q) _ Refusal.Forged (Sent n)
      (if_drawn (id_of n.mint kind.Reference) _ (Sent n) (λ count h. monitored p (Target.Pid q) count)))
  sent_call (Command.MonitorName p y name) = if_cond (living n p) _ Refusal.NoSuchProcess (Sent n)
      (λ l. if_cond (monitors_names n y) _ Refusal.NotOffered (Sent n)
      (λ f. if_drawn (id_of n.mint kind.Reference) _ (Sent n) (λ count h. monitored p (Target.Name name y) count)))
  sent_call (Command.Demonitor p r) = if_cond (living n p) _ Refusal.NoSuchProcess (Sent n) (λ l. demonitored (fm.get n.watches r) p r)
  sent_call c = apart c ((λ a b e. cc), (λ a b e. cc), (λ a b d e. cc))

  -- a record is swept
  pub sent_sweep : (y : Name) → Sent n (sweep_link (link_to y (fm.entries n.ends)) y (at_work n))
  sent_sweep y = link_swept all_rules (Sent n) sent_closed (link_to y (fm.entries n.ends)) y (at_work n) (λ e l a. tt)
      (λ e l. ((watch_found y n.watches e l).0, tt)) (λ e l. ((registered_found y n.registered e l).0, tt)) sent_start
