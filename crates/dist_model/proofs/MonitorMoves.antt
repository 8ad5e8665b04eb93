-- What an event does to each monitor: its watch, its registration, its DOWN, and the signals about it.
use Rattle.erl_handshake.specs.declared.message.ShakeMsg.{ShakeMsg}
use Rattle.erl_names.specs.Draw as kind
use Rattle.std.proofs.Common.{◌≡◌, Bool, true, false, cond, not, List, [], ◌∷◌, ◌++◌, refl, sym}
use Rattle.std.proofs.Common.{ap, ◌∙◌, subst, Option, Some, None, ◌⊎◌, inl, inr, append-nil}
use Rattle.std.proofs.lemmas.Bool.{not-true, or_right, or_left}
use Rattle.std.proofs.lemmas.Option.{same_Some, none-some}
use Rattle.std.specs.Option.{is_some}
use Rattle.std.specs.FinMap as fm
use Rattle.dist_model.proofs.Envelopes.{outgoing, sent_in-push, sent_in-silent, sent_by, sent_in, sent_in-append}
use Rattle.dist_model.proofs.Calls.{by_test}
use Rattle.dist_model.proofs.Entries.{IsBound, same_reference_true}
use Rattle.dist_model.proofs.Founded.{Nothing, added_some, all_posts_keep, posts_keep, quietly_all}
use Rattle.dist_model.proofs.Founded.{registered_left, removed_some, watches_left, retained}
use Rattle.dist_model.proofs.HandshakeParts.{Turned}
use Rattle.dist_model.proofs.Keys.{pid_total, same_pid_true}
use Rattle.dist_model.proofs.Moves.{set_life_living, living_received}
use Rattle.dist_model.proofs.Parts.{Closed, Rules}
use Rattle.dist_model.proofs.Routes.{at_place}
use Rattle.dist_model.proofs.Trunks.{has}
use Rattle.dist_model.specs.Downs.{down_in, downs_in, same_reference}
use Rattle.dist_model.proofs.LastSignals.{exits_in}
use Rattle.dist_model.proofs.EndOfProcess.{is_living_kept, is_living_cond}
use Rattle.dist_model.specs.Exits.{buried, demonitors, end_process, is_owned, is_bound, monitor_exits}
use Rattle.dist_model.specs.Handshake.{with_side, write}
use Rattle.dist_model.specs.Items.{Handshake, Item}
use Rattle.dist_model.specs.Monitoring.{register, unregister, unwatch}
use Rattle.dist_model.specs.Names.{Name, same_pid}
use Rattle.dist_model.specs.Node.{Ended, Life, Node, is_living_life, living}
use Rattle.dist_model.specs.Sides.{TrunkSide}
use Rattle.dist_model.specs.Work.{Addressed, Work, delivered, draw, post, post_all, put, report, set_end, set_life, spelled}
use Rattle.dist_model.specs.declared.report.Effect.{Effect}
use Rattle.erl_names.specs.declared.trunk.TrunkId.{TrunkId}
use Rattle.erl_term.specs.Data.{Data}
use Rattle.erl_term.specs.declared.term.Pid.{Pid}
use Rattle.erl_term.specs.declared.term.Reference.{Reference}
use Rattle.exit_core.specs.Messages.{down_term}
use Rattle.erl_term.proofs.Order.{reference_cmp_total}
use Rattle.monitor_core.specs.Monitors.{added}
use Rattle.dist_model.proofs.Lands.{Lands, all_local_grows, all_sent_grows, any_to, any_to_append, at_place_append, down, end_blind}
use Rattle.dist_model.proofs.Lands.{down_said, downs_append, has_first, is_end, lands_all, no_more, quietly_downs, told_owner}
use Rattle.monitor_core.specs.declared.monitor.Watch.{Watch}
use Rattle.monitor_core.specs.declared.monitor.Registration.{Registration}
use Rattle.dist_model.specs.Telling.{object}

cond_living : (b : Bool) (x : Data) (l : Option Life) → is_living_life l ≡ false → is_living_life (cond b (Some (Ended x)) l) ≡ false
cond_living true x l h = refl
cond_living false x l h = h

module _ (n : Node) (Tells : Reference → Watch → Data → Type 0) (Joins : Reference → Registration → Type 0)
    (Drops : Reference → Registration → Type 0)
    (were : (k : Reference) (m : Registration) → fm.get n.registered k ≡ Some m → (living n m.held ≡ true) × IsBound m) where
  -- the watch stays, or leaves with its owner, or is spent on a DOWN
  pub data Fate (o : Work) (k : Reference) : Type 0 where
    Same : fm.get o.node.watches k ≡ fm.get n.watches k → downs_in k o.effects ≡ [] → Fate o k
    Left : (u : Watch) → fm.get n.watches k ≡ Some u → fm.get o.node.watches k ≡ None → living o.node u.owner ≡ false
        → downs_in k o.effects ≡ [] → Fate o k
    Spent : (u : Watch) (x : Data) → fm.get n.watches k ≡ Some u → fm.get o.node.watches k ≡ None → Tells k u x
        → downs_in k o.effects ≡ down u x ∷ [] → Fate o k

  pub record Turns (o : Work) : Type 0 where
    pub fates : (k : Reference) → Fate o k
    pub dead : (p : Pid) → living n p ≡ false → living o.node p ≡ false
    pub enrolled : (k : Reference) (m : Registration) → fm.get o.node.registered k ≡ Some m → (living o.node m.held ≡ true) × IsBound m
        × ((fm.get n.registered k ≡ Some m) ⊎ Joins k m)
    -- a registration stays, or its owner is told, or it is dropped
    pub leaving : (k : Reference) (m : Registration) → fm.get n.registered k ≡ Some m → (fm.get o.node.registered k ≡ Some m)
        ⊎ (Lands (is_end k) n m.owner.node o ⊎ Drops k m)
    pub local : (f : Item → Bool) → has f n.local ≡ true → has f o.node.local ≡ true
    pub name : o.node.mint.name ≡ n.mint.name
    pub creation : o.node.mint.creation ≡ n.mint.creation
    pub references : o.node.mint.references ≡ n.mint.references
    pub pids : o.node.mint.pids ≡ n.mint.pids
    pub owners : (k : Reference) (u : Watch) → fm.get o.node.watches k ≡ Some u → living o.node u.owner ≡ true

  -- a part that touches no monitor
  pub record Aside (o o' : Work) : Type 0 where
    pub watches : (k : Reference) → fm.get o'.node.watches k ≡ fm.get o.node.watches k
    pub downs : (k : Reference) → downs_in k o'.effects ≡ downs_in k o.effects
    pub lives : (p : Pid) → living o'.node p ≡ living o.node p
    pub registered : (k : Reference) → fm.get o'.node.registered k ≡ fm.get o.node.registered k
    pub local : (f : Item → Bool) → has f o.node.local ≡ true → has f o'.node.local ≡ true
    pub sent : (f : Item → Bool) (t : TrunkId) (y : Name) → has f (at_place t y (outgoing o)) ≡ true
        → has f (at_place t y (outgoing o')) ≡ true
    pub name : o'.node.mint.name ≡ o.node.mint.name
    pub creation : o'.node.mint.creation ≡ o.node.mint.creation
    pub references : o'.node.mint.references ≡ o.node.mint.references
    pub pids : o'.node.mint.pids ≡ o.node.mint.pids

  -- an effect that sends nothing on a trunk
  lands_silent : (f : Item → Bool) (y : Name) (e : Effect Item) (o : Work) (m : Node) → sent_by e ≡ []
      → m.local ≡ o.node.local → Lands f n y o → Lands f n y (record { node = m; effects = o.effects ++ e ∷ [] })
  lands_silent f y e o m s l h =
      (λ i. ap (has f) l ∙ h.0 i, λ t i r. ap (λ z. has f (at_place t y z)) (sent_in-silent o.effects e s) ∙ h.1 t i r)

  fate_aside : (o o' : Work) (k : Reference) → fm.get o'.node.watches k ≡ fm.get o.node.watches k
      → downs_in k o'.effects ≡ downs_in k o.effects → ((p : Pid) → living o.node p ≡ false → living o'.node p ≡ false)
      → Fate o k → Fate o' k
  fate_aside o o' k w d l (Same a b) = Same (w ∙ a) (d ∙ b)
  fate_aside o o' k w d l (Left u a b c e) = Left u a (w ∙ b) (l u.owner c) (d ∙ e)
  fate_aside o o' k w d l (Spent u x a b t e) = Spent u x a (w ∙ b) t (d ∙ e)

  pub lands_more : (f : Item → Bool) (y : Name) (o o' : Work) → (has f o.node.local ≡ true → has f o'.node.local ≡ true)
      → ((t : TrunkId) → has f (at_place t y (outgoing o)) ≡ true → has f (at_place t y (outgoing o')) ≡ true) → Lands f n y o
      → Lands f n y o'
  lands_more f y o o' l s h = (λ e. l (h.0 e), λ t e r. s t (h.1 t e r))

  pub turns_aside : (o o' : Work) → Aside o o' → Turns o → Turns o'
  turns_aside o o' a k = record {
    fates = λ j. fate_aside o o' j (a.watches j) (a.downs j) (λ p h. a.lives p ∙ h) (k.fates j);
    dead = λ p h. a.lives p ∙ k.dead p h;
    enrolled = λ j m h. let v = k.enrolled j m (sym (a.registered j) ∙ h) in (a.lives m.held ∙ v.0, v.1, v.2);
    leaving = λ j m h. go j m (k.leaving j m h);
    local = λ f h. a.local f (k.local f h);
    name = a.name ∙ k.name;
    creation = a.creation ∙ k.creation;
    references = a.references ∙ k.references;
    pids = a.pids ∙ k.pids;
    owners = λ j u h. a.lives u.owner ∙ k.owners j u (sym (a.watches j) ∙ h);
  }
    where
      go : (j : Reference) (m : Registration) → (fm.get o.node.registered j ≡ Some m)
          ⊎ (Lands (is_end j) n m.owner.node o ⊎ Drops j m) → (fm.get o'.node.registered j ≡ Some m)
          ⊎ (Lands (is_end j) n m.owner.node o' ⊎ Drops j m)
      go j m (inl h) = inl (a.registered j ∙ h)
      go j m (inr (inl h)) =
          inr (inl (lands_more (is_end j) m.owner.node o o' (a.local (is_end j)) (λ t. a.sent (is_end j) t m.owner.node) h))
      go j m (inr (inr h)) = inr (inr h)

  posts_aside : (ss : List Addressed) (o : Work) → Aside o (post_all ss o)
  posts_aside ss o = record {
    watches = λ k. ap (λ z. fm.get z k) (all_posts_keep (λ m. m.watches) (λ m l. refl) ss o);
    downs = λ k. quietly_downs k o.effects ((post_all ss o).effects) (quietly_all o.effects ss o Nothing);
    lives = λ p. all_posts_keep (λ m. living m p) (λ m l. refl) ss o;
    registered = λ k. ap (λ z. fm.get z k) (all_posts_keep (λ m. m.registered) (λ m l. refl) ss o);
    local = λ f h. all_local_grows f ss o h;
    sent = λ f t y h. all_sent_grows f t y ss o h;
    name = all_posts_keep (λ m. m.mint.name) (λ m l. refl) ss o;
    creation = all_posts_keep (λ m. m.mint.creation) (λ m l. refl) ss o;
    references = all_posts_keep (λ m. m.mint.references) (λ m l. refl) ss o;
    pids = all_posts_keep (λ m. m.mint.pids) (λ m l. refl) ss o;
  }

  -- effects and lives alone change
  effects_aside : (o : Work) (m : Node) (gs : List (Effect Item)) → ((k : Reference) → downs_in k gs ≡ [])
      → m.watches ≡ o.node.watches → m.registered ≡ o.node.registered → m.local ≡ o.node.local
      → ((p : Pid) → living m p ≡ living o.node p)
      → m.mint.name ≡ o.node.mint.name → m.mint.creation ≡ o.node.mint.creation → m.mint.references ≡ o.node.mint.references
      → m.mint.pids ≡ o.node.mint.pids → sent_in gs ≡ [] → Aside o (record o { node = m; effects = o.effects ++ gs })
  effects_aside o m gs d w r l v a b c e q = record {
    watches = λ k. ap (λ z. fm.get z k) w;
    downs = λ k. no_more k o.effects gs (d k);
    lives = v;
    registered = λ k. ap (λ z. fm.get z k) r;
    local = λ f h. ap (has f) l ∙ h;
    sent = λ f t y h.
        ap (λ z. has f (at_place t y z)) (sent_in-append o.effects gs ∙ ap (λ z. sent_in o.effects ++ z) q ∙ append-nil (sent_in o.effects))
        ∙ h;
    name = a;
    creation = b;
    references = c;
    pids = e;
  }

  pub node_aside : (o : Work) (m : Node) → m.watches ≡ o.node.watches → m.registered ≡ o.node.registered
      → m.local ≡ o.node.local → ((p : Pid) → living m p ≡ living o.node p)
      → m.mint.name ≡ o.node.mint.name → m.mint.creation ≡ o.node.mint.creation → m.mint.references ≡ o.node.mint.references
      → m.mint.pids ≡ o.node.mint.pids → Aside o (record o { node = m })
  node_aside o m w r l v a b c e = record {
    watches = λ k. ap (λ z. fm.get z k) w;
    downs = λ k. refl;
    lives = v;
    registered = λ k. ap (λ z. fm.get z k) r;
    local = λ f h. ap (has f) l ∙ h;
    sent = λ f t y h. h;
    name = a;
    creation = b;
    references = c;
    pids = e;
  }

  pub lives_same : (p : Pid) (l : Option Life) (o : Work) → is_living_life l ≡ living o.node p → (q : Pid)
      → is_living_life (fm.get (set_life o.node.lives p l) q) ≡ living o.node q
  lives_same p l o h q = set_life_living o.node.lives p l q (λ e. h ∙ ap (living o.node) (sym (same_pid_true q p e)))

  put_aside : (p : Pid) (m : Data) (o : Work) → ((r : Reference) → down_in r p m ≡ []) → Aside o (put p m o)
  put_aside p m o h =
      effects_aside o ((put p m o).node) (Effect.Put p m ∷ []) (λ k. ap (λ v. v ++ []) (h k)) refl refl refl
      (lives_same p (delivered (fm.get o.node.lives p) m) o (living_received (fm.get o.node.lives p) m)) refl refl refl refl refl

  -- a process ends: posts, then its records go
  buried_turns : (p : Pid) (x : Data) (o : Work) → ((k : Reference) (m : Registration) → fm.get o.node.registered k ≡ Some m
      → same_pid m.held p ≡ true → Lands (is_end k) n m.owner.node o) → Turns o → Turns (buried p x o)
  buried_turns p x o tell k = record {
    fates = λ j. fate j (k.fates j);
    dead = λ q h. lived q ∙ cond_living (same_pid q p) x (fm.get o.node.lives q) (k.dead q h);
    enrolled = λ j m h. let v = retained (not (is_bound p (fm.get o.node.registered j))) (fm.get o.node.registered j) m
        (sym (registered_left p o.node.registered j) ∙ h) in
        let w = k.enrolled j m v.1 in (
          lived m.held ∙ is_living_kept (same_pid m.held p) x (fm.get o.node.lives m.held)
              (not-true (same_pid m.held p) (ap (λ z. not (is_bound p z)) (sym v.1) ∙ v.0)) ∙ w.0,
          w.1,
          w.2,
        );
    leaving = λ j m h. go j m (k.leaving j m h);
    local = k.local;
    name = k.name;
    creation = k.creation;
    references = k.references;
    pids = k.pids;
    owners = λ j u h. owner j u (fm.get o.node.watches j) refl h;
  }
    where
      lived : (q : Pid) → living ((buried p x o).node) q ≡ is_living_life (cond (same_pid q p) (Some (Ended x)) (fm.get o.node.lives q))
      lived q = ap is_living_life (fm.get-insert pid_total o.node.lives p (Ended x) q)

      owner : (j : Reference) (u : Watch) (v : Option Watch) → fm.get o.node.watches j ≡ v
          → fm.get ((buried p x o).node.watches) j ≡ Some u → living ((buried p x o).node) u.owner ≡ true
      owner j u v e h =
          let b =
          retained (not (is_owned p (fm.get o.node.watches j))) (fm.get o.node.watches j) u
          (sym (watches_left p o.node.watches j) ∙ h) in
          lived u.owner ∙ is_living_kept (same_pid u.owner p) x (fm.get o.node.lives u.owner)
          (not-true (same_pid u.owner p) (ap (λ z. not (is_owned p z)) (sym b.1) ∙ b.0)) ∙ k.owners j u b.1

      quiet : (j : Reference) → downs_in j ((buried p x o).effects) ≡ downs_in j o.effects
      quiet j = no_more j o.effects (Effect.Ended p x ∷ []) refl

      -- the watch of one who doesn't own it stays, and with its owner it goes
      split : (j : Reference) (v : Option Watch) → fm.get o.node.watches j ≡ v → (fm.get ((buried p x o).node.watches) j
          ≡ fm.get o.node.watches j) ⊎ ((u : Watch) × (fm.get o.node.watches j ≡ Some u) × (same_pid u.owner p ≡ true)
          × (fm.get ((buried p x o).node.watches) j ≡ None))
      split j None h = inl (watches_left p o.node.watches j ∙ ap (λ v. cond (not (is_owned p v)) v None) h ∙ sym h)
      split j (Some u) h = by_test _ (same_pid u.owner p)
          (λ e. inr (
            u,
            h,
            e,
            watches_left p o.node.watches j ∙ ap (λ v. cond (not (is_owned p v)) v None) h ∙ ap (λ b. cond (not b) (Some u) None) e,
          ))
          (λ e. inl (watches_left p o.node.watches j ∙ ap (λ v. cond (not (is_owned p v)) v None) h
          ∙ ap (λ b. cond (not b) (Some u) None) e ∙ sym h))

      deader : (q : Pid) → living o.node q ≡ false → living ((buried p x o).node) q ≡ false
      deader q h = lived q ∙ cond_living (same_pid q p) x (fm.get o.node.lives q) h

      fate : (j : Reference) → Fate o j → Fate (buried p x o) j
      fate j f = pick f (split j (fm.get o.node.watches j) refl)
        where
          gone : (u : Watch) → fm.get o.node.watches j ≡ Some u → same_pid u.owner p ≡ true
              → fm.get ((buried p x o).node.watches) j ≡ None → Fate o j → Fate (buried p x o) j
          gone u h e w (Same a b) =
              Left u (sym a ∙ h) w (lived u.owner ∙ is_living_cond (same_pid u.owner p) x (fm.get o.node.lives u.owner) e) (quiet j ∙ b)
          gone u h e w (Left v a b c d) = absurd (none-some u (sym b ∙ h))
          gone u h e w (Spent v y a b t d) = absurd (none-some u (sym b ∙ h))

          pick : Fate o j → (fm.get ((buried p x o).node.watches) j ≡ fm.get o.node.watches j) ⊎ ((u : Watch)
              × (fm.get o.node.watches j ≡ Some u) × (same_pid u.owner p ≡ true)
              × (fm.get ((buried p x o).node.watches) j ≡ None)) → Fate (buried p x o) j
          pick f (inl w) = fate_aside o (buried p x o) j w (quiet j) deader f
          pick f (inr w) = gone w.0 w.1 w.2 w.3 f

      go : (j : Reference) (m : Registration) → (fm.get o.node.registered j ≡ Some m)
          ⊎ (Lands (is_end j) n m.owner.node o ⊎ Drops j m) → (fm.get ((buried p x o).node.registered) j ≡ Some m)
          ⊎ (Lands (is_end j) n m.owner.node (buried p x o) ⊎ Drops j m)
      go j m (inl h) = by_test _ (same_pid m.held p)
          (λ e. inr (inl (lands_silent (is_end j) m.owner.node (Effect.Ended p x) o ((buried p x o).node) refl refl (tell j m h e))))
          (λ e. inl (registered_left p o.node.registered j ∙ ap (λ v. cond (not (is_bound p v)) v None) h
          ∙ ap (λ b. cond (not b) (Some m) None) e))
      go j m (inr (inl h)) = inr (inl (lands_silent (is_end j) m.owner.node (Effect.Ended p x) o ((buried p x o).node) refl refl h))
      go j m (inr (inr h)) = inr (inr h)

  -- a part of an event that sets no side
  pub record Core (o : Work) : Type 0 where
    pub turns : Turns o
    pub sides : o.node.sides ≡ n.sides

  abbrev last_words : Pid → Data → Work → List Addressed
  last_words p x o =
      exits_in p x (fm.entries o.node.ends) ++ monitor_exits p x (fm.entries o.node.registered) ++ demonitors p (fm.entries o.node.watches)

  owner_hears : (p : Pid) (x : Data) (o : Work) (j : Reference) (m : Registration) → fm.get o.node.registered j ≡ Some m
      → same_pid m.held p ≡ true → any_to (is_end j) m.owner.node (last_words p x o) ≡ true
  owner_hears p x o j m h e =
      any_to_append (is_end j) m.owner.node
      (exits_in p x (fm.entries o.node.ends) ++ monitor_exits p x (fm.entries o.node.registered))
      (demonitors p (fm.entries o.node.watches))
      ∙ or_left _ (any_to (is_end j) m.owner.node (demonitors p (fm.entries o.node.watches)))
      (any_to_append (is_end j) m.owner.node (exits_in p x (fm.entries o.node.ends)) (monitor_exits p x (fm.entries o.node.registered))
      ∙ or_right (any_to (is_end j) m.owner.node (exits_in p x (fm.entries o.node.ends))) _
      (told_owner p x j m (fm.entries o.node.registered) (sym (fm.get-entries o.node.registered j) ∙ h) e))

  finish_turns : (p : Pid) (x : Data) (o : Work) → Core o → Core (end_process p x o)
  finish_turns p x o k = record {
    turns = buried_turns p x (post_all (last_words p x o) o)
        (λ j m h e.
        let r = ap (λ z. fm.get z j) (sym (all_posts_keep (λ v. v.registered) (λ v l. refl) (last_words p x o) o)) ∙ h in
        lands_all (is_end j) (end_blind j) n m.owner.node (last_words p x o) o k.sides k.turns.name
        (owner_hears p x o j m r e))
        (turns_aside o (post_all (last_words p x o) o) (posts_aside (last_words p x o) o) k.turns);
    sides = all_posts_keep (λ m. m.sides) (λ m l. refl) (last_words p x o) o ∙ k.sides;
  }

  -- a DOWN is put, and the watch goes
  told_still : (j r : Reference) (m : Watch) (x : Data) (o : Work) (u : Registration) → (fm.get o.node.registered j ≡ Some u)
      ⊎ (Lands (is_end j) n u.owner.node o ⊎ Drops j u)
      → (fm.get o.node.registered j ≡ Some u)
      ⊎ (Lands (is_end j) n u.owner.node (put m.owner (down_term r (object m.target) x) (unwatch r o)) ⊎ Drops j u)
  told_still j r m x o u (inl h) = inl h
  told_still j r m x o u (inr (inl h)) =
      inr (inl (lands_silent (is_end j) u.owner.node (Effect.Put m.owner (down_term r (object m.target) x)) o
      ((put m.owner (down_term r (object m.target) x) (unwatch r o)).node) refl refl h))
  told_still j r m x o u (inr (inr h)) = inr (inr h)

  ended_turns : (r : Reference) (m : Watch) (x : Data) (o : Work) → fm.get o.node.watches r ≡ Some m → Tells r m x → Turns o
      → Turns (put m.owner (down_term r (object m.target) x) (unwatch r o))
  ended_turns r m x o h t k = record {
    fates = λ j. fate j (k.fates j);
    dead = λ q d. lived q ∙ k.dead q d;
    enrolled = λ j v e. let w = k.enrolled j v e in (lived v.held ∙ w.0, w.1, w.2);
    leaving = λ j v e. told_still j r m x o v (k.leaving j v e);
    local = k.local;
    name = k.name;
    creation = k.creation;
    references = k.references;
    pids = k.pids;
    owners = λ j u e. lived u.owner ∙ k.owners j u (removed_some o.node.watches r j u e);
  }
    where
      lived : (q : Pid) → living ((put m.owner (down_term r (object m.target) x) (unwatch r o)).node) q ≡ living o.node q
      lived q =
          lives_same m.owner (delivered (fm.get o.node.lives m.owner) (down_term r (object m.target) x)) o
          (living_received (fm.get o.node.lives m.owner) (down_term r (object m.target) x)) q

      said : (j : Reference) → downs_in j ((put m.owner (down_term r (object m.target) x) (unwatch r o)).effects)
          ≡ downs_in j o.effects ++ cond (same_reference j r) (down m x ∷ []) []
      said j =
          downs_append j o.effects (Effect.Put m.owner (down_term r (object m.target) x) ∷ [])
          ∙ ap (λ l. downs_in j o.effects ++ l) (append-nil (down_in j m.owner (down_term r (object m.target) x)) ∙ down_said j r m.owner m.target x)

      left : (j : Reference) → fm.get ((put m.owner (down_term r (object m.target) x) (unwatch r o)).node.watches) j
          ≡ cond (same_reference j r) None (fm.get o.node.watches j)
      left j = fm.get-remove reference_cmp_total o.node.watches r j

      fate : (j : Reference) → Fate o j → Fate (put m.owner (down_term r (object m.target) x) (unwatch r o)) j
      fate j f = by_test _ (same_reference j r)
          (λ e. here j e f)
          (λ e. fate_aside o (put m.owner (down_term r (object m.target) x) (unwatch r o)) j
          (left j ∙ ap (λ b. cond b None (fm.get o.node.watches j)) e)
          (said j ∙ ap (λ b. downs_in j o.effects ++ cond b (down m x ∷ []) []) e ∙ append-nil (downs_in j o.effects))
          (λ q d. lived q ∙ d) f)
        where
          here : (j : Reference) → same_reference j r ≡ true → Fate o j → Fate (put m.owner (down_term r (object m.target) x) (unwatch r o)) j
          here j e (Same a b) =
              let js : j ≡ r = same_reference_true j r e in
              Spent m x (sym a ∙ ap (fm.get o.node.watches) js ∙ h)
              (left j ∙ ap (λ b. cond b None (fm.get o.node.watches j)) e) (subst (λ z. Tells z m x) (sym js) t)
              (said j ∙ ap (λ l. l ++ cond (same_reference j r) (down m x ∷ []) []) b ∙ ap (λ b. cond b (down m x ∷ []) []) e)
          here j e (Left u a b c d) = absurd (none-some m (sym b ∙ ap (fm.get o.node.watches) (same_reference_true j r e) ∙ h))
          here j e (Spent u y a b s d) = absurd (none-some m (sym b ∙ ap (fm.get o.node.watches) (same_reference_true j r e) ∙ h))

  -- a registration comes, or goes
  registers_turns : (r : Reference) (m : Registration) (o : Work) → living o.node m.held ≡ true → IsBound m → Joins r m → Turns o
      → Turns (register r m o)
  registers_turns r m o l b h k = record {
    fates = λ j. fate_aside o (register r m o) j refl refl (λ p d. d) (k.fates j);
    dead = k.dead;
    enrolled = λ j v e. new j v (added_some o.node.registered r m j v e);
    leaving = λ j v e. go j v (k.leaving j v e);
    local = k.local;
    name = k.name;
    creation = k.creation;
    references = k.references;
    pids = k.pids;
    owners = k.owners;
  }
    where
      new : (j : Reference) (v : Registration) → (fm.get o.node.registered j ≡ Some v) ⊎ ((j ≡ r) × (m ≡ v))
          → (living o.node v.held ≡ true) × IsBound v × ((fm.get n.registered j ≡ Some v) ⊎ Joins j v)
      new j v (inl e) = k.enrolled j v e
      new j v (inr e) = (
        subst (λ (z : Registration). living o.node z.held ≡ true) e.1 l,
        subst IsBound e.1 b,
        inr (subst (λ z. Joins z v) (sym e.0) (subst (λ z. Joins r z) e.1 h)),
      )

      stays : (j : Reference) (v : Registration) → fm.get o.node.registered j ≡ Some v → fm.get (added o.node.registered r m) j ≡ Some v
      stays j v e = pick (fm.contains_key o.node.registered r) refl
        where
          pick : (b : Bool) → fm.contains_key o.node.registered r ≡ b
              → fm.get (cond b o.node.registered (fm.insert o.node.registered r m)) j ≡ Some v
          pick true i = e
          pick false i = fm.get-insert reference_cmp_total o.node.registered r m j ∙ by_test _ (same_reference j r)
              (λ s. let c : false ≡ true = sym i ∙ ap is_some (ap (fm.get o.node.registered) (sym (same_reference_true j r s)) ∙ e) in cc)
              (λ s. ap (λ b. cond b (Some m) (fm.get o.node.registered j)) s ∙ e)

      go : (j : Reference) (v : Registration) → (fm.get o.node.registered j ≡ Some v)
          ⊎ (Lands (is_end j) n v.owner.node o ⊎ Drops j v) → (fm.get (added o.node.registered r m) j ≡ Some v)
          ⊎ (Lands (is_end j) n v.owner.node (register r m o) ⊎ Drops j v)
      go j v (inl e) = inl (stays j v e)
      go j v (inr (inl e)) = inr (inl e)
      go j v (inr (inr e)) = inr (inr e)

  unregisters_turns : (r : Reference) (m : Registration) (o : Work) → fm.get o.node.registered r ≡ Some m → Drops r m → Turns o
      → Turns (unregister r o)
  unregisters_turns r m o h d k = record {
    fates = λ j. fate_aside o (unregister r o) j refl refl (λ p e. e) (k.fates j);
    dead = k.dead;
    enrolled = λ j v e. k.enrolled j v (removed_some o.node.registered r j v e);
    leaving = λ j v e. go j v (k.leaving j v e);
    local = k.local;
    name = k.name;
    creation = k.creation;
    references = k.references;
    pids = k.pids;
    owners = k.owners;
  }
    where
      go : (j : Reference) (v : Registration) → (fm.get o.node.registered j ≡ Some v)
          ⊎ (Lands (is_end j) n v.owner.node o ⊎ Drops j v) → (fm.get (fm.remove o.node.registered r) j ≡ Some v)
          ⊎ (Lands (is_end j) n v.owner.node (unregister r o) ⊎ Drops j v)
      go j v (inl e) = by_test _ (same_reference j r)
          (λ s. let js : j ≡ r = same_reference_true j r s in
          let mv : m ≡ v = same_Some m v (sym h ∙ ap (fm.get o.node.registered) (sym js) ∙ e) in
          inr (inr (subst (λ z. Drops z v) (sym js) (subst (λ z. Drops r z) mv d))))
          (λ s. inl (fm.get-remove reference_cmp_total o.node.registered r j ∙ ap (λ b. cond b None (fm.get o.node.registered j)) s ∙ e))
      go j v (inr (inl e)) = inr (inl e)
      go j v (inr (inr e)) = inr (inr e)

  core_aside : (o o' : Work) → Aside o o' → o'.node.sides ≡ o.node.sides → Core o → Core o'
  core_aside o o' a s k = record { turns = turns_aside o o' a k.turns; sides = s ∙ k.sides }

  abbrev pub turn_rules : Rules
  turn_rules = record { Says = λ s. Unit {0}; Reacts = λ p q x. Unit {0}; Tells = Tells; Joins = Joins; Drops = Drops }

  pub core_closed : Closed turn_rules Core
  core_closed = record {
    plain = λ s h. tt;
    posted = λ s o h k.
        core_aside o (post s o) (posts_aside (s ∷ []) o)
        (posts_keep (λ m. m.sides) (λ m l. refl) s.node (spelled o.node s) o) k;
    end_set = λ p q e o l k.
        core_aside o (set_end p q e o) (node_aside o ((set_end p q e o).node) refl refl refl (λ z. refl) refl refl refl refl) refl k;
    drew = λ o k. core_aside o (draw kind.UnlinkId o)
        (node_aside o ((draw kind.UnlinkId o).node) refl refl refl (λ z. refl) refl refl refl refl) refl k;
    life_set = λ p l o h k. core_aside o (record o { node = record (o.node) { lives = set_life o.node.lives p l } })
        (node_aside o (record (o.node) { lives = set_life o.node.lives p l }) refl refl refl (lives_same p l o h) refl refl refl refl)
        refl k;
    renamed = λ m o h k. core_aside o (record o { node = record (o.node) { names = m } })
        (node_aside o (record (o.node) { names = m }) refl refl refl (λ z. refl) refl refl refl refl) refl k;
    message = λ p m o h k. core_aside o (put p m o) (put_aside p m o h) refl k;
    reacted = λ p q x o h k. core_aside o (report (Effect.LinkExit p q x) o)
        (effects_aside o o.node (Effect.LinkExit p q x ∷ []) (λ r. refl) refl refl refl (λ z. refl) refl refl refl refl refl) refl k;
    finished = λ p x o k. finish_turns p x o k;
    registers = λ r m o l b h k. record { turns = registers_turns r m o l b h k.turns; sides = k.sides };
    unregisters = λ r m o e h k. record { turns = unregisters_turns r m o e h k.turns; sides = k.sides };
    ended = λ r m x o e h k. record { turns = ended_turns r m x o e h k.turns; sides = k.sides };
  }

  -- the handshake
  pub turns_side : (t : TrunkId) (s : TrunkSide) (o : Work) → Turned o.node t s → Turns o → Turns (with_side t s o)
  turns_side t s o h k =
      turns_aside o (with_side t s o) (node_aside o ((with_side t s o).node) refl refl refl (λ z. refl) refl refl refl refl) k

  pub turns_wrote : (t : TrunkId) (y : Name) (m : ShakeMsg) (o : Work) → Turns o → Turns (write t y m o)
  turns_wrote t y m o k = turns_aside o (write t y m o) (record {
    watches = λ j. refl;
    downs = λ j. no_more j o.effects (Effect.Sent (Some t) y (Handshake m) ∷ []) refl;
    lives = λ p. refl;
    registered = λ j. refl;
    local = λ f h. h;
    sent = λ f u z h. ap (λ l. has f (at_place u z l)) (sent_in-push o.effects (Effect.Sent (Some t) y (Handshake m)))
        ∙ ap (has f) (at_place_append u z (outgoing o) ((record { trunk = t; target = y; item = Handshake m }) ∷ []))
        ∙ has_first f (at_place u z (outgoing o)) _ h;
    name = refl;
    creation = refl;
    references = refl;
    pids = refl;
  }) k
