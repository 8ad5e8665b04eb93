-- The news of monitors by name in an event: the reasons that are sent, the processes that are bound, and the DOWN messages.
use Rattle.erl_names.specs.Draw as kind
use Rattle.std.proofs.Common.{◌≡◌, Bool, true, false, cond, not, List, [], ◌∷◌, ◌++◌, refl, sym}
use Rattle.std.proofs.Common.{ap, ◌∙◌, subst, Some, ◌⊎◌, inl, inr, Contains}
use Rattle.std.proofs.lemmas.List.Elements.{All-append, All-cons, All-nil, All-head, All-tail}
use Rattle.std.proofs.lemmas.List.Elements.{Contains-append_cases, Contains-append_left, Contains-push, Contains-push_cases}
use Rattle.std.specs.List.{All}
use Rattle.std.specs.FinMap as fm
use Rattle.dist_model.proofs.Entries.{each_entry, same_reference_true}
use Rattle.dist_model.proofs.Envelopes.{Envelope, outgoing, sent_in-silent}
use Rattle.dist_model.proofs.Founded.{Carried, Nothing, added_some, all_posts_keep, carried_all, carried_by, carried_write}
use Rattle.dist_model.proofs.Founded.{quietly_all, quietly_more, registered_left, removed_some, retained}
use Rattle.dist_model.proofs.Keys.{same_pid_true}
use Rattle.dist_model.proofs.Lands.{down_said, downs_append, no_more, quietly_downs}
use Rattle.dist_model.proofs.Parts.{Closed, Rules, is_plain}
use Rattle.dist_model.proofs.Truths.{none_within}
use Rattle.dist_model.specs.Downs.{Down, downs_in, same_reference}
use Rattle.dist_model.specs.Exits.{demonitors, end_process, exit_for, exits, is_bound, monitor_exits}
use Rattle.dist_model.specs.Handshake.{with_side, write}
use Rattle.dist_model.specs.Items.{Handshake, Item, Signalled}
use Rattle.dist_model.specs.Monitoring.{register, unregister, unwatch}
use Rattle.dist_model.specs.Names.{Name, same_pid}
use Rattle.dist_model.specs.Node.{Node, ends_of}
use Rattle.dist_model.specs.Sides.{TrunkSide}
use Rattle.dist_model.specs.Telling.{object, taken_back, told_end}
use Rattle.dist_model.specs.Work.{Addressed, Work, draw, post, post_all, put, report, set_end, set_life, to_pid}
use Rattle.dist_model.specs.declared.report.Effect.{Effect}
use Rattle.erl_control.specs.declared.signal.Signal.{Signal}
use Rattle.erl_handshake.specs.declared.message.ShakeMsg.{ShakeMsg}
use Rattle.erl_names.specs.declared.trunk.TrunkId.{TrunkId}
use Rattle.erl_term.specs.Data.{Data}
use Rattle.erl_term.specs.declared.term.Pid.{Pid}
use Rattle.erl_term.specs.declared.term.Reference.{Reference}
use Rattle.exit_core.specs.Messages.{down_term}
use Rattle.link_core.specs.declared.end.End.{End}
use Rattle.monitor_core.specs.declared.monitor.Registration.{Registration}
use Rattle.monitor_core.specs.declared.monitor.Target.{Target}
use Rattle.monitor_core.specs.declared.monitor.Watch.{Watch}

-- of a target that is a name
abbrev pub OfName : (Name → Name → Type 0) → Target → Type 0
OfName P (Target.Pid q) = Unit {0}
OfName P (Target.Name name node) = P name node

-- the reasons that may be told of the end of p's monitor of a name under r, the processes to which that monitor may be bound, and the
-- reasons that its owner may get
module _ (Told : Pid → Name → Reference → Data → Type 0) (Bound : Reference → Pid → Name → Name → Pid → Type 0)
    (Tells : Reference → Pid → Name → Name → Data → Type 0) where
  abbrev pub BoundBy : Reference → Registration → Type 0
  BoundBy r u = OfName (λ name node. Bound r u.owner name node u.held) u.target

  abbrev pub TellsOf : Reference → Pid → Target → Data → Type 0
  TellsOf r p g x = OfName (λ name node. Tells r p name node x) g

  -- the reason may be told, or the process to which the monitor is bound ended with it in this event
  abbrev pub Over : Work → Pid → Name → Reference → Data → Type 0
  Over o p name r x = Told p name r x ⊎ ((node : Name) × (q : Pid) × Bound r p name node q × Contains o.effects (Effect.Ended q x))

  abbrev pub WellSaid : Work → Signal → Type 0
  WellSaid o (Signal.MonitorNameExit name p r x) = Over o p name r x
  WellSaid o _ = Unit {0}

  abbrev pub Well : Work → Item → Type 0
  Well o (Signalled s pay) = WellSaid o s
  Well o _ = Unit {0}

  abbrev pub MaySay : Signal → Type 0
  MaySay (Signal.MonitorNameExit name p r x) = Told p name r x
  MaySay _ = Unit {0}

  pub record Named (o : Work) : Type 0 where
    pub carried : Carried (Well o) o
    pub enrolled : (r : Reference) (u : Registration) → fm.get o.node.registered r ≡ Some u → BoundBy r u
    pub downs : (r : Reference) (d : Down) → Contains (downs_in r o.effects) d → TellsOf r d.owner d.target d.info

  well_said : (o o' : Work) → ((f : Effect Item) → Contains o.effects f → Contains o'.effects f) → (s : Signal) → WellSaid o s → WellSaid o' s
  well_said o o' f (Signal.MonitorNameExit name p r x) (inl h) = inl h
  well_said o o' f (Signal.MonitorNameExit name p r x) (inr h) = inr (h.0, h.1, h.2, f (Effect.Ended h.1 x) h.3)
  well_said o o' f _ h = tt

  well_more : (o o' : Work) → ((f : Effect Item) → Contains o.effects f → Contains o'.effects f) → (i : Item) → Well o i → Well o' i
  well_more o o' f (Signalled s pay) h = well_said o o' f s h
  well_more o o' f _ h = tt

  may_say : (o : Work) (s : Signal) → MaySay s → WellSaid o s
  may_say o (Signal.MonitorNameExit name p r x) h = inl h
  may_say o _ h = tt

  plainly : (s : Signal) → is_plain s ≡ true → MaySay s
  plainly (Signal.MonitorNameExit name p r x) h = cc
  plainly _ h = tt

  -- the same items, and more effects
  named_more : (o o' : Work) → o'.node.local ≡ o.node.local → outgoing o' ≡ outgoing o
      → ((f : Effect Item) → Contains o.effects f → Contains o'.effects f)
      → ((r : Reference) (u : Registration) → fm.get o'.node.registered r ≡ Some u → BoundBy r u)
      → ((r : Reference) (d : Down) → Contains (downs_in r o'.effects) d → TellsOf r d.owner d.target d.info) → Named o → Named o'
  named_more o o' l s f e d k = let c = carried_by (Well o) (Well o') o (well_more o o' f) k.carried in record {
    carried = record {
      local = subst (λ z. All (Well o') z) (sym l) c.local;
      sent = subst (λ z. All (λ (v : Envelope). Well o' v.item) z) (sym s) c.sent;
    };
    enrolled = e;
    downs = d;
  }

  pub named_node : (o : Work) (m : Node) → m.local ≡ o.node.local
      → ((r : Reference) (u : Registration) → fm.get m.registered r ≡ Some u → BoundBy r u) → Named o → Named (record o { node = m })
  named_node o m l e k = named_more o (record o { node = m }) l refl (λ f h. h) e k.downs k

  same_down : (r : Reference) (fs gs : List (Effect Item)) → downs_in r gs ≡ downs_in r fs → (d : Down) → Contains (downs_in r gs) d
      → Contains (downs_in r fs) d
  same_down r fs gs e d c = subst (λ l. Contains l d) e c

  -- an effect that is neither a DOWN nor sent
  named_effect : (f : Effect Item) (o : Work) → outgoing (report f o) ≡ outgoing o → ((r : Reference) → downs_in r (f ∷ []) ≡ []) → Named o
      → Named (report f o)
  named_effect f o s h k = named_more o (report f o) refl s (λ g c. Contains-append_left o.effects (f ∷ []) g c) k.enrolled
      (λ r d c. k.downs r d (same_down r o.effects (o.effects ++ f ∷ []) (no_more r o.effects (f ∷ []) (h r)) d c)) k

  pub named_put : (p : Pid) (m : Data) (o : Work) → ((r : Reference) → downs_in r (Effect.Put p m ∷ []) ≡ []) → Named o → Named (put p m o)
  named_put p m o h k = named_more o (put p m o) refl (sent_in-silent o.effects (Effect.Put p m) refl)
      (λ g c. Contains-append_left o.effects (Effect.Put p m ∷ []) g c) k.enrolled
      (λ r d c. k.downs r d (same_down r o.effects (o.effects ++ Effect.Put p m ∷ []) (no_more r o.effects (Effect.Put p m ∷ []) (h r)) d c)) k

  -- any message
  pub carried_put : (p : Pid) (m : Data) (o : Work) → Named o → Carried (Well (put p m o)) (put p m o)
  carried_put p m o k =
      let c = carried_by (Well o) (Well (put p m o)) o
      (well_more o (put p m o) (λ f h. Contains-append_left o.effects (Effect.Put p m ∷ []) f h)) k.carried in record {
        local = c.local;
        sent = subst (λ z. All (λ (v : Envelope). Well (put p m o) v.item) z) (sym (sent_in-silent o.effects (Effect.Put p m) refl)) c.sent;
      }

  -- a DOWN
  pub named_down : (k : Reference) (p : Pid) (g : Target) (x : Data) (o : Work) → TellsOf k p g x → Named o → Named (put p (down_term k (object g) x) o)
  named_down k p g x o h n = named_more o (put p (down_term k (object g) x) o) refl
      (sent_in-silent o.effects (Effect.Put p (down_term k (object g) x)) refl)
      (λ f c. Contains-append_left o.effects (Effect.Put p (down_term k (object g) x) ∷ []) f c) n.enrolled
      (λ r d c. pick r d (Contains-append_cases (downs_in r o.effects) (downs_in r (Effect.Put p (down_term k (object g) x) ∷ [])) d
      (subst (λ l. Contains l d) (downs_append r o.effects (Effect.Put p (down_term k (object g) x) ∷ [])) c))) n
    where
      this : Down
      this = record { owner = p; target = g; info = x }

      by : (r : Reference) (d : Down) (b : Bool) → same_reference r k ≡ b → Contains (cond b (this ∷ []) [] ++ []) d
          → TellsOf r d.owner d.target d.info
      by r d true e c = one (Contains-push_cases [] this d c)
        where
          one : Contains {X = Down} [] d ⊎ (this ≡ d) → TellsOf r d.owner d.target d.info
          one (inl z) = absurd (none_within d z)
          one (inr z) = subst (λ (v : Down). TellsOf r v.owner v.target v.info) z
              (subst (λ v. TellsOf v p g x) (sym (same_reference_true r k e)) h)
      by r d false e c = absurd (none_within d c)

      pick : (r : Reference) (d : Down) → Contains (downs_in r o.effects) d ⊎ Contains (downs_in r (Effect.Put p (down_term k (object g) x) ∷ [])) d
          → TellsOf r d.owner d.target d.info
      pick r d (inl c) = n.downs r d c
      pick r d (inr c) = by r d (same_reference r k) refl (subst (λ l. Contains (l ++ []) d) (down_said r k p g x) c)

  -- signals that are well said in the end
  named_posts : (ss : List Addressed) (o : Work) → All (λ s. WellSaid o s.signal) ss → Named o → Named (post_all ss o)
  named_posts ss o h k =
      let q = quietly_all o.effects ss o Nothing in
      let rs = all_posts_keep (λ m. m.registered) (λ m l. refl) ss o in
      record {
        carried = carried_by (Well o) (Well (post_all ss o)) (post_all ss o)
            (well_more o (post_all ss o) (quietly_more o.effects ((post_all ss o).effects) q))
            (carried_all (Well o) (λ s pay c. c) ss o h k.carried);
        enrolled = λ r u e. k.enrolled r u (ap (λ z. fm.get z r) (sym rs) ∙ e);
        downs = λ r d c. k.downs r d (same_down r o.effects ((post_all ss o).effects) (quietly_downs r o.effects ((post_all ss o).effects) q) d c);
      }

  pub named_post : (s : Addressed) (o : Work) → MaySay s.signal → Named o → Named (post s o)
  named_post s o h k = named_posts (s ∷ []) o (All-cons (λ z. WellSaid o z.signal) s [] (may_say o s.signal h) (All-nil (λ z. WellSaid o z.signal))) k

  -- a process ends
  module _ (p : Pid) (x : Data) (o : Work) (k : Named o) where
    abbrev Good : Addressed → Type 0
    Good s = WellSaid (end_process p x o) s.signal

    none : All Good []
    none = All-nil Good

    exits_good : (ls : List (Pid × End)) → All Good (exits p x ls)
    exits_good [] = none
    exits_good (l ∷ ls) = All-append Good (exit_for p x l.0 l.1) (exits p x ls) (go l.1) (exits_good ls)
      where
        go : (v : End) → All Good (exit_for p x l.0 v)
        go End.Active = All-cons Good (to_pid l.0 (Signal.Exit p l.0 x)) [] tt none
        go _ = none

    told_good : (r : Reference) (u : Registration) → BoundBy r u → u.held ≡ p
        → Contains ((end_process p x o).effects) (Effect.Ended p x) → Good (told_end u.target u.owner r x)
    told_good r u b h c = go u.target b
      where
        go : (g : Target) → OfName (λ name node. Bound r u.owner name node u.held) g → Good (told_end g u.owner r x)
        go (Target.Pid q) b = tt
        go (Target.Name name node) b = inr (node, u.held, b, subst (λ z. Contains ((end_process p x o).effects) (Effect.Ended z x)) (sym h) c)

    monitor_exits_good : (es : List (Reference × Registration)) → All (λ e. fm.get o.node.registered e.0 ≡ Some e.1) es
        → Contains ((end_process p x o).effects) (Effect.Ended p x) → All Good (monitor_exits p x es)
    monitor_exits_good [] h c = none
    monitor_exits_good (e ∷ es) h c =
        All-append Good (cond (same_pid e.1.held p) (told_end e.1.target e.1.owner e.0 x ∷ []) []) (monitor_exits p x es)
        (go (same_pid e.1.held p) refl)
        (monitor_exits_good es (All-tail (λ d. fm.get o.node.registered d.0 ≡ Some d.1) e es h) c)
      where
        go : (b : Bool) → same_pid e.1.held p ≡ b → All Good (cond b (told_end e.1.target e.1.owner e.0 x ∷ []) [])
        go true i = All-cons Good (told_end e.1.target e.1.owner e.0 x) []
            (told_good e.0 e.1 (k.enrolled e.0 e.1 (All-head (λ d. fm.get o.node.registered d.0 ≡ Some d.1) e es h))
            (same_pid_true e.1.held p i) c) none
        go false i = none

    back_good : (g : Target) (r : Reference) → Good (taken_back p g r)
    back_good (Target.Pid q) r = tt
    back_good (Target.Name name node) r = tt

    demonitors_good : (es : List (Reference × Watch)) → All Good (demonitors p es)
    demonitors_good [] = none
    demonitors_good (e ∷ es) =
        All-append Good (cond (same_pid e.1.owner p) (taken_back p e.1.target e.0 ∷ []) []) (demonitors p es)
        (go (same_pid e.1.owner p)) (demonitors_good es)
      where
        go : (b : Bool) → All Good (cond b (taken_back p e.1.target e.0 ∷ []) [])
        go true = All-cons Good (taken_back p e.1.target e.0) [] (back_good e.1.target e.0) none
        go false = none

    named_finish : Named (end_process p x o)
    named_finish =
        let a = exits p x (ends_of o.node p) in
        let b = monitor_exits p x (fm.entries o.node.registered) in
        let c = demonitors p (fm.entries o.node.watches) in
        let ss = a ++ b ++ c in
        let o1 = post_all ss o in
        let q = quietly_all o.effects ss o Nothing in
        let rs = all_posts_keep (λ m. m.registered) (λ m l. refl) ss o in
        let ended : Contains ((end_process p x o).effects) (Effect.Ended p x) = Contains-push o1.effects (Effect.Ended p x) in
        let more : (f : Effect Item) → Contains o.effects f → Contains (end_process p x o).effects f =
        λ f h. Contains-append_left o1.effects (Effect.Ended p x ∷ []) f (quietly_more o.effects o1.effects q f h) in
        let v : Carried (Well (end_process p x o)) o1 = carried_all (Well (end_process p x o)) (λ s pay c. c) ss o
        (All-append Good (a ++ b) c (All-append Good a b (exits_good (ends_of o.node p))
        (monitor_exits_good (fm.entries o.node.registered) (each_entry o.node.registered) ended))
        (demonitors_good (fm.entries o.node.watches)))
        (carried_by (Well o) (Well (end_process p x o)) o (well_more o (end_process p x o) more) k.carried) in
        record {
          carried = record {
            local = v.local;
            sent = subst (All (λ (e : Envelope). Well (end_process p x o) e.item)) (sym (sent_in-silent o1.effects (Effect.Ended p x) refl)) v.sent;
          };
          enrolled = λ r u h. k.enrolled r u (ap (λ z. fm.get z r) (sym rs) ∙ (retained
              (not (is_bound p (fm.get o1.node.registered r))) (fm.get o1.node.registered r) u
              (sym (registered_left p o1.node.registered r) ∙ h)).1);
          downs = λ r d h. k.downs r d (same_down r o.effects o1.effects (quietly_downs r o.effects o1.effects q) d
              (same_down r o1.effects (o1.effects ++ Effect.Ended p x ∷ []) (no_more r o1.effects (Effect.Ended p x ∷ []) refl) d h));
        }

  abbrev pub named_rules : Rules
  named_rules = record {
    Says = λ s. MaySay s.signal;
    Reacts = λ p q x. Unit {0};
    Tells = λ r m x. TellsOf r m.owner m.target x;
    Joins = BoundBy;
    Drops = λ r m. Unit {0};
  }

  pub named_closed : Closed named_rules Named
  named_closed = record {
    plain = λ s h. plainly s.signal h;
    posted = named_post;
    end_set = λ p q e o l k. named_node o ((set_end p q e o).node) refl k.enrolled k;
    drew = λ o k. named_node o ((draw kind.UnlinkId o).node) refl k.enrolled k;
    life_set = λ p l o h k. named_node o (record (o.node) { lives = set_life o.node.lives p l }) refl k.enrolled k;
    renamed = λ m o h k. named_node o (record (o.node) { names = m }) refl k.enrolled k;
    message = λ p m o h k. named_put p m o (λ r. ap (λ l. l ++ []) (h r)) k;
    reacted = λ p q x o h k. named_effect (Effect.LinkExit p q x) o (sent_in-silent o.effects (Effect.LinkExit p q x) refl) (λ r. refl) k;
    finished = named_finish;
    registers = λ r m o l b h k. named_node o ((register r m o).node) refl
        (λ s v c. joined r m o h k s v (added_some o.node.registered r m s v c)) k;
    unregisters = λ r m o e h k. named_node o ((unregister r o).node) refl
        (λ s v c. k.enrolled s v (removed_some o.node.registered r s v c)) k;
    ended = λ r m x o e h k. named_down r m.owner m.target x (unwatch r o) h (named_node o ((unwatch r o).node) refl k.enrolled k);
  }
    where
      joined : (r : Reference) (m : Registration) (o : Work) → BoundBy r m → Named o → (s : Reference) (v : Registration)
          → (fm.get o.node.registered s ≡ Some v) ⊎ ((s ≡ r) × (m ≡ v)) → BoundBy s v
      joined r m o h k s v (inl c) = k.enrolled s v c
      joined r m o h k s v (inr c) =
          subst (λ z. BoundBy z v) (sym c.0) (subst (λ (z : Registration). BoundBy r z) c.1 h)

  -- the handshake
  pub named_side : (t : TrunkId) (s : TrunkSide) (o : Work) → Named o → Named (with_side t s o)
  named_side t s o k = named_node o ((with_side t s o).node) refl k.enrolled k

  pub named_wrote : (t : TrunkId) (y : Name) (m : ShakeMsg) (o : Work) → Named o → Named (write t y m o)
  named_wrote t y m o k =
      let o' = write t y m o in
      let f : (f : Effect Item) → Contains o.effects f → Contains o'.effects f =
      λ f h. Contains-append_left o.effects (Effect.Sent (Some t) y (Handshake m) ∷ []) f h in
      record {
        carried = carried_write (Well o') t y m o tt (carried_by (Well o) (Well o') o (well_more o o' f) k.carried);
        enrolled = k.enrolled;
        downs = λ r d c. k.downs r d (same_down r o.effects o'.effects
            (no_more r o.effects (Effect.Sent (Some t) y (Handshake m) ∷ []) refl) d c);
      }
