-- Each event of a node keeps the knowledge about monitors by name.
use Rattle.erl_names.specs.Draw as kind
use Rattle.std.proofs.Common.{◌≡◌, ℕ, Bool, true, false, cond, List, [], ◌∷◌, refl, sym}
use Rattle.std.proofs.Common.{ap, ◌∙◌, subst, Option, Some, None, ◌⊎◌, inl, inr, Contains, ◌&&◌, nat_lt, ◌+◌, ◌^◌}
use Rattle.std.proofs.lemmas.List.Elements.{All-nil}
use Rattle.std.proofs.lemmas.Option.{none-some}
use Rattle.std.specs.List.{All}
use Rattle.std.specs.FinMap as fm
use Rattle.conn_core.specs.declared.arrival.Fault.{Fault}
use Rattle.dist_model.proofs.Asks.{IfAnswers}
use Rattle.dist_model.proofs.Calls.{IfGoes, if_cond, if_drawn, if_not}
use Rattle.dist_model.proofs.ClosedSides.{any_found, losing_is}
use Rattle.dist_model.proofs.Comings.{IsRegSend, IsSend, IsUnsent, sent_or_not}
use Rattle.dist_model.proofs.Entries.{registered_found, watch_found}
use Rattle.dist_model.proofs.Founded.{Carried}
use Rattle.dist_model.proofs.KeepEvents.{dial_goes, outer_parts}
use Rattle.dist_model.proofs.KeepParts.{record_keeps}
use Rattle.dist_model.proofs.Learnt.{Honest, Turns, fresh_learns, known_fault, known_learns, lose_learns, swept_learns}
use Rattle.dist_model.proofs.NamedParts.{BoundBy, Named, TellsOf, Well, carried_put, named_closed, named_down, named_post, named_rules}
use Rattle.dist_model.proofs.NamedParts.{named_side, named_wrote}
use Rattle.dist_model.proofs.Parts.{Apart, NoneLives, call_kept, item_kept, link_swept}
use Rattle.dist_model.proofs.Records.{least_as}
use Rattle.dist_model.proofs.Sides.{side_at}
use Rattle.dist_model.proofs.Truths.{none_within}
use Rattle.dist_model.specs.Arrivals.{arrive, arrive_at, arrive_first, handshake_in, is_good, signal_at, take_local}
use Rattle.dist_model.specs.Calls.{call}
use Rattle.dist_model.specs.Commands.{Accepts, Outcome, Refuses}
use Rattle.dist_model.specs.Downs.{Down, downs_by, downs_in, is_sent_message, takes_message}
use Rattle.dist_model.specs.Handshake.{fault, with_side, write}
use Rattle.dist_model.specs.Incarnations.{started, stopped}
use Rattle.dist_model.specs.Items.{Handshake, Item, Signalled, kind_of}
use Rattle.dist_model.specs.Losses.{any_side, least_record, link_to, sweep_by, sweep_record}
use Rattle.dist_model.specs.Monitoring.{demonitor_by, monitor, unwatch, watch}
use Rattle.dist_model.specs.Names.{Name, same_name, same_pid}
use Rattle.dist_model.specs.Node.{Node, is_stranger, living, monitors_names, reaches}
use Rattle.dist_model.specs.NodeEvents as event
use Rattle.dist_model.specs.NodeEvents.{NodeEvent, at_node}
use Rattle.dist_model.specs.Sides.{State, TrunkSide, Up, is_losing, is_over, Losing}
use Rattle.dist_model.specs.Taking.{take_item, take_named}
use Rattle.dist_model.specs.Telling.{asked, object, taken_back}
use Rattle.dist_model.specs.Work.{Work, at_work, draw, post, put}
use Rattle.dist_model.specs.World.{Event, Reported}
use Rattle.dist_model.specs.declared.command.Command.{Command}
use Rattle.dist_model.specs.declared.report.Answer.{Answer}
use Rattle.dist_model.specs.declared.report.Effect.{Effect}
use Rattle.erl_control.specs.declared.signal.Signal.{Signal}
use Rattle.erl_handshake.specs.declared.fault.ShakeFault.{ShakeFault}
use Rattle.erl_handshake.specs.declared.message.ShakeMsg.{ShakeMsg}
use Rattle.erl_names.specs.Ids.{reference_of}
use Rattle.erl_names.specs.Minted.{id_of}
use Rattle.erl_names.specs.declared.trunk.TrunkId.{TrunkId}
use Rattle.erl_term.specs.Data.{Data}
use Rattle.erl_term.specs.Order.{reference_cmp}
use Rattle.erl_term.specs.declared.refusal.Refusal.{Refusal}
use Rattle.erl_term.specs.declared.term.Pid.{Pid}
use Rattle.erl_term.specs.declared.term.Reference.{Reference}
use Rattle.exit_core.specs.Messages.{down_term}
use Rattle.link_core.specs.News.{noconnection, noproc}
use Rattle.monitor_core.specs.Monitors.{target_node, watch_of}
use Rattle.monitor_core.specs.declared.monitor.Registration.{Registration}
use Rattle.monitor_core.specs.declared.monitor.Target.{Target}
use Rattle.monitor_core.specs.declared.monitor.Watch.{Watch}

answers_if : (b : Bool) (k : Outcome) (j : Refusal) (P : Answer → Work → Type 0) → (b ≡ true → IfAnswers k P) → IfAnswers (cond b k (Refuses j)) P
answers_if true k j P h = h refl
answers_if false k j P h = tt

module _ (Told : Pid → Name → Reference → Data → Type 0) (Bound : Reference → Pid → Name → Name → Pid → Type 0)
    (Tells : Reference → Pid → Name → Name → Data → Type 0) where
  abbrev X : Work → Type 0
  X = Named Told Bound Tells

  -- the same of an event with its answer: a message that was sent is no DOWN
  pub record After (e : Event) (a : Answer) (o : Work) : Type 0 where
    pub carried : Carried (Well Told Bound Tells o) o
    pub enrolled : (r : Reference) (u : Registration) → fm.get o.node.registered r ≡ Some u → BoundBy Told Bound Tells r u
    pub downs : (r : Reference) (d : Down) → Contains (downs_by r e (Reported a o.effects)) d → TellsOf Told Bound Tells r d.owner d.target d.info

  pub after : (e : Event) (a : Answer) (o : Work) → X o → After e a o
  after e a o k = record { carried = k.carried; enrolled = k.enrolled; downs = λ r d c. go r d (takes_message e (Reported a o.effects)) c }
    where
      go : (r : Reference) (d : Down) (b : Bool) → Contains (cond b [] (downs_in r o.effects)) d → TellsOf Told Bound Tells r d.owner d.target d.info
      go r d true c = absurd (none_within d c)
      go r d false c = k.downs r d c

  -- ---- an item is taken

  module _ (y : Name) (i : Item) (o : Work) (k : X o)
      (joins : (p : Pid) (name : Name) (r : Reference) (pay : Bool) (q : Pid) → i ≡ Signalled (Signal.MonitorName p name r) pay
      → fm.get o.node.names name ≡ Some q → Bound r p name o.node.mint.name q)
      (nobody : (p : Pid) (name : Name) (r : Reference) (pay : Bool) → i ≡ Signalled (Signal.MonitorName p name r) pay
      → NoneLives o (fm.get o.node.names name) → Told p name r noproc)
      (tells : (p : Pid) (name : Name) (r : Reference) (x : Data) (pay : Bool) → i ≡ Signalled (Signal.MonitorNameExit name p r x) pay
      → Tells r p name y x)
      (e : Event) (tm : (fx : List (Effect Item)) → takes_message e (Reported (Answer.Took (kind_of i)) fx) ≡ is_sent_message (Answer.Took (kind_of i))) where
    unsent : IsUnsent i → X (take_item y i o)
    unsent u = item_kept (named_rules Told Bound Tells) X (named_closed Told Bound Tells) y i o (record {
      gone = λ p q pay e l. tt;
      acts = λ p q x pay e l a. tt;
      sent = λ p m pay j. let c : true ≡ false = sym (ap (λ z. is_sent_message (Answer.Took (kind_of z))) j) ∙ u in cc;
      named = λ q p name m pay j. let c : true ≡ false = sym (ap (λ z. is_sent_message (Answer.Took (kind_of z))) j) ∙ u in cc;
      nobody = λ p q r pay e l. tt;
      nobody_named = nobody;
      joins = λ p q r pay e l. tt;
      joins_named = λ p name r pay q j f l. joins p name r pay q j f;
      drops = λ p q r pay m e h s. tt;
      drops_named = λ p name r pay m e h s. tt;
      tells = λ p q r x pay e h. tt;
      tells_named = λ p name r x pay j h. tells p name r x pay j;
    }) k

    sent : is_sent_message (Answer.Took (kind_of i)) ≡ true → (p : Pid) (m : Data) → After e (Answer.Took (kind_of i)) (put p m o)
    sent s p m = record {
      carried = carried_put Told Bound Tells p m o k;
      enrolled = k.enrolled;
      downs = λ r d c. absurd (none_within d (subst (λ b. Contains (cond b [] (downs_in r ((put p m o).effects))) d) (tm ((put p m o).effects) ∙ s) c));
    }

    message : is_sent_message (Answer.Took (kind_of i)) ≡ true → (p : Pid) (m : Data) (b : Bool)
        → After e (Answer.Took (kind_of i)) (cond b (put p m o) o)
    message s p m true = sent s p m
    message s p m false = after e (Answer.Took (kind_of i)) o k

    pub taken : After e (Answer.Took (kind_of i)) (take_item y i o)
    taken = go (sent_or_not i)
      where
        go : IsSend i ⊎ (IsRegSend i ⊎ IsUnsent i) → After e (Answer.Took (kind_of i)) (take_item y i o)
        go (inl (p, m, pay, j)) = subst (λ z. After e (Answer.Took (kind_of i)) (take_item y z o)) (sym j)
            (message (ap (λ z. is_sent_message (Answer.Took (kind_of z))) j) p m (living o.node p))
        go (inr (inl (q, name, m, pay, j))) = subst (λ z. After e (Answer.Took (kind_of i)) (take_item y z o)) (sym j)
            (held (fm.get o.node.names name))
          where
            held : (v : Option Pid) → After e (Answer.Took (kind_of i)) (take_named v m o)
            held None = after e (Answer.Took (kind_of i)) o k
            held (Some p) = message (ap (λ z. is_sent_message (Answer.Took (kind_of z))) j) p m (living o.node p)
        go (inr (inr u)) = after e (Answer.Took (kind_of i)) (take_item y i o) (unsent u)

  -- ---- all other events

  turned : (t : TrunkId) (s : TrunkSide) (o : Work) → Turns (λ c. Unit {0}) o.node t s → X o → X (with_side t s o)
  turned t s o c k = named_side Told Bound Tells t s o k

  wrote : (t : TrunkId) (y : Name) (m : ShakeMsg) (o : Work) → Honest o.node m → X o → X (write t y m o)
  wrote t y m o h k = named_wrote Told Bound Tells t y m o k

  module _ (n : Node) (k : X (at_work n))
      (far : (r : Reference) (p : Pid) (g : Target) → living n p ≡ true → reaches n (target_node g) ≡ false → TellsOf Told Bound Tells r p g noconnection)
      (watching : (r : Reference) (u : Watch) → fm.get n.watches r ≡ Some u → living n u.owner ≡ true)
      (losing : (t : TrunkId) (s : TrunkSide) → side_at n t ≡ Some s → s.state ≡ Losing → reaches n s.peer ≡ false)
      (P : Answer → Work → Type 0) (lift : (a : Answer) (o : Work) → X o → P a o) where
    lifted : (r : Outcome) → IfGoes r X → IfAnswers r P
    lifted (Refuses j) h = tt
    lifted (Accepts a o) h = lift a o h

    bare : (m : Node) → m.local ≡ n.local → m.registered ≡ n.registered → X (at_work m)
    bare m l e = record {
      carried = record { local = subst (λ z. All (Well Told Bound Tells (at_work n)) z) (sym l) k.carried.local; sent = All-nil _ };
      enrolled = λ r u h. k.enrolled r u (ap (λ z. fm.get z r) (sym e) ∙ h);
      downs = λ r d c. absurd (none_within d c);
    }

    cleared : (m : Node) → All (Well Told Bound Tells (at_work n)) m.local → m.registered ≡ fm.empty → X (at_work m)
    cleared m l e = record {
      carried = record { local = l; sent = All-nil _ };
      enrolled = λ r u h. absurd (none-some u (sym (ap (λ z. fm.get z r) e ∙ fm.get-empty reference_cmp r) ∙ h));
      downs = λ r d c. absurd (none_within d c);
    }

    -- an arrival
    module _ (t : TrunkId) (i : Item)
        (takes : (s : TrunkSide) → side_at n t ≡ Some s → s.state ≡ Up → P (Answer.Took (kind_of i)) (take_item s.peer i (at_work n))) where
      faulty : (j : Fault) (s : TrunkSide) → side_at n t ≡ Some s → IfAnswers (fault j t s (at_work n)) P
      faulty j s f = lifted (fault j t s (at_work n)) (known_fault (λ u c. Unit {0}) X turned wrote j t s (at_work n) f k)

      signalled : (s : TrunkSide) → side_at n t ≡ Some s → (v : State) → s.state ≡ v → IfAnswers (signal_at v t s i (at_work n)) P
      signalled s f Up e = go (is_good n s i)
        where
          go : (b : Bool) → IfAnswers (cond b (Accepts (Answer.Took (kind_of i)) (take_item s.peer i (at_work n))) (fault Fault.Forged t s (at_work n))) P
          go true = takes s f e
          go false = faulty Fault.Forged s f
      signalled s f _ e = faulty (Fault.Shake ShakeFault.BadMessage) s f

      shaken : (s : TrunkSide) → side_at n t ≡ Some s → (m : Option ShakeMsg) → handshake_in i ≡ m → IfAnswers (arrive_at m t s i (at_work n)) P
      shaken s f None e = signalled s f s.state refl
      shaken s f (Some m) e = lifted (arrive_at (Some m) t s i (at_work n))
          (known_learns (λ u c. Unit {0}) X turned wrote t s (at_work n) f k (Handshake m) k (Some m) (λ l j c e. tt))

      comes : (w : ℕ) (s : Option TrunkSide) → side_at n t ≡ s → IfAnswers (arrive n t s (Some i) w) P
      comes w None f = lifted (arrive n t None (Some i) w)
          (fresh_learns (λ u c. Unit {0}) X turned wrote t (handshake_in i) w (at_work n) (λ l j c e. tt) f k)
      comes w (Some s) f = go (is_over s.state)
        where
          go : (b : Bool) → IfAnswers (cond b (Refuses Refusal.NotLive) (arrive_first (Some i) t s (at_work n))) P
          go true = tt
          go false = shaken s f (handshake_in i) refl

    nothing : (t : TrunkId) (w : ℕ) (s : Option TrunkSide) → IfAnswers (arrive n t s None w) P
    nothing t w None = tt
    nothing t w (Some s) = go (is_over s.state)
      where
        go : (b : Bool) → IfAnswers (cond b (Refuses Refusal.NotLive) (Refuses Refusal.NothingThere)) P
        go true = tt
        go false = tt

    -- a sweep
    swept : (y : Name) → reaches n y ≡ false → X (sweep_record (least_record y n) (at_work n))
    swept y f = subst X (sym (least_as y (at_work n))) (link_swept (named_rules Told Bound Tells) X (named_closed Told Bound Tells)
        (link_to y (fm.entries n.ends)) y (at_work n) (λ e h a. tt)
        (λ e h. let v = watch_found y n.watches e h in (v.0, far e.0 e.1.owner e.1.target (watching e.0 e.1 v.0) (ap (reaches n) v.1 ∙ f)))
        (λ e h. ((registered_found y n.registered e h).0, tt)) k)

    sweeps : (d : Option (TrunkId × TrunkSide)) → any_side is_losing (fm.entries n.sides) ≡ d → IfGoes (sweep_by d (at_work n)) X
    sweeps None h = tt
    sweeps (Some d) h =
        let y = d.1.peer in
        let f = any_found is_losing (fm.entries n.sides) d (fm.entries_sorted n.sides) h in
        let at : side_at n d.0 ≡ Some d.1 = fm.get-entries n.sides d.0 ∙ f.0 in
        let o = sweep_record (least_record y n) (at_work n) in
        let same : o.node.sides ≡ n.sides =
        record_keeps (λ o. o.node.sides ≡ n.sides) (outer_parts (λ m d. m ≡ n.sides)) y (at_work n) refl in
        swept_learns (λ u c. Unit {0}) X turned wrote d.0 d.1 o (ap (λ m. fm.get m d.0) same ∙ at)
        (swept y (losing d.0 d.1 at (losing_is d.1.state f.1)))

    -- a call
    ask_ok : (p : Pid) (g : Target) (r : Reference) (o : Work) → X o → X (post (asked p g r) o)
    ask_ok p (Target.Pid q) r o h = named_post Told Bound Tells (asked p (Target.Pid q) r) o tt h
    ask_ok p (Target.Name name node) r o h = named_post Told Bound Tells (asked p (Target.Name name node) r) o tt h

    back_ok : (p : Pid) (g : Target) (r : Reference) (o : Work) → X o → X (post (taken_back p g r) o)
    back_ok p (Target.Pid q) r o h = named_post Told Bound Tells (taken_back p (Target.Pid q) r) o tt h
    back_ok p (Target.Name name node) r o h = named_post Told Bound Tells (taken_back p (Target.Name name node) r) o tt h

    monitors : (p : Pid) (g : Target) (count : ℕ) → living n p ≡ true
        → X (monitor (reference_of n.mint count) p g (draw kind.Reference (at_work n)))
    monitors p g count l = go (reaches n (target_node g)) refl
      where
        r : Reference
        r = reference_of n.mint count

        o : Work
        o = draw kind.Reference (at_work n)

        go : (b : Bool) → reaches n (target_node g) ≡ b
            → X (cond b (post (asked p g r) (watch r (watch_of p g) o)) (put p (down_term r (object g) noconnection) o))
        go true f = ask_ok p g r (watch r (watch_of p g) o) (bare ((watch r (watch_of p g) o).node) refl refl)
        go false f = named_down Told Bound Tells r p g noconnection o (far r p g l f) (bare o.node refl refl)

    demonitored : (v : Option Watch) (p : Pid) (r : Reference) → IfGoes (demonitor_by v p r (at_work n)) X
    demonitored None p r = tt
    demonitored (Some v) p r = if_cond (same_pid v.owner p) _ Refusal.NotTheOwner X
        (λ h. back_ok p v.target r (unwatch r (at_work n)) (bare ((unwatch r (at_work n)).node) refl refl))

    apart : (c : Command) → Apart c → IfGoes (call n c) X
    apart c a = call_kept (named_rules Told Bound Tells) X (named_closed Told Bound Tells) n k c a (λ id e h. bare _ refl refl) (λ p q e l r. tt)

    calls : (c : Command) → IfGoes (call n c) X
    calls (Command.Demonitor p r) = if_cond (living n p) _ Refusal.NoSuchProcess X (λ l. demonitored (fm.get n.watches r) p r)
    calls (Command.Monitor p q) = if_cond (living n p) _ Refusal.NoSuchProcess X (λ l.
        if_not (same_name q.node n.mint.name && is_stranger n q) _ Refusal.Forged X
        (if_drawn (id_of n.mint kind.Reference) _ X (λ count h. monitors p (Target.Pid q) count l)))
    calls (Command.MonitorName p y name) = if_cond (living n p) _ Refusal.NoSuchProcess X (λ l.
        if_cond (monitors_names n y) _ Refusal.NotOffered X (λ f.
        if_drawn (id_of n.mint kind.Reference) _ X (λ count h. monitors p (Target.Name name y) count l)))
    calls c = apart c ((λ p q e. cc), (λ p r e. cc), (λ p y name e. cc))

    own : (l : List Item) → n.local ≡ l
        → ((i : Item) (rest : List Item) → n.local ≡ i ∷ rest
        → P (Answer.Took (kind_of i)) (take_item n.mint.name i (at_work (record n { local = rest })))) → IfAnswers (take_local n l) P
    own [] h f = tt
    own (i ∷ rest) h f = f i rest h

    -- the item that comes
    abbrev pub Takes : NodeEvent → Type 0
    Takes (event.Arrive t (Some i) w) =
        (s : TrunkSide) → side_at n t ≡ Some s → s.state ≡ Up → P (Answer.Took (kind_of i)) (take_item s.peer i (at_work n))
    Takes event.Local = (i : Item) (rest : List Item) → n.local ≡ i ∷ rest
        → P (Answer.Took (kind_of i)) (take_item n.mint.name i (at_work (record n { local = rest })))
    Takes e = Unit {0}

    pub node_named : (names : List Name) (e : NodeEvent) → Takes e → IfAnswers (at_node names n e) P
    node_named names (event.Call d) f = lifted (at_node names n (event.Call d)) (if_cond n.up _ Refusal.NodeDown X (λ u. calls d))
    node_named names (event.Arrive t None w) f = answers_if n.up _ Refusal.NodeDown P (λ u. nothing t w (fm.get n.sides t))
    node_named names (event.Arrive t (Some i) w) f = answers_if n.up _ Refusal.NodeDown P (λ u. comes t i f w (fm.get n.sides t) refl)
    node_named names event.Local f = answers_if n.up _ Refusal.NodeDown P (λ u. own n.local refl f)
    node_named names (event.Lose t) f = lifted (at_node names n (event.Lose t)) (if_cond n.up _ Refusal.NodeDown X (λ u.
        lose_learns (λ u c. Unit {0}) X turned wrote n t (fm.get n.sides t) refl k))
    node_named names event.Sweep f = lifted (at_node names n event.Sweep)
        (if_cond n.up _ Refusal.NodeDown X (λ u. sweeps (any_side is_losing (fm.entries n.sides)) refl))
    node_named names (event.Dial y w) f = lifted (at_node names n (event.Dial y w)) (if_cond n.up _ Refusal.NodeDown X (λ u.
        dial_goes X names n y w (λ i j. named_wrote Told Bound Tells _ y _ _ (named_side Told Bound Tells _ _ _ (bare _ refl refl)))))
    node_named names event.Stop f = lifted (at_node names n event.Stop)
        (if_cond n.up _ Refusal.NodeDown X (λ u. cleared (stopped n) k.carried.local refl))
    node_named names event.Start f = lifted (at_node names n event.Start)
        (if_not n.up _ Refusal.NodeUp X (if_cond (nat_lt (n.mint.creation + 1) (2 ^ 32)) _ Refusal.IdsUsedUp X
        (λ u. cleared (started n) (All-nil _) refl)))
