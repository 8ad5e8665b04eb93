-- A monitor by name tells the end of the process that had the name when MONITOR_P came.
use Rattle.std.proofs.Common.{◌≡◌, ◌≤◌, Bool, true, false, List, [], ◌∷◌, refl, sym}
use Rattle.std.proofs.Common.{ap, ◌∙◌, subst, Option, Some, None, ◌⊎◌, inl, inr, Contains}
use Rattle.std.proofs.lemmas.List.Elements.{All-contains, All-contains_itself, All-nil, All-weaker}
use Rattle.std.proofs.lemmas.List.Elements.{Contains-append_cases, Contains-append_left, Contains-append_right}
use Rattle.std.proofs.lemmas.Option.{same_Some, none-some}
use Rattle.std.specs.List.{All}
use Rattle.std.specs.FinMap as fm
use Rattle.dist_model.proofs.Asks.{IfAnswers}
use Rattle.dist_model.proofs.AskedIn.{AllHeld, asked_runs, holder_is, opening_asks}
use Rattle.dist_model.proofs.Calls.{by_name}
use Rattle.dist_model.proofs.ComesOnce.{AllOnce, comes_first_time, once_opening, once_refused, once_step}
use Rattle.dist_model.proofs.Deeds.{unreached}
use Rattle.dist_model.proofs.Envelopes.{Envelope, outgoing, sent_in}
use Rattle.dist_model.proofs.Founded.{placed}
use Rattle.dist_model.proofs.Histories.{Tale, next, one_event, opens_tale}
use Rattle.dist_model.proofs.Home.{never_own}
use Rattle.dist_model.proofs.KeepBearings.{bearings_kept, if_accepted}
use Rattle.dist_model.proofs.Keys.{same_name_true}
use Rattle.dist_model.proofs.KnownPeers.{Fine, always_fine, known_opening}
use Rattle.dist_model.proofs.Known.{contains_first, left_before}
use Rattle.dist_model.proofs.Named.{AllSteady, opens, steps}
use Rattle.dist_model.proofs.NamedEvents.{After, Takes, after, node_named, taken}
use Rattle.dist_model.proofs.NamedParts.{Named, OfName, TellsOf, Well}
use Rattle.dist_model.proofs.Peopled.{AllPeopled, peopled_opening}
use Rattle.dist_model.proofs.Peopled
use Rattle.dist_model.proofs.Routes.{at_place, list_to_carried, node_of_name, node_of_set_other, node_of_set_same}
use Rattle.dist_model.proofs.Run.{refused_unchanged}
use Rattle.dist_model.proofs.Safety.{good_opening, new_is}
use Rattle.dist_model.proofs.Seen.{list_in, living_at, local_at}
use Rattle.dist_model.proofs.Sides.{side_at}
use Rattle.dist_model.proofs.SomeCauses.{CauseIn}
use Rattle.dist_model.proofs.Sweeps.{losing_unreached}
use Rattle.dist_model.proofs.Told.{IsNamed, monitored_one}
use Rattle.dist_model.proofs.Trunks.{Good}
use Rattle.dist_model.proofs.Truths.{none_within}
use Rattle.dist_model.specs.Causes.{CauseOf, HasEnded, HolderEnded, NamedCause, Nobody, Unreached}
use Rattle.dist_model.specs.Commands.{Accepts, Outcome, Refuses}
use Rattle.dist_model.specs.Downs.{answers, Down, Monitored, downs, downs_by, is_sent_message, takes_message}
use Rattle.dist_model.specs.Fates.{DownsTellTrueCause}
use Rattle.dist_model.specs.Histories.{History}
use Rattle.dist_model.specs.Introductions.{introduced}
use Rattle.dist_model.specs.Items.{Item, Signalled, kind_of}
use Rattle.dist_model.specs.Keeping.{Bearings}
use Rattle.dist_model.specs.Names.{Name, place_cmp, same_name}
use Rattle.dist_model.specs.Node.{Node, living, reaches}
use Rattle.dist_model.specs.NodeEvents as event
use Rattle.dist_model.specs.NodeEvents.{NodeEvent, at_node}
use Rattle.dist_model.specs.Runs.{Goes, Runs, opening}
use Rattle.dist_model.specs.Seen.{is_reached, seen}
use Rattle.dist_model.specs.Sides.{Losing, TrunkSide}
use Rattle.dist_model.specs.Taking.{take_item}
use Rattle.dist_model.specs.Traces.{ComesOnce, MonitorsComeOnce, Moment, ThroughoutTraced, Trace, WasCalledIn, WasTaken, comes_first, history_of, holder_at, moment_of, traced}
use Rattle.dist_model.specs.Work.{Work, at_work}
use Rattle.dist_model.specs.World.{Arrive, Call, Dial, Event, Local, Lose, Refused, Report, Reported, Start, Stepped, Stop, Sweep, World}
use Rattle.dist_model.specs.World.{came_of, first_of, left, list_to, met, node_name, node_of, refused, set_node, step, step_at}
use Rattle.dist_model.specs.declared.report.Answer.{Answer}
use Rattle.dist_model.specs.declared.report.Effect.{Effect}
use Rattle.dist_model.specs.declared.report.Kind.{Kind}
use Rattle.erl_control.specs.declared.signal.Signal.{Signal}
use Rattle.erl_handshake.specs.declared.introduction.Introduction.{Introduction}
use Rattle.erl_handshake.specs.declared.setup.Setup.{Setup}
use Rattle.erl_names.specs.declared.trunk.TrunkId.{TrunkId}
use Rattle.erl_term.specs.Data.{Data}
use Rattle.erl_term.specs.Order.{reference_cmp}
use Rattle.erl_term.specs.declared.refusal.Refusal.{Refusal}
use Rattle.erl_term.specs.declared.term.Pid.{Pid}
use Rattle.erl_term.specs.declared.term.Reference.{Reference}
use Rattle.link_core.specs.News.{noconnection, noproc}
use Rattle.monitor_core.specs.Monitors.{target_node}
use Rattle.monitor_core.specs.declared.monitor.Registration.{Registration}
use Rattle.monitor_core.specs.declared.monitor.Target.{Target}
use Rattle.monitor_core.specs.declared.monitor.Watch.{Watch}

-- ---- the content of a trace

-- the end of p's monitor of the name at some node: nobody had the name, or the process that had it has ended so
abbrev pub ToldIn : Trace → Pid → Name → Reference → Data → Type 0
ToldIn tr p name r x = (node : Name) × (((x ≡ noproc) × WasTaken r p name node None tr)
    ⊎ ((q : Pid) × WasTaken r p name node (Some q) tr × HasEnded q x (history_of tr)))

abbrev pub BoundIn : Trace → Reference → Pid → Name → Name → Pid → Type 0
BoundIn tr r p name node q = WasTaken r p name node (Some q) tr

abbrev pub TellsIn : Trace → World → Reference → Pid → Name → Name → Data → Type 0
TellsIn tr w r p name node x =
    ToldIn tr p name r x ⊎ ((x ≡ noconnection) × (same_name node p.node ≡ false) × (is_reached w p node ≡ false))

told_later : (m : Moment) (tr : Trace) (p : Pid) (name : Name) (r : Reference) (x : Data) → ToldIn tr p name r x → ToldIn (m ∷ tr) p name r x
told_later m tr p name r x (node, inl h) = (node, inl (h.0, inr h.1))
told_later m tr p name r x (node, inr h) = (node, inr (h.0, inr h.1, inr h.2))

-- of an item on its way
abbrev pub SaidIn : Trace → Item → Type 0
SaidIn tr (Signalled (Signal.MonitorNameExit name p r x) pay) = ToldIn tr p name r x
SaidIn tr _ = Unit {0}

said_later : (m : Moment) (tr : Trace) (i : Item) → SaidIn tr i → SaidIn (m ∷ tr) i
said_later m tr (Signalled (Signal.MonitorNameExit name p r x) pay) h = told_later m tr p name r x h
said_later m tr _ h = tt

abbrev pub BoundOf : Trace → Reference → Registration → Type 0
BoundOf tr r u = OfName (λ name node. BoundIn tr r u.owner name node u.held) u.target

of_name : (P Q : Name → Name → Type 0) → ((a b : Name) → P a b → Q a b) → (g : Target) → OfName P g → OfName Q g
of_name P Q f (Target.Pid q) h = tt
of_name P Q f (Target.Name a b) h = f a b h

pub record Kept (tr : Trace) (w : World) : Type 0 where
  pub lists : (t : TrunkId) (y : Name) (i : Item) → Contains (list_to w.lists t y) i → SaidIn tr i
  pub locals : (y : Name) (n : Node) (i : Item) → node_of w.nodes y ≡ Some n → Contains n.local i → SaidIn tr i
  pub bound : (y : Name) (n : Node) (r : Reference) (u : Registration) → node_of w.nodes y ≡ Some n → fm.get n.registered r ≡ Some u
      → BoundOf tr r u

kept_later : (m : Moment) (tr : Trace) (w : World) → Kept tr w → Kept (m ∷ tr) w
kept_later m tr w k = record {
  lists = λ t y i c. said_later m tr i (k.lists t y i c);
  locals = λ y n i h c. said_later m tr i (k.locals y n i h c);
  bound = λ y n r u h e. of_name _ _ (λ a b z. inr z) u.target (k.bound y n r u h e);
}

-- ---- one event

-- the MONITOR_P of a name that comes to the node, and the process that has the name there
record Comes (n : Node) (i : Item) (p : Pid) (name : Name) (r : Reference) (holder : Option Pid) : Type 0 where
  payload : Bool
  item : i ≡ Signalled (Signal.MonitorName p name r) payload
  has : fm.get n.names name ≡ holder

-- the result of an event at a node
record Leaves (tr : Trace) (w : World) (e : Event) (a : Answer) (o : Work) : Type 0 where
  local : All (SaidIn (moment_of w e (Reported a o.effects) ∷ tr)) o.node.local
  sent : All (λ (v : Envelope). SaidIn (moment_of w e (Reported a o.effects) ∷ tr) v.item) (outgoing o)
  bound : (r : Reference) (u : Registration) → fm.get o.node.registered r ≡ Some u → BoundOf (moment_of w e (Reported a o.effects) ∷ tr) r u
  downs : (r : Reference) (d : Down) → Contains (downs_by r e (Reported a o.effects)) d
      → OfName (λ name node. TellsIn tr w r d.owner name node d.info) d.target

module _ (tr : Trace) (w : World) (t : Tale w (history_of tr)) (steady : AllSteady w) (k : Kept tr w) (n : Node) (e : Event)
    (hx : node_of w.nodes (node_name e) ≡ Some n) where
  abbrev Tells : Reference → Pid → Name → Name → Data → Type 0
  Tells = TellsIn tr w

  abbrev Old : Work → Type 0
  Old = Named (ToldIn tr) (BoundIn tr) Tells

  old_well : (i : Item) → SaidIn tr i → Well (ToldIn tr) (BoundIn tr) Tells (at_work n) i
  old_well (Signalled (Signal.MonitorNameExit name p r x) pay) h = inl h
  old_well _ h = tt

  old : Old (at_work n)
  old = record {
    carried = record {
      local = All-weaker (Contains n.local) (Well (ToldIn tr) (BoundIn tr) Tells (at_work n))
          (λ i c. old_well i (k.locals (node_name e) n i hx c)) n.local (All-contains_itself n.local);
      sent = All-nil _;
    };
    enrolled = λ r u h. k.bound (node_name e) n r u hx h;
    downs = λ r d c. absurd (none_within d c);
  }

  far : (r : Reference) (p : Pid) (g : Target) → living n p ≡ true → reaches n (target_node g) ≡ false
      → TellsOf (ToldIn tr) (BoundIn tr) Tells r p g noconnection
  far r p (Target.Pid q) l f = tt
  far r p (Target.Name name node) l f =
      let u = unreached w (history_of tr) (node_name e) n hx t.good t.sound p node ((t.good.core.nodes (node_name e) n hx).born p l) f in
      inr (refl, u.0, u.1)

  watching : (r : Reference) (u : Watch) → fm.get n.watches r ≡ Some u → living n u.owner ≡ true
  watching r u h = (t.sound.watching (node_name e) n r u hx h).4

  losing : (t' : TrunkId) (s : TrunkSide) → side_at n t' ≡ Some s → s.state ≡ Losing → reaches n s.peer ≡ false
  losing t' s h l = losing_unreached n t' s (t.good.core.sides (node_name e) n hx) h l

  -- in the words of the trace after it
  module _ (Told : Pid → Name → Reference → Data → Type 0) (Bound : Reference → Pid → Name → Name → Pid → Type 0) (a : Answer) (o : Work)
      (told : (p : Pid) (name : Name) (r : Reference) (x : Data) → Told p name r x
      → ToldIn (moment_of w e (Reported a o.effects) ∷ tr) p name r x)
      (bound : (r : Reference) (p : Pid) (name node : Name) (q : Pid) → Bound r p name node q
      → BoundIn (moment_of w e (Reported a o.effects) ∷ tr) r p name node q) where
    said : (i : Item) → Well Told Bound Tells o i → SaidIn (moment_of w e (Reported a o.effects) ∷ tr) i
    said (Signalled (Signal.MonitorNameExit name p r x) pay) (inl h) = told p name r x h
    said (Signalled (Signal.MonitorNameExit name p r x) pay) (inr h) = (h.0, inr (h.1, bound r p name h.0 h.1 h.2, inl h.3))
    said _ h = tt

    leaves : After Told Bound Tells e a o → Leaves tr w e a o
    leaves v = record {
      local = All-weaker (Well Told Bound Tells o) _ said o.node.local v.carried.local;
      sent = All-weaker (λ (z : Envelope). Well Told Bound Tells o z.item) _ (λ z. said z.item) (outgoing o) v.carried.sent;
      bound = λ r u h. of_name _ _ (λ name node z. bound r u.owner name node u.held z) u.target (v.enrolled r u h);
      downs = v.downs;
    }

  quietly : (a : Answer) (o : Work) → Old o → Leaves tr w e a o
  quietly a o h = leaves (ToldIn tr) (BoundIn tr) a o
      (λ p name r x z. told_later (moment_of w e (Reported a o.effects)) tr p name r x z) (λ r p name node q z. inr z)
      (after (ToldIn tr) (BoundIn tr) Tells e a o h)

  -- ---- the item that it takes

  module _ (i : Item) (first : comes_first w e ≡ Some i) where
    abbrev ToldNow : Pid → Name → Reference → Data → Type 0
    ToldNow p name r z = ToldIn tr p name r z ⊎ ((z ≡ noproc) × Comes n i p name r None)

    abbrev BoundNow : Reference → Pid → Name → Name → Pid → Type 0
    BoundNow r p name node q = BoundIn tr r p name node q ⊎ ((node ≡ n.mint.name) × Comes n i p name r (Some q))

    well_now : (j : Item) → SaidIn tr j → Well ToldNow BoundNow Tells (at_work n) j
    well_now (Signalled (Signal.MonitorNameExit name p r x) pay) h = inl (inl h)
    well_now _ h = tt

    begins : (l : List Item) → ((j : Item) → Contains l j → Contains n.local j) → Named ToldNow BoundNow Tells (at_work (record n { local = l }))
    begins l f = record {
      carried = record {
        local = All-weaker (Contains l) (Well ToldNow BoundNow Tells (at_work n))
            (λ j c. well_now j (k.locals (node_name e) n j hx (f j c))) l (All-contains_itself l);
        sent = All-nil _;
      };
      enrolled = λ r u h. of_name _ _ (λ a b z. inl z) u.target (k.bound (node_name e) n r u hx h);
      downs = λ r d c. absurd (none_within d c);
    }

    nobody : (p : Pid) (name : Name) (r : Reference) (pay : Bool) → i ≡ Signalled (Signal.MonitorName p name r) pay
        → (v : Option Pid) → fm.get n.names name ≡ v → (v ≡ None) ⊎ ((q : Pid) × (v ≡ Some q) × (living n q ≡ false))
        → ToldNow p name r noproc
    nobody p name r pay j v f (inl h) = inr (refl, record { payload = pay; item = j; has = f ∙ h })
    nobody p name r pay j v f (inr h) =
        let l : living n h.0 ≡ true = (steady (node_name e) n hx).holders name h.0 (f ∙ h.1) in
        let c : true ≡ false = sym l ∙ h.2 in cc

    -- the moment in which it was taken
    now_taken : (o : Work) (p : Pid) (name : Name) (r : Reference) (holder : Option Pid) → Comes n i p name r holder
        → WasTaken r p name n.mint.name holder (moment_of w e (Reported (Answer.Took (kind_of i)) o.effects) ∷ tr)
    now_taken o p name r holder c =
        let here : n.mint.name ≡ node_name e = node_of_name w.nodes (node_name e) n hx in
        inl (
          record {
            payload = c.payload;
            first = first ∙ ap Some c.item;
            at = here;
            took = ap (λ z. Some (Answer.Took (kind_of z))) c.item;
          },
          ap (λ z. seen (node_of w.nodes z) None (λ (it : Node). fm.get it.names name)) here
              ∙ ap (λ z. seen z None (λ (it : Node). fm.get it.names name)) hx ∙ c.has,
        )

    told_now : (o : Work) (p : Pid) (name : Name) (r : Reference) (x : Data) → ToldNow p name r x
        → ToldIn (moment_of w e (Reported (Answer.Took (kind_of i)) o.effects) ∷ tr) p name r x
    told_now o p name r x (inl h) = told_later (moment_of w e (Reported (Answer.Took (kind_of i)) o.effects)) tr p name r x h
    told_now o p name r x (inr h) = (n.mint.name, inl (h.0, now_taken o p name r None h.1))

    bound_now : (o : Work) (r : Reference) (p : Pid) (name node : Name) (q : Pid) → BoundNow r p name node q
        → BoundIn (moment_of w e (Reported (Answer.Took (kind_of i)) o.effects) ∷ tr) r p name node q
    bound_now o r p name node q (inl h) = inr h
    bound_now o r p name node q (inr h) =
        subst (λ z. WasTaken r p name z (Some q) (moment_of w e (Reported (Answer.Took (kind_of i)) o.effects) ∷ tr)) (sym h.0)
        (now_taken o p name r (Some q) h.1)

    takes : (y : Name) (l : List Item) → ((j : Item) → Contains l j → Contains n.local j) → SaidIn tr i
        → ((fx : List (Effect Item)) → takes_message e (Reported (Answer.Took (kind_of i)) fx) ≡ is_sent_message (Answer.Took (kind_of i)))
        → Leaves tr w e (Answer.Took (kind_of i)) (take_item y i (at_work (record n { local = l })))
    takes y l f s tm =
        let o = take_item y i (at_work (record n { local = l })) in
        leaves ToldNow BoundNow (Answer.Took (kind_of i)) o (told_now o) (bound_now o)
        (taken ToldNow BoundNow Tells y i (at_work (record n { local = l })) (begins l f)
        (λ p name r pay q j h. inr (refl, record { payload = pay; item = j; has = h }))
        (λ p name r pay j h. nobody p name r pay j (fm.get n.names name) refl h)
        (λ p name r z pay j. inl (subst (SaidIn tr) j s)) e tm)

-- of any event at a node
module _ (tr : Trace) (w : World) (t : Tale w (history_of tr)) (steady : AllSteady w) (k : Kept tr w) (n : Node) where
  outcome_of : (e : Event) (hx : node_of w.nodes (node_name e) ≡ Some n) (v : NodeEvent)
      → Takes (ToldIn tr) (BoundIn tr) (TellsIn tr w) n (old tr w t steady k n e hx) (far tr w t steady k n e hx) (watching tr w t steady k n e hx)
      (losing tr w t steady k n e hx) (Leaves tr w e) (quietly tr w t steady k n e hx) v → IfAnswers (at_node w.names n v) (Leaves tr w e)
  outcome_of e hx v f = node_named (ToldIn tr) (BoundIn tr) (TellsIn tr w) n (old tr w t steady k n e hx) (far tr w t steady k n e hx)
      (watching tr w t steady k n e hx) (losing tr w t steady k n e hx) (Leaves tr w e) (quietly tr w t steady k n e hx) w.names v f

  outcome : (e : Event) → node_of w.nodes (node_name e) ≡ Some n → IfAnswers (at_node w.names n (met w e)) (Leaves tr w e)
  outcome (Arrive u y j) hx = go (first_of (list_to w.lists u y)) refl
    where
      go : (v : Option Item) → first_of (list_to w.lists u y) ≡ v → IfAnswers (at_node w.names n (event.Arrive u v j)) (Leaves tr w (Arrive u y j))
      go None h = outcome_of (Arrive u y j) hx (event.Arrive u None j) tt
      go (Some i) h = outcome_of (Arrive u y j) hx (event.Arrive u (Some i) j) (λ s f z.
          takes tr w t steady k n (Arrive u y j) hx i h s.peer n.local (λ j c. c)
          (k.lists u y i (contains_first (list_to w.lists u y) i h)) (λ fx. refl))
  outcome (Local y) hx = outcome_of (Local y) hx event.Local (λ i rest h.
      let f : first_of n.local ≡ Some i = ap first_of h in
      takes tr w t steady k n (Local y) hx i (ap (λ o. first_of (local_at o)) hx ∙ f) n.mint.name rest
      (λ j c. subst (λ z. Contains z j) (sym h) (Contains-append_right (i ∷ []) rest j c))
      (k.locals y n i hx (contains_first n.local i f)) (λ fx. refl))
  outcome (Call y c) hx = outcome_of (Call y c) hx (event.Call c) tt
  outcome (Lose u y) hx = outcome_of (Lose u y) hx (event.Lose u) tt
  outcome (Sweep y) hx = outcome_of (Sweep y) hx event.Sweep tt
  outcome (Dial y z j) hx = outcome_of (Dial y z j) hx (event.Dial z j) tt
  outcome (Stop y) hx = outcome_of (Stop y) hx event.Stop tt
  outcome (Start y) hx = outcome_of (Start y) hx event.Start tt

-- its result at the world
record Comings (tr : Trace) (w : World) (e : Event) (s : Stepped) : Type 0 where
  kept : Kept (moment_of w e s.report ∷ tr) s.world
  downs : (r : Reference) (d : Down) → Contains (downs_by r e s.report) d → OfName (λ name node. TellsIn tr w r d.owner name node d.info) d.target

module _ (tr : Trace) (w : World) (t : Tale w (history_of tr)) (steady : AllSteady w) (k : Kept tr w) where
  refuses : (e : Event) (j : Refusal) → Comings tr w e (refused w j)
  refuses e j = record { kept = kept_later (moment_of w e (Refused j)) tr w k; downs = λ r d c. absurd (none_within d c) }

  accepts : (e : Event) (n : Node) → node_of w.nodes (node_name e) ≡ Some n → (a : Answer) (o : Work)
      → at_node w.names n (met w e) ≡ Accepts a o → Leaves tr w e a o → Comings tr w e (came_of w (node_name e) (left w e) (Accepts a o))
  accepts e n hx a o j v = record {
    kept = record {
      lists = λ u y i c. pick u y i (Contains-append_cases (list_to (left w e) u y) (at_place u y (sent_in o.effects)) i
          (subst (λ l. Contains l i) (list_to_carried (left w e) o.effects u y) c));
      locals = λ y b i hy c. by_name _ (node_name e) y
          (λ z. All-contains (SaidIn (m ∷ tr)) b.local i (subst (λ (b : Node). All (SaidIn (m ∷ tr)) b.local) (same y b z hy) v.local) c)
          (λ z. said_later m tr i (k.locals y b i (elsewhere y b z hy) c));
      bound = λ y b r u hy h. by_name _ (node_name e) y
          (λ z. v.bound r u (ap (λ (b : Node). fm.get b.registered r) (same y b z hy) ∙ h))
          (λ z. of_name _ _ (λ a b q. inr q) u.target (k.bound y b r u (elsewhere y b z hy) h));
    };
    downs = v.downs;
  }
    where
      m : Moment
      m = moment_of w e (Reported a o.effects)

      nm : o.node.mint.name ≡ node_name e
      nm = (if_accepted (Bearings n (met w e)) (at_node w.names n (met w e)) a o j
          (bearings_kept w.names n (met w e))).name ∙ node_of_name w.nodes (node_name e) n hx

      same : (y : Name) (b : Node) → node_name e ≡ y → node_of (set_node w.nodes (node_name e) o.node) y ≡ Some b → o.node ≡ b
      same y b z hy = same_Some o.node b (sym (node_of_set_same w.nodes (node_name e) n o.node hx nm)
          ∙ ap (node_of (set_node w.nodes (node_name e) o.node)) z ∙ hy)

      elsewhere : (y : Name) (b : Node) → (node_name e ≡ y → ⊥) → node_of (set_node w.nodes (node_name e) o.node) y ≡ Some b
          → node_of w.nodes y ≡ Some b
      elsewhere y b z hy = sym (node_of_set_other w.nodes (node_name e) y o.node nm z) ∙ hy

      pick : (u : TrunkId) (y : Name) (i : Item) → Contains (list_to (left w e) u y) i ⊎ Contains (at_place u y (sent_in o.effects)) i
          → SaidIn (m ∷ tr) i
      pick u y i (inl c) = said_later m tr i (k.lists u y i (left_before w e u y i c))
      pick u y i (inr c) = All-contains (SaidIn (m ∷ tr)) (at_place u y (outgoing o)) i (placed (SaidIn (m ∷ tr)) u y (outgoing o) v.sent) c

  comings : (e : Event) (o : Option Node) → node_of w.nodes (node_name e) ≡ o → Comings tr w e (step_at w o e)
  comings e None h = refuses e Refusal.NothingThere
  comings e (Some n) h = go (at_node w.names n (met w e)) refl (outcome tr w t steady k n e h)
    where
      go : (r : Outcome) → at_node w.names n (met w e) ≡ r → IfAnswers r (Leaves tr w e) → Comings tr w e (came_of w (node_name e) (left w e) r)
      go (Refuses j) i v = refuses e j
      go (Accepts a o) i v = accepts e n h a o i v

  next_of : (e : Event) → Comings tr w e (step w e)
  next_of e = comings e (node_of w.nodes (node_name e)) refl

-- ---- a run

-- the world before each event
abbrev pub WasSound : Trace → Type 0
WasSound [] = Unit {0}
WasSound (last ∷ before) = (Good last.before × AllSteady last.before × AllPeopled last.before.nodes) × WasSound before

pub record Story (tr : Trace) (w : World) : Type 0 where
  pub tale : Tale w (history_of tr)
  pub steady : AllSteady w
  pub peopled : AllPeopled w.nodes
  pub kept : Kept tr w
  pub once : AllOnce tr w
  pub before : WasSound tr
  pub comes : ComesOnce tr

story_runs : (es : List Event) (rs : List Report) (w v : World) (tr : Trace) → Story tr w → Runs w es rs v → Story (traced w es rs tr) v
story_runs [] [] w v tr s h = subst (Story tr) (sym h) s
story_runs (e ∷ es) (Refused why ∷ rs) w v tr s h =
    let same : h.0 ≡ w = refused_unchanged w h.0 e why h.1 in
    story_runs es rs w v (moment_of w e (Refused why) ∷ tr) (record {
      tale = subst (λ z. Tale z (history_of (moment_of w e (Refused why) ∷ tr))) same
          (one_event w (history_of tr) e (Refused why) h.0 s.tale h.1);
      steady = s.steady;
      peopled = s.peopled;
      kept = kept_later (moment_of w e (Refused why)) tr w s.kept;
      once = once_refused tr w e why s.once;
      before = ((s.tale.good, s.steady, s.peopled), s.before);
      comes = ((λ p g r v. absurd (none-some (Answer.Took Kind.Monitor) v.took)), s.comes);
    }) (subst (λ z. Runs z es rs v) same h.2)
story_runs (e ∷ es) (Reported a fx ∷ rs) w v tr s h =
    let tale : Tale ((step w e).world) (history_of (moment_of w e (Reported a fx) ∷ tr)) =
    subst (λ z. Tale z (history_of (moment_of w e (Reported a fx) ∷ tr))) (next h.1) (one_event w (history_of tr) e (Reported a fx) h.0 s.tale h.1) in
    story_runs es rs ((step w e).world) v (moment_of w e (Reported a fx) ∷ tr) (record {
      tale = tale;
      steady = steps w (node_of w.nodes (node_name e)) e refl s.steady;
      peopled = Peopled.after w s.peopled (node_of w.nodes (node_name e)) e refl;
      kept = subst (λ z. Kept (moment_of w e z ∷ tr) ((step w e).world)) (sym (now h.1)) (next_of tr w s.tale s.steady s.kept e).kept;
      once = subst (λ z. ((r : Reference) → answers r (history_of (moment_of w e z ∷ tr)) ≤ 1) → AllOnce (moment_of w e z ∷ tr) ((step w e).world))
          (sym (now h.1)) (once_step tr w (node_of w.nodes (node_name e)) e refl s.once) tale.sound.one;
      before = ((s.tale.good, s.steady, s.peopled), s.before);
      comes = (comes_first_time tr w e a fx s.once, s.comes);
    }) (subst (λ z. Runs z es rs v) (next h.1) h.2)
  where
    now : Goes w e (Reported a fx) h.0 → Reported a fx ≡ (step w e).report
    now (inl d) = d.0
    now (inr d) = let z = d.0 in cc

    next : Goes w e (Reported a fx) h.0 → h.0 ≡ (step w e).world
    next (inl d) = d.1
    next (inr d) = let z = d.0 in cc
story_runs _ _ w v tr s h = absurd h

kept_opening : (cs : List (Name × Setup)) → Kept [] (opening cs)
kept_opening cs = record {
  lists = λ t y i c. absurd (none_within i (subst (λ l. Contains l i) (ap list_in (fm.get-empty place_cmp (t, y))) c));
  locals = λ y n i h c. let k = new_is cs cs y n h in absurd (none_within i (subst (λ (z : Node). Contains z.local i) k.2 c));
  bound = λ y n r u h e. let k = new_is cs cs y n h in
      absurd (none-some u (sym (fm.get-empty reference_cmp r) ∙ subst (λ (z : Node). fm.get z.registered r ≡ Some u) k.2 e));
}

-- a run with all that is known of it
pub record Full (tr : Trace) (w : World) : Type 0 where
  pub story : Story tr w
  pub held : AllHeld tr
  pub fine : Fine w

pub full : (Holds : Trace → World → Type 0) → ((tr : Trace) (w : World) → Full tr w → Holds tr w) → ThroughoutTraced Holds
full Holds f cs es rs w h = f (traced (opening cs) es rs []) w (record {
  story = story_runs es rs (opening cs) w [] (record {
    tale = opens_tale cs;
    steady = opens cs;
    peopled = peopled_opening cs;
    kept = kept_opening cs;
    once = once_opening cs;
    before = tt;
    comes = tt;
  }) h;
  held = (asked_runs es rs (opening cs) w [] (good_opening cs, known_opening cs) (opening_asks cs) h).2;
  fine = always_fine Fine (λ v g. g) cs es rs w h;
})

-- ---- the claims

pub monitors_come_once : (tr : Trace) (w : World) → Full tr w → MonitorsComeOnce tr w
monitors_come_once tr w f = f.story.comes

-- the monitor that a call began
called_is : (r : Reference) (p : Pid) (g : Target) (said : Introduction) (tr : Trace) → WasCalledIn r p g said tr → Monitored r p g (history_of tr)
called_is r p g said [] h = absurd h
called_is r p g said (m ∷ tr) (inl h) = inl (h.call, h.answered)
called_is r p g said (m ∷ tr) (inr h) = inr (called_is r p g said tr h)

-- the call of a monitor that was taken, and the incarnation of the process that had the name
record Known (tr : Trace) (r : Reference) (p : Pid) (name node : Name) (holder : Option Pid) : Type 0 where
  said : Introduction
  called : WasCalledIn r p (Target.Name name node) said tr
  born : (q : Pid) → holder ≡ Some q → q.creation ≡ said.creation

known_of : (tr : Trace) → AllHeld tr → WasSound tr → (r : Reference) (p : Pid) (name node : Name) (holder : Option Pid)
    → WasTaken r p name node holder tr → Known tr r p name node holder
known_of [] k b r p name node holder h = absurd h
known_of (m ∷ tr) k b r p name node holder (inr h) =
    let v = known_of tr k.1 b.1 r p name node holder h in record { said = v.said; called = inr v.called; born = v.born }
known_of (m ∷ tr) k b r p name node holder (inl h) =
    let v = k.0 p (Target.Name name node) r h.0 in record {
      said = v.0;
      called = inr v.3;
      born = λ q e. at q (node_of m.before.nodes node) refl (h.1 ∙ e) v.0 v.1;
    }
  where
    at : (q : Pid) (o : Option Node) → node_of m.before.nodes node ≡ o → holder_at m.before node name ≡ Some q
        → (c : Introduction) → introduced m.before node ≡ Some c → q.creation ≡ c.creation
    at q None f e c i = absurd (none-some q (sym (ap (λ z. seen z None (λ (it : Node). fm.get it.names name)) f) ∙ e))
    at q (Some n) f e c i =
        let l : living n q ≡ true = (b.0.1 node n f).holders name q (sym (ap (λ z. seen z None (λ (it : Node). fm.get it.names name)) f) ∙ e) in
        let own : q.node ≡ node = same_name_true q.node n.mint.name (never_own n q ((b.0.0.core.nodes node n f).born q l)) ∙ node_of_name m.before.nodes node n f in
        holder_is m.before b.0.2 node c i q own (ap (λ z. living_at z q) (ap (node_of m.before.nodes) own ∙ f) ∙ l)

-- a DOWN names the node at which the name was looked for
module _ (tr : Trace) (w : World) (s : Full tr w) (e : Event) (r : Reference) where
  abbrev then : History
  then = record { event = e; report = (step w e).report } ∷ history_of tr

  same_node : (p : Pid) (name node other : Name) → Monitored r p (Target.Name name node) then
      → Monitored r p (Target.Name name other) (history_of tr) → other ≡ node
  same_node p name node other a b =
      let v = monitored_one r p (Target.Name name other) p (Target.Name name node) then
      ((next w (history_of tr) s.story.tale.good s.story.tale.sound e).sound.one r) (inr b) a in
      let c : Target.Name name other ≡ Target.Name name node = v.1 in cc

  named_cause : (p : Pid) (name node : Name) (x : Data) → Monitored r p (Target.Name name node) then → TellsIn tr w r p name node x
      → NamedCause tr w r p name node x
  named_cause p name node x m (inr h) = Unreached h.0 h.1 h.2
  named_cause p name node x m (inl (other, inl h)) =
      let v = known_of tr s.held s.story.before r p name other None h.1 in
      let same = same_node p name node other m (called_is r p (Target.Name name other) v.said tr v.called) in
      Nobody h.0 (subst (λ z. WasTaken r p name z None tr) same h.1)
  named_cause p name node x m (inl (other, inr h)) =
      let v = known_of tr s.held s.story.before r p name other (Some h.0) h.1 in
      let same = same_node p name node other m (called_is r p (Target.Name name other) v.said tr v.called) in
      HolderEnded h.0 v.said (subst (λ z. WasTaken r p name z (Some h.0) tr) same h.1) h.2
      (subst (λ z. WasCalledIn r p (Target.Name name z) v.said tr) same v.called) (v.born h.0 refl)

  cause_of : (p : Pid) (g : Target) (x : Data) → CauseIn (history_of tr) w p g x → OfName (λ name node. TellsIn tr w r p name node x) g
      → Monitored r p g then → CauseOf tr w r p g x
  cause_of p (Target.Pid q) x c k m = c
  cause_of p (Target.Name name node) x c k m = named_cause p name node x m k

abbrev happened : World → Event → Trace → History
happened w e tr = record { event = e; report = (step w e).report } ∷ history_of tr

pub downs_tell_true_cause : (tr : Trace) (w : World) → Full tr w → DownsTellTrueCause tr w
downs_tell_true_cause tr w s e r d c =
    let n = next w (history_of tr) s.story.tale.good s.story.tale.sound e in
    cause_of tr w s e r d.owner d.target d.info (n.ends r d c) ((next_of tr w s.story.tale s.story.steady s.story.kept e).downs r d c)
    (All-contains (IsNamed r (happened w e tr)) (downs r (happened w e tr)) d (n.sound.names r)
    (Contains-append_left (downs_by r e ((step w e).report)) (downs r (history_of tr)) d c))
