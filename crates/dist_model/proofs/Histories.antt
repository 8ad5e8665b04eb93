-- Every step keeps what is known of a world and its history, and so does every run.
use Rattle.dist_model.specs.NodeEvents.{if_up}
use Rattle.dist_model.proofs.OneStep.{arrives, while_up}
use Rattle.dist_model.proofs.Seen.{list_in, local_at}
use Rattle.std.proofs.Common.{◌≡◌, ◌⊎◌, inl, inr, ℕ, ◌+◌, true, false, cond, List, [], ◌∷◌}
use Rattle.std.proofs.Common.{refl, sym, ap, ◌∙◌, subst, arith, Option, Some, None, Contains}
use Rattle.std.proofs.lemmas.List.Elements.{All-contains, All-nil, All-weaker, Contains-push_cases}
use Rattle.std.proofs.lemmas.Option.{none-some}
use Rattle.std.specs.List.{All}
use Rattle.std.specs.FinMap as fm
use Rattle.std.specs.FinMap.{FinMap}
use Rattle.dist_model.proofs.Comings.{dial_done, fresh_comes, known_comes, local_done, lose_done, start_done, stop_done, sweep_done}
use Rattle.dist_model.proofs.Deeds.{Right, old_cause}
use Rattle.dist_model.proofs.Events.{AllGo, Done, call_done}
use Rattle.dist_model.proofs.Cookies.{by_cookie, known_opening, known_step}
use Rattle.dist_model.proofs.ShownRun.{Known, known_refused}
use Rattle.dist_model.specs.Cookies.{ChallengesAreDrawn, ConnectedByCookie, OneChallenge, StrangersStayApart}
use Rattle.dist_model.proofs.WatchKept.{linked_step}
use Rattle.dist_model.proofs.WatchKnown.{Linked}
use Rattle.dist_model.proofs.Run.{good_step_at}
use Rattle.dist_model.proofs.Safety.{good_opening, new_is}
use Rattle.dist_model.proofs.Trunks.{Good}
use Rattle.dist_model.proofs.Told.{Begins, Called, Course, Downs, IsFounded, IsNamed, Leaves, Off, Old, Revoked, Sound, Stays, sound_after}
use Rattle.dist_model.proofs.Lands.{down}
use Rattle.dist_model.specs.Arrivals.{arrive_at, arrive_fresh, handshake_in, take_local}
use Rattle.dist_model.specs.Calls.{call}
use Rattle.dist_model.proofs.SomeCauses.{CauseIn}
use Rattle.dist_model.specs.Causes.{Reacts, TrueCause}
use Rattle.dist_model.specs.Commands.{Accepts, Outcome, Refuses}
use Rattle.dist_model.specs.declared.report.Answer.{Answer}
use Rattle.dist_model.specs.declared.command.Command.{Command}
use Rattle.dist_model.specs.Dialing.{dial}
use Rattle.dist_model.specs.Downs.{Demonitored, Down, Monitored, answers, downs, downs_by, is_answered, is_demonitored}
use Rattle.dist_model.specs.Fates.{AnsweredOnce, DownOnce, DownToTheOwner, ExitsTellTrueCause}
use Rattle.dist_model.specs.Fates.{ExitsTellTrueCauseWithin, NoDownWhereDemonitored, ReactsForTrueCause}
use Rattle.dist_model.specs.Histories.{Happening, History, Throughout, told}
use Rattle.dist_model.specs.Incarnations.{start, stop}
use Rattle.dist_model.specs.Items.{Item, Signalled}
use Rattle.dist_model.specs.Losses.{any_side, lose, sweep}
use Rattle.dist_model.specs.Names.{Name, place_cmp}
use Rattle.dist_model.specs.Node.{Node, is_stranger}
use Rattle.dist_model.specs.Runs.{Goes, Runs, opening}
use Rattle.dist_model.specs.Sides.{is_losing}
use Rattle.dist_model.specs.Work.{Work, at_work}
use Rattle.dist_model.specs.World.{Arrive, Call, Dial, Event, Local, Lose, Refused, Report, Reported, Start, Stepped}
use Rattle.dist_model.specs.World.{Stop, Sweep, World, came_of, list_to, node_name, node_of, refused, step, step_at}
use Rattle.erl_control.specs.declared.signal.Signal.{Signal}
use Rattle.erl_names.specs.declared.trunk.TrunkId.{TrunkId}
use Rattle.erl_term.specs.Data.{Data}
use Rattle.erl_term.specs.declared.refusal.Refusal.{Refusal}
use Rattle.erl_term.specs.declared.term.Pid.{Pid}
use Rattle.erl_term.specs.declared.term.Reference.{Reference}
use Rattle.erl_term.specs.Order.{reference_cmp}
use Rattle.dist_model.proofs.Founded.{asked_by, popped_lists, founded_by}
use Rattle.dist_model.proofs.HomeMonitors.{TargetsIn}
use Rattle.erl_handshake.specs.declared.setup.Setup.{Setup}
use Rattle.monitor_core.specs.declared.monitor.Target.{Target}
use Rattle.monitor_core.specs.Monitors.{watch_of}

-- a refused event is no call that went through
refused_unanswered : (k : Reference) (e : Event) (j : Refusal) → is_answered k e (Refused j) ≡ false
refused_unanswered k (Call x Command.Spawn) j = refl
refused_unanswered k _ j = refl

refused_unrevoked : (k : Reference) (e : Event) (j : Refusal) → is_demonitored k e (Refused j) ≡ false
refused_unrevoked k (Call x Command.Spawn) j = refl
refused_unrevoked k _ j = refl

module _ (w : World) (h : History) (g : Sound w h) (e : Event) (j : Refusal) where
  abbrev refusal : Happening
  refusal = record { event = e; report = Refused j }

  same_answers : (k : Reference) → answers k (refusal ∷ h) ≡ answers k h
  same_answers k =
      let c : cond (is_answered k e (Refused j)) 1 0 + answers k h
      ≡ cond false 1 0 + answers k h = ap (λ b. cond b 1 0 + answers k h) (refused_unanswered k e j) in omega arith

  still_unrevoked : (k : Reference) → Demonitored k (refusal ∷ h) → Demonitored k h
  still_unrevoked k (inl i) = let c : true ≡ false = sym i ∙ refused_unrevoked k e j in cc
  still_unrevoked k (inr i) = i

  old_call : (k : Reference) (p : Pid) (q : Target) → Monitored k p q (refusal ∷ h) → Monitored k p q h
  old_call k p q (inl i) = let c : true ≡ false = sym i.1 ∙ refused_unanswered k e j in cc
  old_call k p q (inr i) = i

  still_founded : (i : Item) → IsFounded w h i → IsFounded w ((record { event = e; report = Refused j }) ∷ h) i
  still_founded = founded_by (Old w h) (Old w ((record { event = e; report = Refused j }) ∷ h)) (Called h)
      (Called ((record { event = e; report = Refused j }) ∷ h)) (Off w h) (Off w ((record { event = e; report = Refused j }) ∷ h)) ended (λ p q k c. inr c) (λ k c. (omega (arith, same_answers k, c.0), c.1))
    where
      ended : (q : Pid) (z : Data) → Old w h q z → Old w ((record { event = e; report = Refused j }) ∷ h) q z
      ended q z (inl c) = inl (inr c)
      ended q z (inr c) = inr c

  pub sound_refused : Sound w ((record { event = e; report = Refused j }) ∷ h)
  sound_refused = record {
    lists = λ t y. All-weaker (IsFounded w h) (IsFounded w ((record { event = e; report = Refused j }) ∷ h)) still_founded
        (list_to w.lists t y) (g.lists t y);
    locals = λ y v hv.
        All-weaker (IsFounded w h) (IsFounded w ((record { event = e; report = Refused j }) ∷ h)) still_founded v.local (g.locals y v hv);
    homes = g.homes;
    enrolled = λ y v k u hv i. let r = g.enrolled y v k u hv i in (
      r.0,
      asked_by (Called h) (Called (refusal ∷ h)) (λ p t z c. inr c) u.target u.owner k r.1,
      r.2,
    );
    one = λ k. omega (arith, same_answers k, g.one k);
    drawn = λ k i. g.drawn k (omega (arith, same_answers k, i));
    unanswered = λ k i. let v = g.unanswered k (omega (arith, same_answers k, i)) in (v.0, λ z. v.1 (still_unrevoked k z));
    watching = λ y v k u hv i. let r = g.watching y v k u hv i in (r.0, inr r.1, r.2, λ z. r.3 (still_unrevoked k z), r.4);
    most = g.most;
    names =
        λ k. All-weaker (IsNamed k h) (IsNamed k ((record { event = e; report = Refused j }) ∷ h)) (λ d m. inr m) (downs k h) (g.names k);
    none_after = λ k i. g.none_after k (still_unrevoked k i);
    waits = λ k p q m d r. g.waits k p q (old_call k p (Target.Pid q) m) d (λ z. r (inr z));
  }

-- what is told of the next event
pub record After (w : World) (h : History) (e : Event) (s : Stepped) : Type 0 where
  pub sound : Sound s.world ((record { event = e; report = s.report }) ∷ h)
  pub acts : (p q : Pid) (z : Data) → Reacts p q z s.report → Right w h e p q z
  pub ends : (k : Reference) (d : Down) → Contains (downs_by k e s.report) d → CauseIn h w d.owner d.target d.info

no_down : (d : Down) → Contains [] d → ⊥
no_down d c = let lt = c.1 in omega arith

one_down : (c d : Down) → Contains (c ∷ []) d → c ≡ d
one_down c d i = pick (Contains-push_cases [] c d i)
  where
    pick : Contains [] d ⊎ (c ≡ d) → c ≡ d
    pick (inl j) = absurd (no_down d j)
    pick (inr j) = j

module _ (w : World) (h : History) (gw : Good w) (g : Sound w h) where
  refuses : (e : Event) (j : Refusal) → After w h e (refused w j)
  refuses e j = record { sound = sound_refused w h g e j; acts = λ p q z r. absurd r; ends = λ k d c. absurd (no_down d c) }

  module _ (x : Name) (n : Node) (hx : node_of w.nodes x ≡ Some n) (e : Event) (xs : List Item) where
    told_down : (a : Answer) (o : Work) (k : Reference) (d : Down) → Course w h n x e (Reported a o.effects) o k
        → Contains (downs_by k e (Reported a o.effects)) d → CauseIn h w d.owner d.target d.info
    told_down a o k d (Stays b c i r) m = absurd (no_down d (subst (λ l. Contains l d) c m))
    told_down a o k d (Leaves u b c l ux dn i r) m = absurd (no_down d (subst (λ l. Contains l d) dn m))
    told_down a o k d (Downs u z b c t dn i r) m =
        subst (λ (v : Down). CauseIn h w v.owner v.target v.info) (one_down (down u z) d (subst (λ l. Contains l d) dn m)) t
    told_down a o k d (Begins p q ev i r kx nd dr l (inl c)) m = absurd (no_down d (subst (λ l. Contains l d) c.1 m))
    told_down a o k d (Begins p q ev i r kx nd dr l (inr c)) m =
        subst (λ (v : Down). CauseIn h w v.owner v.target v.info)
        (one_down (down (watch_of p q) c.1) d (subst (λ l. Contains l d) c.3 m)) c.2
    told_down a o k d (Revoked u b c dn i r) m = absurd (no_down d (subst (λ l. Contains l d) dn m))

    ends_after : (m : FinMap place_cmp (List Item)) (o : Outcome)
        → ((t : TrunkId) (y : Name) → All (IsFounded w h) (list_to m t y)) → AllGo o (Done w h x n hx gw g e xs)
        → After w h e (came_of w x m o)
    ends_after m (Refuses j) ml d = refuses e j
    ends_after m (Accepts a o) ml d = record {
      sound = sound_after w h x n hx g e a o d.deed m ml;
      acts = d.acts;
      ends = λ k v c. told_down a o k v (d.deed.course k) c;
    }

  module _ (x : Name) (n : Node) (hx : node_of w.nodes x ≡ Some n) where
    comes : (t : TrunkId) (k : ℕ) → After w h (Arrive t x k) (step_at w (Some n) (Arrive t x k))
    comes t k = arrives w x n (After w h (Arrive t x k)) (refuses (Arrive t x k)) t k
        (λ i is first at.
        ends_after x n hx (Arrive t x k) n.local (fm.insert w.lists (t, x) is) (arrive_fresh (handshake_in i) t k (at_work n))
        (popped_lists (IsFounded w h) w.lists t x i is first g.lists) (fresh_comes w h x n hx gw g t k i is first at))
        (λ i is v first at over.
        ends_after x n hx (Arrive t x k) n.local (fm.insert w.lists (t, x) is) (arrive_at (handshake_in i) t v i (at_work n))
        (popped_lists (IsFounded w h) w.lists t x i is first g.lists) (known_comes w h x n hx gw g t k i is first v at (handshake_in i)))

    up_after : (e : Event) (m : FinMap place_cmp (List Item)) (o : Outcome) → After w h e (came_of w x m o)
        → After w h e (came_of w x m (if_up n o))
    up_after e = while_up w x n (After w h e) (refuses e)

    local_comes : (l : List Item) → n.local ≡ l → After w h (Local x) (came_of w x w.lists (take_local n l))
    local_comes [] j = refuses (Local x) Refusal.NothingThere
    local_comes (i ∷ xs) j =
        ends_after x n hx (Local x) xs w.lists (take_local n (i ∷ xs)) g.lists (local_done w h x n hx gw g (i ∷ xs) j i xs refl)

  pub after_step : (o : Option Node) (e : Event) → node_of w.nodes (node_name e) ≡ o → After w h e (step_at w o e)
  after_step None e i = refuses e Refusal.NothingThere
  after_step (Some n) (Call x c) i =
      up_after x n i (Call x c) w.lists _ (ends_after x n i (Call x c) n.local w.lists (call n c) g.lists (call_done w h x n i gw g c))
  after_step (Some n) (Arrive t x k) i = comes x n i t k
  after_step (Some n) (Local x) i = up_after x n i (Local x) w.lists _ (local_comes x n i n.local refl)
  after_step (Some n) (Lose t x) i =
      up_after x n i (Lose t x) w.lists _ (ends_after x n i (Lose t x) n.local w.lists (lose n t (fm.get n.sides t)) g.lists
      (lose_done w h x n i gw g t (fm.get n.sides t) refl))
  after_step (Some n) (Sweep x) i =
      up_after x n i (Sweep x) w.lists _ (ends_after x n i (Sweep x) n.local w.lists (sweep n) g.lists
      (sweep_done w h x n i gw g (any_side is_losing (fm.entries n.sides)) refl))
  after_step (Some n) (Dial x y k) i =
      up_after x n i (Dial x y k) w.lists _
      (ends_after x n i (Dial x y k) n.local w.lists (dial w.names n y k) g.lists (dial_done w h x n i gw g w.names y k))
  after_step (Some n) (Stop x) i =
      up_after x n i (Stop x) w.lists _ (ends_after x n i (Stop x) n.local w.lists (stop n) g.lists (stop_done w h x n i gw g))
  after_step (Some n) (Start x) i = ends_after x n i (Start x) n.local w.lists (start n) g.lists (start_done w h x n i gw g)

  pub next : (e : Event) → After w h e (step w e)
  next e = after_step (node_of w.nodes (node_name e)) e refl

-- ---- over every run

pub record Tale (w : World) (h : History) : Type 0 where
  pub good : Good w
  pub sound : Sound w h
  pub linked : Linked w
  pub known : Known w h

pub one_event : (w : World) (h : History) (e : Event) (r : Report) (v : World) → Tale w h → Goes w e r v
    → Tale v ((record { event = e; report = r }) ∷ h)
one_event w h e r v t (inl c) = record {
  good = subst Good (sym c.1) (good_step_at w (node_of w.nodes (node_name e)) e refl t.good);
  sound = subst (λ z. Sound z ((record { event = e; report = r }) ∷ h)) (sym c.1)
      (subst (λ z. Sound ((step w e).world) ((record { event = e; report = z }) ∷ h)) (sym c.0) (next w h t.good t.sound e).sound);
  linked = subst Linked (sym c.1) (linked_step w h t.good t.sound t.linked (node_of w.nodes (node_name e)) e refl);
  known = subst (λ z. Known z ((record { event = e; report = r }) ∷ h)) (sym c.1)
      (subst (λ z. Known ((step w e).world) ((record { event = e; report = z }) ∷ h)) (sym c.0)
      (known_step w h (node_of w.nodes (node_name e)) e refl t.good t.known));
}
one_event w h e r v t (inr c) = record {
  good = subst Good (sym c.1) t.good;
  sound = subst (λ z. Sound z ((record { event = e; report = r }) ∷ h)) (sym c.1)
      (subst (λ z. Sound w ((record { event = e; report = z }) ∷ h)) (sym c.0) (sound_refused w h t.sound e Refusal.OutOfMemory));
  linked = subst Linked (sym c.1) t.linked;
  known = subst (λ z. Known z ((record { event = e; report = r }) ∷ h)) (sym c.1)
      (subst (λ z. Known w ((record { event = e; report = z }) ∷ h)) (sym c.0) (known_refused w h e Refusal.OutOfMemory t.known));
}

tale_runs : (w : World) (h : History) (es : List Event) (rs : List Report) (v : World) → Tale w h → Runs w es rs v → Tale v (told es rs h)
tale_runs w h [] [] v t i = subst (λ z. Tale z h) (sym i) t
tale_runs w h (e ∷ es) (r ∷ rs) v t i = tale_runs i.0 ((record { event = e; report = r }) ∷ h) es rs v (one_event w h e r i.0 t i.1) i.2
tale_runs w h _ _ v t i = absurd i

sound_opening : (cs : List (Name × Setup)) → Sound (opening cs) []
sound_opening cs = record {
  lists = λ t y. subst (λ l. All (IsFounded (opening cs) []) l) (sym (ap list_in (fm.get-empty place_cmp (t, y))))
      (All-nil (IsFounded (opening cs) []));
  locals = λ y v hv. let k = new_is cs cs y v hv in
      subst (λ (z : Node). All (IsFounded (opening cs) []) z.local) (sym k.2) (All-nil (IsFounded (opening cs) []));
  homes = λ y v hv. let k = new_is cs cs y v hv in
      subst (λ (z : Node). All (TargetsIn (λ q. is_stranger z q ≡ false)) z.local) (sym k.2) (All-nil _);
  enrolled = λ y v k u hv i. let m = new_is cs cs y v hv in
      absurd (none-some u (sym (fm.get-empty reference_cmp k) ∙ subst (λ (z : Node). fm.get z.registered k ≡ Some u) m.2 i));
  one = λ k. omega arith;
  drawn = λ k i. absurd (omega (arith, i));
  unanswered = λ k i. (refl, λ r. r);
  watching = λ y v k u hv i. let m = new_is cs cs y v hv in
      absurd (none-some u (sym (fm.get-empty reference_cmp k) ∙ subst (λ (z : Node). fm.get z.watches k ≡ Some u) m.2 i));
  most = λ k. omega arith;
  names = λ k. All-nil (IsNamed k []);
  none_after = λ k r. refl;
  waits = λ k p q m d r. absurd m;
}

linked_opening : (cs : List (Name × Setup)) → Linked (opening cs)
linked_opening cs y v k u hv i =
    let m = new_is cs cs y v hv in
    absurd (none-some u (sym (fm.get-empty reference_cmp k) ∙ subst (λ (z : Node). fm.get z.watches k ≡ Some u) m.2 i))

pub opens_tale : (cs : List (Name × Setup)) → Tale (opening cs) []
opens_tale cs = record { good = good_opening cs; sound = sound_opening cs; linked = linked_opening cs; known = known_opening cs }

pub throughout : (Holds : History → World → Type 0) → ((h : History) (w : World) → Tale w h → Holds h w) → Throughout Holds
throughout Holds f cs es rs w i =
    f (told es rs []) w
    (tale_runs (opening cs) [] es rs w (opens_tale cs) i)

-- ---- the claims

pub reacts_for_true_cause : (h : History) (w : World) → Tale w h → ReactsForTrueCause h w
reacts_for_true_cause h w t e p q z r = (next w h t.good t.sound e).acts p q z r

pub exits_tell_true_cause : (h : History) (w : World) → Tale w h → ExitsTellTrueCause h w
exits_tell_true_cause h w t u y p q z pay c =
    old_cause w h p q z (All-contains (IsFounded w h) (list_to w.lists u y) (Signalled (Signal.Exit q p z) pay) (t.sound.lists u y) c)

pub exits_tell_true_cause_within : (h : History) (w : World) → Tale w h → ExitsTellTrueCauseWithin h w
exits_tell_true_cause_within h w t y p q z pay c = go (node_of w.nodes y) refl c
  where
    go : (o : Option Node) → node_of w.nodes y ≡ o → Contains (local_at o) (Signalled (Signal.Exit q p z) pay) → TrueCause h w p q z
    go None i c = let lt = c.1 in absurd (omega arith)
    go (Some v) i c =
        old_cause w h p q z (All-contains (IsFounded w h) v.local (Signalled (Signal.Exit q p z) pay) (t.sound.locals y v i) c)

pub answered_once : (h : History) (w : World) → Tale w h → AnsweredOnce h w
answered_once h w t = t.sound.one

pub down_once : (h : History) (w : World) → Tale w h → DownOnce h w
down_once h w t = t.sound.most

pub down_to_the_owner : (h : History) (w : World) → Tale w h → DownToTheOwner h w
down_to_the_owner h w t r d c = All-contains (IsNamed r h) (downs r h) d (t.sound.names r) c

pub no_down_where_demonitored : (h : History) (w : World) → Tale w h → NoDownWhereDemonitored h w
no_down_where_demonitored h w t = t.sound.none_after

pub connected_by_cookie : (h : History) (w : World) → Tale w h → ConnectedByCookie h w
connected_by_cookie h w t = by_cookie h w t.known

pub challenges_are_drawn : (h : History) (w : World) → Tale w h → ChallengesAreDrawn h w
challenges_are_drawn h w t = t.known.drawn

pub one_challenge : (h : History) (w : World) → Tale w h → OneChallenge h w
one_challenge h w t = t.known.one

pub strangers_stay_apart : (h : History) (w : World) → ConnectedByCookie h w → StrangersStayApart w
strangers_stay_apart h w k x y t d s = let j = k x y t s in d j.word j.same
