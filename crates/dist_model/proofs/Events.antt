-- Calls, and the end of an incarnation, in the words of what is known.
use Rattle.erl_names.specs.Draw as kind
use Rattle.std.proofs.Common.{nat_lt, ◌≡◌, ℕ, ◌+◌, ◌≤◌, Bool, true, false, cond, List, [], ◌∷◌, refl, sym, ap}
use Rattle.std.proofs.Common.{◌∙◌, subst, arith, ◌&&◌, Option, Some, None, ◌⊎◌, inl, inr, Contains, append-nil}
use Rattle.std.proofs.lemmas.List.Elements.{All-nil, All-weaker, Contains-push_cases}
use Rattle.std.proofs.lemmas.Option.{same_Some, none-some}
use Rattle.std.specs.FinMap as fm
use Rattle.dist_model.proofs.Envelopes.{mere, sent_mere}
use Rattle.dist_model.proofs.SideAges.{Aging, ageless}
use Rattle.dist_model.proofs.Calls.{IfGoes, by_test, next_pid, none_number, pid_drawn}
use Rattle.dist_model.proofs.Calls.{spawned_at, spawned_stays_born, spawned_stays_living, spawns}
use Rattle.dist_model.proofs.Deeds.{T, U, H, Right, Shaken, Whole, at_pid, begins, counted, deed, drawn_along, kn}
use Rattle.dist_model.proofs.Deeds.{nm, no_connection, over_of, over_parts, rules, shaken, unreached, unreached_cause, whole_closed}
use Rattle.dist_model.proofs.Entries.{same_reference_refl, same_reference_true}
use Rattle.dist_model.proofs.Founded.{EndedBefore, Founded, Nothing, asked_founded, back_founded, carried_post}
use Rattle.dist_model.proofs.Founded.{founded_by, posts_keep, quietly_acts, quietly_post}
use Rattle.dist_model.proofs.HomeMonitors.{Homed, Says, TargetsIn, back_says, homed_post, targets_by}
use Rattle.dist_model.proofs.Keys.{same_pid_true}
use Rattle.dist_model.proofs.Parts.{Apart, call_kept}
use Rattle.dist_model.proofs.Sides.{side_at}
use Rattle.dist_model.proofs.Trunks.{Good, has}
use Rattle.dist_model.proofs.Told.{Begins, Called, CalledNow, Deed, Drawn, IsFounded, Off, OffAfter, Old, Revoked, Sound, Stays}
use Rattle.dist_model.proofs.Lands.{Lands, down, down_said, is_end, local_grows, quietly_downs}
use Rattle.dist_model.proofs.Truths.{and_second}
use Rattle.dist_model.proofs.Routes.{at_place}
use Rattle.dist_model.proofs.Moves.{set_life_living}
use Rattle.dist_model.specs.Calls.{call, spawn_life}
use Rattle.dist_model.specs.Commands.{Accepts, Outcome, Refuses, with_id}
use Rattle.dist_model.specs.declared.report.Answer.{Answer}
use Rattle.dist_model.specs.declared.command.Command.{Command}
use Rattle.dist_model.specs.Downs.{IsCallOf, down_in, downs_in, is_answered, is_demonitored, same_reference, takes_message}
use Rattle.dist_model.specs.Histories.{History}
use Rattle.dist_model.specs.Items.{Item}
use Rattle.dist_model.specs.Monitoring.{demonitor_by, monitor, unwatch, watch}
use Rattle.dist_model.specs.Names.{Name, same_name, same_pid}
use Rattle.dist_model.specs.Node.{Node, is_living_life, living, is_stranger, monitors_names, reaches, Life, Living}
use Rattle.dist_model.specs.Sides.{TrunkSide, is_over}
use Rattle.dist_model.specs.Work.{Work, at_work, delivered, draw, post, put, spelled}
use Rattle.dist_model.specs.declared.report.Effect.{Effect}
use Rattle.dist_model.specs.World.{Call, Event, Reported, World, node_of}
use Rattle.erl_names.specs.Ids.{pid_of, reference_of}
use Rattle.erl_names.specs.Minted.{Minted, id_of, last, risen}
use Rattle.erl_names.specs.declared.trunk.TrunkId.{TrunkId}
use Rattle.erl_term.specs.Data.{Data}
use Rattle.erl_term.specs.declared.refusal.Refusal.{Refusal}
use Rattle.erl_term.specs.declared.term.Pid.{Pid}
use Rattle.erl_term.specs.declared.term.Reference.{Reference}
use Rattle.exit_core.specs.Messages.{down_term}
use Rattle.link_core.specs.News.{noconnection}
use Rattle.erl_term.proofs.Order.{reference_cmp_total}
use Rattle.monitor_core.specs.Monitors.{target_node, watch_of}
use Rattle.monitor_core.specs.declared.monitor.Target.{Target}
use Rattle.monitor_core.specs.declared.monitor.Watch.{Watch}
use Rattle.monitor_core.specs.declared.monitor.Registration.{Registration}
use Rattle.dist_model.specs.Telling.{asked, object, taken_back}

-- an outcome that goes through, with its answer
abbrev pub AllGo : Outcome → (Answer → Work → Type 0) → Type 0
AllGo (Refuses k) P = Unit {0}
AllGo (Accepts a o) P = P a o

pub go_cond : (b : Bool) (k : Outcome) (j : Refusal) (P : Answer → Work → Type 0) → (b ≡ true → AllGo k P) → AllGo (cond b k (Refuses j)) P
go_cond true k j P h = h refl
go_cond false k j P h = tt

pub go_not : (b : Bool) (k : Outcome) (j : Refusal) (P : Answer → Work → Type 0) → (b ≡ false → AllGo k P) → AllGo (cond b (Refuses j) k) P
go_not true k j P h = tt
go_not false k j P h = h refl

pub go_drawn : (o : Option ℕ) (k : ℕ → Outcome) (P : Answer → Work → Type 0) → ((id : ℕ) → o ≡ Some id → AllGo (k id) P)
    → AllGo (with_id o k) P
go_drawn None k P f = tt
go_drawn (Some id) k P f = f id refl

pub all_go : (P : Work → Type 0) (Q : Answer → Work → Type 0) (k : Outcome) → ((a : Answer) (o : Work) → P o → Q a o)
    → IfGoes k P → AllGo k Q
all_go P Q (Refuses j) f h = tt
all_go P Q (Accepts a o) f h = f a o h

-- all sides are over, and nobody watches
abbrev pub AllOver : Node → Type 0
AllOver m = ((t : TrunkId) (s : TrunkSide) → side_at m t ≡ Some s → is_over s.state ≡ true) × ((k : Reference) → fm.get m.watches k ≡ None)

reference_drawn : (m : Minted) (id : ℕ) → id_of m kind.Reference ≡ Some id → (id ≡ m.references + 1)
    × (risen m.references (last kind.Reference) ≡ m.references + 1)
reference_drawn m id h = go (nat_lt m.references (last kind.Reference)) refl h
  where
    go : (b : Bool) → nat_lt m.references (last kind.Reference) ≡ b → cond b (Some (m.references + 1)) None ≡ Some id
        → (id ≡ m.references + 1) × (cond b (m.references + 1) m.references ≡ m.references + 1)
    go true e j = (sym (same_Some (m.references + 1) id j), refl)
    go false e j = none_number _ id j

module _ (w : World) (h : History) (x : Name) (n : Node) (hx : node_of w.nodes x ≡ Some n) (gw : Good w) (g : Sound w h) where
  -- an event, with what is needed for what follows
  pub record Done (e : Event) (xs : List Item) (a : Answer) (o : Work) : Type 0 where
    pub deed : Deed w h x n e a o
    pub acts : (p q : Pid) (z : Data) → Contains o.effects (Effect.LinkExit p q z) → Right w h e p q z
    pub aging : Aging n o.node
    pub local : (f : Item → Bool) → has f xs ≡ true → (has f o.node.local ≡ true) ⊎ ((k : Reference) → fm.get o.node.watches k ≡ None)
    pub leaving : (k : Reference) (u : Registration) → fm.get n.registered k ≡ Some u
        → (fm.get o.node.registered k ≡ Some u)
        ⊎ ((Lands (is_end k) n u.owner.node o ⊎ (Off w h k ⊎ (reaches n u.owner.node ≡ false))) ⊎ AllOver o.node)

  module _ (e : Event) (xs : List Item) where
    pub done : (a : Answer) (o : Work) → ((k : Reference) → is_answered k e (Reported a o.effects) ≡ false)
        → ((k : Reference) → is_demonitored k e (Reported a o.effects) ≡ false)
        → T w h x n hx gw g e xs o → U w h x n hx gw g e xs (counted w h x n hx gw g e xs a o) → H w h x n hx gw g e xs o
        → Aging n o.node → Done e xs a o
    done a o na nd t u k ag = record {
      deed = deed w h x n hx gw g e xs a o na nd t u k;
      acts = t.acts;
      aging = ag;
      local = λ f j. inl (u.local f j);
      leaving = λ r m j. leave r m (u.leaving r m j);
    }
      where
        lands : (b : Bool) (f : Item → Bool) (y : Name)
            → Lands f n y (record { node = o.node; effects = cond b (mere o.effects) o.effects }) → Lands f n y o
        lands true f y l = (l.0, λ t i c. ap (λ z. has f (at_place t y z)) (sym (sent_mere o.effects)) ∙ l.1 t i c)
        lands false f y l = l

        leave : (r : Reference) (m : Registration) → (fm.get o.node.registered r ≡ Some m)
            ⊎ (Lands (is_end r) n m.owner.node (counted w h x n hx gw g e xs a o) ⊎ (Off w h r ⊎ (reaches n m.owner.node ≡ false)))
            → (fm.get o.node.registered r ≡ Some m)
            ⊎ ((Lands (is_end r) n m.owner.node o ⊎ (Off w h r ⊎ (reaches n m.owner.node ≡ false))) ⊎ AllOver o.node)
        leave r m (inl j) = inl j
        leave r m (inr (inl j)) = inr (inl (inl (lands (takes_message e (Reported a o.effects)) (is_end r) m.owner.node j)))
        leave r m (inr (inr j)) = inr (inl (inr j))

    -- where no sent message is taken
    pub done_shaken : (a : Answer) (o : Work) → ((k : Reference) → is_answered k e (Reported a o.effects) ≡ false)
        → ((k : Reference) → is_demonitored k e (Reported a o.effects) ≡ false)
        → takes_message e (Reported a o.effects) ≡ false → Shaken w h x n hx gw g e xs o → Done e xs a o
    done_shaken a o na nd tm k =
        done a o na nd k.truth
        (subst (λ b. U w h x n hx gw g e xs (record { node = o.node; effects = cond b (mere o.effects) o.effects })) (sym tm) k.turns)
        k.home k.aging

    pub done_whole : (a : Answer) (o : Work) → ((k : Reference) → is_answered k e (Reported a o.effects) ≡ false)
        → ((k : Reference) → is_demonitored k e (Reported a o.effects) ≡ false)
        → takes_message e (Reported a o.effects) ≡ false → Whole w h x n hx gw g e xs o → Done e xs a o
    done_whole a o na nd tm k = done_shaken a o na nd tm (shaken w h x n hx gw g e xs o k)

  -- ---- calls but for those about monitors

  start : (e : Event) → Whole w h x n hx gw g e n.local (at_work n)
  start e = begins w h x n hx gw g e n.local (g.locals x n hx) (g.homes x n hx)

  apart_answers : (c : Command) → Apart c
      → (k : Reference) (a : Answer) (fs : List (Effect Item)) → is_answered k (Call x c) (Reported a fs) ≡ false
  apart_answers (Command.Monitor p q) f k a fs = absurd (f.0 p q refl)
  apart_answers (Command.MonitorName p y name) f k a fs = absurd (f.2 p y name refl)
  apart_answers _ f k a fs = refl

  apart_demonitors : (c : Command) → Apart c
      → (k : Reference) (a : Answer) (fs : List (Effect Item)) → is_demonitored k (Call x c) (Reported a fs) ≡ false
  apart_demonitors (Command.Demonitor p r) f k a fs = absurd (f.1 p r refl)
  apart_demonitors _ f k a fs = refl

  plain_call : (c : Command) → (c ≡ Command.Spawn → ⊥) → Apart c → AllGo (call n c) (Done (Call x c) n.local)
  plain_call c ns apart = all_go (Whole w h x n hx gw g (Call x c) n.local) (Done (Call x c) n.local) (call n c)
      (λ a o k.
      done_whole (Call x c) n.local a o (λ r. apart_answers c apart r a o.effects) (λ r. apart_demonitors c apart r a o.effects) refl k)
      (call_kept (rules w h x n hx gw g (Call x c) n.local) (Whole w h x n hx gw g (Call x c) n.local)
      (whole_closed w h x n hx gw g (Call x c) n.local) n (start (Call x c)) c apart (λ id s. absurd (ns s))
      (λ p q i l r. own p q i l r))
    where
      own : (p q : Pid) → c ≡ Command.Link p q → living n p ≡ true → reaches n q.node ≡ false → Right w h (Call x c) p q noconnection
      own p q i l r =
          let b = (kn w h x n hx gw g).born p l in (
            inr ((λ j. Call (sym (at_pid w h x n hx gw g p b) j) (i j)), (unreached w h x n hx gw g p q.node b r).1),
            no_connection w h x n hx gw g p q b r,
          )

  -- ---- a new process

  quiet : (fs : List (Effect Item)) (p q : Pid) (z : Data) → fs ≡ [] → Contains fs (Effect.LinkExit p q z) → ⊥
  quiet fs p q z i c =
      let d : Contains [] (Effect.LinkExit p q z) = subst (λ l. Contains l (Effect.LinkExit p q z)) i c in let lt = d.1 in omega arith

  spawned_done : (a : Answer) → Done (Call x Command.Spawn) n.local a (spawned_at n (next_pid n))
  spawned_done a =
      let o = spawned_at n (next_pid n) in
      let s = start (Call x Command.Spawn) in
      let mv = spawns n in
      record {
        deed = record {
          name = nm w h x n hx gw g;
          nevers = λ p v. spawned_stays_born n p v;
          grows = mv.grows;
          carries = record {
            local = All-weaker (IsFounded w h) _
                (founded_by _ _ (Called h) (CalledNow h (Call x Command.Spawn) a o) (Off w h) (OffAfter w h n o)
                (λ q z c. inl c) (λ p q r m. inr m) (λ r c. inl c)) n.local (g.locals x n hx);
            sent = All-nil _;
          };
          homes = All-weaker (TargetsIn (λ q. is_stranger n q ≡ false)) (TargetsIn (λ q. is_stranger o.node q ≡ false))
              (targets_by _ _ (λ q v. spawned_stays_born n q v)) n.local (g.homes x n hx);
          enrolled = λ k u j. let v = g.enrolled x n k u hx j in (spawned_stays_living n u.held v.0, v.1, v.2);
          owners = λ k u j. spawned_stays_living n u.owner (g.watching x n k u hx j).4;
          drawn = λ k d. d;
          course = λ k. Stays refl refl refl refl;
        };
        acts = λ p q z c. absurd (quiet [] p q z refl c);
        aging = ageless n o.node refl;
        local = λ f j. inl j;
        leaving = λ k u j. inl j;
      }

  spawn_done : AllGo (call n Command.Spawn) (Done (Call x Command.Spawn) n.local)
  spawn_done = go_drawn (id_of n.mint kind.Pid) _ (Done (Call x Command.Spawn) n.local) (λ id i.
      let d = pid_drawn n.mint id i in
      subst (λ j. Done (Call x Command.Spawn) n.local (Answer.Pid (pid_of n.mint j)) (spawn_life n (pid_of n.mint j))) (sym d.1)
      (subst (λ m. Done (Call x Command.Spawn) n.local (Answer.Pid (next_pid n))
      (at_work (record n { mint = m; lives = fm.insert n.lives (next_pid n) (Living false []) }))) (sym d.0) (spawned_done
      (Answer.Pid (next_pid n)))))

  -- ---- a process monitors another

  -- the call by which p monitors a target
  abbrev monitoring : Pid → Target → Command
  monitoring p (Target.Pid q) = Command.Monitor p q
  monitoring p (Target.Name name node) = Command.MonitorName p node name

  calls_at : (p : Pid) (t : Target) → p.node ≡ x → IsCallOf p t (Call x (monitoring p t))
  calls_at p (Target.Pid q) at = ap (λ y. Call y (Command.Monitor p q)) (sym at)
  calls_at p (Target.Name name node) at = ap (λ y. Call y (Command.MonitorName p node name)) (sym at)

  answers_with : (p : Pid) (t : Target) (k r : Reference) (fs : List (Effect Item))
      → is_answered k (Call x (monitoring p t)) (Reported (Answer.Reference r) fs) ≡ same_reference k r
  answers_with p (Target.Pid q) k r fs = refl
  answers_with p (Target.Name name node) k r fs = refl

  takes_none_back : (p : Pid) (t : Target) (k : Reference) (a : Answer) (fs : List (Effect Item))
      → is_demonitored k (Call x (monitoring p t)) (Reported a fs) ≡ false
  takes_none_back p (Target.Pid q) k a fs = refl
  takes_none_back p (Target.Name name node) k a fs = refl

  module _ (p : Pid) (q : Target) (l : living n p ≡ true) (id : ℕ) (hid : id_of n.mint kind.Reference ≡ Some id)
      (says : Says n (λ a. is_stranger n a ≡ false) (asked p q (reference_of n.mint id))) where
    born : is_stranger n p ≡ false
    born = (kn w h x n hx gw g).born p l

    calling : IsCallOf p q (Call x (monitoring p q))
    calling = calls_at p q (at_pid w h x n hx gw g p born)

    undrawn : (k : Reference) → same_reference k (reference_of n.mint id) ≡ true → Drawn n k → ⊥
    undrawn k i (inl d) =
        let c : k.creation ≡ n.mint.creation = ap (λ (z : Reference). z.creation) (same_reference_true k (reference_of n.mint id) i) in
        absurd (omega (arith, c, d))
    undrawn k i (inr d) =
        let b = d.1 in
        let same : b.0 ∷ 0 ∷ 0 ∷ [] ≡ id ∷ 0 ∷ 0 ∷ [] =
        sym b.1 ∙ ap (λ (z : Reference). z.words) (same_reference_true k (reference_of n.mint id) i) in
        let c : b.0 ≡ id = cc in
        let le : b.0 ≤ n.mint.references = b.2 in
        absurd (omega (arith, c, (reference_drawn n.mint id hid).0, le))

    now_drawn : (k : Reference) → same_reference k (reference_of n.mint id) ≡ true → Drawn (draw kind.Reference (at_work n)).node k
    now_drawn k i =
        let s = same_reference_true k (reference_of n.mint id) i in
        let v = reference_drawn n.mint id hid in
        let le : id ≤ risen n.mint.references (last kind.Reference) = omega (arith, v.0, v.1) in
        inr (ap (λ (z : Reference). z.creation) s, (id, ap (λ (z : Reference). z.words) s, le))

    stays_drawn : (k : Reference) → Drawn n k → Drawn (draw kind.Reference (at_work n)).node k
    stays_drawn k = drawn_along n ((draw kind.Reference (at_work n)).node) k refl (omega (arith, (reference_drawn n.mint id hid).1))

    answered : (k : Reference) (b : Bool) (fs : List (Effect Item)) → same_reference k (reference_of n.mint id) ≡ b
        → is_answered k (Call x (monitoring p q)) (Reported (Answer.Reference (reference_of n.mint id)) fs) ≡ b
    answered k b fs i = answers_with p q k (reference_of n.mint id) fs ∙ i

    -- what is told of both ways
    abbrev Asks : Work → Type 0
    Asks o = Done (Call x (monitoring p q)) n.local (Answer.Reference (reference_of n.mint id)) o

    old_items : (o : Work) (i : Item) → IsFounded w h i
        → Founded (EndedBefore n (Old w h) (λ a b z. Unit {0}) (Called h) (Off w h) o) (CalledNow h (Call x (monitoring p q)) (Answer.Reference (reference_of n.mint id)) o) (OffAfter w h n o) i
    old_items o = founded_by _ _ (Called h)
        (CalledNow h (Call x (monitoring p q)) (Answer.Reference (reference_of n.mint id)) o) (Off w h) (OffAfter w h n o)
        (λ a z c. inl c) (λ a b k m. inr m) (λ k c. inl c)

    reaching : Asks (post (asked p q (reference_of n.mint id))
        (watch (reference_of n.mint id) (watch_of p q) (draw kind.Reference (at_work n))))
    reaching =
        let o1 = watch (reference_of n.mint id) (watch_of p q) (draw kind.Reference (at_work n)) in
        let s = asked p q (reference_of n.mint id) in
        let o = post s o1 in
        let quietly = quietly_post [] (target_node q) (spelled o1.node s) o1 Nothing in
        let ws : o.node.watches ≡ o1.node.watches = posts_keep (λ m. m.watches) (λ m z. refl) (target_node q) (spelled o1.node s) o1 in
        let mt : o.node.mint ≡ o1.node.mint = posts_keep (λ m. m.mint) (λ m z. refl) (target_node q) (spelled o1.node s) o1 in
        let rs : o.node.registered ≡ n.registered = posts_keep (λ m. m.registered) (λ m z. refl) (target_node q) (spelled o1.node s) o1 in
        let lv : (a : Pid) → living o.node a ≡ living n a = λ a. posts_keep (λ m. living m a) (λ m z. refl) (target_node q) (spelled o1.node s) o1 in
        let nv : (a : Pid) → is_stranger o.node a ≡ is_stranger n a =
        λ a. posts_keep (λ m. is_stranger m a) (λ m z. refl) (target_node q) (spelled o1.node s) o1 in
        let sd : o.node.sides ≡ n.sides = posts_keep (λ m. m.sides) (λ m z. refl) (target_node q) (spelled o1.node s) o1 in
        let got : (k : Reference) → fm.get o.node.watches k
        ≡ cond (same_reference k (reference_of n.mint id)) (Some (watch_of p q)) (fm.get n.watches k) = λ k. ap (λ z. fm.get z k) ws
        ∙ fm.get-insert reference_cmp_total n.watches (reference_of n.mint id) (watch_of p q) k in
        let hp : Homed n (λ a. is_stranger n a ≡ false) o =
        homed_post n (λ a. is_stranger n a ≡ false) s o1 says
        (record { local = g.homes x n hx; name = refl }) in
        let dn : (k : Reference) → downs_in k o.effects ≡ [] = λ k. quietly_downs k [] o.effects quietly in
        let cp =
        carried_post
        (Founded (EndedBefore n (Old w h) (λ a b z. Unit {0}) (Called h) (Off w h) o) (CalledNow h (Call x (monitoring p q)) (Answer.Reference (reference_of n.mint id)) o) (OffAfter w h n o))
        (target_node q) (spelled o1.node s) o1 (asked_founded (EndedBefore n (Old w h) (λ a b z. Unit {0}) (Called h) (Off w h) o)
        (CalledNow h (Call x (monitoring p q)) (Answer.Reference (reference_of n.mint id)) o)
        (OffAfter w h n o) p q (reference_of n.mint id)
        (inl (calling, answered (reference_of n.mint id) true o.effects (same_reference_refl (reference_of n.mint id)))))
        (record { local = All-weaker (IsFounded w h) _ (old_items o) n.local (g.locals x n hx); sent = All-nil _ }) in
        record {
          deed = record {
            name = ap (λ (m : Minted). m.name) mt ∙ nm w h x n hx gw g;
            nevers = λ a v. nv a ∙ v;
            grows = λ a v. let b = over_parts n a v in over_of o.node a (lv a ∙ b.0) (nv a ∙ b.1);
            carries = cp;
            homes = All-weaker (TargetsIn (λ a. is_stranger n a ≡ false)) (TargetsIn (λ a. is_stranger o.node a ≡ false))
                (targets_by _ _ (λ a v. nv a ∙ v)) o.node.local hp.local;
            enrolled = λ k u j. let v = g.enrolled x n k u hx (ap (λ z. fm.get z k) (sym rs) ∙ j) in (lv u.held ∙ v.0, v.1, v.2);
            owners = λ k u j. lv u.owner ∙ owner k u (same_reference k (reference_of n.mint id)) (sym (got k) ∙ j);
            drawn = λ k d. subst (λ m. Drawn (record n { mint = m }) k) (sym mt) (stays_drawn k d);
            course = λ k. by_test _ (same_reference k (reference_of n.mint id))
                (λ i. Begins p q calling (answered k true o.effects i) (takes_none_back p q k (Answer.Reference (reference_of n.mint id)) o.effects)
                (ap (λ (z : Reference). z.node) (same_reference_true k (reference_of n.mint id) i) ∙ nm w h x n hx gw g)
                (undrawn k i) (subst (λ m. Drawn (record n { mint = m }) k) (sym mt) (now_drawn k i)) (lv p ∙ l)
                (inl (got k ∙ ap (λ b. cond b (Some (watch_of p q)) (fm.get n.watches k)) i, dn k)))
                (λ i. Stays (got k ∙ ap (λ b. cond b (Some (watch_of p q)) (fm.get n.watches k)) i) (dn k)
                (answered k false o.effects i) (takes_none_back p q k (Answer.Reference (reference_of n.mint id)) o.effects));
          };
          acts = λ a b z c. absurd (quiet [] a b z refl (quietly_acts [] o.effects quietly a b z c));
          aging = ageless n o.node sd;
          local = λ f j. inl (local_grows f (target_node q) (spelled o1.node s) o1 j);
          leaving = λ k u j. inl (ap (λ z. fm.get z k) rs ∙ j);
        }
      where
        owner : (k : Reference) (u : Watch) (b : Bool) → cond b (Some (watch_of p q)) (fm.get n.watches k) ≡ Some u
            → living n u.owner ≡ true
        owner k u true j = subst (λ (v : Watch). living n v.owner ≡ true) (same_Some (watch_of p q) u j) l
        owner k u false j = (g.watching x n k u hx j).4

    unreaching : reaches n (target_node q) ≡ false
        → Asks (put p (down_term (reference_of n.mint id) (object q) noconnection) (draw kind.Reference (at_work n)))
    unreaching far =
        let o1 = draw kind.Reference (at_work n) in
        let o = put p (down_term (reference_of n.mint id) (object q) noconnection) o1 in
        let lv : (a : Pid) → living o.node a ≡ living n a =
        λ a. set_life_living n.lives p
        (delivered (fm.get n.lives p) (down_term (reference_of n.mint id) (object q) noconnection)) a
        (λ i. delivered_living (fm.get n.lives p) ∙ ap (living n) (sym (same_pid_true a p i))) in
        let dn : (k : Reference) → downs_in k o.effects
        ≡ cond (same_reference k (reference_of n.mint id)) (down (watch_of p q) noconnection ∷ []) [] = λ k.
        append-nil (down_in k p (down_term (reference_of n.mint id) (object q) noconnection))
        ∙ down_said k (reference_of n.mint id) p q noconnection in
        record {
          deed = record {
            name = nm w h x n hx gw g;
            nevers = λ a v. v;
            grows = λ a v. let b = over_parts n a v in over_of o.node a (lv a ∙ b.0) b.1;
            carries = record { local = All-weaker (IsFounded w h) _ (old_items o) n.local (g.locals x n hx); sent = All-nil _ };
            homes = g.homes x n hx;
            enrolled = λ k u j. let v = g.enrolled x n k u hx j in (lv u.held ∙ v.0, v.1, v.2);
            owners = λ k u j. lv u.owner ∙ (g.watching x n k u hx j).4;
            drawn = λ k d. stays_drawn k d;
            course = λ k. by_test _ (same_reference k (reference_of n.mint id))
                (λ i. Begins p q calling (answered k true o.effects i) (takes_none_back p q k (Answer.Reference (reference_of n.mint id)) o.effects)
                (ap (λ (z : Reference). z.node) (same_reference_true k (reference_of n.mint id) i) ∙ nm w h x n hx gw g)
                (undrawn k i) (now_drawn k i) (lv p ∙ l)
                (inr (
                  refl,
                  noconnection,
                  unreached_cause w h x n hx gw g p q born far,
                  dn k ∙ ap (λ b. cond b (down (watch_of p q) noconnection ∷ []) []) i,
                )))
                (λ i. Stays refl (dn k ∙ ap (λ b. cond b (down (watch_of p q) noconnection ∷ []) []) i)
                (answered k false o.effects i) (takes_none_back p q k (Answer.Reference (reference_of n.mint id)) o.effects));
          };
          acts = λ a b z c. absurd (no_act a b z
              (Contains-push_cases [] (Effect.Put p (down_term (reference_of n.mint id) (object q) noconnection)) (Effect.LinkExit a b z) c));
          aging = ageless n o.node refl;
          local = λ f j. inl j;
          leaving = λ k u j. inl j;
        }
      where
        delivered_living : (v : Option Life)
            → is_living_life (delivered v (down_term (reference_of n.mint id) (object q) noconnection)) ≡ is_living_life v
        delivered_living (Some (Living t b)) = refl
        delivered_living _ = refl

        no_act : (a b : Pid) (z : Data) → Contains {X = Effect Item} [] (Effect.LinkExit a b z)
            ⊎ (◌≡◌ {A = Effect Item} (Effect.Put p (down_term (reference_of n.mint id) (object q) noconnection)) (Effect.LinkExit a b z))
            → ⊥
        no_act a b z (inl c) = quiet [] a b z refl c
        no_act a b z (inr c) = cc

    monitor_done : Asks (monitor (reference_of n.mint id) p q (draw kind.Reference (at_work n)))
    monitor_done = go (reaches n (target_node q)) refl
      where
        go : (b : Bool) → reaches n (target_node q) ≡ b → Asks (cond b (post (asked p q (reference_of n.mint id))
            (watch (reference_of n.mint id) (watch_of p q) (draw kind.Reference (at_work n)))) (put p
            (down_term (reference_of n.mint id) (object q) noconnection) (draw kind.Reference (at_work n))))
        go true i = reaching
        go false i = unreaching i

  -- ---- a process takes a monitor back

  demonitor_done : (p : Pid) (r : Reference) (v : Option Watch) → fm.get n.watches r ≡ v
      → AllGo (demonitor_by v p r (at_work n)) (Done (Call x (Command.Demonitor p r)) n.local)
  demonitor_done p r None i = tt
  demonitor_done p r (Some m) i =
      go_cond (same_pid m.owner p) _ Refusal.NotTheOwner (Done (Call x (Command.Demonitor p r)) n.local) (λ own.
      let o1 = unwatch r (at_work n) in
      let s = taken_back p m.target r in
      let o = post s o1 in
      let e = Call x (Command.Demonitor p r) in
      let quietly = quietly_post [] (target_node m.target) (spelled o1.node s) o1 Nothing in
      let ws : o.node.watches ≡ o1.node.watches = posts_keep (λ z. z.watches) (λ z y. refl) (target_node m.target) (spelled o1.node s) o1 in
      let mt : o.node.mint ≡ n.mint = posts_keep (λ z. z.mint) (λ z y. refl) (target_node m.target) (spelled o1.node s) o1 in
      let rs : o.node.registered ≡ n.registered = posts_keep (λ z. z.registered) (λ z y. refl) (target_node m.target) (spelled o1.node s) o1 in
      let lv : (a : Pid) → living o.node a ≡ living n a =
      λ a. posts_keep (λ z. living z a) (λ z y. refl) (target_node m.target) (spelled o1.node s) o1 in
      let nv : (a : Pid) → is_stranger o.node a ≡ is_stranger n a =
      λ a. posts_keep (λ z. is_stranger z a) (λ z y. refl) (target_node m.target) (spelled o1.node s) o1 in
      let sd : o.node.sides ≡ n.sides = posts_keep (λ z. z.sides) (λ z y. refl) (target_node m.target) (spelled o1.node s) o1 in
      let got : (k : Reference) → fm.get o.node.watches k ≡ cond (same_reference k r) None (fm.get n.watches k) =
      λ k. ap (λ z. fm.get z k) ws ∙ fm.get-remove reference_cmp_total n.watches r k in
      let hp : Homed n (λ a. is_stranger n a ≡ false) o =
      homed_post n (λ a. is_stranger n a ≡ false) s o1 (back_says n (λ a. is_stranger n a ≡ false) p m.target r) (record { local = g.homes x n hx; name = refl }) in
      let dn : (k : Reference) → downs_in k o.effects ≡ [] = λ k. quietly_downs k [] o.effects quietly in
      let cp =
      carried_post
      (Founded (EndedBefore n (Old w h) (λ a b z. Unit {0}) (Called h) (Off w h) o) (CalledNow h (Call x (Command.Demonitor p r)) Answer.Done o) (OffAfter w h n o))
      (target_node m.target) (spelled o1.node s) o1 (back_founded (EndedBefore n (Old w h) (λ a b z. Unit {0}) (Called h) (Off w h) o)
      (CalledNow h (Call x (Command.Demonitor p r)) Answer.Done o)
      (OffAfter w h n o) p m.target r
      (inr ((m, i), got r ∙ ap (λ b. cond b None (fm.get n.watches r)) (same_reference_refl r))))
      (record {
        local = All-weaker (IsFounded w h) _
            (founded_by _ _ (Called h) (CalledNow h (Call x (Command.Demonitor p r)) Answer.Done o) (Off w h) (OffAfter w h n o)
            (λ a z c. inl c) (λ a b k c. inr c) (λ k c. inl c)) n.local (g.locals x n hx);
        sent = All-nil _;
      }) in
      record {
        deed = record {
          name = ap (λ (z : Minted). z.name) mt ∙ nm w h x n hx gw g;
          nevers = λ a v. nv a ∙ v;
          grows = λ a v. let b = over_parts n a v in over_of o.node a (lv a ∙ b.0) (nv a ∙ b.1);
          carries = cp;
          homes = All-weaker (TargetsIn (λ a. is_stranger n a ≡ false)) (TargetsIn (λ a. is_stranger o.node a ≡ false))
              (targets_by _ _ (λ a v. nv a ∙ v)) o.node.local hp.local;
          enrolled = λ k u j. let v = g.enrolled x n k u hx (ap (λ z. fm.get z k) (sym rs) ∙ j) in (lv u.held ∙ v.0, v.1, v.2);
          owners = λ k u j. lv u.owner ∙ (g.watching x n k u hx (left k u (same_reference k r) (sym (got k) ∙ j))).4;
          drawn = λ k d. subst (λ z. Drawn (record n { mint = z }) k) (sym mt) d;
          course = λ k. by_test _ (same_reference k r)
              (λ j. Revoked m (ap (fm.get n.watches) (same_reference_true k r j) ∙ i)
              (got k ∙ ap (λ b. cond b None (fm.get n.watches k)) j) (dn k) refl j)
              (λ j. Stays (got k ∙ ap (λ b. cond b None (fm.get n.watches k)) j) (dn k) refl j);
        };
        acts = λ a b z c. absurd (quiet [] a b z refl (quietly_acts [] o.effects quietly a b z c));
        aging = ageless n o.node sd;
        local = λ f j. inl (local_grows f (target_node m.target) (spelled o1.node s) o1 j);
        leaving = λ k u j. inl (ap (λ z. fm.get z k) rs ∙ j);
      })
    where
      left : (k : Reference) (u : Watch) (b : Bool) → cond b None (fm.get n.watches k) ≡ Some u → fm.get n.watches k ≡ Some u
      left k u true j = absurd (none-some u j)
      left k u false j = j

  -- ---- any call

  pub call_done : (c : Command) → AllGo (call n c) (Done (Call x c) n.local)
  call_done Command.Spawn = spawn_done
  call_done (Command.Monitor p q) = go_cond (living n p) _ Refusal.NoSuchProcess (Done (Call x (Command.Monitor p q)) n.local) (λ l.
      go_not (same_name q.node n.mint.name && is_stranger n q) _ Refusal.Forged (Done (Call x (Command.Monitor p q)) n.local) (λ f.
      go_drawn (id_of n.mint kind.Reference) _ (Done (Call x (Command.Monitor p q)) n.local) (λ id i.
      monitor_done p (Target.Pid q) l id i (λ o. and_second (same_name q.node n.mint.name) (is_stranger n q) f o))))
  call_done (Command.MonitorName p y name) =
      go_cond (living n p) _ Refusal.NoSuchProcess (Done (Call x (Command.MonitorName p y name)) n.local) (λ l.
      go_cond (monitors_names n y) _ Refusal.NotOffered (Done (Call x (Command.MonitorName p y name)) n.local) (λ f.
      go_drawn (id_of n.mint kind.Reference) _ (Done (Call x (Command.MonitorName p y name)) n.local) (λ id i.
      monitor_done p (Target.Name name y) l id i (λ o. tt))))
  call_done (Command.Demonitor p r) =
      go_cond (living n p) _ Refusal.NoSuchProcess (Done (Call x (Command.Demonitor p r)) n.local)
      (λ l. demonitor_done p r (fm.get n.watches r) refl)
  call_done c = plain_call c (λ i. cc) ((λ a b i. cc), (λ a b i. cc), (λ a b d i. cc))
