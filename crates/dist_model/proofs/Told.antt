-- What is known of a world and its history, and that an event keeps it.
use Rattle.std.proofs.Common.{◌≡◌, ℕ, ◌+◌, ◌<◌, ◌≤◌, zero, suc, Bool, true, false, cond, List, [], ◌∷◌, ◌++◌}
use Rattle.std.proofs.Common.{length, refl, sym, ap, ◌∙◌, subst, arith, Option, Some, None, ◌⊎◌, inl, inr, Contains}
use Rattle.std.proofs.lemmas.List.Elements.{All-cons, All-nil, All-weaker}
use Rattle.std.proofs.lemmas.Option.{same_Some, none-some}
use Rattle.std.specs.List.{All}
use Rattle.std.specs.FinMap as fm
use Rattle.std.specs.FinMap.{FinMap}
use Rattle.dist_model.proofs.Envelopes.{Envelope, outgoing}
use Rattle.dist_model.proofs.Calls.{by_name}
use Rattle.dist_model.proofs.Founded.{Carried, EndedBefore, Founded, IsAsked, OffNow, asked_by, carried_lists, founded_by}
use Rattle.dist_model.proofs.HomeMonitors.{TargetsIn}
use Rattle.dist_model.proofs.Routes.{node_of_set_other, node_of_set_same}
use Rattle.dist_model.proofs.Lands.{down}
use Rattle.dist_model.proofs.Views.{over}
use Rattle.dist_model.proofs.SomeCauses.{CauseIn}
use Rattle.dist_model.specs.Causes.{HasEnded}
use Rattle.dist_model.specs.declared.report.Answer.{Answer}
use Rattle.dist_model.specs.declared.command.Command.{Command}
use Rattle.dist_model.specs.Downs.{Demonitored, Down, IsCallOf, Monitored, answers, downs, downs_by, is_answered, is_demonitored}
use Rattle.dist_model.specs.Histories.{History}
use Rattle.dist_model.specs.Items.{Item}
use Rattle.dist_model.specs.Names.{Name, place_cmp}
use Rattle.dist_model.specs.Node.{Node, living, is_stranger}
use Rattle.dist_model.specs.Work.{Work}
use Rattle.dist_model.specs.declared.report.Effect.{Effect}
use Rattle.dist_model.specs.World.{Call, Event, Report, Reported, World, carried, list_to, node_of, set_node}
use Rattle.erl_names.specs.declared.trunk.TrunkId.{TrunkId}
use Rattle.erl_term.specs.Data.{Data}
use Rattle.erl_term.specs.declared.term.Pid.{Pid}
use Rattle.erl_term.specs.declared.term.Reference.{Reference}
use Rattle.link_core.specs.News.{noproc}
use Rattle.monitor_core.specs.declared.monitor.Target.{Target}
use Rattle.monitor_core.specs.declared.monitor.Watch.{Watch}
use Rattle.monitor_core.specs.declared.monitor.Registration.{Registration}
use Rattle.dist_model.specs.Monitoring.{pid_watch}
use Rattle.monitor_core.specs.Monitors.{watch_of}
use Rattle.dist_model.proofs.Entries.{IsBound}

-- spawned once, and not living
abbrev pub Dead : World → Pid → Type 0
Dead w q = (v : Node) × (node_of w.nodes q.node ≡ Some v) × (over v q ≡ true)

-- a report said that q ended so, or nobody is there
abbrev pub Old : World → History → Pid → Data → Type 0
Old w h q x = HasEnded q x h ⊎ ((x ≡ noproc) × Dead w q)

-- the reference was answered, and its monitor is over
abbrev pub Off : World → History → Reference → Type 0
Off w h k = (1 ≤ answers k h) × ((v : Node) → node_of w.nodes k.node ≡ Some v → fm.get v.watches k ≡ None)

abbrev pub Called : History → Pid → Target → Reference → Type 0
Called h p t k = Monitored k p t h

abbrev pub IsFounded : World → History → Item → Type 0
IsFounded w h = Founded (Old w h) (Called h) (Off w h)

-- a reference that the node has drawn
abbrev pub Drawn : Node → Reference → Type 0
Drawn n k =
    (k.creation < n.mint.creation) ⊎ ((k.creation ≡ n.mint.creation) × ((c : ℕ) × (k.words ≡ c ∷ 0 ∷ 0 ∷ []) × (c ≤ n.mint.references)))

abbrev pub IsNamed : Reference → History → Down → Type 0
IsNamed k h d = Monitored k d.owner d.target h

pub record Sound (w : World) (h : History) : Type 0 where
  pub lists : (t : TrunkId) (y : Name) → All (IsFounded w h) (list_to w.lists t y)
  pub locals : (y : Name) (v : Node) → node_of w.nodes y ≡ Some v → All (IsFounded w h) v.local
  pub homes : (y : Name) (v : Node) → node_of w.nodes y ≡ Some v → All (TargetsIn (λ q. is_stranger v q ≡ false)) v.local
  pub enrolled : (y : Name) (v : Node) (k : Reference) (u : Registration) → node_of w.nodes y ≡ Some v
      → fm.get v.registered k ≡ Some u → (living v u.held ≡ true) × IsAsked (Called h) u.target u.owner k × IsBound u
  pub one : (k : Reference) → answers k h ≤ 1
  pub drawn : (k : Reference) → 1 ≤ answers k h → (v : Node) × (node_of w.nodes k.node ≡ Some v) × Drawn v k
  pub unanswered : (k : Reference) → answers k h ≡ 0 → (downs k h ≡ []) × (Demonitored k h → ⊥)
  pub watching : (y : Name) (v : Node) (k : Reference) (u : Watch) → node_of w.nodes y ≡ Some v → fm.get v.watches k ≡ Some u
      → (k.node ≡ y) × Monitored k u.owner u.target h × (downs k h ≡ []) × (Demonitored k h → ⊥) × (living v u.owner ≡ true)
  pub most : (k : Reference) → length (downs k h) ≤ 1
  pub names : (k : Reference) → All (IsNamed k h) (downs k h)
  pub none_after : (k : Reference) → Demonitored k h → downs k h ≡ []
  -- a monitor that came to no end is watched, or its owner is dead
  pub waits : (k : Reference) (p q : Pid) → Monitored k p (Target.Pid q) h → downs k h ≡ [] → (Demonitored k h → ⊥)
      → ((v : Node) × (node_of w.nodes k.node ≡ Some v) × (fm.get v.watches k ≡ Some (pid_watch p q))) ⊎ Dead w p

pub monitored_answered : (k : Reference) (p : Pid) (q : Target) (h : History) → Monitored k p q h → 1 ≤ answers k h
monitored_answered k p q [] m = absurd m
monitored_answered k p q (e ∷ h) (inl m) =
    let a : ◌≡◌ {A = ℕ} (cond (is_answered k e.event e.report) 1 0) 1 = ap (λ b. cond b 1 0) m.1 in omega arith
monitored_answered k p q (e ∷ h) (inr m) = omega (arith, monitored_answered k p q h m)

-- one call has one owner and one target
one_call : (p a : Pid) (q b : Target) (e : Event) → IsCallOf p q e → IsCallOf a b e → (p ≡ a) × (q ≡ b)
one_call p a (Target.Pid q) (Target.Pid b) e m n =
    let same : Call p.node (Command.Monitor p q) ≡ Call a.node (Command.Monitor a b) = sym m ∙ n in
    let x : p ≡ a = cc in let y : q ≡ b = cc in (x, ap Target.Pid y)
one_call p a (Target.Name name node) (Target.Name other at) e m n =
    let same : Call p.node (Command.MonitorName p node name) ≡ Call a.node (Command.MonitorName a at other) = sym m ∙ n in
    let x : p ≡ a = cc in let y : name ≡ other = cc in let z : node ≡ at = cc in (x, λ i. Target.Name (y i) (z i))
one_call p a (Target.Name name node) (Target.Pid b) e m n =
    let same : Call p.node (Command.MonitorName p node name) ≡ Call a.node (Command.Monitor a b) = sym m ∙ n in cc
one_call p a (Target.Pid q) (Target.Name name node) e m n =
    let same : Call p.node (Command.Monitor p q) ≡ Call a.node (Command.MonitorName a node name) = sym m ∙ n in cc

-- the same target, but for the node of a name
abbrev pub IsAlike : Target → Target → Type 0
IsAlike (Target.Pid q) b = Target.Pid q ≡ b
IsAlike (Target.Name name node) b = (other : Name) × (Target.Name name other ≡ b)

-- a reference that was answered once names one owner and one target
pub monitored_one : (k : Reference) (p : Pid) (q : Target) (a : Pid) (b : Target) (h : History) → answers k h ≤ 1
    → Monitored k p q h → Monitored k a b h → (p ≡ a) × (q ≡ b)
monitored_one k p q a b [] o m n = absurd m
monitored_one k p q a b (e ∷ h) o (inl m) (inl n) = one_call p a q b e.event m.0 n.0
monitored_one k p q a b (e ∷ h) o (inl m) (inr n) =
    let c : ◌≡◌ {A = ℕ} (cond (is_answered k e.event e.report) 1 0) 1 = ap (λ b. cond b 1 0) m.1 in
    absurd (omega (arith, monitored_answered k a b h n))
monitored_one k p q a b (e ∷ h) o (inr m) (inl n) =
    let c : ◌≡◌ {A = ℕ} (cond (is_answered k e.event e.report) 1 0) 1 = ap (λ b. cond b 1 0) n.1 in
    absurd (omega (arith, monitored_answered k p q h m))
monitored_one k p q a b (e ∷ h) o (inr m) (inr n) = monitored_one k p q a b h (omega arith) m n

-- the call of a signal or a registration names the owner and the target of the watch
pub asked_one : (k : Reference) (t : Target) (p a : Pid) (b : Target) (h : History) → answers k h ≤ 1
    → IsAsked (Called h) t p k → Monitored k a b h → (p ≡ a) × IsAlike t b
asked_one k (Target.Pid q) p a b h o m n = let v = monitored_one k p (Target.Pid q) a b h o m n in (v.0, v.1)
asked_one k (Target.Name name node) p a b h o m n =
    let v = monitored_one k p (Target.Name name m.0) a b h o m.1 n in (v.0, (m.0, v.1))

-- how an event treats one reference
pub data Course (w : World) (h : History) (n : Node) (x : Name) (e : Event) (r : Report) (o : Work) (k : Reference) : Type 0 where
  Stays : fm.get o.node.watches k ≡ fm.get n.watches k → downs_by k e r ≡ [] → is_answered k e r ≡ false
      → is_demonitored k e r ≡ false → Course w h n x e r o k
  Leaves : (u : Watch) → fm.get n.watches k ≡ Some u → fm.get o.node.watches k ≡ None → over o.node u.owner ≡ true
      → u.owner.node ≡ x → downs_by k e r ≡ [] → is_answered k e r ≡ false → is_demonitored k e r ≡ false
      → Course w h n x e r o k
  Downs : (u : Watch) (z : Data) → fm.get n.watches k ≡ Some u → fm.get o.node.watches k ≡ None
      → CauseIn h w u.owner u.target z → downs_by k e r ≡ down u z ∷ [] → is_answered k e r ≡ false
      → is_demonitored k e r ≡ false → Course w h n x e r o k
  Begins : (p : Pid) (t : Target) → IsCallOf p t e → is_answered k e r ≡ true → is_demonitored k e r ≡ false
      → k.node ≡ x → (Drawn n k → ⊥) → Drawn o.node k → living o.node p ≡ true
      → ((fm.get o.node.watches k ≡ Some (watch_of p t))
      × (downs_by k e r ≡ [])) ⊎ ((fm.get o.node.watches k ≡ fm.get n.watches k) × (z : Data) × CauseIn h w p t z
      × (downs_by k e r ≡ down (watch_of p t) z ∷ [])) → Course w h n x e r o k
  Revoked : (u : Watch) → fm.get n.watches k ≡ Some u → fm.get o.node.watches k ≡ None → downs_by k e r ≡ []
      → is_answered k e r ≡ false → is_demonitored k e r ≡ true → Course w h n x e r o k

-- a monitor that was called for before the event, or in it
abbrev pub CalledNow : History → Event → Answer → Work → Pid → Target → Reference → Type 0
CalledNow h e a o p t k = Monitored k p t ((record { event = e; report = Reported a o.effects }) ∷ h)

-- one that is over, or ended in the event
abbrev pub OffAfter : World → History → Node → Work → Reference → Type 0
OffAfter w h n o = OffNow n (Old w h) (λ p q z. Unit {0}) (Called h) (Off w h) o

-- what an event at x leaves
pub record Deed (w : World) (h : History) (x : Name) (n : Node) (e : Event) (a : Answer) (o : Work) : Type 0 where
  pub name : o.node.mint.name ≡ x
  pub nevers : (p : Pid) → is_stranger n p ≡ false → is_stranger o.node p ≡ false
  pub grows : (p : Pid) → over n p ≡ true → over o.node p ≡ true
  pub carries : Carried (Founded (EndedBefore n (Old w h) (λ p q z. Unit {0}) (Called h) (Off w h) o)
      (CalledNow h e a o) (OffAfter w h n o)) o
  pub homes : All (TargetsIn (λ q. is_stranger o.node q ≡ false)) o.node.local
  pub enrolled : (k : Reference) (u : Registration) → fm.get o.node.registered k ≡ Some u → (living o.node u.held ≡ true)
      × IsAsked (Called h) u.target u.owner k × IsBound u
  pub owners : (k : Reference) (u : Watch) → fm.get o.node.watches k ≡ Some u → living o.node u.owner ≡ true
  pub drawn : (k : Reference) → Drawn n k → Drawn o.node k
  pub course : (k : Reference) → Course w h n x e (Reported a o.effects) o k

module _ (w : World) (h : History) (x : Name) (n : Node) (hx : node_of w.nodes x ≡ Some n) (g : Sound w h) (e : Event)
    (a : Answer) (o : Work) (d : Deed w h x n e a o) where
  abbrev pub happened : History
  happened = (record { event = e; report = Reported a o.effects }) ∷ h

  abbrev pub after : FinMap place_cmp (List Item) → World
  after m = record { names = w.names; nodes = set_node w.nodes x o.node; lists = carried m o.effects }

  pub at_x : (y : Name) → x ≡ y → node_of (set_node w.nodes x o.node) y ≡ Some o.node
  at_x y i = subst (λ z. node_of (set_node w.nodes x o.node) z ≡ Some o.node) i (node_of_set_same w.nodes x n o.node hx d.name)

  pub elsewhere : (y : Name) → (x ≡ y → ⊥) → node_of (set_node w.nodes x o.node) y ≡ node_of w.nodes y
  elsewhere y i = node_of_set_other w.nodes x y o.node d.name i

  -- the node of that name, before and after
  here_before : (y : Name) (v : Node) → x ≡ y → node_of w.nodes y ≡ Some v → v ≡ n
  here_before y v i hv = same_Some v n (sym hv ∙ subst (λ z. node_of w.nodes z ≡ Some n) i hx)

  here_after : (y : Name) (v : Node) → x ≡ y → node_of (set_node w.nodes x o.node) y ≡ Some v → o.node ≡ v
  here_after y v i hv = same_Some o.node v (sym (at_x y i) ∙ hv)

  still_dead : (q : Pid) → Dead w q → (v : Node) × (node_of (set_node w.nodes x o.node) q.node ≡ Some v) × (over v q ≡ true)
  still_dead q k = by_name _ x q.node
      (λ i. (o.node, at_x q.node i, d.grows q (subst (λ (v : Node). over v q ≡ true) (here_before q.node k.0 i k.1) k.2)))
      (λ i. (k.0, elsewhere q.node i ∙ k.1, k.2))

  still_drawn : (k : Reference) → (v : Node) × (node_of w.nodes k.node ≡ Some v) × Drawn v k → (v : Node)
      × (node_of (set_node w.nodes x o.node) k.node ≡ Some v) × Drawn v k
  still_drawn k v = by_name _ x k.node
      (λ i. (o.node, at_x k.node i, d.drawn k (subst (λ (z : Node). Drawn z k) (here_before k.node v.0 i v.1) v.2)))
      (λ i. (v.0, elsewhere k.node i ∙ v.1, v.2))

  -- ---- one reference

  no_watch : (v : Option Watch) (u : Watch) → v ≡ None → v ≡ Some u → ⊥
  no_watch v u i j = none-some u (sym i ∙ j)

  answered_now : (k : Reference) (b : Bool) → is_answered k e (Reported a o.effects) ≡ b → answers k happened ≡ cond b 1 0 + answers k h
  answered_now k b i = ap (λ z. cond z 1 0 + answers k h) i

  two : (k : Reference) (c l : List Down) → downs_by k e (Reported a o.effects) ≡ c → downs k h ≡ l → downs k happened ≡ c ++ l
  two k c l i j = ap (λ z. z ++ downs k h) i ∙ ap (λ z. c ++ z) j

  not_revoked : (k : Reference) → is_demonitored k e (Reported a o.effects) ≡ false → Demonitored k happened → Demonitored k h
  not_revoked k i (inl r) = let c : true ≡ false = sym r ∙ i in cc
  not_revoked k i (inr r) = r

  undrawn : (k : Reference) → k.node ≡ x → (Drawn n k → ⊥) → answers k h ≡ 0
  undrawn k i f = go (answers k h) refl
    where
      go : (v : ℕ) → answers k h ≡ v → answers k h ≡ 0
      go zero j = j
      go (suc v) j =
          let r = g.drawn k (omega arith) in
          absurd (f (subst (λ (z : Node). Drawn z k) (same_Some r.0 n (sym r.1 ∙ subst (λ y. node_of w.nodes y ≡ Some n) (sym i) hx)) r.2))

  -- of a reference that begins nothing was known
  none_before : (k : Reference) → k.node ≡ x → (Drawn n k → ⊥) → fm.get n.watches k ≡ None
  none_before k i f = go (fm.get n.watches k) refl
    where
      go : (v : Option Watch) → fm.get n.watches k ≡ v → fm.get n.watches k ≡ None
      go None j = j
      go (Some u) j = absurd (omega (arith, monitored_answered k u.owner u.target h (g.watching x n k u hx j).1, undrawn k i f))

  watched_answers : (k : Reference) (u : Watch) → fm.get n.watches k ≡ Some u → 1 ≤ answers k h
  watched_answers k u b = monitored_answered k u.owner u.target h (g.watching x n k u hx b).1

  abbrev C : Reference → Type 0
  C k = Course w h n x e (Reported a o.effects) o k

  c_one : (k : Reference) → C k → answers k happened ≤ 1
  c_one k (Stays b c i r) = omega (arith, g.one k, answered_now k false i)
  c_one k (Leaves u b c l ux dn i r) = omega (arith, g.one k, answered_now k false i)
  c_one k (Downs u z b c t dn i r) = omega (arith, g.one k, answered_now k false i)
  c_one k (Begins p q ev i r kx nd dr l c) = omega (arith, undrawn k kx nd, answered_now k true i)
  c_one k (Revoked u b c dn i r) = omega (arith, g.one k, answered_now k false i)

  c_drawn : (k : Reference) → C k → 1 ≤ answers k happened → (v : Node) × (node_of (set_node w.nodes x o.node) k.node ≡ Some v) × Drawn v k
  c_drawn k (Stays b c i r) j = still_drawn k (g.drawn k (omega (arith, j, answered_now k false i)))
  c_drawn k (Leaves u b c l ux dn i r) j = still_drawn k (g.drawn k (omega (arith, j, answered_now k false i)))
  c_drawn k (Downs u z b c t dn i r) j = still_drawn k (g.drawn k (omega (arith, j, answered_now k false i)))
  c_drawn k (Begins p q ev i r kx nd dr l c) j = (o.node, at_x k.node (sym kx), dr)
  c_drawn k (Revoked u b c dn i r) j = still_drawn k (g.drawn k (omega (arith, j, answered_now k false i)))

  c_unanswered : (k : Reference) → C k → answers k happened ≡ 0 → (downs k happened ≡ []) × (Demonitored k happened → ⊥)
  c_unanswered k (Stays b c i r) j =
      let v = g.unanswered k (omega (arith, j, answered_now k false i)) in (two k [] [] c v.0, λ z. v.1 (not_revoked k r z))
  c_unanswered k (Leaves u b c l ux dn i r) j = absurd (omega (arith, j, answered_now k false i, watched_answers k u b))
  c_unanswered k (Downs u z b c t dn i r) j = absurd (omega (arith, j, answered_now k false i, watched_answers k u b))
  c_unanswered k (Begins p q ev i r kx nd dr l c) j = absurd (omega (arith, j, answered_now k true i))
  c_unanswered k (Revoked u b c dn i r) j = absurd (omega (arith, j, answered_now k false i, watched_answers k u b))

  -- the DOWNs after, by what the event does
  begun_downs : (k : Reference) → k.node ≡ x → (Drawn n k → ⊥) → downs k h ≡ []
  begun_downs k kx nd = (g.unanswered k (undrawn k kx nd)).0

  c_most : (k : Reference) → C k → length (downs k happened) ≤ 1
  c_most k (Stays b c i r) = subst (λ l. length l ≤ 1) (sym (two k [] (downs k h) c refl)) (g.most k)
  c_most k (Leaves u b c l ux dn i r) = subst (λ l. length l ≤ 1) (sym (two k [] (downs k h) dn refl)) (g.most k)
  c_most k (Downs u z b c t dn i r) =
      subst (λ l. length l ≤ 1) (sym (two k (down u z ∷ []) [] dn (g.watching x n k u hx b).2)) (omega arith)
  c_most k (Begins p q ev i r kx nd dr l (inl c)) = subst (λ l. length l ≤ 1) (sym (two k [] [] c.1 (begun_downs k kx nd))) (omega arith)
  c_most k (Begins p q ev i r kx nd dr l (inr c)) =
      subst (λ l. length l ≤ 1) (sym (two k (down (watch_of p q) c.1 ∷ []) [] c.3 (begun_downs k kx nd))) (omega arith)
  c_most k (Revoked u b c dn i r) = subst (λ l. length l ≤ 1) (sym (two k [] (downs k h) dn refl)) (g.most k)

  more_names : (k : Reference) → All (IsNamed k h) (downs k h) → All (IsNamed k happened) (downs k h)
  more_names k = All-weaker (IsNamed k h) (IsNamed k happened) (λ v m. inr m) (downs k h)

  one_name : (k : Reference) (u : Watch) (z : Data) → Monitored k u.owner u.target happened → All (IsNamed k happened) (down u z ∷ [])
  one_name k u z m = All-cons (IsNamed k happened) (down u z) [] m (All-nil (IsNamed k happened))

  c_names : (k : Reference) → C k → All (IsNamed k happened) (downs k happened)
  c_names k (Stays b c i r) = subst (λ l. All (IsNamed k happened) l) (sym (two k [] (downs k h) c refl)) (more_names k (g.names k))
  c_names k (Leaves u b c l ux dn i r) =
      subst (λ l. All (IsNamed k happened) l) (sym (two k [] (downs k h) dn refl)) (more_names k (g.names k))
  c_names k (Downs u z b c t dn i r) =
      let v = g.watching x n k u hx b in
      subst (λ l. All (IsNamed k happened) l) (sym (two k (down u z ∷ []) [] dn v.2)) (one_name k u z (inr v.1))
  c_names k (Begins p q ev i r kx nd dr l (inl c)) =
      subst (λ l. All (IsNamed k happened) l) (sym (two k [] [] c.1 (begun_downs k kx nd))) (All-nil (IsNamed k happened))
  c_names k (Begins p q ev i r kx nd dr l (inr c)) =
      subst (λ l. All (IsNamed k happened) l) (sym (two k (down (watch_of p q) c.1 ∷ []) [] c.3 (begun_downs k kx nd)))
      (one_name k (watch_of p q) c.1 (inl (ev, i)))
  c_names k (Revoked u b c dn i r) = subst (λ l. All (IsNamed k happened) l) (sym (two k [] (downs k h) dn refl)) (more_names k (g.names k))

  c_after : (k : Reference) → C k → Demonitored k happened → downs k happened ≡ []
  c_after k (Stays b c i r) j = two k [] [] c (g.none_after k (not_revoked k r j))
  c_after k (Leaves u b c l ux dn i r) j = two k [] [] dn (g.none_after k (not_revoked k r j))
  c_after k (Downs u z b c t dn i r) j = absurd ((g.watching x n k u hx b).3 (not_revoked k r j))
  c_after k (Begins p q ev i r kx nd dr l c) j = absurd ((g.unanswered k (undrawn k kx nd)).1 (not_revoked k r j))
  c_after k (Revoked u b c dn i r) j = two k [] [] dn (g.watching x n k u hx b).2

  abbrev Watched : Name → Node → Reference → Watch → Type 0
  Watched y v k u =
      (k.node ≡ y) × Monitored k u.owner u.target happened × (downs k happened ≡ []) × (Demonitored k happened → ⊥)
      × (living v u.owner ≡ true)

  c_here : (k : Reference) (u : Watch) → C k → fm.get o.node.watches k ≡ Some u → Watched x o.node k u
  c_here k u (Stays b c i r) j =
      let v = g.watching x n k u hx (sym b ∙ j) in (v.0, inr v.1, two k [] [] c v.2, λ z. v.3 (not_revoked k r z), d.owners k u j)
  c_here k u (Leaves u2 b c l ux dn i r) j = absurd (no_watch _ u c j)
  c_here k u (Downs u2 z b c t dn i r) j = absurd (no_watch _ u c j)
  c_here k u (Begins p q ev i r kx nd dr l (inl c)) j =
      let same : watch_of p q ≡ u = same_Some (watch_of p q) u (sym c.0 ∙ j) in (
        kx,
        subst (λ (v : Watch). Monitored k v.owner v.target happened) same (inl (ev, i)),
        two k [] [] c.1 (begun_downs k kx nd),
        λ z. (g.unanswered k (undrawn k kx nd)).1 (not_revoked k r z),
        d.owners k u j,
      )
  c_here k u (Begins p q ev i r kx nd dr l (inr c)) j = absurd (no_watch _ u (c.0 ∙ none_before k kx nd) j)
  c_here k u (Revoked u2 b c dn i r) j = absurd (no_watch _ u c j)

  c_there : (y : Name) (v : Node) (k : Reference) (u : Watch) → (x ≡ y → ⊥) → node_of w.nodes y ≡ Some v
      → fm.get v.watches k ≡ Some u → C k → Watched y v k u
  c_there y v k u far hy j (Stays b c i r) =
      let z = g.watching y v k u hy j in (z.0, inr z.1, two k [] [] c z.2, λ s. z.3 (not_revoked k r s), z.4)
  c_there y v k u far hy j (Leaves u2 b c l ux dn i r) = absurd (far (sym (g.watching x n k u2 hx b).0 ∙ (g.watching y v k u hy j).0))
  c_there y v k u far hy j (Downs u2 z b c t dn i r) = absurd (far (sym (g.watching x n k u2 hx b).0 ∙ (g.watching y v k u hy j).0))
  c_there y v k u far hy j (Begins p q ev i r kx nd dr l c) = absurd (far (sym kx ∙ (g.watching y v k u hy j).0))
  c_there y v k u far hy j (Revoked u2 b c dn i r) = absurd (far (sym (g.watching x n k u2 hx b).0 ∙ (g.watching y v k u hy j).0))

  abbrev Waits : Reference → Pid → Pid → Type 0
  Waits k p q =
      ((v : Node) × (node_of (set_node w.nodes x o.node) k.node ≡ Some v) × (fm.get v.watches k ≡ Some (pid_watch p q)))
      ⊎ ((v : Node) × (node_of (set_node w.nodes x o.node) p.node ≡ Some v) × (over v p ≡ true))

  old_call : (k : Reference) (p q : Pid) → is_answered k e (Reported a o.effects) ≡ false → Monitored k p (Target.Pid q) happened → Monitored k p (Target.Pid q) h
  old_call k p q i (inl m) = let c : true ≡ false = sym m.1 ∙ i in cc
  old_call k p q i (inr m) = m

  rest_empty : (k : Reference) → downs_by k e (Reported a o.effects) ≡ [] → downs k happened ≡ [] → downs k h ≡ []
  rest_empty k i j = sym (two k [] (downs k h) i refl) ∙ j

  kept_watch : (k : Reference) (p q : Pid) → (k.node ≡ x → fm.get o.node.watches k ≡ fm.get n.watches k)
      → ((v : Node) × (node_of w.nodes k.node ≡ Some v) × (fm.get v.watches k ≡ Some (pid_watch p q))) ⊎ Dead w p
      → Waits k p q
  kept_watch k p q f (inr c) = inr (still_dead p c)
  kept_watch k p q f (inl c) = by_name _ x k.node
      (λ i. inl (
        o.node,
        at_x k.node i,
        f (sym i) ∙ subst (λ (z : Node). fm.get z.watches k ≡ Some (pid_watch p q)) (here_before k.node c.0 i c.1) c.2,
      ))
      (λ i. inl (c.0, elsewhere k.node i ∙ c.1, c.2))

  c_waits : (k : Reference) (p q : Pid) → C k → Monitored k p (Target.Pid q) happened → downs k happened ≡ []
      → (Demonitored k happened → ⊥) → Waits k p q
  c_waits k p q (Stays b c i r) m dn nr =
      kept_watch k p q (λ z. b) (g.waits k p q (old_call k p q i m) (rest_empty k c dn) (λ z. nr (inr z)))
  c_waits k p q (Leaves u b c l ux c2 i r) m dn nr =
      let one = monitored_one k u.owner u.target p (Target.Pid q) h (g.one k) (g.watching x n k u hx b).1 (old_call k p q i m) in
      inr (subst (λ (z : Pid). (v : Node) × (node_of (set_node w.nodes x o.node) z.node ≡ Some v) × (over v z ≡ true)) one.0
      (o.node, at_x u.owner.node (sym ux), l))
  c_waits k p q (Downs u z b c t c2 i r) m dn nr =
      let y : down u z ∷ [] ≡ [] = sym (two k (down u z ∷ []) [] c2 (g.watching x n k u hx b).2) ∙ dn in cc
  c_waits k p q (Begins p2 q2 ev i r kx nd dr l (inl c)) m dn nr =
      let one = monitored_one k p2 q2 p (Target.Pid q) happened (c_one k (Begins p2 q2 ev i r kx nd dr l (inl c))) (inl (ev, i)) m in
      inl (o.node, at_x k.node (sym kx), c.0 ∙ (λ j. Some (watch_of (one.0 j) (one.1 j))))
  c_waits k p q (Begins p2 q2 ev i r kx nd dr l (inr c)) m dn nr =
      let y : down (watch_of p2 q2) c.1 ∷ [] ≡ [] = sym (two k (down (watch_of p2 q2) c.1 ∷ []) [] c.3 (begun_downs k kx nd)) ∙ dn in cc
  c_waits k p q (Revoked u b c c2 i r) m dn nr = absurd (nr (inl r))

  -- ---- what travels

  still_off : (k : Reference) → C k → Off w h k → (1 ≤ answers k happened)
      × ((v : Node) → node_of (set_node w.nodes x o.node) k.node ≡ Some v → fm.get v.watches k ≡ None)
  still_off k c f = (
    omega (arith, f.0, le),
    λ v hv. by_name _ x k.node
        (λ i. subst (λ (z : Node). fm.get z.watches k ≡ None) (here_after k.node v i hv) (go c i))
        (λ i. f.1 v (sym (elsewhere k.node i) ∙ hv)),
  )
    where
      le : answers k h ≤ answers k happened
      le = omega arith

      was : x ≡ k.node → fm.get n.watches k ≡ None
      was i = f.1 n (subst (λ z. node_of w.nodes z ≡ Some n) i hx)

      go : C k → x ≡ k.node → fm.get o.node.watches k ≡ None
      go (Stays b c i r) j = b ∙ was j
      go (Leaves u b c l ux dn i r) j = c
      go (Downs u z b c t dn i r) j = c
      go (Begins p q ev i r kx nd dr l c) j = absurd (omega (arith, f.0, undrawn k kx nd))
      go (Revoked u b c dn i r) j = c

  now_off : (k : Reference) (u : Watch) → fm.get n.watches k ≡ Some u → fm.get o.node.watches k ≡ None
      → (1 ≤ answers k happened)
      × ((v : Node) → node_of (set_node w.nodes x o.node) k.node ≡ Some v → fm.get v.watches k ≡ None)
  now_off k u b c =
      let v0 = g.watching x n k u hx b in
      (omega (arith, watched_answers k u b), λ v hv. subst (λ (z : Node). fm.get z.watches k ≡ None) (here_after k.node v (sym v0.0) hv) c)

  abbrev OldNow : Pid → Data → Type 0
  OldNow q z =
      HasEnded q z happened ⊎ ((z ≡ noproc) × ((v : Node) × (node_of (set_node w.nodes x o.node) q.node ≡ Some v) × (over v q ≡ true)))

  abbrev OffThen : Reference → Type 0
  OffThen k = (1 ≤ answers k happened) × ((v : Node) → node_of (set_node w.nodes x o.node) k.node ≡ Some v → fm.get v.watches k ≡ None)

  was_old : (q : Pid) (z : Data) → Old w h q z → OldNow q z
  was_old q z (inl i) = inl (inr i)
  was_old q z (inr i) = inr (i.0, still_dead q i.1)

  stays_founded : (i : Item) → IsFounded w h i → Founded OldNow (Called happened) OffThen i
  stays_founded = founded_by (Old w h) OldNow (Called h) (Called happened) (Off w h) OffThen was_old (λ p q k m. inr m)
      (λ k f. still_off k (d.course k) f)

  comes_founded : (i : Item) → Founded (EndedBefore n (Old w h) (λ p q z. Unit {0}) (Called h) (Off w h) o) (Called happened)
      (OffNow n (Old w h) (λ p q z. Unit {0}) (Called h) (Off w h) o) i → Founded OldNow (Called happened) OffThen i
  comes_founded = founded_by (EndedBefore n (Old w h) (λ p q z. Unit {0}) (Called h) (Off w h) o) OldNow (Called happened)
      (Called happened) (OffNow n (Old w h) (λ p q z. Unit {0}) (Called h) (Off w h) o) OffThen ends (λ p q k m. m) offs
    where
      ends : (q : Pid) (z : Data) → Old w h q z ⊎ Contains o.effects (Effect.Ended q z) → OldNow q z
      ends q z (inl i) = was_old q z i
      ends q z (inr i) = inl (inl i)

      offs : (k : Reference) → Off w h k ⊎ (((u : Watch) × (fm.get n.watches k ≡ Some u)) × (fm.get o.node.watches k ≡ None)) → OffThen k
      offs k (inl f) = still_off k (d.course k) f
      offs k (inr f) = now_off k f.0.0 f.0.1 f.1

  -- ---- and so in the world after

  asked_later : (k : Reference) (u : Registration) → IsAsked (Called h) u.target u.owner k → IsAsked (Called happened) u.target u.owner k
  asked_later k u = asked_by (Called h) (Called happened) (λ p t r m. inr m) u.target u.owner k

  pub sound_after : (m : FinMap place_cmp (List Item)) → ((t : TrunkId) (y : Name) → All (IsFounded w h) (list_to m t y))
      → Sound (after m) happened
  sound_after m ml = record {
    lists = carried_lists (IsFounded (after m) happened) m o
        (λ t y. All-weaker (IsFounded w h) (IsFounded (after m) happened) stays_founded (list_to m t y) (ml t y))
        (All-weaker _ (λ (v : Envelope). IsFounded (after m) happened v.item) (λ v. comes_founded v.item) (outgoing o) d.carries.sent);
    locals = λ y v hv. by_name _ x y
        (λ i. subst (λ (z : Node). All (IsFounded (after m) happened) z.local) (here_after y v i hv)
        (All-weaker _ (IsFounded (after m) happened) comes_founded o.node.local d.carries.local))
        (λ i. All-weaker (IsFounded w h) (IsFounded (after m) happened) stays_founded v.local (g.locals y v (sym (elsewhere y i) ∙ hv)));
    homes = λ y v hv. by_name _ x y
        (λ i. subst (λ (z : Node). All (TargetsIn (λ q. is_stranger z q ≡ false)) z.local) (here_after y v i hv) d.homes)
        (λ i. g.homes y v (sym (elsewhere y i) ∙ hv));
    enrolled = λ y v k u hv j. by_name _ x y
        (λ i. let r = d.enrolled k u (ap (λ (z : Node). fm.get z.registered k) (here_after y v i hv) ∙ j) in
        (ap (λ (z : Node). living z u.held) (sym (here_after y v i hv)) ∙ r.0, asked_later k u r.1, r.2))
        (λ i. let r = g.enrolled y v k u (sym (elsewhere y i) ∙ hv) j in (r.0, asked_later k u r.1, r.2));
    one = λ k. c_one k (d.course k);
    drawn = λ k. c_drawn k (d.course k);
    unanswered = λ k. c_unanswered k (d.course k);
    watching = λ y v k u hv j. by_name _ x y
        (λ i. subst (λ z. Watched z v k u) i (subst (λ z. Watched x z k u) (here_after y v i hv)
        (c_here k u (d.course k) (ap (λ (z : Node). fm.get z.watches k) (here_after y v i hv) ∙ j))))
        (λ i. c_there y v k u i (sym (elsewhere y i) ∙ hv) j (d.course k));
    most = λ k. c_most k (d.course k);
    names = λ k. c_names k (d.course k);
    none_after = λ k. c_after k (d.course k);
    waits = λ k p q. c_waits k p q (d.course k);
  }
