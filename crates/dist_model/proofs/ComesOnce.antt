-- At most one MONITOR_P of a reference is ever in flight, and none once one has come.
use Rattle.std.proofs.Common.{◌≡◌, ℕ, ◌+◌, ◌≤◌, Bool, true, false, cond, List, [], ◌∷◌, ◌++◌, refl, sym, length, arith}
use Rattle.std.proofs.Common.{ap, ◌∙◌, subst, Option, Some, None, inl, inr, Contains, ◌&&◌, append-nil, zero, suc}
use Rattle.std.proofs.lemmas.Bool.{and_parts}
use Rattle.std.proofs.lemmas.List.Elements.{Contains-append_right, Contains-append_left, Contains-push}
use Rattle.std.proofs.lemmas.Option.{same_Some, none-some}
use Rattle.std.specs.FinMap as fm
use Rattle.dist_model.proofs.Asks.{AllAsked, IsOne, UnaskedIn, asks, call_asks, monitoring, node_unasked, own_left}
use Rattle.dist_model.proofs.AskedIn.{IsMonitoring, Monitors, Otherwise, answered_by, is_monitoring}
use Rattle.dist_model.proofs.Calls.{by_name}
use Rattle.dist_model.proofs.Entries.{same_reference_refl, same_reference_true}
use Rattle.dist_model.proofs.Envelopes.{Envelope, sent_in}
use Rattle.dist_model.proofs.Keys.{same_name_is, same_name_true, same_trunk, same_trunk_refl, same_trunk_true}
use Rattle.dist_model.proofs.KeepBearings.{bearings_kept, if_accepted}
use Rattle.dist_model.proofs.Known.{sent_at}
use Rattle.dist_model.proofs.Lands.{is_call}
use Rattle.dist_model.proofs.Routes.{at_place, list_to_carried, list_to_insert, node_of_name, node_of_set_other, node_of_set_same}
use Rattle.dist_model.proofs.Safety.{new_is}
use Rattle.dist_model.proofs.Seen.{list_in, local_at}
use Rattle.dist_model.specs.Commands.{Accepts, Outcome, Refuses}
use Rattle.dist_model.specs.Downs.{answers, is_answered}
use Rattle.dist_model.specs.Items.{Item, Signalled}
use Rattle.dist_model.specs.Keeping.{Bearings}
use Rattle.dist_model.specs.Names.{Name, place_cmp, same_name}
use Rattle.dist_model.specs.Node.{Node}
use Rattle.dist_model.specs.NodeEvents as event
use Rattle.dist_model.specs.NodeEvents.{at_node}
use Rattle.dist_model.specs.Runs.{opening}
use Rattle.dist_model.specs.Seen.{local_list}
use Rattle.dist_model.specs.Telling.{monitor_signal}
use Rattle.dist_model.specs.Traces.{HasCome, IsNameAt, Moment, Taken, Trace, history_of, moment_of}
use Rattle.dist_model.specs.Work.{Work}
use Rattle.dist_model.specs.World.{Arrive, Call, Dial, Event, Local, Lose, Refused, Reported, Start, Stop, Sweep, World}
use Rattle.dist_model.specs.World.{came_of, first_of, left, list_to, met, node_name, node_of, rest_of, step_at}
use Rattle.dist_model.specs.declared.report.Answer.{Answer}
use Rattle.dist_model.specs.declared.report.Effect.{Effect}
use Rattle.dist_model.specs.declared.report.Kind.{Kind}
use Rattle.erl_control.specs.declared.signal.Signal.{Signal}
use Rattle.erl_handshake.specs.declared.setup.Setup.{Setup}
use Rattle.erl_names.specs.declared.trunk.TrunkId.{TrunkId}
use Rattle.erl_term.specs.declared.refusal.Refusal.{Refusal}
use Rattle.erl_term.specs.declared.term.Pid.{Pid}
use Rattle.erl_term.specs.declared.term.Reference.{Reference}
use Rattle.monitor_core.specs.declared.monitor.Target.{Target}

-- ---- how many of a reference are in a list

abbrev pub cnt : Reference → List Item → ℕ
cnt r [] = 0
cnt r (i ∷ l) = cond (is_call r i) 1 0 + cnt r l

cnt_append : (r : Reference) (xs ys : List Item) → cnt r (xs ++ ys) ≡ cnt r xs + cnt r ys
cnt_append r [] ys = omega arith
cnt_append r (x ∷ xs) ys = let h = cnt_append r xs ys in
    let c : cnt r (x ∷ (xs ++ ys)) ≡ cond (is_call r x) 1 0 + (cnt r xs + cnt r ys) = ap (λ n. cond (is_call r x) 1 0 + n) h in
    omega (arith, c)

asked_is_call : (r : Reference) (i : Item) → is_call r i ≡ true → asks i ≡ true
asked_is_call r (Signalled (Signal.Monitor p q k) pay) h = refl
asked_is_call r (Signalled (Signal.MonitorName p name k) pay) h = refl
asked_is_call r _ h = cc

none_called : (r : Reference) (i : Item) → asks i ≡ false → is_call r i ≡ false
none_called r i h = go (is_call r i) refl
  where
    go : (b : Bool) → is_call r i ≡ b → is_call r i ≡ false
    go true e = let z : true ≡ false = sym (asked_is_call r i e) ∙ h in cc
    go false e = e

-- none of them calls
cnt_none : (r : Reference) (l : List Item) → ((i : Item) → Contains l i → is_call r i ≡ false) → cnt r l ≡ 0
cnt_none r [] h = refl
cnt_none r (i ∷ l) h =
    let a = h i (Contains-append_left (i ∷ []) l i (Contains-push [] i)) in
    let b = cnt_none r l (λ j c. h j (Contains-append_right (i ∷ []) l j c)) in
    let c : cnt r (i ∷ l) ≡ cond false 1 0 + cnt r l = ap (λ z. cond z 1 0 + cnt r l) a in
    omega (arith, b, c)

cnt_one : (r : Reference) (i : Item) → cnt r (i ∷ []) ≤ 1
cnt_one r i = go (is_call r i)
  where
    go : (b : Bool) → cond b 1 0 + 0 ≤ 1
    go true = omega arith
    go false = omega arith

-- the monitor that is called for
called : (r : Reference) (y : Name) (i : Item) → is_call r i ≡ true
    → (p : Pid) × (g : Target) × (pay : Bool) × (i ≡ Signalled (monitor_signal p g r) pay) × IsNameAt y g
called r y (Signalled (Signal.Monitor p q k) pay) h =
    (p, Target.Pid q, pay, ap (λ z. Signalled (Signal.Monitor p q z) pay) (sym (same_reference_true r k h)), tt)
called r y (Signalled (Signal.MonitorName p name k) pay) h =
    (p, Target.Name name y, pay, ap (λ z. Signalled (Signal.MonitorName p name z) pay) (sym (same_reference_true r k h)), refl)
called r y _ h = cc

call_of : (r : Reference) (p : Pid) (g : Target) (pay : Bool) → is_call r (Signalled (monitor_signal p g r) pay) ≡ true
call_of r p (Target.Pid q) pay = same_reference_refl r
call_of r p (Target.Name name node) pay = same_reference_refl r

-- the item that comes is the first
cnt_first : (r : Reference) (l : List Item) (i : Item) → first_of l ≡ Some i → is_call r i ≡ true → cnt r l ≡ 1 + cnt r (rest_of l)
cnt_first r [] i f c = absurd (none-some i f)
cnt_first r (j ∷ rest) i f c =
    let e : is_call r j ≡ true = ap (is_call r) (same_Some j i f) ∙ c in
    let q : cnt r (j ∷ rest) ≡ cond true 1 0 + cnt r rest = ap (λ z. cond z 1 0 + cnt r rest) e in omega (arith, q)

cnt_rest : (r : Reference) (l : List Item) → cnt r (rest_of l) ≤ cnt r l
cnt_rest r [] = omega arith
cnt_rest r (i ∷ l) = go (is_call r i)
  where
    go : (b : Bool) → cnt r l ≤ cond b 1 0 + cnt r l
    go true = omega arith
    go false = omega arith

-- ---- the places where signals are in flight

pub data Place : Type 0 where
  On : TrunkId → Name → Place
  Own : Name → Place

abbrev pub list_at : World → Place → List Item
list_at w (On t y) = list_to w.lists t y
list_at w (Own y) = local_list w y

abbrev pub many : Reference → World → Place → ℕ
many r w p = cnt r (list_at w p)

pub record Once (r : Reference) (tr : Trace) (w : World) : Type 0 where
  pub few : (p : Place) → many r w p ≤ 1
  pub one : (p q : Place) → 1 ≤ many r w p → 1 ≤ many r w q → p ≡ q
  pub asked : (p : Place) → 1 ≤ many r w p → 1 ≤ answers r (history_of tr)
  pub ahead : (p : Place) → 1 ≤ many r w p → HasCome r tr → ⊥
  pub came : HasCome r tr → 1 ≤ answers r (history_of tr)

-- ---- an event by which there are no more

more_answers : (r : Reference) (m : Moment) (tr : Trace) → 1 ≤ answers r (history_of tr) → 1 ≤ answers r (history_of (m ∷ tr))
more_answers r m tr h = go (is_answered r m.happening.event m.happening.report)
  where
    go : (b : Bool) → 1 ≤ cond b 1 0 + answers r (history_of tr)
    go true = omega arith
    go false = omega (arith, h)

module _ (r : Reference) (tr : Trace) (w new : World) (m : Moment) (k : Once r tr w) (less : (p : Place) → many r new p ≤ many r w p)
    (taken : (p : Pid) (g : Target) → Taken r p g m → (q : Place) × (1 ≤ many r w q) × (many r new q ≡ 0)) where
  gone : (p : Pid) (g : Target) → Taken r p g m → (q : Place) → 1 ≤ many r new q → ⊥
  gone p g t q h =
      let v = taken p g t in
      let same : q ≡ v.0 = k.one q v.0 (omega (arith, h, less q)) v.1 in
      let c : many r new q ≡ 0 = ap (many r new) same ∙ v.2 in omega (arith, h, c)

  once_less : Once r (m ∷ tr) new
  once_less = record {
    few = λ p. omega (arith, less p, k.few p);
    one = λ p q h j. k.one p q (omega (arith, h, less p)) (omega (arith, j, less q));
    asked = λ p h. more_answers r m tr (k.asked p (omega (arith, h, less p)));
    ahead = λ p h c. ahead p h c;
    came = λ c. came c;
  }
    where
      ahead : (p : Place) → 1 ≤ many r new p → HasCome r (m ∷ tr) → ⊥
      ahead p h (inl t) = gone t.0 t.1 t.2 p h
      ahead p h (inr c) = k.ahead p (omega (arith, h, less p)) c

      came : HasCome r (m ∷ tr) → 1 ≤ answers r (history_of (m ∷ tr))
      came (inl t) = let v = taken t.0 t.1 t.2 in more_answers r m tr (k.asked v.0 v.1)
      came (inr c) = more_answers r m tr (k.came c)

-- ---- one event at a node

at_place_one : (r : Reference) (t : TrunkId) (y : Name) (es : List Envelope) → length es ≤ 1 → cnt r (at_place t y es) ≤ 1
at_place_one r t y [] h = omega arith
at_place_one r t y (v ∷ []) h = go (same_trunk t v.trunk && same_name y v.target)
  where
    go : (b : Bool) → cnt r (cond b (v.item ∷ []) [] ++ []) ≤ 1
    go true = cnt_one r v.item
    go false = omega arith
at_place_one r t y (v ∷ u ∷ es) h = absurd (omega (arith, h))

at_place_same : (r : Reference) (t u : TrunkId) (y z : Name) (es : List Envelope) → length es ≤ 1 → 1 ≤ cnt r (at_place t y es)
    → 1 ≤ cnt r (at_place u z es) → ◌≡◌ {A = Place} (On t y) (On u z)
at_place_same r t u y z [] h a b = absurd (omega (arith, a))
at_place_same r t u y z (v ∷ []) h a b =
    let c = found (same_trunk t v.trunk && same_name y v.target) refl a in
    let d = found (same_trunk u v.trunk && same_name z v.target) refl b in
    let e = and_parts (same_trunk t v.trunk) (same_name y v.target) c in
    let f = and_parts (same_trunk u v.trunk) (same_name z v.target) d in
    let g : t ≡ u = same_trunk_true t v.trunk e.0 ∙ sym (same_trunk_true u v.trunk f.0) in
    let k : y ≡ z = same_name_true y v.target e.1 ∙ sym (same_name_true z v.target f.1) in (λ i. On (g i) (k i))
  where
    found : (b : Bool) {c : Bool} → c ≡ b → 1 ≤ cnt r (cond b (v.item ∷ []) [] ++ []) → c ≡ true
    found true e h = e
    found false e h = absurd (omega (arith, h))
at_place_same r t u y z (v ∷ w ∷ es) h a b = absurd (omega (arith, h))

-- the rest of a list
left_less : (r : Reference) (w : World) (e : Event) (t : TrunkId) (y : Name) → cnt r (list_to (left w e) t y) ≤ cnt r (list_to w.lists t y)
left_less r w (Arrive u x k) t y = subst (λ l. cnt r l ≤ cnt r (list_to w.lists t y))
    (sym (list_to_insert w.lists u x (rest_of (list_to w.lists u x)) t y)) (go (same_trunk t u && same_name y x) refl)
  where
    go : (b : Bool) → (same_trunk t u && same_name y x) ≡ b
        → cnt r (cond b (rest_of (list_to w.lists u x)) (list_to w.lists t y)) ≤ cnt r (list_to w.lists t y)
    go true e =
        let v = and_parts (same_trunk t u) (same_name y x) e in
        subst (λ l. cnt r (rest_of (list_to w.lists u x)) ≤ cnt r l)
        (λ j. list_to w.lists (sym (same_trunk_true t u v.0) j) (sym (same_name_true y x v.1) j))
        (cnt_rest r (list_to w.lists u x))
    go false e = omega arith
left_less r w (Call x c) t y = omega arith
left_less r w (Local x) t y = omega arith
left_less r w (Lose u x) t y = omega arith
left_less r w (Sweep x) t y = omega arith
left_less r w (Dial x z k) t y = omega arith
left_less r w (Stop x) t y = omega arith
left_less r w (Start x) t y = omega arith

left_first : (r : Reference) (w : World) (t : TrunkId) (y : Name) (k : ℕ)
    → cnt r (list_to (left w (Arrive t y k)) t y) ≡ cnt r (rest_of (list_to w.lists t y))
left_first r w t y k = ap (cnt r) (list_to_insert w.lists t y (rest_of (list_to w.lists t y)) t y)
    ∙ ap (λ b. cnt r (cond b (rest_of (list_to w.lists t y)) (list_to w.lists t y))) (both_same t y)
  where
    both_same : (t : TrunkId) (y : Name) → (same_trunk t t && same_name y y) ≡ true
    both_same t y = ap (λ b. b && same_name y y) (same_trunk_refl t) ∙ same_name_is y y refl

own_less : (r : Reference) (n : Node) (e : event.NodeEvent) → cnt r (own_left n e) ≤ cnt r n.local
own_less r n event.Local = cnt_rest r n.local
own_less r n event.Start = omega arith
own_less r n (event.Call d) = omega arith
own_less r n (event.Arrive t f w) = omega arith
own_less r n (event.Lose t) = omega arith
own_less r n event.Sweep = omega arith
own_less r n (event.Dial y w) = omega arith
own_less r n event.Stop = omega arith

module _ (r : Reference) (tr : Trace) (w : World) (k : Once r tr w) (e : Event) (n : Node) (hx : node_of w.nodes (node_name e) ≡ Some n)
    (a : Answer) (o : Work) (j : at_node w.names n (met w e) ≡ Accepts a o) where
  abbrev m : Moment
  m = moment_of w e (Reported a o.effects)

  abbrev new : World
  new = (came_of w (node_name e) (left w e) (Accepts a o)).world

  nm : o.node.mint.name ≡ node_name e
  nm = (if_accepted (Bearings n (met w e)) (at_node w.names n (met w e)) a o j (bearings_kept w.names n (met w e))).name
      ∙ node_of_name w.nodes (node_name e) n hx

  own_here : local_list new (node_name e) ≡ o.node.local
  own_here = ap local_at (node_of_set_same w.nodes (node_name e) n o.node hx nm)

  own_there : (y : Name) → (node_name e ≡ y → ⊥) → local_list new y ≡ local_list w y
  own_there y f = ap local_at (node_of_set_other w.nodes (node_name e) y o.node nm f)

  was_here : local_list w (node_name e) ≡ n.local
  was_here = ap local_at hx

  on_now : (t : TrunkId) (y : Name) → many r new (On t y) ≡ cnt r (list_to (left w e) t y) + cnt r (at_place t y (sent_in o.effects))
  on_now t y = ap (cnt r) (list_to_carried (left w e) o.effects t y) ∙ cnt_append r (list_to (left w e) t y) (at_place t y (sent_in o.effects))

  -- no MONITOR_P of it is sent
  module _ (sent : (t : TrunkId) (y : Name) → cnt r (at_place t y (sent_in o.effects)) ≡ 0)
      (more : List Item) (own : o.node.local ≡ own_left n (met w e) ++ more) (none : cnt r more ≡ 0) where
    own_now : cnt r o.node.local ≡ cnt r (own_left n (met w e))
    own_now = let c : cnt r o.node.local ≡ cnt r (own_left n (met w e)) + cnt r more = ap (cnt r) own ∙ cnt_append r (own_left n (met w e)) more in
        omega (arith, c, none)

    less : (p : Place) → many r new p ≤ many r w p
    less (On t y) = omega (arith, on_now t y, sent t y, left_less r w e t y)
    less (Own y) = by_name _ (node_name e) y
        (λ i. subst (λ z. cnt r (local_list new z) ≤ cnt r (local_list w z)) i
        (let a : cnt r (local_list new (node_name e)) ≡ cnt r o.node.local = ap (cnt r) own_here in
        let b : cnt r (local_list w (node_name e)) ≡ cnt r n.local = ap (cnt r) was_here in
        omega (arith, a, b, own_now, own_less r n (met w e))))
        (λ f. let a : cnt r (local_list new y) ≡ cnt r (local_list w y) = ap (cnt r) (own_there y f) in omega (arith, a))

-- the place of one that comes
comes_now : (r : Reference) (tr : Trace) (w : World) (k : Once r tr w) (e : Event) (n : Node) (hx : node_of w.nodes (node_name e) ≡ Some n)
    (a : Answer) (o : Work) (j : at_node w.names n (met w e) ≡ Accepts a o) (sent : (t : TrunkId) (y : Name) → cnt r (at_place t y (sent_in o.effects)) ≡ 0)
    (more : List Item) (own : o.node.local ≡ own_left n (met w e) ++ more) (none : cnt r more ≡ 0) (p : Pid) (g : Target)
    → Taken r p g (moment_of w e (Reported a o.effects))
    → (q : Place) × (1 ≤ many r w q) × (many r ((came_of w (node_name e) (left w e) (Accepts a o)).world) q ≡ 0)
comes_now r tr w k (Arrive t y c) n hx a o j sent more own none p g v =
    let f = cnt_first r (list_to w.lists t y) (Signalled (monitor_signal p g r) v.payload) v.first (call_of r p g v.payload) in
    let now = on_now r tr w k (Arrive t y c) n hx a o j t y in
    (On t y, omega (arith, f), omega (arith, f, now, sent t y, left_first r w t y c, k.few (On t y)))
comes_now r tr w k (Local y) n hx a o j sent more own none p g v =
    let f = cnt_first r (local_list w y) (Signalled (monitor_signal p g r) v.payload) v.first (call_of r p g v.payload) in
    let was : cnt r (rest_of (local_list w y)) ≡ cnt r (rest_of n.local) = ap (λ l. cnt r (rest_of l)) (was_here r tr w k (Local y) n hx a o j) in
    let here : cnt r (local_list ((came_of w y (left w (Local y)) (Accepts a o)).world) y) ≡ cnt r o.node.local =
    ap (cnt r) (own_here r tr w k (Local y) n hx a o j) in
    let now = own_now r tr w k (Local y) n hx a o j sent more own none in
    (Own y, omega (arith, f), omega (arith, f, was, here, now, k.few (Own y)))
comes_now r tr w k e n hx a o j sent more own none p g v = absurd (none-some (Signalled (monitor_signal p g r) v.payload) v.first)

-- ---- a call that is answered with it

module _ (r : Reference) (tr : Trace) (w : World) (k : Once r tr w) (x : Name) (p : Pid) (g : Target) (n : Node)
    (hx : node_of w.nodes x ≡ Some n) (a : Answer) (o : Work) (j : at_node w.names n (event.Call (monitoring p g)) ≡ Accepts a o)
    (new_one : answers r (history_of tr) ≡ 0) (now : is_answered r (Call x (monitoring p g)) (Reported a o.effects) ≡ true) where
  abbrev e : Event
  e = Call x (monitoring p g)

  abbrev after : World
  after = (came_of w x w.lists (Accepts a o)).world

  none_before : (q : Place) → many r w q ≡ 0
  none_before q = go (many r w q) refl
    where
      go : (c : ℕ) → many r w q ≡ c → many r w q ≡ 0
      go zero h = h
      go (suc c) h = absurd (omega (arith, h, new_one, k.asked q (omega (arith, h))))

  on_one : (t : TrunkId) (y : Name) → many r after (On t y) ≡ cnt r (at_place t y (sent_in o.effects))
  on_one t y = let b : cnt r (list_to w.lists t y) ≡ 0 = none_before (On t y) in
      omega (arith, on_now r tr w k e n hx a o j t y, b)

  own_other : (y : Name) → (x ≡ y → ⊥) → many r after (Own y) ≡ 0
  own_other y f = ap (cnt r) (own_there r tr w k e n hx a o j y f) ∙ none_before (Own y)

  own_one : many r after (Own x) ≡ cnt r o.node.local
  own_one = ap (cnt r) (own_here r tr w k e n hx a o j)

  own_was : cnt r n.local ≡ 0
  own_was = ap (cnt r) (sym (was_here r tr w k e n hx a o j)) ∙ none_before (Own x)

  -- one item at most is sent or kept
  abbrev Few : Type 0
  Few = ((q : Place) → many r after q ≤ 1) × ((q z : Place) → 1 ≤ many r after q → 1 ≤ many r after z → q ≡ z)

  few_by : IsOne n a o → Few
  few_by (inl h) = (few, one)
    where
      here : many r after (Own x) ≡ 0
      here = own_one ∙ ap (cnt r) h.0 ∙ own_was

      own_none : (y : Name) → many r after (Own y) ≡ 0
      own_none y = by_name _ x y (λ i. subst (λ z. many r after (Own z) ≡ 0) i here) (own_other y)

      few : (q : Place) → many r after q ≤ 1
      few (On t y) = omega (arith, on_one t y, at_place_one r t y (sent_in o.effects) h.1)
      few (Own y) = omega (arith, own_none y)

      one : (q z : Place) → 1 ≤ many r after q → 1 ≤ many r after z → q ≡ z
      one (On t y) (On u z) c d = at_place_same r t u y z (sent_in o.effects) h.1 (omega (arith, on_one t y, c)) (omega (arith, on_one u z, d))
      one (Own y) q c d = absurd (omega (arith, own_none y, c))
      one (On t y) (Own z) c d = absurd (omega (arith, own_none z, d))
  few_by (inr h) = (few, one)
    where
      here : many r after (Own x) ≤ 1
      here = let c : cnt r o.node.local ≡ cnt r n.local + cnt r (h.0 ∷ []) = ap (cnt r) h.1 ∙ cnt_append r n.local (h.0 ∷ []) in
          omega (arith, own_one, c, own_was, cnt_one r h.0)

      on_none : (t : TrunkId) (y : Name) → many r after (On t y) ≡ 0
      on_none t y = on_one t y ∙ ap (λ es. cnt r (at_place t y es)) h.2

      few : (q : Place) → many r after q ≤ 1
      few (On t y) = omega (arith, on_none t y)
      few (Own y) = by_name _ x y (λ i. subst (λ z. many r after (Own z) ≤ 1) i here) (λ f. omega (arith, own_other y f))

      at_x : (y : Name) → 1 ≤ many r after (Own y) → x ≡ y
      at_x y c = by_name _ x y (λ i. i) (λ f. absurd (omega (arith, own_other y f, c)))

      one : (q z : Place) → 1 ≤ many r after q → 1 ≤ many r after z → q ≡ z
      one (Own y) (Own z) c d = let b = sym (at_x y c) ∙ at_x z d in ap Own b
      one (On t y) q c d = absurd (omega (arith, on_none t y, c))
      one (Own y) (On u z) c d = absurd (omega (arith, on_none u z, d))

  answered : 1 ≤ answers r (history_of (moment_of w e (Reported a o.effects) ∷ tr))
  answered = let c : answers r (history_of (moment_of w e (Reported a o.effects) ∷ tr)) ≡ cond true 1 0 + answers r (history_of tr) =
      ap (λ b. cond b 1 0 + answers r (history_of tr)) now in omega (arith, c)

  once_new : IsOne n a o → Once r (moment_of w e (Reported a o.effects) ∷ tr) after
  once_new h = let f = few_by h in record {
    few = f.0;
    one = f.1;
    asked = λ q c. answered;
    ahead = λ q c d. ahead d;
    came = λ d. answered;
  }
    where
      ahead : HasCome r (moment_of w e (Reported a o.effects) ∷ tr) → ⊥
      ahead (inl t) = none-some (Signalled (monitor_signal t.0 t.1 r) t.2.payload) t.2.first
      ahead (inr c) = omega (arith, k.came c, new_one)

-- ---- any event

module _ (r : Reference) (tr : Trace) (w : World) (k : Once r tr w) (n : Node) (a : Answer) (o : Work) where
  quiet : (e : Event) (hx : node_of w.nodes (node_name e) ≡ Some n) (j : at_node w.names n (met w e) ≡ Accepts a o)
      → ((t : TrunkId) (y : Name) → cnt r (at_place t y (sent_in o.effects)) ≡ 0)
      → (more : List Item) → o.node.local ≡ own_left n (met w e) ++ more → cnt r more ≡ 0
      → Once r (moment_of w e (Reported a o.effects) ∷ tr) ((came_of w (node_name e) (left w e) (Accepts a o)).world)
  quiet e hx j sent more own none = once_less r tr w ((came_of w (node_name e) (left w e) (Accepts a o)).world) (moment_of w e (Reported a o.effects)) k
      (less r tr w k e n hx a o j sent more own none) (comes_now r tr w k e n hx a o j sent more own none)

  called_so : (x : Name) (p : Pid) (g : Target) (hx : node_of w.nodes x ≡ Some n) (j : at_node w.names n (event.Call (monitoring p g)) ≡ Accepts a o)
      → answers r (history_of (moment_of w (Call x (monitoring p g)) (Reported a o.effects) ∷ tr)) ≤ 1
      → Once r (moment_of w (Call x (monitoring p g)) (Reported a o.effects) ∷ tr) ((came_of w x w.lists (Accepts a o)).world)
  called_so x p g hx j most = go (is_answered r (Call x (monitoring p g)) (Reported a o.effects)) refl
    where
      asked : AllAsked n p g a o
      asked = call_asks n p g w.names a o j

      -- of another reference
      other : (b : Bool) → a ≡ Answer.Reference r → is_answered r (Call x (monitoring p g)) (Reported a o.effects) ≡ b → b ≡ true
      other b h e = sym e ∙ ap (λ z. is_answered r (Call x (monitoring p g)) (Reported z o.effects)) h ∙ answered_by r x p g o.effects

      none_sent : is_answered r (Call x (monitoring p g)) (Reported a o.effects) ≡ false → (t : TrunkId) (y : Name)
          → cnt r (at_place t y (sent_in o.effects)) ≡ 0
      none_sent h t y = cnt_none r (at_place t y (sent_in o.effects)) (λ i c. no i (sent_at t y o.effects i c) (is_call r i) refl)
        where
          no : (i : Item) → Contains o.effects (Effect.Sent (Some t) y i) → (b : Bool) → is_call r i ≡ b → is_call r i ≡ false
          no i c true f =
              let v = called r y i f in
              let q = asked.0 t y v.0 v.1 r v.2 v.4 (subst (λ z. Contains o.effects (Effect.Sent (Some t) y z)) v.3 c) in
              let z : false ≡ true = other false q.answer h in cc
          no i c false f = f

      kept : is_answered r (Call x (monitoring p g)) (Reported a o.effects) ≡ false → IsOne n a o
          → Once r (moment_of w (Call x (monitoring p g)) (Reported a o.effects) ∷ tr) ((came_of w x w.lists (Accepts a o)).world)
      kept h (inl d) = quiet' h [] (d.0 ∙ sym (append-nil n.local)) refl
        where
          quiet' : is_answered r (Call x (monitoring p g)) (Reported a o.effects) ≡ false → (more : List Item) → o.node.local ≡ n.local ++ more
              → cnt r more ≡ 0 → Once r (moment_of w (Call x (monitoring p g)) (Reported a o.effects) ∷ tr) ((came_of w x w.lists (Accepts a o)).world)
          quiet' h more own none = quiet (Call x (monitoring p g)) hx j (none_sent h) more own none
      kept h (inr d) = quiet (Call x (monitoring p g)) hx j (none_sent h) (d.0 ∷ []) d.1 (no (is_call r d.0) refl)
        where
          no : (b : Bool) → is_call r d.0 ≡ b → cnt r (d.0 ∷ []) ≡ 0
          no true f = let z : false ≡ true = other false (d.3 r f) h in cc
          no false f = ap (λ b. cond b 1 0 + 0) f

      go : (b : Bool) → is_answered r (Call x (monitoring p g)) (Reported a o.effects) ≡ b
          → Once r (moment_of w (Call x (monitoring p g)) (Reported a o.effects) ∷ tr) ((came_of w x w.lists (Accepts a o)).world)
      go true h =
          let c : answers r (history_of (moment_of w (Call x (monitoring p g)) (Reported a o.effects) ∷ tr)) ≡ cond true 1 0 + answers r (history_of tr) =
          ap (λ b. cond b 1 0 + answers r (history_of tr)) h in
          once_new r tr w k x p g n hx a o j (omega (arith, c, most)) h asked.2
      go false h = kept h asked.2

  pub once_accepted : (e : Event) (hx : node_of w.nodes (node_name e) ≡ Some n) (j : at_node w.names n (met w e) ≡ Accepts a o)
      → answers r (history_of (moment_of w e (Reported a o.effects) ∷ tr)) ≤ 1
      → Once r (moment_of w e (Reported a o.effects) ∷ tr) ((came_of w (node_name e) (left w e) (Accepts a o)).world)
  once_accepted e hx j most = go (is_monitoring e)
    where
      by : (x : Name) (p : Pid) (g : Target) (e : Event) → e ≡ Call x (monitoring p g) → node_of w.nodes (node_name e) ≡ Some n
          → at_node w.names n (met w e) ≡ Accepts a o → answers r (history_of (moment_of w e (Reported a o.effects) ∷ tr)) ≤ 1
          → Once r (moment_of w e (Reported a o.effects) ∷ tr) ((came_of w (node_name e) (left w e) (Accepts a o)).world)
      by x p g e i = subst (λ z. node_of w.nodes (node_name z) ≡ Some n → at_node w.names n (met w z) ≡ Accepts a o
          → answers r (history_of (moment_of w z (Reported a o.effects) ∷ tr)) ≤ 1
          → Once r (moment_of w z (Reported a o.effects) ∷ tr) ((came_of w (node_name z) (left w z) (Accepts a o)).world)) (sym i)
          (λ hx j most. called_so x p g hx j most)

      go : IsMonitoring e → Once r (moment_of w e (Reported a o.effects) ∷ tr) ((came_of w (node_name e) (left w e) (Accepts a o)).world)
      go (Monitors x p g i) = by x p g e i hx j most
      go (Otherwise f) =
          let u = if_accepted (UnaskedIn (own_left n (met w e))) (at_node w.names n (met w e)) a o j (node_unasked w.names n (met w e) (λ p g i. f w p g i)) in
          quiet e hx j
          (λ t y. cnt_none r (at_place t y (sent_in o.effects)) (λ i c. none_called r i (u.0 (Some t) y i (sent_at t y o.effects i c))))
          u.1 u.2 (cnt_none r u.1 (λ i c. none_called r i (u.3 i c)))

-- ---- a world

abbrev pub AllOnce : Trace → World → Type 0
AllOnce tr w = (r : Reference) → Once r tr w

pub once_refused : (tr : Trace) (w : World) (e : Event) (j : Refusal) → AllOnce tr w → AllOnce (moment_of w e (Refused j) ∷ tr) w
once_refused tr w e j k r = record {
  few = (k r).few;
  one = (k r).one;
  asked = λ p h. more_answers r (moment_of w e (Refused j)) tr ((k r).asked p h);
  ahead = λ p h c. ahead p h c;
  came = λ c. came c;
}
  where
    ahead : (p : Place) → 1 ≤ many r w p → HasCome r (moment_of w e (Refused j) ∷ tr) → ⊥
    ahead p h (inl t) = none-some (Answer.Took Kind.Monitor) t.2.took
    ahead p h (inr c) = (k r).ahead p h c

    came : HasCome r (moment_of w e (Refused j) ∷ tr) → 1 ≤ answers r (history_of (moment_of w e (Refused j) ∷ tr))
    came (inl t) = absurd (none-some (Answer.Took Kind.Monitor) t.2.took)
    came (inr c) = more_answers r (moment_of w e (Refused j)) tr ((k r).came c)

pub once_step : (tr : Trace) (w : World) (v : Option Node) (e : Event) → node_of w.nodes (node_name e) ≡ v → AllOnce tr w
    → ((r : Reference) → answers r (history_of (moment_of w e ((step_at w v e).report) ∷ tr)) ≤ 1)
    → AllOnce (moment_of w e ((step_at w v e).report) ∷ tr) ((step_at w v e).world)
once_step tr w None e h k most = once_refused tr w e Refusal.NothingThere k
once_step tr w (Some n) e h k most = go (at_node w.names n (met w e)) refl most
  where
    go : (v : Outcome) → at_node w.names n (met w e) ≡ v
        → ((r : Reference) → answers r (history_of (moment_of w e ((came_of w (node_name e) (left w e) v).report) ∷ tr)) ≤ 1)
        → AllOnce (moment_of w e ((came_of w (node_name e) (left w e) v).report) ∷ tr) ((came_of w (node_name e) (left w e) v).world)
    go (Refuses why) j most r = once_refused tr w e why k r
    go (Accepts a o) j most r = once_accepted r tr w (k r) n a o e h j (most r)

pub once_opening : (cs : List (Name × Setup)) → AllOnce [] (opening cs)
once_opening cs r = record {
  few = λ p. omega (arith, none p);
  one = λ p q h. absurd (omega (arith, none p, h));
  asked = λ p h. absurd (omega (arith, none p, h));
  ahead = λ p h c. c;
  came = λ c. absurd c;
}
  where
    own : (v : Option Node) (y : Name) → node_of (opening cs).nodes y ≡ v → cnt r (local_at v) ≡ 0
    own None y h = refl
    own (Some n) y h = let k = new_is cs cs y n h in ap (λ (z : Node). cnt r z.local) k.2

    none : (p : Place) → many r (opening cs) p ≡ 0
    none (On t y) = ap (λ v. cnt r (list_in v)) (fm.get-empty place_cmp (t, y))
    none (Own y) = own (node_of (opening cs).nodes y) y refl

-- a MONITOR_P that comes is the first of its reference
pub comes_first_time : (tr : Trace) (w : World) (e : Event) (a : Answer) (fx : List (Effect Item)) → AllOnce tr w → (p : Pid) (g : Target) (r : Reference)
    → Taken r p g (moment_of w e (Reported a fx)) → HasCome r tr → ⊥
comes_first_time tr w (Arrive t y c) a fx k p g r v h =
    let f = cnt_first r (list_to w.lists t y) (Signalled (monitor_signal p g r) v.payload) v.first (call_of r p g v.payload) in
    (k r).ahead (On t y) (omega (arith, f)) h
comes_first_time tr w (Local y) a fx k p g r v h =
    let f = cnt_first r (local_list w y) (Signalled (monitor_signal p g r) v.payload) v.first (call_of r p g v.payload) in
    (k r).ahead (Own y) (omega (arith, f)) h
comes_first_time tr w e a fx k p g r v h = none-some (Signalled (monitor_signal p g r) v.payload) v.first
