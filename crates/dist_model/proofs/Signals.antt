-- A signal is taken, from a trunk or from the own list.
use Rattle.std.proofs.Common.{◌≡◌, ◌≤◌, Bool, true, false, cond, List, [], ◌∷◌, ◌++◌, refl, sym, ap}
use Rattle.std.proofs.Common.{◌∙◌, subst, arith, ◌&&◌, Option, Some, None, ◌⊎◌, inl, inr, append-nil}
use Rattle.std.proofs.lemmas.Bool.{and_parts, and_right}
use Rattle.std.specs.Option.{is_some}
use Rattle.std.specs.FinMap as fm
use Rattle.dist_model.proofs.Envelopes.{outgoing}
use Rattle.dist_model.proofs.Calls.{by_test, takes_other}
use Rattle.dist_model.proofs.Home.{HomePairs, home_moves, home_pair, local_home, never_own, own_reached, without_local}
use Rattle.dist_model.proofs.Keys.{same_pid_true, same_trunk, same_trunk_true}
use Rattle.dist_model.proofs.Moves.{reach_held}
use Rattle.dist_model.proofs.Posts.{AllRouted, HomeItem, Homely, NodeKept, held, home_of, home_saying}
use Rattle.dist_model.proofs.Takes.{Takes, takes_link}
use Rattle.dist_model.proofs.Pairs.{WorldKept, changed}
use Rattle.dist_model.proofs.Routes.{at_place, list_to_carried, list_to_insert, node_of_name}
use Rattle.dist_model.proofs.Seen.{list_in}
use Rattle.dist_model.proofs.Sides.{SidesKept, half, not_own, reach_up, side_at, sides_kept}
use Rattle.dist_model.proofs.Steps.{good_item, good_link, is_from_peer, kind, not_never, own_none, taken_link, two_parts}
use Rattle.dist_model.proofs.TrunksStay.{good_changed, carried_key, insert_key, key_of, unsent}
use Rattle.dist_model.proofs.Trunks.{Good, HomeKept}
use Rattle.dist_model.proofs.Views.{over, side_of, view}
use Rattle.dist_model.proofs.EndOfProcess.{same_pid_sym}
use Rattle.dist_model.specs.Arrivals.{is_from, is_good, is_to}
use Rattle.dist_model.specs.Items.{Item, Signalled, news, news_in, telling}
use Rattle.dist_model.specs.Linking.{take_link}
use Rattle.dist_model.specs.Names.{Name, same_name, same_pid}
use Rattle.dist_model.specs.Node.{Node, is_stranger, reaches}
use Rattle.dist_model.specs.Sides.{TrunkSide, is_up}
use Rattle.dist_model.specs.Taking.{take, take_item}
use Rattle.dist_model.specs.Work.{Work, at_work}
use Rattle.dist_model.specs.World.{World, carried, list_to, node_of, set_node}
use Rattle.erl_names.specs.declared.trunk.TrunkId.{TrunkId}
use Rattle.erl_term.specs.declared.term.Pid.{Pid}
use Rattle.link_core.proofs.Kept.{Kept}
use Rattle.link_core.specs.News.{LinkNews}
use Rattle.link_core.specs.Pair.{Side}

-- what a node is after a signal was taken
record After (n : Node) (o : Work) : Type 0 where
  sides : o.node.sides ≡ n.sides
  dialed : o.node.dialed ≡ n.dialed
  name : o.node.mint.name ≡ n.mint.name
  routed : AllRouted o.node.sides (outgoing o)
  local : home_of o.node
  pairs : HomePairs o.node

own_other : (n : Node) (s0 : TrunkSide) (q0 y : Pid) → q0.node ≡ s0.peer → same_name s0.peer n.mint.name ≡ false
    → same_name y.node n.mint.name ≡ true → (b : Bool) → (b && same_pid y q0) ≡ false
own_other n s0 q0 y e d h b = go b (by_test _ (same_pid y q0)
    (λ i. let c : true ≡ false = sym h ∙ ap (λ (v : Pid). same_name v.node n.mint.name) (same_pid_true y q0 i)
    ∙ ap (λ v. same_name v n.mint.name) e ∙ d in cc) (λ i. i))
  where
    go : (b : Bool) {c : Bool} → c ≡ false → (b && c) ≡ false
    go true h = h
    go false h = refl

module _ (w : World) (x : Name) (n : Node) (t0 : TrunkId) (s0 : TrunkSide) (i : Item) (rest : List Item) (hx : node_of w.nodes x ≡ Some n)
    (h0 : side_at n t0 ≡ Some s0) (u0 : is_up s0.state ≡ true) (g : Good w) (first : list_to w.lists t0 x ≡ i ∷ rest)
    (good : is_good n s0 i ≡ true) where
  kn : NodeKept n
  kn = g.core.nodes x n hx

  sk : SidesKept n
  sk = g.core.sides x n hx

  hk : HomeKept n
  hk = g.home x n hx

  after_link : (q0 p0 : Pid) (s : LinkNews) → (is_from s0 q0 && is_to n p0) ≡ true → After n (take_link p0 q0 s (at_work n))
  after_link q0 p0 s c =
      let v = and_parts (is_from s0 q0) (is_to n p0) c in
      let from : q0.node ≡ s0.peer = is_from_peer s0 q0 v.0 in
      let no : same_name s0.peer n.mint.name ≡ false = not_own n t0 s0 sk h0 in
      let f =
      takes_link p0 q0 s (at_work n)
      (λ e. absurd (let z : true ≡ false = sym e ∙ ap (λ y. same_name y n.mint.name) from ∙ no in cc))
      (not_never n p0 v.1) in
      let hd : held n q0.node ≡ true = ap (held n) from ∙ reach_held n s0.peer (reach_up n t0 s0 sk h0 u0) in
      record {
        sides = f.sides;
        dialed = f.dialed;
        name = f.name;
        routed = f.routed tt;
        local = f.home kn hd hk.local;
        pairs = λ p q hp hq d.
            let hp1 : same_name p.node n.mint.name ≡ true = ap (same_name p.node) (sym f.name) ∙ hp in
            let hq1 : same_name q.node n.mint.name ≡ true = ap (same_name q.node) (sym f.name) ∙ hq in
            home_pair (at_work n) (take_link p0 q0 s (at_work n)) f.name p q hp1 hq1
            (λ a b e k r. f.others kn hd [] a b k r (own_other n s0 q0 b from no (own_of a b p q hp1 hq1 e) (same_pid a p0)))
            (hk.pairs p q hp1 hq1 d);
      }
    where
      own_of : (a b p q : Pid) → same_name p.node n.mint.name ≡ true → same_name q.node n.mint.name ≡ true
          → ((a ≡ p) × (b ≡ q)) ⊎ ((a ≡ q) × (b ≡ p)) → same_name b.node n.mint.name ≡ true
      own_of a b p q hp hq (inl e) = ap (λ (v : Pid). same_name v.node n.mint.name) e.1 ∙ hq
      own_of a b p q hp hq (inr e) = ap (λ (v : Pid). same_name v.node n.mint.name) e.1 ∙ hp

  after_plain : (j : Item) → ((p q : Pid) → news_in p q j ≡ []) → After n (take_item s0.peer j (at_work n))
  after_plain j none =
      let f = takes_other s0.peer j (at_work n) none in
      record {
        sides = f.sides;
        dialed = f.dialed;
        name = f.name;
        routed = f.routed tt;
        local = f.home kn hk.local;
        pairs = home_moves (at_work n) (take_item s0.peer j (at_work n)) f kn hk.pairs;
      }

  after : After n (take_item s0.peer i (at_work n))
  after = go (kind i)
    where
      go : ((p q : Pid) → news_in p q i ≡ [])
          ⊎ ((q : Pid) × (p : Pid) × (s : LinkNews) × (pay : Bool) × (i ≡ Signalled (telling q p s) pay))
          → After n (take_item s0.peer i (at_work n))
      go (inl h) = after_plain i h
      go (inr h) =
          subst (λ z. After n (take_item s0.peer z (at_work n))) (sym h.4) (subst (λ z. After n z)
          (sym (taken_link s0.peer h.0 h.1 h.2 (at_work n)))
          (after_link h.0 h.1 h.2 (sym (good_link n s0 h.0 h.1 h.2 h.3) ∙ sym (ap (is_good n s0) h.4) ∙ good)))

  some_first : (o : Option (List Item)) → list_in o ≡ i ∷ rest → is_some o ≡ true
  some_first None h = cc
  some_first (Some l) h = refl

  -- Arrive on a side that is up
  pub good_arrive : Good (record {
    names = w.names;
    nodes = set_node w.nodes x ((take_item s0.peer i (at_work n)).node);
    lists = carried (fm.insert w.lists (t0, x) rest) ((take_item s0.peer i (at_work n)).effects);
  })
  good_arrive =
      let o = take_item s0.peer i (at_work n) in
      let m1 = fm.insert w.lists (t0, x) rest in
      good_changed w x n o.node (carried m1 o.effects) hx g after.sides (omega (arith, after.dialed)) after.name
      (good_item w x n t0 s0 rest hx h0 u0 g.core i first good) after.local after.pairs
      (λ t nu z. list_to_carried m1 o.effects t z ∙ ap (λ l. list_to m1 t z ++ l) (unsent n o t z after.sides after.routed nu)
      ∙ append-nil (list_to m1 t z)
      ∙ list_to_insert w.lists t0 x rest t z
      ∙ by_test _ (same_trunk t t0 && same_name z x)
      (λ e.
      let te : t ≡ t0 = same_trunk_true t t0 (and_parts (same_trunk t t0) (same_name z x) e).0 in
      let c : true ≡ false = sym u0 ∙ nu s0 (ap (side_at n) te ∙ h0) in cc)
      (λ e. ap (λ b. cond b rest (list_to w.lists t z)) e))
      (λ t z h. key_of n o t z after.sides _ (old_key t z (carried_key o.node.sides m1 o.effects t z after.routed h)))
    where
      old_key : (t : TrunkId) (z : Name) → {P : Type 0} → (is_some (fm.get (fm.insert w.lists (t0, x) rest) (t, z)) ≡ true)
          ⊎ P → (is_some (fm.get w.lists (t, z)) ≡ true) ⊎ P
      old_key t z (inr h) = inr h
      old_key t z (inl h) = inl (pick (insert_key w.lists t0 x rest t z h))
        where
          pick : (is_some (fm.get w.lists (t, z)) ≡ true) ⊎ ((t ≡ t0) × (z ≡ x)) → is_some (fm.get w.lists (t, z)) ≡ true
          pick (inl e) = e
          pick (inr e) = some_first (fm.get w.lists (t, z)) ((λ j. list_to w.lists (e.0 j) (e.1 j)) ∙ first)

-- Local
module _ (w : World) (x : Name) (n : Node) (i : Item) (xs : List Item) (hx : node_of w.nodes x ≡ Some n) (g : Good w)
    (first : n.local ≡ i ∷ xs) where
  abbrev n1 : Node
  n1 = record n { local = xs }

  abbrev o1 : Work
  o1 = take_item n.mint.name i (at_work (record n { local = xs }))

  kl : NodeKept n1
  kl = without_local n xs (g.core.nodes x n hx)

  sl : SidesKept n1
  sl = sides_kept n n1 refl refl (g.core.sides x n hx)

  nx1 : n.mint.name ≡ x
  nx1 = node_of_name w.nodes x n hx

  local_core : (sd : o1.node.sides ≡ n.sides) (nm : o1.node.mint.name ≡ n.mint.name) (ko : NodeKept o1.node)
      (gr : (p : Pid) → over n p ≡ true → over o1.node p ≡ true) (dr : n.mint.unlink_ids ≤ o1.node.mint.unlink_ids)
      (ro : AllRouted o1.node.sides (outgoing o1))
      → ((p q : Pid) (b : List LinkNews) (c : Side) → same_name q.node n.mint.name ≡ false → reaches n q.node ≡ true
      → Kept (view b (at_work n1) p q) c → Kept (view b o1 p q) c)
      → WorldKept (record { names = w.names; nodes = set_node w.nodes x o1.node; lists = carried w.lists o1.effects })
  local_core sd nm ko gr dr ro vs =
      changed w x n o1 (carried w.lists o1.effects) hx sd nm ko ro (λ t y d. list_to_carried w.lists o1.effects t y)
      (λ t s fs j b p q pn qn old.
      let same : list_to (carried w.lists o1.effects) t x ≡ list_to w.lists t x =
      list_to_carried w.lists o1.effects t x
      ∙ ap (λ l. list_to w.lists t x ++ l) (own_none n o1 x t (g.core.sides x n hx) nx1 sd ro)
      ∙ append-nil (list_to w.lists t x) in
      let grown : news p q (list_to (carried w.lists o1.effects) t s.peer) ≡ news p q (list_to w.lists t s.peer)
      ++ news p q (at_place t s.peer (outgoing o1)) =
      two_parts p q (list_to w.lists t s.peer) (at_place t s.peer (outgoing o1)) _ (list_to_carried w.lists o1.effects t s.peer) in
      let far : same_name q.node n.mint.name ≡ false = ap (λ v. same_name v n.mint.name) qn ∙ not_own n t s (g.core.sides x n hx) fs in
      subst
      (λ l. Kept (side_of o1.node p q (news p q (list_to (carried w.lists o1.effects) t s.peer))) (side_of b q p (news q p l)))
      (sym same)
      (subst (λ l. Kept (side_of o1.node p q l) (side_of b q p (news q p (list_to w.lists t x)))) (sym grown)
      (half n1 o1 sd nm kl ko gr dr ro sl t s fs j p q qn (list_to w.lists t s.peer) (side_of b q p (news q p (list_to w.lists t x)))
      (λ l r k. vs p q l (side_of b q p (news q p (list_to w.lists t x))) far r k) old)))
      g.core

  good_local_by : (core : WorldKept (record { names = w.names; nodes = set_node w.nodes x o1.node; lists = carried w.lists o1.effects }))
      (sd : o1.node.sides ≡ n.sides) (dl : o1.node.dialed ≡ n.dialed) (nm : o1.node.mint.name ≡ n.mint.name)
      (ro : AllRouted o1.node.sides (outgoing o1)) → home_of o1.node
      → Good (record { names = w.names; nodes = set_node w.nodes x o1.node; lists = carried w.lists o1.effects })
  good_local_by core sd dl nm ro hm = good_changed w x n o1.node (carried w.lists o1.effects) hx g sd (omega (arith, dl)) nm core hm
      (local_home n i xs first (g.core.nodes x n hx) ((g.home x n hx).local) ((g.home x n hx).pairs))
      (λ t nu z. list_to_carried w.lists o1.effects t z ∙ ap (λ l. list_to w.lists t z ++ l) (unsent n o1 t z sd ro nu)
      ∙ append-nil (list_to w.lists t z))
      (λ t z h. key_of n o1 t z sd _ (carried_key o1.node.sides w.lists o1.effects t z ro h))

  rest_home : home_of n1
  rest_home = (subst (λ l. Homely (λ p. is_stranger n p) l) first ((g.home x n hx).local)).1

abbrev after_local : (w : World) (x : Name) (n : Node) (xs : List Item) → Item → World
after_local w x n xs i = record {
  names = w.names;
  nodes = set_node w.nodes x ((take_item n.mint.name i (at_work (record n { local = xs }))).node);
  lists = carried w.lists ((take_item n.mint.name i (at_work (record n { local = xs }))).effects);
}

pub good_local : (w : World) (x : Name) (n : Node) (i : Item) (xs : List Item) → node_of w.nodes x ≡ Some n → Good w
    → n.local ≡ i ∷ xs → Good (after_local w x n xs i)
good_local w x n i xs hx g first = go (kind i) (subst (λ l. Homely (λ p. is_stranger n p) l) first ((g.home x n hx).local)).0
  where
    plain : (j : Item) → n.local ≡ j ∷ xs → ((p q : Pid) → news_in p q j ≡ []) → Good (after_local w x n xs j)
    plain j e none =
        let f = takes_other n.mint.name j (at_work (record n { local = xs })) none in
        let k1 = kl w x n j xs hx g e in
        good_local_by w x n j xs hx g e
        (local_core w x n j xs hx g e f.sides f.name (f.keeps k1) f.grows f.draws (f.routed tt) (λ p q b c far r k. f.views k1 b p q c r k))
        f.sides f.dialed f.name (f.routed tt) (f.home k1 (rest_home w x n j xs hx g e))

    linking : (q0 p0 : Pid) (s : LinkNews) (pay : Bool) → n.local ≡ Signalled (telling q0 p0 s) pay ∷ xs → is_stranger n q0 ≡ false
        → is_stranger n p0 ≡ false → same_pid q0 p0 ≡ false → Good (after_local w x n xs (Signalled (telling q0 p0 s) pay))
    linking q0 p0 s pay e hq hp two =
        let f : Takes p0 q0 s (at_work (record n { local = xs })) (take n.mint.name (telling q0 p0 s) (at_work (record n { local = xs }))) =
        subst (λ z. Takes p0 q0 s (at_work (record n { local = xs })) z)
        (sym (taken_link n.mint.name q0 p0 s (at_work (record n { local = xs }))))
        (takes_link p0 q0 s (at_work (record n { local = xs })) (λ z. (hq, same_pid_sym q0 p0 two)) hp) in
        let k1 = kl w x n (Signalled (telling q0 p0 s) pay) xs hx g e in
        let own : same_name q0.node n.mint.name ≡ true = never_own n q0 hq in
        let hd : held n q0.node ≡ true = reach_held n q0.node (own_reached n q0.node own) in
        good_local_by w x n (Signalled (telling q0 p0 s) pay) xs hx g e
        (local_core w x n (Signalled (telling q0 p0 s) pay) xs hx g e f.sides f.name (f.keeps k1 hd) f.grows f.draws (f.routed tt)
        (λ p q b c far r k. f.others k1 hd b p q c r (not_this p q q0 own far (same_pid p p0)) k))
        f.sides f.dialed f.name (f.routed tt) (f.home k1 hd (rest_home w x n (Signalled (telling q0 p0 s) pay) xs hx g e))
      where
        not_this : (p q q0 : Pid) → same_name q0.node n.mint.name ≡ true → same_name q.node n.mint.name ≡ false → (b : Bool)
            → (b && same_pid q q0) ≡ false
        not_this p q q0 own far b = and_right b (same_pid q q0) (by_test _ (same_pid q q0)
            (λ i. let c : true ≡ false = sym own ∙ ap (λ (v : Pid). same_name v.node n.mint.name) (sym (same_pid_true q q0 i)) ∙ far in cc)
            (λ i. i))

    go : ((p q : Pid) → news_in p q i ≡ []) ⊎ ((q : Pid) × (p : Pid) × (s : LinkNews) × (pay : Bool) × (i ≡ Signalled (telling q p s) pay))
        → HomeItem (λ p. is_stranger n p) i → Good (after_local w x n xs i)
    go (inl h) m = plain i first h
    go (inr h) m =
        let v : (is_stranger n h.0 ≡ false) × (is_stranger n h.1 ≡ false) × (same_pid h.0 h.1 ≡ false) =
        home_saying (λ p. is_stranger n p) h.0 h.1 h.2 h.3 (subst (λ z. HomeItem (λ p. is_stranger n p) z) h.4 m) in
        subst (λ z. Good (after_local w x n xs z)) (sym h.4) (linking h.0 h.1 h.2 h.3 (first ∙ ap (λ z. z ∷ xs) h.4) v.0 v.1 v.2)
