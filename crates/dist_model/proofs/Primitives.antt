-- The parts that the events of the handshake are made of.
use Rattle.std.proofs.Common.{◌≡◌, ◌≤◌, Bool, true, false, cond, List, [], ◌∷◌, ◌++◌, refl, sym, ap}
use Rattle.std.proofs.Common.{◌∙◌, subst, ◌&&◌, ◌||◌, Option, Some, None, ◌⊎◌, inl, inr, append-nil}
use Rattle.std.proofs.lemmas.Bool.{or_from, false_from_ne_true, and_parts, or_parts}
use Rattle.std.proofs.lemmas.Option.{same_Some}
use Rattle.std.specs.Option.{is_some}
use Rattle.std.specs.FinMap as fm
use Rattle.dist_model.proofs.Calls.{by_name, by_test, by_trunk}
use Rattle.dist_model.proofs.Keys.{same_name_true, same_trunk, same_trunk_true}
use Rattle.dist_model.proofs.Pairs.{WorldKept, up_joined}
use Rattle.dist_model.proofs.SideChanges.{Fits, side_after_other, side_after_same, with_side_at}
use Rattle.dist_model.proofs.Routes.{list_to_insert, node_of_name, node_of_set_other, node_of_set_same}
use Rattle.dist_model.proofs.Seen.{list_in}
use Rattle.dist_model.proofs.Sides.{joined, side_at}
use Rattle.dist_model.proofs.Trunks.{Anchor, Good, HomeKept, Likely, NoLinks, Posted, Row, Table, begun, has, is_accept}
use Rattle.dist_model.proofs.Trunks.{is_challenge, is_early, is_reply, likely_along, may_be_up, role_state, single_kept, went_up}
use Rattle.dist_model.proofs.TrunksStay.{insert_key}
use Rattle.dist_model.proofs.Views.{news-append, side_of}
use Rattle.dist_model.specs.Items.{Handshake, Item, news, news_in}
use Rattle.dist_model.specs.Names.{Name, place_cmp, same_name}
use Rattle.dist_model.specs.Node.{Node}
use Rattle.dist_model.specs.Sides.{TrunkSide}
use Rattle.dist_model.specs.World.{World, list_to, node_of, set_node}
use Rattle.erl_handshake.specs.declared.message.ShakeMsg.{ShakeMsg}
use Rattle.erl_names.specs.declared.trunk.TrunkId.{TrunkId}
use Rattle.erl_term.specs.declared.term.Pid.{Pid}
use Rattle.link_core.proofs.Kept.{Kept}
use Rattle.link_core.specs.News.{LinkNews}
use Rattle.std.specs.FinMap.{FinMap}

-- the lists change, and no claim on a pair does
pub relisted : (w : World) (m' : FinMap place_cmp (List Item))
    → ((x : Name) (n : Node) (t : TrunkId) (s : TrunkSide) → node_of w.nodes x ≡ Some n → side_at n t ≡ Some s
    → joined s.state ≡ true → (p q : Pid) → news p q (list_to m' t x) ≡ news p q (list_to w.lists t x))
    → WorldKept w → WorldKept (record { names = w.names; nodes = w.nodes; lists = m' })
relisted w m' same k = record {
  nodes = k.nodes;
  sides = k.sides;
  met = k.met;
  trunks = λ x y a b t s v ha hb fs fv sy vx us jv p q px qy.
      subst (λ l. Kept (side_of a p q l) (side_of b q p (news q p (list_to m' t x)))) (sym (same y b t v hb fv jv p q))
      (subst (λ l. Kept (side_of a p q (news p q (list_to w.lists t y))) (side_of b q p l))
      (sym (same x a t s ha fs (up_joined s.state us) q p))
      (k.trunks x y a b t s v ha hb fs fv sy vx us jv p q px qy));
}

-- a message of the handshake is sent
pub has-push : (f : Item → Bool) (l : List Item) (i : Item) → has f l ≡ false → f i ≡ false → has f (l ++ i ∷ []) ≡ false
has-push f [] i h k = or_from (f i) false k refl
has-push f (x ∷ xs) i h k = let v = or_parts (f x) (has f xs) h in or_from (f x) (has f (xs ++ i ∷ [])) v.0 (has-push f xs i v.1 k)

module _ (w : World) (t : TrunkId) (y : Name) (m : ShakeMsg) (g : Good w) (known : Posted w.nodes t y)
    (fits : (d a : Node) (s : TrunkSide) → node_of w.nodes t.dialer ≡ Some d → side_at d t ≡ Some s → node_of w.nodes s.peer ≡ Some a
    → (is_accept (Handshake m) ≡ true → (went_up (side_at a t) ≡ true) × (is_early s.state ≡ false))
    × (is_reply (Handshake m) ≡ true → is_early s.state ≡ false)
    × (is_challenge (Handshake m) ≡ true → begun (side_at a t) ≡ true) × (is_reply (Handshake m) ≡ true → begun (side_at a t) ≡ true))
    -- the sender of what makes the receiver likely is its anchor
    (apart : (is_accept (Handshake m) ≡ true) ⊎ (is_reply (Handshake m) ≡ true) → (z : Name)
    → Likely w.nodes (fm.insert w.lists (t, y) (list_to w.lists t y ++ Handshake m ∷ [])) y t z
    → Anchor w.nodes z t y) where
  abbrev pushed : FinMap place_cmp (List Item)
  pushed = fm.insert w.lists (t, y) (list_to w.lists t y ++ Handshake m ∷ [])

  at : (u : TrunkId) (z : Name) → (list_to pushed u z ≡ list_to w.lists u z)
      ⊎ ((list_to pushed u z ≡ list_to w.lists u z ++ Handshake m ∷ []) × (u ≡ t))
  at u z = by_test _ (same_trunk u t && same_name z y)
      (λ h.
      let v = and_parts (same_trunk u t) (same_name z y) h in
      let e : u ≡ t = same_trunk_true u t v.0 in
      let f : z ≡ y = same_name_true z y v.1 in
      inr (
        list_to_insert w.lists t y (list_to w.lists t y ++ Handshake m ∷ []) u z
            ∙ ap (λ b. cond b (list_to w.lists t y ++ Handshake m ∷ []) (list_to w.lists u z)) h
            ∙ (λ i. list_to w.lists (sym e i) (sym f i) ++ Handshake m ∷ []),
        e,
      ))
      (λ h. inl (list_to_insert w.lists t y (list_to w.lists t y ++ Handshake m ∷ []) u z
      ∙ ap (λ b. cond b (list_to w.lists t y ++ Handshake m ∷ []) (list_to w.lists u z)) h))

  same_signals : (u : TrunkId) (z : Name) (p q : Pid) → news p q (list_to pushed u z) ≡ news p q (list_to w.lists u z)
  same_signals u z p q = go (at u z)
    where
      go : (list_to pushed u z ≡ list_to w.lists u z)
          ⊎ ((list_to pushed u z ≡ list_to w.lists u z ++ Handshake m ∷ []) × (u ≡ t))
          → news p q (list_to pushed u z) ≡ news p q (list_to w.lists u z)
      go (inl h) = ap (news p q) h
      go (inr h) = ap (news p q) h.0 ∙ news-append p q (list_to w.lists u z) (Handshake m ∷ []) ∙ append-nil _

  still_has : (f : Item → Bool) (u : TrunkId) (z : Name) → has f (list_to w.lists u z) ≡ false
      → (u ≡ t → f (Handshake m) ≡ false) → has f (list_to pushed u z) ≡ false
  still_has f u z h k = go (at u z)
    where
      go : (list_to pushed u z ≡ list_to w.lists u z)
          ⊎ ((list_to pushed u z ≡ list_to w.lists u z ++ Handshake m ∷ []) × (u ≡ t)) → has f (list_to pushed u z) ≡ false
      go (inl e) = ap (has f) e ∙ h
      go (inr e) = ap (has f) e.0 ∙ has-push f (list_to w.lists u z) (Handshake m) h (k e.1)

  pushed_row : (u : TrunkId) (d a : Node) (s : TrunkSide) → node_of w.nodes u.dialer ≡ Some d → side_at d u ≡ Some s
      → node_of w.nodes s.peer ≡ Some a → Row s.state (side_at a u) (list_to pushed u u.dialer) (list_to pushed u s.peer)
  pushed_row u d a s hd fs ha =
      let r = g.table u d a s hd fs ha in
      let fit : u ≡ t → (is_accept (Handshake m) ≡ true → (went_up (side_at a u) ≡ true) × (is_early s.state ≡ false))
      × (is_reply (Handshake m) ≡ true → is_early s.state ≡ false)
      × (is_challenge (Handshake m) ≡ true → begun (side_at a u) ≡ true) × (is_reply (Handshake m) ≡ true → begun (side_at a u) ≡ true) =
      λ e. let c = fits d a s (ap (λ (z : TrunkId). node_of w.nodes z.dialer) (sym e) ∙ hd) (ap (side_at d) (sym e) ∙ fs) ha in (
        λ h. let v = c.0 h in (ap (λ z. went_up (side_at a z)) e ∙ v.0, v.1),
        c.1,
        λ h. ap (λ z. begun (side_at a z)) e ∙ c.2 h,
        λ h. ap (λ z. begun (side_at a z)) e ∙ c.3 h,
      ) in
      record {
        before = λ h.
            let b = r.before h in (
              b.0,
              still_has is_accept u u.dialer b.1 (λ e. false_from_ne_true _ (λ i. let c : true ≡ false = sym ((fit e).0 i).0 ∙ h in cc)),
              λ p q. same_signals u u.dialer p q ∙ b.2 p q,
              λ p q. same_signals u s.peer p q ∙ b.3 p q,
            );
        early = λ h.
            let b = r.early h in (
              b.0,
              still_has is_reply u s.peer b.1 (λ e. false_from_ne_true _ (λ i. let c : true ≡ false = sym h ∙ (fit e).1 i in cc)),
              still_has is_accept u u.dialer b.2 (λ e. false_from_ne_true _ (λ i. let c : true ≡ false = sym h ∙ ((fit e).0 i).1 in cc)),
            );
        waits = λ h.
            let b = r.waits h in (
              still_has is_challenge u u.dialer b.0 (λ e. false_from_ne_true _ (λ i. let c : true ≡ false = sym ((fit e).2 i) ∙ h in cc)),
              still_has is_reply u s.peer b.1 (λ e. false_from_ne_true _ (λ i. let c : true ≡ false = sym ((fit e).3 i) ∙ h in cc)),
            );
      }

  each : (a z : Name) (u : TrunkId) (b : Node) → node_of w.nodes z ≡ Some b → Likely w.nodes pushed a u z
      → Likely w.nodes w.lists a u z ⊎ Anchor w.nodes z u a
  each a z u b hb l = by_test _ (same_trunk u t && same_name a y)
      (λ h.
      let v = and_parts (same_trunk u t) (same_name a y) h in
      let e : u ≡ t = same_trunk_true u t v.0 in
      let f : a ≡ y = same_name_true a y v.1 in
      by_test _ (is_accept (Handshake m))
      (λ i. inr (anchored e f (inl i)))
      (λ i. by_test _ (is_reply (Handshake m))
      (λ j. inr (anchored e f (inr j)))
      (λ j. inl (record {
        node = l.node;
        at = l.at;
        side = l.side;
        there = l.there;
        peer = l.peer;
        may = likely_along l.side.state _ _ (was_there is_accept (λ k. i)) (was_there is_reply (λ k. j)) l.may;
      }))))
      (λ h.
      let e : list_to pushed u a ≡ list_to w.lists u a =
      list_to_insert w.lists t y (list_to w.lists t y ++ Handshake m ∷ []) u a
      ∙ ap (λ b. cond b (list_to w.lists t y ++ Handshake m ∷ []) (list_to w.lists u a)) h in
      inl (record
      { node = l.node; at = l.at; side = l.side; there = l.there; peer = l.peer; may = ap (may_be_up l.side.state) (sym e) ∙ l.may }))
    where
      anchored : u ≡ t → a ≡ y → (is_accept (Handshake m) ≡ true) ⊎ (is_reply (Handshake m) ≡ true) → Anchor w.nodes z u a
      anchored e f k =
          subst (λ v. Anchor w.nodes z v a) (sym e) (subst (λ v. Anchor w.nodes z t v) (sym f)
          (apart k z (subst (λ v. Likely w.nodes pushed y v z) e (subst (λ v. Likely w.nodes pushed v u z) f l))))

      was_there : (f : Item → Bool) → (u ≡ t → f (Handshake m) ≡ false) → has f (list_to pushed u a) ≡ true
          → has f (list_to w.lists u a) ≡ true
      was_there f n h = by_test _ (has f (list_to w.lists u a)) (λ i. i) (λ i. let c : true ≡ false = sym h ∙ still_has f u a i n in cc)

  pushed_key : (u : TrunkId) (z : Name) → is_some (fm.get pushed (u, z)) ≡ true → Posted w.nodes u z
  pushed_key u z h = go (insert_key w.lists t y (list_to w.lists t y ++ Handshake m ∷ []) u z h)
    where
      go : (is_some (fm.get w.lists (u, z)) ≡ true) ⊎ ((u ≡ t) × (z ≡ y)) → Posted w.nodes u z
      go (inl i) = g.posted u z i
      go (inr i) = subst (λ v. Posted w.nodes v z) (sym i.0) (subst (λ v. Posted w.nodes t v) (sym i.1) known)

  pub good_pushed : Good (record { names = w.names; nodes = w.nodes; lists = pushed })
  good_pushed = record {
    core = relisted w pushed (λ x n u s hx fs j p q. same_signals u x p q) g.core;
    home = g.home;
    table = pushed_row;
    posted = pushed_key;
    single = single_kept w.nodes w.lists w.nodes pushed g.core.sides each g.single;
  }

-- the first item is taken off a list
nil_of : (xs ys : List LinkNews) → xs ++ ys ≡ [] → ys ≡ []
nil_of [] ys h = h
nil_of (x ∷ xs) ys h = cc

pub some_listed : (o : Option (List Item)) (i : Item) (rest : List Item) → list_in o ≡ i ∷ rest → is_some o ≡ true
some_listed None i rest h = cc
some_listed (Some l) i rest h = refl

module _ (w : World) (t : TrunkId) (x : Name) (i : Item) (rest : List Item) (g : Good w) (first : list_to w.lists t x ≡ i ∷ rest)
    -- it is no signal about a link, or the side takes no part any more
    (free : (n : Node) (s : TrunkSide) → node_of w.nodes x ≡ Some n → side_at n t ≡ Some s → joined s.state ≡ true
    → (p q : Pid) → news_in p q i ≡ []) where
  abbrev popped : FinMap place_cmp (List Item)
  popped = fm.insert w.lists (t, x) rest

  at_pop : (u : TrunkId) (z : Name) → (list_to popped u z ≡ list_to w.lists u z)
      ⊎ ((list_to popped u z ≡ rest) × (list_to w.lists u z ≡ i ∷ rest) × (u ≡ t) × (z ≡ x))
  at_pop u z = by_test _ (same_trunk u t && same_name z x)
      (λ h.
      let v = and_parts (same_trunk u t) (same_name z x) h in
      let e : u ≡ t = same_trunk_true u t v.0 in
      let f : z ≡ x = same_name_true z x v.1 in
      inr (
        list_to_insert w.lists t x rest u z ∙ ap (λ b. cond b rest (list_to w.lists u z)) h,
        (λ k. list_to w.lists (e k) (f k)) ∙ first,
        e,
        f,
      ))
      (λ h. inl (list_to_insert w.lists t x rest u z ∙ ap (λ b. cond b rest (list_to w.lists u z)) h))

  pop_has : (f : Item → Bool) (u : TrunkId) (z : Name) → has f (list_to w.lists u z) ≡ false → has f (list_to popped u z) ≡ false
  pop_has f u z h = go (at_pop u z)
    where
      right : (a b : Bool) → (a || b) ≡ false → b ≡ false
      right true b h = cc
      right false b h = h

      go : (list_to popped u z ≡ list_to w.lists u z)
          ⊎ ((list_to popped u z ≡ rest) × (list_to w.lists u z ≡ i ∷ rest) × (u ≡ t) × (z ≡ x))
          → has f (list_to popped u z) ≡ false
      go (inl e) = ap (has f) e ∙ h
      go (inr e) = ap (has f) e.0 ∙ right (f i) (has f rest) (sym (ap (has f) e.1) ∙ h)

  pop_had : (f : Item → Bool) (u : TrunkId) (z : Name) → has f (list_to popped u z) ≡ true → has f (list_to w.lists u z) ≡ true
  pop_had f u z h = by_test _ (has f (list_to w.lists u z)) (λ e. e) (λ e. let c : true ≡ false = sym h ∙ pop_has f u z e in cc)

  pop_none : (u : TrunkId) (z : Name) → NoLinks (list_to w.lists u z) → NoLinks (list_to popped u z)
  pop_none u z h p q = go (at_pop u z)
    where
      go : (list_to popped u z ≡ list_to w.lists u z)
          ⊎ ((list_to popped u z ≡ rest) × (list_to w.lists u z ≡ i ∷ rest) × (u ≡ t) × (z ≡ x))
          → news p q (list_to popped u z) ≡ []
      go (inl e) = ap (news p q) e ∙ h p q
      go (inr e) = ap (news p q) e.0 ∙ nil_of (news_in p q i) (news p q rest) (sym (ap (news p q) e.1) ∙ h p q)

  pop_signals : (y : Name) (n : Node) (u : TrunkId) (s : TrunkSide) → node_of w.nodes y ≡ Some n → side_at n u ≡ Some s
      → joined s.state ≡ true → (p q : Pid) → news p q (list_to popped u y) ≡ news p q (list_to w.lists u y)
  pop_signals y n u s hy fs j p q = go (at_pop u y)
    where
      go : (list_to popped u y ≡ list_to w.lists u y)
          ⊎ ((list_to popped u y ≡ rest) × (list_to w.lists u y ≡ i ∷ rest) × (u ≡ t) × (y ≡ x))
          → news p q (list_to popped u y) ≡ news p q (list_to w.lists u y)
      go (inl e) = ap (news p q) e
      go (inr e) =
          ap (news p q) e.0 ∙ sym (ap (news p q) e.1
          ∙ ap (λ l. l ++ news p q rest) (free n s (ap (node_of w.nodes) (sym e.3) ∙ hy) (ap (side_at n) (sym e.2) ∙ fs) j p q))

  pop_key : (u : TrunkId) (z : Name) → is_some (fm.get popped (u, z)) ≡ true → Posted w.nodes u z
  pop_key u z h = go (insert_key w.lists t x rest u z h)
    where
      go : (is_some (fm.get w.lists (u, z)) ≡ true) ⊎ ((u ≡ t) × (z ≡ x)) → Posted w.nodes u z
      go (inl k) = g.posted u z k
      go (inr k) = g.posted u z (some_listed (fm.get w.lists (u, z)) i rest ((λ j. list_to w.lists (k.0 j) (k.1 j)) ∙ first))

  pub good_popped : Good (record { names = w.names; nodes = w.nodes; lists = popped })
  good_popped = record {
    core = relisted w popped pop_signals g.core;
    home = g.home;
    table = λ u d a s hd fs ha.
        let r = g.table u d a s hd fs ha in
        record {
          before = λ h. let b = r.before h in (b.0, pop_has is_accept u u.dialer b.1, pop_none u u.dialer b.2, pop_none u s.peer b.3);
          early = λ h. let b = r.early h in (b.0, pop_has is_reply u s.peer b.1, pop_has is_accept u u.dialer b.2);
          waits = λ h. let b = r.waits h in (pop_has is_challenge u u.dialer b.0, pop_has is_reply u s.peer b.1);
        };
    posted = pop_key;
    single = single_kept w.nodes w.lists w.nodes popped g.core.sides
        (λ a z u b hb l. inl (record {
          node = l.node;
          at = l.at;
          side = l.side;
          there = l.there;
          peer = l.peer;
          may = likely_along l.side.state _ _ (pop_had is_accept u a) (pop_had is_reply u a) l.may;
        })) g.single;
  }

-- a side gets a new state
module _ (w : World) (x : Name) (n : Node) (t0 : TrunkId) (s0 : TrunkSide) (hx : node_of w.nodes x ≡ Some n) (f : Fits n t0 s0) (g : Good w)
    (core : WorldKept (record { names = w.names; nodes = set_node w.nodes x (with_side_at n t0 s0); lists = w.lists }))
    (role : role_state (same_name t0.dialer n.mint.name) s0.state ≡ true) (count : t0.dialer ≡ n.mint.name → t0.count ≤ n.dialed)
    (as_dialer : (a : Node) → t0.dialer ≡ x → node_of w.nodes s0.peer ≡ Some a
    → Row s0.state (side_at a t0) (list_to w.lists t0 t0.dialer) (list_to w.lists t0 s0.peer))
    (as_acceptor : (d : Node) (s : TrunkSide) → node_of w.nodes t0.dialer ≡ Some d → side_at d t0 ≡ Some s → s.peer ≡ x
    → Row s.state (Some s0) (list_to w.lists t0 t0.dialer) (list_to w.lists t0 s.peer))
    (likely : may_be_up s0.state (list_to w.lists t0 x) ≡ true → (a : Node) → node_of w.nodes s0.peer ≡ Some a
    → Likely w.nodes w.lists x t0 s0.peer) where
  private_nx : n.mint.name ≡ x
  private_nx = node_of_name w.nodes x n hx

  abbrev n2 : Node
  n2 = with_side_at n t0 s0

  here2 : node_of (set_node w.nodes x n2) x ≡ Some n2
  here2 = node_of_set_same w.nodes x n n2 hx private_nx

  there2 : (y : Name) → (x ≡ y → ⊥) → node_of (set_node w.nodes x n2) y ≡ node_of w.nodes y
  there2 y d = node_of_set_other w.nodes x y n2 private_nx d

  is_n2 : (y : Name) (a : Node) → x ≡ y → node_of (set_node w.nodes x n2) y ≡ Some a → n2 ≡ a
  is_n2 y a e h = same_Some n2 a (sym here2 ∙ ap (node_of (set_node w.nodes x n2)) e ∙ h)

  new_home2 : (y : Name) (a : Node) → node_of (set_node w.nodes x n2) y ≡ Some a → HomeKept a
  new_home2 y a h = by_name _ x y
      (λ e.
      let k = g.home x n hx in
      subst (λ v. HomeKept v) (is_n2 y a e h) (record {
        local = k.local;
        pairs = k.pairs;
        roles = λ t s fs. by_trunk _ t t0
            (λ te. let se : s0 ≡ s = same_Some s0 s (sym (side_after_same n t0 s0) ∙ ap (side_at n2) (sym te) ∙ fs) in
            (λ i. role_state (same_name ((te i).dialer) n.mint.name) ((sym se i).state)) ∙ role)
            (λ td. k.roles t s (sym (side_after_other n t0 s0 t td) ∙ fs));
        counts = λ t s fs i. by_trunk _ t t0
            (λ te. subst (λ (v : TrunkId). v.count ≤ n.dialed) (sym te) (count (ap (λ (v : TrunkId). v.dialer) (sym te) ∙ i)))
            (λ td. k.counts t s (sym (side_after_other n t0 s0 t td) ∙ fs) i);
      }))
      (λ d. g.home y a (sym (there2 y d) ∙ h))

  -- the row of another trunk, or of two other nodes, is as it was
  new_table2 : Table (set_node w.nodes x n2) w.lists
  new_table2 t d a s hd fs ha = by_name _ x t.dialer
      (λ e.
      let nd : n2 ≡ d = is_n2 t.dialer d e hd in
      let fs2 : side_at n2 t ≡ Some s = ap (λ v. side_at v t) nd ∙ fs in
      let da : x ≡ s.peer → ⊥ = λ i. (core.sides x n2 here2).other t s fs2 (sym i ∙ sym private_nx) in
      let ha2 : node_of w.nodes s.peer ≡ Some a = sym (there2 s.peer da) ∙ ha in
      by_trunk _ t t0
      (λ te.
      let se : s0 ≡ s = same_Some s0 s (sym (side_after_same n t0 s0) ∙ ap (side_at n2) (sym te) ∙ fs2) in
      subst (λ (v : TrunkId). Row s.state (side_at a v) (list_to w.lists v v.dialer) (list_to w.lists v s.peer)) (sym te)
      (subst (λ (v : TrunkSide). Row v.state (side_at a t0) (list_to w.lists t0 t0.dialer) (list_to w.lists t0 v.peer)) se
      (as_dialer a (ap (λ (v : TrunkId). v.dialer) (sym te) ∙ sym e) (ap (λ (v : TrunkSide). node_of w.nodes v.peer) se ∙ ha2))))
      (λ td. g.table t n a s (ap (node_of w.nodes) (sym e) ∙ hx) (sym (side_after_other n t0 s0 t td) ∙ fs2) ha2))
      (λ dd.
      let hd2 : node_of w.nodes t.dialer ≡ Some d = sym (there2 t.dialer dd) ∙ hd in
      by_name _ x s.peer
      (λ e.
      let na : n2 ≡ a = is_n2 s.peer a e ha in
      by_trunk _ t t0
      (λ te.
      subst (λ v. Row s.state (side_at v t) (list_to w.lists t t.dialer) (list_to w.lists t s.peer)) na
      (subst (λ (v : TrunkId). Row s.state (side_at n2 v) (list_to w.lists v v.dialer) (list_to w.lists v s.peer)) (sym te)
      (subst (λ o. Row s.state o (list_to w.lists t0 t0.dialer) (list_to w.lists t0 s.peer)) (sym (side_after_same n t0 s0))
      (as_acceptor d s (ap (λ (v : TrunkId). node_of w.nodes v.dialer) (sym te) ∙ hd2) (ap (side_at d) (sym te) ∙ fs) (sym e)))))
      (λ td.
      subst (λ v. Row s.state (side_at v t) (list_to w.lists t t.dialer) (list_to w.lists t s.peer)) na
      (subst (λ o. Row s.state o (list_to w.lists t t.dialer) (list_to w.lists t s.peer)) (sym (side_after_other n t0 s0 t td))
      (g.table t d n s hd2 fs (ap (node_of w.nodes) (sym e) ∙ hx)))))
      (λ da. g.table t d a s hd2 fs (sym (there2 s.peer da) ∙ ha)))

  new_posted2 : (t : TrunkId) (z : Name) → is_some (fm.get w.lists (t, z)) ≡ true → Posted (set_node w.nodes x n2) t z
  new_posted2 t z h = go (g.posted t z h)
    where
      go : Posted w.nodes t z → Posted (set_node w.nodes x n2) t z
      go k = by_name _ x t.dialer
          (λ e.
          let same : k.1 ≡ n = same_Some k.1 n (sym k.2 ∙ ap (node_of w.nodes) (sym e) ∙ hx) in
          let old : side_at n t ≡ Some k.0 = ap (λ v. side_at v t) (sym same) ∙ k.3 in
          let at : node_of (set_node w.nodes x n2) t.dialer ≡ Some n2 = ap (node_of (set_node w.nodes x n2)) (sym e) ∙ here2 in
          by_trunk (Posted (set_node w.nodes x n2) t z) t t0
          (λ te. (
            s0,
            n2,
            at,
            ap (side_at n2) te ∙ side_after_same n t0 s0,
            peer_kept k.0 (f.peer_stays k.0 (ap (side_at n) (sym te) ∙ old)) k.4,
          ))
          (λ td. (k.0, n2, at, side_after_other n t0 s0 t td ∙ old, k.4)))
          (λ d. (k.0, k.1, there2 t.dialer d ∙ k.2, k.3, k.4))
        where
          peer_kept : (v : TrunkSide) → v.peer ≡ s0.peer → (t.dialer ≡ z) ⊎ (v.peer ≡ z) → (t.dialer ≡ z) ⊎ (s0.peer ≡ z)
          peer_kept v e (inl h) = inl h
          peer_kept v e (inr h) = inr (sym e ∙ h)

  each2 : (a z : Name) (t : TrunkId) (b : Node) → node_of (set_node w.nodes x n2) z ≡ Some b
      → Likely (set_node w.nodes x n2) w.lists a t z → Likely w.nodes w.lists a t z
  each2 a z t b hb l = by_name _ x a
      (λ e.
      let nd : n2 ≡ l.node = is_n2 a l.node e l.at in
      let hs : side_at n2 t ≡ Some l.side = ap (λ v. side_at v t) nd ∙ l.there in
      by_trunk _ t t0
      (λ te.
      let se : s0 ≡ l.side = same_Some s0 l.side (sym (side_after_same n t0 s0) ∙ ap (side_at n2) (sym te) ∙ hs) in
      let zp : s0.peer ≡ z = ap (λ (v : TrunkSide). v.peer) se ∙ l.peer in
      let xz : x ≡ s0.peer → ⊥ = λ i. f.stranger (sym i ∙ sym private_nx) in
      let old : Likely w.nodes w.lists x t0 s0.peer =
      likely ((λ i. may_be_up ((se i).state) (list_to w.lists (sym te i) (e i))) ∙ l.may) b
      (sym (there2 s0.peer xz) ∙ ap (node_of (set_node w.nodes x n2)) zp ∙ hb) in
      subst (λ v. Likely w.nodes w.lists v t z) e
      (subst (λ v. Likely w.nodes w.lists x v z) (sym te) (subst (λ v. Likely w.nodes w.lists x t0 v) zp old)))
      (λ td. record {
        node = n;
        at = ap (node_of w.nodes) (sym e) ∙ hx;
        side = l.side;
        there = sym (side_after_other n t0 s0 t td) ∙ hs;
        peer = l.peer;
        may = l.may;
      }))
      (λ d. record { node = l.node; at = sym (there2 a d) ∙ l.at; side = l.side; there = l.there; peer = l.peer; may = l.may })

  pub good_resided : Good (record { names = w.names; nodes = set_node w.nodes x (with_side_at n t0 s0); lists = w.lists })
  good_resided = record {
    core = core;
    home = new_home2;
    table = new_table2;
    posted = new_posted2;
    single = single_kept w.nodes w.lists (set_node w.nodes x n2) w.lists core.sides (λ a z t b hb l. inl (each2 a z t b hb l)) g.single;
  }
