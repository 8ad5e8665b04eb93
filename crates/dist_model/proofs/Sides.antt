-- What a node keeps of its sides, and what one node's part of an event does to its half of a pair.
use Rattle.std.proofs.Common.{◌≡◌, ℕ, ◌≤◌, Bool, true, false, cond, List, [], ◌∷◌, ◌++◌, refl, sym, ap}
use Rattle.std.proofs.Common.{◌∙◌, subst, ◌&&◌, ◌||◌, Option, Some, None, ◌⊎◌, inl, inr, append-nil}
use Rattle.std.proofs.lemmas.Bool.{or_right, or_from, and_parts, both_ways, and_left, and_right}
use Rattle.std.proofs.lemmas.Option.{same_Some, none-some}
use Rattle.std.specs.Option.{is_some}
use Rattle.std.specs.FinMap as fm
use Rattle.dist_model.proofs.Envelopes.{Envelope, outgoing}
use Rattle.dist_model.proofs.Calls.{by_test}
use Rattle.dist_model.proofs.Keys.{same_name_is, same_name_true, same_trunk, same_trunk_is, same_trunk_true}
use Rattle.dist_model.proofs.Moves.{held_along, reach_held}
use Rattle.dist_model.proofs.Posts.{AllRouted, NodeKept, held}
use Rattle.dist_model.proofs.Routes.{Found, at_place, fst_of, route_is, side_where_found, side_where_none}
use Rattle.dist_model.proofs.Views.{over, side_of, to_name, view}
use Rattle.dist_model.proofs.Pair.{keeps_draw}
use Rattle.dist_model.specs.Items.{Item, news}
use Rattle.dist_model.specs.Names.{Name, same_name}
use Rattle.dist_model.specs.Node.{Node, end_of, reaches, route, route_in, side_where}
pub use Rattle.dist_model.specs.Sides.{holds}
use Rattle.dist_model.specs.Sides.{Asked, AwaitsAck, Losing, Parked, State, TrunkSide, Up, is_gone, is_up, is_waiting}
use Rattle.dist_model.specs.Work.{Work, at_work}
use Rattle.erl_names.specs.Order.{trunk_cmp}
use Rattle.erl_names.specs.declared.trunk.TrunkId.{TrunkId}
use Rattle.erl_term.specs.declared.term.Pid.{Pid}
use Rattle.link_core.proofs.Kept.{Kept, keeps_ended, side_path}
use Rattle.link_core.specs.News.{LinkNews, noproc}
use Rattle.link_core.specs.Pair.{Side}
use Rattle.link_core.specs.declared.end.End.{End}
use Rattle.std.specs.FinMap.{FinMap}
use Rattle.dist_model.specs.Keeping.{is_engaged}

abbrev pub asks : State → Bool
asks (Asked w) = true
asks (Parked w) = true
asks _ = false

pub asks_waits : (v : State) → asks v ≡ true → is_waiting v ≡ true
asks_waits (Asked w) h = refl
asks_waits (Parked w) h = refl
asks_waits _ h = cc

-- one that holds the peer's records, and one that waits for its end
abbrev pub beside : State → State → Bool
beside a b = (holds a && asks b) || (asks a && holds b)

-- one that neither holds nor asks stands beside none, and two that both don't hold, or both don't ask, not beside one another
pub beside_neither : (a b : State) → holds a ≡ false → asks a ≡ false → beside a b ≡ true → ⊥
beside_neither a b h k e = both_ways _ (or_from _ _ (and_left _ _ h) (and_left _ _ k)) e

pub unheld_beside : (a b : State) → holds a ≡ false → holds b ≡ false → beside a b ≡ true → ⊥
unheld_beside a b h k e = both_ways _ (or_from _ _ (and_left _ _ h) (and_right _ _ k)) e

pub not_beside : (a b : State) → asks a ≡ false → asks b ≡ false → beside a b ≡ true → ⊥
not_beside a b h k e = both_ways _ (or_from _ _ (and_right _ _ k) (and_left _ _ h)) e

abbrev pub side_at : Node → TrunkId → Option TrunkSide
side_at n t = fm.get n.sides t

-- two sides towards one peer that aren't gone are one, or one waits for the end of the other
abbrev pub Single : FinMap trunk_cmp TrunkSide → Type 0
Single m = (t u : TrunkId) (s v : TrunkSide) → fm.get m t ≡ Some s → fm.get m u ≡ Some v → s.peer ≡ v.peer → is_gone s.state ≡ false
    → is_gone v.state ≡ false
    → (t ≡ u) ⊎ (beside s.state v.state ≡ true)

pub record SidesKept (n : Node) : Type 0 where
  pub one : Single n.sides
  pub other : (t : TrunkId) (s : TrunkSide) → side_at n t ≡ Some s → s.peer ≡ n.mint.name → ⊥
  pub mine : (t : TrunkId) (s : TrunkSide) → side_at n t ≡ Some s → (t.dialer ≡ n.mint.name) ⊎ (t.dialer ≡ s.peer)

-- of the two sides of a pair of nodes one is up, and the other is up or about to be
abbrev pub joined : State → Bool
joined (AwaitsAck w) = true
joined Up = true
joined _ = false

pub up_not_gone : (v : State) → is_up v ≡ true → is_gone v ≡ false
up_not_gone Up h = refl
up_not_gone _ h = cc

pub up_is : (v : State) → is_up v ≡ true → v ≡ Up
up_is Up h = refl
up_is _ h = cc

pub up_holds : (v : State) → is_up v ≡ true → (holds v ≡ true) × (asks v ≡ false)
up_holds Up h = (refl, refl)
up_holds _ h = cc

pub holds_kinds : (v : State) → holds v ≡ true → (is_gone v ≡ false) × (asks v ≡ false)
holds_kinds Up h = (refl, refl)
holds_kinds Losing h = (refl, refl)
holds_kinds _ h = cc

-- two that hold don't stand beside one another
pub beside_up : (a b : State) → holds a ≡ true → holds b ≡ true → beside a b ≡ true → ⊥
beside_up a b ha hb = not_beside a b (holds_kinds a ha).1 (holds_kinds b hb).1

-- the route of a side that is up
pub route_up : (n : Node) (t : TrunkId) (s : TrunkSide) → SidesKept n → side_at n t ≡ Some s → is_up s.state ≡ true
    → route n s.peer ≡ Some t
route_up n t s k h u = route_is (fm.entries n.sides) s.peer ∙ go (side_where is_up s.peer (fm.entries n.sides)) refl
  where
    pick : (e : TrunkId × TrunkSide) → Found is_up s.peer (fm.entries n.sides) e → (e.0 ≡ t)
        ⊎ (beside e.1.state s.state ≡ true) → fst_of (Some e) ≡ Some t
    pick e f (inl h) = ap Some h
    pick e f (inr h) = absurd (beside_up e.1.state s.state (up_holds e.1.state f.passes).0 (up_holds s.state u).0 h)

    go : (o : Option (TrunkId × TrunkSide)) → side_where is_up s.peer (fm.entries n.sides) ≡ o → fst_of o ≡ Some t
    go None e =
        let c : true ≡ false = sym u ∙ side_where_none is_up s.peer (fm.entries n.sides) t s e (sym (fm.get-entries n.sides t) ∙ h) refl in
        cc
    go (Some e) i =
        let f = side_where_found is_up s.peer (fm.entries n.sides) e (fm.entries_sorted n.sides) i in
        pick e f
        (k.one e.0 t e.1 s (fm.get-entries n.sides e.0 ∙ f.there) h f.peer (up_not_gone e.1.state f.passes) (up_not_gone s.state u))

-- what a route comes from
pub record Routed (n : Node) (y : Name) (t : TrunkId) : Type 0 where
  pub found : TrunkSide
  pub there : side_at n t ≡ Some found
  pub peer : found.peer ≡ y
  pub up : is_up found.state ≡ true

pub route_from : (n : Node) (y : Name) (t : TrunkId) → route n y ≡ Some t → Routed n y t
route_from n y t h = go (side_where is_up y (fm.entries n.sides)) refl (sym (route_is (fm.entries n.sides) y) ∙ h)
  where
    go : (o : Option (TrunkId × TrunkSide)) → side_where is_up y (fm.entries n.sides) ≡ o → fst_of o ≡ Some t → Routed n y t
    go None i h = absurd (none-some t h)
    go (Some e) i h =
        let f = side_where_found is_up y (fm.entries n.sides) e (fm.entries_sorted n.sides) i in
        record {
          found = e.1;
          there = ap (fm.get n.sides) (sym (same_Some e.0 t h)) ∙ fm.get-entries n.sides e.0 ∙ f.there;
          peer = f.peer;
          up = f.passes;
        }

-- where the own side is about to be up, the node holds nothing of the peer
not_held_replied : (a b : State) → joined a ≡ true → is_up a ≡ false → holds b ≡ true → (a ≡ b → ⊥) × (beside a b ≡ true → ⊥)
not_held_replied (AwaitsAck w) Up j u h = (λ e. cc, λ e. cc)
not_held_replied (AwaitsAck w) Losing j u h = (λ e. cc, λ e. cc)
not_held_replied _ _ j u h = cc

pub joined_not_gone : (a : State) → joined a ≡ true → is_gone a ≡ false
joined_not_gone (AwaitsAck w) h = refl
joined_not_gone Up h = refl
joined_not_gone _ h = cc

pub not_own : (n : Node) (t : TrunkId) (s : TrunkSide) → SidesKept n → side_at n t ≡ Some s → same_name s.peer n.mint.name ≡ false
not_own n t s k h = go (same_name s.peer n.mint.name) refl
  where
    go : (b : Bool) → same_name s.peer n.mint.name ≡ b → same_name s.peer n.mint.name ≡ false
    go true e = absurd (k.other t s h (same_name_true s.peer n.mint.name e))
    go false e = e

pub not_held : (n : Node) (t : TrunkId) (s : TrunkSide) → SidesKept n → side_at n t ≡ Some s → joined s.state ≡ true
    → is_up s.state ≡ false → held n s.peer ≡ false
not_held n t s k h j u =
    or_from (same_name s.peer n.mint.name) (is_some (side_where holds s.peer (fm.entries n.sides))) (not_own n t s k h)
    (go (side_where holds s.peer (fm.entries n.sides)) refl)
  where
    pick : (e : TrunkId × TrunkSide) → Found holds s.peer (fm.entries n.sides) e → (t ≡ e.0) ⊎ (beside s.state e.1.state ≡ true) → ⊥
    pick e f (inl i) =
        let g : e.1 ≡ s = same_Some e.1 s (sym (fm.get-entries n.sides e.0 ∙ f.there) ∙ ap (fm.get n.sides) (sym i) ∙ h) in
        (not_held_replied s.state e.1.state j u f.passes).0 (ap (λ (v : TrunkSide). v.state) (sym g))
    pick e f (inr i) = (not_held_replied s.state e.1.state j u f.passes).1 i

    go : (o : Option (TrunkId × TrunkSide)) → side_where holds s.peer (fm.entries n.sides) ≡ o → is_some o ≡ false
    go None e = refl
    go (Some e) i =
        let f = side_where_found holds s.peer (fm.entries n.sides) e (fm.entries_sorted n.sides) i in
        absurd (pick e f (k.one t e.0 s e.1 h (fm.get-entries n.sides e.0 ∙ f.there) (sym f.peer) (joined_not_gone s.state j)
        (holds_kinds e.1.state f.passes).0))

-- envelopes to y
pub at_place_all : (m : FinMap trunk_cmp TrunkSide) (es : List Envelope) (t : TrunkId) (y : Name) → AllRouted m es
    → route_in (fm.entries m) y ≡ Some t → at_place t y es ≡ to_name y es
at_place_all m [] t y a r = refl
at_place_all m (e ∷ es) t y a r = λ i. cond (tests i) (e.item ∷ []) [] ++ at_place_all m es t y a.1 r i
  where
    tests : (same_trunk t e.trunk && same_name y e.target) ≡ same_name e.target y
    tests = by_test _ (same_name e.target y)
        (λ h.
        let n : e.target ≡ y = same_name_true e.target y h in
        let u : t ≡ e.trunk = same_Some t e.trunk (sym r ∙ ap (route_in (fm.entries m)) (sym n) ∙ a.0) in
        ap (λ b. b && same_name y e.target) (same_trunk_is t e.trunk u) ∙ same_name_is y e.target (sym n) ∙ sym h)
        (λ h. by_test _ (same_trunk t e.trunk && same_name y e.target)
        (λ g. let v = and_parts (same_trunk t e.trunk) (same_name y e.target) g in
        let c : true ≡ false = sym (same_name_is e.target y (sym (same_name_true y e.target v.1))) ∙ h in cc)
        (λ g. g ∙ sym h))

pub at_place_none : (m : FinMap trunk_cmp TrunkSide) (es : List Envelope) (t : TrunkId) (y : Name) → AllRouted m es
    → (route_in (fm.entries m) y ≡ Some t → ⊥) → at_place t y es ≡ []
at_place_none m [] t y a r = refl
at_place_none m (e ∷ es) t y a r = by_test _ (same_trunk t e.trunk && same_name y e.target)
    (λ h.
    let v = and_parts (same_trunk t e.trunk) (same_name y e.target) h in
    let u : t ≡ e.trunk = same_trunk_true t e.trunk v.0 in
    let n : y ≡ e.target = same_name_true y e.target v.1 in
    absurd (r (ap (route_in (fm.entries m)) n ∙ a.0 ∙ ap Some (sym u))))
    (λ h. ap (λ b. cond b (e.item ∷ []) [] ++ at_place t y es) h ∙ at_place_none m es t y a.1 r)

-- a half with no link may go on drawing ids, and end
quiet : (g h : Bool) (n m : ℕ) (L : List LinkNews) (b : Side) → n ≤ m → (g ≡ true → h ≡ true)
    → Kept (record { end = End.None; gone = g; drawn = n; sent = L }) b
    → Kept (record { end = End.None; gone = h; drawn = m; sent = L }) b
quiet g h n m L b le gh k = ends g h gh (keeps_draw (record { end = End.None; gone = g; drawn = n; sent = L }) b m le k)
  where
    ends : (g h : Bool) → (g ≡ true → h ≡ true) → Kept (record { end = End.None; gone = g; drawn = m; sent = L }) b
        → Kept (record { end = End.None; gone = h; drawn = m; sent = L }) b
    ends true false f k = let c : false ≡ true = f refl in cc
    ends false true f k = subst (λ l. Kept (record { end = End.None; gone = true; drawn = m; sent = l }) b) (append-nil L)
        (keeps_ended noproc (record { end = End.None; gone = false; drawn = m; sent = L }) b refl k)
    ends _ _ f k = k

pub quiet_half : (a c b : Side) → a.end ≡ End.None → c.end ≡ End.None → a.drawn ≤ c.drawn → (a.gone ≡ true → c.gone ≡ true)
    → c.sent ≡ a.sent → Kept a b → Kept c b
quiet_half a c b ea ec d g s k =
    subst (λ v. Kept v b)
    (side_path (record { end = End.None; gone = c.gone; drawn = c.drawn; sent = a.sent }) c (sym ec) refl refl (sym s))
    (quiet a.gone c.gone a.drawn c.drawn a.sent b d g
    (subst (λ v. Kept v b) (side_path a (record { end = End.None; gone = a.gone; drawn = a.drawn; sent = a.sent }) ea refl refl refl) k))

pub absent_or : (e : End) → ((e ≡ End.None → ⊥) → ⊥) → e ≡ End.None
absent_or End.None n = refl
absent_or _ n = absurd (n (λ h. cc))

pub unheld_absent : (n : Node) (p q : Pid) → NodeKept n → held n q.node ≡ false → end_of n p q ≡ End.None
unheld_absent n p q k h = absent_or (end_of n p q) (λ e. let c : true ≡ false = sym (k.rooted p q e).1 ∙ h in cc)

pub some_true : {A : Type 0} (o : Option A) (a : A) → o ≡ Some a → is_some o ≡ true
some_true o a h = ap is_some h

pub reach_up : (n : Node) (t : TrunkId) (s : TrunkSide) → SidesKept n → side_at n t ≡ Some s → is_up s.state ≡ true
    → reaches n s.peer ≡ true
reach_up n t s k h u =
    or_right (same_name s.peer n.mint.name) (is_some (route n s.peer)) (some_true (route n s.peer) t (route_up n t s k h u))

-- what one part of an event does to the own half of a pair on a trunk
module _ (n : Node) (o : Work) (sd : o.node.sides ≡ n.sides) (nm : o.node.mint.name ≡ n.mint.name) (kn : NodeKept n) (ko : NodeKept o.node)
    (gr : (p : Pid) → over n p ≡ true → over o.node p ≡ true) (dr : n.mint.unlink_ids ≤ o.node.mint.unlink_ids)
    (ro : AllRouted o.node.sides (outgoing o)) (sk : SidesKept n) where
  pub up_half : (t : TrunkId) (s : TrunkSide) → side_at n t ≡ Some s → is_up s.state ≡ true → (p q : Pid) → q.node ≡ s.peer
      → (L : List Item) (c d : Side)
      → ((b : List LinkNews) → reaches n q.node ≡ true → Kept (view b (at_work n) p q) c → Kept (view b o p q) d)
      → Kept (side_of n p q (news p q L)) c → Kept (side_of o.node p q (news p q L ++ news p q (at_place t s.peer (outgoing o)))) d
  up_half t s h u p q e L c d vs k =
      let own : same_name q.node n.mint.name ≡ false = ap (λ y. same_name y n.mint.name) e ∙ not_own n t s sk h in
      let own2 : same_name q.node o.node.mint.name ≡ false = ap (same_name q.node) nm ∙ own in
      let r : reaches n q.node ≡ true = ap (reaches n) e ∙ reach_up n t s sk h u in
      let before : (view (news p q L) (at_work n) p q).sent ≡ news p q L =
      ap (λ b. news p q L ++ news p q (cond b n.local [])) own ∙ append-nil (news p q L) in
      let route2 : route_in (fm.entries o.node.sides) s.peer ≡ Some t =
      ap (λ m. route_in (fm.entries m) s.peer) sd ∙ route_up n t s sk h u in
      let after : (view (news p q L) o p q).sent ≡ news p q L ++ news p q (at_place t s.peer (outgoing o)) =
      ap (λ b. news p q L ++ news p q (cond b o.node.local (to_name q.node (outgoing o)))) own2
      ∙ ap (λ y. news p q L ++ news p q (to_name y (outgoing o))) e
      ∙ ap (λ l. news p q L ++ news p q l) (sym (at_place_all o.node.sides (outgoing o) t s.peer ro route2)) in
      subst (λ a. Kept a d) (side_path (view (news p q L) o p q)
      (side_of o.node p q (news p q L ++ news p q (at_place t s.peer (outgoing o)))) refl refl refl after)
      (vs (news p q L) r (subst (λ a. Kept a c)
      (side_path (side_of n p q (news p q L)) (view (news p q L) (at_work n) p q) refl refl refl (sym before)) k))

  far_half : (t : TrunkId) (s : TrunkSide) → side_at n t ≡ Some s → joined s.state ≡ true → is_up s.state ≡ false
      → (p q : Pid) → q.node ≡ s.peer → (L : List Item) (c : Side)
      → Kept (side_of n p q (news p q L)) c → Kept (side_of o.node p q (news p q L ++ news p q (at_place t s.peer (outgoing o)))) c
  far_half t s h j u p q e L c k =
      let f : held n q.node ≡ false = ap (held n) e ∙ not_held n t s sk h j u in
      let g : held o.node q.node ≡ false = held_along n o.node sd nm q.node ∙ f in
      let none : at_place t s.peer (outgoing o) ≡ [] = at_place_none o.node.sides (outgoing o) t s.peer ro (λ r.
      let r2 : reaches n s.peer ≡ true =
      or_right (same_name s.peer n.mint.name) (is_some (route n s.peer))
      (some_true (route n s.peer) t (ap (λ m. route_in (fm.entries m) s.peer) (sym sd) ∙ r)) in
      let c : true ≡ false = sym (reach_held n s.peer r2) ∙ not_held n t s sk h j u in cc) in
      quiet_half (side_of n p q (news p q L)) (side_of o.node p q (news p q L ++ news p q (at_place t s.peer (outgoing o)))) c
      (unheld_absent n p q kn f) (unheld_absent o.node p q ko g) dr (gr p)
      (ap (λ l. news p q L ++ news p q l) none ∙ append-nil (news p q L)) k

  pub half : (t : TrunkId) (s : TrunkSide) → side_at n t ≡ Some s → joined s.state ≡ true → (p q : Pid) → q.node ≡ s.peer
      → (L : List Item) (c : Side)
      → ((b : List LinkNews) → reaches n q.node ≡ true → Kept (view b (at_work n) p q) c → Kept (view b o p q) c)
      → Kept (side_of n p q (news p q L)) c → Kept (side_of o.node p q (news p q L ++ news p q (at_place t s.peer (outgoing o)))) c
  half t s h j p q e L c vs k = by_test _ (is_up s.state) (λ u. up_half t s h u p q e L c c vs k) (λ u. far_half t s h j u p q e L c k)

pub sides_kept : (n m : Node) → m.sides ≡ n.sides → m.mint.name ≡ n.mint.name → SidesKept n → SidesKept m
sides_kept n m sd nm k = record {
  one = λ t u s v a b. k.one t u s v (at t ∙ a) (at u ∙ b);
  other = λ t s a e. k.other t s (at t ∙ a) (e ∙ nm);
  mine = λ t s a. pick t s (k.mine t s (at t ∙ a));
}
  where
    at : (t : TrunkId) → side_at n t ≡ side_at m t
    at t = ap (λ l. fm.get l t) (sym sd)

    pick : (t : TrunkId) (s : TrunkSide) → (t.dialer ≡ n.mint.name) ⊎ (t.dialer ≡ s.peer) → (t.dialer ≡ m.mint.name) ⊎ (t.dialer ≡ s.peer)
    pick t s (inl e) = inl (e ∙ sym nm)
    pick t s (inr e) = inr e

pub up_engaged : (s : State) → is_up s ≡ true → is_engaged s ≡ true
up_engaged Up h = refl
up_engaged _ h = cc
