-- Nodes by name, lists by place, sides by trunk.
use Rattle.std.proofs.Common.{◌≡◌, Bool, true, false, cond, List, [], ◌∷◌, ◌++◌, refl, sym, ap}
use Rattle.std.proofs.Common.{◌∙◌, subst, ◌&&◌, Option, Some, None, append_assoc, append-nil, T}
use Rattle.std.proofs.lemmas.Bool.{and_parts}
use Rattle.std.proofs.lemmas.Option.{same_Some, none-some}
use Rattle.std.specs.Ordering.{is_eq, eq_by_cmp}
use Rattle.std.specs.Cmp.{tied_itself}
use Rattle.std.specs.FinMap as fm
use Rattle.std.specs.Option.{option_map}
use Rattle.std.specs.FinMap.Entries.{find, is_sorted, below_all}
use Rattle.sorted_map.specs.Facts.{both_pass}
use Rattle.dist_model.proofs.Envelopes.{Envelope, sent_in}
use Rattle.dist_model.proofs.Keys.{place_total, same_name_is, same_name_true, same_place}
use Rattle.dist_model.proofs.Keys.{same_trunk, same_trunk_true, trunk_total, below_key, trunk_exact}
use Rattle.dist_model.proofs.Seen.{list_in}
use Rattle.dist_model.specs.declared.report.Effect.{Effect}
use Rattle.dist_model.specs.Items.{Item}
use Rattle.dist_model.specs.Names.{Name, place_cmp, same_name}
use Rattle.dist_model.specs.Node.{Node, route_in, side_where}
use Rattle.dist_model.specs.Sides.{State, TrunkSide, is_up}
use Rattle.dist_model.specs.World.{carried, list_to, node_of, set_node}
use Rattle.erl_names.specs.Order.{trunk_cmp}
use Rattle.erl_names.specs.declared.trunk.TrunkId.{TrunkId}
use Rattle.std.specs.FinMap.{FinMap}

-- nodes
pub node_of_name : (ns : List Node) (x : Name) (n : Node) → node_of ns x ≡ Some n → n.mint.name ≡ x
node_of_name [] x n h = absurd (none-some n h)
node_of_name (m ∷ ns) x n h = go (same_name m.mint.name x) refl h (node_of_name ns x n)
  where
    go : (b : Bool) → same_name m.mint.name x ≡ b → cond b (Some m) (node_of ns x) ≡ Some n
        → (node_of ns x ≡ Some n → n.mint.name ≡ x) → n.mint.name ≡ x
    go true e h f = ap (λ (v : Node). v.mint.name) (sym (same_Some m n h)) ∙ same_name_true m.mint.name x e
    go false e h f = f h

pub node_of_set_same : (ns : List Node) (x : Name) (n m : Node) → node_of ns x ≡ Some n → m.mint.name ≡ x
    → node_of (set_node ns x m) x ≡ Some m
node_of_set_same [] x n m h e = absurd (none-some n h)
node_of_set_same (k ∷ ns) x n m h e = go (same_name k.mint.name x) refl h (λ f. node_of_set_same ns x n m f e)
  where
    go : (b : Bool) → same_name k.mint.name x ≡ b → cond b (Some k) (node_of ns x) ≡ Some n
        → (node_of ns x ≡ Some n → node_of (set_node ns x m) x ≡ Some m)
        → node_of (cond b (m ∷ ns) (k ∷ set_node ns x m)) x ≡ Some m
    go true i h f = ap (λ b. cond b (Some m) (node_of ns x)) (same_name_is m.mint.name x e)
    go false i h f = ap (λ b. cond b (Some k) (node_of (set_node ns x m) x)) i ∙ f h

pub node_of_set_other : (ns : List Node) (x y : Name) (m : Node) → m.mint.name ≡ x → (x ≡ y → ⊥)
    → node_of (set_node ns x m) y ≡ node_of ns y
node_of_set_other [] x y m e d = refl
node_of_set_other (k ∷ ns) x y m e d = go (same_name k.mint.name x) refl (node_of_set_other ns x y m e d)
  where
    not_same : (z : Name) → z ≡ x → same_name z y ≡ false
    not_same z h = pick (same_name z y) refl
      where
        pick : (b : Bool) → same_name z y ≡ b → same_name z y ≡ false
        pick true i = absurd (d (sym h ∙ same_name_true z y i))
        pick false i = i

    go : (b : Bool) → same_name k.mint.name x ≡ b → node_of (set_node ns x m) y ≡ node_of ns y
        → node_of (cond b (m ∷ ns) (k ∷ set_node ns x m)) y ≡ cond (same_name k.mint.name y) (Some k) (node_of ns y)
    go true i f =
        ap (λ b. cond b (Some m) (node_of ns y)) (not_same m.mint.name e)
        ∙ ap (λ b. cond b (Some k) (node_of ns y)) (sym (not_same k.mint.name (same_name_true k.mint.name x i)))
    go false i f = ap (cond (same_name k.mint.name y) (Some k)) f

-- lists
abbrev pub at_place : TrunkId → Name → List Envelope → List Item
at_place t y [] = []
at_place t y (e ∷ es) = cond (same_trunk t e.trunk && same_name y e.target) (e.item ∷ []) [] ++ at_place t y es

pub list_to_insert : (m : FinMap place_cmp (List Item)) (u : TrunkId) (z : Name) (l : List Item) (t : TrunkId) (y : Name)
    → list_to (fm.insert m (u, z) l) t y ≡ cond (same_trunk t u && same_name y z) l (list_to m t y)
list_to_insert m u z l t y =
    ap list_in (fm.get-insert place_total m (u, z) l (t, y)) ∙ go (eq_by_cmp place_cmp (t, y) (u, z))
    ∙ ap (λ b. cond b l (list_to m t y)) (same_place t u y z)
  where
    go : (b : Bool) → list_in (cond b (Some l) (fm.get m (t, y))) ≡ cond b l (list_in (fm.get m (t, y)))
    go true = refl
    go false = refl

pub list_to_carried : (m : FinMap place_cmp (List Item)) (fs : List (Effect Item)) (t : TrunkId) (y : Name)
    → list_to (carried m fs) t y ≡ list_to m t y ++ at_place t y (sent_in fs)
list_to_carried m [] t y = sym (append-nil (list_to m t y))
list_to_carried m (Effect.Sent (Some u) z x ∷ fs) t y =
    list_to_carried (fm.insert m (u, z) (list_to m u z ++ x ∷ [])) fs t y
    ∙ ap (λ l. l ++ at_place t y (sent_in fs))
    (list_to_insert m u z (list_to m u z ++ x ∷ []) t y ∙ go (same_trunk t u && same_name y z) refl)
    ∙ append_assoc (list_to m t y) (cond (same_trunk t u && same_name y z) (x ∷ []) []) (at_place t y (sent_in fs))
  where
    go : (b : Bool) → (same_trunk t u && same_name y z) ≡ b
        → cond b (list_to m u z ++ x ∷ []) (list_to m t y) ≡ list_to m t y ++ cond b (x ∷ []) []
    go true h =
        let v = and_parts (same_trunk t u) (same_name y z) h in
        let a : t ≡ u = same_trunk_true t u v.0 in
        let c : y ≡ z = same_name_true y z v.1 in
        ap (λ l. l ++ x ∷ []) (λ i. list_to m (sym a i) (sym c i))
    go false h = sym (append-nil (list_to m t y))
list_to_carried m (_ ∷ fs) t y = list_to_carried m fs t y

-- sides: the first that passes a test is a side, and a side that passes is found
pub record Found (test : State → Bool) (y : Name) (es : List (TrunkId × TrunkSide)) (e : TrunkId × TrunkSide) : Type 0 where
  pub there : find trunk_cmp e.0 es ≡ Some e.1
  pub peer : e.1.peer ≡ y
  pub passes : test e.1.state ≡ true

first_there : (e : TrunkId × TrunkSide) (es : List (TrunkId × TrunkSide)) → find trunk_cmp e.0 (e ∷ es) ≡ Some e.1
first_there e es = ap (λ r. cond (is_eq r) (Some e.1) (find trunk_cmp e.0 es)) (tied_itself trunk_total e.0)

pub side_where_found : (test : State → Bool) (y : Name) (es : List (TrunkId × TrunkSide)) (e : TrunkId × TrunkSide)
    → T (is_sorted trunk_cmp es) → side_where test y es ≡ Some e → Found test y es e
side_where_found test y [] e s h = absurd (none-some e h)
side_where_found test y (d ∷ es) e s h =
    let t = both_pass (below_all trunk_cmp d.0 es) (is_sorted trunk_cmp es) s in
    go (same_name d.1.peer y && test d.1.state) refl h (side_where_found test y es e t.1) t.0
  where
    go : (b : Bool) → (same_name d.1.peer y && test d.1.state) ≡ b → cond b (Some d) (side_where test y es) ≡ Some e
        → (side_where test y es ≡ Some e → Found test y es e) → T (below_all trunk_cmp d.0 es) → Found test y (d ∷ es) e
    go true i h f t =
        let v = and_parts (same_name d.1.peer y) (test d.1.state) i in
        subst (λ z. Found test y (d ∷ es) z) (same_Some d e h)
        (record { there = first_there d es; peer = same_name_true d.1.peer y v.0; passes = v.1 })
    go false i h f t =
        let g = f h in
        record {
          there = ap (λ b. cond b (Some d.1) (find trunk_cmp e.0 es)) (below_key trunk_cmp trunk_exact e.0 d.0 e.1 es t g.there) ∙ g.there;
          peer = g.peer;
          passes = g.passes;
        }

pub side_where_none : (test : State → Bool) (y : Name) (es : List (TrunkId × TrunkSide)) (t : TrunkId) (s : TrunkSide)
    → side_where test y es ≡ None → find trunk_cmp t es ≡ Some s → s.peer ≡ y → test s.state ≡ false
side_where_none test y [] t s h f p = absurd (none-some s f)
side_where_none test y (d ∷ es) t s h f p =
    go (same_name d.1.peer y && test d.1.state) refl h (same_trunk t d.0) f (λ n g. side_where_none test y es t s n g p)
  where
    and_false_right : (a b : Bool) → a ≡ true → (a && b) ≡ false → b ≡ false
    and_false_right true b h k = k
    and_false_right false b h k = cc

    go : (b : Bool) → (same_name d.1.peer y && test d.1.state) ≡ b → cond b (Some d) (side_where test y es) ≡ None
        → (c : Bool) → cond c (Some d.1) (find trunk_cmp t es) ≡ Some s
        → (side_where test y es ≡ None → find trunk_cmp t es ≡ Some s → test s.state ≡ false) → test s.state ≡ false
    go true i h c f k = absurd (none-some d (sym h))
    go false i h true f k =
        let e : d.1 ≡ s = same_Some d.1 s f in
        let n : same_name d.1.peer y ≡ true = same_name_is d.1.peer y (ap (λ (v : TrunkSide). v.peer) e ∙ p) in
        ap (λ (v : TrunkSide). test v.state) (sym e) ∙ and_false_right (same_name d.1.peer y) (test d.1.state) n i
    go false i h false f k = k h f

-- the route is the first side that is up
abbrev pub fst_of : Option (TrunkId × TrunkSide) → Option TrunkId
fst_of = option_map (λ (e : TrunkId × TrunkSide). e.0)

pub route_is : (es : List (TrunkId × TrunkSide)) (y : Name) → route_in es y ≡ fst_of (side_where is_up y es)
route_is es y = refl
