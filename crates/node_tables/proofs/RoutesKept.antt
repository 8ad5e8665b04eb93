-- The routes are those of the sides that are up, before and after a change.
use Rattle.std.proofs.Common.{◌≡◌, Bool, true, false, cond, not, ◌&&◌, List, [], Option, None, Some, refl, sym, ap, subst, ◌∙◌}
use Rattle.std.proofs.lemmas.Bool.{and_parts, and_left, and_right, false≢true}
use Rattle.std.specs.Ordering.{eq_by_cmp}
use Rattle.std.specs.Option.{option_map}
use Rattle.std.specs.FinMap.{find, put}
use Rattle.std.specs.FinMap.Entries.{find-put, find-where_key}
use Rattle.std.specs.Cmp.Derive.{both_true}
use Rattle.conn_core.specs.declared.side.Side.{Side}
use Rattle.dist_model.proofs.Calls.{by_test}
use Rattle.dist_model.proofs.Keys.{name_exact, name_total, same_name_is, same_name_true, same_trunk}
use Rattle.dist_model.proofs.Keys.{same_trunk_is, same_trunk_refl, same_trunk_true, trunk_total}
use Rattle.dist_model.proofs.Routes.{side_where_found, side_where_none}
use Rattle.dist_model.specs.Names.{Name, same_name}
use Rattle.dist_model.specs.Node.{route_in, side_where}
use Rattle.dist_model.specs.Sides.{TrunkSide, is_up}
use Rattle.erl_names.specs.Order.{name_cmp, trunk_cmp}
use Rattle.erl_names.specs.declared.trunk.TrunkId.{TrunkId}
use Rattle.sorted_map.specs.Entries.{without}
use Rattle.node_tables.proofs.Placed.{Entry, IsSorted, holds}
use Rattle.node_tables.proofs.Whole.{without_find}
use Rattle.node_tables.specs.Standings.{AreRouted, entries_of, is_up_to, leads_to}

-- ---- what a peer is found to have

module _ (peer : Name) (es : List Entry) where
  record UpAt (trunk : TrunkId) : Type 0 where
    side : TrunkSide
    there : find trunk_cmp trunk es ≡ Some side
    towards : side.peer ≡ peer
    up : is_up side.state ≡ true

  up_at : (trunk : TrunkId) → is_up_to peer (find trunk_cmp trunk es) ≡ true → UpAt trunk
  up_at trunk h = go (find trunk_cmp trunk es) refl h
    where
      go : (o : Option TrunkSide) → find trunk_cmp trunk es ≡ o → is_up_to peer o ≡ true → UpAt trunk
      go None i h = absurd (false≢true h)
      go (Some s) i h =
          let t = and_parts (same_name s.peer peer) (is_up s.state) h in
          record { side = s; there = i; towards = same_name_true s.peer peer t.0; up = t.1 }

abbrev first_of : Option Entry → Option TrunkId
first_of = option_map (λ (e : Entry). e.0)

pub routed_is : (routes : List (Name × TrunkId)) (held : List Side) (peer : Name) → IsSorted held → AreRouted routes held
    → find name_cmp peer routes ≡ route_in (entries_of held) peer
routed_is routes held peer s r = go (find name_cmp peer routes) refl (side_where is_up peer (entries_of held)) refl
  where
    led : (t : TrunkId) (o : Option TrunkId) → find name_cmp peer routes ≡ o
        → leads_to t o ≡ is_up_to peer (find trunk_cmp t (entries_of held))
    led t o i = ap (leads_to t) (sym i) ∙ r peer t

    same : (o : Option TrunkId) → find name_cmp peer routes ≡ o → (f : Option Entry)
        → side_where is_up peer (entries_of held) ≡ f → o ≡ first_of f
    same None i None j = refl
    same None i (Some e) j =
        let f = side_where_found is_up peer (entries_of held) e (holds _ s) j in
        absurd (false≢true (led e.0 None i ∙ ap (is_up_to peer) f.there ∙ both_true (same_name_is e.1.peer peer f.peer) f.passes))
    same (Some t) i None j =
        let u = up_at peer (entries_of held) t (sym (led t (Some t) i) ∙ same_trunk_refl t) in
        absurd (false≢true (sym (side_where_none is_up peer (entries_of held) t u.side j u.there u.towards) ∙ u.up))
    same (Some t) i (Some e) j =
        let f = side_where_found is_up peer (entries_of held) e (holds _ s) j in
        ap Some (sym (same_trunk_true e.0 t
        (led e.0 (Some t) i ∙ ap (is_up_to peer) f.there ∙ both_true (same_name_is e.1.peer peer f.peer) f.passes)))

    go : (o : Option TrunkId) → find name_cmp peer routes ≡ o → (f : Option Entry)
        → side_where is_up peer (entries_of held) ≡ f → find name_cmp peer routes ≡ route_in (entries_of held) peer
    go o i f j = i ∙ same o i f j ∙ ap first_of (sym j)

-- ---- a side comes, or stands otherwise

module _ (es fs : List Entry) (trunk : TrunkId) (v : TrunkSide) (e : fs ≡ put trunk_cmp trunk v es) where
  put_at : (q : Name) (t : TrunkId)
      → is_up_to q (find trunk_cmp t fs) ≡ is_up_to q (cond (same_trunk t trunk) (Some v) (find trunk_cmp t es))
  put_at q t = ap (λ l. is_up_to q (find trunk_cmp t l)) e ∙ ap (is_up_to q) (find-put trunk_cmp trunk_total t trunk v es)

  put_here : (q : Name) (t : TrunkId) → same_trunk t trunk ≡ true → is_up_to q (find trunk_cmp t fs) ≡ (same_name v.peer q && is_up v.state)
  put_here q t h = put_at q t ∙ ap (λ b. is_up_to q (cond b (Some v) (find trunk_cmp t es))) h

  put_beside : (q : Name) (t : TrunkId) → same_trunk t trunk ≡ false → is_up_to q (find trunk_cmp t fs) ≡ is_up_to q (find trunk_cmp t es)
  put_beside q t h = put_at q t ∙ ap (λ b. is_up_to q (cond b (Some v) (find trunk_cmp t es))) h

  -- where none was up there towards q, and none is, all stay
  put_else : (q : Name) (t : TrunkId) → (same_name v.peer q && is_up v.state) ≡ false
      → is_up_to q (find trunk_cmp trunk es) ≡ false → is_up_to q (find trunk_cmp t fs) ≡ is_up_to q (find trunk_cmp t es)
  put_else q t n m = by_test _ (same_trunk t trunk)
      (λ h. put_here q t h ∙ n ∙ sym (ap (λ u. is_up_to q (find trunk_cmp u es)) (same_trunk_true t trunk h) ∙ m))
      (λ h. put_beside q t h)

pub down_routed : (routes : List (Name × TrunkId)) (held fs : List Side) (trunk : TrunkId) (v : TrunkSide)
    → AreRouted routes held → entries_of fs ≡ put trunk_cmp trunk v (entries_of held)
    → is_up v.state ≡ false → ((q : Name) → is_up_to q (find trunk_cmp trunk (entries_of held)) ≡ false) → AreRouted routes fs
down_routed routes held fs trunk v r e d none q t =
    r q t ∙ sym (put_else (entries_of held) (entries_of fs) trunk v e q t (and_right _ _ d) (none q))

turned : {A : Type 0} (b : Bool) (x y : A) → cond (not b) x y ≡ cond b y x
turned true x y = refl
turned false x y = refl

route_find : (routes : List (Name × TrunkId)) (p q : Name)
    → find name_cmp q (without name_cmp p routes) ≡ cond (same_name p q) None (find name_cmp q routes)
route_find routes p q =
    find-where_key name_cmp (λ k. not (eq_by_cmp name_cmp p k)) q
    (λ y t. ap (λ k. not (eq_by_cmp name_cmp p k)) (sym (name_exact q y t))) routes ∙ turned (same_name p q)
    (find name_cmp q routes) None

-- the route of a side that was up goes
module _ (routes new : List (Name × TrunkId)) (held fs : List Side) (trunk : TrunkId) (x v : TrunkSide)
    (r : AreRouted routes held) (was : find trunk_cmp trunk (entries_of held) ≡ Some x)
    (e : entries_of fs ≡ put trunk_cmp trunk v (entries_of held)) (d : is_up v.state ≡ false) where
  closed : is_up x.state ≡ true → new ≡ without name_cmp x.peer routes → AreRouted new fs
  closed u n q t =
      ap (λ l. leads_to t (find name_cmp q l)) n ∙ ap (leads_to t) (route_find routes x.peer q) ∙ by_test _ (same_name x.peer q)
      (λ h. ap (λ b. leads_to t (cond b None (find name_cmp q routes))) h ∙ sym (here h))
      (λ h. ap (λ b. leads_to t (cond b None (find name_cmp q routes))) h ∙ r q t
      ∙ sym (put_else (entries_of held) (entries_of fs) trunk v e q t (and_right _ _ d) (ap (is_up_to q) was ∙ and_left _ _ h)))
    where
      other : (o : Option TrunkId) → leads_to trunk o ≡ true → same_trunk t trunk ≡ false → leads_to t o ≡ false
      other None l h = refl
      other (Some y) l h = ap (same_trunk t) (sym (same_trunk_true trunk y l)) ∙ h

      here : same_name x.peer q ≡ true → is_up_to q (find trunk_cmp t (entries_of fs)) ≡ false
      here h = by_test _ (same_trunk t trunk)
          (λ k. put_here (entries_of held) (entries_of fs) trunk v e q t k ∙ and_right _ _ d)
          (λ k. put_beside (entries_of held) (entries_of fs) trunk v e q t k ∙ sym (r q t)
          ∙ other (find name_cmp q routes) (r q trunk ∙ ap (is_up_to q) was ∙ both_true h u) k)

  pub stood_routed : (is_up x.state ≡ true → new ≡ without name_cmp x.peer routes) → (is_up x.state ≡ false → new ≡ routes)
      → AreRouted new fs
  stood_routed up down = by_test _ (is_up x.state)
      (λ u. closed u (up u))
      (λ u. subst (λ l. AreRouted l fs) (sym (down u))
      (down_routed routes held fs trunk v r e d (λ q. ap (is_up_to q) was ∙ and_right _ _ u)))

-- a side is up, and no other towards its peer
pub up_routed : (routes new : List (Name × TrunkId)) (held fs : List Side) (trunk : TrunkId) (x v : TrunkSide)
    → AreRouted routes held → find trunk_cmp trunk (entries_of held) ≡ Some x
    → entries_of fs ≡ put trunk_cmp trunk v (entries_of held) → v.peer ≡ x.peer → is_up v.state ≡ true
    → new ≡ put name_cmp x.peer trunk routes
    → ((t : TrunkId) (s : TrunkSide) → find trunk_cmp t (entries_of held) ≡ Some s → s.peer ≡ x.peer → is_up s.state ≡ true → t ≡ trunk)
    → AreRouted new fs
up_routed routes new held fs trunk x v r was e p u n alone q t =
    ap (λ l. leads_to t (find name_cmp q l)) n ∙ ap (leads_to t) (find-put name_cmp name_total q x.peer trunk routes)
    ∙ by_test _ (same_name q x.peer)
    (λ h. ap (λ b. leads_to t (cond b (Some trunk) (find name_cmp q routes))) h ∙ sym (here h))
    (λ h. ap (λ b. leads_to t (cond b (Some trunk) (find name_cmp q routes))) h ∙ r q t
    ∙ sym (put_else (entries_of held) (entries_of fs) trunk v e q t
    (ap (λ (y : Name). same_name y q && is_up v.state) p ∙ and_left _ _ (apart h))
    (ap (is_up_to q) was ∙ and_left _ _ (apart h))))
  where
    apart : same_name q x.peer ≡ false → same_name x.peer q ≡ false
    apart h =
        by_test _ (same_name x.peer q) (λ k. absurd (false≢true (sym h ∙ same_name_is q x.peer (sym (same_name_true x.peer q k))))) (λ k. k)

    beside : same_name q x.peer ≡ true → same_trunk t trunk ≡ false → is_up_to q (find trunk_cmp t (entries_of held)) ≡ false
    beside h k = by_test _ (is_up_to q (find trunk_cmp t (entries_of held)))
        (λ l. let s = up_at q (entries_of held) t l in
        absurd (false≢true (sym k ∙ same_trunk_is t trunk (alone t s.side s.there (s.towards ∙ same_name_true q x.peer h) s.up))))
        (λ l. l)

    here : same_name q x.peer ≡ true → is_up_to q (find trunk_cmp t (entries_of fs)) ≡ same_trunk t trunk
    here h = by_test _ (same_trunk t trunk)
        (λ k. put_here (entries_of held) (entries_of fs) trunk v e q t k
        ∙ both_true (same_name_is v.peer q (p ∙ sym (same_name_true q x.peer h))) u ∙ sym k)
        (λ k. put_beside (entries_of held) (entries_of fs) trunk v e q t k ∙ beside h k ∙ sym k)

-- ---- a side that was found is gone: it lies in memory no more

pub gone_routed : (routes : List (Name × TrunkId)) (held fs out : List Side) (trunk : TrunkId) (v : TrunkSide)
    → entries_of fs ≡ put trunk_cmp trunk v (entries_of held) → is_up v.state ≡ false
    → entries_of out ≡ without trunk_cmp trunk (entries_of held) → AreRouted routes fs → AreRouted routes out
gone_routed routes held fs out trunk v e d w r q t =
    r q t ∙ put_at (entries_of held) (entries_of fs) trunk v e q t
    ∙ go (same_trunk t trunk) ∙ sym (ap (is_up_to q) (ap (find trunk_cmp t) w ∙ without_find (entries_of held) trunk t))
  where
    go : (b : Bool) → is_up_to q (cond b (Some v) (find trunk_cmp t (entries_of held)))
        ≡ is_up_to q (cond b None (find trunk_cmp t (entries_of held)))
    go true = and_right (same_name v.peer q) _ d
    go false = refl

pub none_routed : (routes : List (Name × TrunkId)) (held : List Side) → routes ≡ [] → held ≡ [] → AreRouted routes held
none_routed routes held n e q t =
    ap (λ l. leads_to t (find name_cmp q l)) n ∙ sym (ap (λ l. is_up_to q (find trunk_cmp t (entries_of l))) e)
