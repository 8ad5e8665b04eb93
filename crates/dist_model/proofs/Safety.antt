-- What the kept facts say, and that they hold of an opening world.
use Rattle.std.proofs.Common.{Contains, ◌≡◌, ℕ, Bool, true, false, cond, not, List, [], ◌∷◌, refl}
use Rattle.std.proofs.Common.{sym, ap, ◌∙◌, subst, ◌||◌, ◌++◌, Option, Some, None, ◌⊎◌, inl, inr, ◌↔◌}
use Rattle.std.proofs.lemmas.Bool.{or_right, or_from, and_parts}
use Rattle.std.proofs.lemmas.Option.{same_Some}
use Rattle.std.specs.Option.{is_some}
use Rattle.std.specs.FinMap as fm
use Rattle.dist_model.proofs.Calls.{by_test}
use Rattle.dist_model.proofs.Keys.{name_turned, same_name_is, same_name_true, same_pid_refl, same_pid_true}
use Rattle.dist_model.proofs.Moves.{not_over}
use Rattle.dist_model.proofs.Posts.{NodeKept}
use Rattle.dist_model.proofs.Pairs.{up_joined}
use Rattle.dist_model.proofs.Routes.{node_of_name}
use Rattle.dist_model.proofs.Seen.{connected_at, end_at, end_in, living_at, local_at, new_nodes, side_in}
use Rattle.dist_model.proofs.Sides.{beside, holds_kinds, side_at, unheld_absent, up_holds, up_not_gone, absent_or, not_beside, asks}
use Rattle.dist_model.proofs.Trunks.{Good, HomeKept, Likely, up_likely}
use Rattle.dist_model.proofs.Views.{over, side_of}
use Rattle.dist_model.proofs.Truths.{nothing, either}
use Rattle.dist_model.specs.Claims.{Agreement, AgreementInQuiet, AgreementWithin, LinkNeedsConnection, NoLinkToItself}
use Rattle.dist_model.specs.Claims.{NoLinkToTheDead, NoUpBesideLosing, OneTrunk, PendingOnItsWay, PendingWithin}
use Rattle.dist_model.specs.Items.{Item, Signalled, news, news_in}
use Rattle.dist_model.specs.Names.{Name, pair_cmp, place_cmp, same_name, same_pid}
use Rattle.dist_model.specs.Node.{Node, end_of, is_living_life, living}
use Rattle.dist_model.specs.Quiet.{Over, Unconnected, Within, is_signal_of, nothing_between}
use Rattle.dist_model.specs.Runs.{new_node, opening}
use Rattle.dist_model.specs.Seen.{HasSide, end_between, is_connected, local_list}
use Rattle.dist_model.specs.Sides.{State, TrunkSide, Up, is_gone, is_losing, is_up}
use Rattle.dist_model.specs.World.{World, list_to, node_of}
use Rattle.erl_control.specs.declared.signal.Signal.{Signal}
use Rattle.erl_names.specs.Order.{trunk_cmp}
use Rattle.erl_names.specs.declared.trunk.TrunkId.{TrunkId}
use Rattle.erl_term.specs.Order.{pid_cmp}
use Rattle.erl_term.specs.declared.term.Pid.{Pid}
use Rattle.link_core.proofs.Kept.{Kept, blank}
use Rattle.link_core.proofs.Drained.{has_link}
use Rattle.link_core.specs.News.{Exited, LinkNews, Signals, drained, last_said}
use Rattle.link_core.specs.declared.end.End.{End}
use Rattle.link_core.specs.declared.end.LinkSignal.{LinkSignal}
use Rattle.erl_handshake.specs.declared.setup.Setup.{Setup}

-- a silent list has no signals about a link
silent_signals : (p q : Pid) (l : List Item) → nothing_between p q l ≡ true → (news p q l ≡ []) × (news q p l ≡ [])
silent_signals p q [] h = (refl, refl)
silent_signals p q (x ∷ xs) h =
    let v = and_parts (not (is_signal_of p q x || is_signal_of q p x)) (nothing_between p q xs) h in
    let u = neither (is_signal_of p q x) (is_signal_of q p x) v.0 in
    let r = silent_signals p q xs v.1 in
    (ap (λ l. l ++ news p q xs) (unnamed p q x u.0) ∙ r.0, ap (λ l. l ++ news q p xs) (unnamed q p x u.1) ∙ r.1)
  where
    neither : (a b : Bool) → not (a || b) ≡ true → (a ≡ false) × (b ≡ false)
    neither false false h = (refl, refl)
    neither _ _ h = cc

    unnamed : (p q : Pid) (x : Item) → is_signal_of p q x ≡ false → news_in p q x ≡ []
    unnamed p q (Signalled (Signal.Link a b) pay) h = ap (λ t. cond t (Signals LinkSignal.Link ∷ []) []) h
    unnamed p q (Signalled (Signal.Exit a b r) pay) h = ap (λ t. cond t (Exited r ∷ []) []) h
    unnamed p q (Signalled (Signal.UnlinkId i a b) pay) h = ap (λ t. cond t (Signals (LinkSignal.Unlink i) ∷ []) []) h
    unnamed p q (Signalled (Signal.UnlinkIdAck i a b) pay) h = ap (λ t. cond t (Signals (LinkSignal.Ack i) ∷ []) []) h
    unnamed p q _ h = refl

not_active : {P : Type 0} (e : End) → e ≡ End.None → e ≡ End.Active → P
not_active e a h = absurd (let c : End.None ≡ End.Active = sym a ∙ h in cc)

some_none : {A : Type 0} {P : Type 0} (a : A) → Some a ≡ None → P
some_none a h = absurd (let c : true ≡ false = ap is_some h in cc)

-- of a pair that is kept
module _ (p q : Pid) (a b : Node) (m l : List LinkNews) (k : Kept (side_of a p q m) (side_of b q p l)) where
  agrees : living a p ≡ true → living b q ≡ true → drained (end_of a p q) l ≡ End.Active ↔ drained (end_of b q p) m ≡ End.Active
  agrees lp lq = k.agree (not_over a p lp) (not_over b q lq)

  pends : (i : ℕ) → living a p ≡ true → living b q ≡ true → end_of a p q ≡ End.Pending i
      → (last_said m ≡ Some (LinkSignal.Unlink i)) ⊎ Contains l (Signals (LinkSignal.Ack i))
  pends i lp lq e = k.one.waits i e

  not_to_dead : NodeKept b → living a p ≡ true → living b q ≡ false → m ≡ [] → l ≡ [] → end_of a p q ≡ End.Active → ⊥
  not_to_dead kb lp lq em el e =
      let lo : over a p ≡ false = not_over a p lp in
      let act : drained (end_of a p q) l ≡ End.Active = ap (drained (end_of a p q)) el ∙ e in
      let none : end_of b q p ≡ End.None = absent_or (end_of b q p) (λ d. let c : true ≡ false = sym (kb.rooted q p d).0 ∙ lq in cc) in
      by_test ⊥ (over b q)
      (λ o. let n : true ≡ false = sym (k.one.orphan lo o act) ∙ ap has_link em in cc)
      (λ o. not_active (drained (end_of b q p) m) (ap (drained (end_of b q p)) em ∙ none) ((k.agree lo o).0 act))

module _ (w : World) (g : Good w) where
  own_name : (x : Name) (a : Node) → node_of w.nodes x ≡ Some a → same_name x a.mint.name ≡ true
  own_name x a h = same_name_is x a.mint.name (sym (node_of_name w.nodes x a h))

  kept_over : (p q : Pid) (a b : Node) (t : TrunkId) → node_of w.nodes p.node ≡ Some a → node_of w.nodes q.node ≡ Some b
      → HasSide w p.node t q.node is_up → HasSide w q.node t p.node is_up
      → Kept (side_of a p q (news p q (list_to w.lists t q.node))) (side_of b q p (news q p (list_to w.lists t p.node)))
  kept_over p q a b t ha hb s v =
      g.core.trunks p.node q.node a b t s.side v.side ha hb (sym (ap (λ o. side_in o t) ha) ∙ s.there)
      (sym (ap (λ o. side_in o t) hb) ∙ v.there) s.peer v.peer s.state (up_joined v.side.state v.state) p q refl refl

  kept_within : (p q : Pid) (a : Node) → node_of w.nodes p.node ≡ Some a → p.node ≡ q.node → same_pid p q ≡ false
      → Kept (side_of a p q (news p q a.local)) (side_of a q p (news q p a.local))
  kept_within p q a h e d =
      (g.home p.node a h).pairs p q (own_name p.node a h) (ap (λ z. same_name z a.mint.name) (sym e) ∙ own_name p.node a h) d

  one_node : (p q : Pid) (a b : Node) → node_of w.nodes p.node ≡ Some a → node_of w.nodes q.node ≡ Some b → p.node ≡ q.node → a ≡ b
  one_node p q a b ha hb e = same_Some a b (sym ha ∙ ap (node_of w.nodes) e ∙ hb)

  pub agreement : Agreement w
  agreement p q t u lp lq = go (node_of w.nodes p.node) (node_of w.nodes q.node) refl refl lp lq
    where
      go : (c d : Option Node) → node_of w.nodes p.node ≡ c → node_of w.nodes q.node ≡ d → living_at c p ≡ true → living_at d q ≡ true
          → drained (end_at c p q) (news q p (list_to w.lists t p.node)) ≡ End.Active
          ↔ drained (end_at d q p) (news p q (list_to w.lists t q.node)) ≡ End.Active
      go None d hc hd lp lq = nothing lp
      go (Some a) None hc hd lp lq = nothing lq
      go (Some a) (Some b) hc hd lp lq = agrees p q a b _ _ (kept_over p q a b t hc hd u.0 u.1) lp lq

  pub agreement_within : AgreementWithin w
  agreement_within p q e lp lq = go (node_of w.nodes p.node) (node_of w.nodes q.node) refl refl lp lq
    where
      go : (c d : Option Node) → node_of w.nodes p.node ≡ c → node_of w.nodes q.node ≡ d → living_at c p ≡ true → living_at d q ≡ true
          → drained (end_at c p q) (news q p (local_at c)) ≡ End.Active ↔ drained (end_at d q p) (news p q (local_at c)) ≡ End.Active
      go None d hc hd lp lq = nothing lp
      go (Some a) None hc hd lp lq = nothing lq
      go (Some a) (Some b) hc hd lp lq =
          let ab = one_node p q a b hc hd e in
          subst (λ z. drained (end_of a p q) (news q p a.local) ≡ End.Active ↔ drained (end_of z q p) (news p q a.local) ≡ End.Active) ab
          (by_test _ (same_pid p q)
          (λ i. subst
          (λ z. drained (end_of a p z) (news z p a.local) ≡ End.Active ↔ drained (end_of a z p) (news p z a.local) ≡ End.Active)
          (same_pid_true p q i) (λ h. h, λ h. h))
          (λ i. agrees p q a a _ _ (kept_within p q a hc e i) lp (ap (λ z. living z q) ab ∙ lq)))

  -- where the nodes have no connection there is no end
  unconnected : (p q : Pid) → same_name p.node q.node ≡ false → is_connected w p.node q.node ≡ false → end_between w p q ≡ End.None
  unconnected p q n c = go (node_of w.nodes p.node) refl c
    where
      go : (o : Option Node) → node_of w.nodes p.node ≡ o → connected_at o q.node ≡ false → end_at o p q ≡ End.None
      go None h c = refl
      go (Some a) h c = unheld_absent a p q (g.core.nodes p.node a h) (or_from (same_name q.node a.mint.name) _
          (by_test _ (same_name q.node a.mint.name)
          (λ i. let z : true
          ≡ false = sym (same_name_is p.node q.node (sym (node_of_name w.nodes p.node a h) ∙ sym (same_name_true q.node a.mint.name i)))
          ∙ n in cc) (λ i. i)) c)

  pub agreement_in_quiet : AgreementInQuiet w
  agreement_in_quiet p q (Within e s) lp lq =
      let v = silent_signals p q (local_list w p.node) s in
      subst (λ u. drained (end_between w p q) u ≡ End.Active ↔ end_between w q p ≡ End.Active) v.1
      (subst
      (λ u. drained (end_between w p q) (news q p (local_list w p.node)) ≡ End.Active ↔ drained (end_between w q p) u ≡ End.Active) v.0
      (agreement_within p q e lp lq))
  agreement_in_quiet p q (Over d t c s r) lp lq =
      let v = silent_signals p q (list_to w.lists t p.node) s in
      let u = silent_signals p q (list_to w.lists t q.node) r in
      subst (λ z. drained (end_between w p q) z ≡ End.Active ↔ end_between w q p ≡ End.Active) v.1
      (subst
      (λ z. drained (end_between w p q) (news q p (list_to w.lists t p.node)) ≡ End.Active ↔ drained (end_between w q p) z ≡ End.Active)
      u.0 (agreement p q t c lp lq))
  agreement_in_quiet p q (Unconnected n c d) lp lq = (
    λ h. not_active (end_between w p q) (unconnected p q n c) h,
    λ h. not_active (end_between w q p) (unconnected q p (name_turned p.node q.node n) d) h,
  )

  pub no_link_to_itself : NoLinkToItself w
  no_link_to_itself p = go (node_of w.nodes p.node) refl
    where
      go : (o : Option Node) → node_of w.nodes p.node ≡ o → end_at o p p ≡ End.None
      go None h = refl
      go (Some a) h =
          absent_or (end_of a p p)
          (λ e. let c : true ≡ false = sym (same_pid_refl p) ∙ (((g.core.nodes p.node a h).rooted p p e).2 (own_name p.node a h)).1 in cc)

  -- held is by its own node, or by a side that is up or losing
  pub link_needs_connection : LinkNeedsConnection w
  link_needs_connection p q n = go (node_of w.nodes p.node) refl n
    where
      go : (o : Option Node) → node_of w.nodes p.node ≡ o → (end_at o p q ≡ End.None → ⊥) → (living_at o p ≡ true)
          × ((q.node ≡ p.node) ⊎ (connected_at o q.node ≡ true))
      go None h e = absurd (e refl)
      go (Some a) h e =
          let r = (g.core.nodes p.node a h).rooted p q e in (
            r.0,
            either (same_name q.node a.mint.name) (connected_at (Some a) q.node) _ r.1
                (λ i. inl (same_name_true q.node a.mint.name i ∙ node_of_name w.nodes p.node a h)) (λ i. inr i),
          )

  pub pending : PendingOnItsWay w
  pending p q t i u lp lq e = go (node_of w.nodes p.node) (node_of w.nodes q.node) refl refl lp lq e
    where
      go : (c d : Option Node) → node_of w.nodes p.node ≡ c → node_of w.nodes q.node ≡ d → living_at c p ≡ true
          → living_at d q ≡ true → end_at c p q ≡ End.Pending i
          → (last_said (news p q (list_to w.lists t q.node)) ≡ Some (LinkSignal.Unlink i))
          ⊎ Contains (news q p (list_to w.lists t p.node)) (Signals (LinkSignal.Ack i))
      go None d hc hd lp lq e = nothing lp
      go (Some a) None hc hd lp lq e = nothing lq
      go (Some a) (Some b) hc hd lp lq e = pends p q a b _ _ (kept_over p q a b t hc hd u.0 u.1) i lp lq e

  pub pending_within : PendingWithin w
  pending_within p q i n lp lq e = by_test _ (same_pid p q)
      (λ j. absurd (let c : End.None ≡ End.Pending i = sym (no_link_to_itself p) ∙ ap (end_between w p) (same_pid_true p q j) ∙ e in cc))
      (λ j. go j (node_of w.nodes p.node) (node_of w.nodes q.node) refl refl lp lq e)
    where
      go : same_pid p q ≡ false → (c d : Option Node) → node_of w.nodes p.node ≡ c → node_of w.nodes q.node ≡ d
          → living_at c p ≡ true → living_at d q ≡ true → end_at c p q ≡ End.Pending i
          → (last_said (news p q (local_at c)) ≡ Some (LinkSignal.Unlink i)) ⊎ Contains (news q p (local_at c)) (Signals (LinkSignal.Ack i))
      go j None d hc hd lp lq e = nothing lp
      go j (Some a) None hc hd lp lq e = nothing lq
      go j (Some a) (Some b) hc hd lp lq e =
          pends p q a a _ _ (kept_within p q a hc n j) i lp (ap (λ z. living z q) (one_node p q a b hc hd n) ∙ lq) e

  dead_within : (p q : Pid) → p.node ≡ q.node → (c d : Option Node) → node_of w.nodes p.node ≡ c → node_of w.nodes q.node ≡ d
      → nothing_between p q (local_at c) ≡ true → living_at c p ≡ true → living_at d q ≡ false → end_at c p q ≡ End.Active → ⊥
  dead_within p q n None d hc hd s lp lq e = nothing lp
  dead_within p q n (Some a) None hc hd s lp lq e = some_none a (sym hc ∙ ap (node_of w.nodes) n ∙ hd)
  dead_within p q n (Some a) (Some b) hc hd s lp lq e =
      let v = silent_signals p q a.local s in
      let dead : living a q ≡ false = ap (λ z. living z q) (one_node p q a b hc hd n) ∙ lq in
      by_test ⊥ (same_pid p q)
      (λ j. let c : true ≡ false = sym lp ∙ ap (living a) (same_pid_true p q j) ∙ dead in cc)
      (λ j. not_to_dead p q a a _ _ (kept_within p q a hc n j) (g.core.nodes p.node a hc) lp dead v.0 v.1 e)

  dead_over : (p q : Pid) (t : TrunkId) → HasSide w p.node t q.node is_up → HasSide w q.node t p.node is_up
      → nothing_between p q (list_to w.lists t p.node) ≡ true → nothing_between p q (list_to w.lists t q.node) ≡ true
      → (c d : Option Node) → node_of w.nodes p.node ≡ c → node_of w.nodes q.node ≡ d → living_at c p ≡ true
      → living_at d q ≡ false → end_at c p q ≡ End.Active → ⊥
  dead_over p q t x y s r None d hc hd lp lq e = nothing lp
  dead_over p q t x y s r (Some a) None hc hd lp lq e = some_none y.side (sym y.there ∙ ap (λ o. side_in o t) hd)
  dead_over p q t x y s r (Some a) (Some b) hc hd lp lq e =
      not_to_dead p q a b _ _ (kept_over p q a b t hc hd x y) (g.core.nodes q.node b hd) lp lq
      ((silent_signals p q (list_to w.lists t q.node) r).0) ((silent_signals p q (list_to w.lists t p.node) s).1) e

  pub no_link_to_the_dead : NoLinkToTheDead w
  no_link_to_the_dead p q (Within n s) lp lq e = dead_within p q n (node_of w.nodes p.node) (node_of w.nodes q.node) refl refl s lp lq e
  no_link_to_the_dead p q (Over d t c s r) lp lq e =
      dead_over p q t c.0 c.1 s r (node_of w.nodes p.node) (node_of w.nodes q.node) refl refl lp lq e
  no_link_to_the_dead p q (Unconnected n c d) lp lq e = not_active (end_between w p q) (unconnected p q n c) e

  -- one trunk
  likely : (x y : Name) (t : TrunkId) → HasSide w x t y is_up → Likely w.nodes w.lists x t y
  likely x y t s = go (node_of w.nodes x) refl s.there
    where
      go : (o : Option Node) → node_of w.nodes x ≡ o → side_in o t ≡ Some s.side → Likely w.nodes w.lists x t y
      go None h e = some_none s.side (sym e)
      go (Some a) h e = record { node = a; at = h; side = s.side; there = e; peer = s.peer; may = up_likely s.side.state _ s.state }

  pub one_trunk : OneTrunk w
  one_trunk x y t u s v = g.single x y t u (likely x y t s) (likely y x u v)

  up_not_losing : (v : State) → is_up v ≡ true → is_losing v ≡ true → ⊥
  up_not_losing Up h k = cc
  up_not_losing _ h k = cc

  pub no_up_beside_losing : NoUpBesideLosing w
  no_up_beside_losing x y t u s v = go (node_of w.nodes x) refl s.there v.there
    where
      go : (o : Option Node) → node_of w.nodes x ≡ o → side_in o t ≡ Some s.side → side_in o u ≡ Some v.side → ⊥
      go None h e f = some_none s.side (sym e)
      go (Some a) h e f =
          pick ((g.core.sides x a h).one t u s.side v.side e f (s.peer ∙ sym v.peer) (up_not_gone s.side.state s.state) lk.0)
        where
          lk : (is_gone v.side.state ≡ false) × (asks v.side.state ≡ false)
          lk = holds_kinds v.side.state (or_right (is_up v.side.state) (is_losing v.side.state) v.state)

          pick : (t ≡ u) ⊎ (beside s.side.state v.side.state ≡ true) → ⊥
          pick (inl i) =
              up_not_losing v.side.state
              (ap (λ (z : TrunkSide). is_up z.state) (same_Some v.side s.side (sym f ∙ ap (side_at a) (sym i) ∙ e)) ∙ s.state) v.state
          pick (inr i) = not_beside s.side.state v.side.state ((up_holds s.side.state s.state).1) lk.1 i

-- the opening world
module _ (cs : List (Name × Setup)) where
  pub new_is : (ds : List (Name × Setup)) (x : Name) (n : Node) → node_of (new_nodes ds) x ≡ Some n → (y : Name)
      × (c : Setup) × (n ≡ new_node y c)
  new_is [] x n h = let e : false ≡ true = ap is_some h in cc
  new_is (d ∷ ds) x n h = go (same_name d.0 x) h (new_is ds x n)
    where
      go : (b : Bool) → cond b (Some (new_node d.0 d.1)) (node_of (new_nodes ds) x) ≡ Some n
          → (node_of (new_nodes ds) x ≡ Some n → (y : Name) × (c : Setup) × (n ≡ new_node y c)) → (y : Name) × (c : Setup)
          × (n ≡ new_node y c)
      go true h f = (d.0, d.1, sym (same_Some (new_node d.0 d.1) n h))
      go false h f = f h

  no_side : (y : Name) (c : Setup) (t : TrunkId) → side_at (new_node y c) t ≡ None
  no_side y c t = fm.get-empty trunk_cmp t

  pub none_at : (x : Name) (n : Node) (t : TrunkId) (s : TrunkSide) → node_of (new_nodes cs) x ≡ Some n → side_at n t ≡ Some s → ⊥
  none_at x n t s h f =
      let k = new_is cs x n h in
      let e : false ≡ true = sym (ap is_some (no_side k.0 k.1 t)) ∙ ap is_some (ap (λ v. side_at v t) (sym k.2) ∙ f) in cc

  new_kept : (y : Name) (c : Setup) → NodeKept (new_node y c)
  new_kept y c = record {
    born = λ p l. let e : false ≡ true = sym (ap is_living_life (fm.get-empty pid_cmp p)) ∙ l in cc;
    rooted = λ p q e. absurd (e (ap end_in (fm.get-empty pair_cmp (p, q))));
  }

  new_end : (y : Name) (c : Setup) (p q : Pid) → end_of (new_node y c) p q ≡ End.None
  new_end y c p q = ap end_in (fm.get-empty pair_cmp (p, q))

  pub good_opening : Good (opening cs)
  good_opening = record {
    core = record {
      nodes = λ x n h. let k = new_is cs x n h in subst (λ v. NodeKept v) (sym k.2) (new_kept k.0 k.1);
      sides = λ x n h. record {
        one = λ t u s v hs hv e a b. absurd (none_at x n t s h hs);
        other = λ t s hs e. none_at x n t s h hs;
        mine = λ t s hs. absurd (none_at x n t s h hs);
      };
      met = λ x n t s h hs d. absurd (none_at x n t s h hs);
      trunks = λ x y a b t s v ha hb fs fv sy vx us jv p q px qy. absurd (none_at x a t s ha fs);
    };
    home = λ x n h. let k = new_is cs x n h in
        subst (λ v. HomeKept v) (sym k.2) (record {
          local = tt;
          pairs = λ p q hp hq d. blank (side_of (new_node k.0 k.1) p q []) (side_of (new_node k.0 k.1) q p [])
              (new_end k.0 k.1 p q) (new_end k.0 k.1 q p) refl refl;
          roles = λ t s hs. let e : false ≡ true = sym (ap is_some (no_side k.0 k.1 t)) ∙ ap is_some hs in cc;
          counts = λ t s hs i. let e : false ≡ true = sym (ap is_some (no_side k.0 k.1 t)) ∙ ap is_some hs in
              absurd (let f : true ≡ false = sym e in cc);
        });
    table = λ t d a s hd fs ha. absurd (none_at t.dialer d t s hd fs);
    posted =
        λ t x h. let e : false ≡ true = sym (ap is_some (fm.get-empty place_cmp (t, x))) ∙ h in absurd (let f : true ≡ false = sym e in cc);
    single = λ x y t u a b. absurd (none_at x a.node t a.side a.at a.there);
  }
