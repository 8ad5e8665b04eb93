-- Records are swept, and sides are closed.
use Rattle.sorted_map.specs.Facts.{both_pass}
use Rattle.std.proofs.Common.{◌≡◌, ℕ, Bool, true, false, cond, List, [], ◌∷◌, refl, sym, ap}
use Rattle.std.proofs.Common.{◌∙◌, subst, ◌&&◌, ◌||◌, Option, Some, None, ◌⊎◌, inl, inr, T}
use Rattle.std.proofs.lemmas.Option.{same_Some}
use Rattle.std.specs.Option.{is_some}
use Rattle.std.specs.FinMap as fm
use Rattle.std.specs.Ordering.{eq_by_cmp, is_eq}
use Rattle.std.specs.FinMap.Entries.{find, is_sorted, below_all}
use Rattle.std.specs.Cmp.{tied_itself}
use Rattle.dist_model.proofs.Calls.{by_test, unregisters, unwatches_one}
use Rattle.dist_model.proofs.Handshake.{as_state, fits_gone, good_state, in_state, role_is_acceptor, rows_gone}
use Rattle.dist_model.proofs.Keys.{pair_exact, pair_total, same_name_is, same_name_true, below_key}
use Rattle.sorted_map.proofs.Orderings.{equal_of}
use Rattle.dist_model.proofs.Moves.{Moves, link_exits, puts, stays, then}
use Rattle.dist_model.proofs.LinkMoves.{removes_unreached}
use Rattle.dist_model.proofs.Posts.{NodeKept, held}
use Rattle.dist_model.proofs.SideChanges.{Fits, drops, held_is}
use Rattle.dist_model.proofs.Routes.{node_of_name}
use Rattle.dist_model.proofs.Seen.{end_in}
use Rattle.dist_model.proofs.Sides.{Routed, SidesKept, asks, beside, holds, not_own, route_from, side_at, up_holds, up_not_gone, not_beside}
use Rattle.dist_model.proofs.Trunks.{begun, begun_state, Good, has, is_reply, role_gone, role_state, Row, up_once}
use Rattle.dist_model.specs.Exits.{link_exit}
use Rattle.dist_model.proofs.Records.{has_records, no_records, sweep_link, sweep_registered, sweep_watch}
use Rattle.dist_model.specs.Losses.{link_to, registered_by, sweep_end, watch_to}
use Rattle.dist_model.specs.Monitoring.{unwatch}
use Rattle.dist_model.specs.Names.{Name, pair_cmp, same_name}
use Rattle.dist_model.specs.Node.{Node, living, reaches, route}
use Rattle.dist_model.specs.Sides.{Accepting, Asked, Gone, Losing, Parked, State, TrunkSide, is_gone, is_up}
use Rattle.dist_model.specs.Work.{Work, at_work, put, set_end}
use Rattle.dist_model.specs.World.{World, list_to, node_of}
use Rattle.erl_names.specs.declared.trunk.TrunkId.{TrunkId}
use Rattle.erl_term.specs.declared.term.Pid.{Pid}
use Rattle.erl_term.specs.declared.term.Reference.{Reference}
use Rattle.exit_core.specs.Messages.{down_term}
use Rattle.link_core.specs.News.{noconnection}
use Rattle.link_core.specs.declared.end.End.{End}
use Rattle.monitor_core.specs.declared.monitor.Registration.{Registration}
use Rattle.monitor_core.specs.declared.monitor.Watch.{Watch}
use Rattle.dist_model.specs.Telling.{object}

-- towards y the node has a side that is losing, and none that is up
pub losing_unreached : (n : Node) (t : TrunkId) (v : TrunkSide) → SidesKept n → side_at n t ≡ Some v → v.state ≡ Losing
    → reaches n v.peer ≡ false
losing_unreached n t v k h e =
    by_test _ (reaches n v.peer) (λ r. absurd (go (same_name v.peer n.mint.name) (not_own n t v k h) (route n v.peer) refl r)) (λ r. r)
  where
    pick : (u : Routed n v.peer t) → ⊥
    pick u =
        let s : u.found ≡ v = same_Some u.found v (sym u.there ∙ h) in
        let c : true ≡ false = sym u.up ∙ ap (λ (z : TrunkSide). is_up z.state) s ∙ ap is_up e in cc

    other : (r : TrunkId) (u : Routed n v.peer r) → (t ≡ r) ⊎ (beside v.state u.found.state ≡ true) → ⊥
    other r u (inl i) = pick (subst (λ z. Routed n v.peer z) (sym i) u)
    other r u (inr i) = not_beside v.state u.found.state (ap asks e) ((up_holds u.found.state u.up).1) i

    go : (b : Bool) → b ≡ false → (o : Option TrunkId) → route n v.peer ≡ o → (b || is_some o) ≡ true → ⊥
    go true h o i r = cc
    go false hb None i r = cc
    go false hb (Some u) i r =
        let m = route_from n v.peer u i in
        other u m (k.one t u v m.found h m.there (sym m.peer) (ap is_gone e) (up_not_gone m.found.state m.up))

-- the least record
pub link_found : (y : Name) (es : List ((Pid × Pid) × End)) (e : (Pid × Pid) × End) → T (is_sorted pair_cmp es)
    → link_to y es ≡ Some e → (find pair_cmp e.0 es ≡ Some e.1) × (e.0.1.node ≡ y)
link_found y [] e s h = let c : false ≡ true = ap is_some h in cc
link_found y (d ∷ es) e s h =
    go (same_name d.0.1.node y) refl h
    (λ k. link_found y es e (both_pass (below_all pair_cmp d.0 es) (is_sorted pair_cmp es) s).1 k)
    (both_pass (below_all pair_cmp d.0 es) (is_sorted pair_cmp es) s).0
  where
    go : (b : Bool) → same_name d.0.1.node y ≡ b → cond b (Some d) (link_to y es) ≡ Some e
        → (link_to y es ≡ Some e → (find pair_cmp e.0 es ≡ Some e.1) × (e.0.1.node ≡ y)) → T (below_all pair_cmp d.0 es)
        → (find pair_cmp e.0 (d ∷ es) ≡ Some e.1) × (e.0.1.node ≡ y)
    go true i h f t =
        let s : d ≡ e = same_Some d e h in
        subst (λ z. (find pair_cmp z.0 (d ∷ es) ≡ Some z.1) × (z.0.1.node ≡ y)) s
        (ap (λ c. cond (is_eq c) (Some d.1) (find pair_cmp d.0 es)) (tied_itself pair_total d.0), same_name_true d.0.1.node y i)
    go false i h f t =
        let r = f h in
        (ap (λ b. cond b (Some d.1) (find pair_cmp e.0 es)) (below_key pair_cmp pair_exact e.0 d.0 e.1 es t r.0) ∙ r.0, r.1)

link_none : (y : Name) (es : List ((Pid × Pid) × End)) → link_to y es ≡ None → (p q : Pid) → q.node ≡ y → find pair_cmp (p, q) es ≡ None
link_none y [] h p q e = refl
link_none y (d ∷ es) h p q e =
    elim (same_name d.0.1.node y) as
    (λ b. same_name d.0.1.node y ≡ b → cond b (Some d) (link_to y es) ≡ None → find pair_cmp (p, q) (d ∷ es) ≡ None) [
      | true ↦ λ i j. let c : true ≡ false = ap is_some j in cc
      | false ↦ λ i j. by_test _ (eq_by_cmp pair_cmp (p, q) d.0)
          (λ m.
          let k : (p, q) ≡ d.0 = pair_exact (p, q) d.0 (equal_of (pair_cmp (p, q) d.0) m) in
          let c : true ≡ false = sym (same_name_is d.0.1.node y (ap (λ (z : Pid × Pid). z.1.node) (sym k) ∙ e)) ∙ i in cc)
          (λ m. ap (λ b. cond b (Some d.1) (find pair_cmp (p, q) es)) m ∙ link_none y es j p q e)
    ] refl h

ends_swept : (e : End) (p q : Pid) (o : Work) → reaches o.node q.node ≡ false → ((e ≡ End.None → ⊥) → living o.node p ≡ true)
    → Moves o (sweep_end e p q o)
ends_swept End.Active p q o r l =
    then o (set_end p q End.None o) (link_exit p q noconnection (set_end p q End.None o)) (removes_unreached p q o r)
    (link_exits p q noconnection (set_end p q End.None o) (l (λ h. cc)))
ends_swept _ p q o r l = removes_unreached p q o r

registered_swept : (d : Option (Reference × Registration)) (o : Work) → Moves o (sweep_registered d o)
registered_swept None o = stays o
registered_swept (Some e) o = unregisters e.0 o

watches_swept : (d : Option (Reference × Watch)) (y : Name) (o : Work) → Moves o (sweep_watch d y o)
watches_swept None y o = registered_swept (registered_by y (fm.entries o.node.registered)) o
watches_swept (Some e) y o =
    then o (unwatch e.0 o) (put e.1.owner (down_term e.0 (object e.1.target) noconnection) (unwatch e.0 o)) (unwatches_one e.0 o)
    (puts e.1.owner (down_term e.0 (object e.1.target) noconnection) (unwatch e.0 o))

links_swept : (d : Option ((Pid × Pid) × End)) (y : Name) (o : Work) → link_to y (fm.entries o.node.ends) ≡ d
    → NodeKept o.node → reaches o.node y ≡ false → Moves o (sweep_link d y o)
links_swept None y o h k r = watches_swept (watch_to y (fm.entries o.node.watches)) y o
links_swept (Some e) y o h k r =
    let f = link_found y (fm.entries o.node.ends) e (fm.entries_sorted o.node.ends) h in
    ends_swept e.1 e.0.0 e.0.1 o (ap (reaches o.node) f.1 ∙ r)
    (λ n. (k.rooted e.0.0 e.0.1 (λ a. n (sym (ap end_in (fm.get-entries o.node.ends e.0 ∙ f.0)) ∙ a))).0)

-- one record goes
pub sweep_moves : (n : Node) (t : TrunkId) (v : TrunkSide) → NodeKept n → SidesKept n → side_at n t ≡ Some v
    → v.state ≡ Losing → Moves (at_work n) (sweep_link (link_to v.peer (fm.entries n.ends)) v.peer (at_work n))
sweep_moves n t v kn sk h e = links_swept (link_to v.peer (fm.entries n.ends)) v.peer (at_work n) refl kn (losing_unreached n t v sk h e)

-- with no records left the side is gone
pub good_closed : (w : World) (x : Name) (n : Node) (t : TrunkId) (v : TrunkSide) → node_of w.nodes x ≡ Some n
    → side_at n t ≡ Some v → has_records v.peer n ≡ false → Good w → Good (in_state w x n t (as_state v Gone))
good_closed w x n t v hx h clean g =
    let none : link_to v.peer (fm.entries n.ends) ≡ None = (no_records v.peer n clean).0 in
    let f =
    fits_gone n t v (as_state v Gone) (g.core.sides x n hx) h refl refl
    (λ i p q e. ap end_in (fm.get-entries n.ends (p, q) ∙ link_none v.peer (fm.entries n.ends) none p q e)) in
    good_state w x n t v (as_state v Gone) hx h refl f g (drops w x n t v (as_state v Gone) hx h refl refl f g.core)
    (role_gone (same_name t.dialer n.mint.name)) (rows_gone w x t v (as_state v Gone) refl)

-- a side that waited goes on, where nobody holds the peer's records any more
pub good_unparked : (w : World) (x : Name) (n : Node) (t : TrunkId) (v : TrunkSide) (k : ℕ) → node_of w.nodes x ≡ Some n
    → side_at n t ≡ Some v → asks v.state ≡ true → held n v.peer ≡ false → Good w
    → Good (in_state w x n t (as_state v (Accepting k)))
good_unparked w x n t v k hx h a nh g =
    let kind = ask_kind v.state a in
    let sk = g.core.sides x n hx in
    let f : Fits n t (as_state v (Accepting k)) = record {
      stranger = λ i. sk.other t v h i;
      role = sk.mine t v h;
      peer_stays = λ u hu. ap (λ (z : TrunkSide). z.peer) (same_Some u v (sym hu ∙ h));
      room = λ u b hb eb d gs gb. absurd (crowd u b hb eb d (sk.one t u v b h hb (sym eb) kind.0 gb));
      empty = λ u hu hh nh2 p q i. let c : true ≡ false = sym hh
          ∙ ap (λ (z : TrunkSide). holds z.state) (same_Some u v (sym hu ∙ h)) ∙ kind.1 in cc;
    } in
    good_state w x n t v (as_state v (Accepting k)) hx h refl f g (drops w x n t v (as_state v (Accepting k)) hx h refl refl f g.core)
    (ap (λ b. role_state b (Accepting k))
    (role_is_acceptor (same_name t.dialer n.mint.name) v.state ((g.home x n hx).roles t v h) kind.2)) (
      λ o di r. record { before = λ z. let b = r.before z in (refl, b.1, b.2, b.3); early = λ z. cc; waits = r.waits },
      λ d y yx nd r. record {
        before = λ z. r.before kind.3;
        early = λ z. let b = r.early z in (refl, b.1, b.2);
        waits = λ z. cc;
      },
      λ z b hb. let c : true ≡ false = sym z ∙ no_reply in cc,
    )
  where
    ask_kind : (s : State) → asks s ≡ true → (is_gone s ≡ false) × (holds s ≡ false) × (role_state true s ≡ false)
        × (up_once s ≡ false) × (begun_state s ≡ false)
    ask_kind (Asked u) h = (refl, refl, refl, refl, refl)
    ask_kind (Parked u) h = (refl, refl, refl, refl, refl)
    ask_kind _ h = cc

    no_reply : has is_reply (list_to w.lists t x) ≡ false
    no_reply =
        let nd : t.dialer ≡ x → ⊥ = λ i.
        let c : true ≡ false =
        sym (same_name_is t.dialer n.mint.name (i ∙ sym (node_of_name w.nodes x n hx)))
        ∙ role_is_acceptor _ v.state ((g.home x n hx).roles t v h) (ask_kind v.state a).2 in cc in
        let m = g.core.met x n t v hx h nd in
        let r : Row m.side.state (side_at n t) (list_to w.lists t t.dialer) (list_to w.lists t m.side.peer) =
        g.table t m.dialer n m.side m.at m.there (ap (node_of w.nodes) m.peer ∙ hx) in
        ap (λ z. has is_reply (list_to w.lists t z)) (sym m.peer) ∙ (r.waits (ap begun h ∙ (ask_kind v.state a).4)).1

    second_holds : (p q r s : Bool) → p ≡ false → ((p && q) || (r && s)) ≡ true → s ≡ true
    second_holds false q true s h e = e
    second_holds _ q _ s h e = cc

    crowd : (u : TrunkId) (b : TrunkSide) → side_at n u ≡ Some b → b.peer ≡ v.peer → (u ≡ t → ⊥) → (t ≡ u)
        ⊎ (beside v.state b.state ≡ true) → ⊥
    crowd u b hb eb d (inl i) = d (sym i)
    crowd u b hb eb d (inr i) =
        let hold : holds b.state ≡ true =
        second_holds (holds v.state) (asks b.state) (asks v.state) (holds b.state) (ask_kind v.state a).1 i in
        let c : true ≡ false = sym (held_is n u b hb hold) ∙ ap (held n) eb ∙ nh in cc
