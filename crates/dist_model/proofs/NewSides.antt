-- New sides.
use Rattle.std.proofs.Common.{◌^◌, ◌+◌, nat_lt, ◌≡◌, ℕ, ◌≤◌, Bool, true, false, cond, not, List, [], ◌∷◌}
use Rattle.std.proofs.Common.{refl, sym, ap, ◌∙◌, subst, arith, Option, Some, None, ◌⊎◌, inl, inr, append-nil}
use Rattle.std.proofs.lemmas.Bool.{not-false}
use Rattle.std.proofs.lemmas.Option.{same_Some}
use Rattle.std.specs.Option.{is_some}
use Rattle.std.specs.FinMap as fm
use Rattle.dist_model.proofs.Calls.{by_test}
use Rattle.dist_model.proofs.Handshake.{in_state}
use Rattle.dist_model.proofs.Keys.{same_name_is, same_name_refl}
use Rattle.dist_model.proofs.Pairs.{Met, changed, up_joined}
use Rattle.dist_model.proofs.Primitives.{good_pushed, good_resided}
use Rattle.dist_model.proofs.SideChanges.{Fits, resided, side_after_same, with_side_at}
use Rattle.dist_model.proofs.Routes.{node_of_name, node_of_set_same, side_where_none}
use Rattle.dist_model.proofs.Seen.{list_in}
use Rattle.dist_model.proofs.Sides.{holds, joined, side_at}
use Rattle.dist_model.proofs.Steps.{kind}
use Rattle.dist_model.proofs.TrunksStay.{good_changed}
use Rattle.dist_model.proofs.Trunks.{Good, Row, begun, has, holds_side, is_accept, is_challenge, is_reply, may_be_up, role_state, up_once}
use Rattle.dist_model.specs.declared.report.Effect.{Effect}
use Rattle.dist_model.specs.Commands.{Accepts, Refuses}
use Rattle.dist_model.specs.declared.report.Answer.{Answer}
use Rattle.dist_model.specs.Dialing.{dial, draw_trunk, has_name, next_trunk}
use Rattle.dist_model.specs.Handshake.{with_side, write}
use Rattle.dist_model.specs.Items.{Handshake, Item, news}
use Rattle.dist_model.specs.Names.{Name, same_name}
use Rattle.dist_model.specs.Node.{Node, side_where}
use Rattle.dist_model.specs.Sides.{Accepting, AwaitsAck, AwaitsChallenge, AwaitsStatus, Gone, Losing, State, TrunkSide, Up, is_gone, is_up}
use Rattle.dist_model.specs.Work.{at_work}
use Rattle.dist_model.specs.World.{World, carried, came_of, list_to, node_of, set_node}
use Rattle.erl_handshake.specs.declared.message.ShakeMsg.{ShakeMsg}
use Rattle.erl_names.specs.declared.trunk.TrunkId.{TrunkId}
use Rattle.erl_term.specs.declared.refusal.Refusal.{Refusal}
use Rattle.dist_model.specs.Sides.{untold}

-- a node's place is set twice
pub set_twice : (ns : List Node) (x : Name) (a b : Node) → a.mint.name ≡ x → set_node (set_node ns x a) x b ≡ set_node ns x b
set_twice [] x a b e = refl
set_twice (m ∷ ns) x a b e = go (same_name m.mint.name x) refl (set_twice ns x a b e)
  where
    go : (c : Bool) → same_name m.mint.name x ≡ c → set_node (set_node ns x a) x b ≡ set_node ns x b
        → set_node (cond c (a ∷ ns) (m ∷ set_node ns x a)) x b ≡ cond c (b ∷ ns) (m ∷ set_node ns x b)
    go true i h = ap (λ c. cond c (b ∷ ns) (a ∷ set_node ns x b)) (same_name_is a.mint.name x e)
    go false i h = ap (λ c. cond c (b ∷ set_node ns x a) (m ∷ set_node (set_node ns x a) x b)) i ∙ ap (λ l. m ∷ l) h

pub list_none : (o : Option (List Item)) → (is_some o ≡ true → ⊥) → list_in o ≡ []
list_none None h = refl
list_none (Some l) h = absurd (h refl)

pub option_none : {A : Type 0} (o : Option A) → ((a : A) → o ≡ Some a → ⊥) → o ≡ None
option_none None h = refl
option_none (Some a) h = absurd (h a refl)

dialer_unlikely : (v : State) (l : List Item) → role_state true v ≡ true → joined v ≡ false → may_be_up v l ≡ false
dialer_unlikely (AwaitsStatus w) l h j = refl
dialer_unlikely (AwaitsChallenge w) l h j = refl
dialer_unlikely Losing l h j = refl
dialer_unlikely Gone l h j = refl
dialer_unlikely _ l h j = cc

unjoined_unlikely : (v : State) (l : List Item) → joined v ≡ false → has is_reply l ≡ false → may_be_up v l ≡ false
unjoined_unlikely (AwaitsAck w) l j h = cc
unjoined_unlikely (Accepting w) l j h = h
unjoined_unlikely Up l j h = cc
unjoined_unlikely _ l j h = refl

-- a new side
pub good_new : (w : World) (x : Name) (n : Node) (t : TrunkId) (s : TrunkSide) → node_of w.nodes x ≡ Some n
    → side_at n t ≡ None → Fits n t s → ((t.dialer ≡ x → ⊥) → Met w.nodes t x) → joined s.state ≡ false
    → role_state (same_name t.dialer n.mint.name) s.state ≡ true → (t.dialer ≡ n.mint.name → t.count ≤ n.dialed)
    → (t.dialer ≡ x → holds s.state ≡ false) → (up_once s.state ≡ false) ⊎ (is_gone s.state ≡ true) → holds s.state ≡ false
    → Good w → Good (in_state w x n t s)
good_new w x n t s hx none f met j role count nh kind hold g =
    let nx = node_of_name w.nodes x n hx in
    good_resided w x n t s hx f g
    (resided w x n t s hx f met (λ z b u hb fb sz ux c p q pn qn. absurd (no u c)) g.core) role count
    (λ a di ha.
    -- nothing is known of a trunk that x hasn't dialed
    let keyless : (z : Name) → is_some (fm.get w.lists (t, z)) ≡ true → ⊥ = λ z k.
    let p = g.posted t z k in
    let same : p.1 ≡ n = same_Some p.1 n (sym p.2 ∙ ap (node_of w.nodes) di ∙ hx) in
    let c : true ≡ false = sym (ap is_some (ap (λ v. side_at v t) (sym same) ∙ p.3)) ∙ ap is_some none in cc in
    let strange : side_at a t ≡ None = option_none (side_at a t) (λ v hv.
    let ax : t.dialer ≡ s.peer → ⊥ = λ i. f.stranger (sym i ∙ di ∙ sym nx) in
    let m = g.core.met s.peer a t v ha hv ax in
    let same : m.dialer ≡ n = same_Some m.dialer n (sym m.at ∙ ap (node_of w.nodes) di ∙ hx) in
    let c : true ≡ false = sym (ap is_some (ap (λ v. side_at v t) (sym same) ∙ m.there)) ∙ ap is_some none in cc) in
    let l1 : list_to w.lists t t.dialer ≡ [] = list_none (fm.get w.lists (t, t.dialer)) (keyless t.dialer) in
    let l2 : list_to w.lists t s.peer ≡ [] = list_none (fm.get w.lists (t, s.peer)) (keyless s.peer) in
    record {
      before = λ k. (nh di, ap (has is_accept) l1, λ p q. ap (news p q) l1, λ p q. ap (news p q) l2);
      early = λ k. (ap holds_side strange, ap (has is_reply) l2, ap (has is_accept) l1);
      waits = λ k. (ap (has is_challenge) l1, ap (has is_reply) l2);
    })
    (λ d u hd fu ux.
    let r : Row u.state None (list_to w.lists t t.dialer) (list_to w.lists t u.peer) =
    subst (λ o. Row u.state o (list_to w.lists t t.dialer) (list_to w.lists t u.peer)) none
    (g.table t d n u hd fu (ap (node_of w.nodes) ux ∙ hx)) in
    record { before = λ k. r.before refl; early = λ k. let b = r.early k in (hold, b.1, b.2); waits = λ k. r.waits refl })
    (λ m a ha. absurd (by_test ⊥ (same_name t.dialer n.mint.name)
    (λ i. let c : true ≡ false = sym m ∙ dialer_unlikely s.state _ (ap (λ b. role_state b s.state) (sym i) ∙ role) j in cc)
    (λ i.
    let nd : t.dialer ≡ x → ⊥ = λ e. let c : true ≡ false = sym (same_name_is t.dialer n.mint.name (e ∙ sym nx)) ∙ i in cc in
    let d = met nd in
    let r : Row d.side.state (side_at n t) (list_to w.lists t t.dialer) (list_to w.lists t d.side.peer) =
    g.table t d.dialer n d.side d.at d.there (ap (node_of w.nodes) d.peer ∙ hx) in
    let c : true ≡ false =
    sym m ∙ unjoined_unlikely s.state _ j (ap (λ z. has is_reply (list_to w.lists t z)) (sym d.peer) ∙ (r.waits (ap begun none)).1) in
    cc)))
  where
    no : (u : TrunkSide) → ((is_up s.state ≡ true) × (joined u.state ≡ true)) ⊎ ((joined s.state ≡ true) × (is_up u.state ≡ true)) → ⊥
    no u (inl h) = let c : true ≡ false = sym (up_joined s.state h.0) ∙ j in cc
    no u (inr h) = let c : true ≡ false = sym h.0 ∙ j in cc

-- the count of dialed trunks rises
good_drawn : (w : World) (x : Name) (n : Node) → node_of w.nodes x ≡ Some n → Good w
    → Good (record { names = w.names; nodes = set_node w.nodes x (draw_trunk n); lists = w.lists })
good_drawn w x n hx g =
    let k = g.core.nodes x n hx in
    let hk = g.home x n hx in
    good_changed w x n (draw_trunk n) w.lists hx g refl (omega arith) refl
    (changed w x n (at_work (draw_trunk n)) w.lists hx refl refl (record { born = k.born; rooted = k.rooted }) tt
    (λ t y d. sym (append-nil (list_to w.lists t y))) (λ t s fs j b p q pn qn old. old) g.core)
    hk.local hk.pairs (λ t nu z. refl) (λ t z h. inl h)

pub all_none : (test : State → Bool) (y : Name) (n : Node) → side_where test y (fm.entries n.sides) ≡ None
    → (t : TrunkId) (s : TrunkSide) → side_at n t ≡ Some s → s.peer ≡ y → test s.state ≡ false
all_none test y n h t s f p = side_where_none test y (fm.entries n.sides) t s h (sym (fm.get-entries n.sides t) ∙ f) p

next_free : (w : World) (x : Name) (n : Node) → node_of w.nodes x ≡ Some n → Good w → side_at n (next_trunk n) ≡ None
next_free w x n hx g =
    option_none (side_at n (next_trunk n)) (λ s h. let c = (g.home x n hx).counts (next_trunk n) s h refl in absurd (omega arith))

pub none_case : (o : Option (TrunkId × TrunkSide)) → is_some o ≡ false → o ≡ None
none_case None h = refl
none_case (Some e) h = cc

-- a new attempt
dialed : (w : World) (x : Name) (n : Node) (y : Name) (k : ℕ) → node_of w.nodes x ≡ Some n → Good w
    → same_name y n.mint.name ≡ false → is_some (side_where (λ v. not (is_gone v)) y (fm.entries n.sides)) ≡ false
    → Good (record {
      names = w.names;
      nodes = set_node w.nodes x
          (with_side_at (draw_trunk n) (next_trunk n) (record { peer = y; introduction = untold; state = AwaitsStatus k }));
      lists = carried w.lists
          (Effect.Sent (Some (next_trunk n)) y (Handshake (ShakeMsg.SendName n.flags n.mint.creation n.mint.name)) ∷ []);
    })
dialed w x n y k hx g ny busy =
    let s : TrunkSide = record { peer = y; introduction = untold; state = AwaitsStatus k } in
    let t = next_trunk n in
    let nx = node_of_name w.nodes x n hx in
    let w1 : World = record { names = w.names; nodes = set_node w.nodes x (draw_trunk n); lists = w.lists } in
    let g1 : Good w1 = good_drawn w x n hx g in
    let hx1 : node_of w1.nodes x ≡ Some (draw_trunk n) = node_of_set_same w.nodes x n (draw_trunk n) hx nx in
    let gone : (u : TrunkId) (v : TrunkSide) → side_at n u ≡ Some v → v.peer ≡ y → is_gone v.state ≡ true =
    λ u v hv e. not-false (is_gone v.state) (all_none (λ v. not (is_gone v)) y n (none_case _ busy) u v hv e) in
    let f : Fits (draw_trunk n) t s = record {
      stranger = λ i. let c : true ≡ false = sym (same_name_is y n.mint.name i) ∙ ny in cc;
      role = inl refl;
      peer_stays = λ v hv. let c : true ≡ false = sym (ap is_some hv) ∙ ap is_some (next_free w x n hx g) in cc;
      room = λ u v hv e d gs gv. let c : true ≡ false = sym (gone u v hv e) ∙ gv in cc;
      empty = λ v hv hh nh p q i. let c : true ≡ false = sym (ap is_some hv) ∙ ap is_some (next_free w x n hx g) in cc;
    } in
    let g2 : Good (in_state w1 x (draw_trunk n) t s) =
    good_new w1 x (draw_trunk n) t s hx1 (next_free w x n hx g) f (λ d. absurd (d nx)) refl
    (ap (λ b. role_state b (AwaitsStatus k)) (same_name_refl n.mint.name)) (λ i. omega arith) (λ i. refl) (inl refl) refl g1 in
    let g3 : Good (record { names = w.names; nodes = set_node w.nodes x (with_side_at (draw_trunk n) t s); lists = w.lists }) =
    subst (λ ns. Good (record { names = w.names; nodes = ns; lists = w.lists }))
    (set_twice w.nodes x (draw_trunk n) (with_side_at (draw_trunk n) t s) nx) g2 in
    let here : node_of (set_node w.nodes x (with_side_at (draw_trunk n) t s)) x ≡ Some (with_side_at (draw_trunk n) t s) =
    node_of_set_same w.nodes x n (with_side_at (draw_trunk n) t s) hx nx in
    good_pushed
    (record { names = w.names; nodes = set_node w.nodes x (with_side_at (draw_trunk n) t s); lists = w.lists }) t y
    (ShakeMsg.SendName n.flags n.mint.creation n.mint.name) g3 (
      s,
      with_side_at (draw_trunk n) t s,
      ap (node_of (set_node w.nodes x (with_side_at (draw_trunk n) t s))) nx ∙ here,
      side_after_same (draw_trunk n) t s,
      inr refl,
    )
    (λ d a u hd hu ha. (λ j. cc, λ j. cc, λ j. cc, λ j. cc)) (λ j z l. absurd (neither j))
  where
    neither : (false ≡ true) ⊎ (false ≡ true) → ⊥
    neither (inl j) = cc
    neither (inr j) = cc

pub good_dial : (w : World) (x : Name) (n : Node) (y : Name) (k : ℕ) → node_of w.nodes x ≡ Some n → Good w
    → Good ((came_of w x w.lists (dial w.names n y k)).world)
good_dial w x n y k hx g =
    go (same_name y n.mint.name) refl (not (has_name y w.names))
    (is_some (side_where (λ v. not (is_gone v)) y (fm.entries n.sides))) refl (not (nat_lt (n.dialed + 1) (2 ^ 64)))
  where
    go : (a : Bool) → same_name y n.mint.name ≡ a → (b : Bool) (c : Bool)
        → is_some (side_where (λ v. not (is_gone v)) y (fm.entries n.sides)) ≡ c → (d : Bool)
        → Good
        ((came_of w x w.lists
        (cond a (Refuses Refusal.SelfDial)
        (cond b (Refuses Refusal.NothingThere)
        (cond c (Refuses Refusal.Busy) (cond d (Refuses Refusal.IdsUsedUp) (Accepts (Answer.Trunk (next_trunk
        n)) (write (next_trunk n) y (ShakeMsg.SendName n.flags n.mint.creation n.mint.name) (with_side
        (next_trunk n) (record { peer = y; introduction = untold; state = AwaitsStatus k })
        (at_work (draw_trunk n)))))))))).world)
    go false ea false false ec false = dialed w x n y k hx g ea ec
    go _ ea _ _ ec _ = g
