-- What the steps keep.
use Rattle.std.proofs.Common.{◌≡◌, ◌≤◌, Bool, true, false, cond, not, List, [], ◌∷◌, ◌++◌}
use Rattle.std.proofs.Common.{refl, sym, ap, ◌∙◌, subst, ◌&&◌, Some, ◌⊎◌, inl, inr, append-nil}
use Rattle.std.proofs.lemmas.Bool.{and_right, and_parts}
use Rattle.std.proofs.lemmas.Option.{same_Some}
use Rattle.std.specs.FinMap as fm
use Rattle.dist_model.proofs.Envelopes.{outgoing}
use Rattle.dist_model.proofs.Calls.{IfGoes, by_test, calls, takes_other}
use Rattle.dist_model.proofs.Keys.{same_name_refl, same_name_true, same_pid_is, same_pid_true, same_trunk, same_trunk_is, same_trunk_true}
use Rattle.dist_model.proofs.Moves.{Moves, reach_held}
use Rattle.dist_model.proofs.Posts.{AllRouted, NodeKept, held}
use Rattle.dist_model.proofs.Takes.{Takes, takes_link, with_sent}
use Rattle.dist_model.proofs.Pairs.{WorldKept, changed}
use Rattle.dist_model.proofs.Routes.{at_place, list_to_carried, list_to_insert, node_of_name}
use Rattle.dist_model.proofs.Sides.{SidesKept, asks, at_place_none, beside, half, joined, joined_not_gone, not_own}
use Rattle.dist_model.proofs.Sides.{reach_up, route_from, side_at, up_half, up_holds, up_not_gone, not_beside}
use Rattle.dist_model.proofs.Views.{news-append, over, side_of, telling_news, view}
use Rattle.dist_model.specs.Arrivals.{is_from, is_good, is_to}
use Rattle.dist_model.specs.Calls.{call}
use Rattle.dist_model.specs.Commands.{Accepts, Outcome, Refuses}
use Rattle.dist_model.specs.declared.command.Command.{Command}
use Rattle.dist_model.specs.Items.{Item, Signalled, news, news_in, telling}
use Rattle.dist_model.specs.Linking.{take_link}
use Rattle.dist_model.specs.Names.{Name, place_cmp, same_name, same_pid}
use Rattle.dist_model.specs.Node.{Node, is_stranger, reaches, route_in}
use Rattle.dist_model.specs.Sides.{AwaitsAck, State, TrunkSide, Up, is_up}
use Rattle.dist_model.specs.Taking.{take, take_item}
use Rattle.dist_model.specs.Work.{Work, at_work}
use Rattle.dist_model.specs.World.{World, carried, came_of, list_to, node_of, set_node}
use Rattle.erl_control.specs.declared.signal.Signal.{Signal}
use Rattle.erl_names.specs.declared.trunk.TrunkId.{TrunkId}
use Rattle.erl_term.specs.declared.term.Pid.{Pid}
use Rattle.link_core.proofs.Kept.{Kept}
use Rattle.link_core.specs.News.{Exited, LinkNews, Signals}
use Rattle.link_core.specs.Pair.{Side}
use Rattle.link_core.specs.declared.end.LinkSignal.{LinkSignal}
use Rattle.std.specs.FinMap.{FinMap}

-- nothing is sent to the own node on a trunk
pub own_none : (n : Node) (o : Work) (x : Name) (t : TrunkId) → SidesKept n → n.mint.name ≡ x → o.node.sides ≡ n.sides
    → AllRouted o.node.sides (outgoing o) → at_place t x (outgoing o) ≡ []
own_none n o x t k e sd ro = at_place_none o.node.sides (outgoing o) t x ro (λ r.
    let u = route_from n x t (ap (λ l. route_in (fm.entries l) x) (sym sd) ∙ r) in
    k.other t u.found u.there (u.peer ∙ sym e))

pub two_parts : (p q : Pid) (xs ys zs : List Item) → zs ≡ xs ++ ys → news p q zs ≡ news p q xs ++ news p q ys
two_parts p q xs ys zs h = ap (news p q) h ∙ news-append p q xs ys

-- a part of an event in which no pair takes a signal
pub moved : (w : World) (x : Name) (n : Node) (o : Work) → node_of w.nodes x ≡ Some n → Moves (at_work n) o → WorldKept w
    → WorldKept (record { names = w.names; nodes = set_node w.nodes x o.node; lists = carried w.lists o.effects })
moved w x n o hx f k =
    let kn = k.nodes x n hx in
    let sk = k.sides x n hx in
    let ro : AllRouted o.node.sides (outgoing o) = f.routed tt in
    let nm : n.mint.name ≡ x = node_of_name w.nodes x n hx in
    changed w x n o (carried w.lists o.effects) hx f.sides f.name (f.keeps kn) ro (λ t y d. list_to_carried w.lists o.effects t y)
    (λ t s fs j b p q pn qn old.
    let same : list_to (carried w.lists o.effects) t x ≡ list_to w.lists t x =
    list_to_carried w.lists o.effects t x ∙ ap (λ l. list_to w.lists t x ++ l) (own_none n o x t sk nm f.sides ro)
    ∙ append-nil (list_to w.lists t x) in
    let more : news p q (list_to (carried w.lists o.effects) t s.peer) ≡ news p q (list_to w.lists t s.peer)
    ++ news p q (at_place t s.peer (outgoing o)) =
    two_parts p q (list_to w.lists t s.peer) (at_place t s.peer (outgoing o)) _ (list_to_carried w.lists o.effects t s.peer) in
    subst (λ l. Kept (side_of o.node p q (news p q (list_to (carried w.lists o.effects) t s.peer))) (side_of b q p (news q p l))) (sym same)
    (subst (λ l. Kept (side_of o.node p q l) (side_of b q p (news q p (list_to w.lists t x)))) (sym more)
    (half n o f.sides f.name kn (f.keeps kn) f.grows f.draws ro sk t s fs j p q qn (list_to w.lists t s.peer)
    (side_of b q p (news q p (list_to w.lists t x)))
    (λ l r. f.views kn l p q (side_of b q p (news q p (list_to w.lists t x))) r) old)))
    k

-- any call
pub call_kept : (w : World) (x : Name) (n : Node) (c : Command) → node_of w.nodes x ≡ Some n → WorldKept w
    → WorldKept ((came_of w x w.lists (call n c)).world)
call_kept w x n c hx k = go (call n c) (calls n c)
  where
    go : (o : Outcome) → IfGoes o (Moves (at_work n)) → WorldKept ((came_of w x w.lists o).world)
    go (Refuses j) h = k
    go (Accepts a o) h = moved w x n o hx h k

-- a signal comes on a trunk that is up
not_same : (x y : Name) → (y ≡ x → ⊥) → same_name y x ≡ false
not_same x y d = by_test _ (same_name y x) (λ h. absurd (d (same_name_true y x h))) (λ h. h)

joined_asks : (v : State) → joined v ≡ true → asks v ≡ false
joined_asks (AwaitsAck w) h = refl
joined_asks Up h = refl
joined_asks _ h = cc

pub signal_miss : (a b q p : Pid) (s : LinkNews) (pay : Bool) → (same_pid a q && same_pid b p) ≡ false
    → news_in q p (Signalled (telling a b s) pay) ≡ []
signal_miss a b q p s pay h = telling_news a b q p s pay ∙ ap (λ t. cond t (s ∷ []) []) h

pub signal_hit : (a b q p : Pid) (s : LinkNews) (pay : Bool) → (same_pid a q && same_pid b p) ≡ true
    → news_in q p (Signalled (telling a b s) pay) ≡ s ∷ []
signal_hit a b q p s pay h = telling_news a b q p s pay ∙ ap (λ t. cond t (s ∷ []) []) h

module _ (w : World) (x : Name) (n : Node) (t0 : TrunkId) (s0 : TrunkSide) (i : Item) (rest : List Item) (o : Work)
    (hx : node_of w.nodes x ≡ Some n)
    (h0 : side_at n t0 ≡ Some s0) (u0 : is_up s0.state ≡ true) (first : list_to w.lists t0 x ≡ i ∷ rest) (k : WorldKept w)
    (sd : o.node.sides ≡ n.sides) (nm : o.node.mint.name ≡ n.mint.name) (ko : NodeKept o.node)
    (gr : (p : Pid) → over n p ≡ true → over o.node p ≡ true) (dr : n.mint.unlink_ids ≤ o.node.mint.unlink_ids)
    (ro : AllRouted o.node.sides (outgoing o))
    -- what it does to each pair: at a pair that it is about, the signal is taken
    (views : (p q : Pid) (b : List LinkNews) (c : Side) → news_in q p i ≡ [] → reaches n q.node ≡ true
    → Kept (view b (at_work n) p q) c → Kept (view b o p q) c)
    (taking : (p q : Pid) (b : List LinkNews) (c : Side) (s : LinkNews) (L : List LinkNews) → news_in q p i ≡ s ∷ []
    → reaches n q.node ≡ true → Kept (view b (at_work n) p q) (with_sent c (s ∷ L)) → Kept (view b o p q) (with_sent c L))
    (about : (p q : Pid) → (news_in q p i ≡ []) ⊎ ((s : LinkNews) × (news_in q p i ≡ s ∷ []) × (q.node ≡ s0.peer))) where
  m1 : FinMap place_cmp (List Item)
  m1 = fm.insert w.lists (t0, x) rest

  nx : n.mint.name ≡ x
  nx = node_of_name w.nodes x n hx

  kn : NodeKept n
  kn = k.nodes x n hx

  sk : SidesKept n
  sk = k.sides x n hx

  others_stay : (t : TrunkId) (y : Name) → (y ≡ x → ⊥)
      → list_to (carried m1 o.effects) t y ≡ list_to w.lists t y ++ at_place t y (outgoing o)
  unfolding m1
  others_stay t y d = list_to_carried m1 o.effects t y ∙ ap (λ l. l ++ at_place t y (outgoing o))
      (list_to_insert w.lists t0 x rest t y
      ∙ ap (λ b. cond b rest (list_to w.lists t y)) (and_right (same_trunk t t0) (same_name y x) (not_same x y d)))

  own_list : (t : TrunkId) → list_to (carried m1 o.effects) t x ≡ cond (same_trunk t t0 && same_name x x) rest (list_to w.lists t x)
  unfolding m1
  own_list t =
      list_to_carried m1 o.effects t x ∙ ap (λ l. list_to m1 t x ++ l) (own_none n o x t sk nx sd ro)
      ∙ append-nil (list_to m1 t x) ∙ list_to_insert w.lists t0 x rest t x

  -- only the trunk itself leads to the sender's node
  same_one : (t : TrunkId) (s : TrunkSide) → side_at n t ≡ Some s → joined s.state ≡ true → s.peer ≡ s0.peer → t ≡ t0
  same_one t s fs j e = go (sk.one t t0 s s0 fs h0 e (joined_not_gone s.state j) (up_not_gone s0.state u0))
    where
      go : (t ≡ t0) ⊎ (beside s.state s0.state ≡ true) → t ≡ t0
      go (inl h) = h
      go (inr h) = absurd (not_beside s.state s0.state (joined_asks s.state j) (up_holds s0.state u0).1 h)

  halves : (t : TrunkId) (s : TrunkSide) → side_at n t ≡ Some s → joined s.state ≡ true → (p q : Pid) → q.node ≡ s.peer → (c : Side)
      → ((b : List LinkNews) → reaches n q.node ≡ true → Kept (view b (at_work n) p q) c → Kept (view b o p q) c)
      → Kept (side_of n p q (news p q (list_to w.lists t s.peer))) c
      → Kept (side_of o.node p q (news p q (list_to (carried m1 o.effects) t s.peer))) c
  halves t s fs j p q qn c vs old =
      let d : s.peer ≡ x → ⊥ = λ e. sk.other t s fs (e ∙ sym nx) in
      subst (λ l. Kept (side_of o.node p q l) c)
      (sym (two_parts p q (list_to w.lists t s.peer) (at_place t s.peer (outgoing o)) _ (others_stay t s.peer d)))
      (half n o sd nm kn ko gr dr ro sk t s fs j p q qn (list_to w.lists t s.peer) c vs old)

  mover : (t : TrunkId) (s : TrunkSide) → side_at n t ≡ Some s → joined s.state ≡ true → (b : Node) (p q : Pid) → p.node ≡ x
      → q.node ≡ s.peer
      → Kept (side_of n p q (news p q (list_to w.lists t s.peer))) (side_of b q p (news q p (list_to w.lists t x)))
      → Kept (side_of o.node p q (news p q (list_to (carried m1 o.effects) t s.peer)))
      (side_of b q p (news q p (list_to (carried m1 o.effects) t x)))
  mover t s fs j b p q pn qn old = by_test _ (same_trunk t t0)
      (λ e.
      let te : t ≡ t0 = same_trunk_true t t0 e in
      let se : s ≡ s0 = same_Some s s0 (sym fs ∙ ap (side_at n) te ∙ h0) in
      let us : is_up s.state ≡ true = ap (λ (v : TrunkSide). is_up v.state) se ∙ u0 in
      let l1 : list_to (carried m1 o.effects) t x ≡ rest =
      own_list t ∙ ap (λ v. cond (v && same_name x x) rest (list_to w.lists t x)) e
      ∙ ap (λ v. cond v rest (list_to w.lists t x)) (same_name_refl x) in
      let l0 : list_to w.lists t x ≡ i ∷ rest = ap (λ v. list_to w.lists v x) te ∙ first in
      let old2 : Kept (side_of n p q (news p q (list_to w.lists t s.peer))) (side_of b q p (news_in q p i ++ news q p rest)) =
      subst (λ l. Kept (side_of n p q (news p q (list_to w.lists t s.peer))) (side_of b q p (news q p l))) l0 old in
      subst (λ l. Kept (side_of o.node p q (news p q (list_to (carried m1 o.effects) t s.peer))) (side_of b q p (news q p l))) (sym l1)
      (on_it t s fs j us b p q qn old2 (about p q)))
      (λ e.
      let l1 : list_to (carried m1 o.effects) t x ≡ list_to w.lists t x =
      own_list t ∙ ap (λ v. cond (v && same_name x x) rest (list_to w.lists t x)) e in
      subst (λ l. Kept (side_of o.node p q (news p q (list_to (carried m1 o.effects) t s.peer))) (side_of b q p (news q p l))) (sym l1)
      (halves t s fs j p q qn (side_of b q p (news q p (list_to w.lists t x)))
      (λ l r. views p q l _ (not_about t s fs j p q qn e (about p q)) r) old))
    where
      not_about : (t : TrunkId) (s : TrunkSide) → side_at n t ≡ Some s → joined s.state ≡ true → (p q : Pid) → q.node ≡ s.peer
          → same_trunk t t0 ≡ false → (news_in q p i ≡ []) ⊎ ((s : LinkNews) × (news_in q p i ≡ s ∷ []) × (q.node ≡ s0.peer))
          → news_in q p i ≡ []
      not_about t s fs j p q qn e (inl h) = h
      not_about t s fs j p q qn e (inr h) = let c : true ≡ false = sym (same_trunk_is t t0 (same_one t s fs j (sym qn ∙ h.2))) ∙ e in cc

      on_it : (t : TrunkId) (s : TrunkSide) → side_at n t ≡ Some s → joined s.state ≡ true → is_up s.state ≡ true
          → (b : Node) (p q : Pid) → q.node ≡ s.peer
          → Kept (side_of n p q (news p q (list_to w.lists t s.peer))) (side_of b q p (news_in q p i ++ news q p rest))
          → (news_in q p i ≡ []) ⊎ ((s : LinkNews) × (news_in q p i ≡ s ∷ []) × (q.node ≡ s0.peer))
          → Kept (side_of o.node p q (news p q (list_to (carried m1 o.effects) t s.peer))) (side_of b q p (news q p rest))
      on_it t s fs j us b p q qn old (inl h) = halves t s fs j p q qn (side_of b q p (news q p rest)) (λ l r. views p q l _ h r)
          (subst (λ l. Kept (side_of n p q (news p q (list_to w.lists t s.peer))) (side_of b q p (l ++ news q p rest))) h old)
      on_it t s fs j us b p q qn old (inr h) =
          let d : s.peer ≡ x → ⊥ = λ e. sk.other t s fs (e ∙ sym nx) in
          subst (λ l. Kept (side_of o.node p q l) (side_of b q p (news q p rest)))
          (sym (two_parts p q (list_to w.lists t s.peer) (at_place t s.peer (outgoing o)) _ (others_stay t s.peer d)))
          (up_half n o sd nm kn ko gr dr ro sk t s fs us p q qn (list_to w.lists t s.peer)
          (side_of b q p (h.0 ∷ news q p rest)) (side_of b q p (news q p rest))
          (λ l r. taking p q l (side_of b q p (news q p rest)) h.0 (news q p rest) h.1 r)
          (subst (λ l. Kept (side_of n p q (news p q (list_to w.lists t s.peer))) (side_of b q p (l ++ news q p rest))) h.1 old))

  pub arrived : WorldKept
      (record { names = w.names; nodes = set_node w.nodes x o.node; lists = carried (fm.insert w.lists (t0, x) rest) o.effects })
  unfolding m1
  arrived = changed w x n o (carried m1 o.effects) hx sd nm ko ro others_stay mover k

-- any signal on a trunk that is up
pub is_from_peer : (s : TrunkSide) (q : Pid) → is_from s q ≡ true → q.node ≡ s.peer
is_from_peer s q h = same_name_true q.node s.peer (and_parts (same_name q.node s.peer) _ h).0

pub not_never : (n : Node) (p : Pid) → is_to n p ≡ true → is_stranger n p ≡ false
not_never n p h = go (is_stranger n p) (and_parts (same_name p.node n.mint.name) (not (is_stranger n p)) h).1
  where
    go : (b : Bool) → not b ≡ true → b ≡ false
    go true h = cc
    go false h = refl

-- who takes it
pub taken_link : (y : Name) (q p : Pid) (s : LinkNews) (o : Work) → take y (telling q p s) o ≡ take_link p q s o
taken_link y q p (Signals LinkSignal.Link) o = refl
taken_link y q p _ o = refl

pub good_link : (n : Node) (v : TrunkSide) (q p : Pid) (s : LinkNews) (pay : Bool)
    → is_good n v (Signalled (telling q p s) pay) ≡ (is_from v q && is_to n p)
good_link n v q p (Signals LinkSignal.Link) pay = refl
good_link n v q p _ pay = refl

-- about a link, or not
pub kind : (i : Item) → ((p q : Pid) → news_in p q i ≡ [])
    ⊎ ((q : Pid) × (p : Pid) × (s : LinkNews) × (pay : Bool) × (i ≡ Signalled (telling q p s) pay))
kind (Signalled (Signal.Link q p) pay) = inr (q, p, Signals LinkSignal.Link, pay, refl)
kind (Signalled (Signal.Exit q p r) pay) = inr (q, p, Exited r, pay, refl)
kind (Signalled (Signal.UnlinkId i q p) pay) = inr (q, p, Signals (LinkSignal.Unlink i), pay, refl)
kind (Signalled (Signal.UnlinkIdAck i q p) pay) = inr (q, p, Signals (LinkSignal.Ack i), pay, refl)
kind _ = inl (λ a b. refl)

module _ (w : World) (x : Name) (n : Node) (t0 : TrunkId) (s0 : TrunkSide) (rest : List Item) (hx : node_of w.nodes x ≡ Some n)
    (h0 : side_at n t0 ≡ Some s0) (u0 : is_up s0.state ≡ true) (k : WorldKept w) where
  plain : (i : Item) → list_to w.lists t0 x ≡ i ∷ rest → ((p q : Pid) → news_in p q i ≡ [])
      → WorldKept (record {
        names = w.names;
        nodes = set_node w.nodes x ((take_item s0.peer i (at_work n)).node);
        lists = carried (fm.insert w.lists (t0, x) rest) ((take_item s0.peer i (at_work n)).effects);
      })
  plain i first none =
      let f = takes_other s0.peer i (at_work n) none in
      let kn = k.nodes x n hx in
      arrived w x n t0 s0 i rest (take_item s0.peer i (at_work n)) hx h0 u0 first k f.sides f.name (f.keeps kn) f.grows f.draws (f.routed tt)
      (λ p q b c e r. f.views kn b p q c r)
      (λ p q b c s l e r. let z : s ∷ [] ≡ [] = sym e ∙ none q p in cc)
      (λ p q. inl (none q p))

  linking : (q0 p0 : Pid) (s : LinkNews) (pay : Bool) → list_to w.lists t0 x ≡ Signalled (telling q0 p0 s) pay ∷ rest
      → (is_from s0 q0 && is_to n p0) ≡ true
      → WorldKept (record {
        names = w.names;
        nodes = set_node w.nodes x ((take_link p0 q0 s (at_work n)).node);
        lists = carried (fm.insert w.lists (t0, x) rest) ((take_link p0 q0 s (at_work n)).effects);
      })
  linking q0 p0 s pay first good =
      let g = and_parts (is_from s0 q0) (is_to n p0) good in
      let from : q0.node ≡ s0.peer = is_from_peer s0 q0 g.0 in
      let f =
      takes_link p0 q0 s (at_work n)
      (λ e. absurd (let c : true ≡ false = sym e ∙ ap (λ y. same_name y n.mint.name) from ∙ not_own n t0 s0 (k.sides x n hx) h0 in cc))
      (not_never n p0 g.1) in
      let kn = k.nodes x n hx in
      let hd : held n q0.node ≡ true = ap (held n) from ∙ reach_held n s0.peer (reach_up n t0 s0 (k.sides x n hx) h0 u0) in
      arrived w x n t0 s0 (Signalled (telling q0 p0 s) pay) rest (take_link p0 q0 s (at_work n)) hx h0 u0 first k f.sides f.name
      (f.keeps kn hd) f.grows f.draws (f.routed tt)
      (λ p q b c e r. f.others kn hd b p q c r (miss p q e))
      (λ p q b c u l e r. hit p q b c u l e r f kn hd)
      (λ p q. by_test _ (same_pid q0 q && same_pid p0 p)
      (λ h. inr (
        s,
        signal_hit q0 p0 q p s pay h,
        ap (λ (v : Pid). v.node) (sym (same_pid_true q0 q (and_parts (same_pid q0 q) (same_pid p0 p) h).0)) ∙ from,
      ))
      (λ h. inl (signal_miss q0 p0 q p s pay h)))
    where
      miss : (p q : Pid) → news_in q p (Signalled (telling q0 p0 s) pay) ≡ [] → (same_pid p p0 && same_pid q q0) ≡ false
      miss p q e = by_test _ (same_pid p p0 && same_pid q q0)
          (λ h.
          let v = and_parts (same_pid p p0) (same_pid q q0) h in
          let c : (same_pid q0 q && same_pid p0 p) ≡ true =
          ap (λ t. t && same_pid p0 p) (same_pid_is q0 q (sym (same_pid_true q q0 v.1)))
          ∙ same_pid_is p0 p (sym (same_pid_true p p0 v.0)) in
          let z : s ∷ [] ≡ [] = sym (signal_hit q0 p0 q p s pay c) ∙ e in cc)
          (λ h. h)

      hit : (p q : Pid) (b : List LinkNews) (c : Side) (u : LinkNews) (l : List LinkNews)
          → news_in q p (Signalled (telling q0 p0 s) pay) ≡ u ∷ [] → reaches n q.node ≡ true
          → Takes p0 q0 s (at_work n) (take_link p0 q0 s (at_work n)) → NodeKept n → held n q0.node ≡ true
          → Kept (view b (at_work n) p q) (with_sent c (u ∷ l)) → Kept (view b (take_link p0 q0 s (at_work n)) p q) (with_sent c l)
      hit p q b c u l e r f kn hd old = by_test _ (same_pid q0 q && same_pid p0 p)
          (λ h.
          let v = and_parts (same_pid q0 q) (same_pid p0 p) h in
          let qe : q0 ≡ q = same_pid_true q0 q v.0 in
          let pe : p0 ≡ p = same_pid_true p0 p v.1 in
          let both : s ∷ [] ≡ u ∷ [] = sym (signal_hit q0 p0 q p s pay h) ∙ e in
          let ue : u ≡ s = cc in
          subst (λ z. Kept (view b (take_link p0 q0 s (at_work n)) z q) (with_sent c l)) pe
          (subst (λ z. Kept (view b (take_link p0 q0 s (at_work n)) p0 z) (with_sent c l)) qe
          (f.here kn hd b c l (ap (λ (z : Pid). reaches n z.node) qe ∙ r)
          (subst (λ z. Kept (view b (at_work n) p0 z) (with_sent c (s ∷ l))) (sym qe)
          (subst (λ z. Kept (view b (at_work n) z q) (with_sent c (s ∷ l))) (sym pe)
          (subst (λ z. Kept (view b (at_work n) p q) (with_sent c (z ∷ l))) ue old))))))
          (λ h. let z : u ∷ [] ≡ [] = sym e ∙ signal_miss q0 p0 q p s pay h in cc)

  abbrev taken : Item → Type 0
  taken i =
      WorldKept (record {
        names = w.names;
        nodes = set_node w.nodes x ((take_item s0.peer i (at_work n)).node);
        lists = carried (fm.insert w.lists (t0, x) rest) ((take_item s0.peer i (at_work n)).effects);
      })

  -- an item that passes the checks
  pub good_item : (i : Item) → list_to w.lists t0 x ≡ i ∷ rest → is_good n s0 i ≡ true → taken i
  good_item i first good = go (kind i)
    where
      go : ((p q : Pid) → news_in p q i ≡ [])
          ⊎ ((q : Pid) × (p : Pid) × (s : LinkNews) × (pay : Bool) × (i ≡ Signalled (telling q p s) pay)) → taken i
      go (inl h) = plain i first h
      go (inr h) = subst (λ z. taken z) (sym h.4)
          (subst (λ (z : Work). WorldKept (record {
            names = w.names;
            nodes = set_node w.nodes x z.node;
            lists = carried (fm.insert w.lists (t0, x) rest) z.effects;
          })) (sym (taken_link s0.peer h.0 h.1 h.2 (at_work n)))
          (linking h.0 h.1 h.2 h.3 (first ∙ ap (λ z. z ∷ rest) h.4)
          (sym (good_link n s0 h.0 h.1 h.2 h.3) ∙ sym (ap (is_good n s0) h.4) ∙ good)))
