-- What nodes know of creations: all nodes, and what travels between them.
use Rattle.std.proofs.Common.{◌≡◌, ℕ, Bool, true, false, cond, List, [], ◌∷◌, ◌++◌, refl, sym, arith}
use Rattle.std.proofs.Common.{ap, ◌∙◌, subst, Option, Some, None, ◌⊎◌, inl, inr, ◌&&◌, Contains, ◌+◌, ◌^◌, nat_lt}
use Rattle.std.proofs.lemmas.Bool.{and_parts}
use Rattle.std.proofs.lemmas.List.Elements.{Contains-append_cases, Contains-append_left, Contains-append_right, Contains-push, Contains-push_cases}
use Rattle.std.proofs.lemmas.Option.{same_Some, none-some}
use Rattle.std.specs.FinMap as fm
use Rattle.std.specs.FinMap.{FinMap}
use Rattle.dist_model.proofs.Calls.{IfGoes, by_name, by_test, if_cond, if_not}
use Rattle.dist_model.proofs.ClosedSides.{gone_side, gone_sides}
use Rattle.dist_model.proofs.Envelopes.{sent_in}
use Rattle.dist_model.proofs.KeepBearings.{bearings_kept, if_accepted}
use Rattle.dist_model.proofs.Keys.{same_name_true, same_trunk, same_trunk_true}
use Rattle.dist_model.proofs.Learnt.{Honest}
use Rattle.dist_model.proofs.LearntAt.{HearsOf, Learns, Learnt, clears, node_learns, sender}
use Rattle.dist_model.proofs.NewSides.{list_none, option_none}
use Rattle.dist_model.proofs.Routes.{at_place, list_to_carried, list_to_insert, node_of_name, node_of_set_other, node_of_set_same}
use Rattle.dist_model.proofs.Run.{good_step_at}
use Rattle.dist_model.proofs.Seen.{side_in}
use Rattle.dist_model.proofs.Sides.{side_at}
use Rattle.dist_model.proofs.Trunks.{Good, partners}
use Rattle.dist_model.proofs.Truths.{none_within}
use Rattle.dist_model.specs.Commands.{Accepts, Outcome, Refuses}
use Rattle.dist_model.specs.Introductions.{knows_peer, told_by}
use Rattle.dist_model.specs.declared.report.Answer.{Answer}
use Rattle.dist_model.specs.declared.report.Effect.{Effect}
use Rattle.dist_model.specs.Dialing.{next_trunk}
use Rattle.dist_model.specs.Incarnations.{started, stopped}
use Rattle.dist_model.specs.Items.{Handshake, Item}
use Rattle.dist_model.specs.Keeping.{Bearings, Comes, Dials, Towards}
use Rattle.dist_model.specs.Names.{Name, place_cmp, same_name}
use Rattle.dist_model.specs.Node.{Node}
use Rattle.dist_model.specs.NodeEvents as event
use Rattle.dist_model.specs.NodeEvents.{NodeEvent, at_node}
use Rattle.dist_model.specs.Sides.{Gone, TrunkSide, is_gone}
use Rattle.dist_model.specs.Work.{Work, at_work}
use Rattle.dist_model.specs.World.{Arrive, Call, Dial, Event, Local, Lose, Start, Stop, Sweep}
use Rattle.dist_model.specs.World.{World, came_of, carried, first_of, left, list_to, met, node_name, node_of, rest_of, set_node, step_at}
use Rattle.erl_handshake.specs.declared.message.ShakeMsg.{ShakeMsg}
use Rattle.erl_names.specs.declared.trunk.TrunkId.{TrunkId}
use Rattle.erl_term.specs.declared.refusal.Refusal.{Refusal}
use Rattle.erl_handshake.specs.declared.introduction.Introduction.{Introduction}
use Rattle.dist_model.specs.Handshake.{introduces}
use Rattle.dist_model.specs.Sides.{untold}

-- x has a side of the trunk, and unless that is gone this is x's creation
pub record Right (ns : List Node) (x : Name) (t : TrunkId) (c : Introduction) : Type 0 where
  pub node : Node
  pub at : node_of ns x ≡ Some node
  pub side : TrunkSide
  pub there : side_at node t ≡ Some side
  pub right : is_gone side.state ≡ false → c ≡ introduces node

-- what travels tells its sender's creation, and what a side knows is its peer's
pub record Known (ns : List Node) (m : FinMap place_cmp (List Item)) : Type 0 where
  pub told : (t : TrunkId) (y : Name) (i : Item) (c : Introduction) → Contains (list_to m t y) i → told_by i ≡ Some c
      → Right ns (sender t (side_in (node_of ns y) t)) t c
  pub known : (y : Name) (n : Node) (t : TrunkId) (s : TrunkSide) → node_of ns y ≡ Some n → side_at n t ≡ Some s
      → knows_peer s.state ≡ true → Right ns s.peer t s.introduction

-- who has a side of a trunk is the sender of what comes to its peer
module _ (w : World) (g : Good w) (x : Name) (n : Node) (t : TrunkId) (s : TrunkSide) (hx : node_of w.nodes x ≡ Some n)
    (hs : side_at n t ≡ Some s) where
  pub apart : x ≡ s.peer → ⊥
  apart e = (g.core.sides x n hx).other t s hs (sym e ∙ sym (node_of_name w.nodes x n hx))

  pub sender_is : sender t (side_in (node_of w.nodes s.peer) t) ≡ x
  sender_is = go (node_of w.nodes s.peer) refl
    where
      unheard : side_in (node_of w.nodes s.peer) t ≡ None → t.dialer ≡ x
      unheard none = by_name _ t.dialer x (λ e. e) (λ d. absurd (strange d ((g.core.sides x n hx).mine t s hs)))
        where
          strange : (t.dialer ≡ x → ⊥) → (t.dialer ≡ n.mint.name) ⊎ (t.dialer ≡ s.peer) → ⊥
          strange d (inl e) = d (e ∙ node_of_name w.nodes x n hx)
          strange d (inr e) =
              let u = g.core.met x n t s hx hs d in
              none-some u.side (sym none ∙ ap (λ z. side_in z t) (ap (node_of w.nodes) (sym e) ∙ u.at) ∙ u.there)

      has : (m : Node) → node_of w.nodes s.peer ≡ Some m → (p : Option TrunkSide) → side_at m t ≡ p → sender t p ≡ x
      has m h None j = unheard (ap (λ z. side_in z t) h ∙ j)
      has m h (Some v) j = (partners w g.core x s.peer n m t s v hx h hs j apart).1

      go : (o : Option Node) → node_of w.nodes s.peer ≡ o → sender t (side_in o t) ≡ x
      go None h = unheard (ap (λ z. side_in z t) h)
      go (Some m) h = has m h (side_at m t) refl

-- what an event does to the sides of its node and tells on trunks
pub record Turned (n : Node) (t : TrunkId) (a : TrunkSide) (o : Work) : Type 0 where
  pub side : TrunkSide
  pub there : side_at o.node t ≡ Some side
  pub right : is_gone side.state ≡ false → (is_gone a.state ≡ false) × (introduces o.node ≡ introduces n)

pub record Done (lists : FinMap place_cmp (List Item)) (x : Name) (n : Node) (o : Work) : Type 0 where
  pub name : o.node.mint.name ≡ x
  pub stays : (t : TrunkId) (a : TrunkSide) → side_at n t ≡ Some a → Turned n t a o
  pub knows : (t : TrunkId) (s : TrunkSide) → side_at o.node t ≡ Some s → knows_peer s.state ≡ true
      → ((a : TrunkSide) × (side_at n t ≡ Some a) × (knows_peer a.state ≡ true) × (s.introduction ≡ a.introduction) × (s.peer ≡ a.peer))
      ⊎ ((i : Item) × Contains (list_to lists t x) i × (told_by i ≡ Some s.introduction) × (sender t (side_at n t) ≡ s.peer))
  pub sent : (t : TrunkId) (y : Name) (m : ShakeMsg) → Contains o.effects (Effect.Sent (Some t) y (Handshake m))
      → Honest o.node m × Towards o.node t y
  pub same : (t : TrunkId) (i : Item) → Contains (list_to lists t x) i → sender t (side_at o.node t) ≡ sender t (side_at n t)

-- what stands on a trunk's list of what was sent was sent
pub sent_at : (t : TrunkId) (y : Name) (fs : List (Effect Item)) (i : Item) → Contains (at_place t y (sent_in fs)) i
    → Contains fs (Effect.Sent (Some t) y i)
sent_at t y [] i h = absurd (none_within i h)
sent_at t y (Effect.Sent (Some u) z j ∷ fs) i h = go (same_trunk t u && same_name y z) refl h (sent_at t y fs i)
  where
    later : (Contains (at_place t y (sent_in fs)) i → Contains fs (Effect.Sent (Some t) y i)) → Contains (at_place t y (sent_in fs)) i → Contains (Effect.Sent (Some u) z j ∷ fs) (Effect.Sent (Some t) y i)
    later f k = Contains-append_right (Effect.Sent (Some u) z j ∷ []) fs (Effect.Sent (Some t) y i) (f k)

    go : (b : Bool) → (same_trunk t u && same_name y z) ≡ b → Contains (cond b (j ∷ []) [] ++ at_place t y (sent_in fs)) i
        → (Contains (at_place t y (sent_in fs)) i → Contains fs (Effect.Sent (Some t) y i))
        → Contains (Effect.Sent (Some u) z j ∷ fs) (Effect.Sent (Some t) y i)
    go false e k f = later f k
    go true e k f = pick (Contains-append_cases (j ∷ []) (at_place t y (sent_in fs)) i k)
      where
        pick : Contains (j ∷ []) i ⊎ Contains (at_place t y (sent_in fs)) i
            → Contains (Effect.Sent (Some u) z j ∷ fs) (Effect.Sent (Some t) y i)
        pick (inr l) = later f l
        pick (inl l) = one (only l)
          where
            v : (same_trunk t u ≡ true) × (same_name y z ≡ true)
            v = and_parts (same_trunk t u) (same_name y z) e

            only : Contains (j ∷ []) i → j ≡ i
            only l = first (Contains-push_cases [] j i l)
              where
                first : Contains {X = Item} [] i ⊎ (j ≡ i) → j ≡ i
                first (inl q) = absurd (none_within i q)
                first (inr q) = q

            one : j ≡ i → Contains (Effect.Sent (Some u) z j ∷ fs) (Effect.Sent (Some t) y i)
            one q =
                subst (λ a. Contains (Effect.Sent (Some u) z j ∷ fs) a)
                (λ k. Effect.Sent (Some (sym (same_trunk_true t u v.0) k)) (sym (same_name_true y z v.1) k) (q k))
                (Contains-append_left (Effect.Sent (Some u) z j ∷ []) fs (Effect.Sent (Some u) z j)
                (Contains-push [] (Effect.Sent (Some u) z j)))
sent_at t y (f ∷ fs) i h = Contains-append_right (f ∷ []) fs (Effect.Sent (Some t) y i) (sent_at t y fs i h)

module _ (w : World) (x : Name) (n : Node) (hx : node_of w.nodes x ≡ Some n) (o : Work) (d : Done w.lists x n o) where
  abbrev ns' : List Node
  ns' = set_node w.nodes x o.node

  here : node_of ns' x ≡ Some o.node
  here = node_of_set_same w.nodes x n o.node hx d.name

  there : (y : Name) → (x ≡ y → ⊥) → node_of ns' y ≡ node_of w.nodes y
  there y e = node_of_set_other w.nodes x y o.node d.name e

  -- a creation that was right stays so: a side that goes on has gone on, and its node's creation is the same
  pub right_kept : (z : Name) (t : TrunkId) (c : Introduction) → Right w.nodes z t c → Right ns' z t c
  right_kept z t c r = by_name _ x z
      (λ e.
      let same : r.node ≡ n = same_Some r.node n (sym r.at ∙ ap (node_of w.nodes) (sym e) ∙ hx) in
      let v = d.stays t r.side (ap (λ q. side_at q t) (sym same) ∙ r.there) in
      record {
        node = o.node;
        at = ap (node_of ns') (sym e) ∙ here;
        side = v.side;
        there = v.there;
        right = λ j. let f = v.right j in r.right f.0 ∙ ap (λ (q : Node). introduces q) same ∙ sym f.1;
      })
      (λ e. record { node = r.node; at = there z e ∙ r.at; side = r.side; there = r.there; right = r.right })

  -- who sent what was on its way
  same_sender : (t : TrunkId) (y : Name) (i : Item) → Contains (list_to w.lists t y) i
      → sender t (side_in (node_of ns' y) t) ≡ sender t (side_in (node_of w.nodes y) t)
  same_sender t y i c = by_name _ x y
      (λ e.
      ap (λ z. sender t (side_in z t)) (ap (node_of ns') (sym e) ∙ here)
      ∙ d.same t i (subst (λ z. Contains (list_to w.lists t z) i) (sym e) c)
      ∙ ap (λ z. sender t (side_in z t)) (sym hx ∙ ap (node_of w.nodes) e))
      (λ e. ap (λ z. sender t (side_in z t)) (there y e))

  module _ (m : FinMap place_cmp (List Item))
      (before : (t : TrunkId) (y : Name) (i : Item) → Contains (list_to m t y) i → Contains (list_to w.lists t y) i)
      (gw : Good (record { names = w.names; nodes = set_node w.nodes x o.node; lists = carried m o.effects }))
      (k : Known w.nodes w.lists) where
    pub known_done : Known ns' (carried m o.effects)
    known_done = record { told = told; known = known }
      where
        old : (t : TrunkId) (y : Name) (i : Item) (c : Introduction) → Contains (list_to w.lists t y) i → told_by i ≡ Some c
            → Right ns' (sender t (side_in (node_of ns' y) t)) t c
        old t y i c h j = subst (λ z. Right ns' z t c) (sym (same_sender t y i h))
            (right_kept (sender t (side_in (node_of w.nodes y) t)) t c (k.told t y i c h j))

        new : (t : TrunkId) (y : Name) (i : Item) (c : Introduction) → Contains o.effects (Effect.Sent (Some t) y i) → told_by i ≡ Some c
            → Right ns' (sender t (side_in (node_of ns' y) t)) t c
        new t y (Handshake l) c h j =
            let v = d.sent t y l h in
            subst (λ z. Right ns' z t c)
            (sym (ap (λ z. sender t (side_in (node_of ns' z) t)) (sym v.1.peer)
            ∙ sender_is (record { names = w.names; nodes = ns'; lists = carried m o.effects }) gw x o.node t v.1.side here v.1.there))
            (record { node = o.node; at = here; side = v.1.side; there = v.1.there; right = λ q. v.0 c j })
        new t y i c h j = absurd (none-some c j)

        told : (t : TrunkId) (y : Name) (i : Item) (c : Introduction) → Contains (list_to (carried m o.effects) t y) i → told_by i ≡ Some c
            → Right ns' (sender t (side_in (node_of ns' y) t)) t c
        told t y i c h j = pick (Contains-append_cases (list_to m t y) (at_place t y (sent_in o.effects)) i
            (subst (λ l. Contains l i) (list_to_carried m o.effects t y) h))
          where
            pick : Contains (list_to m t y) i ⊎ Contains (at_place t y (sent_in o.effects)) i
                → Right ns' (sender t (side_in (node_of ns' y) t)) t c
            pick (inl q) = old t y i c (before t y i q) j
            pick (inr q) = new t y i c (sent_at t y o.effects i q) j

        mine : (t : TrunkId) (s : TrunkSide) → side_at o.node t ≡ Some s → knows_peer s.state ≡ true → Right ns' s.peer t s.introduction
        mine t s hs ks = pick (d.knows t s hs ks)
          where
            pick : ((a : TrunkSide) × (side_at n t ≡ Some a) × (knows_peer a.state ≡ true) × (s.introduction ≡ a.introduction)
                × (s.peer ≡ a.peer))
                ⊎ ((i : Item) × Contains (list_to w.lists t x) i × (told_by i ≡ Some s.introduction)
                × (sender t (side_at n t) ≡ s.peer)) → Right ns' s.peer t s.introduction
            pick (inl v) = subst (λ z. Right ns' z t s.introduction) (sym v.4)
                (subst (Right ns' v.0.peer t) (sym v.3) (right_kept v.0.peer t v.0.introduction (k.known x n t v.0 hx v.1 v.2)))
            pick (inr v) = right_kept s.peer t s.introduction
                (subst (λ z. Right w.nodes z t s.introduction) (ap (λ z. sender t (side_in z t)) hx ∙ v.3)
                (k.told t x v.0 s.introduction v.1 v.2))

        known : (y : Name) (b : Node) (t : TrunkId) (s : TrunkSide) → node_of ns' y ≡ Some b → side_at b t ≡ Some s
            → knows_peer s.state ≡ true → Right ns' s.peer t s.introduction
        known y b t s hy hs ks = by_name _ x y
            (λ e.
            let same : o.node ≡ b = same_Some o.node b (sym here ∙ ap (node_of ns') e ∙ hy) in
            mine t s (ap (λ q. side_at q t) same ∙ hs) ks)
            (λ e. right_kept s.peer t s.introduction (k.known y b t s (sym (there y e) ∙ hy) hs ks))

-- ---- one event

pub contains_first : (l : List Item) (i : Item) → first_of l ≡ Some i → Contains l i
contains_first [] i h = absurd (none-some i h)
contains_first (j ∷ rest) i h = subst (λ z. Contains (j ∷ rest) z) (same_Some j i h)
    (Contains-append_left (j ∷ []) rest j (Contains-push [] j))

pub contains_rest : (l : List Item) (i : Item) → Contains (rest_of l) i → Contains l i
contains_rest [] i h = h
contains_rest (j ∷ rest) i h = Contains-append_right (j ∷ []) rest i h

pub left_before : (w : World) (e : Event) (t : TrunkId) (y : Name) (i : Item) → Contains (list_to (left w e) t y) i
    → Contains (list_to w.lists t y) i
left_before w (Arrive u x k) t y i h = go (same_trunk t u && same_name y x) refl
    (subst (λ l. Contains l i) (list_to_insert w.lists u x (rest_of (list_to w.lists u x)) t y) h)
  where
    go : (b : Bool) → (same_trunk t u && same_name y x) ≡ b → Contains (cond b (rest_of (list_to w.lists u x)) (list_to w.lists t y)) i
        → Contains (list_to w.lists t y) i
    go false e q = q
    go true e q =
        let v = and_parts (same_trunk t u) (same_name y x) e in
        subst (λ l. Contains l i) (λ j. list_to w.lists (sym (same_trunk_true t u v.0) j) (sym (same_name_true y x v.1) j))
        (contains_rest (list_to w.lists u x) i q)
left_before w (Call x c) t y i h = h
left_before w (Local x) t y i h = h
left_before w (Lose u x) t y i h = h
left_before w (Sweep x) t y i h = h
left_before w (Dial x z k) t y i h = h
left_before w (Stop x) t y i h = h
left_before w (Start x) t y i h = h

heard_first : (w : World) (e : Event) (t : TrunkId) (i : Item) (word : ℕ) → met w e ≡ event.Arrive t (Some i) word
    → Contains (list_to w.lists t (node_name e)) i
heard_first w (Arrive u x k) t i word h =
    let a : u ≡ t = cc in
    let b : first_of (list_to w.lists u x) ≡ Some i = cc in
    subst (λ z. Contains (list_to w.lists z x) i) a (contains_first (list_to w.lists u x) i b)
heard_first w (Call x c) t i word h = cc
heard_first w (Local x) t i word h = cc
heard_first w (Lose u x) t i word h = cc
heard_first w (Sweep x) t i word h = cc
heard_first w (Dial x z k) t i word h = cc
heard_first w (Stop x) t i word h = cc
heard_first w (Start x) t i word h = cc

module _ (w : World) (x : Name) (n : Node) (hx : node_of w.nodes x ≡ Some n) (g : Good w) where
  nx : n.mint.name ≡ x
  nx = node_of_name w.nodes x n hx

  pub next_none : side_at n (next_trunk n) ≡ None
  next_none = option_none (side_at n (next_trunk n))
      (λ s h. let c = (g.home x n hx).counts (next_trunk n) s h refl in absurd (omega arith))

  -- nothing travels on a trunk that isn't dialed yet
  next_empty : (y : Name) → list_to w.lists (next_trunk n) y ≡ []
  next_empty y = list_none (fm.get w.lists (next_trunk n, y)) (λ j.
      let p = g.posted (next_trunk n) y j in
      let same : p.1 ≡ n = same_Some p.1 n (sym p.2 ∙ ap (node_of w.nodes) nx ∙ hx) in
      none-some p.0 (sym next_none ∙ ap (λ v. side_at v (next_trunk n)) (sym same) ∙ p.3))

  module _ (e : NodeEvent) (a : Answer) (o : Work) (he : at_node w.names n e ≡ Accepts a o)
      (heard : (t : TrunkId) (i : Item) (word : ℕ) → e ≡ event.Arrive t (Some i) word → Contains (list_to w.lists t x) i) where
    bears : Bearings n e o
    bears = if_accepted (Bearings n e) (at_node w.names n e) a o he (bearings_kept w.names n e)

    pub done : clears e ≡ false → Done w.lists x n o
    done h = record {
      name = bears.name ∙ nx;
      stays = λ t b hb. stays t b hb (side_at o.node t) refl;
      knows = λ t s hs ks. knows t s hs ks (side_at n t) refl (l.sides t s hs);
      sent = λ t y m c. (λ d j. l.sent (Some t) y m c d j ∙ sym l.own, bears.sent t y (Handshake m) c);
      same = λ t i c. same t i c (side_at n t) refl (side_at o.node t) refl;
    }
      where
        l : Learnt n e o
        l = if_accepted (Learnt n e) (at_node w.names n e) a o he (node_learns w.names n e next_none h)

        stays : (t : TrunkId) (b : TrunkSide) → side_at n t ≡ Some b → (p : Option TrunkSide) → side_at o.node t ≡ p → Turned n t b o
        stays t b hb None j = absurd (none-some b (sym (l.new t j) ∙ hb))
        stays t b hb (Some s) j =
            let v = subst (λ z. Learns e t z s) hb (l.sides t s j) in
            record { side = s; there = j; right = λ q. (v.1 q, l.own) }

        knows : (t : TrunkId) (s : TrunkSide) → side_at o.node t ≡ Some s → knows_peer s.state ≡ true → (p : Option TrunkSide)
            → side_at n t ≡ p → Learns e t p s
            → ((b : TrunkSide) × (side_at n t ≡ Some b) × (knows_peer b.state ≡ true) × (s.introduction ≡ b.introduction)
            × (s.peer ≡ b.peer))
            ⊎ ((i : Item) × Contains (list_to w.lists t x) i × (told_by i ≡ Some s.introduction) × (sender t (side_at n t) ≡ s.peer))
        knows t s hs ks None j v =
            let q = v ks in
            inr (q.0, heard t q.0 q.1 q.2, q.3, ap (sender t) j ∙ sym (new (bears.new t s j hs)))
          where
            new : (Comes e t × (s.peer ≡ t.dialer)) ⊎ Dials n e t s.peer → s.peer ≡ t.dialer
            new (inl c) = c.1
            new (inr c) = let q = v ks in let z = sym q.2 ∙ c.0.1 in cc
        knows t s hs ks (Some b) j v = pick (v.2 ks)
          where
            pick : ((knows_peer b.state ≡ true) × (s.introduction ≡ b.introduction)) ⊎ HearsOf e t s.introduction
                → ((b : TrunkSide) × (side_at n t ≡ Some b) × (knows_peer b.state ≡ true) × (s.introduction ≡ b.introduction)
                × (s.peer ≡ b.peer))
                ⊎ ((i : Item) × Contains (list_to w.lists t x) i × (told_by i ≡ Some s.introduction)
                × (sender t (side_at n t) ≡ s.peer))
            pick (inl q) = inl (b, j, q.0, q.1, v.0)
            pick (inr q) = inr (q.0, heard t q.0 q.1 q.2, q.3, ap (sender t) j ∙ sym v.0)

        same : (t : TrunkId) (i : Item) → Contains (list_to w.lists t x) i → (p : Option TrunkSide) → side_at n t ≡ p
            → (r : Option TrunkSide) → side_at o.node t ≡ r → sender t (side_at o.node t) ≡ sender t (side_at n t)
        same t i c None j None q = ap (sender t) (q ∙ sym j)
        same t i c (Some b) j None q = absurd (none-some b (sym (l.new t q) ∙ j))
        same t i c (Some b) j (Some s) q =
            ap (sender t) q ∙ (subst (λ z. Learns e t z s) j (l.sides t s q)).0 ∙ sym (ap (sender t) j)
        same t i c None j (Some s) q = ap (sender t) q ∙ new (bears.new t s j q) ∙ sym (ap (sender t) j)
          where
            new : (Comes e t × (s.peer ≡ t.dialer)) ⊎ Dials n e t s.peer → s.peer ≡ t.dialer
            new (inl v) = v.1
            new (inr v) = absurd (none_within i (subst (λ z. Contains z i) (ap (λ z. list_to w.lists z x) v.1 ∙ next_empty x) c))

  -- a node stops or starts: all its sides are gone
  module _ (o : Work) (nm : o.node.mint.name ≡ x) (gone : (t : TrunkId) → side_at o.node t ≡ gone_side (side_at n t)) (none : o.effects ≡ []) where
    pub cleared : Done w.lists x n o
    cleared = record {
      name = nm;
      stays = λ t b hb. record {
        side = record { peer = b.peer; introduction = untold; state = Gone };
        there = gone t ∙ ap gone_side hb;
        right = λ q. cc;
      };
      knows = λ t s hs ks. knows t s ks (side_at n t) (sym (gone t) ∙ hs);
      sent = λ t y m c. absurd (none_within (Effect.Sent (Some t) y (Handshake m)) (subst (λ z. Contains z (Effect.Sent (Some t) y (Handshake m))) none c));
      same = λ t i c. ap (sender t) (gone t) ∙ same t (side_at n t);
    }
      where
        same : (t : TrunkId) (p : Option TrunkSide) → sender t (gone_side p) ≡ sender t p
        same t None = refl
        same t (Some b) = refl

        knows : (t : TrunkId) (s : TrunkSide) → knows_peer s.state ≡ true → (p : Option TrunkSide) → gone_side p ≡ Some s
            → ((b : TrunkSide) × (side_at n t ≡ Some b) × (knows_peer b.state ≡ true) × (s.introduction ≡ b.introduction)
            × (s.peer ≡ b.peer))
            ⊎ ((i : Item) × Contains (list_to w.lists t x) i × (told_by i ≡ Some s.introduction) × (sender t (side_at n t) ≡ s.peer))
        knows t s ks None j = absurd (none-some s j)
        knows t s ks (Some b) j =
            let v : TrunkSide = record { peer = b.peer; introduction = untold; state = Gone } in
            let c : false ≡ true = ap (λ (z : TrunkSide). knows_peer z.state) (same_Some v s j) ∙ ks in
            absurd (let z : true ≡ false = sym c in cc)

-- what clears
clears_done : (w : World) (x : Name) (n : Node) (hx : node_of w.nodes x ≡ Some n) → Good w → (e : NodeEvent) → clears e ≡ true
    → IfGoes (at_node w.names n e) (Done w.lists x n)
clears_done w x n hx g event.Stop h = if_cond n.up _ Refusal.NodeDown _ (λ u.
    cleared w x n hx g (at_work (stopped n)) (node_of_name w.nodes x n hx) (λ t. gone_sides n t) refl)
clears_done w x n hx g event.Start h = if_not n.up _ Refusal.NodeUp _ (if_cond (nat_lt (n.mint.creation + 1) (2 ^ 32)) _ Refusal.IdsUsedUp _
    (λ u. cleared w x n hx g (at_work (started n)) (node_of_name w.nodes x n hx) (λ t. gone_sides n t) refl))
clears_done w x n hx g _ h = cc

-- a world in which what is known is right, and one in which what was right is right still
abbrev pub Follows : World → World → Type 0
Follows w v = (Known w.nodes w.lists → Known v.nodes v.lists) × ((z : Name) (t : TrunkId) (c : Introduction) → Right w.nodes z t c → Right v.nodes z t c)

stays_so : (w : World) → Follows w w
stays_so w = (λ k. k, λ z t c r. r)

pub known_step : (w : World) (o : Option Node) (e : Event) → node_of w.nodes (node_name e) ≡ o → Good w
    → Follows w ((step_at w o e).world)
known_step w None e h g = stays_so w
known_step w (Some n) e h g = go (at_node w.names n (met w e)) refl (good_step_at w (Some n) e h g)
  where
    x : Name
    x = node_name e

    go : (r : Outcome) → at_node w.names n (met w e) ≡ r → Good ((came_of w x (left w e) r).world)
        → Follows w ((came_of w x (left w e) r).world)
    go (Refuses why) j gw = stays_so w
    go (Accepts a o) j gw =
        let d : Done w.lists x n o = by_test _ (clears (met w e))
        (λ c. if_accepted (Done w.lists x n) (at_node w.names n (met w e)) a o j (clears_done w x n h g (met w e) c))
        (λ c. done w x n h g (met w e) a o j (heard_first w e) c) in
        (known_done w x n h o d (left w e) (left_before w e) gw, right_kept w x n h o d)
