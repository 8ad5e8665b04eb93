-- A monitor that is watched is known at its target's node, or the word of it travels.
use Rattle.std.proofs.Common.{◌≡◌, Bool, true, false, List, refl, sym, ap, ◌∙◌, subst, ◌||◌, Option, Some, None, ◌⊎◌, inl, inr}
use Rattle.std.proofs.lemmas.Option.{same_Some, none-some}
use Rattle.std.specs.Option.{is_some}
use Rattle.std.specs.FinMap as fm
use Rattle.std.specs.FinMap.{FinMap}
use Rattle.dist_model.proofs.Envelopes.{outgoing}
use Rattle.dist_model.proofs.SideAges.{Later, Unwatched}
use Rattle.dist_model.proofs.Calls.{by_name, by_test}
use Rattle.dist_model.proofs.Events.{AllOver, Done}
use Rattle.dist_model.proofs.Keys.{same_name_is, same_name_true}
use Rattle.dist_model.proofs.Routes.{at_place, list_to_carried, node_of_name}
use Rattle.dist_model.proofs.Sides.{holds, route_up, side_at, up_holds}
use Rattle.dist_model.proofs.Trunks.{Good, has, partners}
use Rattle.dist_model.proofs.Told.{Begins, Course, Downs, Leaves, Off, Revoked, Sound, Stays}
use Rattle.dist_model.proofs.Told.{asked_one, at_x, elsewhere, Drawn, monitored_answered}
use Rattle.dist_model.proofs.Lands.{Lands, has_first, has_last, is_call, is_end}
use Rattle.dist_model.proofs.Home.{never_own}
use Rattle.dist_model.specs.declared.report.Answer.{Answer}
use Rattle.dist_model.specs.Histories.{History}
use Rattle.dist_model.specs.Items.{Item}
use Rattle.dist_model.specs.Names.{Name, place_cmp, same_name}
use Rattle.dist_model.specs.Node.{Node, reaches, route}
use Rattle.dist_model.specs.Sides.{TrunkSide, is_losing, is_up, is_over, is_gone}
use Rattle.dist_model.specs.Work.{Work}
use Rattle.dist_model.specs.World.{Event, Reported, World, carried, list_to, node_of, set_node}
use Rattle.erl_names.specs.declared.trunk.TrunkId.{TrunkId}
use Rattle.erl_term.specs.declared.term.Pid.{Pid}
use Rattle.erl_term.specs.declared.term.Reference.{Reference}
use Rattle.monitor_core.specs.declared.monitor.Watch.{Watch}
use Rattle.monitor_core.specs.declared.monitor.Registration.{Registration}
use Rattle.monitor_core.specs.Monitors.{target_node}

-- MONITOR_P of k travels to y, or it is registered there on a side that is up, or MONITOR_P_EXIT travels back to x; or y's side is over
pub data Known (w : World) (t : TrunkId) (x y : Name) (k : Reference) : Type 0 where
  Travels : has (is_call k) (list_to w.lists t y) ≡ true → Known w t x y k
  Enrolled : (m : Node) (v : TrunkSide) (b : Registration) → node_of w.nodes y ≡ Some m → side_at m t ≡ Some v
      → is_up v.state ≡ true → fm.get m.registered k ≡ Some b → Known w t x y k
  Returns : has (is_end k) (list_to w.lists t x) ≡ true → Known w t x y k
  PeerOver : (m : Node) (v : TrunkSide) → node_of w.nodes y ≡ Some m → side_at m t ≡ Some v → is_over v.state ≡ true → Known w t x y k

-- of a target elsewhere: the trunk on which the word went
pub record Away (w : World) (x : Name) (n : Node) (k : Reference) (u : Watch) : Type 0 where
  pub trunk : TrunkId
  pub side : TrunkSide
  pub there : side_at n trunk ≡ Some side
  pub peer : side.peer ≡ (target_node u.target)
  pub holding : holds side.state ≡ true
  pub known : (is_over side.state ≡ true) ⊎ Known w trunk x (target_node u.target) k

-- of a target of the same node
abbrev pub HomeKnown : Node → Reference → Type 0
HomeKnown n k = (has (is_call k) n.local ≡ true) ⊎ (((b : Registration) × (fm.get n.registered k ≡ Some b)) ⊎ (has (is_end k) n.local ≡ true))

abbrev pub Followed : World → Name → Node → Reference → Watch → Type 0
Followed w y v k u =
    (same_name (target_node u.target) v.mint.name ≡ true → HomeKnown v k) × (same_name (target_node u.target) v.mint.name ≡ false → Away w y v k u)

abbrev pub Linked : World → Type 0
Linked w =
    (y : Name) (v : Node) (k : Reference) (u : Watch) → node_of w.nodes y ≡ Some v → fm.get v.watches k ≡ Some u → Followed w y v k u

-- a call of Monitor went out
abbrev pub NewWatch : Node → Work → Reference → Watch → Type 0
NewWatch n o k u = (same_name (target_node u.target) n.mint.name ≡ true → has (is_call k) o.node.local ≡ true)
    × (same_name (target_node u.target) n.mint.name ≡ false → (t : TrunkId) × (s : TrunkSide) × (side_at o.node t ≡ Some s)
    × (s.peer ≡ (target_node u.target)) × (holds s.state ≡ true)
    × (has (is_call k) (at_place t (target_node u.target) (outgoing o)) ≡ true))

-- what becomes of a MONITOR_P that is taken from a trunk
abbrev pub TakenCall : Work → TrunkId → Name → Reference → Type 0
TakenCall o t y k =
    ((v : TrunkSide) × (side_at o.node t ≡ Some v) × (is_over v.state ≡ true)) ⊎ (((v : TrunkSide) × (b : Registration)
    × (side_at o.node t ≡ Some v) × (is_up v.state ≡ true)
    × (fm.get o.node.registered k ≡ Some b)) ⊎ (has (is_end k) (at_place t y (outgoing o)) ≡ true))

up_or_over : (s : TrunkSide) → holds s.state ≡ true → (is_up s.state ≡ true) ⊎ (is_over s.state ≡ true)
up_or_over s h = go (is_up s.state) (is_losing s.state) refl refl h
  where
    go : (a b : Bool) → is_up s.state ≡ a → is_losing s.state ≡ b → (a || b) ≡ true → (is_up s.state ≡ true) ⊎ (is_over s.state ≡ true)
    go true b i j h = inl i
    go false true i j h = inr (ap (λ c. c || is_gone s.state) j)
    go false false i j h = cc

-- a watch is of a process of its node
pub owner_at : (w : World) (h : History) → Good w → Sound w h → (y : Name) (v : Node) (k : Reference) (u : Watch)
    → node_of w.nodes y ≡ Some v → fm.get v.watches k ≡ Some u → u.owner.node ≡ y
owner_at w h gw g y v k u hv i =
    same_name_true u.owner.node v.mint.name (never_own v u.owner ((gw.core.nodes y v hv).born u.owner (g.watching y v k u hv i).4))
    ∙ node_of_name w.nodes y v hv

module _ (w : World) (h : History) (x : Name) (n : Node) (hx : node_of w.nodes x ≡ Some n) (gw : Good w) (g : Sound w h)
    (l : Linked w) (e : Event) (xs : List Item) (a : Answer) (o : Work) (d : Done w h x n hx gw g e xs a o)
    (m : FinMap place_cmp (List Item))
    -- what the event takes off a list, and what it makes of it
    (Head : TrunkId → (Item → Bool) → Type 0) (pop : (f : Item → Bool) (t : TrunkId) (y : Name)
    → has f (list_to w.lists t y) ≡ true → (has f (list_to m t y) ≡ true) ⊎ ((y ≡ x) × Head t f))
    (took_end : (t : TrunkId) (k : Reference) (u : Watch) → Head t (is_end k) → fm.get n.watches k ≡ Some u
    → fm.get o.node.watches k ≡ Some u → (c : TrunkSide) → side_at n t ≡ Some c → c.peer ≡ target_node u.target
    → (b : TrunkSide) → side_at o.node t ≡ Some b → is_over b.state ≡ true)
    (took_call : (t : TrunkId) (k : Reference) (y : Name) (v : Node) (u : Watch) → Head t (is_call k) → (x ≡ y → ⊥)
    → node_of w.nodes y ≡ Some v → fm.get v.watches k ≡ Some u → (target_node u.target) ≡ x → TakenCall o t y k)
    (HeadHome : (Item → Bool) → Type 0) (pop_home : (f : Item → Bool) → has f n.local ≡ true → (has f xs ≡ true) ⊎ HeadHome f)
    (home_end : (k : Reference) (u : Watch) → HeadHome (is_end k) → same_name (target_node u.target) n.mint.name ≡ true
    → fm.get n.watches k ≡ Some u → fm.get o.node.watches k ≡ Some u → ⊥)
    (home_call : (k : Reference) (u : Watch) → HeadHome (is_call k) → fm.get n.watches k ≡ Some u
    → ((b : Registration) × (fm.get o.node.registered k ≡ Some b)) ⊎ (has (is_end k) o.node.local ≡ true))
    (fresh : (k : Reference) (u : Watch) → fm.get n.watches k ≡ None → fm.get o.node.watches k ≡ Some u → NewWatch n o k u) where
  nx : n.mint.name ≡ x
  nx = node_of_name w.nodes x n hx

  on : o.node.mint.name ≡ n.mint.name
  on = d.deed.name ∙ sym nx

  lasts : (f : Item → Bool) (t : TrunkId) (y : Name) → has f (list_to m t y) ≡ true → has f (list_to (carried m o.effects) t y) ≡ true
  lasts f t y i = ap (has f) (list_to_carried m o.effects t y) ∙ has_first f (list_to m t y) (at_place t y (outgoing o)) i

  sends : (f : Item → Bool) (t : TrunkId) (y : Name) → has f (at_place t y (outgoing o)) ≡ true
      → has f (list_to (carried m o.effects) t y) ≡ true
  sends f t y i = ap (has f) (list_to_carried m o.effects t y) ∙ has_last f (list_to m t y) (at_place t y (outgoing o)) i

  -- a watch of before names one owner
  the_one : (y : Name) (v : Node) (k : Reference) (u : Watch) (b : Registration) → node_of w.nodes y ≡ Some v → fm.get v.watches k ≡ Some u
      → fm.get n.registered k ≡ Some b → b.owner ≡ u.owner
  the_one y v k u b hv i j =
      (asked_one k b.target b.owner u.owner u.target h (g.one k) (g.enrolled x n k b hx j).1 (g.watching y v k u hv i).1).0

  not_off : (y : Name) (v : Node) (k : Reference) (u : Watch) → node_of w.nodes y ≡ Some v → fm.get v.watches k ≡ Some u → Off w h k → ⊥
  not_off y v k u hv i f = none-some u (sym (f.1 v (subst (λ z. node_of w.nodes z ≡ Some v) (sym (g.watching y v k u hv i).0) hv)) ∙ i)

  abbrev W : World
  W = record { names = w.names; nodes = set_node w.nodes x o.node; lists = carried m o.effects }

  -- ---- a watch of the node itself

  home_here : (k : Reference) (u : Watch) → fm.get n.watches k ≡ Some u → fm.get o.node.watches k ≡ Some u
      → same_name (target_node u.target) n.mint.name ≡ true → HomeKnown n k → HomeKnown o.node k
  home_here k u i j own (inl c) = go (pop_home (is_call k) c)
    where
      stay : (has (is_call k) o.node.local ≡ true) ⊎ ((r : Reference) → fm.get o.node.watches r ≡ None) → HomeKnown o.node k
      stay (inl s) = inl s
      stay (inr s) = absurd (none-some u (sym (s k) ∙ j))

      taken : ((b : Registration) × (fm.get o.node.registered k ≡ Some b)) ⊎ (has (is_end k) o.node.local ≡ true) → HomeKnown o.node k
      taken s = inr s

      go : (has (is_call k) xs ≡ true) ⊎ HeadHome (is_call k) → HomeKnown o.node k
      go (inl s) = stay (d.local (is_call k) s)
      go (inr s) = taken (home_call k u s i)
  home_here k u i j own (inr (inl c)) = go (d.leaving k c.0 c.1)
    where
      owned : same_name c.0.owner.node n.mint.name ≡ true
      owned = same_name_is c.0.owner.node n.mint.name
          (ap (λ (z : Pid). z.node) (the_one x n k u c.0 hx i c.1) ∙ owner_at w h gw g x n k u hx i ∙ sym nx)

      go : (fm.get o.node.registered k ≡ Some c.0)
          ⊎ ((Lands (is_end k) n c.0.owner.node o ⊎ (Off w h k ⊎ (reaches n c.0.owner.node ≡ false))) ⊎ AllOver o.node)
          → HomeKnown o.node k
      go (inl s) = inr (inl (c.0, s))
      go (inr (inl (inl s))) = inr (inr (s.0 owned))
      go (inr (inl (inr (inl s)))) = absurd (not_off x n k u hx i s)
      go (inr (inl (inr (inr s)))) = let z : true ≡ false = sym (ap (λ b. b || is_some (route n c.0.owner.node)) owned) ∙ s in cc
      go (inr (inr s)) = absurd (none-some u (sym (s.1 k) ∙ j))
  home_here k u i j own (inr (inr c)) = go (pop_home (is_end k) c)
    where
      stay : (has (is_end k) o.node.local ≡ true) ⊎ ((r : Reference) → fm.get o.node.watches r ≡ None) → HomeKnown o.node k
      stay (inl s) = inr (inr s)
      stay (inr s) = absurd (none-some u (sym (s k) ∙ j))

      go : (has (is_end k) xs ≡ true) ⊎ HeadHome (is_end k) → HomeKnown o.node k
      go (inl s) = stay (d.local (is_end k) s)
      go (inr s) = absurd (home_end k u s own i j)

  away_here : (k : Reference) (u : Watch) → fm.get n.watches k ≡ Some u → fm.get o.node.watches k ≡ Some u
      → same_name (target_node u.target) n.mint.name ≡ false → Away w x n k u → Away W x o.node k u
  away_here k u i j far c = record {
    trunk = c.trunk;
    side = s.side;
    there = s.there;
    peer = s.peer ∙ c.peer;
    holding = hold s.holding;
    known = know c.known;
  }
    where
      s : Later o.node c.trunk c.side
      s = d.aging c.trunk c.side c.there

      apart : x ≡ (target_node u.target) → ⊥
      apart z = let y : true ≡ false = sym (same_name_is (target_node u.target) n.mint.name (sym z ∙ sym nx)) ∙ far in cc

      hold : (holds c.side.state ≡ true → holds s.side.state ≡ true)
          ⊎ (Unwatched o.node c.side.peer × (is_over s.side.state ≡ true)) → holds s.side.state ≡ true
      hold (inl f) = f c.holding
      hold (inr f) = absurd (f.0 k u j (sym c.peer))

      returns : (has (is_end k) (list_to m c.trunk x) ≡ true) ⊎ ((x ≡ x) × Head c.trunk (is_end k))
          → (is_over s.side.state ≡ true) ⊎ Known W c.trunk x (target_node u.target) k
      returns (inl z) = inr (Returns (lasts (is_end k) c.trunk x z))
      returns (inr z) = inl (took_end c.trunk k u z.1 i j c.side c.there c.peer s.side s.there)

      travels : (has (is_call k) (list_to m c.trunk (target_node u.target)) ≡ true) ⊎ (((target_node u.target) ≡ x) × Head c.trunk (is_call k))
          → (is_over s.side.state ≡ true) ⊎ Known W c.trunk x (target_node u.target) k
      travels (inl z) = inr (Travels (lasts (is_call k) c.trunk (target_node u.target) z))
      travels (inr z) = absurd (apart (sym z.0))

      know : (is_over c.side.state ≡ true) ⊎ Known w c.trunk x (target_node u.target) k → (is_over s.side.state ≡ true)
          ⊎ Known W c.trunk x (target_node u.target) k
      know (inl z) = inl (s.over z)
      know (inr (Travels z)) = travels (pop (is_call k) c.trunk (target_node u.target) z)
      know (inr (Enrolled p v b hp hv up r)) = inr (Enrolled p v b (elsewhere w h x n hx g e a o d.deed (target_node u.target) apart ∙ hp) hv up r)
      know (inr (Returns z)) = returns (pop (is_end k) c.trunk x z)
      know (inr (PeerOver p v hp hv ov)) = inr (PeerOver p v (elsewhere w h x n hx g e a o d.deed (target_node u.target) apart ∙ hp) hv ov)

  new_here : (k : Reference) (u : Watch) → NewWatch n o k u → Followed W x o.node k u
  new_here k u c = (
    λ i. inl (c.0 (sym (ap (same_name (target_node u.target)) on) ∙ i)),
    λ i. let v =
        c.1 (sym (ap (same_name (target_node u.target)) on) ∙ i) in record {
          trunk = v.0;
          side = v.1;
          there = v.2;
          peer = v.3;
          holding = v.4;
          known = inr (Travels (sends (is_call k) v.0 (target_node u.target) v.5));
        },
  )

  kept_watch : (k : Reference) (u v : Watch) → fm.get n.watches k ≡ Some v → fm.get o.node.watches k ≡ Some u
      → Course w h n x e (Reported a o.effects) o k → fm.get n.watches k ≡ Some u
  kept_watch k u v i j (Stays b c na nd) = sym b ∙ j
  kept_watch k u v i j (Leaves y b c z q dn na nd) = absurd (none-some u (sym c ∙ j))
  kept_watch k u v i j (Downs y z b c t dn na nd) = absurd (none-some u (sym c ∙ j))
  kept_watch k u v i j (Begins p q ev na nd kx dr0 dr li c) =
      absurd (dr0 (drawn_there (g.drawn k (monitored_answered k v.owner v.target h (g.watching x n k v hx i).1))))
    where
      drawn_there : (y : Node) × (node_of w.nodes k.node ≡ Some y) × Drawn y k → Drawn n k
      drawn_there y = subst (λ (z : Node). Drawn z k) (same_Some y.0 n (sym y.1 ∙ subst (λ z. node_of w.nodes z ≡ Some n) (sym kx) hx)) y.2
  kept_watch k u v i j (Revoked y b c dn na nd) = absurd (none-some u (sym c ∙ j))

  here : (k : Reference) (u : Watch) → fm.get o.node.watches k ≡ Some u → Followed W x o.node k u
  here k u j = go (fm.get n.watches k) refl
    where
      go : (v : Option Watch) → fm.get n.watches k ≡ v → Followed W x o.node k u
      go None i = new_here k u (fresh k u i j)
      go (Some v) i =
          let was : fm.get n.watches k ≡ Some u = kept_watch k u v i j (d.deed.course k) in
          let f = l x n k u hx was in (
            λ c. let own : same_name (target_node u.target) n.mint.name ≡ true = sym (ap (same_name (target_node u.target)) on) ∙ c in
                home_here k u was j own (f.0 own),
            λ c. let far : same_name (target_node u.target) n.mint.name ≡ false = sym (ap (same_name (target_node u.target)) on) ∙ c in
                away_here k u was j far (f.1 far),
          )

  -- ---- a watch of another node

  module _ (y : Name) (v : Node) (k : Reference) (u : Watch) (dy : x ≡ y → ⊥) (hv : node_of w.nodes y ≡ Some v)
      (i : fm.get v.watches k ≡ Some u) (c : Away w y v k u) where
    returned : (has (is_end k) (list_to m c.trunk y) ≡ true) ⊎ ((y ≡ x) × Head c.trunk (is_end k)) → Known W c.trunk y (target_node u.target) k
    returned (inl z) = Returns (lasts (is_end k) c.trunk y z)
    returned (inr z) = absurd (dy (sym z.0))

    -- and its target's
    module _ (ex : x ≡ (target_node u.target)) where
      at_target : node_of (set_node w.nodes x o.node) (target_node u.target) ≡ Some o.node
      at_target = at_x w h x n hx g e a o d.deed (target_node u.target) ex

      sent_back : has (is_end k) (at_place c.trunk y (outgoing o)) ≡ true → Known W c.trunk y (target_node u.target) k
      sent_back z = Returns (sends (is_end k) c.trunk y z)

      is_taken : TakenCall o c.trunk y k → Known W c.trunk y (target_node u.target) k
      is_taken (inl z) = PeerOver o.node z.0 at_target z.1 z.2
      is_taken (inr (inl z)) = Enrolled o.node z.0 z.1 at_target z.2 z.3 z.4
      is_taken (inr (inr z)) = sent_back z

      travelled : (has (is_call k) (list_to m c.trunk (target_node u.target)) ≡ true)
          ⊎ (((target_node u.target) ≡ x) × Head c.trunk (is_call k)) → Known W c.trunk y (target_node u.target) k
      travelled (inl z) = Travels (lasts (is_call k) c.trunk (target_node u.target) z)
      travelled (inr z) = is_taken (took_call c.trunk k y v u z.1 dy hv i (sym ex))

      module _ (s : TrunkSide) (b : Registration) (hs : side_at n c.trunk ≡ Some s) (up : is_up s.state ≡ true)
          (r : fm.get n.registered k ≡ Some b) where
        peer_back : s.peer ≡ y
        peer_back = (partners w gw.core y x v n c.trunk c.side s hv hx c.there hs (λ z. dy (sym z))).1

        owner_node : b.owner.node ≡ y
        owner_node = ap (λ (z : Pid). z.node) (the_one y v k u b hv i r) ∙ owner_at w h gw g y v k u hv i

        routed : route n b.owner.node ≡ Some c.trunk
        routed = ap (route n) (owner_node ∙ sym peer_back) ∙ route_up n c.trunk s (gw.core.sides x n hx) hs up

        not_own : same_name b.owner.node n.mint.name ≡ false
        not_own = by_test _ (same_name b.owner.node n.mint.name)
            (λ z. absurd (dy (sym nx ∙ sym (same_name_true b.owner.node n.mint.name z) ∙ owner_node))) (λ z. z)

        aged : Later o.node c.trunk s
        aged = d.aging c.trunk s hs

        still : fm.get o.node.registered k ≡ Some b → (holds s.state ≡ true → holds aged.side.state ≡ true)
            ⊎ (Unwatched o.node s.peer × (is_over aged.side.state ≡ true)) → Known W c.trunk y (target_node u.target) k
        still z (inl f) = go (up_or_over aged.side (f ((up_holds s.state up).0)))
          where
            go : (is_up aged.side.state ≡ true) ⊎ (is_over aged.side.state ≡ true) → Known W c.trunk y (target_node u.target) k
            go (inl q) = Enrolled o.node aged.side b at_target aged.there q z
            go (inr q) = PeerOver o.node aged.side at_target aged.there q
        still z (inr f) = PeerOver o.node aged.side at_target aged.there f.1

        enrolled_still : (fm.get o.node.registered k ≡ Some b)
            ⊎ ((Lands (is_end k) n b.owner.node o ⊎ (Off w h k ⊎ (reaches n b.owner.node ≡ false))) ⊎ AllOver o.node)
            → Known W c.trunk y (target_node u.target) k
        enrolled_still (inl z) = still z aged.holding
        enrolled_still (inr (inl (inl z))) =
            sent_back (subst (λ q. has (is_end k) (at_place c.trunk q (outgoing o)) ≡ true) owner_node (z.1 c.trunk not_own routed))
        enrolled_still (inr (inl (inr (inl z)))) = absurd (not_off y v k u hv i z)
        enrolled_still (inr (inl (inr (inr z)))) =
            let q : false ≡ true = sym z ∙ ap (λ b2. b2 || is_some (route n b.owner.node)) not_own ∙ ap is_some routed in cc
        enrolled_still (inr (inr z)) = PeerOver o.node aged.side at_target aged.there (z.0 c.trunk aged.side aged.there)

      target_known : Known w c.trunk y (target_node u.target) k → Known W c.trunk y (target_node u.target) k
      target_known (Travels z) = travelled (pop (is_call k) c.trunk (target_node u.target) z)
      target_known (Enrolled p s b hp hs up r) =
          let pn : p ≡ n = same_Some p n (sym hp ∙ subst (λ z. node_of w.nodes z ≡ Some n) ex hx) in
          let hs1 : side_at n c.trunk ≡ Some s = subst (λ (z : Node). side_at z c.trunk ≡ Some s) pn hs in
          let r1 : fm.get n.registered k ≡ Some b = subst (λ (z : Node). fm.get z.registered k ≡ Some b) pn r in
          enrolled_still s b hs1 up r1 (d.leaving k b r1)
      target_known (Returns z) = returned (pop (is_end k) c.trunk y z)
      target_known (PeerOver p s hp hs ov) =
          let pn : p ≡ n = same_Some p n (sym hp ∙ subst (λ z. node_of w.nodes z ≡ Some n) ex hx) in
          let q = d.aging c.trunk s (subst (λ (z : Node). side_at z c.trunk ≡ Some s) pn hs) in
          PeerOver o.node q.side at_target q.there (q.over ov)

    other_known : (x ≡ (target_node u.target) → ⊥) → Known w c.trunk y (target_node u.target) k → Known W c.trunk y (target_node u.target) k
    other_known dx (Travels z) = go (pop (is_call k) c.trunk (target_node u.target) z)
      where
        go : (has (is_call k) (list_to m c.trunk (target_node u.target)) ≡ true) ⊎ (((target_node u.target) ≡ x) × Head c.trunk (is_call k))
            → Known W c.trunk y (target_node u.target) k
        go (inl q) = Travels (lasts (is_call k) c.trunk (target_node u.target) q)
        go (inr q) = absurd (dx (sym q.0))
    other_known dx (Enrolled p s b hp hs up r) = Enrolled p s b (elsewhere w h x n hx g e a o d.deed (target_node u.target) dx ∙ hp) hs up r
    other_known dx (Returns z) = returned (pop (is_end k) c.trunk y z)
    other_known dx (PeerOver p s hp hs ov) = PeerOver p s (elsewhere w h x n hx g e a o d.deed (target_node u.target) dx ∙ hp) hs ov

    away_there : Away W y v k u
    away_there = record { trunk = c.trunk; side = c.side; there = c.there; peer = c.peer; holding = c.holding; known = go c.known }
      where
        go : (is_over c.side.state ≡ true) ⊎ Known w c.trunk y (target_node u.target) k → (is_over c.side.state ≡ true)
            ⊎ Known W c.trunk y (target_node u.target) k
        go (inl z) = inl z
        go (inr z) = inr (by_name (Known W c.trunk y (target_node u.target) k) x (target_node u.target) (λ ex. target_known ex z) (λ dx. other_known dx z))

  there : (y : Name) (v : Node) (k : Reference) (u : Watch) → (x ≡ y → ⊥) → node_of w.nodes y ≡ Some v
      → fm.get v.watches k ≡ Some u → Followed W y v k u
  there y v k u dy hv i = let f = l y v k u hv i in (f.0, λ far. away_there y v k u dy hv i (f.1 far))

  pub linked_after : Linked (record { names = w.names; nodes = set_node w.nodes x o.node; lists = carried m o.effects })
  linked_after y v k u hv i = by_name (Followed W y v k u) x y
      (λ xy.
      let on2 : o.node ≡ v = same_Some o.node v (sym (at_x w h x n hx g e a o d.deed y xy) ∙ hv) in
      subst (λ z. Followed W z v k u) xy (subst (λ z. Followed W x z k u) on2 (here k u (ap (λ (z : Node). fm.get z.watches k) on2 ∙ i))))
      (λ dy. there y v k u dy (sym (elsewhere w h x n hx g e a o d.deed y dy) ∙ hv) i)
