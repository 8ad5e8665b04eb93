-- What is known of each trunk.
use Rattle.std.proofs.Common.{◌≡◌, ◌≤◌, Bool, true, false, List, [], ◌∷◌, refl, sym, ap, ◌∙◌, ◌||◌, Option, Some, None, ◌⊎◌, inl, inr}
use Rattle.std.proofs.lemmas.Option.{same_Some}
use Rattle.std.specs.Option.{is_some}
use Rattle.std.specs.FinMap as fm
use Rattle.dist_model.proofs.Calls.{by_test}
use Rattle.dist_model.proofs.Home.{HomePairs}
use Rattle.dist_model.proofs.Keys.{same_name_is, same_name_true}
use Rattle.dist_model.proofs.Posts.{home_of}
use Rattle.dist_model.proofs.Pairs.{WorldKept}
use Rattle.dist_model.proofs.Routes.{node_of_name}
use Rattle.dist_model.proofs.Sides.{SidesKept, asks, beside, holds, side_at, not_beside}
use Rattle.dist_model.specs.Items.{Handshake, Item, news}
use Rattle.dist_model.specs.Names.{Name, place_cmp, same_name}
use Rattle.dist_model.specs.Node.{Node}
use Rattle.dist_model.specs.Sides.{Accepting, Asked, AwaitsAck, AwaitsChallenge, AwaitsStatus}
use Rattle.dist_model.specs.Sides.{Gone, Losing, Parked, State, TrunkSide, Up, is_gone, is_up}
use Rattle.dist_model.specs.World.{World, list_to, node_of}
use Rattle.erl_handshake.specs.declared.message.ShakeMsg.{ShakeMsg}
use Rattle.erl_names.specs.declared.trunk.TrunkId.{TrunkId}
use Rattle.erl_term.specs.declared.term.Pid.{Pid}
use Rattle.std.specs.FinMap.{FinMap}

-- the dialer's side before it replied
abbrev pub is_early : State → Bool
is_early (AwaitsStatus w) = true
is_early (AwaitsChallenge w) = true
is_early _ = false

abbrev pub up_once : State → Bool
up_once Up = true
up_once Losing = true
up_once Gone = true
up_once _ = false

-- the acceptor's side is up, or was, or never will be
abbrev pub went_up : Option TrunkSide → Bool
went_up None = false
went_up (Some s) = up_once s.state

abbrev pub holds_side : Option TrunkSide → Bool
holds_side None = false
holds_side (Some s) = holds s.state

abbrev pub is_accept : Item → Bool
is_accept (Handshake (ShakeMsg.ChallengeAck d)) = true
is_accept _ = false

abbrev pub is_reply : Item → Bool
is_reply (Handshake (ShakeMsg.ChallengeReply v d)) = true
is_reply _ = false

abbrev pub is_challenge : Item → Bool
is_challenge (Handshake (ShakeMsg.Challenge f v c x)) = true
is_challenge _ = false

-- the acceptor's side has sent its challenge, or never will
abbrev pub begun_state : State → Bool
begun_state (Asked w) = false
begun_state (Parked w) = false
begun_state _ = true

abbrev pub begun : Option TrunkSide → Bool
begun None = false
begun (Some s) = begun_state s.state

abbrev pub has : (Item → Bool) → List Item → Bool
has f [] = false
has f (x ∷ xs) = f x || has f xs

abbrev pub NoLinks : List Item → Type 0
NoLinks l = (p q : Pid) → news p q l ≡ []

-- a trunk, by its dialer's side, its acceptor's, and what travels to each
pub record Row (v : State) (a : Option TrunkSide) (to_dialer to_acceptor : List Item) : Type 0 where
  -- the acceptor is up first
  pub before : went_up a ≡ false → (holds v ≡ false) × (has is_accept to_dialer ≡ false) × NoLinks to_dialer × NoLinks to_acceptor
  -- and not before the dialer replied
  pub early : is_early v ≡ true → (holds_side a ≡ false) × (has is_reply to_acceptor ≡ false) × (has is_accept to_dialer ≡ false)
  -- which it does only when challenged
  pub waits : begun a ≡ false → (has is_challenge to_dialer ≡ false) × (has is_reply to_acceptor ≡ false)

abbrev pub Table : List Node → FinMap place_cmp (List Item) → Type 0
Table ns m =
    (t : TrunkId) (d a : Node) (s : TrunkSide) → node_of ns t.dialer ≡ Some d → side_at d t ≡ Some s
    → node_of ns s.peer ≡ Some a → Row s.state (side_at a t) (list_to m t t.dialer) (list_to m t s.peer)

-- a dialer's side is never Asked, Parked or Accepting, an acceptor's never Dialing
abbrev pub role_state : Bool → State → Bool
role_state true (Asked w) = false
role_state true (Parked w) = false
role_state true (Accepting w) = false
role_state false (AwaitsStatus w) = false
role_state false (AwaitsChallenge w) = false
role_state false (AwaitsAck w) = false
role_state _ _ = true

pub role_gone : (b : Bool) → role_state b Gone ≡ true
role_gone true = refl
role_gone false = refl

pub record HomeKept (n : Node) : Type 0 where
  pub local : home_of n
  pub pairs : HomePairs n
  pub roles : (t : TrunkId) (s : TrunkSide) → side_at n t ≡ Some s → role_state (same_name t.dialer n.mint.name) s.state ≡ true
  pub counts : (t : TrunkId) (s : TrunkSide) → side_at n t ≡ Some s → t.dialer ≡ n.mint.name → t.count ≤ n.dialed

abbrev pub Posted : List Node → TrunkId → Name → Type 0
Posted ns t z = (s : TrunkSide) × (d : Node) × (node_of ns t.dialer ≡ Some d) × (side_at d t ≡ Some s) × ((t.dialer ≡ z) ⊎ (s.peer ≡ z))

-- one that is up, or will be by what stands in its list
abbrev pub may_be_up : State → List Item → Bool
may_be_up (AwaitsAck w) l = has is_accept l
may_be_up (Accepting w) l = has is_reply l
may_be_up Up l = true
may_be_up _ l = false

-- such a side of x towards y
pub record Likely (ns : List Node) (m : FinMap place_cmp (List Item)) (x : Name) (t : TrunkId) (y : Name) : Type 0 where
  pub node : Node
  pub at : node_of ns x ≡ Some node
  pub side : TrunkSide
  pub there : side_at node t ≡ Some side
  pub peer : side.peer ≡ y
  pub may : may_be_up side.state (list_to m t x) ≡ true

-- those of x towards y and of y towards x are sides of one trunk
abbrev pub Single : List Node → FinMap place_cmp (List Item) → Type 0
Single ns m = (x y : Name) (t u : TrunkId) → Likely ns m x t y → Likely ns m y u x → t ≡ u

-- the one side of x towards y that dials, accepts, is up or is losing
pub record Anchor (ns : List Node) (x : Name) (t : TrunkId) (y : Name) : Type 0 where
  pub node : Node
  pub at : node_of ns x ≡ Some node
  pub side : TrunkSide
  pub there : side_at node t ≡ Some side
  pub peer : side.peer ≡ y
  pub stays : is_gone side.state ≡ false
  pub goes_on : asks side.state ≡ false

pub likely_kind : (v : State) (l : List Item) → may_be_up v l ≡ true → (is_gone v ≡ false) × (asks v ≡ false)
likely_kind (AwaitsAck w) l h = (refl, refl)
likely_kind (Accepting w) l h = (refl, refl)
likely_kind Up l h = (refl, refl)
likely_kind _ l h = cc

pub up_likely : (v : State) (l : List Item) → is_up v ≡ true → may_be_up v l ≡ true
up_likely Up l h = refl
up_likely _ l h = cc

pub likely_along : (v : State) (l m : List Item) → (has is_accept m ≡ true → has is_accept l ≡ true)
    → (has is_reply m ≡ true → has is_reply l ≡ true) → may_be_up v m ≡ true → may_be_up v l ≡ true
likely_along (AwaitsAck w) l m f g h = f h
likely_along (Accepting w) l m f g h = g h
likely_along Up l m f g h = refl
likely_along _ l m f g h = cc

-- where each likely side was likely before, or its peer has an anchor on that trunk
pub single_kept : (ns : List Node) (m : FinMap place_cmp (List Item)) (ns' : List Node) (m' : FinMap place_cmp (List Item))
    → ((x : Name) (n : Node) → node_of ns' x ≡ Some n → SidesKept n)
    → ((x y : Name) (t : TrunkId) (b : Node) → node_of ns' y ≡ Some b → Likely ns' m' x t y → Likely ns m x t y ⊎ Anchor ns' y t x)
    → Single ns m → Single ns' m'
single_kept ns m ns' m' sk each s x y t u a b = go (each x y t b.node b.at a) (each y x u a.node a.at b)
  where
    -- an anchor of z, and a likely side of z
    one : (z o : Name) (p q : TrunkId) → Anchor ns' z p o → Likely ns' m' z q o → p ≡ q
    one z o p q c l =
        let k = likely_kind l.side.state (list_to m' q z) l.may in
        let same : c.node ≡ l.node = same_Some c.node l.node (sym c.at ∙ l.at) in
        pick k.1 ((sk z l.node l.at).one p q c.side l.side (ap (λ n. side_at n p) (sym same) ∙ c.there) l.there
        (c.peer ∙ sym l.peer) c.stays k.0)
      where
        pick : asks l.side.state ≡ false → (p ≡ q) ⊎ (beside c.side.state l.side.state ≡ true) → p ≡ q
        pick h (inl e) = e
        pick h (inr e) = absurd (not_beside c.side.state l.side.state c.goes_on h e)

    go : Likely ns m x t y ⊎ Anchor ns' y t x → Likely ns m y u x ⊎ Anchor ns' x u y → t ≡ u
    go (inl c) (inl d) = s x y t u c d
    go (inr c) d = one y x t u c b
    go (inl c) (inr d) = sym (one x y u t d a)

-- the two sides of a trunk are towards each other
pub partners : (w : World) → WorldKept w → (x a : Name) (n m : Node) (t : TrunkId) (s v : TrunkSide)
    → node_of w.nodes x ≡ Some n → node_of w.nodes a ≡ Some m → side_at n t ≡ Some s → side_at m t ≡ Some v → (x ≡ a → ⊥)
    → (s.peer ≡ a) × (v.peer ≡ x)
partners w k x a n m t s v hx ha hs hv d = by_test _ (same_name t.dialer x)
    (λ e.
    let tx : t.dialer ≡ x = same_name_true t.dialer x e in
    let u = k.met a m t v ha hv (λ i. d (sym tx ∙ i)) in
    let dn : u.dialer ≡ n = same_Some u.dialer n (sym u.at ∙ ap (node_of w.nodes) tx ∙ hx) in
    let us : u.side ≡ s = same_Some u.side s (sym u.there ∙ ap (λ z. side_at z t) dn ∙ hs) in (
      ap (λ (z : TrunkSide). z.peer) (sym us) ∙ u.peer,
      sym (second a m v (node_of_name w.nodes a m ha) ((k.sides a m ha).mine t v hv) (λ i. d (sym tx ∙ i))) ∙ tx,
    ))
    (λ e.
    let nx : t.dialer ≡ x → ⊥ = λ i. let c : true ≡ false = sym (same_name_is t.dialer x i) ∙ e in cc in
    let u = k.met x n t s hx hs nx in
    by_test _ (same_name t.dialer a)
    (λ f.
    let ta : t.dialer ≡ a = same_name_true t.dialer a f in
    let dn : u.dialer ≡ m = same_Some u.dialer m (sym u.at ∙ ap (node_of w.nodes) ta ∙ ha) in
    let us : u.side ≡ v = same_Some u.side v (sym u.there ∙ ap (λ z. side_at z t) dn ∙ hv) in (
      sym (second x n s (node_of_name w.nodes x n hx) ((k.sides x n hx).mine t s hs) nx) ∙ ta,
      ap (λ (z : TrunkSide). z.peer) (sym us) ∙ u.peer,
    ))
    (λ f.
    let na : t.dialer ≡ a → ⊥ = λ i. let c : true ≡ false = sym (same_name_is t.dialer a i) ∙ f in cc in
    let o = k.met a m t v ha hv na in
    let dn : u.dialer ≡ o.dialer = same_Some u.dialer o.dialer (sym u.at ∙ o.at) in
    let us : u.side ≡ o.side = same_Some u.side o.side (sym u.there ∙ ap (λ z. side_at z t) dn ∙ o.there) in
    absurd (d (sym u.peer ∙ ap (λ (z : TrunkSide). z.peer) us ∙ o.peer))))
  where
    second : (y : Name) (b : Node) (z : TrunkSide) → b.mint.name ≡ y → (t.dialer ≡ b.mint.name) ⊎ (t.dialer ≡ z.peer)
        → (t.dialer ≡ y → ⊥) → t.dialer ≡ z.peer
    second y b z e (inl i) f = absurd (f (i ∙ e))
    second y b z e (inr i) f = i

pub record Good (w : World) : Type 0 where
  pub core : WorldKept w
  pub home : (x : Name) (n : Node) → node_of w.nodes x ≡ Some n → HomeKept n
  pub table : Table w.nodes w.lists
  -- nothing travels but on a trunk that its dialer has
  pub posted : (t : TrunkId) (x : Name) → is_some (fm.get w.lists (t, x)) ≡ true → Posted w.nodes t x
  pub single : Single w.nodes w.lists

pub early_not_holds : (v : State) → is_early v ≡ true → holds v ≡ false
early_not_holds Up h = cc
early_not_holds Losing h = cc
early_not_holds _ h = refl

pub not_went_not_holds : (a : Option TrunkSide) → went_up a ≡ false → holds_side a ≡ false
not_went_not_holds None h = refl
not_went_not_holds (Some s) h = go s.state h
  where
    go : (v : State) → up_once v ≡ false → holds v ≡ false
    go Up h = cc
    go Losing h = cc
    go _ h = refl

pub not_begun_not_went : (a : Option TrunkSide) → begun a ≡ false → went_up a ≡ false
not_begun_not_went None h = refl
not_begun_not_went (Some s) h = go s.state h
  where
    go : (v : State) → begun_state v ≡ false → up_once v ≡ false
    go (Asked w) h = refl
    go (Parked w) h = refl
    go _ h = cc

pub not_holds_not_up : (v : State) → holds v ≡ false → is_up v ≡ false
not_holds_not_up Up h = cc
not_holds_not_up _ h = refl
