-- A side and the others towards its peer.
use Rattle.std.proofs.Common.{◌≡◌, ℕ, Bool, true, false, cond, Option, Some, None, refl, sym, ap, ◌∙◌}
use Rattle.std.proofs.lemmas.Option.{same_Some}
use Rattle.std.specs.FinMap as fm
use Rattle.std.specs.Option.{option_map}
use Rattle.std.specs.FinMap.{FinMap}
use Rattle.conn_core.specs.Side.{lost}
use Rattle.conn_core.specs.declared.standing.Standing.{Standing}
use Rattle.conn_core.specs.declared.standing.Standing.TheVariants as standing
use Rattle.dist_model.proofs.Keys.{other_trunk, same_trunk, same_trunk_is, same_trunk_true, trunk_total}
use Rattle.dist_model.proofs.Routes.{side_where_found, side_where_none}
use Rattle.dist_model.specs.Handshake.{challenge_or_park, identity, send_challenge_or_park, set_state, up_is_lost}
use Rattle.dist_model.specs.Keeping.{AtMostOne, is_attempt, is_engaged}
use Rattle.dist_model.specs.Losses.{close_side, release_parked, released_by}
use Rattle.dist_model.specs.Names.{Name}
use Rattle.dist_model.specs.Node.{Node, side_where}
use Rattle.dist_model.specs.Sides.{Gone, Losing, Parked, State, TrunkSide, in_state, is_gone, is_losing, is_parked, is_up}
use Rattle.dist_model.specs.Sides as model
use Rattle.dist_model.specs.Work.{Work, at_work}
use Rattle.erl_handshake.specs.declared.acceptor.AcceptorState.TheVariants as acceptor
use Rattle.erl_handshake.specs.declared.dialer.DialerState.TheVariants as dialer
use Rattle.erl_names.specs.Order.{trunk_cmp}
use Rattle.erl_names.specs.declared.trunk.TrunkId.{TrunkId}
use Rattle.node_connections.proofs.Stood.{not_gone_parked}
use Rattle.node_connections.specs.Waiting.{asked_in, parked_in}
use Rattle.node_plan.proofs.KeptAfter.{named_after}
use Rattle.node_plan.specs.Carried.{Makes}
use Rattle.node_plan.specs.declared.plan.Plan.{Plan}
use Rattle.node_tables.specs.Changes.{is_gone_in, IsTowards, NoOtherUp}
use Rattle.node_tables.specs.Standings.{standing_side, state_of}
use Rattle.dist_model.proofs.Sides.{up_engaged}
use Rattle.erl_handshake.specs.declared.introduction.Introduction.{Introduction}

-- a plan leaves the node what it introduces itself as
pub same_identity : (plan : Plan) (m : Node) (work : Work) → Makes plan m work → identity work.node ≡ identity m
same_identity plan m work h = let names = named_after plan.change plan.draws m.mint in
    ap identity h.node ∙ (λ i. record { name = names.0 i; creation = names.1 i; flags = m.flags; cookie = m.cookie })

-- ---- of the sides towards one peer one is engaged

pub alone : (n : Node) (t : TrunkId) (s : TrunkSide) → AtMostOne is_engaged n → fm.get n.sides t ≡ Some s
    → is_engaged s.state ≡ true → NoOtherUp n.sides t s.peer
alone n t s engaged there own other side e p u = engaged other t side s e there p (up_engaged side.state u) own

-- ---- another side changes

pub get_other : (sides : FinMap trunk_cmp TrunkSide) (u : TrunkId) (s : TrunkSide) (t : TrunkId) → (t ≡ u → ⊥)
    → fm.get (fm.insert sides u s) t ≡ fm.get sides t
get_other sides u s t d = fm.get-insert trunk_total sides u s t ∙ ap (λ b. cond b (Some s) (fm.get sides t)) (other_trunk t u d)

pub get_same : (sides : FinMap trunk_cmp TrunkSide) (u : TrunkId) (s : TrunkSide) → fm.get (fm.insert sides u s) u ≡ Some s
get_same sides u s = fm.get-insert trunk_total sides u s u ∙ ap (λ b. cond b (Some s) (fm.get sides u)) (same_trunk_is u u refl)

pub towards_kept : (sides : FinMap trunk_cmp TrunkSide) (u t : TrunkId) (s v : TrunkSide) (y : Name) → fm.get sides u ≡ Some s
    → v.peer ≡ s.peer → IsTowards y (fm.get sides t) → IsTowards y (fm.get (fm.insert sides u v) t)
towards_kept sides u t s v y there p h = go (same_trunk t u) refl
  where
    peer_of : Option TrunkSide → Option Name
    peer_of o = option_map (λ (x : TrunkSide). x.peer) o

    go : (b : Bool) → same_trunk t u ≡ b → IsTowards y (fm.get (fm.insert sides u v) t)
    go true e = let i : t ≡ u = same_trunk_true t u e in
        ap (λ x. peer_of (fm.get (fm.insert sides u v) x)) i ∙ ap peer_of (get_same sides u v) ∙ ap Some p
        ∙ ap peer_of (sym there) ∙ ap (λ x. peer_of (fm.get sides x)) (sym i) ∙ h
    go false e = ap peer_of (fm.get-insert trunk_total sides u v t ∙ ap (λ b. cond b (Some v) (fm.get sides t)) e) ∙ h

-- and one that isn't gone isn't
pub there_kept : (sides : FinMap trunk_cmp TrunkSide) (u t : TrunkId) (v : TrunkSide) → is_gone v.state ≡ false
    → is_gone_in (fm.get sides t) ≡ false → is_gone_in (fm.get (fm.insert sides u v) t) ≡ false
there_kept sides u t v n h = ap is_gone_in (fm.get-insert trunk_total sides u v t) ∙ go (same_trunk t u)
  where
    go : (b : Bool) → is_gone_in (cond b (Some v) (fm.get sides t)) ≡ false
    go true = n
    go false = h

-- ---- the older connection is lost

pub lost_up : (y : Name) (st : Standing) → is_up (state_of st) ≡ true → standing_side y (lost st) ≡ in_state Losing (standing_side y st)
lost_up y (standing.Up introduction) h = refl
lost_up y (standing.Dialing dialer.Over) h = cc
lost_up y (standing.Accepting acceptor.Over) h = cc
lost_up y st h = cc

pub found_in : (test : State → Bool) (y : Name) (n : Node) (e : TrunkId × TrunkSide)
    → side_where test y (fm.entries n.sides) ≡ Some e → (fm.get n.sides e.0 ≡ Some e.1) × (e.1.peer ≡ y)
    × (test e.1.state ≡ true)
found_in test y n e h =
    let f = side_where_found test y (fm.entries n.sides) e (fm.entries_sorted n.sides) h in
    (fm.get-entries n.sides e.0 ∙ f.there, f.peer, f.passes)

pub parks_behind : (t : TrunkId) (s : TrunkSide) (w : ℕ) (n : Node) (e : TrunkId × TrunkSide)
    → side_where is_up s.peer (fm.entries n.sides) ≡ Some e
    → send_challenge_or_park t s w (up_is_lost (side_where is_up s.peer (fm.entries n.sides)) (at_work n))
    ≡ set_state t s (Parked w) (set_state e.0 e.1 Losing (at_work n))
parks_behind t s w n e h =
    ap (λ o. send_challenge_or_park t s w (up_is_lost o (at_work n))) h
    ∙ go (side_where is_losing s.peer (fm.entries after.node.sides)) refl
  where
    after : Work
    after = set_state e.0 e.1 Losing (at_work n)

    go : (o : Option (TrunkId × TrunkSide)) → side_where is_losing s.peer (fm.entries after.node.sides) ≡ o
        → challenge_or_park (side_where is_losing s.peer (fm.entries after.node.sides)) t s w after ≡ set_state t s (Parked w) after
    go (Some l) i = ap (λ o. challenge_or_park o t s w after) i
    go None i =
        let f = found_in is_up s.peer n e h in
        let c : is_losing Losing ≡ false =
        side_where_none is_losing s.peer (fm.entries after.node.sides) e.0 (in_state Losing e.1) i
        (sym (fm.get-entries after.node.sides e.0) ∙ get_same n.sides e.0 (in_state Losing e.1)) f.1 in cc

-- ---- what the side waits for

pub asked_is : (st : Standing) (w : ℕ) (introduction : Introduction) → asked_in st ≡ Some (w, introduction)
    → st ≡ standing.Accepting (acceptor.AwaitsAnswer w introduction)
asked_is (standing.Accepting (acceptor.AwaitsAnswer v c)) w introduction h =
    let e = same_Some (v, c) (w, introduction) h in (λ i. standing.Accepting (acceptor.AwaitsAnswer ((e i).0) ((e i).1)))
asked_is st w introduction h = cc

pub parked_is : (st : Standing) (w : ℕ) (introduction : Introduction) → parked_in st ≡ Some (w, introduction)
    → st ≡ standing.Accepting (acceptor.AwaitsTurn w introduction)
parked_is (standing.Accepting (acceptor.AwaitsTurn v c)) w introduction h =
    let e = same_Some (v, c) (w, introduction) h in (λ i. standing.Accepting (acceptor.AwaitsTurn ((e i).0) ((e i).1)))
parked_is st w introduction h = cc

pub not_parked : (st : Standing) (t : TrunkId) (s : TrunkSide) (work : Work) → parked_in st ≡ None
    → released_by (state_of st) t s work ≡ work
not_parked (standing.Accepting (acceptor.AwaitsTurn w introduction)) t s work h = cc
not_parked (standing.Dialing dialer.Over) t s work h = refl
not_parked st t s work h = refl

-- ---- a side that was lost is gone: the attempt that waited is what it was

parked_attempt : (s : State) → is_parked s ≡ true → (is_attempt s ≡ true) × (is_losing s ≡ false)
parked_attempt (model.Parked w) h = (refl, refl)
parked_attempt s h = cc

module _ (n : Node) (t : TrunkId) (s : TrunkSide) (attempts : AtMostOne is_attempt n) (there : fm.get n.sides t ≡ Some s)
    (losing : is_losing s.state ≡ true) where
  abbrev after : Node
  after = record n { sides = fm.insert n.sides t (in_state Gone s) }

  -- a parked side is another
  before_other : (u : TrunkId) (v : TrunkSide) → fm.get n.sides u ≡ Some v → is_parked v.state ≡ true → u ≡ t → ⊥
  before_other u v h p e =
      let i : v ≡ s = same_Some v s (sym h ∙ ap (fm.get n.sides) e ∙ there) in
      let c : true ≡ false = sym losing ∙ ap (λ (x : TrunkSide). is_losing x.state) (sym i) ∙ (parked_attempt v.state p).1 in cc

  after_other : (u : TrunkId) (v : TrunkSide) → fm.get after.sides u ≡ Some v → is_parked v.state ≡ true → u ≡ t → ⊥
  after_other u v h p e =
      let i : v ≡ in_state Gone s =
      same_Some v (in_state Gone s) (sym h ∙ ap (fm.get after.sides) e ∙ get_same n.sides t (in_state Gone s)) in
      let c : true ≡ false = sym p ∙ ap (λ (x : TrunkSide). is_parked x.state) i in cc

  pub parked_same : (y : Name) → side_where is_parked y (fm.entries after.sides) ≡ side_where is_parked y (fm.entries n.sides)
  parked_same y = go (side_where is_parked y (fm.entries after.sides)) (side_where is_parked y (fm.entries n.sides)) refl refl
    where
      go : (a b : Option (TrunkId × TrunkSide)) → side_where is_parked y (fm.entries after.sides) ≡ a
          → side_where is_parked y (fm.entries n.sides) ≡ b → a ≡ b
      go None None h k = refl
      go None (Some e) h k =
          let f = found_in is_parked y n e k in
          let there : fm.get after.sides e.0 ≡ Some e.1 = get_other n.sides t (in_state Gone s) e.0 (before_other e.0 e.1 f.0 f.2) ∙ f.0 in
          let c : true ≡ false =
          sym f.2 ∙ side_where_none is_parked y (fm.entries after.sides) e.0 e.1 h (sym (fm.get-entries after.sides e.0) ∙ there) f.1 in
          cc
      go (Some e) None h k =
          let f = found_in is_parked y after e h in
          let there : fm.get n.sides e.0 ≡ Some e.1 = sym (get_other n.sides t (in_state Gone s) e.0 (after_other e.0 e.1 f.0 f.2)) ∙ f.0 in
          let c : true ≡ false =
          sym f.2 ∙ side_where_none is_parked y (fm.entries n.sides) e.0 e.1 k (sym (fm.get-entries n.sides e.0) ∙ there) f.1 in cc
      go (Some e) (Some d) h k =
          let f = found_in is_parked y after e h in
          let g = found_in is_parked y n d k in
          let there : fm.get n.sides e.0 ≡ Some e.1 = sym (get_other n.sides t (in_state Gone s) e.0 (after_other e.0 e.1 f.0 f.2)) ∙ f.0 in
          let same : e.0 ≡ d.0 =
          attempts e.0 d.0 e.1 d.1 there g.0 (f.1 ∙ sym g.1) (parked_attempt e.1.state f.2).0 (parked_attempt d.1.state g.2).0 in
          let side : e.1 ≡ d.1 = same_Some e.1 d.1 (sym there ∙ ap (fm.get n.sides) same ∙ g.0) in
          (λ i. Some (same i, side i))

  pub closes : (work : Work) → work.node.sides ≡ n.sides
      → close_side t s work ≡ release_parked (side_where is_parked s.peer (fm.entries n.sides)) (set_state t s Gone work)
  closes work e =
      ap
      (λ sides. release_parked (side_where is_parked s.peer (fm.entries (fm.insert sides t (in_state Gone s)))) (set_state t s Gone work)) e
      ∙ ap (λ o. release_parked o (set_state t s Gone work)) (parked_same s.peer)

  pub parked_towards : (work : Work) (e : TrunkId × TrunkSide) → work.node.sides ≡ n.sides
      → side_where is_parked s.peer (fm.entries n.sides) ≡ Some e
      → IsTowards e.1.peer (fm.get (set_state t s Gone work).node.sides e.0)
  parked_towards work e i h =
      let f = found_in is_parked s.peer n e h in
      ap (λ sides. option_map (λ (x : TrunkSide). x.peer) (fm.get (fm.insert sides t (in_state Gone s)) e.0)) i
      ∙ ap (λ o. option_map (λ (x : TrunkSide). x.peer) o) (get_other n.sides t (in_state Gone s) e.0 (before_other e.0 e.1 f.0 f.2) ∙ f.0)

  pub parked_there : (work : Work) (e : TrunkId × TrunkSide) → work.node.sides ≡ n.sides
      → side_where is_parked s.peer (fm.entries n.sides) ≡ Some e
      → is_gone_in (fm.get (set_state t s Gone work).node.sides e.0) ≡ false
  parked_there work e i h =
      let f = found_in is_parked s.peer n e h in
      ap (λ sides. is_gone_in (fm.get (fm.insert sides t (in_state Gone s)) e.0)) i
      ∙ ap is_gone_in (get_other n.sides t (in_state Gone s) e.0 (before_other e.0 e.1 f.0 f.2) ∙ f.0) ∙ not_gone_parked e.1.state f.2
