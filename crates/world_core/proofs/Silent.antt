-- Where nothing travels between two processes: the frames say what the items say, and one connection at most is up.
use Rattle.std.proofs.Common.{◌≡◌, ◌&&◌, ◌||◌, Bool, true, false, not, List, [], ◌∷◌, map, Option, None, Some, T, refl, sym, ap, ◌∙◌}
use Rattle.std.proofs.lemmas.Bool.{and_parts}
use Rattle.std.proofs.lemmas.Option.{none-some, same_Some}
use Rattle.std.specs.FinMap as fm
use Rattle.std.specs.FinMap.{find, is_sorted}
use Rattle.std.specs.Option.{is_some, option_map}
use Rattle.dist_model.proofs.Keys.{same_name_is, same_name_true, trunk_exact, trunk_total}
use Rattle.dist_model.proofs.Routes.{side_where_found, side_where_none}
use Rattle.dist_model.specs.Items.{Handshake, Item, Signalled, Tick}
use Rattle.dist_model.specs.Keeping.{Steady}
use Rattle.dist_model.specs.Names.{Name, same_name, same_pid}
use Rattle.dist_model.specs.Node.{Node, first_where, route_in, side_where}
use Rattle.dist_model.specs.Quiet.{is_quiet_on, is_signal_of, names, is_up_to, nothing_between}
use Rattle.dist_model.specs.Sides.{State, TrunkSide, Up, is_over, is_up}
use Rattle.dist_model.specs.Seen.{seen, side_of_trunk}
use Rattle.dist_model.specs.World as model
use Rattle.dist_model.specs.World.{list_to, node_of}
use Rattle.erl_control.specs.Ends.{receiver_of, sender_of}
use Rattle.erl_names.specs.Order.{trunk_cmp}
use Rattle.erl_names.specs.declared.trunk.TrunkId.{TrunkId}
use Rattle.erl_term.specs.declared.term.Pid.{Pid}
use Rattle.node_frames.specs.Frames.{between_of, framed, named}
use Rattle.sorted_map.specs.First.{first_held, first_none, first_passes}
use Rattle.world_core.proofs.Carried.{all_frames}
use Rattle.world_core.specs.Coming.{is_taken, takes}
use Rattle.world_core.specs.Quiet.{is_quiet_there}
use Rattle.world_core.specs.Stands.{StandsFor}
use Rattle.world_core.specs.declared.world.World.{World}
use Rattle.world_core.specs.Lists as frames
use Rattle.dist_model.proofs.Sides.{up_engaged}

-- ---- frames

and_false : (b : Bool) → false ≡ (b && false)
and_false true = refl
and_false false = refl

joins_is : (p q : Pid) (sender receiver : Option Pid) → frames.joins p q (named sender receiver) ≡ (names p sender && names q receiver)
joins_is p q None to = refl
joins_is p q (Some from) None = and_false (same_pid from p)
joins_is p q (Some from) (Some to) = refl

signal_is : (p q : Pid) (item : Item) → frames.joins p q (between_of item) ≡ is_signal_of p q item
signal_is p q (Signalled signal payload) = joins_is p q (sender_of signal) (receiver_of signal)
signal_is p q (Handshake message) = refl
signal_is p q Tick = refl

pub frames_between : (p q : Pid) (items : List Item) → frames.nothing_between p q (map framed items) ≡ nothing_between p q items
frames_between p q [] = refl
frames_between p q (item ∷ rest) =
    (λ i. not (signal_is p q item i || signal_is q p item i) && frames_between p q rest i)

-- ---- the connection that is up

module _ (m : model.World) (p q : Pid) (node : Node) (steady : Steady node) (sorted : T (is_sorted trunk_cmp (fm.entries node.sides))) where
  abbrev entries : List (TrunkId × TrunkSide)
  entries = fm.entries node.sides

  abbrev there : TrunkId → Bool
  there t = is_quiet_there m p.node p q t

  abbrev test : Option TrunkId → Bool
  test None = false
  test (Some t) = there t

  one_up : (a b : TrunkId × TrunkSide) → find trunk_cmp a.0 entries ≡ Some a.1 → find trunk_cmp b.0 entries ≡ Some b.1
      → a.1.peer ≡ q.node → b.1.peer ≡ q.node
      → is_up a.1.state ≡ true → is_up b.1.state ≡ true → a.0 ≡ b.0
  one_up a b fa fb pa pb ua ub =
      steady.engaged a.0 b.0 a.1 b.1 (fm.get-entries node.sides a.0 ∙ fa) (fm.get-entries node.sides b.0 ∙ fb) (pa ∙ sym pb)
      (up_engaged a.1.state ua) (up_engaged b.1.state ub)

  together : (a b c d : Bool) → (((a && b) && c) && d) ≡ (a && (b && (c && d)))
  together true true c d = refl
  together _ _ c d = refl

  on_is : (t : TrunkId) (s : TrunkSide) → is_quiet_on m p q t s ≡ (is_up_to q.node (Some s) && there t)
  on_is t s =
      together (is_up_to q.node (Some s)) (is_up_to p.node (side_of_trunk m q.node t))
      (nothing_between p q (list_to m.lists t p.node)) (nothing_between p q (list_to m.lists t q.node))

  -- what a side that passes is
  passing : (a : TrunkId × TrunkSide) → is_quiet_on m p q a.0 a.1 ≡ true → (a.1.peer ≡ q.node) × (is_up a.1.state ≡ true)
      × (there a.0 ≡ true)
  passing a h =
      let u = and_parts (is_up_to q.node (Some a.1)) (there a.0) (sym (on_is a.0 a.1) ∙ h) in
      let v = and_parts (same_name a.1.peer q.node) (is_up a.1.state) u.0 in
      (same_name_true a.1.peer q.node v.0, v.1, u.1)

  none_at : (found : Option (TrunkId × TrunkSide)) → first_where (is_quiet_on m p q) entries ≡ found
      → side_where is_up q.node entries ≡ None → is_some found ≡ false
  none_at None e n = refl
  none_at (Some a) e n =
      let k = passing a (first_passes trunk_total trunk_exact (is_quiet_on m p q) entries a e) in
      let f = first_held trunk_total trunk_exact (is_quiet_on m p q) entries a sorted e in
      let no : true ≡ false = sym k.1 ∙ side_where_none is_up q.node entries a.0 a.1 n f k.0 in cc

  some_at : (up : TrunkId × TrunkSide) (found : Option (TrunkId × TrunkSide))
      → first_where (is_quiet_on m p q) entries ≡ found → side_where is_up q.node entries ≡ Some up
      → is_some found ≡ there up.0
  some_at up None e n =
      let f = side_where_found is_up q.node entries up sorted n in
      let none = first_none trunk_total trunk_exact (is_quiet_on m p q) entries up.0 up.1 e f.there in
      sym (sym (λ i. (same_name_is up.1.peer q.node f.peer i && f.passes i) && there up.0) ∙ sym (on_is up.0 up.1) ∙ none)
  some_at up (Some a) e n =
      let f = side_where_found is_up q.node entries up sorted n in
      let k = passing a (first_passes trunk_total trunk_exact (is_quiet_on m p q) entries a e) in
      let g = first_held trunk_total trunk_exact (is_quiet_on m p q) entries a sorted e in
      sym (ap there (one_up up a f.there g f.peer k.0 f.passes k.1) ∙ k.2)

  pub over_is : (route : Option TrunkId) → route_in entries q.node ≡ route → is_some (first_where (is_quiet_on m p q) entries) ≡ test route
  over_is route r = go (side_where is_up q.node entries) refl
    where
      go : (o : Option (TrunkId × TrunkSide)) → side_where is_up q.node entries ≡ o
          → is_some (first_where (is_quiet_on m p q) entries) ≡ test route
      go None e =
          none_at (first_where (is_quiet_on m p q) entries) refl e
          ∙ ap test (sym (ap (option_map (λ (x : TrunkId × TrunkSide). x.0)) e) ∙ r)
      go (Some up) e =
          some_at up (first_where (is_quiet_on m p q) entries) refl e
          ∙ ap test (sym (ap (option_map (λ (x : TrunkId × TrunkSide). x.0)) e) ∙ r)

-- ---- a side that is up takes what comes

up_takes : (state : State) → is_up state ≡ true → not (is_over state) ≡ true
up_takes Up h = refl
up_takes _ h = cc

pub up_taken : (y : Name) (side : Option TrunkSide) → is_up_to y side ≡ true → takes side ≡ true
up_taken y None h = refl
up_taken y (Some side) h = up_takes side.state (and_parts (same_name side.peer y) (is_up side.state) h).1

pub route_taken : (node : Node) (y : Name) (t : TrunkId) → route_in (fm.entries node.sides) y ≡ Some t → takes (fm.get node.sides t) ≡ true
route_taken node y t h = go (side_where is_up y (fm.entries node.sides)) refl h
  where
    go : (o : Option (TrunkId × TrunkSide)) → side_where is_up y (fm.entries node.sides) ≡ o
        → option_map (λ (x : TrunkId × TrunkSide). x.0) o ≡ Some t
        → takes (fm.get node.sides t) ≡ true
    go None e i = absurd (none-some t i)
    go (Some up) e i =
        let f = side_where_found is_up y (fm.entries node.sides) up (fm.entries_sorted node.sides) e in
        ap (λ u. takes (fm.get node.sides u)) (sym (same_Some up.0 t i))
        ∙ ap takes (fm.get-entries node.sides up.0 ∙ f.there) ∙ up_takes up.1.state f.passes

-- ---- what the frames of a world of code say

module _ (w : World) (m : model.World) (h : StandsFor w m) (p q : Pid) where
  pub on_list : (t : TrunkId) (x : Name) → is_taken m t x ≡ true → frames.nothing_between p q (frames.at w.lists t x) ≡ nothing_between p q (list_to m.lists t x)
  on_list t x k =
      ap (frames.nothing_between p q) (all_frames (is_taken m t x) (frames.at w.lists t x) (list_to m.lists t x) (h.lists t x) k)
      ∙ frames_between p q (list_to m.lists t x)

pub side_there : (m : model.World) (y : Name) (t : TrunkId) (found : Option Node) (is : found ≡ node_of m.nodes y)
    → side_of_trunk m y t ≡ seen found None (λ node. fm.get node.sides t)
side_there m y t found is = ap (λ o. seen o None (λ node. fm.get node.sides t)) (sym is)
