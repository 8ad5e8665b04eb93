-- A world in which nothing has happened yet.
use Rattle.std.proofs.Common.{◌≡◌, ◌<◌, ◌&&◌, ◌||◌, ℕ, zero, suc, Bool, true, false, not, List, [], ◌∷◌, ◌++◌, drop, length}
use Rattle.std.proofs.Common.{map, Result, Ok, Err, OnErr, refl, sym, ap, subst, ◌∙◌, arith, slice_index_or, ◌+◌, ◌-◌, take}
use Rattle.std.proofs.lemmas.List.{length-append, map-append, length-drop, take_all}
use Rattle.std.proofs.lemmas.Bool.{and_parts, not-true, or_parts}
use Rattle.std.specs.List.{list_any}
use Rattle.std.specs.FinMap as fm
use Rattle.dist_model.proofs.Seen.{list_in}
use Rattle.dist_model.specs.Dialing.{has_name}
use Rattle.dist_model.specs.Names.{Name, place_cmp, same_name}
use Rattle.dist_model.specs.Node.{Node as TheNode}
use Rattle.dist_model.specs.Runs.{new_node, opening}
use Rattle.dist_model.specs.World.{list_to, World as TheWorld}
use Rattle.erl_names.specs.Name.{IsNodeName}
use Rattle.erl_names.specs.declared.trunk.TrunkId.{TrunkId}
use Rattle.node_core.specs.Model.{model_of}
use Rattle.node_core.specs.declared.node.Node.{Node}
use Rattle.world_core.proofs.Carried.{none_left_out, same_frames}
use Rattle.world_core.specs.Coming.{is_taken}
use Rattle.world_core.specs.Names.{are_distinct, name_of, names_of}
use Rattle.world_core.specs.Stands.{AreSpelled, StandsFor}
use Rattle.world_core.specs.declared.world.World.{World}
use Rattle.world_core.specs.Lists.{at}
use Rattle.dist_model.proofs.Keys.{name_turned}
use Rattle.erl_handshake.specs.declared.setup.Setup.{Setup}

abbrev Named : Type 0
Named = Name × Setup

abbrev pub name_in : Named → Name
name_in node = node.0

pub any_name : (name : Name) (nodes : List Named)
    → has_name name (map name_in nodes) ≡ list_any (λ node. same_name name (name_in node)) nodes
any_name name [] = refl
any_name name (node ∷ rest) = ap (λ b. same_name name node.0 || b) (any_name name rest)

-- the first of those from a place on
from_place : (nodes : List Named) (place : ℕ) (d : Named) → place < length nodes
    → drop place nodes ≡ slice_index_or nodes place d ∷ drop (suc place) nodes
from_place [] place d l = absurd (omega (arith, l))
from_place (node ∷ rest) zero d l = refl
from_place (node ∷ rest) (suc place) d l = from_place rest place d (omega (arith, l))

-- whether the name of one of them is that of a later one
pub distinct_from : (nodes : List Named) (place : ℕ) (node : Named) (has : Bool) → place < length nodes
    → node ≡ slice_index_or nodes place node
    → list_any (λ other. same_name (name_in node) (name_in other)) (take (length nodes - (place + 1)) (drop (place + 1) nodes)) ≡ has
    → are_distinct (map name_in (drop place nodes)) ≡ (not has && are_distinct (map name_in (drop (place + 1) nodes)))
distinct_from nodes place node has l is h =
    let e : place + 1 ≡ suc place = omega arith in
    let drops = length-drop (place + 1) nodes in
    let all : take (length nodes - (place + 1)) (drop (place + 1) nodes) ≡ drop (place + 1) nodes =
    take_all (length nodes - (place + 1)) (drop (place + 1) nodes) (omega arith) in
    ap (λ ns. are_distinct (map name_in ns))
    (from_place nodes place node l ∙ ap (λ n. n ∷ drop (suc place) nodes) (sym is) ∙ ap (λ n. node ∷ drop n nodes) (sym e))
    ∙ ap (λ b. not b && are_distinct (map name_in (drop (place + 1) nodes)))
    (any_name (name_in node) (drop (place + 1) nodes) ∙ ap (list_any (λ other. same_name (name_in node) (name_in other))) (sym all) ∙ h)

names_made : (made : List Node) (nodes : List Named) → map model_of made ≡ map (λ node. new_node node.0 node.1) nodes
    → names_of made ≡ map name_in nodes
names_made made nodes h = over made ∙ ap (map (λ (m : TheNode). m.mint.name)) h ∙ sym (opened nodes)
  where
    over : (made : List Node) → names_of made ≡ map (λ (m : TheNode). m.mint.name) (map model_of made)
    over [] = refl
    over (node ∷ rest) = ap (λ ns. name_of node ∷ ns) (over rest)

    opened : (nodes : List Named) → map name_in nodes ≡ map (λ (m : TheNode). m.mint.name) (map (λ node. new_node node.0 node.1) nodes)
    opened [] = refl
    opened (node ∷ rest) = ap (λ ns. node.0 ∷ ns) (opened rest)

nothing_on : (t : TrunkId) (x : Name) → list_to fm.empty t x ≡ []
nothing_on t x = ap list_in (fm.get-empty place_cmp (t, x))

pub opens : (w : World) (nodes : List Named) → map model_of w.nodes.items ≡ map (λ node. new_node node.0 node.1) nodes
    → w.lists ≡ [] → has_name [] (map name_in nodes) ≡ false
    → are_distinct (map name_in nodes) ≡ true → StandsFor w (opening nodes)
opens w nodes made none named distinct = record {
  names = sym (names_made w.nodes.items nodes made);
  distinct = ap (λ b. not b && are_distinct (map name_in nodes)) named ∙ distinct;
  nodes = sym made;
  lists = λ t x.
      record { left_out = []; kept = []; parts = nothing_on t x; are = ap (λ ls. at ls t x) none; whole = λ i. refl };
  spelled = λ t x. subst AreSpelled (sym (nothing_on t x)) tt;
  reached = record { nodes = nodes; events = []; reports = []; runs = refl };
}

-- ---- one node more

not_empty : (name : Name) → IsNodeName name → same_name name [] ≡ false
not_empty [] h =
    let parts = ap length h.parts in
    let long = length-append h.name (64 ∷ h.host) in
    absurd (omega arith)
not_empty (c ∷ cs) h = refl

has_more : (y x : Name) (names : List Name) → has_name y names ≡ false → same_name y x ≡ false → has_name y (names ++ x ∷ []) ≡ false
has_more y x [] h k = ap (λ b. b || false) k
has_more y x (z ∷ rest) h k =
    let t = or_parts (same_name y z) (has_name y rest) h in
    (λ i. t.0 i || has_more y x rest t.1 k i)

more_distinct : (names : List Name) (x : Name) → are_distinct names ≡ true → has_name x names ≡ false
    → are_distinct (names ++ x ∷ []) ≡ true
more_distinct [] x d h = refl
more_distinct (y ∷ rest) x d h =
    let t = and_parts (not (has_name y rest)) (are_distinct rest) d in
    let k = or_parts (same_name x y) (has_name x rest) h in
    (λ i. not (has_more y x rest (not-true _ t.0) (name_turned x y k.0) i) && more_distinct rest x t.1 k.1 i)

pub joins : (w new : World) (nodes : List Named) (node : Node) (name : Name) (setup : Setup) → StandsFor w (opening nodes)
    → new.nodes.items ≡ w.nodes.items ++ node ∷ [] → new.lists ≡ w.lists
    → model_of node ≡ new_node name setup → has_name name (names_of w.nodes.items) ≡ false → IsNodeName name
    → StandsFor new (opening (nodes ++ (name, setup) ∷ []))
joins w new nodes node name setup h items lists model free form =
    let f : Named → TheNode = (λ n. new_node n.0 n.1) in
    let one : List Named = (name, setup) ∷ [] in
    let made : map model_of new.nodes.items ≡ map f (nodes ++ one) =
    ap (map model_of) items ∙ map-append model_of w.nodes.items (node ∷ []) ∙ (λ i. sym h.nodes i ++ model i ∷ [])
    ∙ sym (map-append f nodes one) in
    record {
      names = sym (names_made new.nodes.items (nodes ++ one) made);
      distinct = ap (λ (ns : List Name). are_distinct ([] ∷ ns)) (map-append name_in nodes one)
          ∙ more_distinct ([] ∷ map name_in nodes) name h.distinct (λ i. not_empty name form i || (ap (has_name name) h.names ∙ free) i);
      nodes = sym made;
      lists = λ t x.
          none_left_out (is_taken (opening nodes) t x) (is_taken (opening (nodes ++ one)) t x) (at w.lists t x) (at new.lists t x)
          (list_to fm.empty t x) (list_to fm.empty t x) (nothing_on t x) (nothing_on t x) (ap (λ ls. at ls t x) lists) (h.lists t x);
      spelled = h.spelled;
      reached = record { nodes = nodes ++ one; events = []; reports = []; runs = refl };
    }

-- ---- as many nodes

pub stays : (w new : World) (m : TheWorld) → StandsFor w m → new.nodes.items ≡ w.nodes.items → new.lists ≡ w.lists → StandsFor new m
stays w new m h items lists = record {
  names = h.names ∙ ap names_of (sym items);
  distinct = h.distinct;
  nodes = h.nodes ∙ ap (map model_of) (sym items);
  lists = λ t x.
      same_frames (is_taken m t x) (at w.lists t x) (at new.lists t x) (list_to m.lists t x) (ap (λ ls. at ls t x) lists) (h.lists t x);
  spelled = h.spelled;
  reached = h.reached;
}

-- what holds in any case holds of an error
pub on_err : {X E : Type 0} {P : Type 0} (r : Result X E) → P → OnErr r P
on_err (Ok x) p = tt
on_err (Err e) p = p
