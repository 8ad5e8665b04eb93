-- Names of nodes, and the node at a place by its name.
use Rattle.std.proofs.Common.{◌≡◌, ◌<◌, ◌≤◌, ◌||◌, ℕ, zero, suc, Bool, true, false, cond, not, List, [], ◌∷◌, map, length}
use Rattle.std.proofs.Common.{None, Some, refl, sym, ap, ◌∙◌, slice_set, slice_index_or, get_or, nat_lt, bytes_eq, arith}
use Rattle.std.proofs.lemmas.List.Folds.{find_at}
use Rattle.std.proofs.lemmas.List.Quantifiers.{position-Some}
use Rattle.std.proofs.lemmas.Bool.{ltb-false, and_parts, not-true, or_parts}
use Rattle.std.proofs.lemmas.Map.Text.{is_eq-slice_cmp}
use Rattle.std.proofs.lemmas.Option.{slice_get_past}
use Rattle.std.specs.List.{find, list_any, position, position_or_len, slice_get}
use Rattle.std.specs.Option.{option_map}
use Rattle.dist_model.proofs.Keys.{name_turned, same_name_is, same_name_true}
use Rattle.dist_model.specs.Dialing.{has_name}
use Rattle.dist_model.specs.Names.{Name, same_name}
use Rattle.dist_model.specs.World.{node_of, set_node}
use Rattle.node_core.specs.Model.{model_of}
use Rattle.node_core.specs.declared.node.Node.{Node}
use Rattle.world_core.specs.Names.{are_distinct, name_at, name_of, names_of}
use Rattle.node_core.specs.declared.node_event.NodeEvent.TheVariants as happens

pub has_node : (name : Name) (nodes : List Node) → has_name name (names_of nodes) ≡ list_any (λ node. same_name name (name_of node)) nodes
has_node name [] = refl
has_node name (node ∷ rest) = ap (λ b. same_name name (name_of node) || b) (has_node name rest)

-- a name that is none of the others, at a place of these
not_at : (name : Name) (nodes : List Node) (place : ℕ) → place < length nodes → has_name name (names_of nodes) ≡ false
    → same_name name (name_at (names_of nodes) place) ≡ false
not_at name [] place l h = absurd (omega (arith, l))
not_at name (node ∷ rest) zero l h = (or_parts (same_name name (name_of node)) (has_name name (names_of rest)) h).0
not_at name (node ∷ rest) (suc place) l h =
    not_at name rest place (omega (arith, l)) (or_parts (same_name name (name_of node)) (has_name name (names_of rest)) h).1

module _ (d : Node) where
  pub name_is : (nodes : List Node) (place : ℕ) → place < length nodes
      → name_at (names_of nodes) place ≡ name_of (slice_index_or nodes place d)
  name_is [] place l = absurd (omega (arith, l))
  name_is (node ∷ rest) zero l = refl
  name_is (node ∷ rest) (suc place) l = name_is rest place (omega (arith, l))

  pub node_at : (nodes : List Node) (place : ℕ) → place < length nodes → are_distinct (names_of nodes) ≡ true
      → node_of (map model_of nodes) (name_at (names_of nodes) place) ≡ Some (model_of (slice_index_or nodes place d))
  node_at [] place l h = absurd (omega (arith, l))
  node_at (node ∷ rest) zero l h =
      ap (λ b. cond b (Some (model_of node)) (node_of (map model_of rest) (name_of node))) (same_name_is (name_of node) (name_of node) refl)
  node_at (node ∷ rest) (suc place) l h =
      let t = and_parts (not (has_name (name_of node) (names_of rest))) (are_distinct (names_of rest)) h in
      let other = not_at (name_of node) rest place (omega (arith, l)) (not-true _ t.0) in
      ap (λ b. cond b (Some (model_of node)) (node_of (map model_of rest) (name_at (names_of rest) place))) other
      ∙ node_at rest place (omega (arith, l)) t.1

pub node_set : (nodes : List Node) (place : ℕ) (new : Node) → place < length nodes → are_distinct (names_of nodes) ≡ true
    → set_node (map model_of nodes) (name_at (names_of nodes) place) (model_of new) ≡ map model_of (slice_set nodes place new)
node_set [] place new l h = absurd (omega (arith, l))
node_set (node ∷ rest) zero new l h =
    ap
    (λ b. cond b (model_of new ∷ map model_of rest) (model_of node ∷ set_node (map model_of rest) (name_of node) (model_of new)))
    (same_name_is (name_of node) (name_of node) refl)
node_set (node ∷ rest) (suc place) new l h =
    let t = and_parts (not (has_name (name_of node) (names_of rest))) (are_distinct (names_of rest)) h in
    let other = not_at (name_of node) rest place (omega (arith, l)) (not-true _ t.0) in
    ap (λ b. cond b (model_of new ∷ map model_of rest)
    (model_of node ∷ set_node (map model_of rest) (name_at (names_of rest) place) (model_of new))) other
    ∙ ap (λ ns. model_of node ∷ ns) (node_set rest place new (omega (arith, l)) t.1)

-- ---- behind the last place stands nobody

pub nobody_at : (names : List Name) (place : ℕ) → length names ≤ place → name_at names place ≡ []
nobody_at [] place l = refl
nobody_at (name ∷ rest) zero l = absurd (omega (arith, l))
nobody_at (name ∷ rest) (suc place) l = nobody_at rest place (omega (arith, l))

pub nobody_is : (nodes : List Node) → has_name [] (names_of nodes) ≡ false → node_of (map model_of nodes) [] ≡ None
nobody_is [] h = refl
nobody_is (node ∷ rest) h =
    let t = or_parts (same_name [] (name_of node)) (has_name [] (names_of rest)) h in
    ap (λ b. cond b (Some (model_of node)) (node_of (map model_of rest) [])) (name_turned [] (name_of node) t.0) ∙ nobody_is rest t.1

-- ---- one node changes, and keeps its name

pub names_set : (nodes : List Node) (place : ℕ) (new d : Node) → place < length nodes
    → name_of new ≡ name_of (slice_index_or nodes place d) → names_of (slice_set nodes place new) ≡ names_of nodes
names_set [] place new d l h = absurd (omega (arith, l))
names_set (node ∷ rest) zero new d l h = ap (λ n. n ∷ names_of rest) h
names_set (node ∷ rest) (suc place) new d l h = ap (λ ns. name_of node ∷ ns) (names_set rest place new d (omega (arith, l)) h)

pub same_models : (nodes : List Node) (place : ℕ) (new d : Node) → place < length nodes
    → model_of new ≡ model_of (slice_index_or nodes place d)
    → map model_of (slice_set nodes place new) ≡ map model_of nodes
same_models [] place new d l h = absurd (omega (arith, l))
same_models (node ∷ rest) zero new d l h = ap (λ n. n ∷ map model_of rest) h
same_models (node ∷ rest) (suc place) new d l h = ap (λ ns. model_of node ∷ ns) (same_models rest place new d (omega (arith, l)) h)

pub peer_is : (a b : Name) (v w : ℕ) → happens.Dial a v ≡ happens.Dial b w → a ≡ b
peer_is a b v w h = cc

-- ---- the node of a name

pub node_found : (nodes : List Node) (name : Name)
    → node_of (map model_of nodes) name ≡ option_map model_of (find (λ node. same_name (name_of node) name) nodes)
node_found [] name = refl
node_found (node ∷ rest) name = go (same_name (name_of node) name) (node_found rest name)
  where
    go : (b : Bool) → node_of (map model_of rest) name ≡ option_map model_of (find (λ node. same_name (name_of node) name) rest)
        → cond b (Some (model_of node)) (node_of (map model_of rest) name)
        ≡ option_map model_of (cond b (Some node) (find (λ node. same_name (name_of node) name) rest))
    go true h = refl
    go false h = h

-- ---- the place of a name

abbrev is_named : Name → Node → Bool
is_named name node = same_name (name_of node) name

at_place : (nodes : List Node) (d : Node) (place : ℕ) → place < length nodes
    → name_at (names_of nodes) place ≡ name_of (get_or nodes place d)
at_place [] d place l = absurd (omega (arith, l))
at_place (node ∷ rest) d zero l = refl
at_place (node ∷ rest) d (suc place) l = at_place rest d place (omega (arith, l))

pub place_is : (nodes : List Node) (name : Name) (place : ℕ)
    → position (λ node. same_name (name_of node) name) nodes ≡ Some place → name_at (names_of nodes) place ≡ name
place_is [] name place h = cc
place_is (node ∷ rest) name place h =
    let k = position-Some (is_named name) (node ∷ rest) place node h in
    at_place (node ∷ rest) node place k.0 ∙ same_name_true _ name k.1

pub no_place_is : (nodes : List Node) (name : Name) → position (λ node. same_name (name_of node) name) nodes ≡ None
    → node_of (map model_of nodes) name ≡ None
no_place_is nodes name h =
    node_found nodes name ∙ ap (option_map model_of)
    (find_at (is_named name) nodes ∙ nobody (nat_lt (position_or_len (is_named name) nodes) (length nodes)) refl h)
  where
    nobody : (b : Bool) → nat_lt (position_or_len (is_named name) nodes) (length nodes) ≡ b
        → cond b (Some (position_or_len (is_named name) nodes)) None ≡ None
        → slice_get nodes (position_or_len (is_named name) nodes) ≡ None
    nobody true e k = cc
    nobody false e k = slice_get_past nodes _ (ltb-false _ (length nodes) e)

-- ---- names as texts

pub spelled : (name : Name) (nodes : List Node) → list_any (λ node. bytes_eq name (name_of node)) nodes ≡ has_name name (names_of nodes)
spelled name [] = refl
spelled name (node ∷ rest) = (λ i. sym (is_eq-slice_cmp name (name_of node)) i || spelled name rest i)
