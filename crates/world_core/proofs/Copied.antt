-- Copies of what travels, entry by entry, and of a world.
use Rattle.std.proofs.Common.{◌≡◌, ◌<◌, ◌+◌, ℕ, T, List, [], ◌∷◌, ◌++◌, length, map, get_or, take, drop, refl, sym, ap, subst, ◌∙◌}
use Rattle.std.proofs.lemmas.List.{take-append-drop, take_more}
use Rattle.std.specs.FinMap.{is_sorted}
use Rattle.std.specs.FinMap.Entries.{below_all}
use Rattle.std.specs.Ordering.{is_lt}
use Rattle.std.specs.declared.cmp.Ordering.{Ordering}
use Rattle.dist_model.specs.Node as model
use Rattle.dist_model.specs.World.{list_to, World as TheWorld}
use Rattle.node_core.specs.Model.{model_of}
use Rattle.node_core.specs.declared.node.Node.{Node}
use Rattle.sorted_map.specs.Facts.{both_pass, joined}
use Rattle.world_core.specs.Coming.{is_taken}
use Rattle.world_core.specs.Lists.{Lines, at}
use Rattle.world_core.specs.Names.{names_of}
use Rattle.world_core.specs.Stands.{AreFramesOf, StandsFor}
use Rattle.world_core.specs.declared.world.World.{World}

module _ {K V : Type 0} (cmp : K → K → Ordering) where
  below_front : (key : K) (front rest : List (K × V)) → T (below_all cmp key (front ++ rest)) → T (below_all cmp key front)
  below_front key [] rest h = tt
  below_front key (e ∷ front) rest h =
      let t = both_pass (is_lt (cmp key e.0)) (below_all cmp key (front ++ rest)) h in joined _ _ t.0 (below_front key front rest t.1)

  sorted_front : (front rest : List (K × V)) → T (is_sorted cmp (front ++ rest)) → T (is_sorted cmp front)
  sorted_front [] rest h = tt
  sorted_front (e ∷ front) rest h =
      let t = both_pass (below_all cmp e.0 (front ++ rest)) (is_sorted cmp (front ++ rest)) h in
      joined _ _ (below_front e.0 front rest t.0) (sorted_front front rest t.1)

  -- those so far, and one more
  pub sorted_so_far : (entries : List (K × V)) (i : ℕ) (e : K × V) → i < length entries → e ≡ get_or entries i e
      → T (is_sorted cmp entries) → T (is_sorted cmp (take i entries ++ e ∷ []))
  sorted_so_far entries i e below is h =
      let more : take (i + 1) entries ≡ take i entries ++ e ∷ [] =
      take_more entries i e below ∙ ap (λ x. take i entries ++ x ∷ []) (sym is) in
      subst (λ l. T (is_sorted cmp l)) more (sorted_front (take (i + 1) entries) (drop (i + 1) entries)
      (subst (λ l. T (is_sorted cmp l)) (sym (take-append-drop (i + 1) entries)) h))

-- the names of nodes by what the nodes stand for
names_by_model : (nodes : List Node) → names_of nodes ≡ map (λ (m : model.Node). m.mint.name) (map model_of nodes)
names_by_model [] = refl
names_by_model (node ∷ rest) = ap (λ l. (model_of node).mint.name ∷ l) (names_by_model rest)

-- a world of nodes that stand for the same, with the same frames in flight
pub stands_again : (w copy : World) (m : TheWorld) → map model_of copy.nodes.items ≡ map model_of w.nodes.items → copy.lists ≡ w.lists
    → StandsFor w m → StandsFor copy m
stands_again w copy m nodes lists h = record {
  names =
      h.names ∙ names_by_model w.nodes.items ∙ ap (map (λ (n : model.Node). n.mint.name)) (sym nodes)
      ∙ sym (names_by_model copy.nodes.items);
  distinct = h.distinct;
  nodes = h.nodes ∙ sym nodes;
  lists = λ trunk name.
      subst (λ (l : Lines). AreFramesOf (is_taken m trunk name) (at l trunk name) (list_to m.lists trunk name)) (sym lists)
      (h.lists trunk name);
  spelled = h.spelled;
  reached = h.reached;
}
