-- At every moment of every run each node is steady, so each name is of a living process.
use Rattle.std.proofs.Common.{◌≡◌, List, Option, Some, None, refl, sym, ap, subst, ◌∙◌}
use Rattle.std.proofs.lemmas.Option.{same_Some}
use Rattle.std.specs.FinMap.{FinMap}
use Rattle.dist_model.proofs.Calls.{by_test}
use Rattle.dist_model.proofs.KeepBearings.{bearings_kept, if_accepted}
use Rattle.dist_model.proofs.KeepSteady.{steady_kept, steady_new}
use Rattle.dist_model.proofs.Keys.{same_name_is, same_name_true}
use Rattle.dist_model.proofs.Routes.{node_of_name, node_of_set_other, node_of_set_same}
use Rattle.dist_model.proofs.Run.{always_kept}
use Rattle.dist_model.proofs.Safety.{new_is}
use Rattle.dist_model.proofs.Truths.{not_both}
use Rattle.dist_model.specs.Claims.{NamesAreOfTheLiving}
use Rattle.dist_model.specs.Commands.{Accepts, Outcome, Refuses}
use Rattle.dist_model.specs.Items.{Item}
use Rattle.dist_model.specs.Keeping.{Bearings, Steady}
use Rattle.dist_model.specs.Names.{Name, place_cmp, same_name}
use Rattle.dist_model.specs.Node.{Node}
use Rattle.dist_model.specs.NodeEvents.{NodeEvent, at_node}
use Rattle.dist_model.specs.Runs.{Always, opening}
use Rattle.dist_model.specs.World.{Event, World, came_of, left, met, node_name, node_of, set_node, step_at}
use Rattle.erl_handshake.specs.declared.setup.Setup.{Setup}

abbrev pub AllSteady : World → Type 0
AllSteady w = (x : Name) (n : Node) → node_of w.nodes x ≡ Some n → Steady n

set_steady : (ns : List Node) (x : Name) (n m : Node) → node_of ns x ≡ Some n
    → ((y : Name) (v : Node) → node_of ns y ≡ Some v → Steady v) → Steady m → m.mint.name ≡ n.mint.name
    → (y : Name) (v : Node) → node_of (set_node ns x m) y ≡ Some v → Steady v
set_steady ns x n m h g k same y v hv =
    let e : m.mint.name ≡ x = same ∙ node_of_name ns x n h in
    by_test _ (same_name x y)
    (λ i. subst Steady (same_Some m v
    (sym (node_of_set_same ns x n m h e) ∙ ap (node_of (set_node ns x m)) (same_name_true x y i) ∙ hv)) k)
    (λ i. g y v (sym (node_of_set_other ns x y m e (λ j. not_both (same_name x y) (same_name_is x y j) i)) ∙ hv))

ends : (w : World) (x : Name) (n : Node) (e : NodeEvent) (lists : FinMap place_cmp (List Item)) (o : Outcome)
    → node_of w.nodes x ≡ Some n → AllSteady w → at_node w.names n e ≡ o → AllSteady ((came_of w x lists o).world)
ends w x n e lists (Refuses k) h g is = g
ends w x n e lists (Accepts a o) h g is =
    set_steady w.nodes x n o.node h g (steady_kept w.names n e a o (g x n h) is)
    ((if_accepted (Bearings n e) (at_node w.names n e) a o is (bearings_kept w.names n e)).name)

pub steps : (w : World) (o : Option Node) (e : Event) → node_of w.nodes (node_name e) ≡ o → AllSteady w → AllSteady ((step_at w o e).world)
steps w None e h g = g
steps w (Some n) e h g = ends w (node_name e) n (met w e) (left w e) (at_node w.names n (met w e)) h g refl

pub opens : (cs : List (Name × Setup)) → AllSteady (opening cs)
opens cs x n h = let k = new_is cs cs x n h in subst Steady (sym k.2) (steady_new k.0 k.1)

pub names_are_of_the_living : Always NamesAreOfTheLiving
names_are_of_the_living = always_kept AllSteady (λ w e g. steps w (node_of w.nodes (node_name e)) e refl g) NamesAreOfTheLiving opens
    (λ w g x n h. let k = g x n h in (k.holders, k.one_name))
