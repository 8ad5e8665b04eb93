use Rattle.std.proofs.Common.{◌≡◌, ◌++◌, [], map}
use Rattle.dist_model.specs.Dialing.{has_name}
use Rattle.dist_model.specs.Runs.{new_node}
use Rattle.node_core.specs.Model.{model_of}
use Rattle.world_core.proofs.opening.make.Given as goal

-- what is made, and what is still to be
abbrev pub invariant-loop-name : goal.invariant-loop-name
invariant-loop-name l = record {
  made : map model_of l.made.items ++ map (λ node. new_node node.0 node.1) l.name-iterator.rest.items
      ≡ map model_of l.fn.made.items ++ map (λ node. new_node node.0 node.1) l.fn.nodes.items;
  named : has_name [] (map (λ node. node.0) l.fn.nodes.items) ≡ has_name [] (map (λ node. node.0) l.name-iterator.rest.items);
}
