-- Where nothing travels between two processes, part by part.
use Rattle.std.specs.Prelude.{Bool, is_some, [], ◌&&◌}
use Rattle.std.specs.FinMap as fm
use Rattle.dist_model.specs.Names.{Name}
use Rattle.dist_model.specs.Node.{first_where}
use Rattle.dist_model.specs.Quiet.{is_quiet_on, is_up_to, nothing_between}
use Rattle.dist_model.specs.Seen.{seen, side_of_trunk}
use Rattle.dist_model.specs.World.{World, list_to, node_of}
use Rattle.erl_names.specs.declared.trunk.TrunkId.{TrunkId}
use Rattle.erl_term.specs.declared.term.Pid.{Pid}

-- on a connection that is up at one node: it is up at the other, and nothing travels on it
abbrev pub is_quiet_there : World → (name : Name) → (p q : Pid) → TrunkId → Bool
is_quiet_there m name p q trunk =
    is_up_to p.node (side_of_trunk m q.node trunk)
    && (nothing_between p q (list_to m.lists trunk name) && nothing_between p q (list_to m.lists trunk q.node))

abbrev pub is_quiet_over : World → (p q : Pid) → Bool
is_quiet_over m p q = is_some (first_where (is_quiet_on m p q) (seen (node_of m.nodes p.node) [] (λ node. fm.entries node.sides)))
