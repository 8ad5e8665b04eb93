-- What is seen of a node, if there is one, and of maps that hold nothing for a key.
use Rattle.std.proofs.Common.{cond, map, Bool, false, List, [], Option, None, ◌||◌}
use Rattle.std.specs.Option.{is_some, unwrap_or}
use Rattle.std.specs.FinMap as fm
use Rattle.dist_model.specs.Linking.{told_to}
use Rattle.dist_model.specs.Items.{Item, news}
use Rattle.dist_model.specs.Losses.{close_side}
use Rattle.dist_model.specs.Names.{Name}
use Rattle.dist_model.specs.Node.{Node, end_of, living, reaches, side_where}
use Rattle.dist_model.specs.Runs.{new_node}
use Rattle.dist_model.specs.Seen.{seen}
use Rattle.dist_model.specs.Sides.{TrunkSide, is_losing, is_up}
use Rattle.dist_model.specs.Work.{Addressed, Work}
use Rattle.erl_names.specs.declared.trunk.TrunkId.{TrunkId}
use Rattle.erl_term.specs.declared.term.Pid.{Pid}
use Rattle.link_core.specs.News.{LinkNews}
use Rattle.link_core.specs.declared.end.End.{End}
use Rattle.erl_handshake.specs.declared.setup.Setup.{Setup}

abbrev pub end_in : Option End → End
end_in o = unwrap_or o End.None

abbrev pub list_in : Option (List Item) → List Item
list_in o = unwrap_or o []

abbrev pub living_at : Option Node → Pid → Bool
living_at o p = seen o false (λ node. living node p)

abbrev pub end_at : Option Node → Pid → Pid → End
end_at o p q = seen o End.None (λ node. end_of node p q)

abbrev pub local_at : Option Node → List Item
local_at o = seen o [] (λ node. node.local)

abbrev pub side_in : Option Node → TrunkId → Option TrunkSide
side_in o trunk = seen o None (λ node. fm.get node.sides trunk)

abbrev pub connected_at : Option Node → Name → Bool
connected_at o peer = seen o false (λ node. is_some (side_where (λ state. is_up state || is_losing state) peer (fm.entries node.sides)))

abbrev pub reached_at : Option Node → Name → Bool
reached_at o name = seen o false (λ node. reaches node name)

abbrev pub sides_at : Option Node → List (TrunkId × TrunkSide)
sides_at o = seen o [] (λ node. fm.entries node.sides)

abbrev pub replies : Pid → Pid → List LinkNews → List Addressed
replies p q news = map (told_to p q) news

abbrev pub new_nodes : List (Name × Setup) → List Node
new_nodes cs = map (λ (c : Name × Setup). new_node c.0 c.1) cs

abbrev pub close_if : Bool → TrunkId → TrunkSide → Work → Work
close_if kept t s o = cond kept o (close_side t s o)
