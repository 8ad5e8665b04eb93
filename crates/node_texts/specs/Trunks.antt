-- The text of the connections to a peer.
-- (ERTS User's Guide, Distribution Protocol, Distribution Handshake.)
use Rattle.std.specs.Prelude.{Bool, Option, None, Some, ℕ, List, [], ◌++◌, codes}
use Rattle.std.specs.FinMap as fm
use Rattle.std.specs.Option.{option_map}
use Rattle.dist_model.specs.Names.{Name}
use Rattle.dist_model.specs.Node.{Node, side_where}
use Rattle.dist_model.specs.Sides.{State, is_dialing, is_losing, is_up, is_waiting}
use Rattle.erl_names.specs.declared.trunk.TrunkId.{TrunkId}
use Rattle.script_texts.specs.Texts.{trunk_text}

-- the first connection to a peer, or attempt at one, whose state passes
abbrev pub first_trunk : (State → Bool) → Node → Name → Option TrunkId
first_trunk passes node peer = option_map (λ entry. entry.0) (side_where passes peer (fm.entries node.sides))

-- its line, with the word for its state
abbrev pub side_line : List ℕ → Name → Option TrunkId → List ℕ
side_line word peer None = []
side_line word peer (Some trunk) = codes "trunk " ++ trunk_text trunk ++ codes " " ++ peer ++ codes " " ++ word ++ codes "\n"

abbrev pub trunks_text : Node → Name → List ℕ
trunks_text node peer =
    side_line (codes "dialing") peer (first_trunk is_dialing node peer)
    ++ side_line (codes "waiting") peer (first_trunk is_waiting node peer)
    ++ side_line (codes "up") peer (first_trunk is_up node peer)
    ++ side_line (codes "lost") peer (first_trunk is_losing node peer)
