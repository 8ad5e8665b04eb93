-- A node dials another.
-- (ERTS User's Guide, Distribution Protocol, Distribution Handshake. That only a call dials is own.)
use Rattle.std.specs.List.{list_any}
use Rattle.std.specs.Prelude.{is_some, ℕ, ◌+◌, ◌^◌, Bool, not, if◌then◌else◌, List, nat_lt}
use Rattle.std.specs.FinMap as fm
use Rattle.dist_model.specs.Commands.{Accepts, Outcome, Refuses}
use Rattle.dist_model.specs.declared.report.Answer.{Answer}
use Rattle.dist_model.specs.Handshake.{identity, with_side, write}
use Rattle.dist_model.specs.Names.{Name, same_name}
use Rattle.dist_model.specs.Node.{Node, side_where}
use Rattle.dist_model.specs.Sides.{AwaitsStatus, is_gone}
use Rattle.dist_model.specs.Work.{at_work}
use Rattle.erl_handshake.specs.Roles.{send_name}
use Rattle.erl_names.specs.declared.trunk.TrunkId.{TrunkId}
use Rattle.erl_term.specs.declared.refusal.Refusal.{Refusal}
use Rattle.dist_model.specs.Sides.{untold}

abbrev pub has_name : Name → List Name → Bool
has_name name = list_any (same_name name)

abbrev pub next_trunk : Node → TrunkId
next_trunk node = record { dialer = node.mint.name; count = node.dialed + 1 }

abbrev pub draw_trunk : Node → Node
draw_trunk node = record node { dialed = node.dialed + 1 }

-- there is no side towards the peer but gone ones. The word is the new side's challenge
abbrev pub dial : List Name → Node → Name → ℕ → Outcome
dial names node peer word =
    if same_name peer node.mint.name then Refuses Refusal.SelfDial else
    (if not (has_name peer names) then Refuses Refusal.NothingThere else
    (if is_some (side_where (λ state. not (is_gone state)) peer (fm.entries node.sides)) then Refuses Refusal.Busy else
    (if not (nat_lt (node.dialed + 1) (2 ^ 64)) then Refuses Refusal.IdsUsedUp else
    Accepts (Answer.Trunk (next_trunk node))
    (write (next_trunk node) peer (send_name (identity node))
    (with_side (next_trunk node) (record { peer = peer; introduction = untold; state = AwaitsStatus word }) (at_work (draw_trunk node)))))))
