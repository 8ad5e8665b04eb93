-- A node dials on its next connection.
-- (ERTS User's Guide, Distribution Protocol, Distribution Handshake.)
use Rattle.std.specs.Prelude.{ℕ}
use Rattle.dist_model.specs.Dialing.{draw_trunk, next_trunk}
use Rattle.dist_model.specs.Handshake.{identity, with_side, write}
use Rattle.dist_model.specs.Names.{Name}
use Rattle.dist_model.specs.Node.{Node}
use Rattle.dist_model.specs.Sides.{AwaitsStatus}
use Rattle.dist_model.specs.Work.{Work, at_work}
use Rattle.erl_handshake.specs.Roles.{send_name}
use Rattle.dist_model.specs.Sides.{untold}

abbrev pub dialed_on : Node → Name → ℕ → Work
dialed_on node peer word =
    write (next_trunk node) peer (send_name (identity node))
    (with_side (next_trunk node) (record { peer = peer; introduction = untold; state = AwaitsStatus word }) (at_work (draw_trunk node)))
