-- The connections that are gone, which runs of counts stand for.
use Rattle.std.specs.Prelude.{◌≡◌, ℕ, zero, suc, ◌-◌, ◌==◌, Bool, true, ◌&&◌, not, nat_lt, List, [], ◌∷◌, ◌++◌, Option, None, Some, if◌then◌else◌}
use Rattle.std.specs.Ordering.{eq_by_cmp, is_lt}
use Rattle.conn_core.specs.declared.side.Side.{Side}
use Rattle.dist_model.specs.Names.{same_name}
use Rattle.dist_model.specs.Sides.{TrunkSide}
use Rattle.erl_names.specs.Order.{trunk_cmp}
use Rattle.erl_names.specs.declared.trunk.TrunkId.{TrunkId}
use Rattle.node_tables.specs.Standings.{side_of}
use Rattle.node_tables.specs.declared.run.Run.{Run}

-- ---- the sides that a run stands for, spelled out

-- that of the connection of a count
abbrev pub side_at : Run → ℕ → Side
side_at run count = record (run.last) { trunk = record { dialer = run.last.trunk.dialer; count = count } }

-- those of so many connections from a count on
abbrev pub sides_from : Run → ℕ → ℕ → List Side
sides_from run count zero = []
sides_from run count (suc more) = side_at run count ∷ sides_from run (suc count) more

abbrev pub sides_of : Run → List Side
sides_of run = sides_from run run.first (suc run.last.trunk.count - run.first)

abbrev pub spelled : List Run → List Side
spelled [] = []
spelled (run ∷ rest) = sides_of run ++ spelled rest

-- ---- the side of one connection

-- each side of a run
abbrev pub side_in : Run → TrunkSide
side_in run = side_of run.last

abbrev pub has : Run → TrunkId → Bool
has run trunk =
    same_name trunk.dialer run.last.trunk.dialer && (not (nat_lt trunk.count run.first) && not (nat_lt run.last.trunk.count trunk.count))

abbrev pub gone_at : List Run → TrunkId → Option TrunkSide
gone_at [] trunk = None
gone_at (run ∷ rest) trunk = if has run trunk then Some (side_in run) else gone_at rest trunk

-- ---- their order

-- of the first connection
abbrev pub first_of : Run → TrunkId
first_of run = record { dialer = run.last.trunk.dialer; count = run.first }

abbrev pub all_behind : TrunkId → List Run → Bool
all_behind trunk [] = true
all_behind trunk (run ∷ rest) = is_lt (trunk_cmp trunk (first_of run)) && all_behind trunk rest

-- each run begins behind the last connection of those before
abbrev pub is_rising : List Run → Bool
is_rising [] = true
is_rising (run ∷ rest) = all_behind run.last.trunk rest && is_rising rest

-- the next begins right behind the last connection, with the same dialer and peer
abbrev pub is_followed : Run → Run → Bool
is_followed run next =
    same_name run.last.trunk.dialer next.last.trunk.dialer && (same_name run.last.peer next.last.peer
    && (nat_lt run.last.trunk.count next.first && (next.first - run.last.trunk.count == 1)))

-- one more connection is gone
abbrev pub IsBuried : Side → List Run → List Run → Type 0
IsBuried side old new =
    (trunk : TrunkId) → gone_at new trunk ≡ (if eq_by_cmp trunk_cmp trunk side.trunk then Some (side_of side) else gone_at old trunk)
