-- A side that is losing, as the table has it.
use Rattle.std.proofs.Common.{◌≡◌, Some, true, ◌∙◌}
use Rattle.std.specs.FinMap as fm
use Rattle.std.specs.FinMap.{FinMap}
use Rattle.conn_core.specs.declared.side.Side.{Side}
use Rattle.dist_model.proofs.ClosedSides.{any_found}
use Rattle.dist_model.specs.Losses.{any_side}
use Rattle.dist_model.specs.Sides.{TrunkSide, is_losing}
use Rattle.erl_names.specs.Order.{trunk_cmp}
use Rattle.node_tables.specs.Standings.{entry_of, side_of, state_of}

pub record Losing (sides : FinMap trunk_cmp TrunkSide) (side : Side) : Type 0 where
  pub there : fm.get sides side.trunk ≡ Some (side_of side)
  pub losing : is_losing (state_of side.standing) ≡ true

pub loses : (sides : FinMap trunk_cmp TrunkSide) (side : Side) → any_side is_losing (fm.entries sides) ≡ Some (entry_of side)
    → Losing sides side
loses sides side h =
    let f = any_found is_losing (fm.entries sides) (entry_of side) (fm.entries_sorted sides) h in
    record { there = fm.get-entries sides side.trunk ∙ f.0; losing = f.1 }
