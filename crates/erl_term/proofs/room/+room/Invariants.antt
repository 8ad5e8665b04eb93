use Rattle.std.proofs.Common.{take}
use Rattle.erl_term.specs.View.{items_view}
use Rattle.erl_term.proofs.LeftOver.{LeftBehind}
use Rattle.erl_term.proofs.room.+room.Given as goal

abbrev pub invariant-room_after_items-loop-item : goal.invariant-room_after_items-loop-item
invariant-room_after_items-loop-item l = LeftBehind l.levels l.room (items_view (take l.item-index l.items)) l.left
