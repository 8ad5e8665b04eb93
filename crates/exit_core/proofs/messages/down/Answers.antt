use Rattle.std.proofs.Common.{lit≤, rules}
use Rattle.std.specs.Prelude.{codes}
use Rattle.std.specs.Str.{IsAscii}
use Rattle.exit_core.proofs.Names.{short_name}
use Rattle.exit_core.proofs.messages.down.Goals as goal

down_is_ascii : IsAscii (codes "DOWN")
down_is_ascii = search rules

process_is_ascii : IsAscii (codes "process")
process_is_ascii = search rules

pub atom_of-requires : goal.atom_of-requires
atom_of-requires c = short_name (codes "DOWN") down_is_ascii (lit≤ tt)

pub atom_of-requires-2 : goal.atom_of-requires-2
atom_of-requires-2 c = short_name (codes "process") process_is_ascii (lit≤ tt)
