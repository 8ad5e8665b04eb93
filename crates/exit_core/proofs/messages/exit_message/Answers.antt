use Rattle.std.proofs.Common.{lit≤, rules}
use Rattle.std.specs.Prelude.{codes}
use Rattle.std.specs.Str.{IsAscii}
use Rattle.exit_core.proofs.Names.{short_name}
use Rattle.exit_core.proofs.messages.exit_message.Goals as goal

exit_is_ascii : IsAscii (codes "EXIT")
exit_is_ascii = search rules

pub atom_of-requires : goal.atom_of-requires
atom_of-requires c = short_name (codes "EXIT") exit_is_ascii (lit≤ tt)
