use Rattle.std.proofs.Common.{lit≤, rules}
use Rattle.std.specs.Prelude.{codes}
use Rattle.std.specs.Str.{IsAscii}
use Rattle.exit_core.proofs.Names.{short_name}
use Rattle.exit_core.proofs.process.Proc.react.Goals as goal

killed_is_ascii : IsAscii (codes "killed")
killed_is_ascii = search rules

pub named-requires : goal.named-requires
named-requires c = short_name (codes "killed") killed_is_ascii (lit≤ tt)
