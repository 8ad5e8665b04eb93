use Rattle.std.proofs.Common.{lit≤, rules}
use Rattle.std.specs.Prelude.{codes}
use Rattle.std.specs.Str.{IsAscii}
use Rattle.exit_core.proofs.Names.{short_name}
use Rattle.node_processes.proofs.reacting.no_process.Goals as goal

is_ascii : IsAscii (codes "noproc")
is_ascii = search rules

pub named-requires : goal.named-requires
named-requires c = short_name (codes "noproc") is_ascii (lit≤ tt)
