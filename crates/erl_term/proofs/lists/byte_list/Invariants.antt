use Rattle.std.proofs.Common.{◌≡◌, take, map}
use Rattle.erl_term.specs.View.{view}
use Rattle.erl_term.proofs.Joined.{byte_data}
use Rattle.erl_term.proofs.lists.byte_list.Given as goal

abbrev pub invariant-loop-byte : goal.invariant-loop-byte
invariant-loop-byte l = map view l.items.items ≡ map byte_data (take l.byte-index l.fn.bytes)
