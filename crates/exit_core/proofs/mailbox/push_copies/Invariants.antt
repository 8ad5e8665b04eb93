use Rattle.std.proofs.Common.{◌≡◌, ◌++◌, take}
use Rattle.exit_core.proofs.mailbox.push_copies.Given as goal

abbrev pub invariant-loop-message : goal.invariant-loop-message
invariant-loop-message l = l.copies.items ≡ l.fn.copies.items ++ take l.message-index l.messages
