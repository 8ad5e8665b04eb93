use Rattle.std.proofs.Common.{subst}
use Rattle.node_lock.specs.Seen.{BookSeen}
use Rattle.node_lock.specs.Standing.{IsBook}
use Rattle.node_lock.proofs.book.Book.replays.Goals as goal

pub returns : goal.returns
returns c = subst (λ (b : BookSeen). IsBook b.names b.place b.setup b.history b.outlets) c.self.view_is c.self.invariant
