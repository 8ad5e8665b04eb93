use Rattle.std.proofs.Common.{◌≡◌, drop}
use Rattle.node_lock.specs.Standing.{outlet_of}
use Rattle.joined_books.proofs.finding.outlet_of.Given as goal

abbrev pub invariant-loop-outlet : goal.invariant-loop-outlet
invariant-loop-outlet l = outlet_of l.trunk l.outlets ≡ outlet_of l.trunk (drop l.outlet-index l.outlets)
