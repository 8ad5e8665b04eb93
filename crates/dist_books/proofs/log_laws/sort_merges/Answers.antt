use Rattle.dist_books.proofs.SortedLogs.{sort_merges}
use Rattle.dist_books.proofs.log_laws.sort_merges.Goals as goal

pub returns : goal.returns
returns g c stamp = sort_merges stamp
