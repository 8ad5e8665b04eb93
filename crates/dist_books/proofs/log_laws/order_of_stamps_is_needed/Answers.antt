use Rattle.dist_books.proofs.Unsorted.{lead_nowhere, lead_somewhere}
use Rattle.dist_books.proofs.log_laws.order_of_stamps_is_needed.Goals as goal

pub returns : goal.returns
returns c = record { by_stamp = lead_somewhere; by_node = lead_nowhere }
