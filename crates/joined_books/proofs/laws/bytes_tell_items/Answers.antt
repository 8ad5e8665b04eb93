use Rattle.joined_books.proofs.Items.{bytes_tell_items}
use Rattle.joined_books.proofs.laws.bytes_tell_items.Goals as goal

pub returns : goal.returns
returns c = bytes_tell_items c.one_frame.ensures
