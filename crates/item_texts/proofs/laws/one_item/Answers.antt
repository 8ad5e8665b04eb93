use Rattle.item_texts.proofs.OneItem.{read_once, sent_is_read}
use Rattle.item_texts.proofs.laws.one_item.Goals as goal

pub returns : goal.returns
returns c = record { once = read_once c.one_frame.ensures; sent = sent_is_read }
