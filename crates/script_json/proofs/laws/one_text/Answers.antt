use Rattle.script_json.proofs.OneText.{one_text}
use Rattle.script_json.proofs.laws.one_text.Goals as goal

pub returns : goal.returns
returns c = one_text c.one_item.ensures.once
