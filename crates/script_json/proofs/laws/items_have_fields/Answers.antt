use Rattle.script_json.proofs.OneText.{sent_has_fields}
use Rattle.script_json.proofs.laws.items_have_fields.Goals as goal

pub returns : goal.returns
returns c = sent_has_fields c.one_item.ensures.once c.one_item.ensures.sent
