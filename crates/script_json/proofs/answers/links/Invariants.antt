use Rattle.std.proofs.Common.{◌≡◌, map, take}
use Rattle.script_json.specs.Reports.{link_data}
use Rattle.serde_json.specs.View.{view}
use Rattle.script_json.proofs.answers.links.Given as goal

abbrev pub invariant-loop-partner : goal.invariant-loop-partner
invariant-loop-partner l = map view l.all.items ≡ map link_data (take l.partner-index l.links)
