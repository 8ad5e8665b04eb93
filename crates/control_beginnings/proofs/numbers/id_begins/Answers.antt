use Rattle.control_beginnings.specs.Parts.{IsIdText, IsIdAt}
use Rattle.control_beginnings.proofs.Passing.{tells_inside, tells_behind, tells_refused}
use Rattle.control_beginnings.proofs.IdRows.{id_other, id_some, id_deep, deep_id}
use Rattle.control_beginnings.proofs.numbers.id_begins.Goals as goal

pub returns-in-Inside : goal.returns-in-Inside
returns-in-Inside c =
    let levels = c.args.levels in
    tells_inside IsIdText (IsIdAt levels) id_other id_some levels c.args.bytes.now (deep_id levels) (id_deep levels) c.in-Inside.ensures

pub returns-in-Behind : goal.returns-in-Behind
returns-in-Behind c =
    let levels = c.args.levels in
    tells_behind IsIdText (IsIdAt levels) id_other id_some levels c.args.bytes.now (deep_id levels) (id_deep levels) c.in-Behind.text
    c.id_text_begins.result c.in-Behind.ensures c.id_text_begins.ensures

pub returns-in-Refused : goal.returns-in-Refused
returns-in-Refused c =
    let levels = c.args.levels in
    tells_refused IsIdText (IsIdAt levels) id_other id_some levels c.args.bytes.now (deep_id levels) (id_deep levels) c.in-Refused.ensures
