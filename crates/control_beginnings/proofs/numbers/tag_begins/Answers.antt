use Rattle.std.proofs.Common.{◌<◌, arith}
use Rattle.control_beginnings.specs.Parts.{IsTagText, IsTagAt}
use Rattle.control_beginnings.proofs.Passing.{tells_inside, tells_behind, tells_refused}
use Rattle.control_beginnings.proofs.Tagged.{tag_other, tag_some, tag_deep, deep_tag}
use Rattle.control_beginnings.proofs.numbers.tag_begins.Goals as goal

pub returns-in-Inside : goal.returns-in-Inside
returns-in-Inside c =
    let tag = c.args.tag in
    let levels = c.args.levels in
    let lt : tag < 256 = omega arith in
    tells_inside (IsTagText tag) (IsTagAt levels tag) (tag_other tag) (tag_some tag lt) levels c.args.bytes.now (deep_tag levels tag)
    (tag_deep levels tag) c.in-Inside.ensures

pub returns-in-Behind : goal.returns-in-Behind
returns-in-Behind c =
    let tag = c.args.tag in
    let levels = c.args.levels in
    let lt : tag < 256 = omega arith in
    tells_behind (IsTagText tag) (IsTagAt levels tag) (tag_other tag) (tag_some tag lt) levels c.args.bytes.now (deep_tag levels tag)
    (tag_deep levels tag) c.in-Behind.text c.tag_text_begins.result c.in-Behind.ensures c.tag_text_begins.ensures

pub returns-in-Refused : goal.returns-in-Refused
returns-in-Refused c =
    let tag = c.args.tag in
    let levels = c.args.levels in
    let lt : tag < 256 = omega arith in
    tells_refused (IsTagText tag) (IsTagAt levels tag) (tag_other tag) (tag_some tag lt) levels c.args.bytes.now (deep_tag levels tag)
    (tag_deep levels tag) c.in-Refused.ensures
