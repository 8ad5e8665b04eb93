use Rattle.std.proofs.lemmas.Result.{IfOk-weaker}
use Rattle.control_beginnings.specs.Parts.{IsTagAt, AreParts, AreElements}
use Rattle.control_beginnings.proofs.Sequences.{tells_iff, both_behind, both_open, Free-tag, parts_at}
use Rattle.control_beginnings.proofs.rows.elements_begin.Goals as goal

pub returns-in-Some : goal.returns-in-Some
returns-in-Some c =
    let l = c.args.levels in
    let tag = c.args.row.now.tag in
    let parts = c.args.row.now.parts.now in
    IfOk-weaker c.parts_begin.result _ _
    (λ begins h. tells_iff (AreParts l parts) (AreElements l tag parts) begins c.in-Some.rest.now c.args.bytes.now
    (both_behind (IsTagAt l tag) (AreParts l parts) c.args.bytes.now c.in-Some.rest (Free-tag l tag) c.in-Some.ensures) h)
    c.parts_begin.ensures

pub returns-in-None : goal.returns-in-None
returns-in-None c =
    let l = c.args.levels in
    let tag = c.args.row.now.tag in
    let parts = c.args.row.now.parts.now in
    tells_iff (IsTagAt l tag) (AreElements l tag parts) c.tag_begins.result c.args.bytes.now c.args.bytes.now
    (both_open (IsTagAt l tag) (AreParts l parts) c.args.bytes.now (parts_at l parts c.requires.some) c.in-None.ensures)
    c.tag_begins.ensures
