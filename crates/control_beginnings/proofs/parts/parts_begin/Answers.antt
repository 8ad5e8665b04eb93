use Rattle.std.proofs.Common.{◌+◌, drop, get_or}
use Rattle.std.proofs.lemmas.Result.{IfOk-weaker}
use Rattle.control_beginnings.specs.declared.parts.Part.TheVariants.{Id}
use Rattle.control_beginnings.specs.Parts.{Starts, IsPart, AreParts}
use Rattle.control_beginnings.proofs.Sequences.{tells_iff, iff_then, part_none, part_some, parts_done}
use Rattle.control_beginnings.proofs.parts.parts_begin.Goals as goal

pub returns-in-None : goal.returns-in-None
returns-in-None c =
    let l = c.args.levels in
    let parts = c.args.parts.now in
    let i = c.loop-part.part-index in
    let rest = c.loop-part.rest.now in
    let part = get_or parts i Id in
    let whole = iff_then (Starts (IsPart l part) rest) (Starts (AreParts l (drop i parts)) rest) (Starts (AreParts l parts) c.args.bytes.now)
    (part_none l parts i rest c.requires.some c.loop-part-test.true c.in-None.ensures) c.loop-part.invariant in
    IfOk-weaker c.part_begins.result _ _
    (λ begins h. tells_iff (IsPart l part) (AreParts l parts) begins rest c.args.bytes.now whole h) c.part_begins.ensures

pub loop-part-preserved : goal.loop-part-preserved
loop-part-preserved c =
    let l = c.args.levels in
    let parts = c.args.parts.now in
    let i = c.loop-part.part-index in
    let rest = c.loop-part.rest.now in
    iff_then (Starts (AreParts l (drop (i + 1) parts)) c.in-Some.after.now) (Starts (AreParts l (drop i parts)) rest)
    (Starts (AreParts l parts) c.args.bytes.now)
    (part_some l parts i rest c.in-Some.after c.loop-part-test.true c.in-Some.ensures) c.loop-part.invariant

pub returns : goal.returns
returns c =
    let l = c.args.levels in
    let parts = c.args.parts.now in
    let i = c.loop-part.part-index in
    let rest = c.loop-part.rest.now in
    tells_iff (AreParts l (drop i parts)) (AreParts l parts) c.is_empty.result rest c.args.bytes.now c.loop-part.invariant
    (parts_done l parts i rest c.is_empty.result c.loop-part-test.false c.is_empty.ensures)
