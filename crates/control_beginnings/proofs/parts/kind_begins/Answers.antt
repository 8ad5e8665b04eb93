use Rattle.std.proofs.lemmas.Result.{IfOk-weaker}
use Rattle.control_beginnings.specs.Parts.{IsOwnOf, IsKindAt}
use Rattle.control_beginnings.proofs.Passing.{tells_inside, tells_behind, tells_refused}
use Rattle.control_beginnings.proofs.Kindred.{kind_other, some_own, kind_deep, deep_kind}
use Rattle.control_beginnings.proofs.parts.kind_begins.Goals as goal

pub returns-in-Inside : goal.returns-in-Inside
returns-in-Inside c =
    let kind = c.args.kind in
    let levels = c.args.levels in
    tells_inside (IsOwnOf kind) (IsKindAt levels kind) (kind_other kind) (some_own kind) levels c.args.bytes.now (deep_kind kind levels)
    (kind_deep kind levels) c.in-Inside.ensures

pub returns-in-Behind : goal.returns-in-Behind
returns-in-Behind c =
    let kind = c.args.kind in
    let levels = c.args.levels in
    IfOk-weaker c.own_begins.result _ _
    (λ begins h. tells_behind (IsOwnOf kind) (IsKindAt levels kind) (kind_other kind) (some_own kind) levels c.args.bytes.now
    (deep_kind kind levels) (kind_deep kind levels) c.in-Behind.text begins c.in-Behind.ensures h)
    c.own_begins.ensures

pub returns-in-Refused : goal.returns-in-Refused
returns-in-Refused c =
    let kind = c.args.kind in
    let levels = c.args.levels in
    tells_refused (IsOwnOf kind) (IsKindAt levels kind) (kind_other kind) (some_own kind) levels c.args.bytes.now (deep_kind kind levels)
    (kind_deep kind levels) c.in-Refused.ensures
