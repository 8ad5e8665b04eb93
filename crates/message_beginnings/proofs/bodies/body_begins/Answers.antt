use Rattle.std.proofs.Common.{◌∷◌, [], refl, arith}
use Rattle.std.proofs.lemmas.Bool.{leb-true, le-leb}
use Rattle.readers.proofs.Sequence.{AreBytes-split}
use Rattle.message_beginnings.proofs.Fronts.{with_byte, none_left}
use Rattle.message_beginnings.proofs.Letters.{nothing_begins, status_begins, begun_status, reply_begins, begun_reply, ack_begins, begun_ack}
use Rattle.message_beginnings.proofs.bodies.body_begins.Goals as goal

pub returns-in_default : goal.returns-in_default
returns-in_default c =
    rw (none_left c.args.body.now c.in_default.ensures.cases) (λ r. nothing_begins c.args.role, λ b. refl)

pub returns-in-115 : goal.returns-in-115
returns-in-115 c =
    let role = c.args.role in
    let fields = c.in-Some.fields.now in
    let e = with_byte c.args.body.now c.in-Some.letter.now 115 fields c.in-Some.ensures.cases.0 c.in-115.is in
    let s = c.status_begins.ensures in
    rw e (λ r. status_begins role fields (s.0 r), λ b. s.1 (begun_status role fields b))

pub returns-in-114 : goal.returns-in-114
returns-in-114 c =
    let role = c.args.role in
    let fields = c.in-Some.fields.now in
    let e = with_byte c.args.body.now c.in-Some.letter.now 114 fields c.in-Some.ensures.cases.0 c.in-114.is in
    rw e (
      λ r. reply_begins role fields (AreBytes-split c.args.body.now (c.in-Some.letter.now ∷ []) fields (λ i. omega (arith, c.type_inv.body i)) c.in-Some.ensures.cases.0) (leb-true _ _ r),
      λ b. le-leb _ _ (begun_reply role fields b),
    )

pub returns-in-97 : goal.returns-in-97
returns-in-97 c =
    let role = c.args.role in
    let fields = c.in-Some.fields.now in
    let e = with_byte c.args.body.now c.in-Some.letter.now 97 fields c.in-Some.ensures.cases.0 c.in-97.is in
    rw e (λ r. ack_begins role fields (leb-true _ _ r), λ b. le-leb _ _ (begun_ack role fields b))
