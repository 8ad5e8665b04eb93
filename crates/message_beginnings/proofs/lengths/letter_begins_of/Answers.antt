use Rattle.std.proofs.Common.{arith}
use Rattle.std.proofs.lemmas.Bool.{leb-true, le-leb}
use Rattle.message_beginnings.proofs.Sized.{status_begins_of, begun_status_of, reply_begins_of, begun_reply_of, ack_begins_of, begun_ack_of}
use Rattle.message_beginnings.proofs.lengths.letter_begins_of.Goals as goal

pub returns-in-115 : goal.returns-in-115
returns-in-115 c =
    let role = c.args.role in
    let len = c.args.len in
    let fields = c.args.fields.now in
    let s = c.status_of_length_begins.ensures in
    rw c.in-115.is (λ r. status_begins_of role len fields (s.0 r), λ b. s.1 (begun_status_of role len fields b))

pub returns-then-len : goal.returns-then-len
returns-then-len c =
    let role = c.args.role in
    let len = c.args.len in
    let fields = c.args.fields.now in
    rw c.in-114.is (
      λ r. reply_begins_of role len fields (λ i. omega (arith, c.type_inv.fields i)) c.if-len.true (leb-true _ _ r),
      λ b. le-leb _ _ (begun_reply_of role len fields b).1,
    )

pub returns-then-len-2 : goal.returns-then-len-2
returns-then-len-2 c =
    let role = c.args.role in
    let len = c.args.len in
    let fields = c.args.fields.now in
    rw c.in-97.is (
      λ r. ack_begins_of role len fields c.if-len-2.true (leb-true _ _ r),
      λ b. le-leb _ _ (begun_ack_of role len fields b).1,
    )
