use Rattle.message_beginnings.proofs.Sized.{named_begins_of, begun_named_of}
use Rattle.message_beginnings.proofs.lengths.named_begins_of.Goals as goal

pub returns-then-fields-len : goal.returns-then-fields-len
returns-then-fields-len c =
    let role = c.args.role in
    let len = c.args.len in
    let fields = c.args.fields.now in
    let s = c.saturating_sub.ensures in
    let before = c.fields_len-before.ensures in
    let n = rw (s, before) at c.name_begins_behind.ensures in
    (λ r. named_begins_of role len fields c.if-fields-len.true (n.0 r), λ b. n.1 (begun_named_of role len fields b))
