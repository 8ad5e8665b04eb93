use Rattle.message_beginnings.proofs.Letters.{named_begins, begun_named}
use Rattle.message_beginnings.proofs.bodies.named_begins.Goals as goal

pub returns : goal.returns
returns c =
    let role = c.args.role in
    let fields = c.args.fields.now in
    let n = rw c.fields_len.ensures at c.name_begins_behind.ensures in
    (λ r. named_begins role fields (n.0 r), λ b. n.1 (begun_named role fields b))
