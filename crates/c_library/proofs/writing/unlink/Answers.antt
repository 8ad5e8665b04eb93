use Rattle.std.proofs.Common.{◌+◌, ◌<◌, ◌^◌, false, length, rules, ap, subst, sym, ◌∙◌, arith}
use Rattle.erl_term.specs.Canonical.{IsPidInRange}
use Rattle.c_library.specs.Putting.{AreAtoms}
use Rattle.c_library.specs.Rows.{sender, receiver, row_frame, unlink_of, unlink_text}
use Rattle.c_library.specs.Written.{IsWritten}
use Rattle.c_library.proofs.Putting.{unlink_frame, unlink_size, unlink_in_range, has_id, no_id, sendable, put_bad_id, put_no_room, put_written}
use Rattle.c_library.proofs.writing.unlink.Goals as goal

pub returns-then-id-eq0 : goal.returns-then-id-eq0
returns-then-id-eq0 c =
    let pids = c.args.pids in
    let atoms : AreAtoms pids.from_node.now pids.to_node.now = search rules in
    put_bad_id _ _ (unlink_of c.args.ack c.args.id (sender pids) (receiver pids)) c.args.out.now atoms
    (no_id c.args.ack c.args.id (sender pids) (receiver pids) c.if-id-eq0.true)

pub returns-then-out-size : goal.returns-then-out-size
returns-then-out-size c =
    let pids = c.args.pids in
    let atoms : AreAtoms pids.from_node.now pids.to_node.now = search rules in
    put_no_room _ _ (unlink_of c.args.ack c.args.id (sender pids) (receiver pids)) c.args.out.now (c.unlink_len-size.result + 5) atoms
    (has_id c.args.ack c.args.id (sender pids) (receiver pids) (search rules) c.if-id-eq0.false)
    (unlink_size c.args.ack c.args.id pids c.unlink_len-size.result
    (c.unlink_len-size.ensures.len ∙ ap (λ tag. length (unlink_text tag c.args.id pids)) c.unlink_tag-tag.ensures)) c.if-out-size.true

pub returns : goal.returns
returns c =
    let pids = c.args.pids in
    let ack = c.args.ack in
    let id = c.args.id in
    let atoms : AreAtoms pids.from_node.now pids.to_node.now = search rules in
    let p : IsPidInRange (sender pids) = record { node = atoms.0; id = search rules; serial = search rules; creation = search rules } in
    let q : IsPidInRange (receiver pids) = record { node = atoms.1; id = search rules; serial = search rules; creation = search rules } in
    let small : id < 2 ^ 64 = search rules in
    let has = has_id ack id (sender pids) (receiver pids) small c.if-id-eq0.false in
    let tag = c.unlink_tag-tag.ensures in
    put_written _ _ (unlink_of ack id (sender pids) (receiver pids)) c.args.out.now (c.unlink_len-size.result + 5) c.put_unlink.result
    c.put_unlink.new.out atoms has
    (unlink_size ack id pids c.unlink_len-size.result (c.unlink_len-size.ensures.len ∙ ap (λ tag. length (unlink_text tag id pids)) tag))
    (let le = c.if-out-size.false in omega arith)
    (subst (λ frame. IsWritten 0 frame c.args.out.now c.put_unlink.result c.put_unlink.new.out)
    (ap (λ tag. row_frame (unlink_text tag id pids)) tag ∙ sym (unlink_frame ack id pids)) c.put_unlink.ensures)
    (c.canonical_is_framed.ensures (unlink_of ack id (sender pids) (receiver pids)) false (sendable ack id (sender pids) (receiver pids) has)
    (unlink_in_range ack id (sender pids) (receiver pids) small p q))
