use Rattle.std.proofs.Common.{◌+◌, false, rules, subst, sym, arith}
use Rattle.erl_term.specs.Canonical.{IsPidInRange}
use Rattle.erl_control.specs.declared.signal.Signal.TheVariants.{Link}
use Rattle.c_library.specs.declared.writing.Pids.{Pids}
use Rattle.c_library.specs.Putting.{AreAtoms}
use Rattle.c_library.specs.Rows.{sender, receiver}
use Rattle.c_library.specs.Written.{IsWritten}
use Rattle.c_library.proofs.Putting.{link_frame, link_size, link_in_range, put_no_room, put_written}
use Rattle.c_library.proofs.writing.erldist_put_link.Goals as goal

pub returns-then-out-size : goal.returns-then-out-size
returns-then-out-size c =
    let pids : Pids = record { from_node = c.args.from_node; from = c.args.from.now; to_node = c.args.to_node; to = c.args.to.now } in
    let atoms : AreAtoms c.args.from_node.now c.args.to_node.now = search rules in
    put_no_room _ _ (Link (sender pids) (receiver pids)) c.args.out.now (c.link_len-size.result + 5) atoms tt
    (link_size pids c.link_len-size.result c.link_len-size.ensures.len) c.if-out-size.true

pub returns : goal.returns
returns c =
    let pids : Pids = record { from_node = c.args.from_node; from = c.args.from.now; to_node = c.args.to_node; to = c.args.to.now } in
    let atoms : AreAtoms c.args.from_node.now c.args.to_node.now = search rules in
    let p : IsPidInRange (sender pids) = record { node = atoms.0; id = search rules; serial = search rules; creation = search rules } in
    let q : IsPidInRange (receiver pids) = record { node = atoms.1; id = search rules; serial = search rules; creation = search rules } in
    put_written _ _ (Link (sender pids) (receiver pids)) c.args.out.now (c.link_len-size.result + 5) c.put_link.result c.put_link.new.out atoms tt
    (link_size pids c.link_len-size.result c.link_len-size.ensures.len) (let le = c.if-out-size.false in omega arith)
    (subst (λ frame. IsWritten 0 frame c.args.out.now c.put_link.result c.put_link.new.out) (sym (link_frame pids)) c.put_link.ensures)
    (c.canonical_is_framed.ensures (Link (sender pids) (receiver pids)) false (tt, tt) (link_in_range (sender pids) (receiver pids) p q))
