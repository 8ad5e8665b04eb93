use Rattle.std.proofs.Common.{string_bytes}
use Rattle.script_terms.proofs.Printed.{items_more}
use Rattle.script_terms.proofs.printing.+put.Goals as goal

pub put_items-loop-i-preserved : goal.put_items-loop-i-preserved
put_items-loop-i-preserved t c =
    items_more c.args.items.now c.loop-i.i c.index-items-i.result (string_bytes c.args.out.now) (string_bytes c.loop-i.out)
    (string_bytes c.put_comma.new.out) (string_bytes c.put_term.new.out) c.loop-i-test.true c.index-items-i.is
    c.loop-i.invariant c.in_ok-put_comma.ensures c.in_ok-put_term.ensures
