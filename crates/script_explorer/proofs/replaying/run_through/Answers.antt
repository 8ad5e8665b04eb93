use Rattle.std.proofs.Common.{map, sym, ◌∙◌}
use Rattle.script_explorer.proofs.Led.{bytes_of}
use Rattle.script_explorer.proofs.Whole.{none_of, ran_whole}
use Rattle.script_explorer.proofs.replaying.run_through.Goals as goal

pub returns : goal.returns
returns c = λ from is.
    let it = c.in_ok-replayed.replayed in
    let whole = sym c.is_some.ensures ∙ c.if-is_some.false in
    let r = c.in_ok-replayed.ensures from is in
    record { last = r.last; led = ran_whole from (map bytes_of c.args.lines.now) it whole r; session = r.session (none_of it.stop whole) }
