use Rattle.std.proofs.Common.{refl}
use Rattle.script_repeats.proofs.Opening.{none_opened, none_repeated}
use Rattle.script_repeats.proofs.repeating.repeat.Goals as goal

pub returns : goal.returns
returns c =
    let seed = c.args.seed in
    let opened = c.in_ok-open.ensures seed (none_opened seed _ c.new.ensures c.new-2.ensures.items refl) in
    (c.in_ok-enter_all.ensures seed (none_repeated seed c.args.nodes.now c.args.books.now c.open.new.self opened)).is
