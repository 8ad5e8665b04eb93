use Rattle.std.proofs.Common.{rules, ◌<◌, ◌^◌, arith}
use Rattle.diagram_svg.proofs.Plain.{plain_decimal}
use Rattle.diagram_svg.proofs.markup.put_decimal.Goals as goal

pub returns : goal.returns
returns c =
    let small : c.args.value < 2 ^ 64 = omega arith in
    rw (plain_decimal c.args.value small) (search rules)
