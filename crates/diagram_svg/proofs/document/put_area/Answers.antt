use Rattle.std.proofs.Common.{◌<◌, ◌^◌, arith}
use Rattle.diagram_svg.proofs.Plain.{plain_area}
use Rattle.diagram_svg.proofs.document.put_area.Goals as goal

pub returns : goal.returns
returns c =
    let wide : c.args.width < 2 ^ 64 = omega arith in
    let high : c.args.height < 2 ^ 64 = omega arith in
    rw (plain_area c.args.width c.args.height wide high) c.in_ok-put_numbers.ensures
