use Rattle.std.proofs.Common.{subst}
use Rattle.std.proofs.lemmas.Result.{IfOk-weaker}
use Rattle.item_decoder.specs.Told.{IsTold}
use Rattle.item_decoder.proofs.all.put_one.Goals as goal

pub returns-in-Ok : goal.returns-in-Ok
returns-in-Ok c =
    let told = c.in-Ok.ensures in
    let is = subst (λ reader. IsTold reader c.args.bytes.now c.in-Ok.told) c.reader.ensures told.told in
    IfOk-weaker c.put_step.result _ _ (λ step may. (c.in-Ok.told, is, told.moves, may)) c.put_step.ensures
