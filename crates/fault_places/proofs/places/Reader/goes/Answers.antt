use Rattle.std.proofs.Common.{sym, subst, IfOk, IsTrue}
use Rattle.std.specs.Prelude.{◌↔◌}
use Rattle.fault_places.specs.Places.{Goes}
use Rattle.fault_places.proofs.places.Reader.goes.Goals as goal

pub returns-in-Frame : goal.returns-in-Frame
returns-in-Frame c =
    subst (λ reader. IfOk c.frame_goes.result (λ goes. IsTrue goes ↔ Goes reader c.args.bytes.now)) (sym c.in-Frame.is) c.frame_goes.ensures
