use Rattle.std.proofs.Common.{◌≡◌, suc, take, subst, arith}
use Rattle.fault_places.specs.Places.{Goes}
use Rattle.fault_places.proofs.places.Reader.place.Goals as goal

pub returns : goal.returns
returns c =
    let inv = c.loop-refused.invariant in
    let next : suc c.loop-refused.begun ≡ c.loop-refused.refused = omega (arith, inv.0, c.loop-refused-test.false) in
    record {
      inside = omega (arith, inv.0, inv.1);
      goes = inv.2;
      stops = λ less goes. inv.3 (subst (λ n. Goes c.args.self (take n c.args.bytes.now)) next goes);
    }
