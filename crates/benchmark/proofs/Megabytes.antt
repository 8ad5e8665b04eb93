-- Megabytes a second, from bytes and nanoseconds.
use Rattle.std.proofs.Common.{◌≡◌, ℕ, ◌*◌, ◌/◌, arith}
use Rattle.std.proofs.Math.Nat.{div-div-eq-div-mul, mul-div-mul_right}

-- a byte a nanosecond is a thousand of them
pub thousand_a_nanosecond : (bytes nanos : ℕ) → bytes * 1_000_000_000 / nanos / 1_000_000 ≡ bytes * 1000 / nanos
thousand_a_nanosecond bytes nanos =
    let scaled : bytes * 1_000_000_000 ≡ bytes * 1000 * 1_000_000 = omega arith in
    rw (div-div-eq-div-mul, scaled) (mul-div-mul_right {m = 1_000_000} (bytes * 1000) nanos (omega arith))
