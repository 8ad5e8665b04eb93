use Rattle.std.proofs.Common.{◌*◌, length, refl, arith, lit<, length-append, ℕ, List, ◌≡◌, suc, zero, ◌∙◌}
use Rattle.std.proofs.lemmas.Fmt.{decimal_digit, first_decimal, decimal_injective}
use Rattle.std.specs.Int.{to_le_bytes, w32}
use Rattle.std.specs.Prelude.{slice_index}
use Rattle.md5.specs.Md5.{md5, digest_bytes}
use Rattle.erl_handshake.proofs.laws.digests.Goals as goal

bytes_len : (h : List ℕ) (n : ℕ) → length (digest_bytes h n) ≡ 4 * n
unfolding digest_bytes
bytes_len h zero = refl
bytes_len h (suc n) = length-append (digest_bytes h n) (to_le_bytes w32 (slice_index h n)) ∙ (let e = bytes_len h n in omega arith)

pub returns-clause-length : goal.returns-clause-length
unfolding md5
returns-clause-length c = λ cookie challenge. bytes_len _ 4

pub returns-clause-zero : goal.returns-clause-zero
returns-clause-zero c = decimal_digit 0 (lit< tt)

pub returns-clause-leading : goal.returns-clause-leading
returns-clause-leading c = λ challenge some lt. first_decimal challenge some (omega arith)

pub returns-clause-one : goal.returns-clause-one
returns-clause-one c = λ m n p q e. decimal_injective m n (omega arith) (omega arith) e
