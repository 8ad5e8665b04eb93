use Rattle.std.proofs.Common.{◌≡◌, length, rules}
use Rattle.std.specs.Prelude.{pos}
use Rattle.erl_term.specs.Canonical.{canonical_int}
use Rattle.c_library.proofs.Written.{big_written}
use Rattle.c_library.proofs.buffers.put_big.Goals as goal

pub returns : goal.returns
returns c =
    let len : c.integer_len-len.result ≡ length (canonical_int (pos c.args.n)) = search rules in
    big_written _ _ _ _ c.args.n _ _ _ c.requires.large len c.put_bytes-digits.ensures c.put_digits.ensures
