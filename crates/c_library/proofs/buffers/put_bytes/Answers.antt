use Rattle.std.proofs.Common.{◌≡◌, ◌+◌, ◌-◌, ◌++◌, length, take, ap, refl, ◌∙◌, rules, arith}
use Rattle.std.proofs.lemmas.Slice.{take-put_mid, drop-put_mid, overwrites}
use Rattle.c_library.proofs.buffers.put_bytes.Goals as goal

pub returns : goal.returns
returns c =
    let start = c.args.start in
    let out = c.args.out.now in
    let bytes = c.args.bytes.now in
    let stop = start + length bytes in
    let room = c.requires in
    let after = c.copy_from_slice.ensures.after in
    let size : length c.copy_from_slice.new.self ≡ length bytes = ap length after in
    let count : stop ≡ start + length c.copy_from_slice.new.self = omega (arith, size) in
    record {
      is_stop = refl;
      size = search (rules, overwrites);
      front = take-put_mid start (stop - start) out c.copy_from_slice.new.self stop count (omega arith) ∙ ap (λ w. take start out ++ w) after;
      back = drop-put_mid start (stop - start) out c.copy_from_slice.new.self stop (omega arith) (omega arith) (omega (arith, size));
    }
