use Rattle.std.proofs.Common.{◌∷◌, arith, length}
use Rattle.byteorder.specs.Endian.{big_bytes}
use Rattle.erl_term.proofs.Terms.{string_fits, string_byte}
use Rattle.erl_term.proofs.Written.{byte_more, put_more}
use Rattle.erl_term.proofs.writing.write_string.Goals as goal

pub overflow_cast-items : goal.overflow_cast-items
overflow_cast-items c = let lt = string_fits c.args.items.now c.requires.string in omega arith

pub byte_of-requires : goal.byte_of-requires
byte_of-requires c =
    string_byte c.args.items.now c.loop-item.item-index c.item-item.result c.loop-item-test.true c.item-item.is c.requires.string

pub loop-item-preserved : goal.loop-item-preserved
loop-item-preserved c =
    let items = c.args.items.now in
    let i = c.loop-item.item-index in
    let x = c.item-item.result in
    record {
      items = put_more _ _ _ (107 ∷ big_bytes 2 (length items)) _ _ _ _ c.write_byte-in-loop-item.ensures.items c.loop-item.invariant.items
          c.byte_of.ensures
          (byte_more items i x c.loop-item-test.true c.item-item.is);
      len = omega arith;
      capacity = omega arith;
    }
