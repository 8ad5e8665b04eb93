use Rattle.std.proofs.Common.{◌∙◌, arith}
use Rattle.std.proofs.lemmas.Bool.{leb-true, le-leb}
use Rattle.erl_names.proofs.Names.{rest-is}
use Rattle.message_beginnings.proofs.Fronts.{few_begin, begun_few, rest_begins, begun_rest}
use Rattle.message_beginnings.proofs.names.name_begins_behind.Goals as goal

pub returns-in-Some : goal.returns-in-Some
returns-in-Some c =
    let before = c.args.before in
    let bytes = c.args.bytes.now in
    let counted = c.in-Some.counted.now in
    let l = c.in-Some.ensures.lookup.0 in
    let e = l.2 ∙ rest-is bytes before in
    let there = c.counted_name_begins.ensures in (
      λ r. rest_begins before c.args.most bytes counted (λ i. omega (arith, c.type_inv.bytes i)) l.0 e (there.0 r),
      λ b. there.1 (begun_rest before c.args.most bytes counted l.0 e b),
    )

pub returns-in-None : goal.returns-in-None
returns-in-None c =
    let before = c.args.before in
    let bytes = c.args.bytes.now in
    let l = c.in-None.ensures.lookup.0 in (
      λ r. few_begin before c.args.most bytes (λ i. omega (arith, c.type_inv.bytes i)) (omega arith) (leb-true 3 c.args.most r),
      λ b. le-leb 3 c.args.most (begun_few before c.args.most bytes b),
    )
