use Rattle.std.proofs.Common.{rules, tests}
use Rattle.std.proofs.lemmas.Iterator.{YieldsList-from_slice}
use Rattle.std.proofs.lemmas.Iterator.Search.{all_from_yields_List}
use Rattle.script_terms.specs.Words.{is_digit}
use Rattle.script_lines.proofs.NumberLemmas.{numeral_test}
use Rattle.script_lines.proofs.connections.is_numeral.Goals as goal

pub returns-then-not-is_empty : goal.returns-then-not-is_empty
returns-then-not-is_empty c =
    let all =
    all_from_yields_List is_digit _ _ c.all.result c.all.ensures.ran (YieldsList-from_slice _ c.iter.ensures.rest)
    (λ x b q k. search (rules, tests)) in
    numeral_test c.args.word.now c.is_empty.result c.all.result c.if-not-is_empty.true c.is_empty.ensures all
