use Rattle.std.proofs.Common.{rules, tests}
use Rattle.std.proofs.lemmas.Iterator.{YieldsList-from_slice}
use Rattle.std.proofs.lemmas.Iterator.Search.{all_from_yields_List}
use Rattle.erl_names.specs.Name.{is_name_byte}
use Rattle.erl_names.proofs.Names.{word_test}
use Rattle.erl_names.proofs.name.is_name.Goals as goal

pub returns-then-not-is_empty-clause-test : goal.returns-then-not-is_empty-clause-test
returns-then-not-is_empty-clause-test c =
    let all =
    all_from_yields_List is_name_byte _ _ c.all.result c.all.ensures.ran (YieldsList-from_slice _ c.iter.ensures.rest)
    (λ x b q k. search (rules, tests)) in
    word_test is_name_byte c.args.word.now c.all.result c.if-not-is_empty.ensures all
