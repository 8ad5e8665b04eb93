use Rattle.std.proofs.Common.{rules, tests}
use Rattle.std.proofs.lemmas.Iterator.{YieldsList-from_slice}
use Rattle.std.proofs.lemmas.Iterator.Search.{all_from_yields_List}
use Rattle.script_lines.specs.Naming.{is_printable}
use Rattle.script_lines.proofs.LineLemmas.{cookie_test}
use Rattle.script_lines.proofs.naming.is_cookie.Goals as goal

pub returns-then-is_cookie_len : goal.returns-then-is_cookie_len
returns-then-is_cookie_len c =
    let all =
    all_from_yields_List is_printable _ _ c.all.result c.all.ensures.ran (YieldsList-from_slice _ c.iter.ensures.rest)
    (λ x b q k. search (rules, tests)) in
    cookie_test c.args.word.now c.is_cookie_len.result c.all.result c.if-is_cookie_len.true c.is_cookie_len.ensures all
