use Rattle.std.proofs.Common.{◌≡◌, false, sym, arith}
use Rattle.erl_names.proofs.Names.{name_found, host_found, form_found, at-none}
use Rattle.erl_names.proofs.name.has_form.Goals as goal

pub returns-then-is_name-clause-form : goal.returns-then-is_name-clause-form
returns-then-is_name-clause-form c =
    let text = c.args.text.now in
    let e = c.in-Some.ensures in
    let a = c.is_name.ensures.word in
    let b = c.is_host.ensures.word in
    let t = c.if-is_name.true in
    (λ r. form_found text c.in-Some.at e (omega arith) (a.0 t) (b.0 r), λ n. b.1 (host_found text c.in-Some.at e n))

pub returns-else-is_name-clause-form : goal.returns-else-is_name-clause-form
returns-else-is_name-clause-form c =
    let no : c.is_name.result ≡ false = c.if-is_name.false in
    (λ r. absurd (cc (r, no)), λ n. c.is_name.ensures.word.1 (name_found c.args.text.now c.in-Some.at c.in-Some.ensures n))

pub returns-in-None-clause-form : goal.returns-in-None-clause-form
returns-in-None-clause-form c = (λ r. absurd (cc r), λ n. absurd (at-none c.args.text.now (sym c.in-None.ensures) n))
