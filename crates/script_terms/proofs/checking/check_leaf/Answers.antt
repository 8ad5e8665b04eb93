use Rattle.std.proofs.Common.{◌≡◌, refl, rules, tests, false}
use Rattle.erl_term.specs.Data.{int, atom, binary}
use Rattle.script_terms.specs.Binding.{named_data}
use Rattle.script_terms.specs.declared.names.Named.{Named}
use Rattle.script_terms.specs.declared.names.Named.TheVariants.{Process, Monitor}
use Rattle.erl_term.specs.Canonical.{is_byte, levels_of}
use Rattle.script_terms.proofs.Leaves.{leaf_named, leaf_quoted, leaf_binary, leaf_bare, leaf_int, got}
use Rattle.script_terms.proofs.checking.check_leaf.Goals as goal

named_no_byte : (x : Named) → false ≡ is_byte (named_data x)
named_no_byte (Process p) = refl
named_no_byte (Monitor r) = refl

named_level : (x : Named) → levels_of (named_data x) ≡ 1
named_level (Process p) = refl
named_level (Monitor r) = refl

pub returns-then-first-eq36 : goal.returns-then-first-eq36
returns-then-first-eq36 c = λ look knows.
    let x = c.in_ok-rest.field-0-0.now in (
      (named_data x, c.in_ok-rest.rest.now),
      leaf_named look c.args.first c.args.rest.now c.args.bytes.now x c.in_ok-rest.rest.now (search (rules, tests))
          (c.in_ok-rest.ensures look knows),
      (refl, named_no_byte x, named_level x),
    )

pub returns-then-first-eq39 : goal.returns-then-first-eq39
returns-then-first-eq39 c = λ look knows.
    let x = c.in_ok-rest-2.field-0-0.items in (
      (atom x, c.in_ok-rest-2.rest.now),
      leaf_quoted look c.args.first c.args.rest.now c.args.bytes.now x c.in_ok-rest-2.rest.now (search (rules, tests))
          (search (rules, tests)) c.in_ok-rest-2.ensures.reading,
      (refl, refl, refl),
    )

pub returns-then-first-eq60 : goal.returns-then-first-eq60
returns-then-first-eq60 c = λ look knows.
    let h = c.in_ok-check_binary.ensures in (
      (binary h.0.0, c.in_ok-check_binary.field-0.now),
      leaf_binary look c.args.first c.args.rest.now c.args.bytes.now h.0.0 c.in_ok-check_binary.field-0.now
          (search (rules, tests)) (search (rules, tests)) (search (rules, tests))
          (got _ h.0 c.in_ok-check_binary.field-0.now h.1 h.2),
      (refl, refl, refl),
    )

pub returns-then-is_ascii_lowercase : goal.returns-then-is_ascii_lowercase
returns-then-is_ascii_lowercase c = λ look knows.
    let x = c.in_ok-rest-3.field-0-0.now in (
      (atom x, c.in_ok-rest-3.rest.now),
      leaf_bare look c.args.first c.args.rest.now c.args.bytes.now x c.in_ok-rest-3.rest.now
          (search (rules, tests)) (search (rules, tests)) (search (rules, tests))
          (search (rules, tests)) c.in_ok-rest-3.ensures.reading,
      (refl, refl, refl),
    )

pub returns : goal.returns
returns c = λ look knows. (
  (int c.in_ok-n.n, c.in_ok-n.rest.now),
  leaf_int look c.args.first c.args.rest.now c.args.bytes.now c.in_ok-n.n c.in_ok-n.rest.now (search (rules, tests))
      (search (rules, tests)) (search (rules, tests)) (search (rules, tests)) c.in_ok-n.ensures,
  (refl, search rules, refl),
)
