use Rattle.std.proofs.Common.{take, drop, length, ap, sym, ◌∙◌, arith, rules}
use Rattle.std.proofs.lemmas.List.Sums.{prefix_len_is}
use Rattle.script_terms.specs.Words.{is_of_kind}
use Rattle.script_terms.proofs.words.word_of.Goals as goal

pub returns-then-not-has-clause-word : goal.returns-then-not-has-clause-word
returns-then-not-has-clause-word c =
    c.split_at.ensures.front ∙ ap (λ n. take n c.args.bytes.now)
    (sym (prefix_len_is (is_of_kind c.args.kind) c.args.bytes.now c.loop-i.i 0 (omega arith) c.loop-i.invariant (λ lt. search rules)))

pub returns-then-not-has-clause-rest : goal.returns-then-not-has-clause-rest
returns-then-not-has-clause-rest c =
    c.split_at.ensures.back ∙ ap (λ n. drop n c.args.bytes.now)
    (sym (prefix_len_is (is_of_kind c.args.kind) c.args.bytes.now c.loop-i.i 0 (omega arith) c.loop-i.invariant (λ lt. search rules)))

pub returns-clause-word : goal.returns-clause-word
returns-clause-word c =
    c.split_at-2.ensures.front ∙ ap (λ n. take n c.args.bytes.now) (sym (prefix_len_is
    (is_of_kind c.args.kind) c.args.bytes.now (length c.args.bytes.now) 0 (omega arith)
    (λ k lt. c.loop-i.invariant k (omega arith)) (λ lt. absurd (omega arith))))

pub returns-clause-rest : goal.returns-clause-rest
returns-clause-rest c =
    c.split_at-2.ensures.back ∙ ap (λ n. drop n c.args.bytes.now) (sym (prefix_len_is
    (is_of_kind c.args.kind) c.args.bytes.now (length c.args.bytes.now) 0 (omega arith)
    (λ k lt. c.loop-i.invariant k (omega arith)) (λ lt. absurd (omega arith))))
