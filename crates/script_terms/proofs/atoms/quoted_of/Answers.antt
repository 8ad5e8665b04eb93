use Rattle.std.proofs.Common.{refl, ◌+◌, length, ◌++◌, ◌∷◌, [], sym, ◌∙◌, rules, tests, encode_utf8}
use Rattle.std.proofs.lemmas.Result.{err_from_is_err_and}
use Rattle.script_terms.specs.Reading.{quoted_at}
use Rattle.script_terms.proofs.Pieces.{piece_plain, piece_escaped, piece_bad, next_bad, piece_last, piece_none, no_room}
use Rattle.script_terms.proofs.atoms.quoted_of.Goals as goal
use Rattle.script_terms.proofs.atoms.quoted_of.Goals.{then-c-eq92+in_ok-piece+in_ok-push_char, else-c-eq92+in_ok-push_bytes}

pub returns-in_err-c-clause-reading : goal.returns-in_err-c-clause-reading
unfolding quoted_at
returns-in_err-c-clause-reading c =
    let p = err_from_is_err_and c.from_residual.result c.from_residual.ensures.1 in
    let bad =
    next_bad c.loop.text.items
    (length c.args.bytes.now) c.loop.counter c.loop.rest.now c.in_err-c.field-0.0 c.loop-test.true c.in_err-c.ensures in
    rw (p.1, p.2, ← c.loop.invariant, bad) refl

pub returns-then-c-eq39-clause-reading : goal.returns-then-c-eq39-clause-reading
unfolding quoted_at
returns-then-c-eq39-clause-reading c =
    let last =
    piece_last c.loop.text.items
    (length c.args.bytes.now) c.loop.counter c.in_ok-c.c c.loop.rest.now c.in_ok-c.after.now c.loop-test.true c.in_ok-c.ensures
    (search (rules, tests)) in
    rw (← c.loop.invariant, last) c.whole_text.ensures.reading

pub returns-in_err-piece-clause-reading : goal.returns-in_err-piece-clause-reading
unfolding quoted_at
returns-in_err-piece-clause-reading c =
    let p = err_from_is_err_and c.from_residual-in_err-piece.result c.from_residual-in_err-piece.ensures.1 in
    let bad =
    piece_bad c.loop.text.items (length c.args.bytes.now) c.loop.counter c.in_ok-c.c c.loop.rest.now c.in_ok-c.after.now
    c.in_err-piece.field-0.0 c.loop-test.true c.in_ok-c.ensures (search (rules, tests)) (search (rules, tests))
    c.in_err-piece.ensures in
    rw (p.1, p.2, ← c.loop.invariant, bad) refl

pub returns-in_err-push_char-clause-reading : goal.returns-in_err-push_char-clause-reading
unfolding quoted_at
returns-in_err-push_char-clause-reading c =
    let p = err_from_is_err_and c.from_residual-in_err-push_char.result c.from_residual-in_err-push_char.ensures.1 in
    let more =
    piece_escaped c.loop.text.items
    (length c.args.bytes.now) c.loop.counter c.in_ok-c.c c.loop.rest.now c.in_ok-c.after.now
    (encode_utf8 c.in_ok-piece.piece) c.in_ok-piece.after.now c.loop-test.true c.in_ok-c.ensures (search (rules, tests))
    (search (rules, tests)) c.in_ok-piece.ensures in
    let full =
    no_room (c.loop.text.items ++ encode_utf8 c.in_ok-piece.piece) (length c.args.bytes.now)
    (c.loop.counter + 1) c.in_ok-piece.after.now c.in_err-push_char.ensures.1 in
    rw (p.1, p.2, ← c.loop.invariant, more, full, c.in_err-push_char.ensures.0) refl

pub returns-in_err-push_bytes-clause-reading : goal.returns-in_err-push_bytes-clause-reading
unfolding quoted_at
returns-in_err-push_bytes-clause-reading c =
    let p = err_from_is_err_and c.from_residual-in_err-push_bytes.result c.from_residual-in_err-push_bytes.ensures.1 in
    let more =
    piece_plain c.loop.text.items
    (length c.args.bytes.now) c.loop.counter c.in_ok-c.c c.loop.rest.now c.in_ok-c.after.now c.loop-test.true c.in_ok-c.ensures
    (search (rules, tests)) (search (rules, tests)) in
    let full =
    no_room (c.loop.text.items ++ c.in_ok-c.c ∷ []) (length c.args.bytes.now)
    (c.loop.counter + 1) c.in_ok-c.after.now c.in_err-push_bytes.ensures.1 in
    rw (p.1, p.2, ← c.loop.invariant, more, full, c.in_err-push_bytes.ensures.0) refl

pub loop-preserved : goal.loop-preserved
loop-preserved c =
    elim c.if-c-eq92.branch [
      | then-c-eq92+in_ok-piece+in_ok-push_char w ↦
          rw (w.text-is, w.rest-is, w.in_ok-push_char.ensures)
          (sym (piece_escaped c.loop.text.items
          (length c.args.bytes.now) c.loop.counter c.in_ok-c.c c.loop.rest.now c.in_ok-c.after.now
          (encode_utf8 w.in_ok-piece.piece) w.in_ok-piece.after.now c.loop-test.true c.in_ok-c.ensures
          (search (rules, tests)) (search (rules, tests)) w.in_ok-piece.ensures) ∙ c.loop.invariant)
      | else-c-eq92+in_ok-push_bytes w ↦
          rw (w.text-is, w.rest-is, w.in_ok-push_bytes.ensures)
          (sym (piece_plain c.loop.text.items
          (length c.args.bytes.now) c.loop.counter c.in_ok-c.c c.loop.rest.now c.in_ok-c.after.now c.loop-test.true c.in_ok-c.ensures
          (search (rules, tests)) (search (rules, tests))) ∙ c.loop.invariant)
    ]

pub returns-clause-reading : goal.returns-clause-reading
unfolding quoted_at
returns-clause-reading c =
    let none = piece_none c.loop.text.items (length c.args.bytes.now) c.loop.counter c.loop.rest.now c.loop-test.false in
    rw (← c.loop.invariant, none) refl
