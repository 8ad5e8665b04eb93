use Rattle.std.proofs.Common.{rules, ◌≡◌, ◌<◌, ◌^◌, length, take, drop, sym, ap, subst, ◌∙◌, ◌++◌, append_assoc}
use Rattle.std.proofs.lemmas.List.{take-append-drop}
use Rattle.erl_term.proofs.Behind.{head_of}
use Rattle.erl_term.specs.Spelling.{SpellAll, Spells}
use Rattle.erl_control.specs.Reading.{IsRowHead, tag_of}
use Rattle.erl_control.proofs.Table.{fields_of}
use Rattle.c_library.specs.Parts.{ArePlaces}
use Rattle.c_library.specs.Places.{parts_by}
use Rattle.c_library.proofs.Rows.{frame_row, places, small_tag, drop_behind}
use Rattle.c_library.proofs.frames.row_of.Goals as goal

pub returns-in_err-head : goal.returns-in_err-head
returns-in_err-head c =
    rw c.from_residual-in_err-head.ensures (λ s i.
    let r = frame_row s c.args.frame.now i in
    let text : c.in_ok-text.text.now ≡ drop 5 c.args.frame.now = search rules in
    c.in_err-head.ensures.again (head_of r.arity r.levels, tag_of s r.payload) r.front (r.fields ++ r.message) r.is_front (text ∙ r.parts))

pub returns-in_default : goal.returns-in_default
returns-in_default c s i =
    let r = frame_row s c.args.frame.now i in
    let text : c.in_ok-text.text.now ≡ drop 5 c.args.frame.now = search rules in
    let seen = c.in_ok-head.ensures.again (head_of r.arity r.levels, tag_of s r.payload) r.front (r.fields ++ r.message) r.is_front (text ∙ r.parts) in
    let tag : c.in_ok-head.tag ≡ tag_of s r.payload = ap (λ x. x.1) seen.0 in
    let small : c.in_ok-head.tag < 2 ^ 32 = subst (λ n. n < 2 ^ 32) (sym tag) (small_tag s r.payload) in
    search rules

pub returns : goal.returns
returns c s i =
    let frame = c.args.frame.now in
    let r = frame_row s frame i in
    let text : c.in_ok-text.text.now ≡ drop 5 frame = search rules in
    let seen = c.in_ok-head.ensures.again (head_of r.arity r.levels, tag_of s r.payload) r.front (r.fields ++ r.message) r.is_front (text ∙ r.parts) in
    let tag : c.in_ok-head.tag ≡ tag_of s r.payload = ap (λ x. x.1) seen.0 in
    let levels : c.in_ok-head.head.levels ≡ r.levels = ap (λ x. x.0.levels) seen.0 in
    let operation : c.in-Ok.operation ≡ c.in_ok-head.tag = search rules in
    let taken = c.in_ok-head.ensures.takes in
    let whole : frame ≡ (take 5 frame ++ r.front) ++ c.in_ok-head.fields.now =
    sym (take-append-drop 5 frame) ∙ ap (λ w. take 5 frame ++ w) (r.parts ∙ ap (λ w. r.front ++ w) (sym seen.1))
    ∙ sym (append_assoc (take 5 frame) r.front c.in_ok-head.fields.now) in
    let start : drop c.ends_of-ends.result.start frame ≡ c.in_ok-head.fields.now =
    ap (λ n. drop n frame) c.ends_of-ends.ensures.start ∙ drop_behind frame (take 5 frame ++ r.front) c.in_ok-head.fields.now whole in
    let e = c.ends_of-ends.ensures in (
      record {
        head = c.in_ok-head.head;
        front = taken.text;
        rest = c.in_ok-head.fields.now;
        is_front = subst (λ n. IsRowHead (c.in_ok-head.head, n) taken.text) (sym operation) taken.is_text;
        parts = sym text ∙ taken.parts;
      },
      subst (ArePlaces frame s) (sym (c.parts_of.ensures ∙ ap (λ n. parts_by n c.ends_of-ends.result (length frame)) tag))
          (places c.in_ok-head.head.levels frame c.ends_of-ends.result e.first e.second e.third e.fourth r.unused s r.payload r.fields r.message
          (subst (λ n. SpellAll (Spells n) (fields_of r.unused s r.payload) r.fields) (sym levels) r.are_fields) r.told (start ∙ seen.1)),
    )
