use Rattle.std.proofs.Common.{◌∙◌, sym}
use Rattle.message_beginnings.proofs.Completion.{clash}
use Rattle.message_beginnings.proofs.Sized.{letter_n, letter_s, letter_r, letter_a, has_letter, no_letter}
use Rattle.message_beginnings.proofs.lengths.is_body_length.Goals as goal
use Rattle.message_beginnings.proofs.lengths.is_body_length.Goals.{then-letter_begins_of, else-letter_begins_of, then-letter_begins_of-2, else-letter_begins_of-2}

pub returns-else-letter_begins_of-3 : goal.returns-else-letter_begins_of-3
returns-else-letter_begins_of-3 c =
    let role = c.args.role in
    let len = c.args.len in
    let last = c.letter_begins_of-else-letter_begins_of-3.ensures in
    let none = c.if-letter_begins_of-3.false in (
      λ r. no_letter role len 97 (last.0 r),
      λ b.
          elim c.if-letter_begins_of-2.branch [
            | then-letter_begins_of-2 w ↦ absurd (clash _ (w.value-is ∙ w.if-letter_begins_of-2.true) none)
            | else-letter_begins_of-2 w ↦
                elim c.if-letter_begins_of.branch [
                  | then-letter_begins_of v ↦ absurd (clash _ (v.value-is ∙ v.if-letter_begins_of.true) w.if-letter_begins_of-2.false)
                  | else-letter_begins_of v ↦
                      elim (has_letter role len b) [
                        | letter_n x ↦ absurd (clash _ (c.letter_begins_of.ensures.1 x) v.if-letter_begins_of.false)
                        | letter_s x ↦
                            absurd (clash _ (v.letter_begins_of-else-letter_begins_of.ensures.1 x) (sym v.value-is ∙ w.if-letter_begins_of-2.false))
                        | letter_r x ↦ absurd (clash _ (w.letter_begins_of-else-letter_begins_of-2.ensures.1 x) (sym w.value-is ∙ none))
                        | letter_a x ↦ last.1 x
                      ]
                ]
          ],
    )
