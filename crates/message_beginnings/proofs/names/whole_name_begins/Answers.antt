use Rattle.std.proofs.Common.{◌≡◌, ◌+◌, ◌∙◌, false, sym, arith, None, Some, position}
use Rattle.std.proofs.lemmas.Bool.{ltb-true, lt-ltb, leb-true}
use Rattle.erl_names.proofs.Names.{is_at}
use Rattle.message_beginnings.proofs.Completion.{open_begins, parted_begins, begun_open, begun_parted, clash}
use Rattle.message_beginnings.proofs.names.whole_name_begins.Goals as goal
use Rattle.message_beginnings.proofs.names.whole_name_begins.Goals.{then-at-gt0, else-at-gt0, then-at-len, else-at-len}

pub returns-then-are_name_bytes : goal.returns-then-are_name_bytes
returns-then-are_name_bytes c =
    let len = c.args.len in
    let text = c.args.text.now in
    let q = c.requires in
    let at = c.in-Some.at in
    let e : Some at ≡ position is_at text = sym c.in-Some.is ∙ c.first_at.ensures in
    elim c.if-at-len.branch [
      | then-at-len w ↦
          elim c.if-at-gt0.branch [
            | then-at-gt0 v ↦ (
              λ r. parted_begins len at text q.long q.short q.within e
                  (record {
                    name_there = v.if-at-gt0.true;
                    host_room = ltb-true (at + 1) len (sym v.value-is ∙ w.if-at-len.true);
                    are_name = w.are_name_bytes.ensures.0 (sym w.value-is ∙ c.if-are_name_bytes.true);
                    are_host = c.are_host_bytes.ensures.0 r;
                  }),
              λ b. c.are_host_bytes.ensures.1 (begun_parted len at text e b).are_host,
            )
            | else-at-gt0 v ↦ absurd (let y = ltb-true 0 at (sym v.value-is ∙ w.if-at-len.true) in let n = v.if-at-gt0.false in omega arith)
          ]
      | else-at-len w ↦ absurd (clash _ c.if-are_name_bytes.true (w.value-is ∙ w.if-at-len.false))
    ]

pub returns-else-are_name_bytes : goal.returns-else-are_name_bytes
returns-else-are_name_bytes c =
    let len = c.args.len in
    let text = c.args.text.now in
    let at = c.in-Some.at in
    let e : Some at ≡ position is_at text = sym c.in-Some.is ∙ c.first_at.ensures in
    let no : c.if-at-len.value ≡ false = c.if-are_name_bytes.false in (
      λ r. absurd (clash _ r no),
      λ b.
          let p = begun_parted len at text e b in
          absurd
          (elim c.if-at-len.branch [
            | then-at-len w ↦ clash _ (w.are_name_bytes.ensures.1 p.are_name) (sym w.value-is ∙ no)
            | else-at-len w ↦
                elim c.if-at-gt0.branch [
                  | then-at-gt0 v ↦ clash _ (v.value-is ∙ lt-ltb (at + 1) len p.host_room) w.if-at-len.false
                  | else-at-gt0 v ↦ let y = p.name_there in let n = v.if-at-gt0.false in omega arith
                ]
          ]),
    )

pub returns-then-text-len : goal.returns-then-text-len
returns-then-text-len c =
    let len = c.args.len in
    let text = c.args.text.now in
    let q = c.requires in
    let e : None ≡ position is_at text = sym c.in-None.is ∙ c.first_at.ensures in
    let a = c.are_name_bytes-then-text-len.ensures in (
      λ r. open_begins len text q.long q.short (record { are_name = a.0 r; room = c.if-text-len.true }),
      λ b. a.1 (begun_open len text e b).are_name,
    )

pub returns-else-text-len : goal.returns-else-text-len
returns-else-text-len c =
    let len = c.args.len in
    let text = c.args.text.now in
    let e : None ≡ position is_at text = sym c.in-None.is ∙ c.first_at.ensures in
    let low = c.if-text-len.false in (
      λ r. absurd (let y = leb-true _ _ r in omega arith),
      λ b. absurd (let y = (begun_open len text e b).room in omega arith),
    )
