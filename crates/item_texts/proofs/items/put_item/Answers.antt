use Rattle.std.proofs.Common.{◌≡◌, ◌++◌, OnOk, Some, rules, string_bytes, subst, sym}
use Rattle.item_texts.specs.Reading.{IsRead, read_of}
use Rattle.item_texts.specs.Words.{read_text}
use Rattle.item_texts.specs.declared.reading.ReadItem.{ReadItem}
use Rattle.item_texts.proofs.items.put_item.Goals as goal

pub returns-in-Some : goal.returns-in-Some
returns-in-Some c = λ item s b.
    let bytes = c.args.bytes.now in
    let is : IsRead bytes (Some c.in-Some.item) = search rules in
    let sent : IsRead bytes (Some (read_of item)) =
    subst (λ bs. IsRead bs (Some (read_of item))) (sym b) (c.one_item.ensures.sent item s) in
    let same : Some c.in-Some.item ≡ Some (read_of item) =
    c.one_item.ensures.once bytes (Some c.in-Some.item) (Some (read_of item)) is sent in
    let one : c.in-Some.item ≡ read_of item = cc in
    subst (λ (it : ReadItem). OnOk c.put_read.result (string_bytes c.put_read.new.out ≡ string_bytes c.args.out.now ++ read_text it)) one
    c.put_read.ensures
