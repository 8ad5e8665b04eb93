use Rattle.std.proofs.Common.{◌≡◌, length, Ok, Some, rules}
use Rattle.erl_term.specs.declared.refusal.Refusal.{Refusal}
use Rattle.item_texts.proofs.WholeItem.{no_message, refused, shorter}
use Rattle.item_texts.proofs.reading.read_message.Goals as goal

pub returns-else-taken-bytes : goal.returns-else-taken-bytes
returns-else-taken-bytes c = λ b.
    let bytes = c.args.bytes.now in
    let is : c.read.result ≡ Ok (Some (c.in-Ok-Some.message, c.in-Ok-Some.taken)) = search rules in
    no_message c.reader_in.result bytes c.read.result c.reader_in.ensures b c.read.ensures.only
    (shorter c.read.result c.in-Ok-Some.message c.in-Ok-Some.taken (length bytes) Refusal.OutOfMemory is c.if-taken-bytes.false)

pub returns-in-Err-2 : goal.returns-in-Err-2
returns-in-Err-2 c = λ b.
    let other : c.in-Err.why ≡ Refusal.OutOfMemory → ⊥ = search rules in
    no_message c.reader_in.result c.args.bytes.now c.read.result c.reader_in.ensures b c.read.ensures.only
    (refused c.read.result c.in-Err.why (length c.args.bytes.now) Refusal.OutOfMemory c.in-Err.is other)
