use Rattle.std.proofs.Common.{◌≡◌, ◌+◌, ◌-◌, ◌++◌, ◌∷◌, List, ℕ, length, take, drop, get_or, inl, rules, arith, ap, ◌∙◌, length-append}
use Rattle.byteorder.specs.Endian.{big_number}
use Rattle.readers.specs.Reading.{AreBytes}
use Rattle.c_library.proofs.Seen.{own_atom, pid_of, seen_of}
use Rattle.c_library.specs.Reading.{latin_of, head_len}
use Rattle.c_library.proofs.reading.fields_at.Goals as goal

tail_of : (bytes node tail : List ℕ) → 88 ∷ bytes ≡ 88 ∷ (node ++ tail) → bytes ≡ node ++ tail
tail_of bytes node tail e = cc

pub returns-in_err-numbers : goal.returns-in_err-numbers
returns-in_err-numbers c =
    rw c.from_residual.ensures (λ p s.
    c.in_err-numbers.ensures.again p.node s.node (s.id ++ (s.serial ++ s.creation)) (inl s.is_node)
    (tail_of c.args.bytes.now s.node (s.id ++ (s.serial ++ s.creation)) s.bytes))

pub returns-then-numbers-ne12 : goal.returns-then-numbers-ne12
returns-then-numbers-ne12 c p s =
    let tail = s.id ++ (s.serial ++ s.creation) in
    let seen = c.in_ok-numbers.ensures.again p.node s.node tail (inl s.is_node) (tail_of c.args.bytes.now s.node tail s.bytes) in
    let size : length tail ≡ length s.id + (length s.serial + length s.creation) = length-append s.id (s.serial ++ s.creation) ∙ ap (λ n. length s.id + n) (length-append s.serial s.creation) in
    let a = s.is_id.len in
    let b = s.is_serial.len in
    let d = s.is_creation.len in
    c.if-numbers-ne12.true (ap length seen.1 ∙ omega arith)

pub returns : goal.returns
returns c =
    let bytes = c.args.bytes.now in
    let numbers = c.in_ok-numbers.numbers.now in
    let taken = c.in_ok-numbers.ensures.takes in
    let a = c.in_ok-numbers.field-0-0 in
    let is_atom = own_atom a taken.text taken.is_text in
    let h : AreBytes bytes = λ i. omega (arith, c.type_inv.bytes i) in
    let twelve : length numbers ≡ 12 = search rules in
    let id : c.read_u32.result ≡ big_number 4 (take 4 numbers) = search rules in
    let serial : c.read_u32-2.result ≡ big_number 4 (take 4 (drop 4 numbers)) = search rules in
    let creation : c.read_u32-3.result ≡ big_number 4 (drop 4 (drop 4 numbers)) = search rules in
    let first : c.unwrap_or.result ≡ get_or bytes 0 0 = search rules in
    let latin : c.head_of-latin1.result.0 ≡ latin_of (get_or bytes 0 0) = c.head_of-latin1.ensures.latin ∙ ap latin_of first in
    let head : c.head_of-latin1.result.1 ≡ head_len (get_or bytes 0 0) = c.head_of-latin1.ensures.length ∙ ap head_len first in
    let size : c.saturating_sub.result ≡ length bytes - 12 - c.head_of-latin1.result.1 = search rules in (
      record { node = a; creation = c.read_u32-3.result; id = c.read_u32.result; serial = c.read_u32-2.result },
      pid_of bytes taken.text numbers a h is_atom taken.parts twelve c.read_u32.result c.read_u32-2.result c.read_u32-3.result id serial creation,
      seen_of bytes taken.text numbers a h is_atom taken.parts twelve c.read_u32.result c.read_u32-2.result c.read_u32-3.result
          c.head_of-latin1.result.0 c.head_of-latin1.result.1 c.saturating_sub.result latin head size,
    )
