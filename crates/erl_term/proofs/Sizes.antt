-- What the canonical spelling of a term takes, from what its parts take.
use Rattle.erl_term.proofs.Why.{count-append}
use Rattle.std.proofs.Math.Bool.{and-true}
use Rattle.std.proofs.Common.{◌≡◌, ℕ, suc, ◌+◌, ◌^◌, ◌<◌, ◌≤◌, min, max, Bool, true, false}
use Rattle.std.proofs.Common.{ltb, List, [], ◌∷◌, length, refl, sym, ap, ◌∙◌, arith}
use Rattle.std.specs.Prelude.{ℤ, pos, ◌&&◌}
use Rattle.std.proofs.lemmas.List.{length-append}
use Rattle.std.proofs.lemmas.Bool.{false≢true, ltb-true, ltb-false, lt-ltb, le-ltb, and_left, and_right, and_from, cond-true, cond-false}
use Rattle.byteorder.specs.Endian.{big_bytes}
use Rattle.erl_term.specs.declared.size.Size.{Size}
use Rattle.erl_term.specs.declared.size.Run.{Run}
use Rattle.erl_term.specs.declared.size.Measure.{Measure}
use Rattle.erl_term.specs.declared.size.Measure.TheVariants.{Byte, Other, Proper, Improper}
use Rattle.erl_term.specs.declared.term.Pid.{Pid}
use Rattle.erl_term.specs.declared.term.Reference.{Reference}
use Rattle.erl_term.specs.Data.{Data, int, atom, tuple, list, improper, binary, pid}
use Rattle.erl_term.specs.Data.{reference, Items, no_items, item, count, append_items, joined}
use Rattle.erl_term.specs.Numbers.{AreBytes}
use Rattle.erl_term.specs.Spelling.{byte_items}
use Rattle.erl_term.specs.Canonical.{canonical_int, canonical_atom, canonical_head, canonical_pid, canonical_reference}
use Rattle.erl_term.specs.Canonical.{canonical_binary, canonical_list, bytes_of, is_byte, are_byte_items, is_string}
use Rattle.erl_term.specs.Canonical.{is_list, canonical_term, canonical_items, levels_of, most_levels}
use Rattle.erl_term.specs.Size.{capped, size_of, run_of, measure_of}
use Rattle.erl_term.proofs.Canonical.{string_count, append_levels, joined_improper, letters_count, letters_bytes}
use Rattle.erl_term.proofs.Behind.{joined_none}
use Rattle.erl_term.proofs.Lengths.{length-cells}

abbrev pub sized : ℕ → ℕ → Size
sized len levels = record { len = len; levels = levels }

abbrev pub ran : ℕ → Bool → ℕ → ℕ → Run
ran n bytes len levels = record { count = n; are_bytes = bytes; len = len; levels = levels }

pub size_is : (t : Data) (len levels : ℕ) → len ≡ capped (length (canonical_term t)) → levels ≡ capped (levels_of t)
    → sized len levels ≡ size_of t
unfolding size_of
size_is t len levels p q = ap (λ (n : ℕ). sized n levels) p ∙ ap (sized (capped (length (canonical_term t)))) q

pub run_is : (ts : Items) (n : ℕ) (b : Bool) (len levels : ℕ) → n ≡ capped (count ts) → b ≡ are_byte_items ts
    → len ≡ capped (length (canonical_items ts)) → levels ≡ capped (most_levels ts) → ran n b len levels ≡ run_of ts
unfolding run_of
run_is ts n b len levels p q r s =
    ap (λ (k : ℕ). ran k b len levels) p ∙ ap (λ (c : Bool). ran (capped (count ts)) c len levels) q
    ∙ ap (λ (k : ℕ). ran (capped (count ts)) (are_byte_items ts) k levels) r
    ∙ ap (ran (capped (count ts)) (are_byte_items ts) (capped (length (canonical_items ts)))) s

-- the fields
pub record SizeOf (t : Data) (s : Size) : Type 0 where
  pub len : s.len ≡ capped (length (canonical_term t))
  pub levels : s.levels ≡ capped (levels_of t)

pub size_parts : (t : Data) (s : Size) → s ≡ size_of t → SizeOf t s
unfolding size_of
size_parts t s e = record { len = ap (λ (x : Size). x.len) e; levels = ap (λ (x : Size). x.levels) e }

pub record RunOf (ts : Items) (r : Run) : Type 0 where
  pub count_is : r.count ≡ capped (count ts)
  pub are_bytes : r.are_bytes ≡ are_byte_items ts
  pub len : r.len ≡ capped (length (canonical_items ts))
  pub levels : r.levels ≡ capped (most_levels ts)

pub run_parts : (ts : Items) (r : Run) → r ≡ run_of ts → RunOf ts r
unfolding run_of
run_parts ts r e = record {
  count_is = ap (λ (x : Run). x.count) e;
  are_bytes = ap (λ (x : Run). x.are_bytes) e;
  len = ap (λ (x : Run). x.len) e;
  levels = ap (λ (x : Run). x.levels) e;
}

-- ---- which measure a term has

pub data Kind (t : Data) : Type 0 where
  a_byte : is_byte t ≡ true → is_list t ≡ false → measure_of t ≡ Byte → Kind t
  no_list : is_byte t ≡ false → is_list t ≡ false → measure_of t ≡ Other (size_of t) → Kind t
  proper : (ts : Items) → t ≡ list ts → measure_of t ≡ Proper (run_of ts) → Kind t
  with_tail : (ts : Items) (u : Data) → t ≡ improper ts u → measure_of t ≡ Improper (run_of ts) (size_of u) → Kind t

int_kind : (z : ℤ) (b : Bool) → is_byte (int z) ≡ b → Kind (int z)
unfolding measure_of
int_kind z true e = a_byte e refl (cond-true (is_byte (int z)) Byte (Other (size_of (int z))) e)
int_kind z false e = no_list e refl (cond-false (is_byte (int z)) Byte (Other (size_of (int z))) e)

pub kind_of : (t : Data) → Kind t
unfolding measure_of
kind_of (int z) = int_kind z (is_byte (int z)) refl
kind_of (list ts) = proper ts refl refl
kind_of (improper ts t) = with_tail ts t refl refl
kind_of t = no_list refl refl refl

-- ---- terms that hold no other

pub byte_measure : (z : ℤ) → is_byte (int z) ≡ true → Byte ≡ measure_of (int z)
unfolding measure_of
byte_measure z e = sym (cond-true (is_byte (int z)) Byte (Other (size_of (int z))) e)

pub integer_measure : (z : ℤ) (len : ℕ) → is_byte (int z) ≡ false → len ≡ length (canonical_int z) → len ≤ 19
    → Other (sized len 1) ≡ measure_of (int z)
unfolding measure_of
integer_measure z len e p le =
    ap Other (size_is (int z) len 1 (omega arith) refl) ∙ sym (cond-false (is_byte (int z)) Byte (Other (size_of (int z))) e)

pub atom_measure : (a : List ℕ) (len : ℕ) → len ≡ length (canonical_atom a) → len ≤ 1023 → Other (sized len 1) ≡ measure_of (atom a)
unfolding measure_of
atom_measure a len p le = ap Other (size_is (atom a) len 1 (omega arith) refl)

pub pid_measure : (p : Pid) (len : ℕ) → len ≡ length (canonical_pid p) → len ≤ 1036 → Other (sized len 1) ≡ measure_of (pid p)
unfolding measure_of
pid_measure p len e le = ap Other (size_is (pid p) len 1 (omega arith) refl)

pub reference_measure : (r : Reference) (len : ℕ) → len ≡ length (canonical_reference r) → len ≤ 1050
    → Other (sized len 1) ≡ measure_of (reference r)
unfolding measure_of
reference_measure r len e le = ap Other (size_is (reference r) len 1 (omega arith) refl)

length-binary : (a : List ℕ) → length (canonical_binary a) ≡ length a + 5
unfolding canonical_binary
length-binary a = let e = length-append (big_bytes 4 (length a)) a in omega arith

pub binary_measure : (a : List ℕ) (len : ℕ) → len ≡ capped (length a + 5) → Other (sized len 1) ≡ measure_of (binary a)
unfolding measure_of
binary_measure a len e = let n = length-binary a in ap Other (size_is (binary a) len 1 (omega arith) refl)

-- ---- integers of bytes

byte_len : (b : ℕ) → b < 256 → length (canonical_int (pos b)) ≡ 2
unfolding canonical_int
byte_len b lt = let e = lt-ltb b 256 lt in rw e refl

bytes_len : (bytes : List ℕ) → AreBytes bytes → length (canonical_items (byte_items bytes)) ≡ length bytes + length bytes
bytes_len [] h = refl
bytes_len (b ∷ bytes) h =
    let one = byte_len b (h 0) in
    let more = bytes_len bytes (λ i. h (suc i)) in
    let both = length-append (canonical_int (pos b)) (canonical_items (byte_items bytes)) in
    omega arith

bytes_levels : (bytes : List ℕ) → most_levels (byte_items bytes) ≡ min (length bytes) 1
bytes_levels [] = refl
bytes_levels (b ∷ bytes) = let e = bytes_levels bytes in omega arith

pub bytes_measure : (bytes : List ℕ) (len levels : ℕ) → AreBytes bytes → length bytes < 2 ^ 64
    → len ≡ capped (length bytes + length bytes) → levels ≡ min (length bytes) 1
    → Proper (ran (length bytes) true len levels) ≡ measure_of (list (byte_items bytes))
unfolding measure_of
bytes_measure bytes len levels h lt e l =
    let c = letters_count bytes in
    let n = bytes_len bytes h in
    let k = bytes_levels bytes in
    ap Proper
    (run_is (byte_items bytes) (length bytes) true len levels (omega arith) (sym (letters_bytes bytes h)) (omega arith) (omega arith))

-- ---- runs of items

pub no_run : ran 0 true 0 0 ≡ run_of no_items
unfolding run_of
no_run = refl

append_len : (ts us : Items) → length (canonical_items (append_items ts us)) ≡ length (canonical_items ts) + length (canonical_items us)
append_len no_items us = omega arith
append_len (item t ts) us =
    let e = append_len ts us in
    let a = length-append (canonical_term t) (canonical_items (append_items ts us)) in
    let b = length-append (canonical_term t) (canonical_items ts) in
    omega arith

and_assoc : (a b c : Bool) → ((a && b) && c) ≡ (a && (b && c))
and_assoc true b c = refl
and_assoc false b c = refl

append_bytes : (ts us : Items) → are_byte_items (append_items ts us) ≡ (are_byte_items ts && are_byte_items us)
append_bytes no_items us = refl
append_bytes (item t ts) us =
    ap (λ (b : Bool). is_byte t && b) (append_bytes ts us) ∙ sym (and_assoc (is_byte t) (are_byte_items ts) (are_byte_items us))

pub then_run : (ts us : Items) (r s : Run) (n : ℕ) (b : Bool) (len levels : ℕ) → r ≡ run_of ts → s ≡ run_of us
    → n ≡ capped (r.count + s.count) → b ≡ (r.are_bytes && s.are_bytes) → len ≡ capped (r.len + s.len)
    → levels ≡ max r.levels s.levels → ran n b len levels ≡ run_of (append_items ts us)
then_run ts us r s n b len levels p q e f g h =
    let x = run_parts ts r p in
    let y = run_parts us s q in
    let x0 = x.count_is in
    let y0 = y.count_is in
    let x1 = x.len in
    let y1 = y.len in
    let x2 = x.levels in
    let y2 = y.levels in
    let c = count-append ts us in
    let l = append_len ts us in
    let k = append_levels ts us in
    run_is (append_items ts us) n b len levels (omega arith)
    (f ∙ ap (λ (a : Bool). a && s.are_bytes) x.are_bytes ∙ ap (λ (a : Bool). are_byte_items ts && a) y.are_bytes ∙ sym (append_bytes ts us))
    (omega arith) (omega arith)

pub alone_run : (t : Data) (s : Size) (b : Bool) → s ≡ size_of t → b ≡ is_byte t → ran 1 b s.len s.levels ≡ run_of (item t no_items)
alone_run t s b e f =
    let x = size_parts t s e in
    let l = x.len in
    let k = x.levels in
    let a = length-append (canonical_term t) [] in
    run_is (item t no_items) 1 b s.len s.levels refl (f ∙ sym (and-true (is_byte t))) (omega arith) (omega arith)

-- ---- the tuple of items

capped_head : (n : ℕ) → length (canonical_head (capped n)) ≡ length (canonical_head n)
unfolding canonical_head
capped_head n = by (ltb n 256) refl
  where
    by : (b : Bool) → ltb n 256 ≡ b → length (canonical_head (capped n)) ≡ length (canonical_head n)
    by true e = let lt = ltb-true n 256 e in let f = lt-ltb (capped n) 256 (omega arith) in rw (e, f) refl
    by false e = let le = ltb-false n 256 e in let f = le-ltb (capped n) 256 (omega arith) in rw (e, f) refl

pub tuple_measure : (ts : Items) (r : Run) (len levels : ℕ) → r ≡ run_of ts
    → len ≡ capped (r.len + length (canonical_head r.count)) → levels ≡ capped (r.levels + 1)
    → Other (sized len levels) ≡ measure_of (tuple ts)
unfolding measure_of
tuple_measure ts r len levels e p q =
    let x = run_parts ts r e in
    let l = x.len in
    let k = x.levels in
    let h : length (canonical_head r.count) ≡ length (canonical_head (count ts)) =
    ap (λ (n : ℕ). length (canonical_head n)) x.count_is ∙ capped_head (count ts) in
    let a = length-append (canonical_head (count ts)) (canonical_items ts) in
    ap Other (size_is (tuple ts) len levels (omega arith) (omega arith))

-- ---- lists

pub improper_size : (ts : Items) (t : Data) (r : Run) (s : Size) (len levels : ℕ) → r ≡ run_of ts → s ≡ size_of t
    → len ≡ capped (capped (r.len + s.len) + 5) → levels ≡ capped (max r.levels s.levels + 1)
    → sized len levels ≡ size_of (improper ts t)
improper_size ts t r s len levels e f p q =
    let x = run_parts ts r e in
    let y = size_parts t s f in
    let x1 = x.len in
    let x2 = x.levels in
    let y1 = y.len in
    let y2 = y.levels in
    let a = length-cells (count ts) (canonical_items ts) (canonical_term t) in
    size_is (improper ts t) len levels (omega arith) (omega arith)

pub empty_size : (ts : Items) (r : Run) → r ≡ run_of ts → r.count ≡ 0 → sized 1 1 ≡ size_of (list ts)
unfolding canonical_list
empty_size no_items r e z = size_is (list no_items) 1 1 refl refl
empty_size (item t ts) r e z = absurd (let x = run_parts (item t ts) r e in let n = x.count_is in omega arith)

string_len : (ts : Items) (elements : List ℕ) → 0 < count ts → is_string ts ≡ true → length (canonical_list ts elements) ≡ count ts + 3
unfolding canonical_list
string_len no_items elements some e = absurd (omega arith)
string_len (item t ts) elements some e =
    let a = length-append (big_bytes 2 (count (item t ts))) (bytes_of (item t ts)) in
    let n = string_count (item t ts) in
    rw e (omega arith)

cells_len : (ts : Items) (elements : List ℕ) → 0 < count ts → is_string ts ≡ false
    → length (canonical_list ts elements) ≡ length elements + 6
unfolding canonical_list
cells_len no_items elements some e = absurd (omega arith)
cells_len (item t ts) elements some e = let a = length-cells (count (item t ts)) elements (106 ∷ []) in rw e (omega arith)

pub string_size : (ts : Items) (r : Run) → r ≡ run_of ts → 0 < r.count → r.are_bytes ≡ true → r.count < 65536
    → sized (r.count + 3) 1 ≡ size_of (list ts)
string_size ts r e some p lt =
    let x = run_parts ts r e in
    let n = x.count_is in
    let q : is_string ts ≡ true =
    and_from (are_byte_items ts) (ltb (count ts) (2 ^ 16)) (sym x.are_bytes ∙ p) (lt-ltb (count ts) (2 ^ 16) (omega arith)) in
    let l = string_len ts (canonical_items ts) (omega arith) q in
    let k : levels_of (list ts) ≡ 1 = cond-true (is_string ts) 1 (suc (most_levels ts)) q in
    size_is (list ts) (r.count + 3) 1 (omega arith) (omega arith)

cells_size : (ts : Items) (r : Run) (len levels : ℕ) → r ≡ run_of ts → 0 < r.count → is_string ts ≡ false
    → len ≡ capped (r.len + 6) → levels ≡ capped (r.levels + 1) → sized len levels ≡ size_of (list ts)
cells_size ts r len levels e some q f g =
    let x = run_parts ts r e in
    let n = x.count_is in
    let x1 = x.len in
    let x2 = x.levels in
    let l = cells_len ts (canonical_items ts) (omega arith) q in
    let k : levels_of (list ts) ≡ suc (most_levels ts) = cond-false (is_string ts) 1 (suc (most_levels ts)) q in
    size_is (list ts) len levels (omega arith) (omega arith)

pub other_items_size : (ts : Items) (r : Run) (len levels : ℕ) → r ≡ run_of ts → 0 < r.count → r.are_bytes ≡ false
    → len ≡ capped (r.len + 6) → levels ≡ capped (r.levels + 1) → sized len levels ≡ size_of (list ts)
other_items_size ts r len levels e some p f g =
    let x = run_parts ts r e in
    cells_size ts r len levels e some (and_left (are_byte_items ts) (ltb (count ts) (2 ^ 16)) (sym x.are_bytes ∙ p)) f g

pub many_items_size : (ts : Items) (r : Run) (len levels : ℕ) → r ≡ run_of ts → 65536 ≤ r.count → len ≡ capped (r.len + 6)
    → levels ≡ capped (r.levels + 1) → sized len levels ≡ size_of (list ts)
many_items_size ts r len levels e le f g =
    let x = run_parts ts r e in
    let n = x.count_is in
    cells_size ts r len levels e (omega arith)
    (and_right (are_byte_items ts) (ltb (count ts) (2 ^ 16)) (le-ltb (count ts) (2 ^ 16) (omega arith))) f g

-- ---- what a term takes by its measure

byte_takes : (t : Data) → is_byte t ≡ true → sized 2 1 ≡ size_of t
byte_takes (int (pos n)) e = let l = byte_len n (ltb-true n 256 e) in size_is (int (pos n)) 2 1 (omega arith) refl
byte_takes t e = absurd (false≢true e)

pub size_byte : (t : Data) (m : Measure) → m ≡ measure_of t → m ≡ Byte → (sized 2 1 ≡ size_of t) × (is_byte t ≡ true)
size_byte t m e f =
    elim (kind_of t) [
      | a_byte b l k ↦ (byte_takes t b, b)
      | no_list b l k ↦ absurd (let q = sym f ∙ e ∙ k in cc)
      | proper ts s k ↦ absurd (let q = sym f ∙ e ∙ k in cc)
      | with_tail ts u s k ↦ absurd (let q = sym f ∙ e ∙ k in cc)
    ]

pub size_other : (t : Data) (m : Measure) (s : Size) → m ≡ measure_of t → m ≡ Other s → s ≡ size_of t
size_other t m s e f =
    elim (kind_of t) [
      | a_byte b l k ↦ absurd (let q = sym f ∙ e ∙ k in cc)
      | no_list b l k ↦ let q = sym f ∙ e ∙ k in cc
      | proper ts p k ↦ absurd (let q = sym f ∙ e ∙ k in cc)
      | with_tail ts u p k ↦ absurd (let q = sym f ∙ e ∙ k in cc)
    ]

-- which list has this measure
pub size_proper : (t : Data) (m : Measure) (r : Run) → m ≡ measure_of t → m ≡ Proper r → (ts : Items) × (t ≡ list ts) × (r ≡ run_of ts)
size_proper t m r e f =
    elim (kind_of t) [
      | a_byte b l k ↦ absurd (let q = sym f ∙ e ∙ k in cc)
      | no_list b l k ↦ absurd (let q = sym f ∙ e ∙ k in cc)
      | proper ts p k ↦ (ts, p, let q = sym f ∙ e ∙ k in cc)
      | with_tail ts u p k ↦ absurd (let q = sym f ∙ e ∙ k in cc)
    ]

pub size_improper : (t : Data) (m : Measure) (r : Run) (s : Size) → m ≡ measure_of t → m ≡ Improper r s → (ts : Items)
    × (u : Data) × (t ≡ improper ts u) × (r ≡ run_of ts) × (s ≡ size_of u)
size_improper t m r s e f =
    elim (kind_of t) [
      | a_byte b l k ↦ absurd (let q = sym f ∙ e ∙ k in cc)
      | no_list b l k ↦ absurd (let q = sym f ∙ e ∙ k in cc)
      | proper ts p k ↦ absurd (let q = sym f ∙ e ∙ k in cc)
      | with_tail ts u p k ↦ (ts, u, p, (let q = sym f ∙ e ∙ k in cc), (let q = sym f ∙ e ∙ k in cc))
    ]

-- and no other measure is one of a byte
pub no_byte : (t : Data) (m : Measure) → m ≡ measure_of t → (m ≡ Byte → ⊥) → is_byte t ≡ false
no_byte t m e never =
    elim (kind_of t) [
      | a_byte b l k ↦ absurd (never (e ∙ k))
      | no_list b l k ↦ b
      | proper ts p k ↦ ap is_byte p
      | with_tail ts u p k ↦ ap is_byte p
    ]

-- ---- items with a tail behind them

pub join_proper : (ts : Items) (t : Data) (r more all : Run) (m : Measure) → r ≡ run_of ts → m ≡ measure_of t
    → m ≡ Proper more → ((us : Items) → more ≡ run_of us → all ≡ run_of (append_items ts us))
    → Proper all ≡ measure_of (joined ts t)
unfolding measure_of
join_proper ts t r more all m e f g then =
    let p = size_proper t m more f g in
    ap Proper (then p.0 p.2) ∙ ap (λ (u : Data). measure_of (joined ts u)) (sym p.1)

pub join_improper : (ts : Items) (t : Data) (r more all : Run) (s : Size) (m : Measure) → r ≡ run_of ts → m ≡ measure_of t
    → m ≡ Improper more s → ((us : Items) → more ≡ run_of us → all ≡ run_of (append_items ts us))
    → Improper all s ≡ measure_of (joined ts t)
unfolding measure_of
join_improper ts t r more all s m e f g then =
    let p = size_improper t m more s f g in
    ap (λ (x : Run). Improper x s) (then p.0 p.3) ∙ ap (Improper (run_of (append_items ts p.0))) p.4
    ∙ ap (λ (u : Data). measure_of (joined ts u)) (sym p.2)

pub join_alone : (ts : Items) (t : Data) (r : Run) (m : Measure) → r ≡ run_of ts → m ≡ measure_of t → r.count ≡ 0
    → is_list t ≡ false → m ≡ measure_of (joined ts t)
join_alone no_items t r m e f z l = f ∙ ap measure_of (sym (joined_none t))
join_alone (item u ts) t r m e f z l = absurd (let x = run_parts (item u ts) r e in let n = x.count_is in omega arith)

pub join_behind : (ts : Items) (t : Data) (r : Run) (s : Size) → r ≡ run_of ts → s ≡ size_of t → 0 < r.count
    → is_list t ≡ false → Improper r s ≡ measure_of (joined ts t)
unfolding measure_of
join_behind ts t r s e f some l =
    let x = run_parts ts r e in
    let n = x.count_is in
    ap (λ (y : Run). Improper y s) e ∙ ap (Improper (run_of ts)) f ∙ ap measure_of (sym (joined_improper ts t (omega arith) l))

pub not_list : (t : Data) (m : Measure) → m ≡ measure_of t → ((r : Run) → m ≡ Proper r → ⊥)
    → ((r : Run) (s : Size) → m ≡ Improper r s → ⊥) → is_list t ≡ false
not_list t m e proper_not improper_not =
    elim (kind_of t) [
      | a_byte b l k ↦ l
      | no_list b l k ↦ l
      | proper ts p k ↦ absurd (proper_not (run_of ts) (e ∙ k))
      | with_tail ts u p k ↦ absurd (improper_not (run_of ts) (size_of u) (e ∙ k))
    ]
