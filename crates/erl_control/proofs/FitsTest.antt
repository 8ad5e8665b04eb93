-- The test that a term fits, `fits`, decides whether it does, `Fits`.
use Rattle.std.proofs.lemmas.Bool.{and_from, and_parts, not-true}
use Rattle.erl_term.specs.Data.{Data, int, atom, tuple, list, improper, binary, pid, reference, Items, no_items, item, count}
use Rattle.std.proofs.Common.{◌≡◌, ℕ, zero, suc, ◌<◌, ◌≤◌, ◌^◌, true, not, ◌&&◌}
use Rattle.std.proofs.Common.{nat_lt, nat_le, List, [], ◌∷◌, length, refl, ap, arith, ◌↔◌, get_or}
use Rattle.std.specs.Prelude.{ℤ, pos, negsuc, FitsSigned, All}
use Rattle.std.specs.Int.{w128}
use Rattle.std.proofs.lemmas.List.{get_or_past}
use Rattle.std.proofs.lemmas.List.Elements.{All-nil, All-cons, All-head, All-tail}
use Rattle.std.proofs.lemmas.Str.{IsUtf8-from_ascii, chars-IsAscii}
use Rattle.std.proofs.lemmas.Str.Ascii.{IsAscii-from_all}
use Rattle.erl_term.specs.Numbers.{AreBytes}
use Rattle.erl_term.specs.Text.{IsAtomText, is_atom_text}
use Rattle.erl_term.specs.Canonical.{IsPidInRange, IsReferenceInRange, IsInRange, AreInRange, canonical, levels_of, is_list}
use Rattle.erl_term.proofs.TextReader.{IsAtomText-from, is_atom_text-from}
use Rattle.erl_control.specs.Control.{Fits}
use Rattle.erl_control.specs.Fits.{are_below, are_in_range, fits, is_in_range, is_machine_int, is_pid_in_range, is_reference_in_range}
use Rattle.erl_term.specs.declared.term.Pid.{Pid}
use Rattle.erl_term.specs.declared.term.Reference.{Reference}

below : (n m : ℕ) → nat_lt n m ≡ true → n < m
below n m h = grind arith

is_below : (n m : ℕ) → n < m → nat_lt n m ≡ true
is_below n m h = grind arith

at_most : (n m : ℕ) → nat_le n m ≡ true → n ≤ m
at_most n m h = grind arith

is_at_most : (n m : ℕ) → n ≤ m → nat_le n m ≡ true
is_at_most n m h = grind arith

int_from : (z : ℤ) → is_machine_int z ≡ true → FitsSigned w128 z
int_from (pos n) h = record { sfits = below n (2 ^ 127) h }
int_from (negsuc n) h = record { sfits = below n (2 ^ 127) h }

int_is : (z : ℤ) → FitsSigned w128 z → is_machine_int z ≡ true
int_is (pos n) h = is_below n (2 ^ 127) h.sfits
int_is (negsuc n) h = is_below n (2 ^ 127) h.sfits

pub all_from : (bound : ℕ) (ns : List ℕ) → are_below bound ns ≡ true → All (λ n. n < bound) ns
all_from bound [] h = All-nil (λ n. n < bound)
all_from bound (n ∷ ns) h =
    let v = and_parts (nat_lt n bound) (are_below bound ns) h in All-cons (λ n. n < bound) n ns (below n bound v.0) (all_from bound ns v.1)

-- a short text of ASCII can be an atom
pub ascii_text : (text : List ℕ) → are_below 128 text ≡ true → length text ≤ 255 → IsAtomText text
ascii_text text a s =
    let h = IsAscii-from_all text (all_from 128 text a) in
    record { utf8 = IsUtf8-from_ascii text h; short = omega (arith, ap length (chars-IsAscii text h), s) }

all_is : (bound : ℕ) (ns : List ℕ) → All (λ n. n < bound) ns → are_below bound ns ≡ true
all_is bound [] h = refl
all_is bound (n ∷ ns) h =
    and_from (nat_lt n bound) (are_below bound ns) (is_below n bound (All-head (λ n. n < bound) n ns h))
    (all_is bound ns (All-tail (λ n. n < bound) n ns h))

bytes_from : (ns : List ℕ) → are_below 256 ns ≡ true → AreBytes ns
bytes_from [] h i = let e : get_or {A = ℕ} [] i 0 ≡ 0 = get_or_past [] i 0 (omega arith) in omega arith
bytes_from (n ∷ ns) h zero = below n 256 (and_parts (nat_lt n 256) (are_below 256 ns) h).0
bytes_from (n ∷ ns) h (suc i) = bytes_from ns (and_parts (nat_lt n 256) (are_below 256 ns) h).1 i

bytes_is : (ns : List ℕ) → AreBytes ns → are_below 256 ns ≡ true
bytes_is [] h = refl
bytes_is (n ∷ ns) h = and_from (nat_lt n 256) (are_below 256 ns) (is_below n 256 (h 0)) (bytes_is ns (λ i. h (suc i)))

pid_from : (p : Pid) → is_pid_in_range p ≡ true → IsPidInRange p
pid_from p h =
    let v = and_parts (is_atom_text p.node) (are_below (2 ^ 32) (p.id ∷ p.serial ∷ p.creation ∷ [])) h in
    let a = and_parts (nat_lt p.id (2 ^ 32)) (are_below (2 ^ 32) (p.serial ∷ p.creation ∷ [])) v.1 in
    let b = and_parts (nat_lt p.serial (2 ^ 32)) (are_below (2 ^ 32) (p.creation ∷ [])) a.1 in
    let c = and_parts (nat_lt p.creation (2 ^ 32)) true b.1 in
    record {
      node = IsAtomText-from p.node v.0;
      id = below p.id (2 ^ 32) a.0;
      serial = below p.serial (2 ^ 32) b.0;
      creation = below p.creation (2 ^ 32) c.0;
    }

pid_is : (p : Pid) → IsPidInRange p → is_pid_in_range p ≡ true
pid_is p h = and_from _ _ (is_atom_text-from p.node h.node)
    (and_from (nat_lt p.id (2 ^ 32)) _ (is_below p.id (2 ^ 32) h.id) (and_from (nat_lt p.serial (2 ^ 32)) _
    (is_below p.serial (2 ^ 32) h.serial)
    (and_from (nat_lt p.creation (2 ^ 32)) true (is_below p.creation (2 ^ 32) h.creation) refl)))

reference_from : (r : Reference) → is_reference_in_range r ≡ true → IsReferenceInRange r
reference_from r h =
    let v =
    and_parts (is_atom_text r.node)
    (are_below (2 ^ 32) (r.creation ∷ r.words) && (nat_le 1 (length r.words) && nat_le (length r.words) 5)) h in
    let a = and_parts (are_below (2 ^ 32) (r.creation ∷ r.words)) (nat_le 1 (length r.words) && nat_le (length r.words) 5) v.1 in
    let b = and_parts (nat_lt r.creation (2 ^ 32)) (are_below (2 ^ 32) r.words) a.0 in
    let c = and_parts (nat_le 1 (length r.words)) (nat_le (length r.words) 5) a.1 in
    record {
      node = IsAtomText-from r.node v.0;
      creation = below r.creation (2 ^ 32) b.0;
      some = at_most 1 (length r.words) c.0;
      few = at_most (length r.words) 5 c.1;
      words = all_from (2 ^ 32) r.words b.1;
    }

reference_is : (r : Reference) → IsReferenceInRange r → is_reference_in_range r ≡ true
reference_is r h = and_from _ _ (is_atom_text-from r.node h.node)
    (and_from (are_below (2 ^ 32) (r.creation ∷ r.words)) _
    (and_from (nat_lt r.creation (2 ^ 32)) _ (is_below r.creation (2 ^ 32) h.creation) (all_is (2 ^ 32) r.words h.words))
    (and_from (nat_le 1 (length r.words)) _ (is_at_most 1 (length r.words) h.some) (is_at_most (length r.words) 5 h.few)))

mutual
  from : (t : Data) → is_in_range t ≡ true → IsInRange t
  from (int z) h = int_from z h
  from (atom text) h = IsAtomText-from text h
  from (tuple ts) h = let v = and_parts (nat_lt (count ts) (2 ^ 32)) (are_in_range ts) h in (below (count ts) (2 ^ 32) v.0, all_of ts v.1)
  from (list ts) h = let v = and_parts (nat_lt (count ts) (2 ^ 32)) (are_in_range ts) h in (below (count ts) (2 ^ 32) v.0, all_of ts v.1)
  from (improper ts t) h =
      let a = and_parts (nat_lt 0 (count ts)) _ h in
      let b = and_parts (nat_lt (count ts) (2 ^ 32)) _ a.1 in
      let c = and_parts (not (is_list t)) _ b.1 in
      let d = and_parts (are_in_range ts) (is_in_range t) c.1 in
      (below 0 (count ts) a.0, below (count ts) (2 ^ 32) b.0, not-true (is_list t) c.0, all_of ts d.0, from t d.1)
  from (binary bytes) h =
      let v =
      and_parts (are_below 256 bytes) (nat_lt (length bytes) (2 ^ 32)) h in (bytes_from bytes v.0, below (length bytes) (2 ^ 32) v.1)
  from (pid p) h = pid_from p h
  from (reference r) h = reference_from r h

  all_of : (ts : Items) → are_in_range ts ≡ true → AreInRange ts
  all_of no_items h = tt
  all_of (item t ts) h = let v = and_parts (is_in_range t) (are_in_range ts) h in (from t v.0, all_of ts v.1)

mutual
  is : (t : Data) → IsInRange t → is_in_range t ≡ true
  is (int z) h = int_is z h
  is (atom text) h = is_atom_text-from text h
  is (tuple ts) h = and_from (nat_lt (count ts) (2 ^ 32)) (are_in_range ts) (is_below (count ts) (2 ^ 32) h.0) (are ts h.1)
  is (list ts) h = and_from (nat_lt (count ts) (2 ^ 32)) (are_in_range ts) (is_below (count ts) (2 ^ 32) h.0) (are ts h.1)
  is (improper ts t) h = and_from (nat_lt 0 (count ts)) _ (is_below 0 (count ts) h.0)
      (and_from (nat_lt (count ts) (2 ^ 32)) _ (is_below (count ts) (2 ^ 32) h.1)
      (and_from (not (is_list t)) _ (ap not h.2) (and_from (are_in_range ts) (is_in_range t) (are ts h.3) (is t h.4))))
  is (binary bytes) h =
      and_from (are_below 256 bytes) (nat_lt (length bytes) (2 ^ 32)) (bytes_is bytes h.0) (is_below (length bytes) (2 ^ 32) h.1)
  is (pid p) h = pid_is p h
  is (reference r) h = reference_is r h

  are : (ts : Items) → AreInRange ts → are_in_range ts ≡ true
  are no_items h = refl
  are (item t ts) h = and_from (is_in_range t) (are_in_range ts) (is t h.0) (are ts h.1)

pub fits_test : (t : Data) → (fits t ≡ true) ↔ Fits t
unfolding fits
fits_test t = (
  λ h.
      let v = and_parts (is_in_range t) (nat_le (levels_of t) 60 && nat_le (length (canonical t)) 1000000) h in
      let u = and_parts (nat_le (levels_of t) 60) (nat_le (length (canonical t)) 1000000) v.1 in
      (from t v.0, at_most (levels_of t) 60 u.0, at_most (length (canonical t)) 1000000 u.1),
  λ h. and_from (is_in_range t) (nat_le (levels_of t) 60 && nat_le (length (canonical t)) 1000000) (is t h.0)
      (and_from (nat_le (levels_of t) 60) (nat_le (length (canonical t)) 1000000) (is_at_most (levels_of t) 60 h.1)
      (is_at_most (length (canonical t)) 1000000 h.2)),
)
