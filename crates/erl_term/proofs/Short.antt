-- How long canonical spellings can be.
use Rattle.std.proofs.Common.{ℕ, zero, suc, ◌-◌, ◌/◌, ◌%◌, ◌^◌, ◌≤◌, Bool, true, false, cond, ltb, eqb, List, [], ◌∷◌, ◌++◌, length, arith}
use Rattle.std.proofs.lemmas.List.{length-append}
use Rattle.std.specs.Prelude.{ℤ, pos, negsuc}
use Rattle.byteorder.specs.Endian.{big_bytes}
use Rattle.erl_term.specs.declared.term.Pid.{Pid}
use Rattle.erl_term.specs.declared.term.Reference.{Reference}
use Rattle.erl_term.specs.Text.{IsAtomText}
use Rattle.erl_term.specs.Canonical.{digits, magnitude, canonical_big, canonical_int, canonical_atom}
use Rattle.erl_term.specs.Canonical.{canonical_pid, canonical_reference, IsPidInRange, IsReferenceInRange}
use Rattle.erl_term.proofs.Lengths.{length-reference}
use Rattle.erl_term.proofs.Utf8.{atom_bytes}

digits_short : (most m : ℕ) → length (digits most m) ≤ most
digits_short zero m = omega arith
digits_short (suc most) m = by (eqb m 0) (digits_short most (m / 256))
  where
    by : (b : Bool) → length (digits most (m / 256)) ≤ most → length (cond b [] ((m % 256) ∷ digits most (m / 256))) ≤ suc most
    by true k = omega arith
    by false k = omega arith

big_short : (sign m : ℕ) → length (canonical_big sign m) ≤ 19
unfolding magnitude
big_short sign m = let k = digits_short 16 m in omega arith

pub integer_short : (z : ℤ) → length (canonical_int z) ≤ 19
unfolding canonical_int
integer_short (pos n) = by (ltb n 256) (ltb n (2 ^ 31))
  where
    by : (a b : Bool) → length (cond a (97 ∷ n ∷ []) (cond b (98 ∷ big_bytes 4 n) (canonical_big 0 n))) ≤ 19
    by true b = omega arith
    by false true = omega arith
    by false false = big_short 0 n
integer_short (negsuc n) = by (ltb n (2 ^ 31))
  where
    by : (a : Bool) → length (cond a (98 ∷ big_bytes 4 (2 ^ 32 - 1 - n)) (canonical_big 1 (suc n))) ≤ 19
    by true = omega arith
    by false = big_short 1 (suc n)

atom_short : (a : List ℕ) → IsAtomText a → length (canonical_atom a) ≤ 1023
unfolding canonical_atom
atom_short a h = by (ltb (length a) 256)
  where
    by : (b : Bool) → length (cond b (119 ∷ length a ∷ a) (118 ∷ (big_bytes 2 (length a) ++ a))) ≤ 1023
    by true = let k = atom_bytes a h in omega arith
    by false = let k = atom_bytes a h in omega (arith, length-append (big_bytes 2 (length a)) a)

pub pid_short : (p : Pid) → IsPidInRange p → length (canonical_pid p) ≤ 1036
unfolding canonical_pid
pid_short p h =
    let k = atom_short p.node h.node in
    omega (
      arith,
      length-append (canonical_atom p.node) (big_bytes 4 p.id ++ (big_bytes 4 p.serial ++ big_bytes 4 p.creation)),
      length-append (big_bytes 4 p.id) (big_bytes 4 p.serial ++ big_bytes 4 p.creation),
      length-append (big_bytes 4 p.serial) (big_bytes 4 p.creation),
    )

pub reference_short : (r : Reference) → IsReferenceInRange r → length (canonical_reference r) ≤ 1050
reference_short r h =
    let k = atom_short r.node h.node in
    let few = h.few in
    omega (arith, length-reference r)
