-- Bytes that are written into a buffer piece by piece.
use Rattle.std.proofs.Common.{◌≡◌, ◌≢◌, ℕ, zero, suc, ◌+◌, ◌-◌, ◌/◌, ◌%◌, ◌^◌, ◌≤◌, false, List, [], ◌∷◌, ◌++◌, length, take, drop, refl, sym, ap, ◌∙◌, append_assoc, arith, subst}
use Rattle.std.specs.Prelude.{Bool, true, ◌==◌, if◌then◌else◌, nat_lt, pos}
use Rattle.std.proofs.lemmas.Bool.{eqb-true}
use Rattle.std.proofs.lemmas.Bool.Decides.{nat_tests}
use Rattle.byteorder.specs.Endian.{big_bytes}
use Rattle.erl_term.specs.declared.term.Pid.{Pid}
use Rattle.erl_term.specs.Canonical.{canonical_atom, canonical_big, canonical_int, canonical_pid, digits, magnitude}
use Rattle.std.proofs.lemmas.List.{length-append, drop-drop}
use Rattle.c_library.specs.Written.{IsWritten}

-- two pieces are one
pub both : (a b c : ℕ) (x y old mid new : List ℕ) → IsWritten a x old b mid → IsWritten b y mid c new → IsWritten a (x ++ y) old c new
both a b c x y old mid new p q =
    let p_stop = p.is_stop in
    let q_stop = q.is_stop in
    let size = length-append x y in
    let last : c ≡ a + length (x ++ y) = omega arith in
    record {
      is_stop = last;
      size = q.size ∙ p.size;
      front = q.front ∙ ap (λ (w : List ℕ). w ++ y) p.front ∙ append_assoc (take a old) x y;
      back = q.back ∙ ap (λ n. drop n mid) q_stop ∙ sym (drop-drop (length y) b mid) ∙ ap (drop (length y)) p.back
          ∙ drop-drop (length y) b old ∙ ap (λ n. drop n old) (sym q_stop);
    }

not_none : (xs : List ℕ) (n : ℕ) (b : Bool) → (n == 0) ≡ b → n ≢ 0 → (if b then [] else xs) ≡ xs
not_none xs n false e h = refl
not_none xs n true e h = absurd (h (eqb-true n 0 e))

-- a number that isn't 0 has a lowest digit
pub more_digits : (most fewer n : ℕ) → 1 ≤ most → fewer ≡ most - 1 → n ≢ 0 → digits most n ≡ (n % 256) ∷ digits fewer (n / 256)
more_digits zero fewer n le e h = absurd (omega arith)
more_digits (suc most) fewer n le e h =
    let same : most ≡ fewer = omega arith in
    not_none ((n % 256) ∷ digits most (n / 256)) n (n == 0) refl h ∙ ap (λ k. (n % 256) ∷ digits k (n / 256)) same

large_is : (n : ℕ) (b c : Bool) → nat_lt n 256 ≡ b → nat_lt n (2 ^ 31) ≡ c → 2 ^ 31 ≤ n
    → (if b then 97 ∷ n ∷ [] else (if c then 98 ∷ big_bytes 4 n else canonical_big 0 n)) ≡ canonical_big 0 n
large_is n false false e f le = refl
large_is n true c e f le = absurd (grind (arith, nat_tests))
large_is n false true e f le = absurd (grind (arith, nat_tests))

pub large_int : (n : ℕ) → 2 ^ 31 ≤ n → canonical_int (pos n) ≡ canonical_big 0 n
unfolding canonical_int
large_int n le = large_is n (nat_lt n 256) (nat_lt n (2 ^ 31)) refl refl le

pub big_written : (a b c len n : ℕ) (old mid new : List ℕ) → 2 ^ 31 ≤ n → len ≡ length (canonical_int (pos n))
    → IsWritten a (110 ∷ (len - 3) ∷ 0 ∷ []) old b mid → IsWritten b (digits 16 n) mid c new → IsWritten a (canonical_big 0 n) old c new
unfolding magnitude
big_written a b c len n old mid new le e p q =
    let size : len ≡ length (canonical_big 0 n) = e ∙ ap length (large_int n le) in
    let count : len - 3 ≡ length (digits 16 n) = omega arith in
    subst (λ k. IsWritten a (110 ∷ k ∷ 0 ∷ digits 16 n) old c new) count (both a b c (110 ∷ (len - 3) ∷ 0 ∷ []) (digits 16 n) old mid new p q)

pub pid_written : (a b c d e f : ℕ) (p : Pid) (old one two three four new : List ℕ) → IsWritten a (88 ∷ []) old b one
    → IsWritten b (canonical_atom p.node) one c two → IsWritten c (big_bytes 4 p.id) two d three → IsWritten d (big_bytes 4 p.serial) three e four
    → IsWritten e (big_bytes 4 p.creation) four f new → IsWritten a (canonical_pid p) old f new
unfolding canonical_pid
pid_written a b c d e f p old one two three four new v w x y z =
    both a b f (88 ∷ []) (canonical_atom p.node ++ (big_bytes 4 p.id ++ (big_bytes 4 p.serial ++ big_bytes 4 p.creation))) old one new v
    (both b c f (canonical_atom p.node) (big_bytes 4 p.id ++ (big_bytes 4 p.serial ++ big_bytes 4 p.creation)) one two new w
    (both c d f (big_bytes 4 p.id) (big_bytes 4 p.serial ++ big_bytes 4 p.creation) two three new x
    (both d e f (big_bytes 4 p.serial) (big_bytes 4 p.creation) three four new y z)))
