-- The canonical spelling of a value is a spelling of it, of exactly its levels.
use Rattle.std.proofs.Common.{◌≡◌, ℕ, zero, suc, ◌+◌, ◌-◌, ◌*◌, ◌/◌, ◌%◌, ◌^◌, ◌<◌, ◌≤◌, max, Bool, true, false, ltb}
use Rattle.std.proofs.Common.{eqb, List, [], ◌∷◌, ◌++◌, length, All, refl, sym, ap, ◌∙◌, subst, arith, ◌⊎◌, inl, inr}
use Rattle.std.specs.Prelude.{ℤ, pos, negsuc, FitsSigned}
use Rattle.std.specs.Int.{w32, w128, cast_signed, cast_unsigned, byte_at}
use Rattle.std.proofs.lemmas.Int.{ints, to_z_pos, to_z-of_z}
use Rattle.std.proofs.Math.Nat.{pow-succ'}
use Rattle.std.proofs.lemmas.Bool.{ltb-true, lt-ltb, eqb-true, and_parts, and_from, cond-true}
use Rattle.std.proofs.lemmas.List.Elements.{All-head, All-tail}
use Rattle.std.proofs.lemmas.List.Concat.{flat_map-cons}
use Rattle.byteorder.specs.Endian.{big_bytes, big_number, little_from}
use Rattle.erl_term.specs.declared.term.Pid.{Pid}
use Rattle.erl_term.specs.declared.term.Reference.{Reference}
use Rattle.erl_term.specs.Data.{Data, int, atom, tuple, list, improper, binary, pid}
use Rattle.erl_term.specs.Data.{reference, Items, no_items, item, count, append_items, joined}
use Rattle.erl_term.specs.Numbers.{AreBytes, low_first, signed}
use Rattle.erl_term.specs.Text.{IsAtomText}
use Rattle.erl_term.specs.Spelling.{IsNumber, IsSmallInteger, IsInteger, IsSmallBig, SpellsAtom, SpellAll, IsTuple, IsString}
use Rattle.erl_term.specs.Spelling.{IsList, IsBinary, IsPid, IsReference, AreWords, byte_items, SpellsBy, Spells, IsSpelling}
use Rattle.erl_term.specs.Canonical.{digits, magnitude, canonical_big, canonical_int, canonical_atom, canonical_head, canonical_pid}
use Rattle.erl_term.specs.Canonical.{canonical_reference, canonical_binary, canonical_cells, canonical_list, words_text, is_byte}
use Rattle.erl_term.specs.Canonical.{byte_of, are_byte_items, bytes_of, is_string, is_list, canonical_term, canonical_items}
use Rattle.erl_term.specs.Canonical.{canonical, levels_of, most_levels, IsPidInRange, IsReferenceInRange, IsInRange, AreInRange}
use Rattle.erl_term.proofs.Readers.{AreBytes-nil}
use Rattle.erl_term.proofs.Bytes.{byte_number}
use Rattle.erl_term.proofs.Utf8.{atom_bytes}

-- ---- numbers

pub AreBytes-cons : (b : ℕ) (bs : List ℕ) → b < 256 → AreBytes bs → AreBytes (b ∷ bs)
AreBytes-cons b bs lt h zero = lt
AreBytes-cons b bs lt h (suc i) = h i

pub byte_low : (k x : ℕ) → byte_at k x < 256
byte_low zero x = omega arith
byte_low (suc k) x = omega arith

pub high_bytes : (n x : ℕ) → AreBytes (big_bytes n x)
high_bytes zero x = AreBytes-nil
high_bytes (suc k) x = AreBytes-cons (byte_at k x) (big_bytes k x) (byte_low k x) (high_bytes k x)

pub four_bytes : (x : ℕ) → x < 2 ^ 32 → IsNumber 4 x (big_bytes 4 x)
four_bytes x lt = record { len = refl; bytes = high_bytes 4 x; says = omega arith }

two_bytes : (x : ℕ) → x < 2 ^ 16 → IsNumber 2 x (big_bytes 2 x)
two_bytes x lt = record { len = refl; bytes = high_bytes 2 x; says = omega arith }

little_from-cons : (b : ℕ) (bs : List ℕ) (i n : ℕ) → little_from (suc i) n (b ∷ bs) ≡ little_from i n bs
little_from-cons b bs i zero = refl
little_from-cons b bs i (suc n) = let e = little_from-cons b bs (suc i) n in rw e refl

low_first-cons : (b : ℕ) (bs : List ℕ) → low_first (b ∷ bs) ≡ b + 256 * low_first bs
low_first-cons b bs = let e = little_from-cons b bs 0 (length bs) in rw e refl

-- the digits of a number say it
pub record SayDigits (most m : ℕ) (b : List ℕ) : Type 0 where
  pub says : low_first b ≡ m
  pub bytes : AreBytes b
  pub short : length b ≤ most

digits_by : (most m : ℕ) (b : Bool) → eqb m 0 ≡ b → SayDigits most (m / 256) (digits most (m / 256))
    → SayDigits (suc most) m (digits (suc most) m)
digits_by most m true e r = rw e (record { says = sym (eqb-true m 0 e); bytes = AreBytes-nil; short = omega arith })
digits_by most m false e r =
    let s = r.says in
    let l = r.short in
    rw e (record {
      says = low_first-cons (m % 256) (digits most (m / 256)) ∙ omega arith;
      bytes = AreBytes-cons (m % 256) (digits most (m / 256)) (omega arith) r.bytes;
      short = omega arith;
    })

digits_say : (most m : ℕ) → m < 256 ^ most → SayDigits most m (digits most m)
digits_say zero m lt = record { says = omega arith; bytes = AreBytes-nil; short = omega arith }
digits_say (suc most) m lt =
    digits_by most m _ refl (digits_say most (m / 256) (let p : 256 ^ suc most ≡ 256 * 256 ^ most = pow-succ' 256 most in omega arith))

big_spelled : (sign m : ℕ) (z : ℤ) → sign ≤ 1 → m < 2 ^ 127 + sign → z ≡ signed sign m → IsSmallBig z (canonical_big sign m)
unfolding magnitude
big_spelled sign m z le lt e =
    let d = digits_say 16 m (omega arith) in
    let s = d.says in
    record {
      sign = sign;
      magnitude = digits 16 m;
      is_sign = le;
      short = d.short;
      are_bytes = d.bytes;
      in_range = omega arith;
      value = e ∙ ap (signed sign) (sym s);
      bytes = refl;
    }

abbrev SpellsInt : ℤ → List ℕ → Type 0
SpellsInt z b = IsSmallInteger z b ⊎ (IsInteger z b ⊎ IsSmallBig z b)

int_spelled : (z : ℤ) → FitsSigned w128 z → SpellsInt z (canonical_int z)
unfolding canonical_int
int_spelled (pos n) h = by (ltb n 256) (ltb n (2 ^ 31)) refl refl
  where
    by : (a b : Bool) → ltb n 256 ≡ a → ltb n (2 ^ 31) ≡ b → SpellsInt (pos n) (canonical_int (pos n))
    by true b p q = rw p (inl (record { n = n; field = n ∷ []; number = byte_number n (ltb-true n 256 p); value = refl; bytes = refl }))
    by false true p q =
        let lt = ltb-true n (2 ^ 31) q in rw (p, q) (inr
        (inl (record { n = n; field = big_bytes 4 n; number = four_bytes n (omega arith); value = sym (to_z_pos w32 n lt); bytes = refl })))
    by false false p q = rw (p, q) (inr (inr (big_spelled 0 n (pos n) (omega arith) (omega arith) refl)))
int_spelled (negsuc n) h = by (ltb n (2 ^ 31)) refl
  where
    by : (b : Bool) → ltb n (2 ^ 31) ≡ b → SpellsInt (negsuc n) (canonical_int (negsuc n))
    by true q =
        let lt = ltb-true n (2 ^ 31) q in rw q (inr (inl (record {
          n = 2 ^ 32 - 1 - n;
          field = big_bytes 4 (2 ^ 32 - 1 - n);
          number = four_bytes (2 ^ 32 - 1 - n) (omega arith);
          value = sym (to_z-of_z w32 (negsuc n) (omega (arith, ints)))
              ∙ ap (cast_signed w32) (let k : cast_unsigned w32 (negsuc n) ≡ 2 ^ 32 - 1 - n = omega (arith, ints) in k);
          bytes = refl;
        })))
    by false q = rw q (inr (inr (big_spelled 1 (suc n) (negsuc n) (omega arith) (omega arith) refl)))

-- ---- atoms

atom_spelled : (a : List ℕ) → IsAtomText a → SpellsAtom a (canonical_atom a)
unfolding canonical_atom
atom_spelled a h = by (ltb (length a) 256) refl
  where
    by : (b : Bool) → ltb (length a) 256 ≡ b → SpellsAtom a (canonical_atom a)
    by true p =
        rw p (inl (record { len = length a ∷ []; is_text = h; number = byte_number (length a) (ltb-true (length a) 256 p); bytes = refl }))
    by false p =
        let le = atom_bytes a h in
        rw p (inr (inl (record { len = big_bytes 2 (length a); is_text = h; number = two_bytes (length a) (omega arith); bytes = refl })))

-- ---- pids

pid_spelled : (p : Pid) → IsPidInRange p → IsPid p (canonical_pid p)
unfolding canonical_pid
pid_spelled p h = record {
  node = canonical_atom p.node;
  id = big_bytes 4 p.id;
  serial = big_bytes 4 p.serial;
  creation = big_bytes 4 p.creation;
  is_node = atom_spelled p.node h.node;
  is_id = four_bytes p.id h.id;
  is_serial = four_bytes p.serial h.serial;
  is_creation = four_bytes p.creation h.creation;
  bytes = refl;
}

-- ---- tuples

abbrev SpellsTuple : ℕ → Items → List ℕ → Type 0
SpellsTuple below ts b = IsTuple (Spells below) 104 1 ts b ⊎ IsTuple (Spells below) 105 4 ts b

tuple_spelled : (below : ℕ) (ts : Items) (b : List ℕ) → count ts < 2 ^ 32 → SpellAll (Spells below) ts b
    → SpellsTuple below ts (canonical_head (count ts) ++ b)
unfolding canonical_head
tuple_spelled below ts b lt s = by (ltb (count ts) 256) refl
  where
    by : (c : Bool) → ltb (count ts) 256 ≡ c → SpellsTuple below ts (canonical_head (count ts) ++ b)
    by true p =
        rw p (inl (record
        { arity = count ts ∷ []; elements = b; number = byte_number (count ts) (ltb-true (count ts) 256 p); spelled = s; bytes = refl }))
    by false p =
        rw p (inr (record { arity = big_bytes 4 (count ts); elements = b; number = four_bytes (count ts) lt; spelled = s; bytes = refl }))

-- ---- references

words_spelled : (ws : List ℕ) → All (λ w. w < 2 ^ 32) ws → AreWords ws (words_text ws)
words_spelled [] h = refl
words_spelled (w ∷ ws) h = (
  big_bytes 4 w,
  words_text ws,
  four_bytes w (All-head (λ w. w < 2 ^ 32) w ws h),
  words_spelled ws (All-tail (λ w. w < 2 ^ 32) w ws h),
  flat_map-cons (big_bytes 4) w ws,
)

reference_spelled : (r : Reference) → IsReferenceInRange r → IsReference r (canonical_reference r)
unfolding canonical_reference
reference_spelled r h = record {
  len = big_bytes 2 (length r.words);
  node = canonical_atom r.node;
  creation = big_bytes 4 r.creation;
  words = words_text r.words;
  some = h.some;
  few = h.few;
  number = two_bytes (length r.words) (let le = h.few in omega arith);
  is_node = atom_spelled r.node h.node;
  is_creation = four_bytes r.creation h.creation;
  are_words = words_spelled r.words h.words;
  bytes = refl;
}

-- ---- binaries

binary_spelled : (a : List ℕ) → AreBytes a → length a < 2 ^ 32 → IsBinary a (canonical_binary a)
unfolding canonical_binary
binary_spelled a h lt = record { len = big_bytes 4 (length a); are_bytes = h; number = four_bytes (length a) lt; bytes = refl }

-- ---- the items of a STRING

byte_is : (t : Data) → is_byte t ≡ true → t ≡ int (pos (byte_of t))
byte_is (int (pos n)) e = refl
byte_is t e = absurd cc

byte_fits : (t : Data) → is_byte t ≡ true → byte_of t < 256
byte_fits (int (pos n)) e = ltb-true n 256 e
byte_fits t e = absurd cc

string_items : (ts : Items) → are_byte_items ts ≡ true → ts ≡ byte_items (bytes_of ts)
string_items no_items e = refl
string_items (item t ts) e =
    let p = and_parts (is_byte t) (are_byte_items ts) e in
    let one = byte_is t p.0 in
    let more = string_items ts p.1 in
    cc

string_bytes : (ts : Items) → are_byte_items ts ≡ true → AreBytes (bytes_of ts)
string_bytes no_items e = AreBytes-nil
string_bytes (item t ts) e =
    let p = and_parts (is_byte t) (are_byte_items ts) e in
    AreBytes-cons (byte_of t) (bytes_of ts) (byte_fits t p.0) (string_bytes ts p.1)

pub string_count : (ts : Items) → length (bytes_of ts) ≡ count ts
string_count no_items = refl
string_count (item t ts) = let e = string_count ts in omega arith

-- bytes have one level
string_levels : (ts : Items) → are_byte_items ts ≡ true → most_levels ts ≤ 1
string_levels no_items e = omega arith
string_levels (item t ts) e =
    let p = and_parts (is_byte t) (are_byte_items ts) e in
    let one : levels_of t ≡ 1 = ap levels_of (byte_is t p.0) in
    let more = string_levels ts p.1 in
    omega arith

pub is_string_parts : (ts : Items) → is_string ts ≡ true → (are_byte_items ts ≡ true) × (count ts < 2 ^ 16)
is_string_parts ts e =
    let p = and_parts (are_byte_items ts) (ltb (count ts) (2 ^ 16)) e in
    (p.0, ltb-true (count ts) (2 ^ 16) p.1)

string_spelled : (ts : Items) → is_string ts ≡ true → IsString ts (107 ∷ (big_bytes 2 (count ts) ++ bytes_of ts))
string_spelled ts e =
    let p = is_string_parts ts e in
    let n = string_count ts in
    record {
      len = big_bytes 2 (count ts);
      letters = bytes_of ts;
      are_bytes = string_bytes ts p.0;
      number = subst (λ k. IsNumber 2 k (big_bytes 2 (count ts))) (sym n) (two_bytes (count ts) p.1);
      value = string_items ts p.0;
      bytes = refl;
    }

number_2 : (n : ℕ) (b : List ℕ) → IsNumber 2 n b → n < 2 ^ 16
number_2 n b s = let e : big_number 2 b ≡ n = s.says in let k0 = s.bytes 0 in let k1 = s.bytes 1 in omega arith

pub letters_bytes : (ns : List ℕ) → AreBytes ns → are_byte_items (byte_items ns) ≡ true
letters_bytes [] h = refl
letters_bytes (n ∷ ns) h = and_from (ltb n 256) (are_byte_items (byte_items ns)) (lt-ltb n 256 (h 0)) (letters_bytes ns (λ i. h (suc i)))

pub letters_count : (ns : List ℕ) → count (byte_items ns) ≡ length ns
letters_count [] = refl
letters_count (n ∷ ns) = let e = letters_count ns in omega arith

letters_string : (ts : Items) (ns : List ℕ) → ts ≡ byte_items ns → AreBytes ns → length ns < 2 ^ 16 → is_string ts ≡ true
letters_string ts ns e h lt =
    let n = letters_count ns in
    ap is_string e ∙ and_from (are_byte_items (byte_items ns)) (ltb (count (byte_items ns)) (2 ^ 16)) (letters_bytes ns h)
    (lt-ltb (count (byte_items ns)) (2 ^ 16) (omega arith))

-- ---- lists

pub append_none : (ts : Items) → append_items ts no_items ≡ ts
append_none no_items = refl
append_none (item t ts) = ap (item t) (append_none ts)

joined_list : (ts : Items) → joined ts (list no_items) ≡ list ts
joined_list ts = ap list (append_none ts)

pub joined_improper : (ts : Items) (t : Data) → 0 < count ts → is_list t ≡ false → joined ts t ≡ improper ts t
joined_improper no_items t some e = absurd (omega arith)
joined_improper (item u ts) (list us) some e = absurd cc
joined_improper (item u ts) (improper us t) some e = absurd cc
joined_improper (item u ts) t some e = refl

pub some_levels : (t : Data) → 1 ≤ levels_of t
some_levels (list ts) = by (is_string ts) refl
  where
    by : (b : Bool) → is_string ts ≡ b → 1 ≤ levels_of (list ts)
    by true e = rw e (omega arith)
    by false e = rw e (omega arith)
some_levels t = omega arith

-- the items of a list lie at most a level below it
list_levels : (ts : Items) → levels_of (list ts) ≤ suc (most_levels ts)
list_levels ts = by (is_string ts) refl
  where
    by : (b : Bool) → is_string ts ≡ b → levels_of (list ts) ≤ suc (most_levels ts)
    by true e = rw e (omega arith)
    by false e = rw e (omega arith)

-- and not above it
items_levels : (ts : Items) → most_levels ts ≤ levels_of (list ts)
items_levels ts = by (is_string ts) refl
  where
    by : (b : Bool) → is_string ts ≡ b → most_levels ts ≤ levels_of (list ts)
    by true e = rw e (string_levels ts (is_string_parts ts e).0)
    by false e = rw e (omega arith)

pub append_levels : (ts us : Items) → most_levels (append_items ts us) ≡ max (most_levels ts) (most_levels us)
append_levels no_items us = omega arith
append_levels (item t ts) us = let e = append_levels ts us in omega arith

joined_levels : (ts : Items) (t : Data) → levels_of (joined ts t) ≤ suc (max (most_levels ts) (levels_of t))
joined_levels ts (list us) =
    let a = list_levels (append_items ts us) in let b = append_levels ts us in let c = items_levels us in omega arith
joined_levels ts (improper us t) = let b = append_levels ts us in omega arith
joined_levels no_items t = omega arith
joined_levels (item u ts) t = omega arith

cells_spelled : (below : ℕ) (t : Data) (ts : Items) (last : Data) (elements tail : List ℕ) → count ts < 2 ^ 32
    → SpellAll (Spells below) ts elements → Spells below last tail → t ≡ joined ts last
    → IsList (Spells below) t (canonical_cells (count ts) elements tail)
cells_spelled below t ts last elements tail lt s l e = record {
  items = ts;
  last = last;
  len = big_bytes 4 (count ts);
  elements = elements;
  tail = tail;
  number = four_bytes (count ts) lt;
  spelled = s;
  is_tail = l;
  value = e;
  bytes = refl;
}

nil_spelled : (levels : ℕ) → 1 ≤ levels → Spells levels (list no_items) (106 ∷ [])
nil_spelled zero le = absurd (omega arith)
nil_spelled (suc below) le = inl (inl (refl, refl))

-- SpellAll is asked for one level lower, and only where no STRING holds the items
list_spelled : (ts : Items) (below : ℕ) (b : List ℕ) → count ts < 2 ^ 32 → levels_of (list ts) ≤ suc below
    → (most_levels ts ≤ below → SpellAll (Spells below) ts b) → Spells (suc below) (list ts) (canonical_list ts b)
unfolding canonical_list
list_spelled no_items below b lt le s = inl (inl (refl, refl))
list_spelled (item t ts) below b lt le s = by (is_string (item t ts)) refl
  where
    by : (c : Bool) → is_string (item t ts) ≡ c → Spells (suc below) (list (item t ts)) (canonical_list (item t ts) b)
    by true e = rw e (inl (inr (string_spelled (item t ts) e)))
    by false e =
        let k : suc (most_levels (item t ts)) ≤ suc below = rw e at le in
        let one = some_levels t in
        rw e (inr (cells_spelled below (list (item t ts)) (item t ts) (list no_items) b (106 ∷ []) lt (s (omega arith))
        (nil_spelled below (omega arith)) (sym (joined_list (item t ts)))))

-- ---- terms

mutual
  pub canon_spelled : (t : Data) (levels : ℕ) → IsInRange t → levels_of t ≤ levels → Spells levels t (canonical_term t)
  canon_spelled t zero h le = absurd (let one = some_levels t in omega arith)
  canon_spelled (int z) (suc below) h le = inl (int_spelled z h)
  canon_spelled (atom a) (suc below) h le = inl (atom_spelled a h)
  canon_spelled (tuple ts) (suc below) h le =
      inl (tuple_spelled below ts (canonical_items ts) h.0 (items_spelled ts below h.1 (omega arith)))
  canon_spelled (list ts) (suc below) h le = list_spelled ts below (canonical_items ts) h.0 le (λ k. items_spelled ts below h.1 k)
  canon_spelled (improper ts t) (suc below) h le =
      inr (cells_spelled below (improper ts t) ts t (canonical_items ts) (canonical_term t) h.1
      (items_spelled ts below h.3 (omega arith)) (canon_spelled t below h.4 (omega arith))
      (sym (joined_improper ts t h.0 h.2)))
  canon_spelled (binary a) (suc below) h le = inl (binary_spelled a h.0 h.1)
  canon_spelled (pid p) (suc below) h le = inl (pid_spelled p h)
  canon_spelled (reference r) (suc below) h le = inl (reference_spelled r h)

  pub items_spelled : (ts : Items) (levels : ℕ) → AreInRange ts → most_levels ts ≤ levels → SpellAll (Spells levels) ts (canonical_items ts)
  items_spelled no_items levels h le = refl
  items_spelled (item t ts) levels h le =
      (canonical_term t, canonical_items ts, canon_spelled t levels h.0 (omega arith), items_spelled ts levels h.1 (omega arith), refl)

-- no spelling has fewer levels

abbrev Least : ℕ → Type 0
Least levels = (t : Data) (b : List ℕ) → Spells levels t b → levels_of t ≤ levels

items_least : (levels : ℕ) → Least levels → (ts : Items) (b : List ℕ) → SpellAll (Spells levels) ts b → most_levels ts ≤ levels
items_least levels least no_items b s = omega arith
items_least levels least (item t ts) b s = let one = least t s.0 s.2 in let more = items_least levels least ts s.1 s.3 in omega arith

row_least : (below : ℕ) → Least below → (t : Data) (b : List ℕ) → SpellsBy (Spells below) t b → levels_of t ≤ suc below
row_least below least (tuple ts) b (inl s) = let l = items_least below least ts s.elements s.spelled in omega arith
row_least below least (tuple ts) b (inr s) = let l = items_least below least ts s.elements s.spelled in omega arith
row_least below least (list ts) b (inl s) = let e : levels_of (list ts) ≡ 1 = ap (λ us. levels_of (list us)) s.0 in omega arith
row_least below least (list ts) b (inr s) =
    let e : levels_of (list ts) ≡ 1 = cond-true (is_string ts) 1 (suc (most_levels ts))
    (letters_string ts s.letters s.value s.are_bytes (number_2 (length s.letters) s.len s.number)) in omega arith
row_least below least (improper ts t) b s = absurd s
row_least below least t b s = omega arith

cells_least : (below : ℕ) → Least below → (t : Data) (b : List ℕ) → IsList (Spells below) t b → levels_of t ≤ suc below
cells_least below least t b s =
    let one = items_least below least s.items s.elements s.spelled in
    let two = least s.last s.tail s.is_tail in
    let l = joined_levels s.items s.last in
    let e = ap levels_of s.value in
    omega arith

pub levels_least : (levels : ℕ) → Least levels
levels_least zero t b s = absurd s
levels_least (suc below) t b (inl s) = row_least below (levels_least below) t b s
levels_least (suc below) t b (inr s) = cells_least below (levels_least below) t b s

pub canon_is : (t : Data) (levels : ℕ) → IsInRange t → levels_of t ≤ levels → IsSpelling levels t (canonical t)
canon_is t levels h le = record { term = canonical_term t; spelled = canon_spelled t levels h le; bytes = refl }

pub canon_least : (t : Data) (levels : ℕ) → IsSpelling levels t (canonical t) → levels_of t ≤ levels
canon_least t levels s = levels_least levels t s.term s.spelled
