-- What bytes spell is a value of the profile.
use Rattle.erl_term.proofs.Bytes.{number_1, number_4}
use Rattle.erl_term.proofs.Canonical.{letters_count}
use Rattle.std.proofs.Common.{◌≡◌, ◌^◌, ◌<◌, ◌≤◌, ◌+◌, inl, inr, ℕ, zero, suc, false}
use Rattle.std.proofs.Common.{get_or, List, [], ◌∷◌, ◌++◌, length, sym, ap, subst, arith, refl}
use Rattle.std.specs.Prelude.{ℤ, pos, negsuc, FitsSigned, All}
use Rattle.std.specs.Int.{w32, w128, cast_signed}
use Rattle.std.proofs.Math.Facts.{sfits_to_z}
use Rattle.std.proofs.lemmas.List.{length-append}
use Rattle.erl_term.specs.Canonical.{AreInRange, IsInRange, IsPidInRange, IsReferenceInRange, is_list}
use Rattle.erl_term.specs.Data.{Data, int, atom, tuple, list, improper, binary, pid}
use Rattle.erl_term.specs.Data.{reference, Items, no_items, item, append_items, count, joined}
use Rattle.erl_term.specs.Numbers.{AreBytes, low_first, signed}
use Rattle.erl_term.specs.Spelling.{AreWords, IsList, IsPid, IsReference}
use Rattle.erl_term.specs.Spelling.{IsSpelling, IsTuple, SpellAll, Spells, SpellsAtom, SpellsBy, byte_items}
use Rattle.erl_term.specs.Text.{IsAtomText}
use Rattle.erl_term.specs.declared.term.Pid.{Pid}
use Rattle.erl_term.specs.declared.term.Reference.{Reference}
use Rattle.erl_term.proofs.Why.{count-append}

-- ---- numbers

words_below : (ws b : List ℕ) → AreWords ws b → All (λ w. w < 2 ^ 32) ws
words_below [] b h = λ k d lt. absurd (omega arith)
words_below (w ∷ ws) b h = at (words_below ws h.1 h.3)
  where
    at : All (λ w. w < 2 ^ 32) ws → (k d : ℕ) → k < length (w ∷ ws) → get_or (w ∷ ws) k d < 2 ^ 32
    at rest zero d lt = number_4 w h.0 h.2
    at rest (suc k) d lt = rest k d (omega arith)

wider : (z : ℤ) → FitsSigned w32 z → FitsSigned w128 z
wider (pos n) h = omega arith
wider (negsuc n) h = omega arith

pub signed_fits : (sign n : ℕ) → sign ≤ 1 → n < 2 ^ 127 + sign → FitsSigned w128 (signed sign n)
signed_fits zero n s h = omega arith
signed_fits (suc zero) zero s h = omega arith
signed_fits (suc zero) (suc n) s h = omega arith
signed_fits (suc (suc m)) n s h = absurd (omega arith)

int_fits : (z : ℤ) (b : List ℕ) (S : Data → List ℕ → Type 0) → SpellsBy S (int z) b → FitsSigned w128 z
int_fits z b S (inl r) = let lt = number_1 r.n r.field r.number in subst (FitsSigned w128) (sym r.value) (omega arith)
int_fits z b S (inr (inl r)) =
    let fits : FitsSigned w32 (cast_signed w32 r.n) = sfits_to_z {w = w32} {n = r.n} (record { fits = number_4 r.n r.field r.number }) in
    subst (FitsSigned w128) (sym r.value) (wider (cast_signed w32 r.n) fits)
int_fits z b S (inr (inr r)) = subst (FitsSigned w128) (sym r.value) (signed_fits r.sign (low_first r.magnitude) r.is_sign r.in_range)

-- ---- atoms, and what has one

atom_text : (a b : List ℕ) → SpellsAtom a b → IsAtomText a
atom_text a b (inl r) = r.is_text
atom_text a b (inr (inl r)) = r.is_text
atom_text a b (inr (inr (inl r))) = r.is_text
atom_text a b (inr (inr (inr r))) = r.is_text

pid_range : (p : Pid) (b : List ℕ) → IsPid p b → IsPidInRange p
pid_range p b r = record {
  node = atom_text p.node r.node r.is_node;
  id = number_4 p.id r.id r.is_id;
  serial = number_4 p.serial r.serial r.is_serial;
  creation = number_4 p.creation r.creation r.is_creation;
}

reference_range : (x : Reference) (b : List ℕ) → IsReference x b → IsReferenceInRange x
reference_range x b r = record {
  node = atom_text x.node r.node r.is_node;
  creation = number_4 x.creation r.creation r.is_creation;
  some = r.some;
  few = r.few;
  words = words_below x.words r.words r.are_words;
}

-- ---- lists: how many cells one has, each of a byte at least

abbrev cells : Data → ℕ
cells (list ts) = count ts
cells (improper ts t) = count ts
cells t = 0

record Fine (t : Data) (len : ℕ) : Type 0 where
  range : IsInRange t
  some : cells t < len

letters_range : (ns : List ℕ) → AreBytes ns → AreInRange (byte_items ns)
letters_range [] h = tt
letters_range (n ∷ ns) h = (let lt = h 0 in omega arith, letters_range ns (λ i. h (suc i)))

append_range : (ts us : Items) → AreInRange ts → AreInRange us → AreInRange (append_items ts us)
append_range no_items us h k = k
append_range (item t ts) us h k = (h.0, append_range ts us h.1 k)

-- some terms before a tail that is no list
behind : (u : Data) (us : Items) (t : Data) (len : ℕ) → AreInRange (item u us) → IsInRange t → is_list t ≡ false
    → count (item u us) < len → len < 2 ^ 32
    → Fine (improper (item u us) t) len
behind u us t len h r plain lt short = record { range = (omega arith, omega arith, plain, h, r); some = lt }

joined_fine : (ts : Items) (t : Data) (l len : ℕ) → AreInRange ts → Fine t l → count ts + l < len → len < 2 ^ 32 → Fine (joined ts t) len
joined_fine ts (list us) l len h f lt short =
    let e = count-append ts us in let s = f.some in
    record { range = (omega arith, append_range ts us h f.range.1); some = omega arith }
joined_fine ts (improper us t) l len h f lt short =
    let e = count-append ts us in let s = f.some in let some = f.range.0 in
    record { range = (omega arith, omega arith, f.range.2, append_range ts us h f.range.3, f.range.4); some = omega arith }
joined_fine no_items t l len h f lt short = record { range = f.range; some = omega arith }
joined_fine (item u us) t l len h f lt short = behind u us t len h f.range refl (omega arith) short

-- ---- any term, from those that stand in it

AllFine : ℕ → Type 0
AllFine n = (t : Data) (b : List ℕ) → Spells n t b → length b < 2 ^ 32 → Fine t (length b)

begins : (tag : ℕ) (rest b : List ℕ) → b ≡ tag ∷ rest → 0 < length b
begins tag rest b e = let n = ap length e in omega arith

items_fine : (n : ℕ) → AllFine n → (ts : Items) (b : List ℕ) → SpellAll (Spells n) ts b → length b < 2 ^ 32 → AreInRange ts
    × (count ts ≤ length b)
unfolding AllFine
items_fine n each no_items b s short = (tt, omega arith)
items_fine n each (item t ts) b s short =
    let e = ap length s.4 in let both = length-append s.0 s.1 in
    let f = each t s.0 s.2 (omega arith) in
    let rest = items_fine n each ts s.1 s.3 (omega arith) in
    let some = f.some in let more = rest.1 in
    ((f.range, rest.0), omega arith)

int_begins : (z : ℤ) (b : List ℕ) (S : Data → List ℕ → Type 0) → SpellsBy S (int z) b → 0 < length b
int_begins z b S (inl r) = begins 97 r.field b r.bytes
int_begins z b S (inr (inl r)) = begins 98 r.field b r.bytes
int_begins z b S (inr (inr r)) = let n = ap length r.bytes in omega arith

atom_begins : (a b : List ℕ) → SpellsAtom a b → 0 < length b
atom_begins a b (inl r) = let n = ap length r.bytes in omega arith
atom_begins a b (inr (inl r)) = let n = ap length r.bytes in omega arith
atom_begins a b (inr (inr (inl r))) = let n = ap length r.bytes in omega arith
atom_begins a b (inr (inr (inr r))) = let n = ap length r.bytes in omega arith

tuple_fine : (n tag width : ℕ) → AllFine n → (ts : Items) (b : List ℕ) → IsTuple (Spells n) tag width ts b → length b < 2 ^ 32
    → Fine (tuple ts) (length b)
tuple_fine n tag width each ts b r short =
    let e = ap length r.bytes in let both = length-append r.arity r.elements in
    let all = items_fine n each ts r.elements r.spelled (omega arith) in
    let few = all.1 in
    record { range = (omega arith, all.0); some = omega arith }

row_fine : (n : ℕ) → AllFine n → (t : Data) (b : List ℕ) → SpellsBy (Spells n) t b → length b < 2 ^ 32 → Fine t (length b)
row_fine n each (int z) b s short = record { range = int_fits z b (Spells n) s; some = int_begins z b (Spells n) s }
row_fine n each (atom a) b s short = record { range = atom_text a b s; some = atom_begins a b s }
row_fine n each (tuple ts) b (inl r) short = tuple_fine n 104 1 each ts b r short
row_fine n each (tuple ts) b (inr r) short = tuple_fine n 105 4 each ts b r short
row_fine n each (list ts) b (inl r) short =
    let some = begins 106 [] b r.1 in
    subst (λ us. Fine (list us) (length b)) (sym r.0) (record { range = (omega arith, tt); some = some })
row_fine n each (list ts) b (inr r) short =
    let e = ap length r.bytes in let both = length-append r.len r.letters in let few = letters_count r.letters in
    subst (λ us. Fine (list us) (length b)) (sym r.value)
    (record { range = (omega arith, letters_range r.letters r.are_bytes); some = omega arith })
row_fine n each (improper ts t) b s short = absurd s
row_fine n each (binary a) b r short =
    let e = ap length r.bytes in let both = length-append r.len a in
    record { range = (r.are_bytes, omega arith); some = omega arith }
row_fine n each (pid p) b r short = record { range = pid_range p b r; some = (let e = ap length r.bytes in omega arith) }
row_fine n each (reference x) b r short = record { range = reference_range x b r; some = (let e = ap length r.bytes in omega arith) }

list_fine : (n : ℕ) → AllFine n → (t : Data) (b : List ℕ) → IsList (Spells n) t b → length b < 2 ^ 32 → Fine t (length b)
unfolding AllFine
list_fine n each t b r short =
    let e = ap length r.bytes in let both = length-append r.len (r.elements ++ r.tail) in let more = length-append r.elements r.tail in
    let all = items_fine n each r.items r.elements r.spelled (omega arith) in
    let last = each r.last r.tail r.is_tail (omega arith) in
    let few = all.1 in
    subst (λ x. Fine x (length b)) (sym r.value) (joined_fine r.items r.last (length r.tail) (length b) all.0 last (omega arith) short)

fine : (n : ℕ) → AllFine n
unfolding AllFine
fine zero t b s short = absurd s
fine (suc n) t b (inl s) short = row_fine n (fine n) t b s short
fine (suc n) t b (inr s) short = list_fine n (fine n) t b s short

pub spelled_in_range : (levels : ℕ) (t : Data) (b : List ℕ) → IsSpelling levels t b → length b < 2 ^ 32 → IsInRange t
unfolding AllFine
spelled_in_range levels t b s short = let e = ap length s.bytes in (fine levels t s.term s.spelled (omega arith)).range
