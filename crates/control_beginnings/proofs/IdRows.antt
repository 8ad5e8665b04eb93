-- An Id in each row of integers, and behind lists.
use Rattle.std.proofs.Common.{◌≡◌, ◌≢◌, ℕ, ◌≤◌, ◌<◌, Bool, List, [], ◌∷◌, ◌++◌, length, get_or, ◌^◌, refl, sym, ap, subst, ◌∙◌, arith}
use Rattle.std.proofs.Common.{inl, inr}
use Rattle.std.proofs.lemmas.List.{get_or_past}
use Rattle.std.specs.Prelude.{pos}
use Rattle.erl_term.specs.Numbers.{low_first}
use Rattle.erl_term.specs.Data.{int}
use Rattle.erl_term.specs.Spelling.{IsNumber}
use Rattle.erl_term.proofs.Bytes.{number_1}
use Rattle.erl_term.proofs.Behind.{spelled_behind, behind_spelled}
use Rattle.control_beginnings.specs.Parts.{Starts, Headed, IsByteId, IsWordId, IsDigitsId, IsSizedId, IsBigId, IsIdText, IsIdAt}
use Rattle.control_beginnings.proofs.Splits.{headed_to, headed_from, headed_by, headed_none}
use Rattle.control_beginnings.proofs.Passing.{IsOther, Deep, Tells}
use Rattle.control_beginnings.proofs.Tagged.{of_signed, to_signed, below_word, signed_is}
use Rattle.control_beginnings.proofs.Identified.{zeros_start, byte_some}

-- ---- the length and the sign

some_digits : (len : ℕ) → 1 ≤ len → Starts (IsDigitsId len) []
some_digits len some = zeros_start len [] (λ i. nil i) (omega arith) refl (omega arith)
  where
    nil : (i : ℕ) → get_or {A = ℕ} [] i 0 < 256
    nil i = let e : get_or {A = ℕ} [] i 0 ≡ 0 = get_or_past [] i 0 (omega arith) in omega arith

pub sized_none : (len : ℕ) (bytes : List ℕ) → 1 ≤ len → bytes ≡ [] → Starts (IsSizedId len) bytes
sized_none len bytes some e = let d = some_digits len some in headed_none 0 (IsDigitsId len) bytes d.0 d.1 e

-- a length, and the beginning of a sign and a magnitude behind it
pub big_to : (len : ℕ) (bytes rest : List ℕ) → bytes ≡ len ∷ rest → len ≤ 16 → (1 ≤ len) × Starts (IsSizedId len) rest → Starts IsBigId bytes
big_to len bytes rest e short (some, s) =
    let h = headed_to len (IsSizedId len) bytes rest e s in (h.0, (len, some, short, h.1))

pub big_from : (len : ℕ) (bytes rest : List ℕ) → bytes ≡ len ∷ rest → Starts IsBigId bytes → (1 ≤ len) × (len ≤ 16) × Starts (IsSizedId len) rest
big_from len bytes rest e (more, (n, some, short, h)) =
    let same = headed_by n (IsSizedId n) bytes len rest e (more, h) in
    let moved : Headed len (IsSizedId len) (bytes ++ more) = subst (λ (k : ℕ). Headed k (IsSizedId k) (bytes ++ more)) (sym same) h in (
      subst (λ (k : ℕ). 1 ≤ k) (sym same) some,
      subst (λ (k : ℕ). k ≤ 16) (sym same) short,
      headed_from len (IsSizedId len) bytes rest e (more, moved),
    )

pub big_none : (bytes : List ℕ) → bytes ≡ [] → Starts IsBigId bytes
big_none bytes e =
    let s = sized_none 1 [] (omega arith) refl in
    let h = headed_none 1 (IsSizedId 1) bytes s.0 s.1 e in (h.0, (1, omega arith, omega arith, h.1))

-- ---- the rows

pub data IdRow (b : List ℕ) : Type 0 where
  byte : Headed 97 IsByteId b → IdRow b
  word : Headed 98 IsWordId b → IdRow b
  big : Headed 110 IsBigId b → IdRow b

same_pos : (m n : ℕ) → pos m ≡ pos n → m ≡ n
same_pos m n e = cc

pub id_row : (b : List ℕ) → IsIdText b → IdRow b
id_row b (id, u, inl s) =
    byte (s.field, (s.n, subst (λ (n : ℕ). 1 ≤ n) (same_pos id s.n s.value) u.0, s.number), s.bytes)
id_row b (id, u, inr (inl s)) =
    let n = of_signed s.n id (below_word s.n s.field s.number) s.value in
    word (s.field, (id, u.0, n.1, subst (λ (k : ℕ). IsNumber 4 k s.field) n.0 s.number), s.bytes)
id_row b (id, u, inr (inr s)) =
    let v = signed_is s.sign (low_first s.magnitude) id s.is_sign u.0 s.value in
    let some : 1 ≤ low_first s.magnitude = subst (λ (n : ℕ). 1 ≤ n) v.1 u.0 in
    big (
      length s.magnitude ∷ 0 ∷ s.magnitude,
      (
        length s.magnitude,
        magnitude_some s.magnitude some,
        s.short,
        (
          0 ∷ s.magnitude,
          (
            s.magnitude,
            record {
              len_is = refl;
              are_bytes = s.are_bytes;
              some = some;
              fits = subst (λ (n : ℕ). n < 2 ^ 64) v.1 u.1;
            },
            refl,
          ),
          refl,
        ),
      ),
      s.bytes ∙ ap (λ (k : ℕ). 110 ∷ length s.magnitude ∷ k ∷ s.magnitude) v.0,
    )
  where
    magnitude_some : (ds : List ℕ) → 1 ≤ low_first ds → 1 ≤ length ds
    magnitude_some [] le = le
    magnitude_some (d ∷ ds) le = omega arith

pub row_id : (b : List ℕ) → IdRow b → IsIdText b
row_id b (byte (field, (id, some, number), e)) =
    let lt = number_1 id field number in
    (id, (some, omega arith), inl (record { n = id; field = field; number = number; value = refl; bytes = e }))
row_id b (word (field, (id, some, lt, number), e)) =
    (id, (some, omega arith), inr (inl (record { n = id; field = field; number = number; value = to_signed id lt; bytes = e })))
row_id b (big (rest, (len, some, short, (sized, (digits, d, p), q)), e)) = (
  low_first digits,
  (d.some, d.fits),
  inr (inr (record {
    sign = 0;
    magnitude = digits;
    is_sign = omega arith;
    short = subst (λ (n : ℕ). n ≤ 16) (sym d.len_is) short;
    are_bytes = d.are_bytes;
    in_range = (let f = d.fits in omega arith);
    value = refl;
    bytes = e ∙ ap (λ (w : List ℕ). 110 ∷ w) (q ∙ ap (λ (w : List ℕ). len ∷ w) p)
        ∙ ap (λ (n : ℕ). 110 ∷ n ∷ 0 ∷ digits) (sym d.len_is);
  })),
)

module _ (bytes rest : List ℕ) (b : Bool) where
  pub byte_tells : bytes ≡ 97 ∷ rest → Tells b IsByteId rest → Tells b IsIdText bytes
  byte_tells e h = (
    λ y. let s = headed_to 97 IsByteId bytes rest e (h.0 y) in (s.0, row_id (bytes ++ s.0) (byte s.1)),
    λ s. h.1 (from s.0 (id_row (bytes ++ s.0) s.1)),
  )
    where
      from : (more : List ℕ) → IdRow (bytes ++ more) → Starts IsByteId rest
      from more (byte s) = headed_from 97 IsByteId bytes rest e (more, s)
      from more (word s) = absurd (let k = headed_by 98 IsWordId bytes 97 rest e (more, s) in omega arith)
      from more (big s) = absurd (let k = headed_by 110 IsBigId bytes 97 rest e (more, s) in omega arith)

  pub word_tells : bytes ≡ 98 ∷ rest → Tells b IsWordId rest → Tells b IsIdText bytes
  word_tells e h = (
    λ y. let s = headed_to 98 IsWordId bytes rest e (h.0 y) in (s.0, row_id (bytes ++ s.0) (word s.1)),
    λ s. h.1 (from s.0 (id_row (bytes ++ s.0) s.1)),
  )
    where
      from : (more : List ℕ) → IdRow (bytes ++ more) → Starts IsWordId rest
      from more (byte s) = absurd (let k = headed_by 97 IsByteId bytes 98 rest e (more, s) in omega arith)
      from more (word s) = headed_from 98 IsWordId bytes rest e (more, s)
      from more (big s) = absurd (let k = headed_by 110 IsBigId bytes 98 rest e (more, s) in omega arith)

  pub big_tells : bytes ≡ 110 ∷ rest → Tells b IsBigId rest → Tells b IsIdText bytes
  big_tells e h = (
    λ y. let s = headed_to 110 IsBigId bytes rest e (h.0 y) in (s.0, row_id (bytes ++ s.0) (big s.1)),
    λ s. h.1 (from s.0 (id_row (bytes ++ s.0) s.1)),
  )
    where
      from : (more : List ℕ) → IdRow (bytes ++ more) → Starts IsBigId rest
      from more (byte s) = absurd (let k = headed_by 97 IsByteId bytes 110 rest e (more, s) in omega arith)
      from more (word s) = absurd (let k = headed_by 98 IsWordId bytes 110 rest e (more, s) in omega arith)
      from more (big s) = headed_from 110 IsBigId bytes rest e (more, s)

pub id_some : (b : List ℕ) × IsIdText b
id_some =
    let s = headed_none 97 IsByteId [] (byte_some [] refl).0 (byte_some [] refl).1 refl in (s.0, row_id s.0 (byte s.1))

pub id_none : (bytes : List ℕ) → bytes ≡ [] → Starts IsIdText bytes
id_none bytes e = subst (Starts IsIdText) (sym e) id_some

-- another byte begins none
pub no_id : (bytes rest : List ℕ) (k : ℕ) → bytes ≡ k ∷ rest → k ≢ 97 → k ≢ 98 → k ≢ 110 → Starts IsIdText bytes → ⊥
no_id bytes rest k e f g h (more, s) = by (id_row (bytes ++ more) s)
  where
    by : IdRow (bytes ++ more) → ⊥
    by (byte s) = f (headed_by 97 IsByteId bytes k rest e (more, s))
    by (word s) = g (headed_by 98 IsWordId bytes k rest e (more, s))
    by (big s) = h (headed_by 110 IsBigId bytes k rest e (more, s))

-- ---- behind lists

pub id_other : (b : List ℕ) → IsIdText b → IsOther b
id_other b s = by (id_row b s)
  where
    by : IdRow b → IsOther b
    by (byte r) = (97, r.0, (λ e. omega arith), r.2)
    by (word r) = (98, r.0, (λ e. omega arith), r.2)
    by (big r) = (110, r.0, (λ e. omega arith), r.2)

pub id_deep : (levels : ℕ) (b : List ℕ) → IsIdAt levels b → Deep IsIdText levels b
id_deep levels b (id, u, s) =
    let h = spelled_behind (int (pos id)) levels b refl s in
    record { k = h.k; below = h.below; text = h.text; is_text = (id, u, h.is_text); depth = h.depth; bytes = h.bytes }

pub deep_id : (levels : ℕ) (b : List ℕ) → Deep IsIdText levels b → IsIdAt levels b
deep_id levels b h =
    let o = h.is_text in (
      o.0,
      o.1,
      behind_spelled (int (pos o.0)) levels b
          (record { k = h.k; below = h.below; text = h.text; is_text = o.2; depth = h.depth; bytes = h.bytes }),
    )
