-- Pieces of a length that stands before them: letters, strings, binaries and words.
use Rattle.std.proofs.Common.{◌≡◌, ◌≢◌, ℕ, zero, suc, ◌+◌, ◌-◌, ◌<◌, ◌≤◌, Bool, true, false, cond, ltb, eqb, List, [], ◌∷◌, ◌++◌}
use Rattle.std.proofs.Common.{length, get_or, take, drop, Ok, Err, refl, sym, ap, subst, ◌∙◌, append_assoc, arith, inl, inr}
use Rattle.std.specs.Prelude.{replicate}
use Rattle.std.specs.Str.{IsUtf8, chars, encode_utf8_all}
use Rattle.std.proofs.Math.Utf8.{scalars, low_scalar, encode}
use Rattle.std.proofs.lemmas.Str.{chars-encodes, encodes-chars, encodes-append}
use Rattle.std.proofs.lemmas.Bool.{ltb-false, ltb-true, le-ltb, eqb-true}
use Rattle.std.proofs.lemmas.List.{append-nil, take_at, drop_at, take_all, take_more}
use Rattle.std.proofs.lemmas.List.{take-append-drop, length-append, length-take, length-replicate}
use Rattle.byteorder.specs.Endian.{big_number}
use Rattle.erl_term.specs.declared.error.TermError.{TermError}
use Rattle.erl_term.specs.declared.error.TermError.TheVariants.{Cut, Malformed}
use Rattle.erl_term.specs.Data.{Data, list, binary}
use Rattle.erl_term.specs.Numbers.{AreBytes}
use Rattle.erl_term.specs.Text.{latin_text}
use Rattle.erl_term.specs.Spelling.{IsNumber, IsLatinAtom, IsString, IsBinary, AreWords, byte_items}
use Rattle.erl_term.specs.Reading.{Read, ◌>>=◌, read_number, read_bounded, read_part, read_letters}
use Rattle.erl_term.specs.Reading.{read_latin, read_string, read_binary, read_word_count, read_words}
use Rattle.readers.specs.Laws.{IsOnly}
use Rattle.erl_term.proofs.Readers.{Takes, Begins, Reads, Then, and_then, Known, known, is_ok, is_err, err_of_bind}
use Rattle.erl_term.proofs.Readers.{ok_of_bind, AreBytes-nil, Reads-then, Reads-same, Mapped, Reads-map, Reads-only}
use Rattle.erl_term.proofs.Tags.{suc_not}
use Rattle.erl_term.proofs.Base.{guard_ok, guard_err, ok_is, AreBytes-padded, AreBytes-take}
use Rattle.erl_term.proofs.Base.{Reads-any, IsNumberTo, number_err, Reads-number}

-- ---- a part of so many bytes

pub record IsPart (n : ℕ) (a b : List ℕ) : Type 0 where
  pub same : b ≡ a
  pub len : length a ≡ n
  pub are_bytes : AreBytes a

part_takes : (n : ℕ) (bytes a rest : List ℕ) → AreBytes bytes → read_part n bytes ≡ Ok (a, rest) → Takes (IsPart n) bytes a rest
part_takes n bytes a rest h e =
    let g = guard_ok (ltb (length bytes) n) Cut (Ok (take n bytes, drop n bytes)) (a, rest) e in
    let long : n ≤ length bytes = ltb-false _ _ g.0 in
    let both : (take n bytes, drop n bytes) ≡ (a, rest) = ok_is _ _ g.1 in
    let a-is : take n bytes ≡ a = ap (λ (p : List ℕ × List ℕ). p.0) both in
    let rest-is : drop n bytes ≡ rest = ap (λ (p : List ℕ × List ℕ). p.1) both in
    record {
      text = take n bytes;
      is_text = record {
        same = a-is;
        len = ap length (sym a-is) ∙ omega (arith, length-take n bytes);
        are_bytes = subst AreBytes a-is (AreBytes-take n bytes h);
      };
      parts = sym (take-append-drop n bytes) ∙ ap (λ (r : List ℕ). take n bytes ++ r) rest-is;
    }

part_again : (n : ℕ) (a text rest : List ℕ) → IsPart n a text → read_part n (text ++ rest) ≡ Ok (a, rest)
part_again n a text rest s =
    let len : length text ≡ n = ap length s.same ∙ s.len in
    let long : ltb (length (text ++ rest)) n ≡ false = le-ltb _ _ (omega (arith, length-append text rest)) in
    rw (long, take_at text rest n len, drop_at text rest n len, s.same) refl

pub part_cut : (n : ℕ) (bytes : List ℕ) (e : TermError) → read_part n bytes ≡ Err e → (length bytes < n) × (e ≡ Cut)
part_cut n bytes e h =
    elim (guard_err (ltb (length bytes) n) Cut (Ok (take n bytes, drop n bytes)) e h) [
      | inl p ↦ (ltb-true _ _ p.0, sym p.1)
      | inr p ↦ absurd (let q = p.1 in cc)
    ]

pub Reads-part : (n : ℕ) → Reads (IsPart n) (read_part n)
Reads-part n = record {
  takes = part_takes n;
  again = part_again n;
  stable = λ bytes more e h c k. absurd (c (part_cut n bytes e k).1);
  goes_on = λ bytes h e.
      let short = (part_cut n bytes Cut e).0 in
      let m = n - length bytes in
      record {
        value = bytes ++ replicate m 0;
        more = replicate m 0;
        is_text = record {
          same = refl;
          len = omega (arith, length-append bytes (replicate m 0), length-replicate {A = ℕ} m 0);
          are_bytes = AreBytes-padded bytes m h;
        };
      };
  starts = λ e k. (part_cut n [] e k).1;
}

-- ---- letters of Latin-1

abbrev pub Letters : ℕ → List ℕ → List ℕ → Type 0
Letters width = Then (IsNumberTo 255 width) IsPart

pub Reads-letters : (width : ℕ) → Reads (Letters width) (read_letters width)
unfolding read_letters
Reads-letters width =
    Reads-then (IsNumberTo 255 width) IsPart (read_bounded Malformed 255 width) read_part
    (Reads-number Malformed 255 width (λ e. cc)) (λ n text s. Reads-part n)

abbrev pub LatinText : ℕ → List ℕ → List ℕ → Type 0
LatinText width = Mapped latin_text (Letters width)

pub Reads-latin : (width : ℕ) → Reads (LatinText width) (read_latin width)
unfolding read_latin
Reads-latin width = Reads-map latin_text (Letters width) (read_letters width) (Reads-letters width)

letters_scalars : (letters : List ℕ) → AreBytes letters → scalars letters ≡ true
letters_scalars [] h = refl
letters_scalars (x ∷ xs) h =
    let one = low_scalar x (let k = h 0 in omega arith) in let more = letters_scalars xs (λ i. h (suc i)) in rw (one, more) refl

pub latin_chars : (letters : List ℕ) → AreBytes letters → chars (latin_text letters) ≡ letters
unfolding latin_text
latin_chars letters h = chars-encodes letters (letters_scalars letters h)

pub latin_utf8 : (letters : List ℕ) → AreBytes letters → IsUtf8 (latin_text letters)
unfolding latin_text
latin_utf8 letters h = (letters, (letters_scalars letters h, refl))

pub chars_latin : (a : List ℕ) → IsUtf8 a → latin_text (chars a) ≡ a
unfolding latin_text
chars_latin a u = encodes-chars a u

-- one letter more, as a loop writes it
pub latin_more : (letters : List ℕ) (i : ℕ) (old new : List ℕ) → i < length letters → old ≡ encode_utf8_all (take i letters)
    → new ≡ old ++ encode (get_or letters i 0) → new ≡ encode_utf8_all (take (i + 1) letters)
latin_more letters i old new lt so_far more =
    let front : take (i + 1) letters ≡ take i letters ++ get_or letters i 0 ∷ [] = take_more letters i 0 lt in
    more ∙ ap (λ (w : List ℕ). w ++ encode (get_or letters i 0)) so_far
    ∙ ap (λ (w : List ℕ). encode_utf8_all (take i letters) ++ w) (sym (append-nil (encode (get_or letters i 0))))
    ∙ sym (encodes-append (take i letters) (get_or letters i 0 ∷ []))
    ∙ ap encode_utf8_all (sym front)

pub latin_count : (letters : List ℕ) (i : ℕ) (text : List ℕ) → AreBytes letters → length letters ≤ i
    → text ≡ encode_utf8_all (take i letters) → length (chars text) ≡ length letters
unfolding latin_text
latin_count letters i text h le e =
    ap (λ (w : List ℕ). length (chars w)) (e ∙ ap encode_utf8_all (take_all i letters le)) ∙ ap length (latin_chars letters h)

pub latin_to : (tag width : ℕ) (a back b : List ℕ) → b ≡ tag ∷ back → LatinText width a back → IsLatinAtom tag width a b
latin_to tag width a back b e s =
    let l = s.is_text in
    let p = l.is_back in
    let same : chars a ≡ s.value = ap chars s.made ∙ latin_chars s.value p.are_bytes in
    let count : l.value ≡ length (chars a) = sym p.len ∙ ap length (sym same) in
    let le = l.is_front.bound in
    record {
      len = l.front;
      is_text = record { utf8 = subst IsUtf8 (sym s.made) (latin_utf8 s.value p.are_bytes); short = omega arith };
      is_latin = subst AreBytes (sym same) p.are_bytes;
      number = subst (λ (n : ℕ). IsNumber width n l.front) count l.is_front.number;
      bytes = e ∙ ap (λ (w : List ℕ). tag ∷ w) (l.parts ∙ ap (λ (w : List ℕ). l.front ++ w) (p.same ∙ sym same));
    }

pub latin_back : (tag width : ℕ) (a b : List ℕ) → IsLatinAtom tag width a b → (back : List ℕ) × LatinText width a back × (b ≡ tag ∷ back)
latin_back tag width a b s = (
  s.len ++ chars a,
  record {
    value = chars a;
    is_text = record {
      value = length (chars a);
      front = s.len;
      back = chars a;
      is_front = record { number = s.number; bound = s.is_text.short };
      is_back = record { same = refl; len = refl; are_bytes = s.is_latin };
      parts = refl;
    };
    made = sym (chars_latin a s.is_text.utf8);
  },
  s.bytes,
)

-- ---- strings and binaries

abbrev pub Sized : {A : Type 0} → ℕ → (List ℕ → A) → A → List ℕ → Type 0
Sized width f = Then (IsNumber width) (λ n. Mapped f (IsPart n))

abbrev pub sized_at : {A : Type 0} → ℕ → (List ℕ → A) → List ℕ → Read A
sized_at width f = and_then (read_number width) (λ n bytes. read_part n bytes >>= λ part. Ok (f part.0, part.1))

pub Reads-sized : {A : Type 0} (width : ℕ) (f : List ℕ → A) → Reads (Sized width f) (sized_at width f)
Reads-sized width f =
    Reads-then (IsNumber width) (λ n. Mapped f (IsPart n)) (read_number width)
    (λ n bytes. read_part n bytes >>= λ part. Ok (f part.0, part.1)) (Reads-any width)
    (λ n text s. Reads-map f (IsPart n) (read_part n) (Reads-part n))

abbrev pub listed : List ℕ → Data
listed letters = list (byte_items letters)

pub Reads-string : Reads (Sized 2 listed) read_string
unfolding read_string
Reads-string = Reads-sized 2 listed

pub Reads-binary : Reads (Sized 4 binary) read_binary
unfolding read_binary
Reads-binary = Reads-sized 4 binary

pub string_to : (t : Data) (back b : List ℕ) → b ≡ 107 ∷ back → Sized 2 listed t back → (letters : List ℕ)
    × (t ≡ listed letters) × IsString (byte_items letters) b
string_to t back b e s =
    let m = s.is_back in
    let p = m.is_text in (
      m.value,
      m.made,
      record {
        len = s.front;
        letters = m.value;
        are_bytes = p.are_bytes;
        number = subst (λ (n : ℕ). IsNumber 2 n s.front) (sym p.len) s.is_front;
        value = refl;
        bytes = e ∙ ap (λ (w : List ℕ). 107 ∷ w) (s.parts ∙ ap (λ (w : List ℕ). s.front ++ w) p.same);
      },
    )

pub binary_to : (t : Data) (back b : List ℕ) → b ≡ 109 ∷ back → Sized 4 binary t back → (a : List ℕ) × (t ≡ binary a) × IsBinary a b
binary_to t back b e s =
    let m = s.is_back in
    let p = m.is_text in (
      m.value,
      m.made,
      record {
        len = s.front;
        are_bytes = p.are_bytes;
        number = subst (λ (n : ℕ). IsNumber 4 n s.front) (sym p.len) s.is_front;
        bytes = e ∙ ap (λ (w : List ℕ). 109 ∷ w) (s.parts ∙ ap (λ (w : List ℕ). s.front ++ w) p.same);
      },
    )

pub sized_back : {A : Type 0} (width : ℕ) (f : List ℕ → A) (a len : List ℕ) → AreBytes a → IsNumber width (length a) len
    → Sized width f (f a) (len ++ a)
sized_back width f a len h num = record {
  value = length a;
  front = len;
  back = a;
  is_front = num;
  is_back = record { value = a; is_text = record { same = refl; len = refl; are_bytes = h }; made = refl };
  parts = refl;
}

-- ---- words

pub record IsWordCount (n : ℕ) (b : List ℕ) : Type 0 where
  pub number : IsNumber 2 n b
  pub some : 1 ≤ n
  pub few : n ≤ 5

abbrev judged : ℕ × List ℕ → Read ℕ
judged n = cond (eqb n.0 0) (Err Malformed) (Ok n)

-- how it answers, by cases
data Counts (bytes : List ℕ) (r : Read ℕ) : Type 0 where
  counts_err : (e : TermError) → read_bounded Malformed 5 2 bytes ≡ Err e → r ≡ Err e → Counts bytes r
  counts_none : (rest : List ℕ) → read_bounded Malformed 5 2 bytes ≡ Ok (0, rest) → r ≡ Err Malformed → Counts bytes r
  counts : (n : ℕ) (rest : List ℕ) → read_bounded Malformed 5 2 bytes ≡ Ok (n, rest) → 1 ≤ n → r ≡ Ok (n, rest) → Counts bytes r

counts_by : (bytes : List ℕ) (n : ℕ) (rest : List ℕ) (b : Bool) → eqb n 0 ≡ b → read_bounded Malformed 5 2 bytes ≡ Ok (n, rest)
    → Counts bytes (cond b (Err Malformed) (Ok (n, rest)))
counts_by bytes n rest true e k = counts_none rest (k ∙ ap (λ (m : ℕ). Ok (m, rest)) (eqb-true n 0 e)) refl
counts_by bytes n rest false e k = counts n rest k (some n e) refl
  where
    some : (n : ℕ) → eqb n 0 ≡ false → 1 ≤ n
    some zero e = absurd cc
    some (suc n) e = omega arith

counts_of : (bytes : List ℕ) → Known (read_bounded Malformed 5 2 bytes) → Counts bytes (read_word_count bytes)
unfolding read_word_count
counts_of bytes (is_err e k) = counts_err e k (err_of_bind (read_bounded Malformed 5 2 bytes) judged e k)
counts_of bytes (is_ok x k) =
    subst (Counts bytes) (sym (ok_of_bind (read_bounded Malformed 5 2 bytes) judged x k)) (counts_by bytes x.0 x.1 _ refl k)

count_is : (bytes : List ℕ) → Counts bytes (read_word_count bytes)
count_is bytes = counts_of bytes (known (read_bounded Malformed 5 2 bytes))

Reads-to5 : Reads (IsNumberTo 5 2) (read_bounded Malformed 5 2)
Reads-to5 = Reads-number Malformed 5 2 (λ e. cc)

count_takes : (bytes : List ℕ) (n : ℕ) (rest : List ℕ) → AreBytes bytes → Counts bytes (read_word_count bytes)
    → read_word_count bytes ≡ Ok (n, rest) → Takes IsWordCount bytes n rest
count_takes bytes n rest h (counts_err e k r) eq = absurd cc
count_takes bytes n rest h (counts_none s k r) eq = absurd cc
count_takes bytes n rest h (counts m s k some r) eq =
    let same : (m, s) ≡ (n, rest) = ok_is _ _ (sym r ∙ eq) in
    let m-is : m ≡ n = ap (λ (q : ℕ × List ℕ). q.0) same in
    let t = Reads-to5.takes bytes n rest h (k ∙ ap (λ (q : ℕ × List ℕ). Ok q) same) in
    record { text = t.text; is_text = record { number = t.is_text.number; some = omega arith; few = t.is_text.bound }; parts = t.parts }

count_again : (n : ℕ) (text rest : List ℕ) → IsWordCount n text → read_word_count (text ++ rest) ≡ Ok (n, rest)
unfolding read_word_count
count_again n text rest s =
    let k = Reads-to5.again n text rest (record { number = s.number; bound = s.few }) in
    ok_of_bind (read_bounded Malformed 5 2 (text ++ rest)) judged (n, rest) k ∙ some n s.some
  where
    some : (n : ℕ) → 1 ≤ n → judged (n, rest) ≡ Ok (n, rest)
    some zero le = absurd (omega arith)
    some (suc n) le = rw (suc_not n) refl

count_stable : (bytes more : List ℕ) (e : TermError) → AreBytes bytes → e ≢ Cut → Counts bytes (read_word_count bytes)
    → read_word_count bytes ≡ Err e → read_word_count (bytes ++ more) ≡ Err e
unfolding read_word_count
count_stable bytes more e h c (counts n rest k some r) eq = absurd cc
count_stable bytes more e h c (counts_err f k r) eq =
    let k2 : read_bounded Malformed 5 2 bytes ≡ Err e = k ∙ sym r ∙ eq in
    err_of_bind (read_bounded Malformed 5 2 (bytes ++ more)) judged e (Reads-to5.stable bytes more e h c k2)
count_stable bytes more e h c (counts_none rest k r) eq =
    let t = Reads-to5.takes bytes 0 rest h k in
    let k2 : read_bounded Malformed 5 2 (bytes ++ more) ≡ Ok (0, rest ++ more) =
    ap (read_bounded Malformed 5 2) (ap (λ (w : List ℕ). w ++ more) t.parts ∙ append_assoc t.text rest more)
    ∙ Reads-to5.again 0 t.text (rest ++ more) t.is_text in
    ok_of_bind (read_bounded Malformed 5 2 (bytes ++ more)) judged (0, rest ++ more) k2 ∙ sym r ∙ eq

one_word : (b : List ℕ) → b ≡ 0 ∷ 1 ∷ [] → IsWordCount 1 b
one_word b e =
    subst (IsWordCount 1) (sym e)
    (record { number = record { len = refl; bytes = fit; says = refl }; some = omega arith; few = omega arith })
  where
    fit : AreBytes (0 ∷ 1 ∷ [])
    fit zero = omega arith
    fit (suc zero) = omega arith
    fit (suc (suc i)) = AreBytes-nil i

count_begins : (bytes : List ℕ) → length bytes < 2 → big_number 2 bytes ≤ 5 → Begins IsWordCount bytes
count_begins [] lt le = record { value = 1; more = 0 ∷ 1 ∷ []; is_text = one_word (0 ∷ 1 ∷ []) refl }
count_begins (b ∷ []) lt le =
    let z : b ≡ 0 = omega arith in record { value = 1; more = 1 ∷ []; is_text = one_word (b ∷ 1 ∷ []) (ap (λ (j : ℕ). j ∷ 1 ∷ []) z) }
count_begins (b ∷ c ∷ bytes) lt le = absurd (omega arith)

count_goes_on : (bytes : List ℕ) → Counts bytes (read_word_count bytes) → read_word_count bytes ≡ Err Cut → Begins IsWordCount bytes
count_goes_on bytes (counts n rest k some r) eq = absurd cc
count_goes_on bytes (counts_none rest k r) eq = absurd (let q : Err Malformed ≡ Err Cut = sym r ∙ eq in cc)
count_goes_on bytes (counts_err f k r) eq =
    elim (number_err Malformed 5 2 bytes Cut (k ∙ sym r ∙ eq)) as (λ _. Begins IsWordCount bytes) [
      | inl p ↦ absurd (let q = p.1 in cc)
      | inr p ↦ count_begins bytes p.1 p.0
    ]

count_starts : (e : TermError) → Counts [] (read_word_count []) → read_word_count [] ≡ Err e → e ≡ Cut
count_starts e (counts n rest k some r) eq = absurd cc
count_starts e (counts_none rest k r) eq = let z : Err Cut ≡ Ok (0, rest) = k in absurd cc
count_starts e (counts_err f k r) eq = Reads-to5.starts e (k ∙ sym r ∙ eq)

pub Reads-word_count : Reads IsWordCount read_word_count
Reads-word_count = record {
  takes = λ bytes n rest h e. count_takes bytes n rest h (count_is bytes) e;
  again = count_again;
  stable = λ bytes more e h c k. count_stable bytes more e h c (count_is bytes) k;
  goes_on = λ bytes h e. count_goes_on bytes (count_is bytes) e;
  starts = λ e k. count_starts e (count_is []) k;
}

-- why it is at fault
pub word_count_why : (bytes : List ℕ) (e : TermError) → e ≢ Cut → read_word_count bytes ≡ Err e → e ≡ Malformed
word_count_why bytes e c eq = by (count_is bytes)
  where
    by : Counts bytes (read_word_count bytes) → e ≡ Malformed
    by (counts n rest k some r) = absurd cc
    by (counts_none rest k r) = let q : Err e ≡ Err Malformed = sym eq ∙ r in cc
    by (counts_err f k r) =
        elim (number_err Malformed 5 2 bytes e (k ∙ sym r ∙ eq)) as (λ _. e ≡ Malformed) [
          | inl p ↦ sym p.1
          | inr p ↦ absurd (c p.2)
        ]

abbrev pub Counted : ℕ → List ℕ → List ℕ → Type 0
Counted n ws b = (length ws ≡ n) × AreWords ws b

no_words : (ws b : List ℕ) → Counted 0 ws b → IsOnly [] ws b
no_words [] b s = (refl, s.1)
no_words (w ∷ ws) b s = absurd (let e = s.0 in omega arith)

words_to : (n : ℕ) (ws b : List ℕ) → Then (IsNumber 4) (λ w. Mapped (λ (us : List ℕ). w ∷ us) (Counted n)) ws b → Counted (suc n) ws b
words_to n ws b s =
    subst (λ us. Counted (suc n) us b) (sym s.is_back.made)
    (ap suc s.is_back.is_text.0, (s.front, s.back, s.is_front, s.is_back.is_text.1, s.parts))

words_back : (n : ℕ) (ws b : List ℕ) → Counted (suc n) ws b → Then (IsNumber 4) (λ w. Mapped (λ (us : List ℕ). w ∷ us) (Counted n)) ws b
words_back n [] b s = absurd (let e = s.0 in omega arith)
words_back n (w ∷ ws) b s =
    let same : length ws ≡ n = let e = s.0 in omega arith in
    record {
      value = w;
      front = s.1.0;
      back = s.1.1;
      is_front = s.1.2;
      is_back = record { value = ws; is_text = (same, s.1.3); made = refl };
      parts = s.1.4;
    }

abbrev pub words_after : ℕ → ℕ → List ℕ → Read (List ℕ)
words_after n w bytes = read_words n bytes >>= λ ws. Ok (w ∷ ws.0, ws.1)

pub Reads-words : (n : ℕ) → Reads (Counted n) (read_words n)
unfolding read_words
Reads-words zero =
    Reads-same (IsOnly []) (Counted 0) (λ bytes. Ok ([], bytes))
    (λ ws b s. subst (λ us. Counted 0 us b) (sym s.0) (refl, s.1)) no_words (Reads-only [])
Reads-words (suc n) =
    Reads-same (Then (IsNumber 4) (λ w. Mapped (λ (us : List ℕ). w ∷ us) (Counted n))) (Counted (suc n))
    (and_then (read_number 4) (words_after n)) (words_to n) (words_back n)
    (Reads-then (IsNumber 4) (λ w. Mapped (λ (us : List ℕ). w ∷ us) (Counted n)) (read_number 4) (words_after n) (Reads-any 4)
    (λ w text s. Reads-map (λ (us : List ℕ). w ∷ us) (Counted n) (read_words n) (Reads-words n)))
