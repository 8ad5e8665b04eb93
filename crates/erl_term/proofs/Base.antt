-- The readers of single fields.
use Rattle.std.proofs.Common.{◌≡◌, ◌≢◌, ℕ, zero, suc, ◌-◌, ◌*◌, ◌^◌, ◌<◌, ◌≤◌, Bool, true, false, cond, ltb, List, [], ◌∷◌, ◌++◌, length}
use Rattle.std.proofs.Common.{get_or, take, drop, Result, Ok, Err, refl, sym, ap, subst, ◌∙◌, append_assoc, arith, ◌⊎◌, inl, inr}
use Rattle.std.specs.Prelude.{replicate}
use Rattle.std.proofs.Math.Nat.{mul-le-mul_right, zero-mul}
use Rattle.std.proofs.lemmas.Bool.{cases_lt, ltb-false, ltb-true, le-ltb, lt-ltb}
use Rattle.std.proofs.lemmas.List.{drop_at, take-append-drop, length-append, length-take, length-replicate}
use Rattle.std.proofs.lemmas.List.{get_or-take, get_or_past, get_or_append_left, get_or-append_right, get_or-replicate}
use Rattle.byteorder.specs.Endian.{big_from, big_number}
use Rattle.erl_term.specs.declared.error.TermError.{TermError}
use Rattle.erl_term.specs.declared.error.TermError.TheVariants.{Cut}
use Rattle.erl_term.specs.Numbers.{AreBytes}
use Rattle.erl_term.specs.Spelling.{IsNumber}
use Rattle.erl_term.specs.Reading.{Read, ◌>>=◌, read_number, read_bounded}
use Rattle.erl_term.proofs.Fields.{big_from-agree}
use Rattle.erl_term.proofs.Readers.{Takes, Begins, Reads, Known, known, is_ok, is_err, err_of_bind, ok_of_bind, and_then}

pub guard_ok : {A : Type 0} (b : Bool) (d : TermError) (r : Result A TermError) (x : A) → cond b (Err d) r ≡ Ok x → (b ≡ false) × (r ≡ Ok x)
guard_ok true d r x e = absurd cc
guard_ok false d r x e = (refl, e)

pub guard_err : {A : Type 0} (b : Bool) (d : TermError) (r : Result A TermError) (f : TermError) → cond b (Err d) r ≡ Err f
    → ((b ≡ true) × (d ≡ f)) ⊎ ((b ≡ false) × (r ≡ Err f))
guard_err true d r f e = inl (refl, cc)
guard_err false d r f e = inr (refl, e)

abbrev done : {A : Type 0} → A → Result A TermError
done x = Ok x

pub ok_is : {A : Type 0} (x y : A) → done x ≡ done y → x ≡ y
ok_is x y e = cc

-- ---- numbers

pub big_number-front : (n : ℕ) (text rest : List ℕ) → n ≤ length text → big_number n (text ++ rest) ≡ big_number n text
big_number-front n text rest le = big_from-agree 0 n (text ++ rest) text (λ k lt. get_or_append_left text rest 0 k (omega arith))

pub big_number-take : (n : ℕ) (bytes : List ℕ) → big_number n (take n bytes) ≡ big_number n bytes
big_number-take n bytes = big_from-agree 0 n (take n bytes) bytes (λ k lt. get_or-take n bytes k 0 (omega arith))

zero_at : (m k : ℕ) → get_or {A = ℕ} (replicate m 0) k 0 ≡ 0
zero_at m k =
    elim (cases_lt k m) [
      | inl lt ↦ get_or-replicate m k 0 0 lt
      | inr le ↦ get_or_past (replicate m 0) k 0 (omega (arith, length-replicate {A = ℕ} m 0))
    ]

pub padded_at : (bytes : List ℕ) (m k : ℕ) → get_or (bytes ++ replicate m 0) k 0 ≡ get_or bytes k 0
padded_at bytes m k =
    elim (cases_lt k (length bytes)) [
      | inl lt ↦ get_or_append_left bytes (replicate m 0) 0 k lt
      | inr le ↦
          get_or-append_right bytes (replicate m 0) (length bytes) k 0 refl le ∙ zero_at m (k - length bytes)
          ∙ sym (get_or_past bytes k 0 le)
    ]

pub big_number-padded : (n : ℕ) (bytes : List ℕ) (m : ℕ) → big_number n (bytes ++ replicate m 0) ≡ big_number n bytes
big_number-padded n bytes m = big_from-agree 0 n _ bytes (λ k lt. padded_at bytes m k)

pub AreBytes-padded : (bytes : List ℕ) (m : ℕ) → AreBytes bytes → AreBytes (bytes ++ replicate m 0)
AreBytes-padded bytes m h i = rw (padded_at bytes m i) (h i)

pub AreBytes-take : (n : ℕ) (bytes : List ℕ) → AreBytes bytes → AreBytes (take n bytes)
AreBytes-take n bytes h i =
    elim (cases_lt i n) [
      | inl lt ↦ rw (get_or-take n bytes i 0 lt) (h i)
      | inr le ↦ rw (get_or_past (take n bytes) i 0 (omega (arith, length-take n bytes))) (omega arith)
    ]

big_from-le : (i n : ℕ) (xs ys : List ℕ) → ((k : ℕ) → get_or xs k 0 ≤ get_or ys k 0) → big_from i n xs ≤ big_from i n ys
big_from-le i zero xs ys h = omega arith
big_from-le i (suc n) xs ys h =
    let one : get_or xs i 0 * 256 ^ n ≤ get_or ys i 0 * 256 ^ n = mul-le-mul_right (256 ^ n) (h i) in
    let more : big_from (suc i) n xs ≤ big_from (suc i) n ys = big_from-le (suc i) n xs ys h in
    omega arith

more_at : (bytes more : List ℕ) (k : ℕ) → get_or bytes k 0 ≤ get_or (bytes ++ more) k 0
more_at bytes more k =
    elim (cases_lt k (length bytes)) [
      | inl lt ↦ let e = get_or_append_left bytes more 0 k lt in omega (arith, e)
      | inr le ↦ let e = get_or_past bytes k 0 le in omega (arith, e)
    ]

pub big_number-grows : (n : ℕ) (bytes more : List ℕ) → big_number n bytes ≤ big_number n (bytes ++ more)
big_number-grows n bytes more = big_from-le 0 n bytes (bytes ++ more) (more_at bytes more)

big_from-nil : (i n : ℕ) → big_from i n [] ≡ 0
big_from-nil i zero = refl
big_from-nil i (suc n) =
    let e = big_from-nil (suc i) n in let z : get_or {A = ℕ} [] i 0 ≡ 0 = get_or_past [] i 0 (omega arith) in
    rw (z, e) (omega (arith, zero-mul (256 ^ n)))

pub any_takes : (n : ℕ) (bytes : List ℕ) (k : ℕ) (rest : List ℕ) → AreBytes bytes → read_number n bytes ≡ Ok (k, rest)
    → (n ≤ length bytes) × IsNumber n k (take n bytes) × (rest ≡ drop n bytes) × (k ≡ big_number n bytes)
any_takes n bytes k rest h e =
    let g = guard_ok (ltb (length bytes) n) Cut (Ok (big_number n bytes, drop n bytes)) (k, rest) e in
    let long : n ≤ length bytes = ltb-false _ _ g.0 in
    let both : (big_number n bytes, drop n bytes) ≡ (k, rest) = ok_is _ _ g.1 in
    let k-is : big_number n bytes ≡ k = ap (λ (p : ℕ × List ℕ). p.0) both in
    let rest-is : drop n bytes ≡ rest = ap (λ (p : ℕ × List ℕ). p.1) both in (
      long,
      record { len = omega (arith, length-take n bytes); bytes = AreBytes-take n bytes h; says = big_number-take n bytes ∙ k-is },
      sym rest-is,
      sym k-is,
    )

any_again : (n k : ℕ) (text rest : List ℕ) → IsNumber n k text → read_number n (text ++ rest) ≡ Ok (k, rest)
any_again n k text rest s =
    let long : ltb (length (text ++ rest)) n ≡ false = le-ltb _ _ (omega (arith, length-append text rest, s.len)) in
    let says : big_number n (text ++ rest) ≡ k = big_number-front n text rest (omega (arith, s.len)) ∙ s.says in
    rw (long, says, drop_at text rest n s.len) refl

pub any_cut : (n : ℕ) (bytes : List ℕ) (e : TermError) → read_number n bytes ≡ Err e → (length bytes < n) × (e ≡ Cut)
any_cut n bytes e h =
    elim (guard_err (ltb (length bytes) n) Cut (Ok (big_number n bytes, drop n bytes)) e h) [
      | inl p ↦ (ltb-true _ _ p.0, sym p.1)
      | inr p ↦ absurd (let q = p.1 in cc)
    ]

pub any_begins : (n : ℕ) (bytes : List ℕ) → AreBytes bytes → length bytes < n
    → IsNumber n (big_number n bytes) (bytes ++ replicate (n - length bytes) 0)
any_begins n bytes h lt = record {
  len = omega (arith, length-append bytes (replicate (n - length bytes) 0), length-replicate {A = ℕ} (n - length bytes) 0);
  bytes = AreBytes-padded bytes (n - length bytes) h;
  says = big_number-padded n bytes (n - length bytes);
}

pub Reads-any : (n : ℕ) → Reads (IsNumber n) (read_number n)
Reads-any n = record {
  takes = λ bytes k rest h e. let t = any_takes n bytes k rest h e in record
      { text = take n bytes; is_text = t.1; parts = sym (take-append-drop n bytes) ∙ ap (λ (r : List ℕ). take n bytes ++ r) (sym t.2) };
  again = any_again n;
  stable = λ bytes more e h c k. absurd (c (any_cut n bytes e k).1);
  goes_on = λ bytes h e. record
      { value = big_number n bytes; more = replicate (n - length bytes) 0; is_text = any_begins n bytes h (any_cut n bytes Cut e).0 };
  starts = λ e k. (any_cut n [] e k).1;
}

-- a number of at most `most`
pub record IsNumberTo (most width n : ℕ) (b : List ℕ) : Type 0 where
  pub number : IsNumber width n b
  pub bound : n ≤ most

pub number_err : (fault : TermError) (most n : ℕ) (bytes : List ℕ) (e : TermError) → read_bounded fault most n bytes ≡ Err e
    → ((most < big_number n bytes) × (fault ≡ e)) ⊎ ((big_number n bytes ≤ most) × (length bytes < n) × (e ≡ Cut))
number_err fault most n bytes e h =
    elim (guard_err (ltb most (big_number n bytes)) fault (read_number n bytes) e h) [
      | inl p ↦ inl (ltb-true _ _ p.0, p.1)
      | inr p ↦ let c = any_cut n bytes e p.1 in inr (ltb-false _ _ p.0, c.0, c.1)
    ]

pub Reads-number : (fault : TermError) (most n : ℕ) → fault ≢ Cut → Reads (IsNumberTo most n) (read_bounded fault most n)
Reads-number fault most n c = record {
  takes = λ bytes k rest h e.
      let g = guard_ok (ltb most (big_number n bytes)) fault (read_number n bytes) (k, rest) e in
      let t = any_takes n bytes k rest h g.1 in
      let le : big_number n bytes ≤ most = ltb-false _ _ g.0 in
      record {
        text = take n bytes;
        is_text = record { number = t.1; bound = omega (arith, t.3, le) };
        parts = sym (take-append-drop n bytes) ∙ ap (λ (r : List ℕ). take n bytes ++ r) (sym t.2);
      };
  again = λ k text rest s.
      let says : big_number n (text ++ rest) ≡ k = big_number-front n text rest (omega (arith, s.number.len)) ∙ s.number.says in
      let low : ltb most (big_number n (text ++ rest)) ≡ false = le-ltb _ _ (omega (arith, says, s.bound)) in
      rw low (any_again n k text rest s.number);
  stable = λ bytes more e h nc k.
      elim (number_err fault most n bytes e k) as (λ _. read_bounded fault most n (bytes ++ more) ≡ Err e) [
        | inl p ↦
            let high : ltb most (big_number n (bytes ++ more)) ≡ true = lt-ltb _ _ (omega (arith, p.0, big_number-grows n bytes more)) in
            rw (high, p.1) refl
        | inr p ↦ absurd (nc p.2)
      ];
  goes_on = λ bytes h k.
      elim (number_err fault most n bytes Cut k) as (λ _. Begins (IsNumberTo most n) bytes) [
        | inl p ↦ absurd (c p.1)
        | inr p ↦ record {
          value = big_number n bytes;
          more = replicate (n - length bytes) 0;
          is_text = record { number = any_begins n bytes h p.1; bound = p.0 };
        }
      ];
  starts = λ e k.
      elim (number_err fault most n [] e k) as (λ _. e ≡ Cut) [
        | inl p ↦ absurd (omega (arith, p.0, big_from-nil 0 n))
        | inr p ↦ p.2
      ];
}

-- ---- a byte that passes a test

abbrev pub byte_where : (ℕ → Bool) → (ℕ → TermError) → List ℕ → Read ℕ
byte_where test fault bytes = read_number 1 bytes >>= λ b. cond (test b.0) (Ok (b.0, b.1)) (Err (fault b.0))

pub record IsByteWhere (test : ℕ → Bool) (k : ℕ) (b : List ℕ) : Type 0 where
  pub passes : test k ≡ true
  pub number : IsNumber 1 k b

chosen_ok : {A : Type 0} (b : Bool) (x : A) (d : TermError) (y : A) → cond b (Ok x) (Err d) ≡ Ok y → (b ≡ true) × (x ≡ y)
chosen_ok true x d y e = (refl, cc)
chosen_ok false x d y e = absurd cc

chosen_err : {A : Type 0} (b : Bool) (x : A) (d f : TermError) → cond b (Ok x) (Err d) ≡ Err f → (b ≡ false) × (d ≡ f)
chosen_err true x d f e = absurd cc
chosen_err false x d f e = (refl, cc)

abbrev pub judged : (ℕ → Bool) → (ℕ → TermError) → ℕ × List ℕ → Read ℕ
judged test fault b = cond (test b.0) (Ok (b.0, b.1)) (Err (fault b.0))

where_takes : (test : ℕ → Bool) (fault : ℕ → TermError) (bytes : List ℕ) (k : ℕ) (rest : List ℕ) → AreBytes bytes
    → Known (read_number 1 bytes) → byte_where test fault bytes ≡ Ok (k, rest) → Takes (IsByteWhere test) bytes k rest
where_takes test fault bytes k rest h (is_err e p) eq = absurd (let x = err_of_bind (read_number 1 bytes) (judged test fault) e p in cc)
where_takes test fault bytes k rest h (is_ok x p) eq =
    let l = sym (ok_of_bind (read_number 1 bytes) (judged test fault) x p) ∙ eq in
    let g = chosen_ok (test x.0) (x.0, x.1) (fault x.0) (k, rest) l in
    let k-is : x.0 ≡ k = ap (λ (q : ℕ × List ℕ). q.0) g.1 in
    let rest-is : x.1 ≡ rest = ap (λ (q : ℕ × List ℕ). q.1) g.1 in
    let t = (Reads-any 1).takes bytes x.0 x.1 h p in
    record {
      text = t.text;
      is_text = record { passes = ap test (sym k-is) ∙ g.0; number = subst (λ j. IsNumber 1 j t.text) k-is t.is_text };
      parts = t.parts ∙ ap (λ (r : List ℕ). t.text ++ r) rest-is;
    }

where_again : (test : ℕ → Bool) (fault : ℕ → TermError) (k : ℕ) (text rest : List ℕ) → IsByteWhere test k text
    → byte_where test fault (text ++ rest) ≡ Ok (k, rest)
where_again test fault k text rest s =
    ok_of_bind (read_number 1 (text ++ rest)) (judged test fault) (k, rest) ((Reads-any 1).again k text rest s.number) ∙ rw s.passes refl

pub where_err : (test : ℕ → Bool) (fault : ℕ → TermError) (bytes : List ℕ) (e : TermError) → Known (read_number 1 bytes)
    → byte_where test fault bytes ≡ Err e → (read_number 1 bytes ≡ Err e)
    ⊎ ((x : ℕ × List ℕ) × (read_number 1 bytes ≡ Ok x) × (test x.0 ≡ false) × (fault x.0 ≡ e))
where_err test fault bytes e (is_err f p) eq = let x = err_of_bind (read_number 1 bytes) (judged test fault) f p in inl (p ∙ cc)
where_err test fault bytes e (is_ok x p) eq =
    let l = sym (ok_of_bind (read_number 1 bytes) (judged test fault) x p) ∙ eq in
    let g = chosen_err (test x.0) (x.0, x.1) (fault x.0) e l in
    inr (x, p, g.0, g.1)

AreBytes-one : (k : ℕ) → k < 256 → AreBytes (k ∷ [])
AreBytes-one k lt zero = lt
AreBytes-one k lt (suc i) = let e : get_or {A = ℕ} [] i 0 ≡ 0 = get_or_past [] i 0 (omega arith) in omega arith

pub Reads-where : (test : ℕ → Bool) (fault : ℕ → TermError) → ((k : ℕ) → fault k ≢ Cut) → (k : ℕ) → test k ≡ true → k < 256
    → Reads (IsByteWhere test) (byte_where test fault)
Reads-where test fault c some passes low = record {
  takes = λ bytes k rest h e. where_takes test fault bytes k rest h (known (read_number 1 bytes)) e;
  again = where_again test fault;
  stable = λ bytes more e h nc k.
      elim (where_err test fault bytes e (known (read_number 1 bytes)) k) as (λ _. byte_where test fault (bytes ++ more) ≡ Err e) [
        | inl p ↦ err_of_bind (read_number 1 (bytes ++ more)) (judged test fault) e ((Reads-any 1).stable bytes more e h nc p)
        | inr p ↦
            let t = (Reads-any 1).takes bytes p.0.0 p.0.1 h p.1 in
            let there : read_number 1 (bytes ++ more) ≡ Ok (p.0.0, p.0.1 ++ more) =
            ap (read_number 1) (ap (λ (r : List ℕ). r ++ more) t.parts ∙ append_assoc t.text p.0.1 more)
            ∙ (Reads-any 1).again p.0.0 t.text (p.0.1 ++ more) t.is_text in
            ok_of_bind (read_number 1 (bytes ++ more)) (judged test fault) (p.0.0, p.0.1 ++ more) there ∙ rw (p.2, p.3) refl
      ];
  goes_on = λ bytes h k.
      elim (where_err test fault bytes Cut (known (read_number 1 bytes)) k) as (λ _. Begins (IsByteWhere test) bytes) [
        | inl p ↦ starts_with bytes (any_cut 1 bytes Cut p).0
        | inr p ↦ absurd (c p.0.0 p.3)
      ];
  starts = λ e k.
      elim (where_err test fault [] e (known (read_number 1 [])) k) as (λ _. e ≡ Cut) [
        | inl p ↦ (any_cut 1 [] e p).1
        | inr p ↦ absurd (let q = p.1 in cc)
      ];
}
  where
    one_byte : IsNumber 1 some (some ∷ [])
    one_byte = record { len = refl; bytes = AreBytes-one some low; says = omega arith }

    starts_with : (bytes : List ℕ) → length bytes < 1 → Begins (IsByteWhere test) bytes
    starts_with [] lt = record { value = some; more = some ∷ []; is_text = record { passes = passes; number = one_byte } }
    starts_with (b ∷ bytes) lt = absurd (omega arith)

-- a reader that goes on by the byte at the front, and is at fault where the byte fails the test
judged_then : {A : Type 0} (test : ℕ → Bool) (fault : ℕ → TermError) (row : ℕ → List ℕ → Read A) (k : ℕ) (rest : List ℕ) (b : Bool)
    → test k ≡ b → ((j : ℕ) (more : List ℕ) → test j ≡ false → row j more ≡ Err (fault j))
    → row k rest ≡ (judged test fault (k, rest) >>= λ x. row x.0 x.1)
judged_then test fault row k rest true e never = rw e refl
judged_then test fault row k rest false e never = rw e (never k rest e)

bind_where_at : {A : Type 0} (test : ℕ → Bool) (fault : ℕ → TermError) (row : ℕ → List ℕ → Read A) (bytes : List ℕ)
    → ((j : ℕ) (more : List ℕ) → test j ≡ false → row j more ≡ Err (fault j)) → Known (read_number 1 bytes)
    → and_then (read_number 1) row bytes ≡ and_then (byte_where test fault) row bytes
bind_where_at test fault row bytes never (is_err e p) = rw p refl
bind_where_at test fault row bytes never (is_ok x p) = rw p (judged_then test fault row x.0 x.1 _ refl never)

pub bind_where : {A : Type 0} (test : ℕ → Bool) (fault : ℕ → TermError) (row : ℕ → List ℕ → Read A) (bytes : List ℕ)
    → ((j : ℕ) (more : List ℕ) → test j ≡ false → row j more ≡ Err (fault j))
    → and_then (read_number 1) row bytes ≡ and_then (byte_where test fault) row bytes
bind_where test fault row bytes never = bind_where_at test fault row bytes never (known (read_number 1 bytes))
