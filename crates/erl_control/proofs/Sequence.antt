-- Readers in a row.
use Rattle.std.proofs.Common.{◌≡◌, ℕ, zero, suc, ◌^◌, ◌<◌, ◌≤◌, List, [], ◌∷◌, ◌++◌, length, Bool, true, false, ◌-◌, take, drop, get_or}
use Rattle.std.proofs.Common.{rules, nat_abs, Option, Some, None, Bor, refl, sym, ap, subst, ◌∙◌, append_assoc, arith}
use Rattle.std.proofs.lemmas.List.{take_all}
use Rattle.std.specs.Prelude.{ℤ, pos, negsuc, ◌==◌}
use Rattle.std.proofs.lemmas.Bool.{eqb-true}
use Rattle.std.proofs.lemmas.Int.{ints}
use Rattle.std.specs.Int.{w64, FitsUnsigned}
use Rattle.erl_term.specs.declared.term.Pid.{Pid}
use Rattle.erl_term.specs.Data.{Data, int, atom, pid}
use Rattle.erl_term.specs.Spelling.{Spells, IsSpelling}
use Rattle.erl_term.specs.declared.parts.TupleHead.{TupleHead}
use Rattle.erl_term.specs.Parts.{ReadsFront, IsTupleHead}
use Rattle.erl_term.specs.Reading.{read_term}
use Rattle.erl_term.proofs.Base.{ok_is}
use Rattle.erl_term.proofs.Table.{Reads-term}
use Rattle.erl_control.specs.declared.fields.TargetRef.{TargetRef}
use Rattle.erl_control.specs.declared.fields.TargetRef.TheVariants.{Pid as ByPid, Name as ByName}
use Rattle.erl_control.specs.Reading.{IsPair, IsOpening, IsNaturalText, IsRowHead, IsIdText, IsPidText, IsNameText, IsTargetText}

both_are : {A B : Type 0} (a : A) (b : B) (x : A × B) → a ≡ x.0 → b ≡ x.1 → (a, b) ≡ x
both_are a b x p q = ap (λ u. (u, b)) p ∙ ap (λ v. (x.0, v)) q

pub split_pair : (bytes text front back rest : List ℕ) → text ≡ front ++ back → bytes ≡ text ++ rest → bytes ≡ front ++ (back ++ rest)
split_pair bytes text front back rest p e = e ∙ ap (λ (w : List ℕ). w ++ rest) p ∙ append_assoc front back rest

pub first_none : {A B : Type 0} (S : A → List ℕ → Type 0) (T : B → List ℕ → Type 0) (bytes : List ℕ) → ReadsFront S bytes None
    → ReadsFront (IsPair S T) bytes None
first_none S T bytes r = record {
  takes = tt;
  again = λ x text rest s p. r.again x.0 s.front (s.back ++ rest) s.is_front (split_pair bytes text s.front s.back rest s.parts p);
}

pub second_none : {A B : Type 0} (S : A → List ℕ → Type 0) (T : B → List ℕ → Type 0) (bytes : List ℕ) (a : A × Bor (List ℕ))
    → ReadsFront S bytes (Some a) → ReadsFront T a.1.now None → ReadsFront (IsPair S T) bytes None
second_none S T bytes a r q = record {
  takes = tt;
  again = λ x text rest s p.
      let k = r.again x.0 s.front (s.back ++ rest) s.is_front (split_pair bytes text s.front s.back rest s.parts p) in
      q.again x.1 s.back rest s.is_back k.1;
}

pub both_some : {A B : Type 0} (S : A → List ℕ → Type 0) (T : B → List ℕ → Type 0) (bytes : List ℕ) (a : A × Bor (List ℕ))
    (b : B × Bor (List ℕ)) → ReadsFront S bytes (Some a) → ReadsFront T a.1.now (Some b) → ReadsFront (IsPair S T) bytes
    (Some ((a.0, b.0), b.1))
both_some S T bytes a b r q = record {
  takes = record {
    text = r.takes.text ++ q.takes.text;
    is_text = record { front = r.takes.text; back = q.takes.text; is_front = r.takes.is_text; is_back = q.takes.is_text; parts = refl };
    parts = r.takes.parts ∙ ap (λ (w : List ℕ). r.takes.text ++ w) q.takes.parts ∙ sym (append_assoc r.takes.text q.takes.text b.1.now);
  };
  again = λ x text rest s p.
      let k = r.again x.0 s.front (s.back ++ rest) s.is_front (split_pair bytes text s.front s.back rest s.parts p) in
      let l = q.again x.1 s.back rest s.is_back k.1 in
      (both_are a.0 b.0 x k.0 l.0, l.1);
}

-- ---- the version byte and the head

pub front_is : (bytes : List ℕ) (b : ℕ) → 1 ≤ length bytes → get_or bytes 0 0 ≡ b → bytes ≡ b ∷ take (length bytes - 1) (drop 1 bytes)
front_is [] b le e = absurd (omega arith)
front_is (x ∷ xs) b le e =
    let tail : take (length (x ∷ xs) - 1) xs ≡ xs = take_all (length (x ∷ xs) - 1) xs (omega arith) in
    ap (λ (y : ℕ). y ∷ xs) e ∙ ap (λ (w : List ℕ). b ∷ w) (sym tail)

unversioned : (bytes text head rest more : List ℕ) → text ≡ 131 ∷ head → bytes ≡ text ++ more → bytes ≡ 131 ∷ rest → rest ≡ head ++ more
unversioned bytes text head rest more t p e = let q : 131 ∷ rest ≡ 131 ∷ (head ++ more) = sym e ∙ p ∙ ap (λ (w : List ℕ). w ++ more) t in cc

pub opening : (bytes rest : List ℕ) (o : Option (TupleHead × Bor (List ℕ))) → bytes ≡ 131 ∷ rest
    → ReadsFront (IsTupleHead 64) rest o → ReadsFront IsOpening bytes o
opening bytes rest None e r = record {
  takes = tt;
  again = λ n text more s p. r.again n s.head more s.is_head (unversioned bytes text s.head rest more s.bytes p e);
}
opening bytes rest (Some x) e r = record {
  takes = record {
    text = 131 ∷ r.takes.text;
    is_text = record { head = r.takes.text; is_head = r.takes.is_text; bytes = refl };
    parts = e ∙ ap (λ (w : List ℕ). 131 ∷ w) r.takes.parts;
  };
  again = λ n text more s p. r.again n s.head more s.is_head (unversioned bytes text s.head rest more s.bytes p e);
}

pub unopened : (bytes : List ℕ) → ((rest : List ℕ) → bytes ≡ 131 ∷ rest → ⊥) → ReadsFront IsOpening bytes None
unopened bytes never = record { takes = tt; again = λ n text more s p. never (s.head ++ more) (p ∙ ap (λ (w : List ℕ). w ++ more) s.bytes) }

pub spelling : (bytes rest : List ℕ) (o : Option (Data × Bor (List ℕ))) → bytes ≡ 131 ∷ rest
    → ReadsFront (λ t b. Spells 64 t b) rest o → ReadsFront (IsSpelling 64) bytes o
spelling bytes rest None e r = record {
  takes = tt;
  again = λ t text more s p. r.again t s.term more s.spelled (unversioned bytes text s.term rest more s.bytes p e);
}
spelling bytes rest (Some x) e r = record {
  takes = record {
    text = 131 ∷ r.takes.text;
    is_text = record { term = r.takes.text; spelled = r.takes.is_text; bytes = refl };
    parts = e ∙ ap (λ (w : List ℕ). 131 ∷ w) r.takes.parts;
  };
  again = λ t text more s p. r.again t s.term more s.spelled (unversioned bytes text s.term rest more s.bytes p e);
}

-- ---- the head of a row

pub no_opening : (bytes : List ℕ) → ReadsFront IsOpening bytes None → ReadsFront IsRowHead bytes None
no_opening bytes r = record {
  takes = tt;
  again = λ x text rest s p. r.again x.0 s.front (s.back ++ rest) s.is_front (split_pair bytes text s.front s.back rest s.parts p);
}

-- the levels of the first element are those of the opening
natural_moved : (x y : TupleHead) (n : ℕ) (text : List ℕ) → x ≡ y → IsNaturalText y.levels n text → IsNaturalText x.levels n text
natural_moved x y n text e s = subst (λ (z : TupleHead). IsNaturalText z.levels n text) (sym e) s

pub no_first : (bytes : List ℕ) (a : TupleHead × Bor (List ℕ)) → ReadsFront IsOpening bytes (Some a)
    → ReadsFront (IsNaturalText a.0.levels) a.1.now None → ReadsFront IsRowHead bytes None
no_first bytes a r q = record {
  takes = tt;
  again = λ x text rest s p.
      let k = r.again x.0 s.front (s.back ++ rest) s.is_front (split_pair bytes text s.front s.back rest s.parts p) in
      q.again x.1 s.back rest (natural_moved a.0 x.0 x.1 s.back k.0 s.is_back) k.1;
}

pub row_head : (bytes : List ℕ) (a : TupleHead × Bor (List ℕ)) (b : ℕ × Bor (List ℕ)) → ReadsFront IsOpening bytes (Some a)
    → ReadsFront (IsNaturalText a.0.levels) a.1.now (Some b) → ReadsFront IsRowHead bytes (Some ((a.0, b.0), b.1))
row_head bytes a b r q = record {
  takes = record {
    text = r.takes.text ++ q.takes.text;
    is_text = record { front = r.takes.text; back = q.takes.text; is_front = r.takes.is_text; is_back = q.takes.is_text; parts = refl };
    parts = r.takes.parts ∙ ap (λ (w : List ℕ). r.takes.text ++ w) q.takes.parts ∙ sym (append_assoc r.takes.text q.takes.text b.1.now);
  };
  again = λ x text rest s p.
      let k = r.again x.0 s.front (s.back ++ rest) s.is_front (split_pair bytes text s.front s.back rest s.parts p) in
      let l = q.again x.1 s.back rest (natural_moved a.0 x.0 x.1 s.back k.0 s.is_back) k.1 in
      (both_are a.0 b.0 x k.0 l.0, l.1);
}

-- ---- numbers

pub natural_of : (z seen : ℤ) (n : ℕ) → seen ≡ z → FitsUnsigned w64 seen → n ≡ nat_abs seen → (z ≡ pos n) × (n < 2 ^ 64)
natural_of (pos m) seen n e f a =
    let g : FitsUnsigned w64 (pos m) = subst (λ (x : ℤ). FitsUnsigned w64 x) e f in let same : n ≡ m = a ∙ ap nat_abs e in
    (ap pos (sym same), omega (arith, ints, g.1))
natural_of (negsuc m) seen n e f a =
    absurd (let g : FitsUnsigned w64 (negsuc m) = subst (λ (x : ℤ). FitsUnsigned w64 x) e f in omega (arith, ints, g.0))

pub no_natural : (z seen : ℤ) → seen ≡ z → (FitsUnsigned w64 seen → ⊥) → (n : ℕ) → n < 2 ^ 64 → z ≡ pos n → ⊥
no_natural z seen e not n lt q = not (rw (e, q) fits)
  where
    fits : FitsUnsigned w64 (pos n)
    fits = search (rules, ints)

pub no_integer : (levels : ℕ) (bytes : List ℕ) → ReadsFront (λ z b. Spells levels (int z) b) bytes None
    → ReadsFront (IsNaturalText levels) bytes None
no_integer levels bytes r = record { takes = tt; again = λ n text rest s p. r.again (pos n) text rest s.1 p }

pub natural_none : (levels : ℕ) (bytes : List ℕ) (x : ℤ × Bor (List ℕ))
    → ReadsFront (λ z b. Spells levels (int z) b) bytes (Some x) → ((n : ℕ) → n < 2 ^ 64 → x.0 ≡ pos n → ⊥)
    → ReadsFront (IsNaturalText levels) bytes None
natural_none levels bytes x r never = record {
  takes = tt;
  again = λ n text rest s p. let k = r.again (pos n) text rest s.1 p in never n s.0 k.0;
}

pub natural_some : (levels : ℕ) (bytes : List ℕ) (x : ℤ × Bor (List ℕ)) (n : ℕ)
    → ReadsFront (λ z b. Spells levels (int z) b) bytes (Some x) → x.0 ≡ pos n → n < 2 ^ 64
    → ReadsFront (IsNaturalText levels) bytes (Some (n, x.1))
natural_some levels bytes x n r e u = record {
  takes = record {
    text = r.takes.text;
    is_text = (u, subst (λ (z : ℤ). Spells levels (int z) r.takes.text) e r.takes.is_text);
    parts = r.takes.parts;
  };
  again = λ j text rest s p. let k = r.again (pos j) text rest s.1 p in let q : pos n ≡ pos j = sym e ∙ k.0 in (cc, k.1);
}

pub id_no_natural : (levels : ℕ) (bytes : List ℕ) → ReadsFront (IsNaturalText levels) bytes None → ReadsFront (IsIdText levels) bytes None
id_no_natural levels bytes r = record { takes = tt; again = λ id text rest s p. r.again id text rest (s.0.1, s.1) p }

pub id_zero : (levels : ℕ) (bytes : List ℕ) (x : ℕ × Bor (List ℕ)) → ReadsFront (IsNaturalText levels) bytes (Some x)
    → x.0 ≡ 0 → ReadsFront (IsIdText levels) bytes None
id_zero levels bytes x r z = record {
  takes = tt;
  again = λ id text rest s p. let k = r.again id text rest (s.0.1, s.1) p in let lt = s.0.0 in omega (arith, k.0);
}

pub id_some : (levels : ℕ) (bytes : List ℕ) (x : ℕ × Bor (List ℕ)) → ReadsFront (IsNaturalText levels) bytes (Some x)
    → 1 ≤ x.0 → ReadsFront (IsIdText levels) bytes (Some x)
id_some levels bytes x r lt = record {
  takes = record { text = r.takes.text; is_text = ((lt, r.takes.is_text.0), r.takes.is_text.1); parts = r.takes.parts };
  again = λ j text rest s p. r.again j text rest (s.0.1, s.1) p;
}

-- ---- a pid or a name

-- one term stands at the front of any bytes
one_term : (levels : ℕ) (t u : Data) (a b x y : List ℕ) → Spells levels t a → Spells levels u b → a ++ x ≡ b ++ y → t ≡ u
one_term zero t u a b x y s r e = absurd s
one_term (suc n) t u a b x y s r e =
    let read = Reads-term (suc n) (omega arith) in
    let both : (t, x) ≡ (u, y) = ok_is _ _ (sym (read.again t a x s) ∙ ap (read_term (suc n)) e ∙ read.again u b y r) in
    ap (λ (z : Data × List ℕ). z.0) both

no_pid_and_name : (levels : ℕ) (p : Pid) (name a b x y : List ℕ) → IsPidText levels p a → IsNameText levels name b → a ++ x ≡ b ++ y → ⊥
no_pid_and_name levels p name a b x y s r e =
    let same : pid p ≡ atom name = one_term levels (pid p) (atom name) a b x y s r e in cc

module _ (levels : ℕ) (bytes : List ℕ) where
  pub target_pid : (x : Pid × Bor (List ℕ)) → ReadsFront (IsPidText levels) bytes (Some x)
      → ReadsFront (IsTargetText levels) bytes (Some (ByPid x.0, x.1))
  target_pid x r = record {
    takes = record { text = r.takes.text; is_text = r.takes.is_text; parts = r.takes.parts };
    again = λ y text rest t p. by y text rest t p;
  }
    where
      by : (y : TargetRef) (text rest : List ℕ) → IsTargetText levels y text → bytes ≡ text ++ rest → (ByPid x.0 ≡ y) × (x.1.now ≡ rest)
      by (ByPid q) text rest t p = let k = r.again q text rest t p in (ap (λ (z : Pid). ByPid z) k.0, k.1)
      by (ByName n) text rest t p =
          absurd (no_pid_and_name levels x.0 n r.takes.text text x.1.now rest r.takes.is_text t (sym r.takes.parts ∙ p))

  pub target_name : (x : List ℕ × Bor (List ℕ)) → ReadsFront (IsPidText levels) bytes None → ReadsFront (IsNameText levels) bytes (Some x)
      → ReadsFront (IsTargetText levels) bytes (Some (ByName x.0, x.1))
  target_name x r q = record {
    takes = record { text = q.takes.text; is_text = q.takes.is_text; parts = q.takes.parts };
    again = λ y text rest t p. by y text rest t p;
  }
    where
      by : (y : TargetRef) (text rest : List ℕ) → IsTargetText levels y text → bytes ≡ text ++ rest → (ByName x.0 ≡ y) × (x.1.now ≡ rest)
      by (ByPid p) text rest t e = absurd (r.again p text rest t e)
      by (ByName n) text rest t e = let k = q.again n text rest t e in (ap (λ (z : List ℕ). ByName z) k.0, k.1)

  pub target_none : ReadsFront (IsPidText levels) bytes None → ReadsFront (IsNameText levels) bytes None
      → ReadsFront (IsTargetText levels) bytes None
  target_none r q = record { takes = tt; again = λ y text rest t p. by y text rest t p }
    where
      by : (y : TargetRef) (text rest : List ℕ) → IsTargetText levels y text → bytes ≡ text ++ rest → ⊥
      by (ByPid p) text rest t e = r.again p text rest t e
      by (ByName n) text rest t e = q.again n text rest t e

-- ---- another view of what is read

abbrev pub mapped : {A B : Type 0} → (A → B) → Option (A × Bor (List ℕ)) → Option (B × Bor (List ℕ))
mapped f None = None
mapped f (Some x) = Some (f x.0, x.1)

-- where the texts of T are those of S, seen by f
pub read_as : {A B : Type 0} (S : A → List ℕ → Type 0) (T : B → List ℕ → Type 0) (f : A → B)
    → ((x : A) (b : List ℕ) → S x b → T (f x) b) → ((y : B) (b : List ℕ) → T y b → (x : A) × (f x ≡ y) × S x b)
    → (bytes : List ℕ) (answer : Option (A × Bor (List ℕ))) → ReadsFront S bytes answer → ReadsFront T bytes (mapped f answer)
read_as S T f to from bytes None r = record { takes = tt; again = λ y text rest t p. let s = from y text t in r.again s.0 text rest s.2 p }
read_as S T f to from bytes (Some x) r = record {
  takes = record { text = r.takes.text; is_text = to x.0 r.takes.text r.takes.is_text; parts = r.takes.parts };
  again = λ y text rest t p. let s = from y text t in let k = r.again s.0 text rest s.2 p in (ap f k.0 ∙ s.1, k.1);
}

-- ---- emptiness

pub is_empty_nil : (xs : List ℕ) (b : Bool) → b ≡ (length xs == 0) → b ≡ true → xs ≡ []
is_empty_nil [] b e t = refl
is_empty_nil (x ∷ xs) b e t = absurd (let k = eqb-true (length (x ∷ xs)) 0 (sym e ∙ t) in omega arith)

pub not_empty : (xs : List ℕ) (b : Bool) → b ≡ (length xs == 0) → b ≡ false → 0 < length xs
not_empty [] b e f = absurd (let q : true ≡ false = sym e ∙ f in cc)
not_empty (x ∷ xs) b e f = omega arith
