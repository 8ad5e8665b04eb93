-- Parts of a term are read exactly as they are spelled.
use Rattle.std.proofs.Common.{◌≡◌, ℕ, ◌<◌, Bool, true, false, cond, eqb, List, [], ◌∷◌, ◌++◌, length}
use Rattle.std.proofs.Common.{Ok, Err, Some, None, Bor, refl, sym, ap, subst, ◌∙◌, arith, inl, inr}
use Rattle.std.specs.Prelude.{ℤ}
use Rattle.std.proofs.lemmas.Bool.{eqb-true}
use Rattle.erl_term.specs.declared.error.TermError.{TermError}
use Rattle.erl_term.specs.declared.error.TermError.TheVariants.{Malformed}
use Rattle.erl_term.specs.declared.term.Pid.{Pid}
use Rattle.erl_term.specs.Numbers.{AreBytes}
use Rattle.erl_term.specs.Data.{Data, int, pid}
use Rattle.erl_term.specs.declared.term.Reference.{Reference}
use Rattle.erl_term.specs.Spelling.{IsPid, IsReference, SpellsAtom, SpellsBy, Spells}
use Rattle.erl_term.specs.Reading.{Read, ◌>>=◌, read_number, read_small, read_integer, read_big}
use Rattle.erl_term.specs.Reading.{read_node, read_pid, read_reference, row_with, read_term}
use Rattle.erl_term.specs.Parts.{ReadsFront, IsHeadBy, IsHead, IsIntegerText, head_part_at, integer_part_at, pid_part_at, reference_part_at}
use Rattle.erl_term.proofs.Readers.{Takes, AreBytes-rest, Known, known, is_ok, is_err, err_of_bind, ok_of_bind}
use Rattle.erl_term.proofs.Base.{ok_is, Reads-any}
use Rattle.erl_term.proofs.Bytes.{one_byte, byte_number}
use Rattle.erl_term.proofs.TableRows.{Reads-node, Reads-reference, reference_to, reference_back}
use Rattle.erl_term.proofs.Table.{Reads-term}

-- ---- the tag

abbrev tagged : {A : Type 0} → (ℕ → List ℕ → Read A) → List ℕ → Read A
tagged row bytes = read_number 1 bytes >>= λ tag. row tag.0 tag.1

record AfterTag {A : Type 0} (row : ℕ → List ℕ → Read A) (bytes : List ℕ) (x : A × List ℕ) : Type 0 where
  tag : ℕ
  more : List ℕ
  parts : bytes ≡ tag ∷ more
  fit : AreBytes more
  row_is : row tag more ≡ Ok x

tag_takes : {A : Type 0} (row : ℕ → List ℕ → Read A) (bytes : List ℕ) (x : A × List ℕ) → AreBytes bytes
    → Known (read_number 1 bytes) → tagged row bytes ≡ Ok x → AfterTag row bytes x
tag_takes row bytes x h (is_err e p) eq = absurd (let q = err_of_bind (read_number 1 bytes) (λ tag. row tag.0 tag.1) e p in cc)
tag_takes row bytes x h (is_ok y p) eq =
    let t = (Reads-any 1).takes bytes y.0 y.1 h p in
    let split : bytes ≡ y.0 ∷ y.1 = t.parts ∙ ap (λ (w : List ℕ). w ++ y.1) (one_byte y.0 t.text t.is_text) in
    record {
      tag = y.0;
      more = y.1;
      parts = split;
      fit = AreBytes-rest (y.0 ∷ []) y.1 (subst AreBytes split h);
      row_is = sym (ok_of_bind (read_number 1 bytes) (λ tag. row tag.0 tag.1) y p) ∙ eq;
    }

tag_again : {A : Type 0} (row : ℕ → List ℕ → Read A) (k : ℕ) (more : List ℕ) → k < 256 → tagged row (k ∷ more) ≡ row k more
tag_again row k more lt =
    ok_of_bind (read_number 1 (k ∷ more)) (λ tag. row tag.0 tag.1) (k, more) ((Reads-any 1).again k (k ∷ []) more (byte_number k lt))

-- ---- the head of a tuple

abbrev head_row : ℕ → List ℕ → Read ℕ
head_row k more = cond (eqb k 104) (read_number 1 more) (cond (eqb k 105) (read_number 4 more) (Err Malformed))

head_by : (tag width : ℕ) (more : List ℕ) (n : ℕ) (rest : List ℕ) → AreBytes more → read_number width more ≡ Ok (n, rest)
    → Takes (IsHeadBy tag width) (tag ∷ more) n rest
head_by tag width more n rest h e =
    let t = (Reads-any width).takes more n rest h e in
    record {
      text = tag ∷ t.text;
      is_text = record { arity = t.text; number = t.is_text; bytes = refl };
      parts = ap (λ (w : List ℕ). tag ∷ w) t.parts;
    }

head_from : (k : ℕ) (more : List ℕ) (n : ℕ) (rest : List ℕ) (a b : Bool) → eqb k 104 ≡ a → eqb k 105 ≡ b → AreBytes more
    → cond a (read_number 1 more) (cond b (read_number 4 more) (Err Malformed)) ≡ Ok (n, rest) → Takes IsHead (k ∷ more) n rest
head_from k more n rest true b p q h e =
    let t = head_by 104 1 more n rest h e in
    record { text = t.text; is_text = inl t.is_text; parts = ap (λ (j : ℕ). j ∷ more) (eqb-true k 104 p) ∙ t.parts }
head_from k more n rest false true p q h e =
    let t = head_by 105 4 more n rest h e in
    record { text = t.text; is_text = inr t.is_text; parts = ap (λ (j : ℕ). j ∷ more) (eqb-true k 105 q) ∙ t.parts }
head_from k more n rest false false p q h e = absurd cc

pub head_takes : (bytes : List ℕ) (n : ℕ) (rest : List ℕ) → AreBytes bytes → head_part_at bytes ≡ Ok (n, rest) → Takes IsHead bytes n rest
unfolding head_part_at
head_takes bytes n rest h e =
    let t = tag_takes head_row bytes (n, rest) h (known (read_number 1 bytes)) e in
    let s = head_from t.tag t.more n rest (eqb t.tag 104) (eqb t.tag 105) refl refl t.fit t.row_is in
    record { text = s.text; is_text = s.is_text; parts = t.parts ∙ s.parts }

pub head_again : (bytes : List ℕ) (n : ℕ) (text rest : List ℕ) → IsHead n text → bytes ≡ text ++ rest → head_part_at bytes ≡ Ok (n, rest)
unfolding head_part_at
head_again bytes n text rest (inl s) e =
    ap (tagged head_row) (e ∙ ap (λ (w : List ℕ). w ++ rest) s.bytes) ∙ tag_again head_row 104 (s.arity ++ rest) (omega arith)
    ∙ (Reads-any 1).again n s.arity rest s.number
head_again bytes n text rest (inr s) e =
    ap (tagged head_row) (e ∙ ap (λ (w : List ℕ). w ++ rest) s.bytes) ∙ tag_again head_row 105 (s.arity ++ rest) (omega arith)
    ∙ (Reads-any 4).again n s.arity rest s.number

-- ---- integers and pids: the terms of one level

abbrev one_row : ℕ → List ℕ → Read Data
one_row k more = row_with 0 (read_term 0) k more

one_again : (k : ℕ) (more : List ℕ) → k < 256 → read_term 1 (k ∷ more) ≡ one_row k more
unfolding read_term
one_again k more lt = tag_again one_row k more lt

abbrev integer_row : ℕ → List ℕ → Read Data
integer_row k more =
    cond (eqb k 97) (read_small more) (cond (eqb k 98) (read_integer more) (cond (eqb k 110) (read_big more) (Err Malformed)))

-- the rows of integers are those of the table
row_97 : (more : List ℕ) → one_row 97 more ≡ read_small more
unfolding row_with
row_97 more = refl

row_98 : (more : List ℕ) → one_row 98 more ≡ read_integer more
unfolding row_with
row_98 more = refl

row_110 : (more : List ℕ) → one_row 110 more ≡ read_big more
unfolding row_with
row_110 more = refl

row_88 : (more : List ℕ) → one_row 88 more ≡ (read_pid more >>= λ p. Ok (pid p.0, p.1))
unfolding row_with
row_88 more = refl

from_row : (k j : ℕ) (more : List ℕ) (x : Data × List ℕ) → eqb k j ≡ true → j < 256 → one_row j more ≡ Ok x → read_term 1 (k ∷ more) ≡ Ok x
from_row k j more x p lt e = ap (λ (i : ℕ). read_term 1 (i ∷ more)) (eqb-true k j p) ∙ one_again j more lt ∙ e

-- a term of one level is none by LIST
own_row : (t : Data) (b : List ℕ) → Spells 1 t b → SpellsBy (Spells 0) t b
own_row t b (inl s) = s
own_row t b (inr s) = absurd s.is_tail

integer_from : (k : ℕ) (more : List ℕ) (x : Data × List ℕ) (a b c : Bool) → eqb k 97 ≡ a → eqb k 98 ≡ b → eqb k 110 ≡ c
    → cond a (read_small more) (cond b (read_integer more) (cond c (read_big more) (Err Malformed))) ≡ Ok x
    → read_term 1 (k ∷ more) ≡ Ok x
integer_from k more x true b c p q r e = from_row k 97 more x p (omega arith) (row_97 more ∙ e)
integer_from k more x false true c p q r e = from_row k 98 more x q (omega arith) (row_98 more ∙ e)
integer_from k more x false false true p q r e = from_row k 110 more x r (omega arith) (row_110 more ∙ e)
integer_from k more x false false false p q r e = absurd cc

pub integer_takes : (bytes : List ℕ) (z : ℤ) (rest : List ℕ) → AreBytes bytes → integer_part_at bytes ≡ Ok (int z, rest)
    → Takes IsIntegerText bytes z rest
unfolding integer_part_at
integer_takes bytes z rest h e =
    let t = tag_takes integer_row bytes (int z, rest) h (known (read_number 1 bytes)) e in
    let k = integer_from t.tag t.more (int z, rest) (eqb t.tag 97) (eqb t.tag 98) (eqb t.tag 110) refl refl refl t.row_is in
    let s = (Reads-term 1 (omega arith)).takes bytes (int z) rest h (ap (read_term 1) t.parts ∙ k) in
    record { text = s.text; is_text = own_row (int z) s.text s.is_text; parts = s.parts }

integer_tagged : (bytes : List ℕ) (x : Data × List ℕ) (k : ℕ) (more : List ℕ) → k < 256 → integer_row k more ≡ one_row k more
    → bytes ≡ k ∷ more → read_term 1 bytes ≡ Ok x → tagged integer_row bytes ≡ Ok x
integer_tagged bytes x k more lt same e t =
    ap (tagged integer_row) e ∙ tag_again integer_row k more lt ∙ same ∙ sym (one_again k more lt) ∙ ap (read_term 1) (sym e) ∙ t

pub integer_again : (bytes : List ℕ) (z : ℤ) (text rest : List ℕ) → IsIntegerText z text → bytes ≡ text ++ rest
    → integer_part_at bytes ≡ Ok (int z, rest)
unfolding integer_part_at
integer_again bytes z text rest s e =
    let t : read_term 1 bytes ≡ Ok (int z, rest) = ap (read_term 1) e ∙ (Reads-term 1 (omega arith)).again (int z) text rest (inl s) in
    elim s [
      | inl s ↦
          integer_tagged bytes (int z, rest) 97 (s.field ++ rest) (omega arith) (sym (row_97 (s.field ++ rest)))
          (e ∙ ap (λ (w : List ℕ). w ++ rest) s.bytes) t
      | inr s ↦
          elim s [
            | inl s ↦
                integer_tagged bytes (int z, rest) 98 (s.field ++ rest) (omega arith) (sym (row_98 (s.field ++ rest)))
                (e ∙ ap (λ (w : List ℕ). w ++ rest) s.bytes) t
            | inr s ↦
                integer_tagged bytes (int z, rest) 110 (length s.magnitude ∷ s.sign ∷ (s.magnitude ++ rest)) (omega arith)
                (sym (row_110 (length s.magnitude ∷ s.sign ∷ (s.magnitude ++ rest))))
                (e ∙ ap (λ (w : List ℕ). w ++ rest) s.bytes) t
          ]
    ]

abbrev pid_row : ℕ → List ℕ → Read Pid
pid_row k more = cond (eqb k 88) (read_pid more) (Err Malformed)

abbrev seen_pid : Pid × List ℕ → Read Data
seen_pid p = Ok (pid p.0, p.1)

pid_from : (k : ℕ) (more : List ℕ) (p : Pid) (rest : List ℕ) (a : Bool) → eqb k 88 ≡ a
    → cond a (read_pid more) (Err Malformed) ≡ Ok (p, rest) → read_term 1 (k ∷ more) ≡ Ok (pid p, rest)
pid_from k more p rest true q e =
    from_row k 88 more (pid p, rest) q (omega arith) (row_88 more ∙ ok_of_bind (read_pid more) seen_pid (p, rest) e)
pid_from k more p rest false q e = absurd cc

pub pid_takes : (bytes : List ℕ) (p : Pid) (rest : List ℕ) → AreBytes bytes → pid_part_at bytes ≡ Ok (p, rest) → Takes IsPid bytes p rest
unfolding pid_part_at
pid_takes bytes p rest h e =
    let t = tag_takes pid_row bytes (p, rest) h (known (read_number 1 bytes)) e in
    let k = pid_from t.tag t.more p rest (eqb t.tag 88) refl t.row_is in
    let s = (Reads-term 1 (omega arith)).takes bytes (pid p) rest h (ap (read_term 1) t.parts ∙ k) in
    record { text = s.text; is_text = own_row (pid p) s.text s.is_text; parts = s.parts }

pid_of_row : (more : List ℕ) (p : Pid) (rest : List ℕ) → Known (read_pid more) → (read_pid more >>= seen_pid) ≡ Ok (pid p, rest)
    → read_pid more ≡ Ok (p, rest)
pid_of_row more p rest (is_err e q) k = absurd (let r = err_of_bind (read_pid more) seen_pid e q in cc)
pid_of_row more p rest (is_ok x q) k =
    let both : (pid x.0, x.1) ≡ (pid p, rest) = ok_is _ _ (sym (ok_of_bind (read_pid more) seen_pid x q) ∙ k) in
    let first : pid x.0 ≡ pid p = ap (λ (y : Data × List ℕ). y.0) both in
    let pids : x.0 ≡ p = cc in
    let rests : x.1 ≡ rest = ap (λ (y : Data × List ℕ). y.1) both in
    q ∙ rw (pids, rests) refl

pub pid_again : (bytes : List ℕ) (p : Pid) (text rest : List ℕ) → IsPid p text → bytes ≡ text ++ rest → pid_part_at bytes ≡ Ok (p, rest)
unfolding pid_part_at
pid_again bytes p text rest s e =
    let more : List ℕ = (s.node ++ (s.id ++ (s.serial ++ s.creation))) ++ rest in
    let split : bytes ≡ 88 ∷ more = e ∙ ap (λ (w : List ℕ). w ++ rest) s.bytes in
    let t : read_term 1 bytes ≡ Ok (pid p, rest) = ap (read_term 1) e ∙ (Reads-term 1 (omega arith)).again (pid p) text rest (inl s) in
    let k : (read_pid more >>= seen_pid) ≡ Ok (pid p, rest) =
    sym (row_88 more) ∙ sym (one_again 88 more (omega arith)) ∙ ap (read_term 1) (sym split) ∙ t in
    ap (tagged pid_row) split ∙ tag_again pid_row 88 more (omega arith) ∙ pid_of_row more p rest (known (read_pid more)) k

-- ---- references

abbrev reference_row : ℕ → List ℕ → Read Reference
reference_row k more = cond (eqb k 90) (read_reference more) (Err Malformed)

reference_by : (k : ℕ) (more : List ℕ) (r : Reference) (rest : List ℕ) (b : Bool) → eqb k 90 ≡ b → AreBytes more
    → cond b (read_reference more) (Err Malformed) ≡ Ok (r, rest) → Takes IsReference (k ∷ more) r rest
reference_by k more r rest true q h e =
    let t = Reads-reference.takes more r rest h e in
    record {
      text = 90 ∷ t.text;
      is_text = reference_to r t.text (90 ∷ t.text) refl t.is_text;
      parts = ap (λ (j : ℕ). j ∷ more) (eqb-true k 90 q) ∙ ap (λ (w : List ℕ). 90 ∷ w) t.parts;
    }
reference_by k more r rest false q h e = absurd cc

pub reference_takes : (bytes : List ℕ) (r : Reference) (rest : List ℕ) → AreBytes bytes
    → reference_part_at bytes ≡ Ok (r, rest) → Takes IsReference bytes r rest
unfolding reference_part_at
reference_takes bytes r rest h e =
    let t = tag_takes reference_row bytes (r, rest) h (known (read_number 1 bytes)) e in
    subst (λ (w : List ℕ). Takes IsReference w r rest) (sym t.parts) (reference_by t.tag t.more r rest (eqb t.tag 90) refl t.fit t.row_is)

pub reference_again : (bytes : List ℕ) (r : Reference) (text rest : List ℕ) → IsReference r text → bytes ≡ text ++ rest
    → reference_part_at bytes ≡ Ok (r, rest)
unfolding reference_part_at
reference_again bytes r text rest s e =
    let m = reference_back r text s in
    let split : bytes ≡ 90 ∷ (m.0 ++ rest) = e ∙ ap (λ (w : List ℕ). w ++ rest) m.2 in
    ap (tagged reference_row) split ∙ tag_again reference_row 90 (m.0 ++ rest) (omega arith) ∙ Reads-reference.again r m.0 rest m.1

-- ---- what the readers answer

abbrev lent : {A : Type 0} → A × Bor (List ℕ) → A × List ℕ
lent x = (x.0, x.1.now)

pub front_some : {A B : Type 0} (f : A → B) (S : A → List ℕ → Type 0) (read : Read B) (bytes : List ℕ) (x : A × Bor (List ℕ))
    → ((a b : A) → f a ≡ f b → a ≡ b) → read ≡ Ok (f x.0, x.1.now) → Takes S bytes x.0 x.1.now
    → ((a : A) (text rest : List ℕ) → S a text → bytes ≡ text ++ rest → read ≡ Ok (f a, rest)) → ReadsFront S bytes (Some x)
front_some {B = B} f S read bytes x inj e takes again = record {
  takes = takes;
  again = λ a text rest s p.
      let both : (f x.0, x.1.now) ≡ (f a, rest) = ok_is _ _ (sym e ∙ again a text rest s p) in
      (inj x.0 a (ap (λ (y : B × List ℕ). y.0) both), ap (λ (y : B × List ℕ). y.1) both);
}

pub front_none : {A B : Type 0} (f : A → B) (S : A → List ℕ → Type 0) (read : Read B) (bytes : List ℕ) (d : TermError)
    → read ≡ Err d → ((a : A) (text rest : List ℕ) → S a text → bytes ≡ text ++ rest → read ≡ Ok (f a, rest))
    → ReadsFront S bytes None
front_none f S read bytes d e again = record { takes = tt; again = λ a text rest s p. let q = again a text rest s p in absurd cc }

pub head_some : (bytes : List ℕ) (x : ℕ × Bor (List ℕ)) → AreBytes bytes → head_part_at bytes ≡ Ok (x.0, x.1.now)
    → ReadsFront IsHead bytes (Some x)
head_some bytes x h e =
    front_some (λ (n : ℕ). n) IsHead (head_part_at bytes) bytes x (λ a b q. q) e (head_takes bytes x.0 x.1.now h e) (head_again bytes)

pub head_none : (bytes : List ℕ) (d : TermError) → head_part_at bytes ≡ Err d → ReadsFront IsHead bytes None
head_none bytes d e = front_none (λ (n : ℕ). n) IsHead (head_part_at bytes) bytes d e (head_again bytes)

pub integer_some : (bytes : List ℕ) (x : ℤ × Bor (List ℕ)) → AreBytes bytes → integer_part_at bytes ≡ Ok (int x.0, x.1.now)
    → ReadsFront IsIntegerText bytes (Some x)
integer_some bytes x h e =
    front_some int IsIntegerText (integer_part_at bytes) bytes x (λ a b q. cc) e (integer_takes bytes x.0 x.1.now h e) (integer_again bytes)

pub integer_none : (bytes : List ℕ) (d : TermError) → integer_part_at bytes ≡ Err d → ReadsFront IsIntegerText bytes None
integer_none bytes d e = front_none int IsIntegerText (integer_part_at bytes) bytes d e (integer_again bytes)

pub pid_some : (bytes : List ℕ) (x : Pid × Bor (List ℕ)) → AreBytes bytes → pid_part_at bytes ≡ Ok (x.0, x.1.now)
    → ReadsFront IsPid bytes (Some x)
pid_some bytes x h e =
    front_some (λ (p : Pid). p) IsPid (pid_part_at bytes) bytes x (λ a b q. q) e (pid_takes bytes x.0 x.1.now h e) (pid_again bytes)

pub pid_none : (bytes : List ℕ) (d : TermError) → pid_part_at bytes ≡ Err d → ReadsFront IsPid bytes None
pid_none bytes d e = front_none (λ (p : Pid). p) IsPid (pid_part_at bytes) bytes d e (pid_again bytes)

pub reference_some : (bytes : List ℕ) (x : Reference × Bor (List ℕ)) → AreBytes bytes
    → reference_part_at bytes ≡ Ok (x.0, x.1.now) → ReadsFront IsReference bytes (Some x)
reference_some bytes x h e =
    front_some (λ (r : Reference). r) IsReference (reference_part_at bytes) bytes x (λ a b q. q) e
    (reference_takes bytes x.0 x.1.now h e) (reference_again bytes)

pub reference_none : (bytes : List ℕ) (d : TermError) → reference_part_at bytes ≡ Err d → ReadsFront IsReference bytes None
reference_none bytes d e = front_none (λ (r : Reference). r) IsReference (reference_part_at bytes) bytes d e (reference_again bytes)

atom_again : (bytes a text rest : List ℕ) → SpellsAtom a text → bytes ≡ text ++ rest → read_node bytes ≡ Ok (a, rest)
atom_again bytes a text rest s e = ap read_node e ∙ Reads-node.again a text rest s

pub atom_some : (bytes : List ℕ) (x : List ℕ × Bor (List ℕ)) → AreBytes bytes → read_node bytes ≡ Ok (x.0, x.1.now)
    → ReadsFront SpellsAtom bytes (Some x)
atom_some bytes x h e =
    front_some (λ (a : List ℕ). a) SpellsAtom (read_node bytes) bytes x (λ a b q. q) e (Reads-node.takes bytes x.0 x.1.now h e)
    (atom_again bytes)

pub atom_none : (bytes : List ℕ) (d : TermError) → read_node bytes ≡ Err d → ReadsFront SpellsAtom bytes None
atom_none bytes d e = front_none (λ (a : List ℕ). a) SpellsAtom (read_node bytes) bytes d e (atom_again bytes)
