-- Measuring terms one after the other, as a loop does.
use Rattle.erl_term.proofs.Canonical.{append_none}
use Rattle.std.proofs.Common.{◌≡◌, ℕ, suc, ◌-◌, ◌+◌, ◌≤◌, ◌<◌, List, Ok, Err, refl, sym, ap, ◌∙◌, arith}
use Rattle.erl_term.specs.declared.error.TermError.{TermError}
use Rattle.erl_term.specs.declared.size.Run.{Run}
use Rattle.erl_term.specs.declared.size.Measure.{Measure}
use Rattle.erl_term.specs.Data.{Data, Items, no_items, item, append_items}
use Rattle.erl_term.specs.Skipping.{rest_of}
use Rattle.erl_term.specs.Reading.{◌>>=◌, Read, items_with}
use Rattle.erl_term.proofs.Base.{ok_is}
use Rattle.erl_term.specs.Size.{run_of, measure_of, seen_by}

-- ---- a value that was read

-- what was read, where it is seen by f
pub record Seen {A B : Type 0} (f : A → B) (read : Read A) (b : B) (rest : List ℕ) : Type 0 where
  pub value : A
  pub same : b ≡ f value
  pub is_read : read ≡ Ok (value, rest)

pub seen_ok : {A B : Type 0} (f : A → B) (read : Read A) (b : B) (rest : List ℕ) → seen_by f read ≡ Ok (b, rest) → Seen f read b rest
seen_ok {A = A} {B = B} f (Ok x) b rest e =
    let both : (f x.0, x.1) ≡ (b, rest) = ok_is _ _ e in
    record {
      value = x.0;
      same = sym (ap (λ (y : B × List ℕ). y.0) both);
      is_read = ap (λ (w : List ℕ). Ok (x.0, w)) (ap (λ (y : B × List ℕ). y.1) both);
    }
seen_ok f (Err d) b rest e = absurd cc

pub seen_err : {A B : Type 0} (f : A → B) (read : Read A) (d : TermError) → seen_by f read ≡ Err d → read ≡ Err d
seen_err f (Ok x) d e = absurd cc
seen_err f (Err c) d e = let q : c ≡ d = cc in ap Err q

pub seen_rest : {A B : Type 0} (f : A → B) (read : Read A) → rest_of (seen_by f read) ≡ rest_of read
seen_rest f (Ok x) = refl
seen_rest f (Err e) = refl

-- ---- items

append_assoc : (ts us vs : Items) → append_items (append_items ts us) vs ≡ append_items ts (append_items us vs)
append_assoc no_items us vs = refl
append_assoc (item t ts) us vs = ap (item t) (append_assoc ts us vs)

-- what was read before, and what is still read
abbrev with_items : Items → Read Items → Read Items
with_items front read = read >>= λ x. Ok (append_items front x.0, x.1)

-- of count items that `one` reads i are measured, and the rest of them stand at `rest`
pub record Measured (one : List ℕ → Read Data) (count : ℕ) (bytes : List ℕ) (i : ℕ) (run : Run) (rest : List ℕ) : Type 0 where
  pub front : Items
  pub run_is : run ≡ run_of front
  pub so_far : with_items front (items_with one (count - i) rest) ≡ items_with one count bytes

none_before : (read : Read Items) → with_items no_items read ≡ read
none_before (Ok x) = refl
none_before (Err e) = refl

pub measures_none : (one : List ℕ → Read Data) (count : ℕ) (bytes : List ℕ) (run : Run) → run ≡ run_of no_items
    → Measured one count bytes 0 run bytes
measures_none one count bytes run e =
    record {
      front = no_items;
      run_is = e;
      so_far = none_before (items_with one (count - 0) bytes)
          ∙ ap (λ (n : ℕ). items_with one n bytes) (let k : count - 0 ≡ count = omega arith in k);
    }

regroup : (front : Items) (t : Data) (read : Read Items)
    → with_items front (read >>= λ x. Ok (item t x.0, x.1)) ≡ with_items (append_items front (item t no_items)) read
regroup front t (Ok x) = ap (λ (ts : Items). Ok (ts, x.1)) (sym (append_assoc front (item t no_items) x.0))
regroup front t (Err e) = refl

one_more : (one : List ℕ → Read Data) (front : Items) (count i : ℕ) (rest : List ℕ) (t : Data) (after : List ℕ) → i < count
    → one rest ≡ Ok (t, after)
    → with_items front (items_with one (count - i) rest)
    ≡ with_items (append_items front (item t no_items)) (items_with one (count - (i + 1)) after)
unfolding items_with
one_more one front count i rest t after lt h =
    let k : count - i ≡ suc (count - (i + 1)) = omega arith in
    rw (k, h) (regroup front t (items_with one (count - (i + 1)) after))

pub measures_more : (one : List ℕ → Read Data) (count : ℕ) (bytes : List ℕ) (i : ℕ) (run : Run) (rest : List ℕ) (m : Measure)
    (single all : Run) (after : List ℕ) → i < count → Measured one count bytes i run rest
    → seen_by measure_of (one rest) ≡ Ok (m, after) → ((t : Data) → m ≡ measure_of t → single ≡ run_of (item t no_items))
    → ((ts us : Items) → run ≡ run_of ts → single ≡ run_of us → all ≡ run_of (append_items ts us))
    → Measured one count bytes (i + 1) all after
measures_more one count bytes i run rest m single all after lt h read alone then =
    let s = seen_ok measure_of (one rest) m after read in
    let added : Items = item s.value no_items in
    record {
      front = append_items h.front added;
      run_is = then h.front added h.run_is (alone s.value s.same);
      so_far = sym (one_more one h.front count i rest s.value after lt s.is_read) ∙ h.so_far;
    }

pub measures_end : (one : List ℕ → Read Data) (count : ℕ) (bytes : List ℕ) (i : ℕ) (run : Run) (rest : List ℕ) (e : TermError)
    → i < count → Measured one count bytes i run rest → seen_by measure_of (one rest) ≡ Err e
    → seen_by run_of (items_with one count bytes) ≡ Err e
unfolding items_with
measures_end one count bytes i run rest e lt h read =
    let is = seen_err measure_of (one rest) e read in
    let k : count - i ≡ suc (count - (i + 1)) = omega arith in
    let all : with_items h.front (items_with one (count - i) rest) ≡ Err e = rw (k, is) refl in
    ap (seen_by run_of) (sym h.so_far ∙ all)

pub measures_all : (one : List ℕ → Read Data) (count : ℕ) (bytes : List ℕ) (i : ℕ) (run : Run) (rest : List ℕ) → count ≤ i
    → Measured one count bytes i run rest → seen_by run_of (items_with one count bytes) ≡ Ok (run, rest)
unfolding items_with
measures_all one count bytes i run rest le h =
    let k : count - i ≡ 0 = omega arith in
    let all : with_items h.front (items_with one (count - i) rest) ≡ Ok (h.front, rest) =
    rw k (ap (λ (ts : Items). Ok (ts, rest)) (append_none h.front)) in
    ap (seen_by run_of) (sym h.so_far ∙ all) ∙ ap (λ (r : Run). Ok (r, rest)) (sym h.run_is)
