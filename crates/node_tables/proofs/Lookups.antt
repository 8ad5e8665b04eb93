-- What the processes of an incarnation are as maps: look-ups, and an edit at one place.
use Rattle.std.proofs.Common.{◌≡◌, ℕ, zero, suc, ◌+◌, ◌<◌, Bool, true, false, cond, nat_eq, ◌&&◌, T, List, [], ◌∷◌, ◌++◌}
use Rattle.std.proofs.Common.{append-nil, append_assoc, length, Option, None, Some, refl, sym, ap, subst, ◌∙◌, arith}
use Rattle.std.proofs.lemmas.Bool.{eq-eqb, eqb-true, ne_eqb}
use Rattle.std.specs.Option.{option_map, option_and_then, option_or}
use Rattle.std.specs.List.{slice_get}
use Rattle.std.specs.declared.cmp.Ordering.{Ordering}
use Rattle.std.specs.declared.cmp.Ordering.TheVariants.{Less, Equal}
use Rattle.std.specs.Ordering.{is_eq, is_lt, ordering_then, nat_cmp, eq_by_cmp}
use Rattle.std.specs.Cmp.{eq_by_cmp_equiv, nat_cmp_total, tied_itself, tied_then, unsigned_ties}
use Rattle.std.specs.Cmp.Lexicographic.{slice_cmp}
use Rattle.std.specs.FinMap as fm
use Rattle.std.specs.FinMap.Entries.{find, below_all, is_sorted}
use Rattle.sorted_map.specs.Facts.{both_pass, joined}
use Rattle.dist_model.specs.Names.{pair_cmp, same_name, same_pid}
use Rattle.dist_model.specs.Node.{links_in}
use Rattle.dist_model.proofs.Keys.{name_total, pid_total, same_pair}
use Rattle.erl_names.specs.Ids.{pid_of}
use Rattle.erl_names.specs.Minted.{Minted}
use Rattle.erl_term.specs.Order.{pid_cmp}
use Rattle.erl_term.specs.declared.term.Pid.{Pid}
use Rattle.link_core.specs.declared.end.End.{End}
use Rattle.node_tables.specs.declared.life.Life.{Life}
use Rattle.node_tables.specs.Lives.{is_own, by_id, life_in, life_of, links_of, lives_from, owned, ends_from, lives_in, ends_in, end_at}
use Rattle.sorted_map.proofs.Orderings.{less_nat}

shuffled : (a b c d : Bool) → (a && (b && (c && d))) ≡ ((a && (b && d)) && c)
shuffled false b c d = refl
shuffled true true true true = refl
shuffled true true false true = refl
shuffled true b c d = refl

-- the pid of an id
pub at_id : (m : Minted) (n : ℕ) (p : Pid) → same_pid p (pid_of m n) ≡ (is_own m p && nat_eq p.id n)
at_id m n p =
    sym (tied_then (slice_cmp nat_cmp p.node m.name) _)
    ∙ ap (λ b. same_name p.node m.name && b) (sym (tied_then (nat_cmp p.creation m.creation) _)
    ∙ ap (λ b. is_eq (nat_cmp p.creation m.creation) && b) (sym (tied_then (nat_cmp p.id n) (nat_cmp p.serial 0))))
    ∙ ap (λ b. same_name p.node m.name && b)
    (λ i. sym (unsigned_ties p.creation m.creation) i && (sym (unsigned_ties p.id n) i && sym (unsigned_ties p.serial 0) i))
    ∙ shuffled (same_name p.node m.name) (nat_eq p.creation m.creation) (nat_eq p.id n) (nat_eq p.serial 0)

-- ---- the entry of an id, where the first entry has another id than 1
from_id : List Life → ℕ → ℕ → Option Life
from_id [] n id = None
from_id (e ∷ es) n id = cond (nat_eq id n) (Some e) (from_id es (suc n) id)

before_id : (es : List Life) (n id : ℕ) → id < n → from_id es n id ≡ None
unfolding from_id
before_id [] n id l = refl
before_id (e ∷ es) n id l =
    ap (λ b. cond b (Some e) (from_id es (suc n) id)) (ne_eqb id n (omega arith)) ∙ before_id es (suc n) id (omega arith)

from_place : (es : List Life) (n k : ℕ) → from_id es n (n + k) ≡ slice_get es k
unfolding from_id
from_place [] n k = refl
from_place (e ∷ es) n zero = ap (λ b. cond b (Some e) (from_id es (suc n) (n + 0))) (eq-eqb (n + 0) n (omega arith))
from_place (e ∷ es) n (suc k) =
    let same : n + suc k ≡ suc n + k = omega arith in
    ap (λ b. cond b (Some e) (from_id es (suc n) (n + suc k))) (ne_eqb (n + suc k) n (omega arith))
    ∙ ap (from_id es (suc n)) same ∙ from_place es (suc n) k

from_one : (es : List Life) (id : ℕ) → from_id es 1 id ≡ by_id es id
from_one es zero = before_id es 1 0 (omega arith)
from_one es (suc k) = let same : suc k ≡ 1 + k = omega arith in ap (from_id es 1) same ∙ from_place es 1 k

-- ---- look-ups

found_life : (o i : Bool) (e : Life) (rest : Option Life)
    → cond (o && i) (Some (life_of e)) (option_map life_of (cond o rest None)) ≡ option_map life_of (cond o (cond i (Some e) rest) None)
found_life true true e rest = refl
found_life _ _ e rest = refl

find_life : (m : Minted) (es : List Life) (n : ℕ) (p : Pid)
    → find pid_cmp p (lives_from m n es) ≡ option_map life_of (cond (is_own m p) (from_id es n p.id) None)
unfolding from_id
find_life m [] n p = go (is_own m p)
  where
    go : (o : Bool) → None ≡ option_map life_of (cond o None None)
    go true = refl
    go false = refl
find_life m (e ∷ es) n p =
    ap (λ b. cond b (Some (life_of e)) (find pid_cmp p (lives_from m (suc n) es))) (at_id m n p)
    ∙ ap (λ x. cond (is_own m p && nat_eq p.id n) (Some (life_of e)) x) (find_life m es (suc n) p)
    ∙ found_life (is_own m p) (nat_eq p.id n) e (from_id es (suc n) p.id)

-- ---- they are in the order of their keys

pub less_id : (m : Minted) (n k : ℕ) → n < k → pid_cmp (pid_of m n) (pid_of m k) ≡ Less
less_id m n k l =
    let name : slice_cmp nat_cmp m.name m.name ≡ Equal = tied_itself name_total m.name in
    let creation : nat_cmp m.creation m.creation ≡ Equal = tied_itself nat_cmp_total m.creation in
    let id : nat_cmp n k ≡ Less = less_nat n k l in
    rw (name, creation, id) refl

both : (a b : Bool) → a ≡ true → T b → T (a && b)
both true b h k = k
both false b h k = cc

lives_above : (m : Minted) (n k : ℕ) (es : List Life) → n < k → T (below_all pid_cmp (pid_of m n) (lives_from m k es))
lives_above m n k [] l = tt
lives_above m n k (e ∷ es) l = both _ _ (ap is_lt (less_id m n k l)) (lives_above m n (suc k) es (omega arith))

pub lives_sorted : (m : Minted) (n : ℕ) (es : List Life) → T (is_sorted pid_cmp (lives_from m n es))
lives_sorted m n [] = tt
lives_sorted m n (e ∷ es) = joined _ _ (lives_above m n (suc n) es (omega arith)) (lives_sorted m (suc n) es)

pub get_life : (m : Minted) (es : List Life) (p : Pid) → fm.get (lives_in m es) p ≡ option_map life_of (life_in m es p)
unfolding lives_in
get_life m es p =
    fm.get-from_sorted pid_cmp (lives_from m 1 es) p (lives_sorted m 1 es) ∙ find_life m es 1 p
    ∙ ap (λ o. option_map life_of (cond (is_own m p) o None)) (from_one es p.id)

-- ---- the ends of all

find_or : {K X : Type 0} (R : K → K → Ordering) (q : K) (xs ys : List (K × X)) → find R q (xs ++ ys) ≡ option_or (find R q xs) (find R q ys)
find_or R q [] ys = refl
find_or R q (x ∷ xs) ys = ap (cond (eq_by_cmp R q x.0) (Some x.1)) (find_or R q xs ys) ∙ go (eq_by_cmp R q x.0)
  where
    go : (b : Bool) → cond b (Some x.1) (option_or (find R q xs) (find R q ys)) ≡ option_or (cond b (Some x.1) (find R q xs)) (find R q ys)
    go true = refl
    go false = refl

find_owned : (P p q : Pid) (xs : List (Pid × End)) → find pair_cmp (p, q) (owned P xs) ≡ cond (same_pid p P) (find pid_cmp q xs) None
find_owned P p q [] = go (same_pid p P)
  where
    go : (b : Bool) → ◌≡◌ {A = Option End} None (cond b None None)
    go true = refl
    go false = refl
find_owned P p q (x ∷ xs) =
    ap (λ b. cond b (Some x.1) (find pair_cmp (p, q) (owned P xs))) (same_pair p q P x.0)
    ∙ ap (cond (same_pid p P && same_pid q x.0) (Some x.1)) (find_owned P p q xs) ∙ go (same_pid p P) (same_pid q x.0)
  where
    go : (b c : Bool) → cond (b && c) (Some x.1) (cond b (find pid_cmp q xs) None) ≡ cond b (cond c (Some x.1) (find pid_cmp q xs)) None
    go true c = refl
    go false c = refl

or_none : {A : Type 0} (o : Option A) → option_or o None ≡ o
or_none None = refl
or_none (Some x) = refl

find_end : (m : Minted) (es : List Life) (n : ℕ) (p q : Pid)
    → find pair_cmp (p, q) (ends_from m n es) ≡ option_and_then (end_at q) (cond (is_own m p) (from_id es n p.id) None)
unfolding from_id
find_end m [] n p q = go (is_own m p)
  where
    go : (o : Bool) → None ≡ option_and_then (end_at q) (cond o None None)
    go true = refl
    go false = refl
find_end m (e ∷ es) n p q =
    find_or pair_cmp (p, q) (owned (pid_of m n) (fm.entries (links_of e))) (ends_from m (suc n) es)
    ∙ ap (λ x. option_or x (find pair_cmp (p, q) (ends_from m (suc n) es))) (find_owned (pid_of m n) p q (fm.entries (links_of e))
    ∙ ap (λ b. cond b (find pid_cmp q (fm.entries (links_of e))) None) (at_id m n p))
    ∙ ap (option_or (cond (is_own m p && nat_eq p.id n) (find pid_cmp q (fm.entries (links_of e))) None)) (find_end m es (suc n) p q)
    ∙ go (is_own m p) (nat_eq p.id n) refl
  where
    here : find pid_cmp q (fm.entries (links_of e)) ≡ end_at q e
    here = sym (fm.get-entries (links_of e) q)

    go : (o i : Bool) → nat_eq p.id n ≡ i → option_or (cond (o && i) (find pid_cmp q (fm.entries (links_of e))) None)
        (option_and_then (end_at q) (cond o (from_id es (suc n) p.id) None))
        ≡ option_and_then (end_at q) (cond o (cond i (Some e) (from_id es (suc n) p.id)) None)
    go false i h = refl
    go true false h = refl
    go true true h =
        let same : p.id ≡ n = eqb-true p.id n h in
        ap (λ o. option_or (find pid_cmp q (fm.entries (links_of e))) (option_and_then (end_at q) o))
        (before_id es (suc n) p.id (omega arith))
        ∙ or_none _ ∙ here

-- the keys of a later part are greater

pub lt_pair : (P Q x y : Pid) → pid_cmp P Q ≡ Less → is_lt (pair_cmp (P, x) (Q, y)) ≡ true
lt_pair P Q x y h = ap (λ o. is_lt (ordering_then o (pid_cmp x y))) h

below_owned : (P Q x : Pid) (ys : List (Pid × End)) (rest : List ((Pid × Pid) × End)) → pid_cmp P Q ≡ Less
    → T (below_all pair_cmp (P, x) rest) → T (below_all pair_cmp (P, x) (owned Q ys ++ rest))
below_owned P Q x [] rest h k = k
below_owned P Q x (y ∷ ys) rest h k = both _ _ (lt_pair P Q x y.0 h) (below_owned P Q x ys rest h k)

ends_above : (m : Minted) (n k : ℕ) (es : List Life) (x : Pid) → n < k → T (below_all pair_cmp (pid_of m n, x) (ends_from m k es))
ends_above m n k [] x l = tt
ends_above m n k (e ∷ es) x l =
    below_owned (pid_of m n) (pid_of m k) x (fm.entries (links_of e)) (ends_from m (suc k) es) (less_id m n k l)
    (ends_above m n (suc k) es x (omega arith))

own_below : (P x : Pid) (ys : List (Pid × End)) (rest : List ((Pid × Pid) × End)) → T (below_all pid_cmp x ys)
    → T (below_all pair_cmp (P, x) rest) → T (below_all pair_cmp (P, x) (owned P ys ++ rest))
own_below P x [] rest h k = k
own_below P x (y ∷ ys) rest h k =
    joined _ _ (subst (λ o. T (is_lt (ordering_then o (pid_cmp x y.0)))) (sym (tied_itself pid_total P)) (both_pass _ _ h).0)
    (own_below P x ys rest (both_pass _ _ h).1 k)

own_sorted : (P : Pid) (xs : List (Pid × End)) (rest : List ((Pid × Pid) × End)) → T (is_sorted pid_cmp xs)
    → T (is_sorted pair_cmp rest) → ((x : Pid) → T (below_all pair_cmp (P, x) rest))
    → T (is_sorted pair_cmp (owned P xs ++ rest))
own_sorted P [] rest h k l = k
own_sorted P (x ∷ xs) rest h k l =
    joined _ _ (own_below P x.0 xs rest (both_pass _ _ h).0 (l x.0)) (own_sorted P xs rest (both_pass _ _ h).1 k l)

pub ends_sorted : (m : Minted) (n : ℕ) (es : List Life) → T (is_sorted pair_cmp (ends_from m n es))
ends_sorted m n [] = tt
ends_sorted m n (e ∷ es) =
    own_sorted (pid_of m n) (fm.entries (links_of e)) (ends_from m (suc n) es) (fm.entries_sorted (links_of e))
    (ends_sorted m (suc n) es) (λ x. ends_above m n (suc n) es x (omega arith))

pub get_end : (m : Minted) (es : List Life) (p q : Pid) → fm.get (ends_in m es) (p, q) ≡ option_and_then (end_at q) (life_in m es p)
unfolding ends_in
get_end m es p q =
    fm.get-from_sorted pair_cmp (ends_from m 1 es) (p, q) (ends_sorted m 1 es) ∙ find_end m es 1 p q
    ∙ ap (λ o. option_and_then (end_at q) (cond (is_own m p) o None)) (from_one es p.id)

-- ---- the links of one process

abbrev pub links_held : Option Life → List (Pid × End)
links_held None = []
links_held (Some e) = fm.entries (links_of e)

links_both : (p : Pid) (xs ys : List ((Pid × Pid) × End)) → links_in (xs ++ ys) p ≡ links_in xs p ++ links_in ys p
links_both p [] ys = refl
links_both p (x ∷ xs) ys =
    let here = cond (same_pid x.0.0 p) ((x.0.1, x.1) ∷ []) [] in
    ap (λ l. here ++ l) (links_both p xs ys) ∙ sym (append_assoc here (links_in xs p) (links_in ys p))

links_owned : (p P : Pid) (xs : List (Pid × End)) → links_in (owned P xs) p ≡ cond (same_pid p P) xs []
links_owned p P [] = go (same_pid p P)
  where
    go : (b : Bool) → ◌≡◌ {A = List (Pid × End)} [] (cond b [] [])
    go true = refl
    go false = refl
links_owned p P (x ∷ xs) =
    ap (λ b. cond b ((x.0, x.1) ∷ []) [] ++ links_in (owned P xs) p) ((eq_by_cmp_equiv pid_total).symm P p)
    ∙ ap (λ l. cond (same_pid p P) (x ∷ []) [] ++ l) (links_owned p P xs) ∙ go (same_pid p P)
  where
    go : (b : Bool) → cond b (x ∷ []) [] ++ cond b xs [] ≡ cond b (x ∷ xs) []
    go true = refl
    go false = refl

links_from : (m : Minted) (es : List Life) (n : ℕ) (p : Pid)
    → links_in (ends_from m n es) p ≡ links_held (cond (is_own m p) (from_id es n p.id) None)
unfolding from_id
links_from m [] n p = go (is_own m p)
  where
    go : (o : Bool) → ◌≡◌ {A = List (Pid × End)} [] (links_held (cond o None None))
    go true = refl
    go false = refl
links_from m (e ∷ es) n p =
    links_both p (owned (pid_of m n) (fm.entries (links_of e))) (ends_from m (suc n) es)
    ∙ ap (λ l. l ++ links_in (ends_from m (suc n) es) p)
    (links_owned p (pid_of m n) (fm.entries (links_of e)) ∙ ap (λ b. cond b (fm.entries (links_of e)) []) (at_id m n p))
    ∙ ap (λ l. cond (is_own m p && nat_eq p.id n) (fm.entries (links_of e)) [] ++ l) (links_from m es (suc n) p)
    ∙ go (is_own m p) (nat_eq p.id n) refl
  where
    go : (o i : Bool) → nat_eq p.id n ≡ i → cond (o && i) (fm.entries (links_of e)) [] ++ links_held (cond o (from_id es (suc n) p.id) None)
        ≡ links_held (cond o (cond i (Some e) (from_id es (suc n) p.id)) None)
    go false i h = refl
    go true false h = refl
    go true true h =
        let same : p.id ≡ n = eqb-true p.id n h in
        ap (λ o. fm.entries (links_of e) ++ links_held o) (before_id es (suc n) p.id (omega arith)) ∙ append-nil _

pub get_links : (m : Minted) (es : List Life) (p : Pid) → links_in (fm.entries (ends_in m es)) p ≡ links_held (life_in m es p)
unfolding ends_in
get_links m es p =
    ap (λ xs. links_in xs p) (fm.entries-from_sorted pair_cmp (ends_from m 1 es) (ends_sorted m 1 es)) ∙ links_from m es 1 p
    ∙ ap (λ o. links_held (cond (is_own m p) o None)) (from_one es p.id)

none_of : (xs : List (Pid × End)) → 0 ≡ length xs → xs ≡ []
none_of [] h = refl
none_of (x ∷ xs) h = absurd (omega arith)

pub no_links : ◌≡◌ {A = List (Pid × End)} (fm.entries (fm.empty {R = pid_cmp})) []
no_links = none_of _ (sym (fm.len-empty pid_cmp End) ∙ fm.len-entries (fm.empty {X = End} {R = pid_cmp}))
