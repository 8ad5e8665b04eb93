-- The connections that runs stand for, and their order.
use Rattle.std.proofs.Common.{◌≡◌, ℕ, zero, suc, ◌+◌, ◌<◌, ◌≤◌, nat_lt, Bool, true, false, cond, not, ◌||◌}
use Rattle.std.proofs.Common.{List, [], ◌∷◌, ◌++◌, length, get_or, set, Option, None, Some, refl, sym, ap, subst, ◌∙◌, arith, tests, add-one}
use Rattle.std.specs.declared.cmp.Ordering.{Ordering}
use Rattle.std.specs.declared.cmp.Ordering.TheVariants.{Less, Equal, Greater}
use Rattle.std.specs.Ordering.{MatchOrdering, is_eq, is_lt, nat_cmp, ordering_reverse, ordering_then}
use Rattle.std.specs.Cmp.Derive.{both_true}
use Rattle.std.specs.FinMap.{find}
use Rattle.std.specs.List.{insert, remove, slice_get}
use Rattle.std.specs.List.Sorted.{IsPartitionPoint, IsPartitionedBy}
use Rattle.std.specs.Option.{option_or}
use Rattle.std.proofs.lemmas.Bool.{and_parts, or_left, or_right, true≢false}
use Rattle.std.proofs.lemmas.Cmp.{ranked}
use Rattle.std.proofs.lemmas.Option.{same_Some}
use Rattle.std.proofs.lemmas.List.{get_or_default}
use Rattle.conn_core.specs.declared.side.Side.{Side}
use Rattle.conn_core.specs.declared.standing.Standing.TheVariants as standing
use Rattle.dist_model.proofs.Calls.{by_test}
use Rattle.dist_model.proofs.Keys.{name_total, same_name_is, same_name_refl, same_name_true, same_trunk, same_trunk_is, same_trunk_true, trunk_total}
use Rattle.dist_model.specs.Names.{Name, same_name}
use Rattle.dist_model.specs.Sides.{TrunkSide}
use Rattle.erl_names.specs.Order.{name_cmp, trunk_cmp}
use Rattle.erl_names.specs.declared.trunk.TrunkId.{TrunkId}
use Rattle.sorted_map.proofs.Orderings.{equal_of, less_nat, less_of}
use Rattle.sorted_map.specs.Facts.{stays_less}
use Rattle.node_tables.specs.Runs.{all_behind, first_of, gone_at, has, is_followed, is_rising, side_in, sides_from, sides_of, spelled}
use Rattle.node_tables.specs.Standings.{entries_of, side_of, standing_side}
use Rattle.node_tables.specs.declared.run.Run.{Run}

turned_name : (x y : Name) → same_name x y ≡ true → same_name y x ≡ true
turned_name x y h = same_name_is y x (sym (same_name_true x y h))

-- ---- a connection of a run

pub record Has (run : Run) (q : TrunkId) : Type 0 where
  pub same : same_name q.dialer run.last.trunk.dialer ≡ true
  pub from : run.first ≤ q.count
  pub to : q.count ≤ run.last.trunk.count

not_less : (a b : ℕ) → not (nat_lt a b) ≡ true → b ≤ a
not_less a b h = grind (arith, tests)

not_less_is : (a b : ℕ) → b ≤ a → not (nat_lt a b) ≡ true
not_less_is a b h = grind (arith, tests)

pub has_is : (run : Run) (q : TrunkId) → has run q ≡ true → Has run q
has_is run q h =
    let a = and_parts (same_name q.dialer run.last.trunk.dialer) _ h in
    let b = and_parts (not (nat_lt q.count run.first)) _ a.1 in
    record { same = a.0; from = not_less q.count run.first b.0; to = not_less run.last.trunk.count q.count b.1 }

pub is_has : (run : Run) (q : TrunkId) → Has run q → has run q ≡ true
is_has run q h = both_true h.same (both_true (not_less_is q.count run.first h.from) (not_less_is run.last.trunk.count q.count h.to))

pub has_not : (run : Run) (q : TrunkId) → (Has run q → ⊥) → has run q ≡ false
has_not run q h = by_test _ (has run q) (λ t. absurd (h (has_is run q t))) (λ t. t)

-- ---- spelled out

module _ (run : Run) (q : TrunkId) where
  abbrev at : ℕ → TrunkId
  at count = record { dialer = run.last.trunk.dialer; count = count }

  same_at : (count : ℕ) → same_name q.dialer run.last.trunk.dialer ≡ true → q.count ≡ count → same_trunk q (at count) ≡ true
  same_at count e n = same_trunk_is q (at count) (λ i. record { dialer = same_name_true q.dialer run.last.trunk.dialer e i; count = n i })

  from_found : (c n : ℕ) → same_name q.dialer run.last.trunk.dialer ≡ true → c ≤ q.count → q.count < c + n
      → find trunk_cmp q (entries_of (sides_from run c n)) ≡ Some (side_in run)
  from_found c zero e l m = absurd (omega (arith, l, m))
  from_found c (suc n) e l m = by_test _ (same_trunk q (at c))
      (λ t. ap (λ b. cond b (Some (side_in run)) (find trunk_cmp q (entries_of (sides_from run (suc c) n)))) t)
      (λ t. ap (λ b. cond b (Some (side_in run)) (find trunk_cmp q (entries_of (sides_from run (suc c) n)))) t
      ∙ from_found (suc c) n e (further t) (omega (arith, m)))
    where
      further : same_trunk q (at c) ≡ false → suc c ≤ q.count
      further t = by_test _ (nat_lt c q.count)
          (λ k. grind (arith, tests))
          (λ k. let same : q.count ≡ c = grind (arith, tests) in absurd (true≢false (sym (same_at c e same) ∙ t)))

  from_none : (c n : ℕ) → (same_name q.dialer run.last.trunk.dialer ≡ true → c ≤ q.count → q.count < c + n → ⊥)
      → find trunk_cmp q (entries_of (sides_from run c n)) ≡ None
  from_none c zero h = refl
  from_none c (suc n) h = by_test _ (same_trunk q (at c))
      (λ t. let is : q ≡ at c = same_trunk_true q (at c) t in
      let count : q.count ≡ c = ap (λ (u : TrunkId). u.count) is in
      absurd (h (same_name_is q.dialer run.last.trunk.dialer (ap (λ (u : TrunkId). u.dialer) is)) (omega (arith, count)) (omega (arith, count))))
      (λ t. ap (λ b. cond b (Some (side_in run)) (find trunk_cmp q (entries_of (sides_from run (suc c) n)))) t
      ∙ from_none (suc c) n (λ e l m. h e (omega (arith, l)) (omega (arith, m))))

  run_find : find trunk_cmp q (entries_of (sides_of run)) ≡ cond (has run q) (Some (side_in run)) None
  run_find = by_test _ (has run q)
      (λ t. let h = has_is run q t in let r = run.rises in
      from_found run.first _ h.same h.from (omega (arith, h.from, h.to, r)) ∙ sym (ap (λ b. cond b (Some (side_in run)) None) t))
      (λ t. from_none run.first _
      (λ e l m. let r = run.rises in
      true≢false (sym (is_has run q (record { same = e; from = l; to = omega (arith, m, r) })) ∙ t))
      ∙ sym (ap (λ b. cond b (Some (side_in run)) None) t))

pub find_both : (q : TrunkId) (xs ys : List Side)
    → find trunk_cmp q (entries_of (xs ++ ys)) ≡ option_or (find trunk_cmp q (entries_of xs)) (find trunk_cmp q (entries_of ys))
find_both q [] ys = refl
find_both q (x ∷ xs) ys = go (same_trunk q x.trunk) (find_both q xs ys)
  where
    go : (b : Bool) → find trunk_cmp q (entries_of (xs ++ ys))
        ≡ option_or (find trunk_cmp q (entries_of xs)) (find trunk_cmp q (entries_of ys))
        → cond b (Some (side_of x)) (find trunk_cmp q (entries_of (xs ++ ys)))
        ≡ option_or (cond b (Some (side_of x)) (find trunk_cmp q (entries_of xs))) (find trunk_cmp q (entries_of ys))
    go true h = refl
    go false h = h

pub spelled_find : (runs : List Run) (q : TrunkId) → find trunk_cmp q (entries_of (spelled runs)) ≡ gone_at runs q
spelled_find [] q = refl
spelled_find (run ∷ rest) q = find_both q (sides_of run) (spelled rest) ∙ go (has run q) (run_find run q) (spelled_find rest q)
  where
    go : (b : Bool) → find trunk_cmp q (entries_of (sides_of run)) ≡ cond b (Some (side_in run)) None
        → find trunk_cmp q (entries_of (spelled rest)) ≡ gone_at rest q
        → option_or (find trunk_cmp q (entries_of (sides_of run))) (find trunk_cmp q (entries_of (spelled rest)))
        ≡ cond b (Some (side_in run)) (gone_at rest q)
    go true h k = ap (λ o. option_or o (find trunk_cmp q (entries_of (spelled rest)))) h
    go false h k = ap (λ o. option_or o (find trunk_cmp q (entries_of (spelled rest)))) h ∙ k

-- each side of a run is gone
pub gone_is : (runs : List Run) (q : TrunkId) (s : TrunkSide) → gone_at runs q ≡ Some s → s ≡ standing_side s.peer standing.Gone
gone_is [] q s h = cc
gone_is (run ∷ rest) q s h = go (has run q) h (gone_is rest q s)
  where
    of_run : side_in run ≡ s → s ≡ standing_side s.peer standing.Gone
    of_run e = subst (λ (v : TrunkSide). v ≡ standing_side v.peer standing.Gone) e (ap (standing_side run.last.peer) run.gone)

    go : (b : Bool) → cond b (Some (side_in run)) (gone_at rest q) ≡ Some s
        → (gone_at rest q ≡ Some s → s ≡ standing_side s.peer standing.Gone) → s ≡ standing_side s.peer standing.Gone
    go true k more = of_run (same_Some (side_in run) s k)
    go false k more = more k

-- ---- their order

same_order : (t u : TrunkId) → same_name t.dialer u.dialer ≡ true → trunk_cmp t u ≡ nat_cmp t.count u.count
same_order t u h = ap (λ o. ordering_then o (nat_cmp t.count u.count)) (equal_of _ h)

not_below : (t u : TrunkId) → same_name t.dialer u.dialer ≡ true → u.count ≤ t.count → is_lt (trunk_cmp t u) ≡ false
not_below t u h l = ap is_lt (same_order t u h) ∙ go (nat_cmp t.count u.count) (ranked t.count u.count _ refl)
  where
    go : (o : Ordering) → MatchOrdering o (t.count < u.count) (t.count ≡ u.count) (u.count < t.count) → is_lt o ≡ false
    go Less r = absurd (omega (arith, l, r))
    go Equal r = refl
    go Greater r = refl

is_below : (t u : TrunkId) → same_name t.dialer u.dialer ≡ true → t.count < u.count → trunk_cmp t u ≡ Less
is_below t u h l = same_order t u h ∙ less_nat t.count u.count l

-- a run that ends in front of a connection hasn't got it
past : (run : Run) (q : TrunkId) → is_lt (trunk_cmp run.last.trunk q) ≡ true → has run q ≡ false
past run q h = has_not run q (λ k.
    true≢false (sym h ∙ not_below run.last.trunk q (turned_name q.dialer run.last.trunk.dialer k.same) k.to))

first_last : (run : Run) (q : TrunkId) → is_lt (trunk_cmp run.last.trunk q) ≡ true → is_lt (trunk_cmp (first_of run) q) ≡ true
first_last run q h = by_test _ (nat_lt run.first run.last.trunk.count)
    (λ t. let l : run.first < run.last.trunk.count = grind (arith, tests) in
    stays_less trunk_total (first_of run) run.last.trunk q (is_below (first_of run) run.last.trunk (same_name_refl run.last.trunk.dialer) l) h)
    (λ t. let r = run.rises in
    let e : run.last.trunk.count ≡ run.first = grind (arith, tests) in
    subst (λ n. is_lt (trunk_cmp (record { dialer = run.last.trunk.dialer; count = n }) q) ≡ true) e h)

-- a run that begins behind the last connection of another that doesn't end in front of it hasn't got it
ahead : (t : TrunkId) (run : Run) (q : TrunkId) → is_lt (trunk_cmp t (first_of run)) ≡ true → is_lt (trunk_cmp t q) ≡ false
    → has run q ≡ false
ahead t run q h n = has_not run q (λ k. true≢false (sym (through k) ∙ n))
  where
    through : Has run q → is_lt (trunk_cmp t q) ≡ true
    through k = by_test _ (nat_lt run.first q.count)
        (λ b. let l : run.first < q.count = grind (arith, tests) in
        ap is_lt (trunk_total.trans t (first_of run) q (less_of _ h)
        (is_below (first_of run) q (turned_name q.dialer run.last.trunk.dialer k.same) l)))
        (λ b. let f = k.from in
        let e : q.count ≡ run.first = grind (arith, tests) in
        let same : first_of run ≡ q = (λ i. record { dialer = sym (same_name_true q.dialer run.last.trunk.dialer k.same) i; count = sym e i }) in
        subst (λ u. is_lt (trunk_cmp t u) ≡ true) same h)

behind_none : (t q : TrunkId) (runs : List Run) → all_behind t runs ≡ true → is_lt (trunk_cmp t q) ≡ false → gone_at runs q ≡ None
behind_none t q [] h n = refl
behind_none t q (run ∷ rest) h n =
    let p = and_parts (is_lt (trunk_cmp t (first_of run))) _ h in
    ap (λ b. cond b (Some (side_in run)) (gone_at rest q)) (ahead t run q p.0 n) ∙ behind_none t q rest p.1 n

-- ---- the place of a connection

abbrev pub in_front : TrunkId → Run → Bool
in_front q run = is_lt (trunk_cmp run.last.trunk q)

abbrev pub Parts : TrunkId → List Run → ℕ → Type 0
Parts q runs at = IsPartitionPoint (λ run. in_front q run ≡ true) (λ run. in_front q run ≡ false) runs at

abbrev pub there : Option Run → TrunkId → Option TrunkSide
there None q = None
there (Some run) q = cond (has run q) (Some (side_in run)) None

further : (q : TrunkId) (x : Run) (xs : List Run) (at : ℕ) → Parts q (x ∷ xs) (suc at) → Parts q xs at
further q x xs at p = (
  λ k d l m. p.0 (suc k) d (omega (arith, l)) (omega (arith, m)),
  λ k d l m. p.1 (suc k) d (omega (arith, l)) (omega (arith, m)),
)

pub gone_there : (q : TrunkId) (runs : List Run) (at : ℕ) → is_rising runs ≡ true → Parts q runs at
    → gone_at runs q ≡ there (slice_get runs at) q
gone_there q [] zero s p = refl
gone_there q [] (suc at) s p = refl
gone_there q (x ∷ xs) zero s p =
    ap (λ o. cond (has x q) (Some (side_in x)) o)
    (behind_none x.last.trunk q xs (and_parts (all_behind x.last.trunk xs) _ s).0 (p.1 0 x (omega arith) (omega arith)))
gone_there q (x ∷ xs) (suc at) s p =
    ap (λ b. cond b (Some (side_in x)) (gone_at xs q)) (past x q (p.0 0 x (omega arith) (omega arith)))
    ∙ gone_there q xs at (and_parts (all_behind x.last.trunk xs) _ s).1 (further q x xs at p)

passing : (q : TrunkId) (x : Run) (xs : List Run) (j : ℕ) (d : Run) → all_behind x.last.trunk xs ≡ true → j < length xs
    → in_front q (get_or xs j d) ≡ true → in_front q x ≡ true
passing q x [] j d h l t = absurd (omega (arith, l))
passing q x (y ∷ ys) zero d h l t =
    stays_less trunk_total x.last.trunk (first_of y) q (less_of _ (and_parts (is_lt (trunk_cmp x.last.trunk (first_of y))) _ h).0)
    (first_last y q t)
passing q x (y ∷ ys) (suc j) d h l t =
    passing q x ys j d (and_parts (is_lt (trunk_cmp x.last.trunk (first_of y))) _ h).1 (omega (arith, l)) t

pub parted : (q : TrunkId) (runs : List Run) → is_rising runs ≡ true → IsPartitionedBy (in_front q) runs
parted q [] h i j d le l t = absurd (omega (arith, l))
parted q (x ∷ xs) h zero zero d le l t = t
parted q (x ∷ xs) h zero (suc j) d le l t =
    passing q x xs j d (and_parts (all_behind x.last.trunk xs) _ h).0 (omega (arith, l)) t
parted q (x ∷ xs) h (suc i) zero d le l t = absurd (omega (arith, le))
parted q (x ∷ xs) h (suc i) (suc j) d le l t =
    parted q xs (and_parts (all_behind x.last.trunk xs) _ h).1 i j d (omega (arith, le)) (omega (arith, l)) t

-- ---- a run of one connection comes

none_parts : {A : Type 0} (b : Bool) (v : A) (o : Option A) → cond b (Some v) o ≡ None → (b ≡ false) × (o ≡ None)
none_parts true v o h = cc
none_parts false v o h = (refl, h)

has_one : (r : Run) (q : TrunkId) → r.first ≡ r.last.trunk.count → has r q ≡ same_trunk q r.last.trunk
has_one r q one = by_test _ (same_trunk q r.last.trunk)
    (λ t. let is : q ≡ r.last.trunk = same_trunk_true q r.last.trunk t in
    let count : q.count ≡ r.last.trunk.count = ap (λ (u : TrunkId). u.count) is in
    is_has r q (record {
      same = same_name_is q.dialer r.last.trunk.dialer (ap (λ (u : TrunkId). u.dialer) is);
      from = omega (arith, one, count);
      to = omega (arith, count);
    }) ∙ sym t)
    (λ t. has_not r q (λ k. let from = k.from in let to = k.to in
    let count : q.count ≡ r.last.trunk.count = omega (arith, one, from, to) in
    true≢false (sym (same_trunk_is q r.last.trunk
    (λ i. record { dialer = same_name_true q.dialer r.last.trunk.dialer k.same i; count = count i })) ∙ t)) ∙ sym t)

module _ (r : Run) (one : r.first ≡ r.last.trunk.count) where
  pub insert_gone : (runs : List Run) (at : ℕ) → at ≤ length runs → gone_at runs r.last.trunk ≡ None → (q : TrunkId)
      → gone_at (insert runs at r) q ≡ cond (same_trunk q r.last.trunk) (Some (side_in r)) (gone_at runs q)
  insert_gone runs zero l n q = ap (λ b. cond b (Some (side_in r)) (gone_at runs q)) (has_one r q one)
  insert_gone [] (suc at) l n q = absurd (omega (arith, l))
  insert_gone (x ∷ xs) (suc at) l n q =
      ap (cond (has x q) (Some (side_in x))) (insert_gone xs at (omega (arith, l)) (none_parts (has x r.last.trunk) _ _ n).1 q)
      ∙ go (same_trunk q r.last.trunk) refl
    where
      go : (e : Bool) → same_trunk q r.last.trunk ≡ e
          → cond (has x q) (Some (side_in x)) (cond e (Some (side_in r)) (gone_at xs q))
          ≡ cond e (Some (side_in r)) (cond (has x q) (Some (side_in x)) (gone_at xs q))
      go true t =
          ap (λ b. cond b (Some (side_in x)) (Some (side_in r)))
          (ap (has x) (same_trunk_true q r.last.trunk t) ∙ (none_parts (has x r.last.trunk) _ _ n).0)
      go false t = refl

  first_is : first_of r ≡ r.last.trunk
  first_is = λ i. record { dialer = r.last.trunk.dialer; count = one i }

  behind_insert : (t : TrunkId) (runs : List Run) (at : ℕ) → at ≤ length runs → all_behind t runs ≡ true
      → is_lt (trunk_cmp t (first_of r)) ≡ true → all_behind t (insert runs at r) ≡ true
  behind_insert t runs zero l h n = both_true n h
  behind_insert t [] (suc at) l h n = absurd (omega (arith, l))
  behind_insert t (x ∷ xs) (suc at) l h n =
      let p = and_parts (is_lt (trunk_cmp t (first_of x))) _ h in both_true p.0 (behind_insert t xs at (omega (arith, l)) p.1 n)

-- a run that doesn't end in front of a connection, and hasn't got it, begins behind it
between : (run : Run) (c : TrunkId) → in_front c run ≡ false → has run c ≡ false → is_lt (trunk_cmp c (first_of run)) ≡ true
between run c n h = go (name_cmp c.dialer run.last.trunk.dialer) refl
  where
    go : (o : Ordering) → name_cmp c.dialer run.last.trunk.dialer ≡ o → is_lt (trunk_cmp c (first_of run)) ≡ true
    go Less e = ap (λ o. is_lt (ordering_then o (nat_cmp c.count run.first))) e
    go Equal e =
        let same : same_name c.dialer run.last.trunk.dialer ≡ true = ap is_eq e in
        by_test _ (nat_lt c.count run.first)
        (λ t. let l : c.count < run.first = grind (arith, tests) in ap is_lt (is_below c (first_of run) same l))
        (λ t. by_test _ (nat_lt run.last.trunk.count c.count)
        (λ u. let l : run.last.trunk.count < c.count = grind (arith, tests) in
        absurd (true≢false (sym (ap is_lt (is_below run.last.trunk c (turned_name c.dialer run.last.trunk.dialer same) l)) ∙ n)))
        (λ u. let from : run.first ≤ c.count = grind (arith, tests) in
        let to : c.count ≤ run.last.trunk.count = grind (arith, tests) in
        absurd (true≢false (sym (is_has run c (record { same = same; from = from; to = to })) ∙ h))))
    go Greater e =
        let less : name_cmp run.last.trunk.dialer c.dialer ≡ Less =
        name_total.antisymm run.last.trunk.dialer c.dialer ∙ ap ordering_reverse e in
        absurd (true≢false (sym (ap (λ o. is_lt (ordering_then o (nat_cmp run.last.trunk.count c.count))) less) ∙ n))

all_after : (c : TrunkId) (runs : List Run) → ((k : ℕ) (d : Run) → k < length runs → in_front c (get_or runs k d) ≡ false)
    → gone_at runs c ≡ None → all_behind c runs ≡ true
all_after c [] h n = refl
all_after c (x ∷ xs) h n =
    let p = none_parts (has x c) _ _ n in
    both_true (between x c (h 0 x (omega arith)) p.0) (all_after c xs (λ k d l. h (suc k) d (omega (arith, l))) p.1)

pub insert_rising : (r : Run) → r.first ≡ r.last.trunk.count → (runs : List Run) (at : ℕ) → at ≤ length runs → is_rising runs ≡ true
    → Parts r.last.trunk runs at → gone_at runs r.last.trunk ≡ None → is_rising (insert runs at r) ≡ true
insert_rising r one runs zero l s p n = both_true (all_after r.last.trunk runs (λ k d m. p.1 k d (omega arith) m) n) s
insert_rising r one [] (suc at) l s p n = absurd (omega (arith, l))
insert_rising r one (x ∷ xs) (suc at) l s p n =
    let t = and_parts (all_behind x.last.trunk xs) _ s in
    let front : is_lt (trunk_cmp x.last.trunk r.last.trunk) ≡ true = p.0 0 x (omega arith) (omega arith) in
    both_true
    (behind_insert r one x.last.trunk xs at (omega (arith, l)) t.0
    (subst (λ u. is_lt (trunk_cmp x.last.trunk u) ≡ true) (sym (first_is r one)) front))
    (insert_rising r one xs at (omega (arith, l)) t.1 (further r.last.trunk x xs at p) (none_parts (has x r.last.trunk) _ _ n).1)

-- ---- two runs become one

pub record Joins (a b ab : Run) : Type 0 where
  pub each : (q : TrunkId) → has ab q ≡ (has a q || has b q)
  pub first : first_of ab ≡ first_of a
  pub last : ab.last ≡ b.last
  pub sides : side_in a ≡ side_in b

pub joins : (a b ab : Run) → is_followed a b ≡ true → ab.last ≡ b.last → ab.first ≡ a.first → Joins a b ab
joins a b ab h l f = record {
  each = each;
  first = λ i. record { dialer = dialer i; count = f i };
  last = l;
  sides = ap (standing_side a.last.peer) a.gone ∙ ap (λ (y : Name). standing_side y standing.Gone) peers
      ∙ sym (ap (standing_side b.last.peer) b.gone);
}
  where
    parts : (same_name a.last.trunk.dialer b.last.trunk.dialer ≡ true) × (same_name a.last.peer b.last.peer ≡ true)
        × (b.first ≡ suc a.last.trunk.count)
    parts =
        let p = and_parts (same_name a.last.trunk.dialer b.last.trunk.dialer) _ h in
        let q = and_parts (same_name a.last.peer b.last.peer) _ p.1 in
        let r = and_parts (nat_lt a.last.trunk.count b.first) _ q.1 in
        let less = r.0 in
        let one = r.1 in
        (p.0, q.0, grind (arith, tests))

    peers : a.last.peer ≡ b.last.peer
    peers = same_name_true a.last.peer b.last.peer parts.1

    dialer : ab.last.trunk.dialer ≡ a.last.trunk.dialer
    dialer = ap (λ (s : Side). s.trunk.dialer) l ∙ sym (same_name_true a.last.trunk.dialer b.last.trunk.dialer parts.0)

    last : ab.last.trunk.count ≡ b.last.trunk.count
    last = ap (λ (s : Side). s.trunk.count) l

    next : b.first ≡ suc a.last.trunk.count
    next = parts.2

    of_a : (q : TrunkId) → Has a q → Has ab q
    of_a q k = let to = k.to in let from = k.from in let r = b.rises in record {
      same = subst (λ y. same_name q.dialer y ≡ true) (sym dialer) k.same;
      from = omega (arith, f, from);
      to = omega (arith, to, last, next, r);
    }

    of_b : (q : TrunkId) → Has b q → Has ab q
    of_b q k = let to = k.to in let from = k.from in let r = a.rises in record {
      same = subst (λ y. same_name q.dialer y ≡ true) (sym (ap (λ (s : Side). s.trunk.dialer) l)) k.same;
      from = omega (arith, f, from, next, r);
      to = omega (arith, to, last);
    }

    each : (q : TrunkId) → has ab q ≡ (has a q || has b q)
    each q = by_test _ (has ab q)
        (λ t. let k = has_is ab q t in let to = k.to in let from = k.from in
        t ∙ sym (by_test _ (nat_lt a.last.trunk.count q.count)
        (λ u. or_right (has a q) (has b q) (is_has b q (record {
          same = subst (λ y. same_name q.dialer y ≡ true) (ap (λ (s : Side). s.trunk.dialer) l) k.same;
          from = grind (arith, tests);
          to = omega (arith, to, last);
        })))
        (λ u. or_left (has a q) (has b q) (is_has a q (record {
          same = subst (λ y. same_name q.dialer y ≡ true) dialer k.same;
          from = omega (arith, from, f);
          to = grind (arith, tests);
        })))))
        (λ t. t ∙ sym (neither (has a q) (has b q) (has_not a q (λ k. true≢false (sym (is_has ab q (of_a q k)) ∙ t)))
        (has_not b q (λ k. true≢false (sym (is_has ab q (of_b q k)) ∙ t)))))
      where
        neither : (x y : Bool) → x ≡ false → y ≡ false → (x || y) ≡ false
        neither true y h k = h
        neither false y h k = k

module _ (a b ab : Run) (j : Joins a b ab) where
  both : (q : TrunkId) (o : Option TrunkSide)
      → cond (has ab q) (Some (side_in ab)) o ≡ cond (has a q) (Some (side_in a)) (cond (has b q) (Some (side_in b)) o)
  both q o = ap (λ c. cond c (Some (side_in ab)) o) (j.each q) ∙ go (has a q) (has b q)
    where
      to_b : side_in ab ≡ side_in b
      to_b = ap (λ (s : Side). side_of s) j.last

      go : (x y : Bool) → cond (x || y) (Some (side_in ab)) o ≡ cond x (Some (side_in a)) (cond y (Some (side_in b)) o)
      go true y = ap Some (to_b ∙ sym j.sides)
      go false true = ap Some to_b
      go false false = refl

  pub join_gone : (runs : List Run) (at : ℕ) → suc at < length runs → a ≡ get_or runs at a → b ≡ get_or runs (suc at) b → (q : TrunkId)
      → gone_at (set (remove runs (suc at)) at ab) q ≡ gone_at runs q
  join_gone [] at l i k q = absurd (omega (arith, l))
  join_gone (x ∷ []) zero l i k q = absurd (omega (arith, l))
  join_gone (x ∷ y ∷ zs) zero l i k q =
      both q (gone_at zs q) ∙ (λ n. cond (has (i n) q) (Some (side_in (i n))) (cond (has (k n) q) (Some (side_in (k n))) (gone_at zs q)))
  join_gone (x ∷ xs) (suc at) l i k q = ap (cond (has x q) (Some (side_in x))) (join_gone xs at (omega (arith, l)) i k q)

  behind_join : (t : TrunkId) (runs : List Run) (at : ℕ) → suc at < length runs → a ≡ get_or runs at a → b ≡ get_or runs (suc at) b
      → all_behind t runs ≡ true → all_behind t (set (remove runs (suc at)) at ab) ≡ true
  behind_join t [] at l i k h = absurd (omega (arith, l))
  behind_join t (x ∷ []) zero l i k h = absurd (omega (arith, l))
  behind_join t (x ∷ y ∷ zs) zero l i k h =
      let p = and_parts (is_lt (trunk_cmp t (first_of x))) _ h in
      let first : first_of x ≡ first_of ab = sym (j.first ∙ ap first_of i) in
      both_true (subst (λ u. is_lt (trunk_cmp t u) ≡ true) first p.0) (and_parts (is_lt (trunk_cmp t (first_of y))) _ p.1).1
  behind_join t (x ∷ xs) (suc at) l i k h =
      let p = and_parts (is_lt (trunk_cmp t (first_of x))) _ h in both_true p.0 (behind_join t xs at (omega (arith, l)) i k p.1)

  pub join_rising : (runs : List Run) (at : ℕ) → suc at < length runs → a ≡ get_or runs at a → b ≡ get_or runs (suc at) b
      → is_rising runs ≡ true → is_rising (set (remove runs (suc at)) at ab) ≡ true
  join_rising [] at l i k h = absurd (omega (arith, l))
  join_rising (x ∷ []) zero l i k h = absurd (omega (arith, l))
  join_rising (x ∷ y ∷ zs) zero l i k h =
      let p = and_parts (all_behind y.last.trunk zs) _ (and_parts (all_behind x.last.trunk (y ∷ zs)) _ h).1 in
      let last : y.last ≡ ab.last = sym (j.last ∙ ap (λ (r : Run). r.last) k) in
      both_true (subst (λ (s : Side). all_behind s.trunk zs ≡ true) last p.0) p.1
  join_rising (x ∷ xs) (suc at) l i k h =
      let p = and_parts (all_behind x.last.trunk xs) _ h in
      both_true (behind_join x.last.trunk xs at (omega (arith, l)) i k p.0) (join_rising xs at (omega (arith, l)) i k p.1)

-- ---- what a call has done

removed_front : (runs : List Run) (at : ℕ) (d : Run) → get_or (remove runs (suc at)) at d ≡ get_or runs at d
removed_front [] zero d = refl
removed_front [] (suc at) d = refl
removed_front (x ∷ xs) zero d = refl
removed_front (x ∷ xs) (suc at) d = removed_front xs at d

module _ (runs after : List Run) (at : ℕ) (a b r f ab : Run) (l : at + 1 < length runs) (is_a : a ≡ get_or runs at a)
    (is_b : b ≡ get_or runs (at + 1) b) (is_r : r ≡ get_or runs (at + 1) r) (is_after : after ≡ remove runs (at + 1))
    (is_f : f ≡ get_or after at f) (h : is_followed a b ≡ true) (last : ab.last ≡ r.last) (first : ab.first ≡ f.first) where
  same_b : r ≡ b
  same_b = is_r ∙ get_or_default runs (at + 1) r b l ∙ sym is_b

  removed : after ≡ remove runs (suc at)
  removed = is_after ∙ ap (remove runs) (add-one at)

  same_a : f ≡ a
  same_a =
      is_f ∙ ap (λ xs. get_or xs at f) removed ∙ removed_front runs at f ∙ get_or_default runs at f a (omega (arith, l)) ∙ sym is_a

  joining : Joins a b ab
  joining = joins a b ab h (last ∙ ap (λ (x : Run). x.last) same_b) (first ∙ ap (λ (x : Run). x.first) same_a)

  pub joined_rising : is_rising runs ≡ true → is_rising (set after at ab) ≡ true
  joined_rising s =
      ap (λ xs. is_rising (set xs at ab)) removed
      ∙ join_rising a b ab joining runs at (omega (arith, l)) is_a (is_b ∙ ap (λ i. get_or runs i b) (add-one at)) s

  pub joined_gone : (q : TrunkId) → gone_at (set after at ab) q ≡ gone_at runs q
  joined_gone q =
      ap (λ xs. gone_at (set xs at ab) q) removed
      ∙ join_gone a b ab joining runs at (omega (arith, l)) is_a (is_b ∙ ap (λ i. get_or runs i b) (add-one at)) q

module _ (runs seen after : List Run) (at : ℕ) (r : Run) (one : r.first ≡ r.last.trunk.count) (same : seen ≡ runs)
    (l : at ≤ length seen) (is_after : after ≡ insert runs at r) (n : gone_at runs r.last.trunk ≡ None) where
  within : at ≤ length runs
  within = subst (λ (xs : List Run). at ≤ length xs) same l

  pub came_rising : Parts r.last.trunk seen at → is_rising runs ≡ true → is_rising after ≡ true
  came_rising p s =
      ap is_rising is_after ∙ insert_rising r one runs at within s (subst (λ (xs : List Run). Parts r.last.trunk xs at) same p) n

  pub came_gone : (q : TrunkId) → gone_at after q ≡ cond (same_trunk q r.last.trunk) (Some (side_in r)) (gone_at runs q)
  came_gone q = ap (λ (xs : List Run). gone_at xs q) is_after ∙ insert_gone r one runs at within n q
