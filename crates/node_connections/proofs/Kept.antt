-- A monitor that is left once some are gone.
use Rattle.std.proofs.Common.{◌≡◌, suc, Bool, true, false, cond, not, ◌&&◌, ◌||◌, List, [], ◌∷◌, ◌++◌}
use Rattle.std.proofs.Common.{filter, get_or, Option, None, Some, refl, sym, ap, ◌∙◌, arith}
use Rattle.std.specs.Cmp.{IsTotalOrder, tied_back}
use Rattle.std.specs.FinMap as fm
use Rattle.std.specs.FinMap.{FinMap, IsAntisymmetric}
use Rattle.std.specs.FinMap.Entries.{find-where_key, is_sorted-where_key, where_key}
use Rattle.std.specs.List.{All, list_any}
use Rattle.std.specs.Option.{is_some}
use Rattle.std.specs.Ordering.{is_lt, is_eq, eq_by_cmp, ordering_reverse}
use Rattle.std.specs.declared.cmp.Ordering.{Ordering}
use Rattle.std.specs.declared.cmp.Ordering.TheVariants.{Less, Equal, Greater}
use Rattle.dist_model.proofs.Entries.{each_entry}
use Rattle.dist_model.specs.Downs.{same_reference}
use Rattle.dist_model.specs.Names.{same_pid}
use Rattle.erl_term.specs.declared.term.Pid.{Pid}
use Rattle.erl_term.specs.declared.term.Reference.{Reference}
use Rattle.erl_term.specs.Order.{reference_cmp}
use Rattle.erl_term.proofs.Order.{reference_cmp_exact, reference_cmp_total}
use Rattle.monitor_core.specs.Left.{is_bound, is_owned, without_held, without_owner}
use Rattle.monitor_core.specs.Monitors.{MonitorMap, RegistrationMap, WatchMap}
use Rattle.monitor_core.specs.declared.monitor.Registration.{Registration}
use Rattle.monitor_core.specs.declared.monitor.Watch.{Watch}
use Rattle.monitor_core.proofs.Walks.{next}
use Rattle.sorted_map.proofs.Orderings.{turned}
use Rattle.sorted_map.specs.Entries.{first_where}
use Rattle.sorted_map.specs.First.{first_passes}

-- ---- the entries that are kept

module _ {K V : Type 0} {R : K → K → Ordering} (order : IsTotalOrder R) (exact : IsAntisymmetric R) (m : FinMap R V) where
  pub entries_kept : (keep : K → Bool) → fm.entries (fm.retain_keys m keep) ≡ where_key R keep (fm.entries m)
  entries_kept keep =
      let sorted = is_sorted-where_key R keep (fm.entries m) (fm.entries_sorted m) in
      let same : fm.retain_keys m keep ≡ fm.from_sorted {R = R} (where_key R keep (fm.entries m)) = fm.same_map order exact _ _ (λ q.
      fm.get-retain_keys m keep q (λ x t. ap keep (sym (exact q x t)))
      ∙ ap (λ o. cond (keep q) o None) (fm.get-entries m q)
      ∙ sym (fm.get-from_sorted R (where_key R keep (fm.entries m)) q sorted
      ∙ find-where_key R keep q (λ x t. ap keep (sym (exact q x t))) (fm.entries m))) in
      ap fm.entries same ∙ fm.entries-from_sorted R (where_key R keep (fm.entries m)) sorted

  pub removed_is : (k : K) → fm.remove m k ≡ fm.retain_keys m (λ x. not (eq_by_cmp R x k))
  removed_is k = fm.same_map order exact _ _ (λ q.
      fm.get-remove order m k q ∙ turned (eq_by_cmp R q k) None (fm.get m q)
      ∙ sym (fm.get-retain_keys m (λ x. not (eq_by_cmp R x k)) q (λ x t. ap (λ z. not (eq_by_cmp R z k)) (sym (exact q x t)))))

-- ---- one of them passes

module _ {K V : Type 0} (R : K → K → Ordering) (keep : K → Bool) (passes : K → V → Bool) (f : K × V → Bool) where
  step : (e : K × V) (es : List (K × V)) (k p b : Bool) → passes e.0 e.1 ≡ p → f e ≡ (p && k)
      → b ≡ is_some (first_where passes (where_key R keep es))
      → (f e || b) ≡ is_some (first_where passes (cond k (e ∷ where_key R keep es) (where_key R keep es)))
  step e es true true b h g r = ap (λ x. x || b) g ∙ sym (ap (λ x. is_some (cond x (Some e) (first_where passes (where_key R keep es)))) h)
  step e es true false b h g r =
      ap (λ x. x || b) g ∙ r ∙ sym (ap (λ x. is_some (cond x (Some e) (first_where passes (where_key R keep es)))) h)
  step e es false true b h g r = ap (λ x. x || b) g ∙ r
  step e es false false b h g r = ap (λ x. x || b) g ∙ r

  pub any_kept : (es : List (K × V)) → All (λ e. f e ≡ (passes e.0 e.1 && keep e.0)) es
      → list_any f es ≡ is_some (first_where passes (where_key R keep es))
  any_kept [] g = refl
  any_kept (e ∷ es) g =
      step e es (keep e.0) (passes e.0 e.1) (list_any f es) refl (g 0 e (omega arith)) (any_kept es (λ k d a. g (suc k) d (omega arith)))

-- a search finds one where one passes
any_first : {K V : Type 0} (passes : K → V → Bool) (f : K × V → Bool) (es : List (K × V)) → All (λ e. f e ≡ passes e.0 e.1) es
    → list_any f es ≡ is_some (first_where passes es)
any_first passes f [] g = refl
any_first passes f (e ∷ es) g = go (passes e.0 e.1) (g 0 e (omega arith)) (any_first passes f es (λ k d a. g (suc k) d (omega arith)))
  where
    go : (b : Bool) → f e ≡ b → list_any f es ≡ is_some (first_where passes es)
        → (f e || list_any f es) ≡ is_some (cond b (Some e) (first_where passes es))
    go true h r = ap (λ x. x || list_any f es) h
    go false h r = ap (λ x. x || list_any f es) h ∙ r

-- ---- of monitors

module _ {M : Type 0} (m : MonitorMap M) (passes : Reference → M → Bool) (f : Reference × M → Bool) where
  left : (keep : Reference → Bool) → All (λ e. f e ≡ (passes e.0 e.1 && keep e.0)) (fm.entries m)
      → list_any f (fm.entries m) ≡ is_some (first_where passes (fm.entries (fm.retain_keys m keep)))
  left keep g =
      any_kept reference_cmp keep passes f (fm.entries m) g
      ∙ sym (ap (λ es. is_some (first_where passes es)) (entries_kept reference_cmp_total reference_cmp_exact m keep))

  -- but that of a reference
  pub left_but : (gone : Reference) → ((e : Reference × M) → f e ≡ (passes e.0 e.1 && not (same_reference e.0 gone)))
      → list_any f (fm.entries m) ≡ is_some (first_where passes (fm.entries (fm.remove m gone)))
  left_but gone g =
      left (λ x. not (same_reference x gone)) (λ k d a. g (get_or (fm.entries m) k d))
      ∙ sym (ap (λ n. is_some (first_where passes (fm.entries n))) (removed_is reference_cmp_total reference_cmp_exact m gone))

-- but those that a process owns
pub left_by_owner : (m : WatchMap) (passes : Reference → Watch → Bool) (f : Reference × Watch → Bool) (p : Pid)
    → ((e : Reference × Watch) → f e ≡ (passes e.0 e.1 && not (same_pid e.1.owner p)))
    → list_any f (fm.entries m) ≡ is_some (first_where passes (fm.entries (without_owner m p)))
left_by_owner m passes f p g = left m passes f (λ r. not (is_owned p (fm.get m r))) (λ k d a.
    let e = get_or (fm.entries m) k d in
    g e ∙ ap (λ o. passes e.0 e.1 && not (is_owned p o)) (sym (each_entry m k d a)))

-- but those that are bound to a process
pub left_by_held : (m : RegistrationMap) (passes : Reference → Registration → Bool) (f : Reference × Registration → Bool) (p : Pid)
    → ((e : Reference × Registration) → f e ≡ (passes e.0 e.1 && not (same_pid e.1.held p)))
    → list_any f (fm.entries m) ≡ is_some (first_where passes (fm.entries (without_held m p)))
left_by_held m passes f p g = left m passes f (λ r. not (is_bound p (fm.get m r))) (λ k d a.
    let e = get_or (fm.entries m) k d in
    g e ∙ ap (λ o. passes e.0 e.1 && not (is_bound p o)) (sym (each_entry m k d a)))

-- ---- behind the first, which goes

pub and_false : (b : Bool) → b && false ≡ false
and_false true = refl
and_false false = refl

and_true : (b : Bool) → b && true ≡ b
and_true true = refl
and_true false = refl

module _ {M : Type 0} (m n : MonitorMap M) (same : m ≡ n) (passes : M → Bool) (gone : Reference)
    (none : (r : Reference) (w : M) → fm.get n r ≡ Some w → reference_cmp r gone ≡ Less → passes w ≡ false) where
  abbrev other : Reference × M → Bool
  other e = passes e.1 && not (same_reference e.0 gone)

  as_behind : (r : Reference) (w : M) → fm.get n r ≡ Some w
      → (passes w && not (same_reference r gone)) ≡ (is_lt (reference_cmp gone r) && passes w)
  as_behind r w h = go (reference_cmp r gone) refl
    where
      go : (o : Ordering) → reference_cmp r gone ≡ o
          → (passes w && not (same_reference r gone)) ≡ (is_lt (reference_cmp gone r) && passes w)
      go Less e =
          ap (λ b. b && not (same_reference r gone)) (none r w h e)
          ∙ sym (ap (λ b. is_lt (reference_cmp gone r) && b) (none r w h e) ∙ and_false (is_lt (reference_cmp gone r)))
      go Equal e =
          ap (λ o. passes w && not (is_eq o)) e ∙ and_false (passes w)
          ∙ sym (ap (λ o. is_lt o && passes w) (tied_back reference_cmp_total r gone e))
      go Greater e =
          ap (λ o. passes w && not (is_eq o)) e ∙ and_true (passes w)
          ∙ sym (ap (λ o. is_lt o && passes w) (reference_cmp_total.antisymm gone r ∙ ap ordering_reverse e))

  pub next_other : is_some (next passes (Some gone) (fm.entries m))
      ≡ is_some (first_where (λ r w. passes w) (fm.entries (fm.remove n gone)))
  next_other =
      ap (λ k. is_some (next passes (Some gone) (fm.entries k))) same
      ∙ sym (any_first (λ r w. is_lt (reference_cmp gone r) && passes w) other (fm.entries n) (λ k d a.
      as_behind (get_or (fm.entries n) k d).0 (get_or (fm.entries n) k d).1 (each_entry n k d a)))
      ∙ left_but n (λ r w. passes w) other gone (λ e. refl)

-- ---- a walk over them

pub any_more : {A : Type 0} (f : A → Bool) (xs : List A) (x : A) → list_any f xs ≡ false → f x ≡ false → list_any f (xs ++ x ∷ []) ≡ false
any_more f [] x h k = ap (λ b. b || false) k
any_more f (y ∷ ys) x h k = go (f y) refl h (any_more f ys x)
  where
    go : (b : Bool) → f y ≡ b → (b || list_any f ys) ≡ false → (list_any f ys ≡ false → f x ≡ false → list_any f (ys ++ x ∷ []) ≡ false)
        → (b || list_any f (ys ++ x ∷ [])) ≡ false
    go true e h more = cc
    go false e h more = more h k

pub any_filter : {A : Type 0} (passes f : A → Bool) (xs : List A) → ((x : A) → passes x ≡ false → f x ≡ false)
    → list_any f (filter passes xs) ≡ list_any f xs
any_filter passes f [] h = refl
any_filter {A} passes f (x ∷ xs) h = go (passes x) refl (any_filter passes f xs h)
  where
    go : (b : Bool) → passes x ≡ b → list_any f (filter passes xs) ≡ list_any f xs
        → list_any f (cond b (x ∷ filter passes xs) (filter passes xs)) ≡ (f x || list_any f xs)
    go true e more = ap (λ b. f x || b) more
    go false e more = more ∙ sym (ap (λ b. b || list_any f xs) (h x e))

pub any_found : {K V : Type 0} (passes : K → V → Bool) (f : K × V → Bool) (es : List (K × V)) (e : K × V)
    → first_where passes es ≡ Some e → f e ≡ true → list_any f es ≡ true
any_found passes f [] e h k = cc
any_found {K} {V} passes f (x ∷ es) e h k = go (passes x.0 x.1) h (any_found passes f es e)
  where
    or_true : (b : Bool) → (b || true) ≡ true
    or_true true = refl
    or_true false = refl

    go : (b : Bool) → cond b (Some x) (first_where passes es) ≡ Some e → (first_where passes es ≡ Some e → f e ≡ true → list_any f es ≡ true)
        → (f x || list_any f es) ≡ true
    go true i more = let is : x ≡ e = cc in ap (λ b. b || list_any f es) (ap f is ∙ k)
    go false i more = ap (λ b. f x || b) (more i k) ∙ or_true (f x)

-- the next one passes
pub next_passes : {M : Type 0} (passes : M → Bool) (behind : Option Reference) (es : List (Reference × M)) (e : Reference × M)
    → next passes behind es ≡ Some e → passes e.1 ≡ true
next_passes passes behind es e h =
    second _ (passes e.1) (first_passes reference_cmp_total reference_cmp_exact _ es e h)
  where
    second : (a b : Bool) → a && b ≡ true → b ≡ true
    second true b k = k
    second false b k = cc
