-- The two tables of registered names say the same, before and after a change.
use Rattle.std.proofs.Common.{◌≡◌, ◌≢◌, ◌↔◌, Bool, true, false, cond, not, List, Option, None, Some, refl, sym, ap, subst, ◌∙◌}
use Rattle.std.proofs.lemmas.Bool.{both_ways, false_from_ne_true}
use Rattle.std.proofs.lemmas.Option.{none-some, same_Some}
use Rattle.std.specs.declared.cmp.Ordering.{Ordering}
use Rattle.std.specs.Cmp.{IsTotalOrder, eq_by_cmp_equiv, tied_itself}
use Rattle.std.specs.FinMap as fm
use Rattle.std.specs.FinMap.{IsAntisymmetric, find, put}
use Rattle.std.specs.FinMap.Entries.{find-put, find-where_key}
use Rattle.std.specs.Option.{option_map}
use Rattle.std.specs.Ordering.{eq_by_cmp, is_eq}
use Rattle.dist_model.proofs.Keys.{name_exact, name_total, pid_exact, pid_total, same_name_is, same_name_true}
use Rattle.dist_model.proofs.Keys.{same_pid_is, same_pid_refl, same_pid_true}
use Rattle.dist_model.specs.Names.{Name, same_name, same_pid}
use Rattle.erl_names.specs.Order.{name_cmp}
use Rattle.erl_term.specs.Order.{pid_cmp}
use Rattle.erl_term.specs.declared.term.Pid.{Pid}
use Rattle.sorted_map.proofs.Orderings.{equal_of}
use Rattle.sorted_map.specs.Entries.{without}
use Rattle.sorted_map.specs.First.{first_held, first_none, first_passes}
use Rattle.sorted_map.specs.Maps.{map_put, map_without, sorted_put, sorted_without}
use Rattle.dist_model.specs.Naming.{NameMap, IsOneToOne, is_held_by, name_of, without_holder}
use Rattle.node_tables.specs.Turned.{AreInverse, IsTurned}

turned : {A : Type 0} (b : Bool) (x y : A) → cond (not b) x y ≡ cond b y x
turned true x y = refl
turned false x y = refl

-- ---- look-ups after an entry has gone

module _ {K V : Type 0} {R : K → K → Ordering} (total : IsTotalOrder R) (exact : IsAntisymmetric R) where
  found_without : (es : List (K × V)) (k q : K) → find R q (without R k es) ≡ cond (eq_by_cmp R q k) None (find R q es)
  found_without es k q =
      find-where_key R (λ x. not (eq_by_cmp R k x)) q (λ x t. ap (λ y. not (eq_by_cmp R k y)) (sym (exact q x t))) es
      ∙ turned (eq_by_cmp R k q) (find R q es) None ∙ ap (λ b. cond b None (find R q es)) ((eq_by_cmp_equiv total).symm k q)

  -- there was none
  found_still : (es : List (K × V)) (k q : K) → find R k es ≡ None → find R q (without R k es) ≡ find R q es
  found_still es k q none = found_without es k q ∙ go (eq_by_cmp R q k) refl
    where
      go : (b : Bool) → eq_by_cmp R q k ≡ b → cond b None (find R q es) ≡ find R q es
      go true i = sym (ap (λ x. find R x es) (exact q k (equal_of _ i)) ∙ none)
      go false i = refl

-- ---- turned, after a change

module _ {K V : Type 0} {R : K → K → Ordering} {S : V → V → Ordering} (R_total : IsTotalOrder R) (R_exact : IsAntisymmetric R)
    (S_total : IsTotalOrder S) (S_exact : IsAntisymmetric S) (es : List (K × V)) (fs : List (V × K)) (k : K) (v : V)
    (t : IsTurned R S es fs) where
  put_turned : find S v fs ≡ None → IsTurned R S (put R k v es) (put S v k fs)
  put_turned none a q h = go (eq_by_cmp R a k) refl (sym (find-put R R_total a k v es) ∙ h)
    where
      other : find S q fs ≡ Some a → eq_by_cmp S q v ≡ false
      other f = false_from_ne_true (eq_by_cmp S q v) (λ e.
          none-some a (sym none ∙ ap (λ x. find S x fs) (sym (S_exact q v (equal_of _ e))) ∙ f))

      go : (b : Bool) → eq_by_cmp R a k ≡ b → cond b (Some v) (find R a es) ≡ Some q → find S q (put S v k fs) ≡ Some a
      go true i h =
          let same : v ≡ q = same_Some v q h in
          let tied : eq_by_cmp S q v ≡ true = subst (λ x. eq_by_cmp S x v ≡ true) same (ap is_eq (tied_itself S_total v)) in
          find-put S S_total q v k fs ∙ ap (λ b. cond b (Some k) (find S q fs)) tied ∙ ap Some (sym (R_exact a k (equal_of _ i)))
      go false i h =
          let f = t a q h in find-put S S_total q v k fs ∙ ap (λ b. cond b (Some k) (find S q fs)) (other f) ∙ f

  without_turned : find S v fs ≡ Some k → IsTurned R S (without R k es) (without S v fs)
  without_turned there a q h = go (eq_by_cmp R a k) refl (sym (found_without R_total R_exact es k a) ∙ h)
    where
      other : eq_by_cmp R a k ≡ false → find S q fs ≡ Some a → eq_by_cmp S q v ≡ false
      other i f = false_from_ne_true (eq_by_cmp S q v) (λ e.
          let same : k ≡ a = same_Some k a (sym there ∙ ap (λ x. find S x fs) (sym (S_exact q v (equal_of _ e))) ∙ f) in
          both_ways (eq_by_cmp R a k) i (subst (λ x. eq_by_cmp R x k ≡ true) same (ap is_eq (tied_itself R_total k))))

      go : (b : Bool) → eq_by_cmp R a k ≡ b → cond b None (find R a es) ≡ Some q → find S q (without S v fs) ≡ Some a
      go true i h = absurd (none-some q h)
      go false i h =
          let f = t a q h in
          found_without S_total S_exact fs v q ∙ ap (λ b. cond b None (find S q fs)) (other i f) ∙ f

-- ---- the names of others

module _ (m : NameMap) (p : Pid) where
  abbrev stays : Name → Bool
  stays name = not (is_held_by p (fm.get m name))

  stays_get : (name : Name) → fm.get (without_holder m p) name ≡ cond (stays name) (fm.get m name) None
  stays_get name = fm.get-retain_keys m stays name (λ x t. ap stays (sym (name_exact name x t)))

  pub none_kept : (name : Name) → fm.get (without_holder m p) name ≢ Some p
  none_kept name h = go (fm.get m name) (sym (stays_get name) ∙ h)
    where
      held : (q : Pid) (b : Bool) → same_pid q p ≡ b → cond (not b) (Some q) None ≡ Some p → ⊥
      held q true s h = none-some p h
      held q false s h = both_ways (same_pid q p) s (same_pid_is q p (same_Some q p h))

      go : (o : Option Pid) → cond (not (is_held_by p o)) o None ≡ Some p → ⊥
      go None h = none-some p h
      go (Some q) h = held q (same_pid q p) refl h

  pub other_kept : (other : Pid) (name : Name) → other ≢ p
      → (fm.get (without_holder m p) name ≡ Some other) ↔ (fm.get m name ≡ Some other)
  other_kept other name ne = (
    λ h. here (fm.get m name) (sym (stays_get name) ∙ h),
    λ h. stays_get name ∙ ap (λ o. cond (not (is_held_by p o)) o None) h ∙ ap (λ b. cond (not b) (Some other) None) away,
  )
    where
      away : same_pid other p ≡ false
      away = false_from_ne_true (same_pid other p) (λ s. ne (same_pid_true other p s))

      held : (q : Pid) (b : Bool) → cond (not b) (Some q) None ≡ Some other → Some q ≡ Some other
      held q true h = absurd (none-some other h)
      held q false h = h

      here : (o : Option Pid) → cond (not (is_held_by p o)) o None ≡ Some other → o ≡ Some other
      here None h = h
      here (Some q) h = held q (same_pid q p) h

-- ---- the tables

pub still_inverse : (ns ms : List (Name × Pid)) (ps qs : List (Pid × Name)) → ms ≡ ns → qs ≡ ps → AreInverse ns ps → AreInverse ms qs
still_inverse ns ms ps qs n p k = subst (λ l. AreInverse l qs) (sym n) (subst (AreInverse ns) (sym p) k)

module _ (by_name : List (Name × Pid)) (by_holder : List (Pid × Name)) (k : AreInverse by_name by_holder) where
  abbrev held : NameMap
  held = fm.from_sorted by_name

  get_is : (name : Name) → fm.get held name ≡ find name_cmp name by_name
  get_is name = fm.get-from_sorted name_cmp by_name name k.names_rise

  entries_are : fm.entries held ≡ by_name
  entries_are = fm.entries-from_sorted name_cmp by_name k.names_rise

  pub holder_is : (name : Name) → find name_cmp name by_name ≡ fm.get held name
  holder_is name = sym (get_is name)

  pub name_is : (p : Pid) → find pid_cmp p by_holder ≡ option_map (λ entry. entry.0) (name_of held p)
  name_is p = go (name_of held p) refl
    where
      passes : Name → Pid → Bool
      passes name q = same_pid q p

      none : name_of held p ≡ None → (o : Option Name) → find pid_cmp p by_holder ≡ o → o ≡ None
      none i None j = refl
      none i (Some name) j =
          let there = ap (find name_cmp name) entries_are ∙ k.named p name j in
          absurd (both_ways (same_pid p p) (first_none name_total name_exact passes (fm.entries held) name p i there) (same_pid_refl p))

      go : (o : Option (Name × Pid)) → name_of held p ≡ o → find pid_cmp p by_holder ≡ option_map (λ entry. entry.0) (name_of held p)
      go None i = none i (find pid_cmp p by_holder) refl ∙ ap (option_map (λ (e : Name × Pid). e.0)) (sym i)
      go (Some e) i =
          let same : e.1 ≡ p = same_pid_true e.1 p (first_passes name_total name_exact passes (fm.entries held) e i) in
          let there = first_held name_total name_exact passes (fm.entries held) e (fm.entries_sorted held) i in
          k.held e.0 p (ap (find name_cmp e.0) (sym entries_are) ∙ there ∙ ap Some same)
          ∙ ap (option_map (λ (e : Name × Pid). e.0)) (sym i)

  -- ---- a name comes

  module _ (name : Name) (p : Pid) (free : fm.get held name ≡ None) (nameless : name_of held p ≡ None) where
    pub registered : AreInverse (put name_cmp name p by_name) (put pid_cmp p name by_holder)
    registered = record {
      names_rise = sorted_put name_total name p by_name k.names_rise;
      holders_rise = sorted_put pid_total p name by_holder k.holders_rise;
      held = put_turned name_total name_exact pid_total pid_exact by_name by_holder name p k.held
          (name_is p ∙ ap (option_map (λ (e : Name × Pid). e.0)) nameless);
      named = put_turned pid_total pid_exact name_total name_exact by_holder by_name p name k.named (holder_is name ∙ free);
    }

    pub registered_names : fm.from_sorted {R = name_cmp} (put name_cmp name p by_name) ≡ fm.insert held name p
    registered_names = map_put name_total name p by_name k.names_rise

  -- ---- a name goes

  module _ (p : Pid) where
    -- what p holds, by the other table
    holds : (name : Name) (q : Pid) → fm.get held name ≡ Some q → same_pid q p ≡ true → find pid_cmp p by_holder ≡ Some name
    holds name q h s = k.held name p (holder_is name ∙ h ∙ ap Some (same_pid_true q p s))

    module _ (none : find pid_cmp p by_holder ≡ None) where
      pub nothing_removed : AreInverse by_name (without pid_cmp p by_holder)
      nothing_removed = record {
        names_rise = k.names_rise;
        holders_rise = sorted_without pid_total pid_exact p by_holder k.holders_rise;
        held = λ name q h. found_still pid_total pid_exact by_holder p q none ∙ k.held name q h;
        named = λ q name h. k.named q name (sym (found_still pid_total pid_exact by_holder p q none) ∙ h);
      }

      pub same_names : held ≡ without_holder held p
      same_names = fm.same_map name_total name_exact _ _ (λ name. go name (fm.get held name) refl ∙ sym (stays_get held p name))
        where
          go : (name : Name) (o : Option Pid) → fm.get held name ≡ o → fm.get held name ≡ cond (stays held p name) (fm.get held name) None
          go name None i = i ∙ ap (λ o. cond (not (is_held_by p o)) o None) (sym i)
          go name (Some q) i =
              let other : same_pid q p ≡ false = false_from_ne_true (same_pid q p) (λ s. none-some name (sym none ∙ holds name q i s)) in
              i ∙ ap (λ b. cond (not b) (Some q) None) (sym other) ∙ ap (λ o. cond (not (is_held_by p o)) o None) (sym i)

    module _ (name : Name) (some : find pid_cmp p by_holder ≡ Some name) where
      pub removed : AreInverse (without name_cmp name by_name) (without pid_cmp p by_holder)
      removed = record {
        names_rise = sorted_without name_total name_exact name by_name k.names_rise;
        holders_rise = sorted_without pid_total pid_exact p by_holder k.holders_rise;
        held = without_turned name_total name_exact pid_total pid_exact by_name by_holder name p k.held some;
        named = without_turned pid_total pid_exact name_total name_exact by_holder by_name p name k.named (k.named p name some);
      }

      pub other_names : fm.from_sorted {R = name_cmp} (without name_cmp name by_name) ≡ without_holder held p
      other_names =
          map_without name_total name_exact name by_name k.names_rise
          ∙ fm.same_map name_total name_exact _ _ (λ q.
          fm.get-remove name_total held name q ∙ go q (fm.get held q) refl ∙ sym (stays_get held p q))
        where
          at : (q : Name) (r : Pid) → fm.get held q ≡ Some r → (b : Bool) → same_pid r p ≡ b
              → cond (same_name q name) None (Some r) ≡ cond (not b) (Some r) None
          at q r i true s = ap (λ b. cond b None (Some r)) (same_name_is q name (same_Some q name (sym (holds q r i s) ∙ some)))
          at q r i false s = ap (λ b. cond b None (Some r)) (false_from_ne_true (same_name q name) (λ e.
              let same : r ≡ p = same_Some r p (sym i ∙ ap (fm.get held) (same_name_true q name e) ∙ get_is name ∙ k.named p name some) in
              both_ways (same_pid r p) s (same_pid_is r p same)))

          nothing : {A : Type 0} (b : Bool) (x : A) → cond b x x ≡ x
          nothing true x = refl
          nothing false x = refl

          go : (q : Name) (o : Option Pid) → fm.get held q ≡ o
              → cond (same_name q name) None (fm.get held q) ≡ cond (stays held p q) (fm.get held q) None
          go q None i =
              ap (cond (same_name q name) None) i ∙ nothing (same_name q name) None ∙ ap (λ o. cond (not (is_held_by p o)) o None) (sym i)
          go q (Some r) i =
              ap (cond (same_name q name) None) i ∙ at q r i (same_pid r p) refl
              ∙ ap (λ o. cond (not (is_held_by p o)) o None) (sym i)

  -- ---- one name each

  pub one_to_one : IsOneToOne held
  one_to_one name other p i j =
      same_Some name other (sym (k.held name p (holder_is name ∙ i)) ∙ k.held other p (holder_is other ∙ j))

  pub held_named : (name : Name) (p : Pid) → (fm.get held name ≡ Some p) ↔ (option_map (λ entry. entry.0) (name_of held p) ≡ Some name)
  held_named name p = (
    λ h. sym (name_is p) ∙ k.held name p (holder_is name ∙ h),
    λ h. get_is name ∙ k.named p name (name_is p ∙ h),
  )
