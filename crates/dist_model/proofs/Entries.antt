-- What stands in the entries of a map.
use Rattle.std.proofs.Common.{◌≡◌, Bool, true, false, cond, List, [], ◌∷◌, refl, sym, ap, ◌∙◌, subst, Option, Some, None, T, Contains}
use Rattle.std.proofs.lemmas.List.Elements.{All-cons, All-contains, All-nil, All-weaker}
use Rattle.std.proofs.lemmas.List.Elements.{Contains-append_right, Contains-push, Contains-append_left}
use Rattle.std.proofs.lemmas.Option.{same_Some, none-some}
use Rattle.std.specs.List.{All}
use Rattle.std.specs.Ordering.{is_eq}
use Rattle.std.specs.Cmp.{tied_itself}
use Rattle.std.specs.FinMap as fm
use Rattle.std.specs.FinMap.Entries.{below_all, find, is_sorted}
use Rattle.sorted_map.specs.Entries.{first_where}
use Rattle.sorted_map.specs.Facts.{both_pass}
use Rattle.dist_model.proofs.Keys.{same_name_true, below_key}
use Rattle.sorted_map.proofs.Orderings.{equal_of}
use Rattle.dist_model.specs.Downs.{same_reference}
use Rattle.dist_model.specs.Losses.{registered_by, watch_to}
use Rattle.dist_model.specs.Names.{Name, same_name}
use Rattle.erl_term.specs.declared.term.Pid.{Pid}
use Rattle.erl_term.specs.declared.term.Reference.{Reference}
use Rattle.erl_term.proofs.Order.{reference_cmp_exact, reference_cmp_total}
use Rattle.monitor_core.specs.Monitors.{MonitorMap, RegistrationMap, WatchMap, target_node}
use Rattle.erl_term.specs.Order.{reference_cmp}
use Rattle.monitor_core.specs.declared.monitor.Registration.{Registration}
use Rattle.monitor_core.specs.declared.monitor.Watch.{Watch}
use Rattle.monitor_core.specs.declared.monitor.Target.{Target}

pub same_reference_true : (a b : Reference) → same_reference a b ≡ true → a ≡ b
same_reference_true a b h = reference_cmp_exact a b (equal_of (reference_cmp a b) h)

pub same_reference_refl : (a : Reference) → same_reference a a ≡ true
same_reference_refl a = ap is_eq (tied_itself reference_cmp_total a)

all_found : {M : Type 0} (es : List (Reference × M)) → T (is_sorted reference_cmp es) → All (λ e. find reference_cmp e.0 es ≡ Some e.1) es
all_found [] s = All-nil (λ e. find reference_cmp e.0 [] ≡ Some e.1)
all_found (d ∷ es) s =
    let v = both_pass (below_all reference_cmp d.0 es) (is_sorted reference_cmp es) s in
    All-cons (λ e. find reference_cmp e.0 (d ∷ es) ≡ Some e.1) d es
    (ap (λ b. cond b (Some d.1) (find reference_cmp d.0 es)) (same_reference_refl d.0))
    (All-weaker (λ e. find reference_cmp e.0 es ≡ Some e.1) (λ e. find reference_cmp e.0 (d ∷ es) ≡ Some e.1)
    (λ e h. ap (λ b. cond b (Some d.1) (find reference_cmp e.0 es)) (below_key reference_cmp reference_cmp_exact e.0 d.0 e.1 es v.0 h) ∙ h)
    es (all_found es v.1))

-- each entry is what its reference has
pub each_entry : {M : Type 0} (m : MonitorMap M) → All (λ e. fm.get m e.0 ≡ Some e.1) (fm.entries m)
each_entry m =
    All-weaker (λ e. find reference_cmp e.0 (fm.entries m) ≡ Some e.1) (λ e. fm.get m e.0 ≡ Some e.1)
    (λ e h. fm.get-entries m e.0 ∙ h) (fm.entries m) (all_found (fm.entries m) (fm.entries_sorted m))

first_in : {X : Type 0} (x : X) (xs : List X) → Contains (x ∷ xs) x
first_in x xs = Contains-append_left (x ∷ []) xs x (Contains-push [] x)

pub found_in : {M : Type 0} (k : Reference) (v : M) (es : List (Reference × M)) → find reference_cmp k es ≡ Some v → Contains es (k, v)
found_in k v [] h = absurd (none-some v h)
found_in k v (e ∷ es) h = go (same_reference k e.0) refl h (found_in k v es)
  where
    go : (b : Bool) → same_reference k e.0 ≡ b → cond b (Some e.1) (find reference_cmp k es) ≡ Some v
        → (find reference_cmp k es ≡ Some v → Contains es (k, v)) → Contains (e ∷ es) (k, v)
    go true i h f =
        let a : k ≡ e.0 = same_reference_true k e.0 i in let c : e.1 ≡ v = same_Some e.1 v h in
        subst (λ z. Contains (e ∷ es) z) (λ j. (sym a j, c j)) (first_in e es)
    go false i h f = Contains-append_right (e ∷ []) es (k, v) (f h)

-- the first entry that passes
first_passes : {M : Type 0} (test : Reference → M → Bool) (es : List (Reference × M)) (e : Reference × M)
    → first_where test es ≡ Some e → Contains es e × (test e.0 e.1 ≡ true)
first_passes test [] e h = absurd (none-some e h)
first_passes {M = M} test (d ∷ es) e h = go (test d.0 d.1) refl h (first_passes test es e)
  where
    go : (b : Bool) → test d.0 d.1 ≡ b → cond b (Some d) (first_where test es) ≡ Some e
        → (first_where test es ≡ Some e → Contains es e × (test e.0 e.1 ≡ true)) → Contains (d ∷ es) e × (test e.0 e.1 ≡ true)
    go true i h f =
        let same : d ≡ e = same_Some d e h in (
          subst (λ z. Contains (d ∷ es) z) same (first_in d es),
          ap (λ (z : Reference × M). test z.0 z.1) (sym same) ∙ i,
        )
    go false i h f = let r = f h in (Contains-append_right (d ∷ []) es e r.0, r.1)

first_found : {M : Type 0} (test : Reference → M → Bool) (m : MonitorMap M) (e : Reference × M) → first_where test (fm.entries m) ≡ Some e
    → (fm.get m e.0 ≡ Some e.1) × (test e.0 e.1 ≡ true)
first_found test m e h =
    let v = first_passes test (fm.entries m) e h in (All-contains (λ d. fm.get m d.0 ≡ Some d.1) (fm.entries m) e (each_entry m) v.0, v.1)

-- the least record towards y
pub watch_found : (y : Name) (m : WatchMap) (e : Reference × Watch) → watch_to y (fm.entries m) ≡ Some e
    → (fm.get m e.0 ≡ Some e.1) × (target_node e.1.target ≡ y)
watch_found y m e h =
    let v = first_found (λ r watch. same_name (target_node watch.target) y) m e h in (v.0, same_name_true (target_node e.1.target) y v.1)

pub registered_found : (y : Name) (m : RegistrationMap) (e : Reference × Registration) → registered_by y (fm.entries m) ≡ Some e
    → (fm.get m e.0 ≡ Some e.1) × (e.1.owner.node ≡ y)
registered_found y m e h =
    let v = first_found (λ r monitor. same_name monitor.owner.node y) m e h in (v.0, same_name_true e.1.owner.node y v.1)

-- where the one has none, neither has what has no more
pub none_by : {X : Type 0} (v w : Option X) → ((m : X) → w ≡ Some m → v ≡ Some m) → v ≡ None → w ≡ None
none_by v None f h = refl
none_by v (Some m) f h = absurd (none-some m (sym h ∙ f m refl))

-- a registration of a pid is bound to it. That of a name is bound to any process
abbrev pub IsBoundAs : Target → Pid → Type 0
IsBoundAs (Target.Pid q) p = q ≡ p
IsBoundAs (Target.Name name node) p = Unit {0}

abbrev pub IsBound : Registration → Type 0
IsBound m = IsBoundAs m.target m.held
