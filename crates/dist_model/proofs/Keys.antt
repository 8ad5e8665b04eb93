-- The laws of the orders, and of an end in the table.
use Rattle.std.proofs.Common.{◌≡◌, List, Bool, true, false, cond, refl, sym, ap, ◌∙◌, subst, ◌&&◌, Option, Some, None, T}
use Rattle.std.specs.declared.cmp.Ordering.{Ordering}
use Rattle.std.specs.declared.cmp.Ordering.TheVariants.{Less, Equal}
use Rattle.std.specs.Ordering.{is_eq, ordering_then, eq_by_cmp, nat_cmp}
use Rattle.std.specs.Cmp.{IsTotalOrder, nat_cmp_total, tied_itself}
use Rattle.std.specs.Cmp.Lexicographic.{slice_cmp}
use Rattle.std.proofs.lemmas.Cmp.{on_total, then_total, nat_list_cmp_total}
use Rattle.std.proofs.lemmas.Map.Lookups.{exact_unsigned, exact_bytes}
use Rattle.std.proofs.lemmas.Bool.{both_ways, false_from_ne_true}
use Rattle.std.proofs.lemmas.Option.{none-some}
use Rattle.std.specs.FinMap as fm
use Rattle.std.specs.FinMap.Entries.{below_all, find}
use Rattle.sorted_map.specs.Facts.{find_below_all}
pub use Rattle.erl_term.proofs.Order.{pid_cmp_total as pid_total, pid_cmp_exact as pid_exact}
use Rattle.sorted_map.proofs.Orderings.{equal_of, then_equal}
use Rattle.dist_model.proofs.Seen.{end_in}
use Rattle.dist_model.specs.Names.{Name, pair_cmp, place_cmp, same_name, same_pid}
use Rattle.dist_model.specs.Work.{set_in}
use Rattle.erl_names.specs.Order.{name_cmp, trunk_cmp}
use Rattle.erl_names.specs.declared.trunk.TrunkId.{TrunkId}
use Rattle.erl_term.specs.Order.{pid_cmp}
use Rattle.erl_term.specs.declared.term.Pid.{Pid}
use Rattle.link_core.specs.declared.end.End.{End}
use Rattle.std.specs.FinMap.{FinMap}

pub name_total : IsTotalOrder name_cmp
name_total = nat_list_cmp_total

pub name_exact : (a b : Name) → name_cmp a b ≡ Equal → a ≡ b
name_exact a b h = exact_bytes a b h

pub pair_total : IsTotalOrder pair_cmp
pair_total = then_total (on_total (λ (v : Pid × Pid). v.0) pid_total) (on_total (λ (v : Pid × Pid). v.1) pid_total)

-- a key of the rest isn't the first key
pub below_key : {K V : Type 0} (cmp : K → K → Ordering) → ((a b : K) → cmp a b ≡ Equal → a ≡ b)
    → (k u : K) (v : V) (es : List (K × V)) → T (below_all cmp u es) → find cmp k es ≡ Some v → eq_by_cmp cmp k u ≡ false
below_key cmp exact k u v es b h =
    false_from_ne_true _ (λ e. none-some v (sym (find_below_all cmp u es b) ∙ ap (λ z. find cmp z es) (sym (exact k u (equal_of _ e))) ∙ h))

pub same_pid_true : (p q : Pid) → same_pid p q ≡ true → p ≡ q
same_pid_true p q h = pid_exact p q (equal_of _ h)

pub same_pid_refl : (p : Pid) → same_pid p p ≡ true
same_pid_refl p = ap is_eq (tied_itself pid_total p)

pub same_pid_is : (p q : Pid) → p ≡ q → same_pid p q ≡ true
same_pid_is p q h = subst (λ x. same_pid p x ≡ true) h (same_pid_refl p)

pub same_name_true : (x y : Name) → same_name x y ≡ true → x ≡ y
same_name_true x y h = name_exact x y (equal_of _ h)

pub same_name_refl : (x : Name) → same_name x x ≡ true
same_name_refl x = ap is_eq (tied_itself name_total x)

pub same_name_is : (x y : Name) → x ≡ y → same_name x y ≡ true
same_name_is x y h = subst (λ z. same_name x z ≡ true) h (same_name_refl x)

then_is_eq : (a b : Ordering) → is_eq (ordering_then a b) ≡ (is_eq a && is_eq b)
then_is_eq Less b = refl
then_is_eq _ b = refl

pub same_pair : (p q x y : Pid) → eq_by_cmp pair_cmp (p, q) (x, y) ≡ (same_pid p x && same_pid q y)
same_pair p q x y = then_is_eq (pid_cmp p x) (pid_cmp q y)

end_of_set : (b : Bool) (e : End) (o : Option End) → end_in (cond b (Some e) o) ≡ cond b e (end_in o)
end_of_set true e o = refl
end_of_set false e o = refl

end_of_removed : (b : Bool) (o : Option End) → end_in (cond b None o) ≡ cond b End.None (end_in o)
end_of_removed true o = refl
end_of_removed false o = refl

-- an end after one was set
pub set_in-get : (m : FinMap pair_cmp End) (k : Pid × Pid) (e : End) (q : Pid × Pid)
    → end_in (fm.get (set_in m k e) q) ≡ cond (eq_by_cmp pair_cmp q k) e (end_in (fm.get m q))
set_in-get m k End.None q = ap end_in (fm.get-remove pair_total m k q) ∙ end_of_removed (eq_by_cmp pair_cmp q k) (fm.get m q)
set_in-get m k e q = ap end_in (fm.get-insert pair_total m k e q) ∙ end_of_set (eq_by_cmp pair_cmp q k) e (fm.get m q)

pub end_set_same : (m : FinMap pair_cmp End) (p q : Pid) (e : End) → end_in (fm.get (set_in m (p, q) e) (p, q)) ≡ e
end_set_same m p q e = set_in-get m (p, q) e (p, q) ∙ ap (λ r. cond (is_eq r) e (end_in (fm.get m (p, q)))) (tied_itself pair_total (p, q))

pub pair_exact : (a b : Pid × Pid) → pair_cmp a b ≡ Equal → a ≡ b
pair_exact a b h =
    let x = then_equal (pid_cmp a.0 b.0) (pid_cmp a.1 b.1) h in
    let p : a.0 ≡ b.0 = pid_exact a.0 b.0 x.0 in
    let q : a.1 ≡ b.1 = pid_exact a.1 b.1 x.1 in
    λ i. (p i, q i)

pub trunk_total : IsTotalOrder trunk_cmp
trunk_total = then_total (on_total (λ (t : TrunkId). t.dialer) nat_list_cmp_total) (on_total (λ (t : TrunkId). t.count) nat_cmp_total)

pub trunk_exact : (a b : TrunkId) → trunk_cmp a b ≡ Equal → a ≡ b
trunk_exact a b h =
    let x = then_equal (slice_cmp nat_cmp a.dialer b.dialer) (nat_cmp a.count b.count) h in
    let d : a.dialer ≡ b.dialer = exact_bytes _ _ x.0 in
    let c : a.count ≡ b.count = exact_unsigned _ _ x.1 in
    λ i. record { dialer = d i; count = c i }

pub place_total : IsTotalOrder place_cmp
place_total = then_total (on_total (λ (v : TrunkId × Name). v.0) trunk_total) (on_total (λ (v : TrunkId × Name). v.1) nat_list_cmp_total)

abbrev pub same_trunk : TrunkId → TrunkId → Bool
same_trunk a b = is_eq (trunk_cmp a b)

pub same_place : (t u : TrunkId) (x y : Name) → eq_by_cmp place_cmp (t, x) (u, y) ≡ (same_trunk t u && same_name x y)
same_place t u x y = then_is_eq (trunk_cmp t u) (name_cmp x y)

pub same_trunk_true : (t u : TrunkId) → same_trunk t u ≡ true → t ≡ u
same_trunk_true t u h = trunk_exact t u (equal_of (trunk_cmp t u) h)

pub same_trunk_refl : (t : TrunkId) → same_trunk t t ≡ true
same_trunk_refl t = ap is_eq (tied_itself trunk_total t)

pub same_trunk_is : (t u : TrunkId) → t ≡ u → same_trunk t u ≡ true
same_trunk_is t u h = subst (λ x. same_trunk t x ≡ true) h (same_trunk_refl t)

pub other_trunk : (t u : TrunkId) → (t ≡ u → ⊥) → same_trunk t u ≡ false
other_trunk t u d = false_from_ne_true (same_trunk t u) (λ e. d (same_trunk_true t u e))

pub name_turned : (x y : Name) → same_name x y ≡ false → same_name y x ≡ false
name_turned x y h = false_from_ne_true (same_name y x) (λ e. both_ways (same_name x y) h (same_name_is x y (sym (same_name_true y x e))))
