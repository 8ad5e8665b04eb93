-- Whether an owner and a target are those of the monitor that is held.
use Rattle.std.proofs.Common.{◌≡◌, ◌↔◌, IsTrue, Bool, true, false, ◌&&◌, List, ℕ, Option, None}
use Rattle.std.proofs.Common.{Some, refl, sym, ap, ◌∙◌}
use Rattle.std.specs.Ordering.{is_eq, eq_by_cmp, nat_cmp}
use Rattle.std.specs.declared.cmp.Ordering.{Ordering}
use Rattle.std.specs.declared.cmp.Ordering.TheVariants.{Less, Equal, Greater}
use Rattle.std.proofs.lemmas.Cmp.{tied_itself}
use Rattle.std.proofs.lemmas.Map.Lookups.{exact_bytes}
use Rattle.std.specs.Cmp.{IsTotalOrder}
use Rattle.std.specs.Cmp.Lexicographic.{slice_cmp, nat_list_cmp_total}
use Rattle.std.specs.FinMap.{IsAntisymmetric}
use Rattle.erl_term.specs.declared.term.Pid.{Pid}
use Rattle.erl_term.specs.Order.{pid_cmp}
use Rattle.monitor_core.specs.declared.monitor.Target.{Target}
use Rattle.monitor_core.specs.declared.monitor.Watch.{Watch}
use Rattle.monitor_core.specs.Monitors.{is_this, same_target}
use Rattle.erl_term.proofs.Order.{pid_cmp_total, pid_cmp_exact}

-- ---- a test by an order

module _ {K : Type 0} {cmp : K → K → Ordering} (order : IsTotalOrder cmp) (exact : IsAntisymmetric cmp) where
  tied_same : (p q : K) → eq_by_cmp cmp p q ≡ true → p ≡ q
  tied_same p q h = go (cmp p q) refl h
    where
      go : (o : Ordering) → cmp p q ≡ o → is_eq o ≡ true → p ≡ q
      go Less e t = cc
      go Equal e t = exact p q e
      go Greater e t = cc

  tied_self : (p : K) → eq_by_cmp cmp p p ≡ true
  tied_self p = ap is_eq (tied_itself order p)

same_pid : (p q : Pid) → eq_by_cmp pid_cmp p q ≡ true → p ≡ q
same_pid = tied_same pid_cmp_total pid_cmp_exact

pid_self : (p : Pid) → eq_by_cmp pid_cmp p p ≡ true
pid_self = tied_self pid_cmp_total pid_cmp_exact

same_name : (a b : List ℕ) → eq_by_cmp (slice_cmp nat_cmp) a b ≡ true → a ≡ b
same_name = tied_same nat_list_cmp_total exact_bytes

name_self : (a : List ℕ) → eq_by_cmp (slice_cmp nat_cmp) a a ≡ true
name_self = tied_self nat_list_cmp_total exact_bytes

both_true : (a b : Bool) → a && b ≡ true → (a ≡ true) × (b ≡ true)
both_true true b h = (refl, h)
both_true false b h = cc

both : (a b : Bool) → a ≡ true → b ≡ true → a && b ≡ true
both a b p q = ap (λ x. x && b) p ∙ q

-- ---- targets

pub target_same : (s t : Target) → same_target s t ≡ true → s ≡ t
target_same (Target.Pid p) (Target.Pid q) h = ap (λ x. Target.Pid x) (same_pid p q h)
target_same (Target.Pid p) (Target.Name name node) h = cc
target_same (Target.Name name node) (Target.Pid q) h = cc
target_same (Target.Name name node) (Target.Name other at) h =
    let t = both_true (eq_by_cmp (slice_cmp nat_cmp) name other) (eq_by_cmp (slice_cmp nat_cmp) node at) h in
    let named = same_name name other t.0 in let there = same_name node at t.1 in
    λ i. Target.Name (named i) (there i)

pub target_self : (t : Target) → same_target t t ≡ true
target_self (Target.Pid p) = pid_self p
target_self (Target.Name name node) =
    both (eq_by_cmp (slice_cmp nat_cmp) name name) (eq_by_cmp (slice_cmp nat_cmp) node node) (name_self name) (name_self node)

-- ---- watches

same_watch : (v w : Watch) → v.owner ≡ w.owner → v.target ≡ w.target → v ≡ w
same_watch v w p q = λ i. record { owner = p i; target = q i }

pub this_held : (o : Option Watch) (w : Watch) → is_this o w ≡ true → o ≡ Some w
this_held None w h = cc
this_held (Some held) w h =
    let t = both_true (eq_by_cmp pid_cmp held.owner w.owner) (same_target held.target w.target) h in
    ap (λ x. Some x) (same_watch held w (same_pid held.owner w.owner t.0) (target_same held.target w.target t.1))

pub held_this : (o : Option Watch) (w : Watch) → o ≡ Some w → is_this o w ≡ true
held_this o w e =
    ap (λ x. is_this x w) e
    ∙ both (eq_by_cmp pid_cmp w.owner w.owner) (same_target w.target w.target) (pid_self w.owner) (target_self w.target)

-- a test that is true where it is this one
decided : (b : Bool) (o : Option Watch) (w : Watch) → (b ≡ true → o ≡ Some w) → (o ≡ Some w → b ≡ true) → b ≡ is_this o w
decided true o w f g = sym (held_this o w (f refl))
decided false o w f g = go (is_this o w) refl
  where
    go : (c : Bool) → is_this o w ≡ c → false ≡ c
    go true e = g (this_held o w e)
    go false e = refl

one : (v w : Watch) → Some v ≡ Some w → v ≡ w
one v w h = cc

module _ (o : Option Watch) (held w : Watch) (owner : Pid) (e : Some held ≡ o) (its : owner ≡ held.owner) where
  pub both_named : (target : Target) (a b : Bool) → target ≡ held.target → a ≡ true → (IsTrue a ↔ (owner ≡ w.owner))
      → (IsTrue b ↔ (target ≡ w.target)) → b ≡ is_this o w
  both_named target a b there t f g =
      decided b o w (λ k. sym e ∙ ap (λ x. Some x) (same_watch held w (sym its ∙ f.0 t) (sym there ∙ g.0 k)))
      (λ k. g.1 (there ∙ ap (λ (x : Watch). x.target) (one held w (e ∙ k))))

  pub another_owner : (a : Bool) → a ≡ false → (IsTrue a ↔ (owner ≡ w.owner)) → a ≡ is_this o w
  another_owner a t f =
      decided a o w (λ k. let c : true ≡ false = sym k ∙ t in cc)
      (λ k. f.1 (its ∙ ap (λ (x : Watch). x.owner) (one held w (e ∙ k))))
