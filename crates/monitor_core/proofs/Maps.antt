-- What a reference has in the map that records make, and the map after an edit.
use Rattle.std.proofs.Common.{◌≡◌, Bool, true, false, cond, Option, None, Some, is_some, Bor, refl, sym, ap, ◌∙◌}
use Rattle.std.specs.Option.{option_copied, option_map}
use Rattle.std.specs.declared.cmp.Ordering.{Ordering}
use Rattle.std.specs.declared.cmp.Ordering.TheVariants.{Less, Equal, Greater}
use Rattle.std.specs.Ordering.{is_eq, eq_by_cmp}
use Rattle.std.specs.FinMap as map
use Rattle.erl_term.specs.declared.term.Reference.{Reference}
use Rattle.erl_term.specs.Order.{reference_cmp}
use Rattle.monitor_core.specs.Monitors.{MonitorMap}
use Rattle.erl_term.proofs.Order.{reference_cmp_total, reference_cmp_exact}

-- what is there already, put again, changes nothing
same_at : {A : Type 0} (x : Option A) (y : Option A) (b : Bool) → (b ≡ true → y ≡ x) → cond b x y ≡ y
same_at x y true h = sym (h refl)
same_at x y false h = refl

pub equal_reference : (q r : Reference) → eq_by_cmp reference_cmp q r ≡ true → q ≡ r
equal_reference q r h = go (reference_cmp q r) refl h
  where
    go : (o : Ordering) → reference_cmp q r ≡ o → is_eq o ≡ true → q ≡ r
    go Less e t = cc
    go Equal e t = reference_cmp_exact q r e
    go Greater e t = cc

pub remove_same : {M : Type 0} (m : MonitorMap M) (r : Reference) → map.get m r ≡ None → map.remove m r ≡ m
remove_same m r h = map.same_map reference_cmp_total reference_cmp_exact _ _ (λ q.
    map.get-remove reference_cmp_total m r q
    ∙ same_at None (map.get m q) (eq_by_cmp reference_cmp q r) (λ t. ap (map.get m) (equal_reference q r t) ∙ h))

pub none_of : {A : Type 0} (o : Option A) → is_some o ≡ false → o ≡ None
none_of None h = refl
none_of (Some m) h = cc

pub is_some_copied : {A : Type 0} (o : Option (Bor A)) → is_some (option_copied o) ≡ is_some o
is_some_copied None = refl
is_some_copied (Some x) = refl

pub is_some_mapped : {A B : Type 0} (f : A → B) (o : Option A) → is_some (option_map f o) ≡ is_some o
is_some_mapped f None = refl
is_some_mapped f (Some x) = refl
