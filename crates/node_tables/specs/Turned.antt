-- Two tables of registered names: one by name, and one by process.
use Rattle.std.specs.Prelude.{◌≡◌, T, List, Some}
use Rattle.std.specs.FinMap.{find, is_sorted}
use Rattle.std.specs.declared.cmp.Ordering.{Ordering}
use Rattle.dist_model.specs.Names.{Name}
use Rattle.erl_names.specs.Order.{name_cmp}
use Rattle.erl_term.specs.Order.{pid_cmp}
use Rattle.erl_term.specs.declared.term.Pid.{Pid}

-- each entry of the one stands in the other, turned
abbrev pub IsTurned : {K V : Type 0} → (K → K → Ordering) → (V → V → Ordering) → List (K × V) → List (V × K) → Type 0
IsTurned {K} {V} R S one other = (k : K) (v : V) → find R k one ≡ Some v → find S v other ≡ Some k

-- they are in order, and say the same
pub record AreInverse (by_name : List (Name × Pid)) (by_holder : List (Pid × Name)) : Type 0 where
  pub names_rise : T (is_sorted name_cmp by_name)
  pub holders_rise : T (is_sorted pid_cmp by_holder)
  pub held : IsTurned name_cmp pid_cmp by_name by_holder
  pub named : IsTurned pid_cmp name_cmp by_holder by_name
