-- The monitors that are left, once those of a process go one after the other.
use Rattle.std.proofs.Common.{◌≡◌, ◌≢◌, ◌-◌, ◌<◌, Bool, true, false, cond, not, Option, None, Some, is_some, refl, sym, ap, subst, ◌∙◌, arith}
use Rattle.std.specs.Ordering.{eq_by_cmp}
use Rattle.std.specs.FinMap as map
use Rattle.sorted_map.specs.Entries.{first_where}
use Rattle.sorted_map.specs.First.{first_held, first_passes, first_least, first_none}
use Rattle.erl_term.specs.declared.term.Pid.{Pid}
use Rattle.erl_term.specs.declared.term.Reference.{Reference}
use Rattle.erl_term.specs.Order.{pid_cmp, reference_cmp}
use Rattle.erl_term.proofs.Order.{reference_cmp_total, reference_cmp_exact}
use Rattle.monitor_core.specs.Monitors.{MonitorMap, IsFirst}
use Rattle.monitor_core.specs.Left.{is_of, without, IsFirstGone}
use Rattle.monitor_core.proofs.Maps.{equal_reference}

pub is_first : {M : Type 0} (monitors : MonitorMap M) (passes : M → Bool) (found : Option (Reference × M))
    → first_where (λ reference monitor. passes monitor) (map.entries monitors) ≡ found → IsFirst monitors passes found
is_first monitors passes None h = λ other its e.
    first_none reference_cmp_total reference_cmp_exact (λ reference monitor. passes monitor) _ other its h
    (sym (map.get-entries monitors other) ∙ e)
is_first monitors passes (Some entry) h = record {
  held = map.get-entries monitors entry.0
      ∙ first_held reference_cmp_total reference_cmp_exact (λ reference monitor. passes monitor) _ entry (map.entries_sorted monitors) h;
  passing = first_passes reference_cmp_total reference_cmp_exact (λ reference monitor. passes monitor) _ entry h;
  least = λ other its e p. first_least reference_cmp_total reference_cmp_exact
      (λ reference monitor. passes monitor) _ entry other its (map.entries_sorted monitors) h
      (sym (map.get-entries monitors other) ∙ e) p;
}

module _ {M : Type 0} (of : M → Pid) (process : Pid) where
  abbrev pub passes : M → Bool
  passes monitor = eq_by_cmp pid_cmp (of monitor) process

  abbrev pub first_of : MonitorMap M → Option (Reference × M)
  first_of monitors = first_where (λ reference monitor. passes monitor) (map.entries monitors)

  -- what is left of what a reference has
  abbrev left : Option M → Option M
  left held = cond (not (is_of of process held)) held None

  get_left : (monitors : MonitorMap M) (q : Reference) → map.get (without of monitors process) q ≡ left (map.get monitors q)
  get_left monitors q =
      map.get-retain_keys monitors (λ r. not (is_of of process (map.get monitors r))) q
      (λ x t. ap (λ r. not (is_of of process (map.get monitors r))) (sym (reference_cmp_exact q x t)))

  gone : (b : Bool) (x : Option M) → (b ≡ true → left x ≡ None) → left (cond b None x) ≡ left x
  gone true x h = sym (h refl)
  gone false x h = refl

  left_none : (x : Option M) (m : M) → x ≡ Some m → passes m ≡ true → left x ≡ None
  left_none x m e p = ap left e ∙ ap (λ b. cond (not b) (Some m) None) p

  left_all : (x : Option M) → ((m : M) → x ≡ Some m → passes m ≡ false) → left x ≡ x
  left_all None h = refl
  left_all (Some m) h = ap (λ b. cond (not b) (Some m) None) (h m refl)

  -- where none is found, all are left
  pub all_left : (old : MonitorMap M) → first_of old ≡ None → without of old process ≡ old
  all_left old h = map.same_map reference_cmp_total reference_cmp_exact _ _ (λ q.
      get_left old q ∙ left_all (map.get old q) (λ m e. is_first old passes None h q m e))

  -- the first that is found goes, and what is left of the others is what was left before
  pub left_same : (old : MonitorMap M) (entry : Reference × M) → first_of old ≡ Some entry
      → without of (map.remove old entry.0) process ≡ without of old process
  left_same old entry h = map.same_map reference_cmp_total reference_cmp_exact _ _ (λ q.
      let first = is_first old passes (Some entry) h in
      get_left (map.remove old entry.0) q ∙ ap left (map.get-remove reference_cmp_total old entry.0 q)
      ∙ gone (eq_by_cmp reference_cmp q entry.0) (map.get old q)
      (λ t. left_none (map.get old q) entry.1 (ap (map.get old) (equal_reference q entry.0 t) ∙ first.held) first.passing)
      ∙ sym (get_left old q))

  len_positive : (old : MonitorMap M) (entry : Reference × M) → map.get old entry.0 ≡ Some entry.1 → map.len old ≢ 0
  len_positive old entry held empty =
      let is = map.empty_of_len old empty in
      let none : map.get old entry.0 ≡ None = ap (λ m. map.get m entry.0) is ∙ map.get-empty reference_cmp entry.0 in cc

  pub fewer : (old : MonitorMap M) (entry : Reference × M) → first_of old ≡ Some entry → map.len (map.remove old entry.0) < map.len old
  fewer old entry h =
      let first = is_first old passes (Some entry) h in
      let len = map.len-remove reference_cmp_total old entry.0 in
      let has : map.contains_key old entry.0 ≡ true = ap is_some first.held in
      let less : map.len (map.remove old entry.0) ≡ map.len old - 1 = len ∙ ap (λ b. cond b (map.len old - 1) (map.len old)) has in
      omega (arith, less, len_positive old entry first.held)

  -- a step of the loop
  pub step_left : (found : Option (Reference × M)) (old new : MonitorMap M) → first_of old ≡ found → IsFirstGone found old true new
      → without of new process ≡ without of old process
  step_left None old new h g = cc
  step_left (Some entry) old new h g = ap (λ m. without of m process) g.1 ∙ left_same old entry h

  pub step_fewer : (found : Option (Reference × M)) (old new : MonitorMap M) → first_of old ≡ found → IsFirstGone found old true new
      → map.len new < map.len old
  step_fewer None old new h g = cc
  step_fewer (Some entry) old new h g = subst (λ m. map.len m < map.len old) (sym g.1) (fewer old entry h)

  pub end_left : (found : Option (Reference × M)) (old new : MonitorMap M) → first_of old ≡ found → IsFirstGone found old false new
      → new ≡ without of old process
  end_left None old new h g = g.1 ∙ sym (all_left old h)
  end_left (Some entry) old new h g = cc
