-- The links behind a partner that are to processes at a node, in the order of pids.
use Rattle.std.proofs.Common.{◌≡◌, Bor, Bool, true, false, ◌&&◌, Option, None, Some, is_some, refl, sym, ap, ◌∙◌}
use Rattle.std.specs.Ordering.{is_lt}
use Rattle.std.specs.FinMap as fm
use Rattle.std.specs.FinMap.{is_sorted}
use Rattle.std.specs.Option.{option_copied}
use Rattle.sorted_map.proofs.Orderings.{is_true}
use Rattle.sorted_map.specs.First.{first_held, first_none, first_passes}
use Rattle.dist_model.proofs.Keys.{pid_exact, pid_total}
use Rattle.dist_model.specs.Names.{Name, same_name}
use Rattle.erl_term.specs.Order.{pid_cmp}
use Rattle.erl_term.specs.declared.term.Pid.{Pid}
use Rattle.link_core.specs.declared.end.End.{End}
use Rattle.node_tables.proofs.Lookups.{links_held}
use Rattle.node_tables.specs.Linked.{link_behind}
use Rattle.node_tables.specs.Lives.{end_at, links_of}
use Rattle.node_tables.specs.declared.life.Life.{Life}

both : (a b : Bool) → (a && b) ≡ true → (a ≡ true) × (b ≡ true)
both true b h = (refl, h)
both false b h = cc

module _ (partner : Pid) (n : Name) (life : Life) where
  abbrev is_sought : Pid → End → Bool
  is_sought held end = is_lt (pid_cmp partner held) && same_name held.node n

  abbrev pub IsOne : Type 0
  IsOne =
      (q : Pid) × (e : End) × (end_at q life ≡ Some e) × (same_name q.node n ≡ true) × (is_lt (pid_cmp partner q) ≡ true)

  pub one_behind : (found : Option (Bor (Pid × End))) → option_copied found ≡ link_behind partner n life → is_some found ≡ true → IsOne
  one_behind None is t = cc
  one_behind (Some link) is t =
      let links = fm.entries (links_of life) in
      let x = link.now in
      let held = first_held pid_total pid_exact is_sought links x (fm.entries_sorted (links_of life)) (sym is) in
      let passes = both _ _ (first_passes pid_total pid_exact is_sought links x (sym is)) in
      (x.0, x.1, fm.get-entries (links_of life) x.0 ∙ held, passes.1, passes.0)

  pub none_behind : (found : Option (Bor (Pid × End))) → option_copied found ≡ link_behind partner n life → is_some found ≡ false
      → (q : Pid) (e : End) → end_at q life ≡ Some e → is_lt (pid_cmp partner q) ≡ true → same_name q.node n ≡ false
  none_behind (Some link) is t q e f l = cc
  none_behind None is t q e f l =
      let links = fm.entries (links_of life) in
      let no = first_none pid_total pid_exact is_sought links q e (sym is) (sym (fm.get-entries (links_of life) q) ∙ f) in
      sym (ap (λ b. b && same_name q.node n) l) ∙ no

-- ---- the links of one process

pub links_sorted : (o : Option Life) → is_sorted pid_cmp (links_held o) ≡ true
links_sorted None = refl
links_sorted (Some life) = is_true _ (fm.entries_sorted (links_of life))
