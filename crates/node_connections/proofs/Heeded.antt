-- What is behind a sweep stays gone, where a plan adds no record towards its peer.
use Rattle.std.proofs.Common.{◌≡◌, ◌≤◌, ◌⊎◌, inl, inr, ℕ, Bool, true, false, cond}
use Rattle.std.proofs.Common.{not, Option, None, Some, unwrap_or, refl, sym, ap, subst, ◌∙◌}
use Rattle.std.proofs.lemmas.Bool.{or_parts}
use Rattle.std.proofs.lemmas.Option.{none-some, same_Some}
use Rattle.std.specs.Cmp.{Equal-is, IsTotalOrder}
use Rattle.std.specs.FinMap as fm
use Rattle.std.specs.FinMap.{FinMap, IsAntisymmetric}
use Rattle.std.specs.Ordering.{eq_by_cmp}
use Rattle.std.specs.declared.cmp.Ordering.{Ordering}
use Rattle.dist_model.proofs.Keys.{pair_exact, pair_total}
use Rattle.dist_model.proofs.Truths.{and_second}
use Rattle.dist_model.specs.Names.{Name, pair_cmp, same_name, same_pid}
use Rattle.dist_model.specs.Node.{Node}
use Rattle.dist_model.specs.Work.{set_in}
use Rattle.erl_term.specs.declared.term.Pid.{Pid}
use Rattle.link_core.specs.declared.end.End.{End}
use Rattle.link_core.specs.declared.end.LinkSignal.TheVariants as signal
use Rattle.node_plan.specs.Adding.{adds_towards}
use Rattle.node_plan.specs.Registering.{changes_towards, is_new, links_towards}
use Rattle.node_plan.specs.Plans.{committed}
use Rattle.node_plan.specs.Changed.{end_after, ends_after, ends_left}
use Rattle.node_plan.specs.declared.change.Change.{Change}
use Rattle.node_plan.specs.declared.change.Change.TheVariants as change
use Rattle.node_plan.specs.declared.change.LifeChange.{LifeChange}
use Rattle.node_plan.specs.declared.change.LifeChange.TheVariants as life
use Rattle.node_plan.specs.declared.change.LinkChange.{LinkChange}
use Rattle.node_plan.specs.declared.change.LinkChange.TheVariants as link
use Rattle.node_plan.specs.declared.plan.Plan.{Plan}
use Rattle.node_connections.specs.Ahead.{NoneLinkedUpTo}
use Rattle.node_tables.specs.Becomes.{becomes, end_changed}
use Rattle.node_tables.specs.declared.end_change.EndChange.{EndChange}
use Rattle.node_tables.specs.declared.end_change.EndChange.TheVariants.{Links, Receives}

-- ---- what a changed map holds, the old one held

module _ {K V : Type 0} {R : K → K → Ordering} (order : IsTotalOrder R) (exact : IsAntisymmetric R) where
  removed_held : (m : FinMap R V) (k q : K) (v : V) → fm.get (fm.remove m k) q ≡ Some v → fm.get m q ≡ Some v
  removed_held m k q v h = go (eq_by_cmp R q k) (sym (fm.get-remove order m k q) ∙ h)
    where
      go : (b : Bool) → cond b None (fm.get m q) ≡ Some v → fm.get m q ≡ Some v
      go true k = absurd (none-some v k)
      go false k = k

  retained_held : (m : FinMap R V) (p : K → Bool) (q : K) (v : V) → fm.get (fm.retain_keys m p) q ≡ Some v → fm.get m q ≡ Some v
  retained_held m p q v h = go (p q) (sym (fm.get-retain_keys m p q (λ x t. ap p (sym (exact q x t)))) ∙ h)
    where
      go : (b : Bool) → cond b (fm.get m q) None ≡ Some v → fm.get m q ≡ Some v
      go true k = k
      go false k = absurd (none-some v k)

  inserted_held : (m : FinMap R V) (k : K) (w : V) (q : K) (v : V) → fm.get (fm.insert m k w) q ≡ Some v → ((q ≡ k) × (w ≡ v))
      ⊎ (fm.get m q ≡ Some v)
  inserted_held m k w q v h = go (eq_by_cmp R q k) refl (sym (fm.get-insert order m k w q) ∙ h)
    where
      go : (b : Bool) → eq_by_cmp R q k ≡ b → cond b (Some w) (fm.get m q) ≡ Some v → ((q ≡ k) × (w ≡ v)) ⊎ (fm.get m q ≡ Some v)
      go true t e = inl (exact q k ((Equal-is _).0 t), same_Some w v e)
      go false t e = inr e

-- ---- links

module _ (peer : Name) (id : ℕ) where
  abbrev Unlinked : FinMap pair_cmp End → Type 0
  Unlinked ends = NoneLinkedUpTo peer id ends

  removed_kept : (ends : FinMap pair_cmp End) (k : Pid × Pid) → Unlinked ends → Unlinked (fm.remove ends k)
  removed_kept ends k h p q e f l = h p q e (removed_held pair_total pair_exact ends k (p, q) e f) l

  inserted_kept : (ends : FinMap pair_cmp End) (p q : Pid) (v : End) → (p.id ≤ id → same_name q.node peer ≡ false)
      → Unlinked ends → Unlinked (fm.insert ends (p, q) v)
  inserted_kept ends p q v at h x y e f l = go (inserted_held pair_total pair_exact ends (p, q) v (x, y) e f)
    where
      go : (◌≡◌ {A = Pid × Pid} (x, y) (p, q) × (v ≡ e)) ⊎ (fm.get ends (x, y) ≡ Some e) → same_name y.node peer ≡ false
      go (inl s) = ap (λ (k : Pid × Pid). same_name k.1.node peer) s.0 ∙ at (subst (λ (k : Pid × Pid). k.0.id ≤ id) s.0 l)
      go (inr g) = h x y e g l

  set_kept : (ends : FinMap pair_cmp End) (p q : Pid) (v : End) → (p.id ≤ id → same_name q.node peer ≡ false) → Unlinked ends
      → Unlinked (set_in ends (p, q) v)
  set_kept ends p q End.None at h = removed_kept ends (p, q) h
  set_kept ends p q End.Active at h = inserted_kept ends p q End.Active at h
  set_kept ends p q (End.Pending n) at h = inserted_kept ends p q (End.Pending n) at h

  -- where there was no end, none comes
  stays_none : (how : EndChange) → is_new how ≡ false → becomes how End.None ≡ End.None
  stays_none Links h = cc
  stays_none (Receives signal.Link) h = cc
  stays_none _ h = refl

  old_kept : (ends : FinMap pair_cmp End) (p q : Pid) (how : EndChange) (was : Option End) → fm.get ends (p, q) ≡ was
      → is_new how ≡ false → Unlinked ends
      → Unlinked (set_in ends (p, q) (becomes how (unwrap_or was End.None)))
  old_kept ends p q how None g new h = subst (λ v. Unlinked (set_in ends (p, q) v)) (sym (stays_none how new)) (removed_kept ends (p, q) h)
  old_kept ends p q how (Some e) g new h = set_kept ends p q (becomes how e) (λ l. h p q e g l) h

  end_kept : (e : LinkChange) (p : Pid) (ends : FinMap pair_cmp End) → links_towards peer e ≡ false → Unlinked ends
      → Unlinked (end_after e p ends)
  end_kept link.Stays p ends t h = h
  end_kept (link.Becomes q how) p ends t h = go (is_new how) refl
    where
      go : (b : Bool) → is_new how ≡ b → Unlinked (end_changed ends (p, q) how)
      go true n = set_kept ends p q _ (λ l. and_second (is_new how) _ t n) h
      go false n = old_kept ends p q how (fm.get ends (p, q)) refl n h

  left_kept : (l : LifeChange) (p : Pid) (ends : FinMap pair_cmp End) → Unlinked ends → Unlinked (ends_left l p ends)
  left_kept (life.Ends reason) p ends h =
      λ x y e f l. h x y e (retained_held pair_total pair_exact ends (λ pair. not (same_pid pair.0 p)) (x, y) e f) l
  left_kept _ p ends h = h

  links_kept : (c : Change) (ends : FinMap pair_cmp End) → changes_towards peer c ≡ false → Unlinked ends → Unlinked (ends_after c ends)
  links_kept change.None ends t h = h
  links_kept change.Spawns ends t h = h
  links_kept (change.TakesName naming) ends t h = h
  links_kept (change.GivesName p) ends t h = h
  links_kept (change.Of p e l) ends t h = left_kept l p (end_after e p ends) (end_kept e p ends t h)

-- ---- a plan

pub still_behind : (peer : Name) (id : ℕ) (plan : Plan) (m : Node) → adds_towards peer plan ≡ false → NoneLinkedUpTo peer id m.ends
    → NoneLinkedUpTo peer id (committed plan m).ends
still_behind peer id plan m t h = links_kept peer id plan.change m.ends (or_parts (changes_towards peer plan.change) _ t).0 h
