-- A plan that carries a sweep out leaves the sides as they are.
use Rattle.std.proofs.Common.{◌≡◌, ℕ, Bool, true, false, OnOk, Option, None, Some, Result, Ok, Err, refl, ap, subst, ◌∙◌}
use Rattle.std.proofs.lemmas.Bool.{both_ways}
use Rattle.std.specs.FinMap as fm
use Rattle.std.specs.Option.{option_map, option_or}
use Rattle.std.specs.Ordering.{is_lt}
use Rattle.dist_model.proofs.Keys.{pair_exact, pair_total}
use Rattle.dist_model.specs.Losses.{OfLink, OfRegistration, OfWatch, least_record, link_to, registered_by, watch_to}
use Rattle.dist_model.specs.Names.{Name, same_name}
use Rattle.dist_model.specs.Node.{Node, living}
use Rattle.dist_model.specs.Work.{Work}
use Rattle.erl_names.specs.Ids.{pid_of}
use Rattle.erl_term.specs.declared.term.Pid.{Pid}
use Rattle.erl_term.specs.declared.term.Reference.{Reference}
use Rattle.link_core.specs.declared.end.End.{End}
use Rattle.erl_term.proofs.Order.{reference_cmp_exact, reference_cmp_total}
use Rattle.monitor_core.specs.Monitors.{RegistrationMap, WatchMap, target_node}
use Rattle.erl_term.specs.Order.{reference_cmp}
use Rattle.monitor_core.specs.declared.monitor.Registration.{Registration}
use Rattle.monitor_core.specs.declared.monitor.Watch.{Watch}
use Rattle.node_plan.specs.Carried.{CarriesOut}
use Rattle.node_plan.specs.Changed.{sides_after}
use Rattle.node_plan.specs.Seen.{seen}
use Rattle.node_plan.specs.declared.node.Node.{Node as TheNode}
use Rattle.node_plan.specs.declared.plan.Plan.{Plan}
use Rattle.node_connections.proofs.Firsts.{Found, found}
use Rattle.node_connections.proofs.Owned.{owner}
use Rattle.node_connections.specs.Ahead.{NoneOwnedBefore, NoneWatchedBefore}

module _ (plan : Plan) (m : Node) (work : Work) (h : CarriesOut plan m work) where
  pub same_sides : work.node.sides ≡ m.sides
  same_sides = ap (λ (n : Node). n.sides) h.node ∙ ap (λ xs. sides_after xs m.sides) h.still

-- what holds either way holds where it is done
pub on_done : {E X : Type 0} (r : Result (Unit {0}) E) → X → OnOk r X
on_done (Ok done) x = x
on_done (Err e) x = tt

-- ---- the process of the first link is living

pub first_lives : (it : TheNode) (peer : Name) (id : ℕ) (q : Pid) (e : End)
    → link_to peer (fm.entries (seen it).ends) ≡ Some ((pid_of (seen it).mint id, q), e)
    → living (seen it) (pid_of (seen it).mint id) ≡ true
first_lives it peer id q e h =
    let f = found pair_total pair_exact (λ pair end. same_name pair.1.node peer) (seen it).ends ((pid_of (seen it).mint id, q), e) h in
    (owner it.incarnation.mint it.incarnation.held.items (pid_of (seen it).mint id) q e f.held).living

-- ---- no monitor before the first is towards the peer

pub watched_from : (peer : Name) (m : WatchMap) (r : Reference) (w : Watch) → watch_to peer (fm.entries m) ≡ Some (r, w)
    → NoneWatchedBefore peer (Some r) m
watched_from peer m r w h other its g less = go (same_name (target_node its.target) peer) refl
  where
    f : Found reference_cmp_total reference_cmp_exact (λ key value. same_name (target_node value.target) peer) m r w
    f = found reference_cmp_total reference_cmp_exact (λ key value. same_name (target_node value.target) peer) m (r, w) h

    go : (b : Bool) → same_name (target_node its.target) peer ≡ b → b ≡ false
    go false t = refl
    go true t = absurd (both_ways (is_lt (reference_cmp other r)) (f.least other its g t) (ap is_lt less))

pub owned_from : (peer : Name) (m : RegistrationMap) (r : Reference) (w : Registration)
    → registered_by peer (fm.entries m) ≡ Some (r, w) → NoneOwnedBefore peer (Some r) m
owned_from peer m r w h other its g less = go (same_name its.owner.node peer) refl
  where
    f : Found reference_cmp_total reference_cmp_exact (λ key value. same_name value.owner.node peer) m r w
    f = found reference_cmp_total reference_cmp_exact (λ key value. same_name value.owner.node peer) m (r, w) h

    go : (b : Bool) → same_name its.owner.node peer ≡ b → b ≡ false
    go false t = refl
    go true t = absurd (both_ways (is_lt (reference_cmp other r)) (f.least other its g t) (ap is_lt less))

-- where the least record is one of those that others have, none of these is before it
pub registered_from : (peer : Name) (m : Node) (r : Reference) → least_record peer m ≡ Some (OfRegistration r)
    → NoneOwnedBefore peer (Some r) m.registered
registered_from peer m r h =
    go (link_to peer (fm.entries m.ends)) (watch_to peer (fm.entries m.watches)) (registered_by peer (fm.entries m.registered)) refl h
  where
    go : (l : Option ((Pid × Pid) × End)) (w : Option (Reference × Watch)) (k : Option (Reference × Registration)) → registered_by peer (fm.entries m.registered) ≡ k
        → option_or (option_map (λ (e : (Pid × Pid) × End). OfLink e.0.0 e.0.1 e.1) l) (option_or
        (option_map (λ (e : Reference × Watch). OfWatch e.0 e.1) w)
        (option_map (λ (e : Reference × Registration). OfRegistration e.0) k)) ≡ Some (OfRegistration r)
        → NoneOwnedBefore peer (Some r) m.registered
    go None None (Some e) i h =
        let same : e.0 ≡ r = cc in subst (λ x. NoneOwnedBefore peer (Some x) m.registered) same (owned_from peer m.registered e.0 e.1 i)
    go _ _ _ i h = cc
