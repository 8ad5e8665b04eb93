-- Nothing is left before the record that was found.
use Rattle.std.proofs.Common.{◌≡◌, ℕ, ◌≤◌, ◌-◌, Bool, true, false, None, Some, inl, inr, refl, ap, arith}
use Rattle.std.specs.FinMap as fm
use Rattle.dist_model.proofs.Keys.{pair_exact, pair_total}
use Rattle.dist_model.specs.Losses.{link_to}
use Rattle.dist_model.specs.Names.{Name, same_name}
use Rattle.dist_model.specs.Node.{Node}
use Rattle.erl_names.specs.Ids.{pid_of}
use Rattle.erl_term.specs.declared.term.Pid.{Pid}
use Rattle.link_core.specs.declared.end.End.{End}
use Rattle.node_plan.specs.Seen.{seen}
use Rattle.node_plan.specs.declared.node.Node.{Node as TheNode}
use Rattle.node_connections.proofs.Firsts.{found, none_found}
use Rattle.node_connections.proofs.Later.{behind}
use Rattle.node_connections.proofs.Owned.{owner}
use Rattle.node_connections.specs.Ahead.{NoneLinkedUpTo}

pub no_links : (peer : Name) (m : Node) (id : ℕ) → link_to peer (fm.entries m.ends) ≡ None → NoneLinkedUpTo peer id m.ends
no_links peer m id h p q e g l = none_found pair_total pair_exact (λ pair end. same_name pair.1.node peer) m.ends h (p, q) e g

module _ (it : TheNode) (peer : Name) (id : ℕ) (q : Pid) (e : End)
    (first : link_to peer (fm.entries (seen it).ends) ≡ Some ((pid_of (seen it).mint id, q), e)) where
  pub is_drawn : 1 ≤ id
  is_drawn =
      let f =
      found pair_total pair_exact (λ pair end. same_name pair.1.node peer) (seen it).ends ((pid_of (seen it).mint id, q), e) first in
      let o = owner it.incarnation.mint it.incarnation.held.items (pid_of (seen it).mint id) q e f.held in
      omega (arith, o.positive)

  before_it : (x y : Pid) (f : End) → fm.get (seen it).ends (x, y) ≡ Some f → x.id ≤ id - 1 → (b : Bool)
      → same_name y.node peer ≡ b → b ≡ false
  before_it x y f h l false t = refl
  before_it x y f h l true t =
      let d = is_drawn in
      elim (behind it.incarnation.mint it.incarnation.held.items peer id q e first x y f h t) [
        | inl more ↦ absurd (omega (arith, d, l, more))
        | inr same ↦ let s : x.id ≡ id = ap (λ (p : Pid). p.id) same in absurd (omega (arith, d, l, s))
      ]

  pub link_stands : NoneLinkedUpTo peer (id - 1) (seen it).ends
  link_stands x y f h l = before_it x y f h l (same_name y.node peer) refl
