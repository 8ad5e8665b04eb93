-- An event changes its own node alone.
use Rattle.std.proofs.Common.{◌≡◌, refl, sym, ap, ◌∙◌, subst, Option, Some, None}
use Rattle.std.proofs.lemmas.Option.{same_Some, none-some}
use Rattle.dist_model.proofs.Calls.{IfGoes}
use Rattle.dist_model.proofs.KeepBearings.{bearings_kept}
use Rattle.dist_model.proofs.Routes.{node_of_name, node_of_set_other, node_of_set_same}
use Rattle.dist_model.specs.Claims.{EventIsLocal, IsOf}
use Rattle.dist_model.specs.Commands.{Accepts, Outcome, Refuses}
use Rattle.dist_model.specs.Keeping.{Bearings}
use Rattle.dist_model.specs.Names.{Name}
use Rattle.dist_model.specs.Node.{Node}
use Rattle.dist_model.specs.NodeEvents.{at_node}
use Rattle.dist_model.specs.Work.{Work}
use Rattle.dist_model.specs.World.{Event, Reported, World, came_of, left, met, node_name, node_of, refused, set_node, step_at}
use Rattle.dist_model.specs.declared.report.Answer.{Answer}
use Rattle.erl_term.specs.declared.refusal.Refusal.{Refusal}

module _ (w : World) (e : Event) where
  apart : (x : Name) → (x ≡ node_name e → ⊥) → node_name e ≡ x → ⊥
  apart x d h = d (sym h)

  goes : (n : Node) (o : Outcome) → node_of w.nodes (node_name e) ≡ Some n → IfGoes o (Bearings n (met w e))
      → at_node w.names n (met w e) ≡ o → IsOf w e (came_of w (node_name e) (left w e) o)
  goes n (Refuses k) hx h c = record {
    names = refl;
    others = λ x d. refl;
    nobody = λ z. absurd (none-some n (sym z ∙ hx));
    refuses =
        λ m why hm r. ap (refused w) (same_refusal k why (sym c ∙ ap (λ v. at_node w.names v (met w e)) (same_Some n m (sym hx ∙ hm)) ∙ r));
    accepts = λ m a o hm r. absurd (not_both k a o (sym c ∙ ap (λ v. at_node w.names v (met w e)) (same_Some n m (sym hx ∙ hm)) ∙ r));
  }
    where
      same_refusal : (j k : Refusal) → Refuses j ≡ Refuses k → j ≡ k
      same_refusal j k h = cc

      not_both : (k : Refusal) (a : Answer) (o : Work) → Refuses k ≡ Accepts a o → ⊥
      not_both k a o h = cc
  goes n (Accepts a o) hx h c =
      let nm : o.node.mint.name ≡ node_name e = h.name ∙ node_of_name w.nodes (node_name e) n hx in
      record {
        names = refl;
        others = λ x d. node_of_set_other w.nodes (node_name e) x o.node nm (apart x d);
        nobody = λ z. absurd (none-some n (sym z ∙ hx));
        refuses =
            λ m why hm r. absurd (not_both why a o (sym r ∙ sym (ap (λ v. at_node w.names v (met w e)) (same_Some n m (sym hx ∙ hm))) ∙ c));
        accepts = λ m b p hm r.
            let same : Accepts a o ≡ Accepts b p = sym c ∙ ap (λ v. at_node w.names v (met w e)) (same_Some n m (sym hx ∙ hm)) ∙ r in
            let sa : a ≡ b = cc in
            let so : o ≡ p = cc in (
              λ i. Reported (sa i) ((so i).effects),
              subst (λ (z : Work). node_of (set_node w.nodes (node_name e) o.node) z.node.mint.name ≡ Some z.node) so
                  (ap (node_of (set_node w.nodes (node_name e) o.node)) nm ∙ node_of_set_same w.nodes (node_name e) n o.node hx nm),
            );
      }
    where
      not_both : (k : Refusal) (a : Answer) (o : Work) → Refuses k ≡ Accepts a o → ⊥
      not_both k a o h = cc

  at : (o : Option Node) → node_of w.nodes (node_name e) ≡ o → IsOf w e (step_at w o e)
  at None h = record {
    names = refl;
    others = λ x d. refl;
    nobody = λ z. refl;
    refuses = λ m why hm r. absurd (none-some m (sym h ∙ hm));
    accepts = λ m a o hm r. absurd (none-some m (sym h ∙ hm));
  }
  at (Some n) h = goes n (at_node w.names n (met w e)) h (bearings_kept w.names n (met w e)) refl

pub is_local : (w : World) → EventIsLocal w
is_local w e = at w e (node_of w.nodes (node_name e)) refl
