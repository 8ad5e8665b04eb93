-- A process's own calls make of its end what link_core's table says, and send what it sends.
use Rattle.std.proofs.Common.{◌≡◌, ℕ, true, false, refl, ap, ◌∙◌, None, Some}
use Rattle.erl_names.specs.Draw as kind
use Rattle.dist_model.proofs.Keys.{end_set_same}
use Rattle.dist_model.proofs.Views.{post_keeps}
use Rattle.dist_model.specs.Commands.{Accepts, with_id, Accepts, Refuses}
use Rattle.dist_model.specs.declared.report.Answer.{Answer}
use Rattle.dist_model.specs.Linking.{link_by, link_new, unlink_as, unlink_by}
use Rattle.dist_model.specs.Node.{Node, end_of, reaches}
use Rattle.dist_model.specs.Tabled.{links_by_table, unlinks_by_table}
use Rattle.dist_model.specs.Work.{Addressed, Work, at_work, draw, post, set_end, spelled, to_pid}
use Rattle.erl_control.specs.declared.signal.Signal.{Signal}
use Rattle.erl_names.specs.Minted.{id_of}
use Rattle.erl_term.specs.declared.refusal.Refusal.{Refusal}
use Rattle.erl_term.specs.declared.term.Pid.{Pid}
use Rattle.link_core.specs.Table.{is_active, linked, unlinked}
use Rattle.link_core.specs.declared.end.End.{End}

module _ (n : Node) (p q : Pid) where
  set_and_posted : (e : End) (s : Addressed) (o : Work) → end_of ((post s (set_end p q e o)).node) p q ≡ e
  set_and_posted e s o =
      post_keeps (λ m. end_of m p q) (λ m l. refl) s.node (spelled (set_end p q e o).node s) (set_end p q e o)
      ∙ end_set_same o.node.ends p q e

  link_made : reaches n q.node ≡ true → (e : End) → link_by e p q (at_work n) ≡ links_by_table e p q (at_work n)
  link_made r End.Active = refl
  link_made r _ = ap (λ b. link_new b p q (at_work n)) r

  linked_made : (e : End) → end_of n p q ≡ e → end_of ((links_by_table e p q (at_work n)).node) p q ≡ linked e
  linked_made End.Active h = h
  linked_made _ h = set_and_posted End.Active (to_pid q (Signal.Link p q)) (at_work n)

  unlink_made : (id : ℕ) → id_of n.mint kind.UnlinkId ≡ Some id → (e : End)
      → unlink_by e p q (at_work n) ≡ Accepts Answer.Done (unlinks_by_table e id p q (at_work n))
  unlink_made id h End.Active = ap (λ o. with_id o (λ i. Accepts Answer.Done (unlink_as i p q (at_work n)))) h
  unlink_made id h _ = refl

  unlinked_made : (id : ℕ) (e : End) → end_of n p q ≡ e → end_of ((unlinks_by_table e id p q (at_work n)).node) p q ≡ unlinked e id
  unlinked_made id End.Active h = set_and_posted (End.Pending id) (to_pid q (Signal.UnlinkId id p q)) (draw kind.UnlinkId (at_work n))
  unlinked_made id _ h = h

  unlink_stays : (e : End) → is_active e ≡ false → unlink_by e p q (at_work n) ≡ Accepts Answer.Done (at_work n)
  unlink_stays End.Active h = cc
  unlink_stays _ h = refl

  unlink_refused : (e : End) → e ≡ End.Active → id_of n.mint kind.UnlinkId ≡ None → unlink_by e p q (at_work n) ≡ Refuses Refusal.IdsUsedUp
  unlink_refused End.Active a h = ap (λ o. with_id o (λ i. Accepts Answer.Done (unlink_as i p q (at_work n)))) h
  unlink_refused _ a h = cc

  pub link_follows : reaches n q.node ≡ true → link_by (end_of n p q) p q (at_work n) ≡ links_by_table (end_of n p q) p q (at_work n)
  link_follows r = link_made r (end_of n p q)

  pub linked_end : end_of ((links_by_table (end_of n p q) p q (at_work n)).node) p q ≡ linked (end_of n p q)
  linked_end = linked_made (end_of n p q) refl

  pub unlink_follows : (id : ℕ) → id_of n.mint kind.UnlinkId ≡ Some id
      → unlink_by (end_of n p q) p q (at_work n) ≡ Accepts Answer.Done (unlinks_by_table (end_of n p q) id p q (at_work n))
  unlink_follows id h = unlink_made id h (end_of n p q)

  pub unlinked_end : (id : ℕ) → end_of ((unlinks_by_table (end_of n p q) id p q (at_work n)).node) p q ≡ unlinked (end_of n p q) id
  unlinked_end id = unlinked_made id (end_of n p q) refl

  pub unlink_used_up : end_of n p q ≡ End.Active → id_of n.mint kind.UnlinkId ≡ None
      → unlink_by (end_of n p q) p q (at_work n) ≡ Refuses Refusal.IdsUsedUp
  unlink_used_up a h = unlink_refused (end_of n p q) a h

  pub inactive_stays : is_active (end_of n p q) ≡ false → unlink_by (end_of n p q) p q (at_work n) ≡ Accepts Answer.Done (at_work n)
  inactive_stays h = unlink_stays (end_of n p q) h
