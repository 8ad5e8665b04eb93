-- What stands first in a list is due at the side that it comes to.
use Rattle.std.proofs.Common.{◌≡◌, true, false, ◌∷◌, refl, sym, ap, ◌∙◌, Option, Some, None, ◌⊎◌, inl, inr}
use Rattle.std.proofs.lemmas.Option.{same_Some}
use Rattle.std.specs.FinMap as fm
use Rattle.dist_model.proofs.Calls.{by_name, by_test}
use Rattle.dist_model.proofs.Due.{acceptor_due, dialer_due, DueRow, of_far, row_with, state_in, young_due}
use Rattle.dist_model.proofs.DueLaw.{due_step}
use Rattle.dist_model.proofs.DueWorld.{Due, far_in}
use Rattle.dist_model.proofs.Keys.{same_name_is, same_name_true}
use Rattle.dist_model.proofs.Routes.{node_of_name}
use Rattle.dist_model.proofs.Run.{always_kept, good_step_at}
use Rattle.dist_model.proofs.Primitives.{some_listed}
use Rattle.dist_model.proofs.Safety.{good_opening, none_at}
use Rattle.dist_model.proofs.Sides.{side_at}
use Rattle.dist_model.proofs.Trunks.{Good, Posted, role_state, up_once}
use Rattle.dist_model.specs.Due.{DueFirst, due_at}
use Rattle.dist_model.specs.Names.{same_name}
use Rattle.dist_model.specs.Node.{Node}
use Rattle.dist_model.specs.Runs.{Always}
use Rattle.dist_model.specs.Sides.{TrunkSide}
use Rattle.dist_model.specs.World.{World, list_to, node_name, node_of}

first_due : (w : World) → Good w → Due w.nodes w.lists → DueFirst w
first_due w g u t x n i l hx hl = go (g.posted t x (some_listed (fm.get w.lists (t, x)) i l hl))
  where
    dialer : (s : TrunkSide) (d : Node) → node_of w.nodes t.dialer ≡ Some d → side_at d t ≡ Some s → t.dialer ≡ x
        → due_at (same_name t.dialer x) (side_at n t) i ≡ true
    dialer s d hd hs e =
        let dn : d ≡ n = same_Some d n (sym hd ∙ ap (node_of w.nodes) e ∙ hx) in
        let at : side_at n t ≡ Some s = ap (λ z. side_at z t) (sym dn) ∙ hs in
        let nx = node_of_name w.nodes x n hx in
        let b : same_name t.dialer x ≡ true = same_name_is t.dialer x e in
        let r : role_state true s.state ≡ true = sym (ap (λ z. role_state z s.state) (ap (same_name t.dialer) nx ∙ b))
        ∙ (g.home x n hx).roles t s at in
        ap (λ z. due_at z (side_at n t) i) b ∙ ap (λ z. due_at true z i) at
        ∙ dialer_due s.state _ i l _ r (row_with s.state _ _ _ _ _ _ refl (ap (list_to w.lists t) e ∙ hl) refl (u t d s hd hs))

    acceptor : (s : TrunkSide) (d : Node) → node_of w.nodes t.dialer ≡ Some d → side_at d t ≡ Some s → (t.dialer ≡ x → ⊥) → s.peer ≡ x
        → due_at (same_name t.dialer x) (side_at n t) i ≡ true
    acceptor s d hd hs ne e =
        let b : same_name t.dialer x ≡ false = by_test _ (same_name t.dialer x) (λ j. absurd (ne (same_name_true t.dialer x j))) (λ j. j) in
        ap (λ z. due_at z (side_at n t) i) b ∙ known (side_at n t) refl (ap (same_name t.dialer) (node_of_name w.nodes x n hx) ∙ b)
        (row_with s.state _ _ _ _ _ _ (ap (λ z. far_in z t) (ap (node_of w.nodes) e ∙ hx)) refl (ap (list_to w.lists t) e ∙ hl)
        (u t d s hd hs))
      where
        known : (o : Option TrunkSide) → side_at n t ≡ o → same_name t.dialer n.mint.name ≡ false
            → DueRow s.state (state_in (side_at n t)) (list_to w.lists t t.dialer) (i ∷ l) → due_at false o i ≡ true
        known None j b r = young_due s.state (state_in (side_at n t)) i _ l (ap (λ z. of_far up_once (state_in z)) j) r
        known (Some v) j b r = acceptor_due s.state v.state i _ l (sym (ap (λ z. role_state z v.state) b) ∙ (g.home x n hx).roles t v j)
            (row_with s.state _ _ _ _ _ _ (ap state_in j) refl refl r)

    go : Posted w.nodes t x → due_at (same_name t.dialer x) (side_at n t) i ≡ true
    go p = by_name _ t.dialer x (λ e. dialer p.0 p.1 p.2 p.3 e) (λ ne. acceptor p.0 p.1 p.2 p.3 ne (pick ne p.4))
      where
        pick : {P : Type 0} → (t.dialer ≡ x → ⊥) → (t.dialer ≡ x) ⊎ P → P
        pick ne (inl e) = absurd (ne e)
        pick ne (inr e) = e

pub due_first : Always DueFirst
due_first = always_kept (λ w. Good w × Due w.nodes w.lists)
    (λ w e k. (good_step_at w (node_of w.nodes (node_name e)) e refl k.0, due_step w (node_of w.nodes (node_name e)) e refl k.0 k.1))
    DueFirst (λ cs. (good_opening cs, λ t d s hd hs. absurd (none_at cs t.dialer d t s hd hs))) (λ w k. first_due w k.0 k.1)
