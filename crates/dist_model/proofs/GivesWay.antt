-- An attempt that gives way is none of the other sides that a dialer is told of.
use Rattle.std.proofs.Common.{◌≡◌, Bool, true, false, refl, sym, ap, ◌∙◌, ◌&&◌, ◌||◌, Some}
use Rattle.std.proofs.lemmas.Bool.{and_parts}
use Rattle.std.proofs.lemmas.Option.{same_Some}
use Rattle.std.specs.Option.{is_some}
use Rattle.std.specs.FinMap as fm
use Rattle.dist_model.proofs.Handshake.{as_state}
use Rattle.dist_model.proofs.SideChanges.{side_after_other, side_after_same, with_side_at}
use Rattle.dist_model.proofs.Routes.{side_where_found}
use Rattle.dist_model.proofs.Sides.{side_at}
use Rattle.dist_model.proofs.QuietTest.{Passing, passed, passing}
use Rattle.dist_model.specs.Admission.{give_up}
use Rattle.dist_model.specs.Names.{Name, same_name}
use Rattle.dist_model.specs.Node.{Node, side_where}
use Rattle.dist_model.specs.Sides.{Accepting, Asked, Gone, Parked, State, TrunkSide, is_dialing, is_losing, is_up, is_waiting}
use Rattle.dist_model.specs.Work.{at_work}
use Rattle.erl_names.specs.declared.trunk.TrunkId.{TrunkId}

both_ways : (a b : Bool) → (a ≡ true → b ≡ true) → (b ≡ true → a ≡ true) → a ≡ b
both_ways true b f g = sym (f refl)
both_ways false true f g = g refl
both_ways false false f g = refl

module _ (n : Node) (y : Name) (t : TrunkId) (v : TrunkSide) (h : side_at n t ≡ Some v) (test : State → Bool)
    (old : test v.state ≡ false) (gone : test Gone ≡ false) where
  abbrev after : Node
  after = with_side_at n t (as_state v Gone)

  abbrev passes : TrunkId → TrunkSide → Bool
  passes u s = same_name s.peer y && test s.state

  apart : (m : Node) (w : TrunkSide) → side_at m t ≡ Some w → test w.state ≡ false → (p : Passing passes (fm.entries m.sides))
      → p.trunk ≡ t → ⊥
  apart m w at nt p e =
      let there : side_at m t ≡ Some p.side = ap (side_at m) (sym e) ∙ fm.get-entries m.sides p.trunk ∙ p.found in
      let same : w ≡ p.side = same_Some w p.side (sym at ∙ there) in
      let c : true ≡ false =
      sym (and_parts (same_name p.side.peer y) (test p.side.state) p.passes).1 ∙ ap (λ (z : TrunkSide). test z.state) (sym same) ∙ nt in
      cc

  in_old : is_some (side_where test y (fm.entries after.sides)) ≡ true → is_some (side_where test y (fm.entries n.sides)) ≡ true
  in_old k =
      let p = passing passes (fm.entries after.sides) (fm.entries_sorted after.sides) k in
      let d = apart after (as_state v Gone) (side_after_same n t (as_state v Gone)) gone p in
      passed passes (fm.entries n.sides) p.trunk p.side (sym (fm.get-entries n.sides p.trunk)
      ∙ sym (side_after_other n t (as_state v Gone) p.trunk d) ∙ fm.get-entries after.sides p.trunk ∙ p.found) p.passes

  in_new : is_some (side_where test y (fm.entries n.sides)) ≡ true → is_some (side_where test y (fm.entries after.sides)) ≡ true
  in_new k =
      let p = passing passes (fm.entries n.sides) (fm.entries_sorted n.sides) k in
      let d = apart n v h old p in
      passed passes (fm.entries after.sides) p.trunk p.side (sym (fm.get-entries after.sides p.trunk)
      ∙ side_after_other n t (as_state v Gone) p.trunk d ∙ fm.get-entries n.sides p.trunk ∙ p.found) p.passes

  stays : is_some (side_where test y (fm.entries after.sides)) ≡ is_some (side_where test y (fm.entries n.sides))
  stays = both_ways _ _ in_old in_new

waits_not_up : (s : State) → is_waiting s ≡ true → ((is_up s || is_losing s) ≡ false) × (is_dialing s ≡ false)
waits_not_up (Asked w) h = (refl, refl)
waits_not_up (Parked w) h = (refl, refl)
waits_not_up (Accepting w) h = (refl, refl)
waits_not_up _ h = cc

-- whether the node is connected to the dialer, and whether it dials it, stays
pub given_stay : (n : Node) (y : Name) (e : TrunkId × TrunkSide) → side_where is_waiting y (fm.entries n.sides) ≡ Some e
    → (is_some (side_where (λ s. is_up s || is_losing s) y (fm.entries ((give_up (Some e) (at_work n)).node.sides)))
    ≡ is_some (side_where (λ s. is_up s || is_losing s) y (fm.entries n.sides)))
    × (is_some (side_where is_dialing y (fm.entries ((give_up (Some e) (at_work n)).node.sides)))
    ≡ is_some (side_where is_dialing y (fm.entries n.sides)))
given_stay n y e h =
    let f = side_where_found is_waiting y (fm.entries n.sides) e (fm.entries_sorted n.sides) h in
    let at : side_at n e.0 ≡ Some e.1 = fm.get-entries n.sides e.0 ∙ f.there in
    let nt = waits_not_up e.1.state f.passes in
    (stays n y e.0 e.1 at (λ s. is_up s || is_losing s) nt.0 refl, stays n y e.0 e.1 at is_dialing nt.1 refl)
