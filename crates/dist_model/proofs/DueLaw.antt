-- What stands first in a list is due, in every run.
use Rattle.std.proofs.Common.{◌≡◌, ℕ, Bool, true, false, cond, not, List, [], ◌∷◌, ◌++◌, refl}
use Rattle.std.proofs.Common.{sym, ap, ◌∙◌, subst, arith, Option, Some, None, ◌+◌, ◌^◌, nat_lt}
use Rattle.std.proofs.lemmas.Option.{same_Some, none-some}
use Rattle.std.specs.Option.{is_some}
use Rattle.std.specs.FinMap as fm
use Rattle.std.specs.FinMap.{FinMap}
use Rattle.dist_model.proofs.ClosedSides.{gone_side, gone_sides}
use Rattle.dist_model.proofs.Due.{acceptor_ends, dialed, dialer_ends, DueRow, row_with, state_in}
use Rattle.dist_model.proofs.DueWork.{put_away, put_other, put_same}
use Rattle.dist_model.proofs.DueRun.{calls_due, comes_due, local_due, lose_due, stranger, sweep_due}
use Rattle.dist_model.proofs.SideChanges.{side_after_other, side_after_same, with_side_at}
use Rattle.dist_model.proofs.Trunks.{Good}
use Rattle.erl_handshake.specs.declared.message.ShakeMsg.{ShakeMsg}
use Rattle.erl_term.specs.declared.refusal.Refusal.{Refusal}
use Rattle.dist_model.specs.Commands.{Accepts, Outcome, Refuses}
use Rattle.dist_model.specs.declared.report.Answer.{Answer}
use Rattle.dist_model.specs.Dialing.{dial, draw_trunk, has_name, next_trunk}
use Rattle.dist_model.specs.Handshake.{with_side, write}
use Rattle.dist_model.specs.Incarnations.{start, started, stopped}
use Rattle.dist_model.specs.Work.{at_work}
use Rattle.dist_model.proofs.DueWorld.{Due, due_new, far_in, here, there}
use Rattle.dist_model.proofs.Keys.{same_name_is}
use Rattle.dist_model.proofs.Routes.{node_of_name, node_of_set_other}
use Rattle.dist_model.proofs.Sides.{side_at}
use Rattle.dist_model.specs.Items.{Handshake, Item}
use Rattle.dist_model.specs.Names.{Name, place_cmp, same_name}
use Rattle.dist_model.specs.Node.{Node, side_where}
use Rattle.dist_model.specs.NodeEvents.{if_up}
use Rattle.dist_model.specs.Sides.{AwaitsStatus, Gone, State, TrunkSide, is_gone}
use Rattle.dist_model.specs.World.{Arrive, Call, Dial, Event, Local, Lose, Start, Stepped, Stop, Sweep}
use Rattle.dist_model.specs.World.{World, came_of, list_to, node_name, node_of, set_node, step_at}
use Rattle.erl_names.specs.declared.trunk.TrunkId.{TrunkId}
use Rattle.dist_model.proofs.NewSides.{list_none, option_none}
use Rattle.dist_model.proofs.Handshake.{as_state}
use Rattle.dist_model.proofs.Calls.{by_name}
use Rattle.dist_model.proofs.OneStep.{while_up}
use Rattle.dist_model.specs.Sides.{untold}

-- a node stops or starts: all its sides are gone
module _ (ns : List Node) (m : FinMap place_cmp (List Item)) (x : Name) (n n' : Node) (hx : node_of ns x ≡ Some n) (nn : n'.mint.name ≡ x)
    (gone : (t : TrunkId) → side_at n' t ≡ gone_side (side_at n t))
    (stranger : (t : TrunkId) (s : TrunkSide) → side_at n t ≡ Some s → s.peer ≡ x → ⊥) where
  far_gone : (v : State) (p : Option TrunkSide) (D A : List Item) → DueRow v (state_in p) D A → DueRow v (state_in (gone_side p)) D A
  far_gone v None D A r = r
  far_gone v (Some s) D A r = acceptor_ends v Gone (Some s.state) D A refl (λ i. refl) (λ i. cc) r

  pub due_cleared : Due ns m → Due (set_node ns x n') m
  due_cleared g t d s hd hs = by_name _ x t.dialer
      (λ e.
      let nd : n' ≡ d = same_Some n' d (sym (here ns m x n n' hx nn) ∙ ap (node_of (set_node ns x n')) e ∙ hd) in
      mine (ap (node_of ns) (sym e) ∙ hx) (side_at n t) refl (sym (gone t) ∙ ap (λ z. side_at z t) nd ∙ hs))
      (λ e. let hd0 : node_of ns t.dialer ≡ Some d = sym (there ns m x n n' hx nn t.dialer e) ∙ hd in by_name _ x s.peer
      (λ j.
      row_with s.state (state_in (gone_side (side_at n t))) _ _ _ _ _
      (ap state_in (sym (gone t)) ∙ ap (λ o. far_in o t) (sym (here ns m x n n' hx nn) ∙ ap (node_of (set_node ns x n')) j)) refl refl
      (far_gone s.state (side_at n t) _ _ (row_with s.state _ _ _ _ _ _ (ap (λ o. far_in o t) (ap (node_of ns) (sym j) ∙ hx)) refl refl
      (g t d s hd0 hs))))
      (λ j. row_with s.state _ _ _ _ _ _ (ap (λ o. far_in o t) (sym (there ns m x n n' hx nn s.peer j))) refl refl (g t d s hd0 hs)))
    where
      mine : node_of ns t.dialer ≡ Some n → (p : Option TrunkSide) → side_at n t ≡ p → gone_side p ≡ Some s
          → DueRow s.state (far_in (node_of (set_node ns x n') s.peer) t) (list_to m t t.dialer) (list_to m t s.peer)
      mine h None i j = absurd (none-some s j)
      mine h (Some v) i j =
          let vs : as_state v Gone ≡ s = same_Some (as_state v Gone) s j in
          subst (λ (z : TrunkSide). DueRow z.state (far_in (node_of (set_node ns x n') z.peer) t) (list_to m t t.dialer)
          (list_to m t z.peer)) vs
          (row_with Gone _ _ _ _ _ _ (ap (λ o. far_in o t) (sym (there ns m x n n' hx nn v.peer (λ e. stranger t v i (sym e))))) refl refl
          (dialer_ends v.state Gone _ _ _ refl (λ e. refl) (g t n v h i)))

module _ (w : World) (x : Name) (n : Node) (hx : node_of w.nodes x ≡ Some n) (g : Good w) where
  nx : n.mint.name ≡ x
  nx = node_of_name w.nodes x n hx

  dials_due : (y : Name) (k : ℕ) → (y ≡ x → ⊥) → Due w.nodes w.lists
      → Due (set_node w.nodes x (with_side_at (draw_trunk n) (next_trunk n)
      (record { peer = y; introduction = untold; state = AwaitsStatus k })))
      (fm.insert w.lists (next_trunk n, y) (list_to w.lists (next_trunk n) y ++ Handshake
      (ShakeMsg.SendName n.flags n.mint.creation n.mint.name) ∷ []))
  dials_due y k d u =
      let t = next_trunk n in
      let s : TrunkSide = record { peer = y; introduction = untold; state = AwaitsStatus k } in
      let none : side_at n (next_trunk n) ≡ None = option_none (side_at n (next_trunk n))
      (λ s h. let c = (g.home x n hx).counts (next_trunk n) s h refl in absurd (omega arith)) in
      let keyless : (z : Name) → is_some (fm.get w.lists (next_trunk n, z)) ≡ true → ⊥ = λ z j.
      let p = g.posted (next_trunk n) z j in
      let same : p.1 ≡ n = same_Some p.1 n (sym p.2 ∙ ap (node_of w.nodes) nx ∙ hx) in
      none-some p.0 (sym none ∙ ap (λ v. side_at v (next_trunk n)) (sym same) ∙ p.3) in
      let empty : (z : Name) → list_to w.lists (next_trunk n) z ≡ [] = λ z. list_none (fm.get w.lists (next_trunk n, z)) (keyless z) in
      let item : Item = Handshake (ShakeMsg.SendName n.flags n.mint.creation n.mint.name) in
      let n2 = with_side_at (draw_trunk n) (next_trunk n) (record { peer = y; introduction = untold; state = AwaitsStatus k }) in
      due_new w.nodes w.lists x n n2 hx nx (next_trunk n) (fm.insert w.lists (next_trunk n, y)
      (list_to w.lists (next_trunk n) y ++ item ∷ []))
      (λ v i. side_after_other (draw_trunk n) (next_trunk n) s v i) (λ v z i. put_away w.lists (next_trunk n) y _ v z i) nx s
      (side_after_same (draw_trunk n) (next_trunk n) s)
      (row_with (AwaitsStatus k) None _ [] _ (item ∷ []) _
      (sym (ap (λ o. far_in o (next_trunk n)) (node_of_set_other w.nodes x y n2 nx (λ i. d (sym i)))
      ∙ strange (node_of w.nodes y) refl none))
      (sym (put_other w.lists (next_trunk n) y _ n.mint.name (λ i. d (sym i ∙ nx)) ∙ empty n.mint.name))
      (sym (put_same w.lists (next_trunk n) y _ ∙ ap (λ l. l ++ item ∷ []) (empty y)))
      (dialed k n.flags n.mint.creation n.mint.name)) u
    where
      strange : (o : Option Node) → node_of w.nodes y ≡ o → side_at n (next_trunk n) ≡ None → far_in o (next_trunk n) ≡ None
      strange None h none = refl
      strange (Some a) h none = ap state_in (option_none (side_at a (next_trunk n)) (λ v hv.
          let q = g.core.met y a (next_trunk n) v h hv (λ i. d (sym i ∙ nx)) in
          let same : q.dialer ≡ n = same_Some q.dialer n (sym q.at ∙ ap (node_of w.nodes) nx ∙ hx) in
          none-some q.side (sym none ∙ ap (λ z. side_at z (next_trunk n)) (sym same) ∙ q.there)))

  dial_due : (y : Name) (k : ℕ) → Due w.nodes w.lists → Due ((came_of w x w.lists (dial w.names n y k)).world.nodes)
      ((came_of w x w.lists (dial w.names n y k)).world.lists)
  dial_due y k u = go (same_name y n.mint.name) refl (not (has_name y w.names))
      (is_some (side_where (λ v. not (is_gone v)) y (fm.entries n.sides))) (not (nat_lt (n.dialed + 1) (2 ^ 64)))
    where
      tested : (a b c e : Bool) → World
      tested a b c e = (came_of w x w.lists (cond a (Refuses Refusal.SelfDial)
          (cond b (Refuses Refusal.NothingThere) (cond c (Refuses Refusal.Busy)
          (cond e (Refuses Refusal.IdsUsedUp) (Accepts (Answer.Trunk (next_trunk n))
          (write (next_trunk n) y (ShakeMsg.SendName n.flags n.mint.creation n.mint.name)
          (with_side (next_trunk n) (record { peer = y; introduction = untold; state = AwaitsStatus k }) (at_work (draw_trunk n)))))))))).world

      go : (a : Bool) → same_name y n.mint.name ≡ a → (b c e : Bool) → Due ((tested a b c e).nodes) ((tested a b c e).lists)
      go false ea false false false = dials_due y k (λ i. let c : true ≡ false = sym (same_name_is y n.mint.name (i ∙ sym nx)) ∙ ea in cc) u
      go _ ea _ _ _ = u

  start_due : Due w.nodes w.lists → Due ((came_of w x w.lists (start n)).world.nodes) ((came_of w x w.lists (start n)).world.lists)
  start_due u = go n.up (nat_lt (n.mint.creation + 1) (2 ^ 32))
    where
      go : (a b : Bool) → Due ((came_of w x w.lists (cond a (Refuses Refusal.NodeUp)
          (cond b (Accepts (Answer.Started (n.mint.creation + 1)) (at_work (started n))) (Refuses Refusal.IdsUsedUp)))).world.nodes)
          ((came_of w x w.lists (cond a (Refuses Refusal.NodeUp)
          (cond b (Accepts (Answer.Started (n.mint.creation + 1)) (at_work (started n))) (Refuses Refusal.IdsUsedUp)))).world.lists)
      go false true = due_cleared w.nodes w.lists x n (started n) hx nx (λ t. gone_sides n t) (stranger w x n hx g) u
      go _ _ = u

  stop_due : Due w.nodes w.lists → Due (set_node w.nodes x (stopped n)) w.lists
  stop_due u = due_cleared w.nodes w.lists x n (stopped n) hx nx (λ t. gone_sides n t) (stranger w x n hx g) u

abbrev After : Stepped → Type 0
After s = Due s.world.nodes s.world.lists

runs_due : (w : World) (x : Name) (n : Node) (o : Outcome) → Due w.nodes w.lists → After (came_of w x w.lists o)
    → After (came_of w x w.lists (if_up n o))
runs_due w x n o u h = while_up w x n After (λ r. u) w.lists o h

pub due_step : (w : World) (o : Option Node) (e : Event) → node_of w.nodes (node_name e) ≡ o → Good w → Due w.nodes w.lists
    → After (step_at w o e)
due_step w None e h g u = u
due_step w (Some n) (Call x c) h g u = runs_due w x n _ u (calls_due w x n h g c u)
due_step w (Some n) (Arrive t x k) h g u = comes_due w x n h g t k u
due_step w (Some n) (Local x) h g u = runs_due w x n _ u (local_due w x n h g n.local u)
due_step w (Some n) (Lose t x) h g u = runs_due w x n _ u (lose_due w x n h g t (fm.get n.sides t) refl u)
due_step w (Some n) (Sweep x) h g u = runs_due w x n _ u (sweep_due w x n h g u)
due_step w (Some n) (Dial x y k) h g u = runs_due w x n _ u (dial_due w x n h g y k u)
due_step w (Some n) (Stop x) h g u = runs_due w x n _ u (stop_due w x n h g u)
due_step w (Some n) (Start x) h g u = start_due w x n h g u
