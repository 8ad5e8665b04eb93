-- One step of a world, by what its node does.
use Rattle.std.proofs.Common.{◌≡◌, ℕ, Bool, true, false, cond, List, [], ◌∷◌, refl, Option, Some, None}
use Rattle.std.specs.FinMap as fm
use Rattle.std.specs.FinMap.{FinMap}
use Rattle.dist_model.specs.Arrivals.{arrive, arrive_at, arrive_first, arrive_fresh, handshake_in}
use Rattle.dist_model.specs.Commands.{Outcome, Refuses}
use Rattle.dist_model.specs.Items.{Item}
use Rattle.dist_model.specs.Names.{Name, place_cmp}
use Rattle.dist_model.specs.Node.{Node}
use Rattle.dist_model.specs.NodeEvents.{if_up}
use Rattle.dist_model.specs.Sides.{TrunkSide, is_over}
use Rattle.dist_model.specs.Work.{at_work}
use Rattle.dist_model.specs.World.{Arrive, Stepped, World, came_of, first_of, list_to, refused, rest_of, step_at}
use Rattle.erl_names.specs.declared.trunk.TrunkId.{TrunkId}
use Rattle.erl_term.specs.declared.refusal.Refusal.{Refusal}

module _ (w : World) (x : Name) (n : Node) (P : Stepped → Type 0) (refuses : (e : Refusal) → P (refused w e)) where
  pub while_up_then : (m : FinMap place_cmp (List Item)) (o : Outcome) → (n.up ≡ true → P (came_of w x m o)) → P (came_of w x m (if_up n o))
  while_up_then m o h = go n.up refl
    where
      go : (b : Bool) → n.up ≡ b → P (came_of w x m (cond b o (Refuses Refusal.NodeDown)))
      go true u = h u
      go false u = refuses Refusal.NodeDown

  pub while_up : (m : FinMap place_cmp (List Item)) (o : Outcome) → P (came_of w x m o) → P (came_of w x m (if_up n o))
  while_up m o h = while_up_then m o (λ u. h)

  -- the first item comes to a side that the node doesn't have yet, or to one that isn't over
  pub arrives_then : (t : TrunkId) (k : ℕ)
      → ((i : Item) (is : List Item) → n.up ≡ true → list_to w.lists t x ≡ i ∷ is → fm.get n.sides t ≡ None
      → P (came_of w x (fm.insert w.lists (t, x) is) (arrive_fresh (handshake_in i) t k (at_work n))))
      → ((i : Item) (is : List Item) (s : TrunkSide) → n.up ≡ true → list_to w.lists t x ≡ i ∷ is → fm.get n.sides t ≡ Some s
      → is_over s.state ≡ false
      → P (came_of w x (fm.insert w.lists (t, x) is) (arrive_at (handshake_in i) t s i (at_work n))))
      → P (step_at w (Some n) (Arrive t x k))
  arrives_then t k fresh known =
      while_up_then (fm.insert w.lists (t, x) (rest_of (list_to w.lists t x)))
      (arrive n t (fm.get n.sides t) (first_of (list_to w.lists t x)) k)
      (λ u. go u (list_to w.lists t x) (fm.get n.sides t) refl refl)
    where
      comes : n.up ≡ true → (l : List Item) (s : TrunkSide) → list_to w.lists t x ≡ l → fm.get n.sides t ≡ Some s → (b : Bool)
          → is_over s.state ≡ b
          → P (came_of w x (fm.insert w.lists (t, x) (rest_of l))
          (cond b (Refuses Refusal.NotLive) (arrive_first (first_of l) t s (at_work n))))
      comes u l s h j true o = refuses Refusal.NotLive
      comes u [] s h j false o = refuses Refusal.NothingThere
      comes u (i ∷ is) s h j false o = known i is s u h j o

      go : n.up ≡ true → (l : List Item) (v : Option TrunkSide) → list_to w.lists t x ≡ l → fm.get n.sides t ≡ v
          → P (came_of w x (fm.insert w.lists (t, x) (rest_of l)) (arrive n t v (first_of l) k))
      go u [] None h j = refuses Refusal.NotLive
      go u (i ∷ is) None h j = fresh i is u h j
      go u l (Some s) h j = comes u l s h j (is_over s.state) refl

  pub arrives : (t : TrunkId) (k : ℕ)
      → ((i : Item) (is : List Item) → list_to w.lists t x ≡ i ∷ is → fm.get n.sides t ≡ None
      → P (came_of w x (fm.insert w.lists (t, x) is) (arrive_fresh (handshake_in i) t k (at_work n))))
      → ((i : Item) (is : List Item) (s : TrunkSide) → list_to w.lists t x ≡ i ∷ is → fm.get n.sides t ≡ Some s → is_over s.state ≡ false
      → P (came_of w x (fm.insert w.lists (t, x) is) (arrive_at (handshake_in i) t s i (at_work n))))
      → P (step_at w (Some n) (Arrive t x k))
  arrives t k fresh known = arrives_then t k (λ i is u. fresh i is) (λ i is s u. known i is s)
