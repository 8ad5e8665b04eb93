-- What becomes of a node's sides in an event.
use Rattle.std.proofs.Common.{◌≡◌, Bool, true, false, cond, List, [], ◌∷◌, refl, sym, ap, ◌∙◌, Some, ◌⊎◌, inl, inr}
use Rattle.std.proofs.lemmas.Option.{same_Some, none-some}
use Rattle.std.specs.Option.{is_some}
use Rattle.std.specs.FinMap as fm
use Rattle.std.specs.FinMap.Entries.{find}
use Rattle.dist_model.proofs.Calls.{by_test}
use Rattle.dist_model.proofs.HandshakeParts.{Aged, Ages, Fresh, Shut, Turned, set_at}
use Rattle.dist_model.proofs.Keys.{same_name_is, same_trunk, same_trunk_true}
use Rattle.dist_model.proofs.Sides.{holds, side_at}
use Rattle.dist_model.specs.Downs.{same_reference}
use Rattle.dist_model.specs.Handshake.{with_side}
use Rattle.dist_model.proofs.Records.{has_records, no_records}
use Rattle.dist_model.specs.Losses.{watch_to}
use Rattle.dist_model.specs.Names.{Name, same_name}
use Rattle.dist_model.specs.Node.{Node}
use Rattle.dist_model.specs.Sides.{Gone, TrunkSide, is_over}
use Rattle.dist_model.specs.Work.{Work}
use Rattle.erl_names.specs.declared.trunk.TrunkId.{TrunkId}
use Rattle.erl_term.specs.declared.term.Reference.{Reference}
use Rattle.erl_term.specs.Order.{reference_cmp}
use Rattle.monitor_core.specs.declared.monitor.Watch.{Watch}
use Rattle.monitor_core.specs.Monitors.{target_node}

-- no process of the node watches one of y
abbrev pub Unwatched : Node → Name → Type 0
Unwatched n y = (k : Reference) (u : Watch) → fm.get n.watches k ≡ Some u → target_node u.target ≡ y → ⊥

none_watched : (y : Name) (es : List (Reference × Watch)) → is_some (watch_to y es) ≡ false → (k : Reference) (u : Watch)
    → find reference_cmp k es ≡ Some u → target_node u.target ≡ y → ⊥
none_watched y [] h k u f e = none-some u f
none_watched y (d ∷ es) h k u f e = go (same_name (target_node d.1.target) y) refl h (same_reference k d.0) f (λ n g. none_watched y es n k u g e)
  where
    go : (b : Bool) → same_name (target_node d.1.target) y ≡ b → is_some (cond b (Some d) (watch_to y es)) ≡ false → (c : Bool)
        → cond c (Some d.1) (find reference_cmp k es) ≡ Some u
        → (is_some (watch_to y es) ≡ false → find reference_cmp k es ≡ Some u → ⊥) → ⊥
    go true i h c f g = let z : true ≡ false = h in cc
    go false i h true f g =
        let z : true ≡ false = sym (same_name_is (target_node d.1.target) y (ap (λ (v : Watch). target_node v.target) (same_Some d.1 u f) ∙ e)) ∙ i in cc
    go false i h false f g = g h f

unwatched : (n : Node) (y : Name) → has_records y n ≡ false → Unwatched n y
unwatched n y h k u f e =
    none_watched y (fm.entries n.watches) (no_records y n h).1 k u (sym (fm.get-entries n.watches k) ∙ f) e

-- a side, later: what holds records goes on to, or nobody watches and it is over; what is over stays so
pub record Later (m : Node) (t : TrunkId) (a : TrunkSide) : Type 0 where
  pub side : TrunkSide
  pub there : side_at m t ≡ Some side
  pub peer : side.peer ≡ a.peer
  pub holding : (holds a.state ≡ true → holds side.state ≡ true) ⊎ (Unwatched m a.peer × (is_over side.state ≡ true))
  pub over : is_over a.state ≡ true → is_over side.state ≡ true

abbrev pub Aging : Node → Node → Type 0
Aging n m = (t : TrunkId) (a : TrunkSide) → side_at n t ≡ Some a → Later m t a

pub ageless : (n m : Node) → m.sides ≡ n.sides → Aging n m
ageless n m e t a h = record { side = a; there = ap (λ z. fm.get z t) e ∙ h; peer = refl; holding = inl (λ i. i); over = λ i. i }

is_gone_over : (s : TrunkSide) → s.state ≡ Gone → is_over s.state ≡ true
is_gone_over s h = ap is_over h

pub aging_side : (n : Node) (t : TrunkId) (s : TrunkSide) (o : Work) → Turned o.node t s → Aging n o.node → Aging n ((with_side t s o).node)
aging_side n t s o c k u a h = by_test _ (same_trunk u t)
    (λ e. here (same_trunk_true u t e) (set_at o t s u ∙ ap (λ b. cond b (Some s) (side_at o.node u)) e) (k u a h) c)
    (λ e. let v = k u a h in record {
      side = v.side;
      there = set_at o t s u ∙ ap (λ b. cond b (Some s) (side_at o.node u)) e ∙ v.there;
      peer = v.peer;
      holding = v.holding;
      over = v.over;
    })
  where
    aged : (b : TrunkSide) → side_at ((with_side t s o).node) u ≡ Some s → Ages b s → (v : Later o.node u a) → v.side ≡ b
        → Later ((with_side t s o).node) u a
    aged b at g v e = record {
      side = s;
      there = at;
      peer = g.peer ∙ ap (λ (z : TrunkSide). z.peer) (sym e) ∙ v.peer;
      holding = hold v.holding;
      over = λ i. g.over (ap (λ (z : TrunkSide). is_over z.state) (sym e) ∙ v.over i);
    }
      where
        hold : (holds a.state ≡ true → holds v.side.state ≡ true) ⊎ (Unwatched o.node a.peer × (is_over v.side.state ≡ true))
            → (holds a.state ≡ true → holds s.state ≡ true)
            ⊎ (Unwatched ((with_side t s o).node) a.peer × (is_over s.state ≡ true))
        hold (inl f) = inl (λ i. g.holding (ap (λ (z : TrunkSide). holds z.state) (sym e) ∙ f i))
        hold (inr f) = inr (f.0, g.over (ap (λ (z : TrunkSide). is_over z.state) (sym e) ∙ f.1))

    here : u ≡ t → side_at ((with_side t s o).node) u ≡ Some s → (v : Later o.node u a) → Turned o.node t s
        → Later ((with_side t s o).node) u a
    here e at v (Fresh q f) = absurd (none-some v.side (sym f ∙ ap (side_at o.node) (sym e) ∙ v.there))
    here e at v (Aged b f g) = aged b at g v (same_Some v.side b (sym v.there ∙ ap (side_at o.node) e ∙ f))
    here e at v (Shut b f p g r) =
        let same : v.side ≡ b = same_Some v.side b (sym v.there ∙ ap (side_at o.node) e ∙ f) in
        let pb : b.peer ≡ a.peer = ap (λ (z : TrunkSide). z.peer) (sym same) ∙ v.peer in
        record {
          side = s;
          there = at;
          peer = p ∙ pb;
          holding = inr (λ j w q d. unwatched o.node b.peer r j w q (d ∙ sym pb), is_gone_over s g);
          over = λ i. is_gone_over s g;
        }
