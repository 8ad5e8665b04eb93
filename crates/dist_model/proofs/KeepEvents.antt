-- What every part of an event keeps is kept by the event, at any node.
use Rattle.erl_term.specs.declared.term.Pid.{Pid}
use Rattle.dist_model.specs.declared.command.Command.{Command}
use Rattle.std.proofs.Common.{◌≡◌, ◌+◌, ◌^◌, nat_lt, ℕ, Bool, true, false, cond, not, List}
use Rattle.std.proofs.Common.{[], ◌∷◌, refl, sym, ap, ◌∙◌, subst, Option, Some, None}
use Rattle.std.specs.Option.{is_some}
use Rattle.std.specs.FinMap as fm
use Rattle.std.specs.FinMap.{FinMap}
use Rattle.dist_model.proofs.Calls.{IfGoes, if_cond, if_not, if_not_known}
use Rattle.dist_model.proofs.ClosedSides.{any_found, losing_is}
use Rattle.dist_model.proofs.EndOfProcess.{last_posts}
use Rattle.dist_model.proofs.Founded.{all_posts_keep, posts_keep}
use Rattle.dist_model.proofs.HandshakeParts.{Roomy, TurnedBy, Unparks, known_kept, lose_kept, swept_kept}
use Rattle.dist_model.proofs.KeepParts.{Parts, call_keeps, item_keeps, record_keeps}
use Rattle.dist_model.proofs.Sides.{side_at}
use Rattle.dist_model.specs.Arrivals.{arrive, arrive_first, arrive_fresh, handshake_in, take_local}
use Rattle.dist_model.specs.Commands.{Refuses}
use Rattle.dist_model.specs.Dialing.{dial, draw_trunk, has_name, next_trunk}
use Rattle.dist_model.specs.Handshake.{identity, set_state, with_side, write}
use Rattle.dist_model.specs.Incarnations.{started, stopped}
use Rattle.dist_model.specs.Items.{Item}
use Rattle.dist_model.specs.Keeping.{Towards}
use Rattle.dist_model.specs.Losses.{any_side, least_record, sweep_by, sweep_record}
use Rattle.dist_model.specs.Names.{Name, same_name}
use Rattle.dist_model.specs.Node.{Node, side_where}
use Rattle.dist_model.specs.NodeEvents.{Arrive, Call, Dial, Local, Lose, NodeEvent, Start, Stop, Sweep, at_node}
use Rattle.dist_model.specs.Sides.{AwaitsStatus, Gone, Losing, TrunkSide, is_gone, is_losing, is_over}
use Rattle.dist_model.specs.Work.{Work, at_work, spelled}
use Rattle.dist_model.specs.Calls.{spawn_life}
use Rattle.erl_handshake.specs.Roles.{send_name}
use Rattle.erl_handshake.specs.declared.message.ShakeMsg.{ShakeMsg}
use Rattle.erl_names.specs.Order.{trunk_cmp}
use Rattle.erl_names.specs.declared.trunk.TrunkId.{TrunkId}
use Rattle.erl_term.specs.declared.refusal.Refusal.{Refusal}
use Rattle.dist_model.specs.Sides.{untold}

-- what is of the sides and of what was dialed alone
pub outer_parts : (P : FinMap trunk_cmp TrunkSide → ℕ → Type 0) → Parts (λ o. P o.node.sides o.node.dialed)
outer_parts P = record {
  posted = λ s o k.
      let y = s.node in
      along (posts_keep (λ m. m.sides) (λ m l. refl) y (spelled o.node s) o)
      (posts_keep (λ m. m.dialed) (λ m l. refl) y (spelled o.node s) o) k;
  end_set = λ p q e o l k. k;
  drew = λ d o h k. k;
  life_set = λ p l o h k. k;
  renamed = λ m o h k. k;
  message = λ p m o k. k;
  reacted = λ p q x o k. k;
  finished = λ p x o k. along (all_posts_keep (λ m. m.sides) (λ m l. refl) (last_posts p x o) o)
      (all_posts_keep (λ m. m.dialed) (λ m l. refl) (last_posts p x o) o) k;
  registers = λ r m o l k. k;
  unregisters = λ r o k. k;
  watches = λ r m o l k. k;
  unwatches = λ r o k. k;
}
  where
    along : {a b : FinMap trunk_cmp TrunkSide} {c d : ℕ} → a ≡ b → c ≡ d → P b d → P a c
    along {a} {b} {c} {d} e f k = subst (λ z. P z c) (sym e) (subst (P b) (sym f) k)

-- a node dials another, where its sides towards that are gone
pub dial_goes : (X : Work → Type 0) (names : List Name) (n : Node) (y : Name) (w : ℕ)
    → (same_name y n.mint.name ≡ false → is_some (side_where (λ v. not (is_gone v)) y (fm.entries n.sides)) ≡ false
    → X (write (next_trunk n) y (send_name (identity n))
    (with_side (next_trunk n) (record { peer = y; introduction = untold; state = AwaitsStatus w }) (at_work (draw_trunk n)))))
    → IfGoes (dial names n y w) X
dial_goes X names n y w f = if_not_known (same_name y n.mint.name) _ Refusal.SelfDial X (λ i.
    if_not (not (has_name y names)) _ Refusal.NothingThere X
    (if_not_known (is_some (side_where (λ v. not (is_gone v)) y (fm.entries n.sides))) _ Refusal.Busy X (λ j.
    if_not (not (nat_lt (n.dialed + 1) (2 ^ 64))) _ Refusal.IdsUsedUp X (f i j))))

module _ (New : TrunkId → Name → Type 0) (X : Work → Type 0) (c : Parts X)
    (side : (t : TrunkId) (s : TrunkSide) (o : Work) → TurnedBy New o.node t s → Roomy o.node t s → X o → X (with_side t s o))
    (wrote : (t : TrunkId) (y : Name) (m : ShakeMsg) (o : Work) → Towards o.node t y → X o → X (write t y m o))
    (opens : (t : TrunkId) (s : TrunkSide) (o : Work) → side_at o.node t ≡ Some s → s.state ≡ Losing → X o
    → Unparks New X side wrote s.peer (set_state t s Gone o))
    (names : List Name) (n : Node) (k : X (at_work n)) where
  -- what isn't made of such parts alone
  abbrev pub Rest : NodeEvent → Type 0
  Rest (Call d) = d ≡ Command.Spawn → (p : Pid) → X (spawn_life n p)
  Rest (Arrive t (Some i) w) = side_at n t ≡ None → IfGoes (arrive_fresh (handshake_in i) t w (at_work n)) X
  Rest Local = (rest : List Item) → X (at_work (record n { local = rest }))
  Rest (Dial y w) = IfGoes (dial names n y w) X
  Rest Stop = X (at_work (stopped n))
  Rest Start = X (at_work (started n))
  Rest e = Unit {0}

  arrives : (t : TrunkId) (first : Option Item) (w : ℕ) → Rest (Arrive t first w) → IfGoes (arrive n t (fm.get n.sides t) first w) X
  arrives t first w fresh = go first (fm.get n.sides t) refl fresh
    where
      comes : (v : Option Item) (s : TrunkSide) → side_at n t ≡ Some s → (b : Bool) → is_over s.state ≡ b
          → IfGoes (cond b (Refuses Refusal.NotLive) (arrive_first v t s (at_work n))) X
      comes v s h true e = tt
      comes None s h false e = tt
      comes (Some i) s h false e = known_kept New X side wrote t s (at_work n) h k i
          (λ u g. item_keeps X c s.peer i (at_work n) k) (handshake_in i)

      go : (v : Option Item) (s : Option TrunkSide) → side_at n t ≡ s → Rest (Arrive t v w) → IfGoes (arrive n t s v w) X
      go None None h f = tt
      go (Some i) None h f = f h
      go v (Some s) h f = comes v s h (is_over s.state) refl

  takes : (l : List Item) → ((rest : List Item) → X (at_work (record n { local = rest }))) → IfGoes (take_local n l) X
  takes [] f = tt
  takes (i ∷ rest) f = item_keeps X c n.mint.name i (at_work (record n { local = rest })) (f rest)

  sweeps : (d : Option (TrunkId × TrunkSide)) → any_side is_losing (fm.entries n.sides) ≡ d → IfGoes (sweep_by d (at_work n)) X
  sweeps None h = tt
  sweeps (Some d) h =
      let y = d.1.peer in
      let f = any_found is_losing (fm.entries n.sides) d (fm.entries_sorted n.sides) h in
      let o = sweep_record (least_record y n) (at_work n) in
      let same : o.node.sides ≡ n.sides =
      record_keeps (λ o. o.node.sides ≡ n.sides) (outer_parts (λ m d. m ≡ n.sides)) y (at_work n) refl in
      let at : side_at o.node d.0 ≡ Some d.1 = ap (λ m. fm.get m d.0) same ∙ fm.get-entries n.sides d.0 ∙ f.0 in
      let kept = record_keeps X c y (at_work n) k in
      swept_kept New X side wrote d.0 d.1 o at (opens d.0 d.1 o at (losing_is d.1.state f.1) kept) kept

  pub at_node_keeps : (e : NodeEvent) → Rest e → IfGoes (at_node names n e) X
  at_node_keeps (Call d) r = if_cond n.up _ Refusal.NodeDown X (λ u. call_keeps X c n d r k)
  at_node_keeps (Arrive t first w) r = if_cond n.up _ Refusal.NodeDown X (λ u. arrives t first w r)
  at_node_keeps Local r = if_cond n.up _ Refusal.NodeDown X (λ u. takes n.local r)
  at_node_keeps (Lose t) r = if_cond n.up _ Refusal.NodeDown X (λ u. lose_kept New X side wrote n t (fm.get n.sides t) refl k)
  at_node_keeps Sweep r = if_cond n.up _ Refusal.NodeDown X (λ u. sweeps (any_side is_losing (fm.entries n.sides)) refl)
  at_node_keeps Start r = if_not n.up _ Refusal.NodeUp X (if_cond (nat_lt (n.mint.creation + 1) (2 ^ 32)) _ Refusal.IdsUsedUp X (λ u. r))
  at_node_keeps _ r = if_cond n.up _ Refusal.NodeDown X (λ u. r)
