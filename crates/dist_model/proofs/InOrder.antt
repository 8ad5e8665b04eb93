-- What travels keeps its order.
use Rattle.std.proofs.Common.{◌≡◌, ℕ, true, false, cond, List, [], ◌∷◌, ◌++◌, refl, sym, ap, ◌∙◌, ◌&&◌}
use Rattle.std.proofs.Common.{Option, Some, None, ◌⊎◌, inl, inr, append-nil, subst, ◌+◌, ◌^◌, nat_lt}
use Rattle.std.proofs.lemmas.Bool.{and_parts}
use Rattle.std.specs.FinMap as fm
use Rattle.erl_names.specs.Minted.{id_of}
use Rattle.erl_names.specs.Draw as kind
use Rattle.dist_model.specs.declared.command.Command.{Command}
use Rattle.dist_model.specs.declared.report.Answer.{Answer}
use Rattle.dist_model.specs.Taking.{take_item}
use Rattle.dist_model.specs.Seen.{local_list}
use Rattle.dist_model.proofs.Seen.{local_at}
use Rattle.dist_model.proofs.Peopled.{Lasts, X, begin, called, dialed, no_more, own_taken}
use Rattle.dist_model.proofs.Peopled.{sweeps, turned, wrote, fresh_arrived, known_arrived}
use Rattle.dist_model.proofs.HandshakeParts.{lose_kept}
use Rattle.dist_model.specs.NodeEvents.{if_up}
use Rattle.dist_model.proofs.Envelopes.{sent_in}
use Rattle.dist_model.specs.declared.report.Effect.{Effect}
use Rattle.std.specs.FinMap.{FinMap}
use Rattle.dist_model.proofs.Calls.{by_test, IfGoes, if_cond, if_drawn, if_not}
use Rattle.dist_model.proofs.Keys.{same_name_true, same_place, same_trunk, same_trunk_true, same_name_is}
use Rattle.dist_model.proofs.Routes.{at_place, list_to_carried, list_to_insert, node_of_name, node_of_set_other, node_of_set_same}
use Rattle.dist_model.proofs.OneStep.{arrives, while_up}
use Rattle.dist_model.specs.Arrivals.{arrive_at, arrive_fresh, handshake_in, take_local}
use Rattle.dist_model.specs.Calls.{call}
use Rattle.dist_model.specs.Claims.{KeepsOrder, effects_of, sent_to, KeepsOwnOrder, OwnListKept}
use Rattle.dist_model.specs.Commands.{Accepts, Outcome, Refuses}
use Rattle.dist_model.specs.Dialing.{dial}
use Rattle.dist_model.specs.Incarnations.{start, stop}
use Rattle.dist_model.specs.Items.{Item, kind_of}
use Rattle.dist_model.specs.Losses.{lose, sweep, any_side}
use Rattle.dist_model.specs.Names.{Name, place_cmp, same_name}
use Rattle.dist_model.specs.Node.{Node}
use Rattle.dist_model.specs.Sides.{is_losing}
use Rattle.dist_model.specs.Work.{at_work, Work}
use Rattle.dist_model.specs.World.{Arrive, Call, Dial, Event, Local, Lose, Start, Stepped, Stop, Sweep}
use Rattle.dist_model.specs.World.{World, carried, came_of, list_to, node_name, node_of, refused, step_at}
use Rattle.erl_names.specs.declared.trunk.TrunkId.{TrunkId}
use Rattle.erl_term.specs.declared.refusal.Refusal.{Refusal}

-- what was sent on a trunk to a node, by its envelopes
sent_to_is : (t : TrunkId) (x : Name) (fs : List (Effect Item)) → sent_to t x fs ≡ at_place t x (sent_in fs)
sent_to_is t x [] = refl
sent_to_is t x (Effect.Sent (Some u) y i ∷ fs) =
    ap (λ b. cond b (i ∷ []) [] ++ sent_to t x fs) (same_place t u x y)
    ∙ ap (λ l. cond (same_trunk t u && same_name x y) (i ∷ []) [] ++ l) (sent_to_is t x fs)
sent_to_is t x (_ ∷ fs) = sent_to_is t x fs

-- and it comes behind what stands there
sent_behind : (m : FinMap place_cmp (List Item)) (fs : List (Effect Item)) (t : TrunkId) (x : Name)
    → list_to (carried m fs) t x ≡ list_to m t x ++ sent_to t x fs
sent_behind m fs t x = list_to_carried m fs t x ∙ ap (λ l. list_to m t x ++ l) (sym (sent_to_is t x fs))

module _ (w : World) where
  abbrev IsKept : Event → Stepped → Type 0
  IsKept e s = (t : TrunkId) (x : Name)
      → (list_to s.world.lists t x ≡ list_to w.lists t x ++ sent_to t x (effects_of s.report))
      ⊎ (((word : ℕ) × (e ≡ Arrive t x word)) × (first : Item) × (rest : List Item) × (list_to w.lists t x ≡ first ∷ rest)
      × (list_to s.world.lists t x ≡ rest ++ sent_to t x (effects_of s.report)))

  same : (e : Event) (r : Refusal) → IsKept e (refused w r)
  same e r t x = inl (sym (append-nil (list_to w.lists t x)))

  sent : (e : Event) (x : Name) (o : Outcome) → IsKept e (came_of w x w.lists o)
  sent e x (Refuses k) = same e k
  sent e x (Accepts a o) = λ t y. inl (sent_behind w.lists o.effects t y)

  taken : (x : Name) (t : TrunkId) (k : ℕ) (i : Item) (is : List Item) (o : Outcome) → list_to w.lists t x ≡ i ∷ is
      → IsKept (Arrive t x k) (came_of w x (fm.insert w.lists (t, x) is) o)
  taken x t k i is (Refuses r) h u y = same (Arrive t x k) r u y
  taken x t k i is (Accepts a o) h u y =
      let after = sent_behind (fm.insert w.lists (t, x) is) o.effects u y in
      let was : list_to (fm.insert w.lists (t, x) is) u y ≡ cond (same_trunk u t && same_name y x) is (list_to w.lists u y) =
      list_to_insert w.lists t x is u y in
      by_test _ (same_trunk u t && same_name y x)
      (λ e.
      let v = and_parts (same_trunk u t) (same_name y x) e in
      let ut : u ≡ t = same_trunk_true u t v.0 in
      let yx : y ≡ x = same_name_true y x v.1 in
      inr (
        (k, λ j. Arrive (sym ut j) (sym yx j) k),
        i,
        is,
        (λ j. list_to w.lists (ut j) (yx j)) ∙ h,
        after ∙ ap (λ l. l ++ sent_to u y o.effects) (was ∙ ap (λ b. cond b is (list_to w.lists u y)) e),
      ))
      (λ e. inl (after ∙ ap (λ l. l ++ sent_to u y o.effects) (was ∙ ap (λ b. cond b is (list_to w.lists u y)) e)))

  up : (e : Event) (x : Name) (n : Node) (o : Outcome) → IsKept e (came_of w x w.lists (if_up n o))
  up e x n o = while_up w x n (IsKept e) (same e) w.lists o (sent e x o)

  at : (o : Option Node) (e : Event) → IsKept e (step_at w o e)
  at None e = same e Refusal.NothingThere
  at (Some n) (Call x c) = up (Call x c) x n (call n c)
  at (Some n) (Arrive t x k) = arrives w x n (IsKept (Arrive t x k)) (same (Arrive t x k)) t k
      (λ i is h j. taken x t k i is (arrive_fresh (handshake_in i) t k (at_work n)) h)
      (λ i is s h j v. taken x t k i is (arrive_at (handshake_in i) t s i (at_work n)) h)
  at (Some n) (Local x) = up (Local x) x n (take_local n n.local)
  at (Some n) (Lose t x) = up (Lose t x) x n (lose n t (fm.get n.sides t))
  at (Some n) (Sweep x) = up (Sweep x) x n (sweep n)
  at (Some n) (Dial x y k) = up (Dial x y k) x n (dial w.names n y k)
  at (Some n) (Stop x) = up (Stop x) x n (stop n)
  at (Some n) (Start x) = sent (Start x) x (start n)

  pub keeps_order : KeepsOrder w
  keeps_order e = at (node_of w.nodes (node_name e)) e

-- ---- the own lists

module _ (w : World) where
  abbrev OwnKept : Event → World → Type 0
  OwnKept e v = (y : Name) → OwnListKept e y (local_list w y) (local_list v y)

  unchanged : (e : Event) → OwnKept e w
  unchanged e y = inl (no_more (local_list w y))

  -- where an event at x makes of n's list what it may
  module _ (e : Event) (x : Name) (n : Node) (h : node_of w.nodes x ≡ Some n) where
    abbrev Well : Work → Type 0
    Well o = (o.node.mint.name ≡ n.mint.name) × OwnListKept e x n.local o.node.local

    goes : (m : FinMap place_cmp (List Item)) (a : Answer) (o : Work) → Well o → OwnKept e ((came_of w x m (Accepts a o)).world)
    goes m a o k y =
        let nm : o.node.mint.name ≡ x = k.0 ∙ node_of_name w.nodes x n h in
        by_test _ (same_name x y)
        (λ i. subst (λ z. OwnListKept e z (local_list w z) (local_list ((came_of w x m (Accepts a o)).world) z)) (same_name_true x y i)
        (subst (λ l. OwnListKept e x l (local_list ((came_of w x m (Accepts a o)).world) x)) (sym (ap local_at h))
        (subst (λ l. OwnListKept e x n.local l) (sym (ap local_at (node_of_set_same w.nodes x n o.node h nm))) k.1)))
        (λ i. inl ([], ap local_at (node_of_set_other w.nodes x y o.node nm (other y i)) ∙ sym (append-nil (local_list w y))))
      where
        other : (y : Name) → same_name x y ≡ false → x ≡ y → ⊥
        other y i j = let c : true ≡ false = sym (same_name_is x y j) ∙ i in cc

    ends : (m : FinMap place_cmp (List Item)) (o : Outcome) → IfGoes o Well → OwnKept e ((came_of w x m o).world)
    ends m (Refuses j) k = unchanged e
    ends m (Accepts a o) k = goes m a o k

    lasts : (o : Outcome) → IfGoes o (λ a. Lasts n n.local a.node) → IfGoes o Well
    lasts (Refuses j) k = tt
    lasts (Accepts a o) k = (k.name, inl k.grows)

    grown : (m : FinMap place_cmp (List Item)) (o : Outcome) → IfGoes o (λ a. Lasts n n.local a.node) → OwnKept e ((came_of w x m o).world)
    grown m o k = ends m o (lasts o k)

    up_kept : (o : Outcome) → OwnKept e ((came_of w x w.lists o).world) → OwnKept e ((came_of w x w.lists (if_up n o)).world)
    up_kept o f = while_up w x n (λ s. OwnKept e s.world) (λ r. unchanged e) w.lists o f

  comes_kept : (x : Name) (n : Node) → node_of w.nodes x ≡ Some n → (t : TrunkId) (k : ℕ)
      → OwnKept (Arrive t x k) ((step_at w (Some n) (Arrive t x k)).world)
  comes_kept x n h t k = arrives w x n (λ s. OwnKept (Arrive t x k) s.world) (λ r. unchanged (Arrive t x k)) t k
      (λ i is first j. grown (Arrive t x k) x n h (fm.insert w.lists (t, x) is)
      (arrive_fresh (handshake_in i) t k (at_work n)) (fresh_arrived n n.local (begin n) t i k j))
      (λ i is v first j over. grown (Arrive t x k) x n h (fm.insert w.lists (t, x) is)
      (arrive_at (handshake_in i) t v i (at_work n)) (known_arrived n n.local (begin n) t v i j))

  other_call : (x : Name) (n : Node) → node_of w.nodes x ≡ Some n → (c : Command) → (c ≡ Command.Spawn → ⊥)
      → OwnKept (Call x c) ((came_of w x w.lists (call n c)).world)
  other_call x n h c ns = grown (Call x c) x n h w.lists (call n c) (called n n.local (begin n) c ns)

  own_call : (x : Name) (n : Node) → node_of w.nodes x ≡ Some n → (c : Command)
      → OwnKept (Call x c) ((came_of w x w.lists (call n c)).world)
  own_call x n h Command.Spawn = ends (Call x Command.Spawn) x n h w.lists (call n Command.Spawn)
      (if_drawn (id_of n.mint kind.Pid) _
      (λ o. (o.node.mint.name ≡ n.mint.name) × OwnListKept (Call x Command.Spawn) x n.local o.node.local)
      (λ id d. (refl, inl (no_more n.local))))
  own_call x n h c = other_call x n h c (λ i. cc)

  own_local : (x : Name) (n : Node) (l : List Item) → node_of w.nodes x ≡ Some n → n.local ≡ l
      → OwnKept (Local x) ((came_of w x w.lists (take_local n l)).world)
  own_local x n [] h j = unchanged (Local x)
  own_local x n (i ∷ rest) h j = let k = own_taken n rest i in
      goes (Local x) x n h w.lists (Answer.Took (kind_of i)) (take_item n.mint.name i (at_work (record n { local = rest })))
      (k.name, inr (inl (refl, (i, rest, j, k.grows))))

  own_start : (x : Name) (n : Node) → node_of w.nodes x ≡ Some n → OwnKept (Start x) ((came_of w x w.lists (start n)).world)
  own_start x n h = ends (Start x) x n h w.lists (start n)
      (if_not n.up _ Refusal.NodeUp (λ o. (o.node.mint.name ≡ n.mint.name) × OwnListKept (Start x) x n.local o.node.local)
      (if_cond (nat_lt (n.mint.creation + 1) (2 ^ 32)) _ Refusal.IdsUsedUp
      (λ o. (o.node.mint.name ≡ n.mint.name) × OwnListKept (Start x) x n.local o.node.local)
      (λ b. (refl, inr (inr (refl, refl))))))

  own_at : (o : Option Node) (e : Event) → node_of w.nodes (node_name e) ≡ o → OwnKept e ((step_at w o e).world)
  own_at None e h = unchanged e
  own_at (Some n) (Call x c) h = up_kept (Call x c) x n h _ (own_call x n h c)
  own_at (Some n) (Arrive t x k) h = comes_kept x n h t k
  own_at (Some n) (Local x) h = up_kept (Local x) x n h _ (own_local x n n.local h refl)
  own_at (Some n) (Lose t x) h = up_kept (Lose t x) x n h _ (grown (Lose t x) x n h w.lists (lose n t (fm.get n.sides t))
      (lose_kept (λ u y. Unit {0}) (X n n.local) (λ u s o c r. turned n n.local u s o c)
      (λ u y m o v. wrote n n.local u y m o) n t (fm.get n.sides t) refl (begin n)))
  own_at (Some n) (Sweep x) h = up_kept (Sweep x) x n h _
      (grown (Sweep x) x n h w.lists (sweep n) (sweeps n n.local (begin n) (any_side is_losing (fm.entries n.sides))))
  own_at (Some n) (Dial x y k) h = up_kept (Dial x y k) x n h _
      (grown (Dial x y k) x n h w.lists (dial w.names n y k) (dialed n n.local (begin n) w.names y k))
  own_at (Some n) (Stop x) h = up_kept (Stop x) x n h _ (ends (Stop x) x n h w.lists (stop n) (refl, inl (no_more n.local)))
  own_at (Some n) (Start x) h = own_start x n h

  pub keeps_own_order : KeepsOwnOrder w
  keeps_own_order e = own_at (node_of w.nodes (node_name e)) e refl
