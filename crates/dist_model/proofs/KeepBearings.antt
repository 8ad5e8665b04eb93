-- A node keeps its name, its sides and their peers, whatever event comes to it.
use Rattle.erl_names.specs.Draw as kind
use Rattle.erl_names.specs.Draw.{Draw}
use Rattle.std.proofs.Common.{◌≡◌, ℕ, Bool, true, false, cond, List, [], ◌∷◌, refl, sym}
use Rattle.std.proofs.Common.{ap, ◌∙◌, subst, Option, Some, None, ◌⊎◌, inl, inr, Contains}
use Rattle.std.proofs.lemmas.List.Elements.{Contains-push_cases}
use Rattle.std.proofs.lemmas.Option.{same_Some, none-some}
use Rattle.std.specs.FinMap as fm
use Rattle.dist_model.proofs.Calls.{IfGoes, by_test}
use Rattle.dist_model.proofs.ClosedSides.{gone_side, gone_sides}
use Rattle.dist_model.proofs.EndOfProcess.{last_posts}
use Rattle.dist_model.proofs.HandshakeParts.{Aged, Fresh, Roomy, Shut, TurnedBy, Unparks, as_state, fresh_kept, parked_ages, set_at}
use Rattle.dist_model.proofs.KeepEvents.{Rest, at_node_keeps, dial_goes}
use Rattle.dist_model.proofs.KeepParts.{Parts}
use Rattle.dist_model.proofs.Keys.{same_name_is, same_trunk, same_trunk_is, same_trunk_true}
use Rattle.dist_model.proofs.Sides.{route_from, side_at}
use Rattle.dist_model.proofs.Truths.{none_within}
use Rattle.dist_model.specs.Arrivals.{handshake_in}
use Rattle.dist_model.specs.Commands.{Accepts, Outcome}
use Rattle.dist_model.specs.Dialing.{draw_trunk, next_trunk}
use Rattle.dist_model.specs.Exits.{end_process}
use Rattle.dist_model.specs.Handshake.{identity, set_state, with_side, write}
use Rattle.dist_model.specs.Incarnations.{started, stopped}
use Rattle.dist_model.specs.Items.{Handshake, Item}
use Rattle.dist_model.specs.Keeping.{Bearings, Comes, Dials, Towards}
use Rattle.dist_model.specs.Names.{Name, same_name}
use Rattle.dist_model.specs.Node.{Node, route}
use Rattle.dist_model.specs.NodeEvents.{Arrive, Dial, Local, NodeEvent, Start, Stop, at_node, Call}
use Rattle.dist_model.specs.Sides.{Accepting, AwaitsStatus, Gone, Losing, TrunkSide}
use Rattle.dist_model.specs.Work.{Addressed, Work, at_work, keep_local, post, post_all, post_to, put, report, send_on, spelled}
use Rattle.dist_model.specs.declared.report.Answer.{Answer}
use Rattle.dist_model.specs.declared.report.Effect.{Effect}
use Rattle.erl_handshake.specs.Roles.{send_name}
use Rattle.erl_handshake.specs.declared.message.ShakeMsg.{ShakeMsg}
use Rattle.erl_names.specs.Minted.{Minted, drawn}
use Rattle.erl_names.specs.declared.trunk.TrunkId.{TrunkId}
use Rattle.erl_term.specs.Data.{Data}
use Rattle.erl_term.specs.declared.term.Pid.{Pid}
use Rattle.dist_model.specs.Sides.{untold}

towards_along : (n m : Node) → m.sides ≡ n.sides → (t : TrunkId) (y : Name) → Towards n t y → Towards m t y
towards_along n m e t y h = record { side = h.side; there = ap (λ z. fm.get z t) e ∙ h.there; peer = h.peer }

-- a side stays as another changes
towards_turned : (New : TrunkId → Name → Type 0) (t : TrunkId) (s : TrunkSide) (o : Work) → TurnedBy New o.node t s
    → (u : TrunkId) (y : Name) → Towards o.node u y → Towards ((with_side t s o).node) u y
towards_turned New t s o c u y v = by_test _ (same_trunk u t)
    (λ e. record { side = s; there = at true e; peer = same (same_trunk_true u t e) c })
    (λ e. record { side = v.side; there = at false e ∙ v.there; peer = v.peer })
  where
    at : (b : Bool) → same_trunk u t ≡ b → side_at ((with_side t s o).node) u ≡ cond b (Some s) (side_at o.node u)
    at b e = set_at o t s u ∙ ap (λ b. cond b (Some s) (side_at o.node u)) e

    is_that : (a : TrunkSide) → u ≡ t → side_at o.node t ≡ Some a → a.peer ≡ y
    is_that a e h = ap (λ (z : TrunkSide). z.peer) (same_Some a v.side (sym h ∙ ap (side_at o.node) (sym e) ∙ v.there)) ∙ v.peer

    same : u ≡ t → TurnedBy New o.node t s → s.peer ≡ y
    same e (Fresh q h) = absurd (none-some v.side (sym h ∙ ap (side_at o.node) (sym e) ∙ v.there))
    same e (Aged a h g) = g.peer ∙ is_that a e h
    same e (Shut a h p g r) = p ∙ is_that a e h

drawn_name : (m : Minted) (d : Draw) → (drawn m d).name ≡ m.name
drawn_name m kind.Pid = refl
drawn_name m _ = refl

module _ (n : Node) (e : NodeEvent) where
  abbrev New : TrunkId → Name → Type 0
  New t y = (Comes e t × (y ≡ t.dialer)) ⊎ Dials n e t y

  abbrev X : Work → Type 0
  X = Bearings n e

  abbrev Stays : Node → TrunkId → Name → Type 0
  Stays m t y = Towards m t y ⊎ ((z : Name) × Dials n e t z × Towards m t z)

  -- with the same name and sides
  on : (o o' : Work) → o'.node.mint.name ≡ o.node.mint.name → o'.node.sides ≡ o.node.sides
      → ((t : TrunkId) (y : Name) (i : Item) → Contains o'.effects (Effect.Sent (Some t) y i) → Towards o.node t y) → X o → X o'
  on o o' nm sd sent k = record {
    name = nm ∙ k.name;
    stays = λ t y h. still t y (k.stays t y h);
    sent = λ t y i c. towards_along o.node o'.node sd t y (sent t y i c);
    new = λ t s h j. k.new t s h (ap (λ z. fm.get z t) (sym sd) ∙ j);
  }
    where
      still : (t : TrunkId) (y : Name) → Stays o.node t y → Stays o'.node t y
      still t y (inl v) = inl (towards_along o.node o'.node sd t y v)
      still t y (inr v) = inr (v.0, v.1, towards_along o.node o'.node sd t v.0 v.2)

  silent : (f : Effect Item) (o : Work) → ((t : TrunkId) (y : Name) (i : Item) → f ≡ Effect.Sent (Some t) y i → ⊥) → X o → X (report f o)
  silent f o none k = on o (report f o) refl refl (λ t y i c. pick t y i (Contains-push_cases o.effects f (Effect.Sent (Some t) y i) c)) k
    where
      pick : (t : TrunkId) (y : Name) (i : Item) → Contains o.effects (Effect.Sent (Some t) y i) ⊎ (f ≡ Effect.Sent (Some t) y i)
          → Towards o.node t y
      pick t y i (inl c) = k.sent t y i c
      pick t y i (inr h) = absurd (none t y i h)

  sends : (t : TrunkId) (y : Name) (x : Item) (o : Work) → Towards o.node t y → X o → X (report (Effect.Sent (Some t) y x) o)
  sends t y x o v k = on o (report (Effect.Sent (Some t) y x) o) refl refl
      (λ u z i c. pick u z i (Contains-push_cases o.effects (Effect.Sent (Some t) y x) (Effect.Sent (Some u) z i) c)) k
    where
      pick : (u : TrunkId) (z : Name) (i : Item)
          → Contains o.effects (Effect.Sent (Some u) z i) ⊎ (◌≡◌ {A = Effect Item} (Effect.Sent (Some t) y x) (Effect.Sent (Some u) z i))
          → Towards o.node u z
      pick u z i (inl c) = k.sent u z i c
      pick u z i (inr h) =
          let a : t ≡ u = cc in
          let b : y ≡ z = cc in
          subst (λ w. Towards o.node w z) a (subst (λ w. Towards o.node t w) b v)

  kept_local : (x : Item) (o : Work) → X o → X (keep_local x o)
  kept_local x o k = on (report (Effect.Sent None o.node.mint.name x) o) (keep_local x o) refl refl (λ t y i c. h.sent t y i c) h
    where
      h : X (report (Effect.Sent None o.node.mint.name x) o)
      h = silent (Effect.Sent None o.node.mint.name x) o (λ t y i z. cc) k

  posts : (y : Name) (x : Item) (o : Work) → X o → X (post_to y x o)
  posts y x o k = go (same_name y o.node.mint.name)
    where
      challenge_or_park : (r : Option TrunkId) → route o.node y ≡ r → X (send_on r y x o)
      challenge_or_park None h = k
      challenge_or_park (Some t) h =
          let r = route_from o.node y t h in sends t y x o (record { side = r.found; there = r.there; peer = r.peer }) k

      go : (b : Bool) → X (cond b (keep_local x o) (send_on (route o.node y) y x o))
      go true = kept_local x o k
      go false = challenge_or_park (route o.node y) refl

  posts_all : (ss : List Addressed) (o : Work) → X o → X (post_all ss o)
  posts_all [] o k = k
  posts_all (s ∷ ss) o k = posts_all ss (post s o) (posts s.node (spelled o.node s) o k)

  -- the node alone changes
  within : (o : Work) (m : Node) → m.mint.name ≡ o.node.mint.name → m.sides ≡ o.node.sides → X o → X (record o { node = m })
  within o m nm sd k = on o (record o { node = m }) nm sd k.sent k

  puts : (p : Pid) (m : Data) (o : Work) → X o → X (put p m o)
  puts p m o k = within (report (Effect.Put p m) o) ((put p m o).node) refl refl
      (silent (Effect.Put p m) o (λ t y i z. cc) k)

  finishes : (p : Pid) (x : Data) (o : Work) → X o → X (end_process p x o)
  finishes p x o k =
      let o1 = post_all (last_posts p x o) o in
      within (report (Effect.Ended p x) o1) ((end_process p x o).node) refl refl
      (silent (Effect.Ended p x) o1 (λ t y i z. cc) (posts_all (last_posts p x o) o k))

  parts : Parts X
  parts = record {
    posted = λ s o k. posts s.node (spelled o.node s) o k;
    end_set = λ p q v o l k. within o _ refl refl k;
    drew = λ d o h k. within o _ (drawn_name o.node.mint d) refl k;
    life_set = λ p l o h k. within o _ refl refl k;
    renamed = λ m o h k. within o _ refl refl k;
    message = puts;
    reacted = λ p q x o k. silent (Effect.LinkExit p q x) o (λ t y i z. cc) k;
    finished = finishes;
    registers = λ r m o l k. within o _ refl refl k;
    unregisters = λ r o k. within o _ refl refl k;
    watches = λ r m o l k. within o _ refl refl k;
    unwatches = λ r o k. within o _ refl refl k;
  }

  towards_kept : (t : TrunkId) (s : TrunkSide) (o : Work) → TurnedBy New o.node t s → X o → X (with_side t s o)
  towards_kept t s o c k = record {
    name = k.name;
    stays = λ u y h. still u y (k.stays u y h);
    sent = λ u y i h. towards_turned New t s o c u y (k.sent u y i h);
    new = λ u a h j. by_test _ (same_trunk u t)
        (λ i. here u a (same_trunk_true u t i) h (same_Some s a (sym (at u true i) ∙ j)) c)
        (λ i. k.new u a h (sym (at u false i) ∙ j));
  }
    where
      at : (u : TrunkId) (b : Bool) → same_trunk u t ≡ b → side_at ((with_side t s o).node) u ≡ cond b (Some s) (side_at o.node u)
      at u b i = set_at o t s u ∙ ap (λ b. cond b (Some s) (side_at o.node u)) i

      still : (u : TrunkId) (y : Name) → Stays o.node u y → Stays ((with_side t s o).node) u y
      still u y (inl v) = inl (towards_turned New t s o c u y v)
      still u y (inr v) = inr (v.0, v.1, towards_turned New t s o c u v.0 v.2)

      at_new : (u : TrunkId) (a b : TrunkSide) → u ≡ t → side_at n u ≡ None → side_at o.node t ≡ Some b → a.peer ≡ b.peer → New u a.peer
      at_new u a b i h j p = subst (λ z. New u z) (sym p) (k.new u b h (ap (side_at o.node) i ∙ j))

      here : (u : TrunkId) (a : TrunkSide) → u ≡ t → side_at n u ≡ None → s ≡ a → TurnedBy New o.node t s → New u a.peer
      here u a i h q (Fresh w f) = subst (λ (z : TrunkSide). New u z.peer) q (subst (λ z. New z s.peer) (sym i) w)
      here u a i h q (Aged b f g) = at_new u a b i h f (ap (λ (z : TrunkSide). z.peer) (sym q) ∙ g.peer)
      here u a i h q (Shut b f p g r) = at_new u a b i h f (ap (λ (z : TrunkSide). z.peer) (sym q) ∙ p)

  turned : (t : TrunkId) (s : TrunkSide) (o : Work) → TurnedBy New o.node t s → Roomy o.node t s → X o → X (with_side t s o)
  turned t s o c r k = towards_kept t s o c k

  wrote : (t : TrunkId) (y : Name) (m : ShakeMsg) (o : Work) → Towards o.node t y → X o → X (write t y m o)
  wrote t y m o v k = sends t y (Handshake m) o v k

  opens : (t : TrunkId) (s : TrunkSide) (o : Work) → side_at o.node t ≡ Some s → s.state ≡ Losing → X o
      → Unparks New X turned wrote s.peer (set_state t s Gone o)
  opens t s o h e k u b w f p i j = towards_kept u (as_state b (Accepting w)) (set_state t s Gone o) (Aged b f (parked_ages b w i)) j

  -- nothing has happened
  idle : (m : Node) → m.mint.name ≡ n.mint.name → m.sides ≡ n.sides → X (at_work m)
  idle m nm sd = record {
    name = nm;
    stays = λ t y h. inl (towards_along n m sd t y h);
    sent = λ t y i c. absurd (none_within (Effect.Sent (Some t) y i) c);
    new = λ t s h j. absurd (none-some s (sym h ∙ ap (λ z. fm.get z t) (sym sd) ∙ j));
  }

  -- every side is gone
  clears : (m : Node) → m.mint.name ≡ n.mint.name → m.sides ≡ (stopped n).sides → X (at_work m)
  clears m nm sd = record {
    name = nm;
    stays = λ t y h. inl (record {
      side = record { peer = h.side.peer; introduction = untold; state = Gone };
      there = at t ∙ ap gone_side h.there;
      peer = h.peer;
    });
    sent = λ t y i c. absurd (none_within (Effect.Sent (Some t) y i) c);
    new = λ t s h j. absurd (none-some s (sym (at t ∙ ap gone_side h) ∙ j));
  }
    where
      at : (t : TrunkId) → side_at m t ≡ gone_side (side_at n t)
      at t = ap (λ z. fm.get z t) sd ∙ gone_sides n t

  module _ (y : Name) (w : ℕ) (h : e ≡ Dial y w) (ny : same_name y n.mint.name ≡ false) where
    abbrev t0 : TrunkId
    t0 = next_trunk n

    abbrev s0 : TrunkSide
    s0 = record { peer = y; introduction = untold; state = AwaitsStatus w }

    abbrev o0 : Work
    o0 = with_side t0 s0 (at_work (draw_trunk n))

    at : (u : TrunkId) (b : Bool) → same_trunk u t0 ≡ b → side_at o0.node u ≡ cond b (Some s0) (side_at n u)
    at u b i = set_at (at_work (draw_trunk n)) t0 s0 u ∙ ap (λ b. cond b (Some s0) (side_at n u)) i

    stranger : y ≡ n.mint.name → ⊥
    stranger i = let z : true ≡ false = sym (same_name_is y n.mint.name i) ∙ ny in cc

    dials_it : (u : TrunkId) → same_trunk u t0 ≡ true → Dials n e u y
    dials_it u i = ((w, h), same_trunk_true u t0 i, stranger)

    begun : X o0
    begun = record {
      name = refl;
      stays = λ u z v. by_test _ (same_trunk u t0)
          (λ i. inr (y, dials_it u i, record { side = s0; there = at u true i; peer = refl }))
          (λ i. inl (record { side = v.side; there = at u false i ∙ v.there; peer = v.peer }));
      sent = λ u z i c. absurd (none_within (Effect.Sent (Some u) z i) c);
      new = λ u a v j. by_test _ (same_trunk u t0)
          (λ i. inr (subst (λ (z : TrunkSide). Dials n e u z.peer) (same_Some s0 a (sym (at u true i) ∙ j)) (dials_it u i)))
          (λ i. absurd (none-some a (sym v ∙ sym (at u false i) ∙ j)));
    }

    dialed : X (write t0 y (send_name (identity n)) o0)
    dialed =
        let v : Towards o0.node t0 y = record { side = s0; there = at t0 true (same_trunk_is t0 t0 refl); peer = refl } in
        sends t0 y (Handshake (send_name (identity n))) o0 v begun

pub bearings_kept : (names : List Name) (n : Node) (e : NodeEvent) → IfGoes (at_node names n e) (Bearings n e)
bearings_kept names n e = at_node_keeps (New n e) (Bearings n e) (parts n e) (turned n e) (wrote n e) (opens n e) names n
    (idle n e n refl refl) e
    (rest e refl)
  where
    rest : (d : NodeEvent) → e ≡ d → Rest (New n e) (Bearings n e) (parts n e) (turned n e)
        (wrote n e) (opens n e) names n (idle n e n refl refl) d
    rest (Call d) h = λ s p. within n e (at_work n) _ refl refl (idle n e n refl refl)
    rest (Arrive t (Some i) w) h = λ at. fresh_kept (New n e) (Bearings n e) (turned n e) (wrote n e) t (inl ((i, w, h), refl))
        (handshake_in i) w (at_work n) at (idle n e n refl refl)
    rest Local h = λ l. idle n e (record n { local = l }) refl refl
    rest (Dial y w) h = dial_goes (Bearings n e) names n y w (λ ny busy. dialed n e y w h ny)
    rest Stop h = clears n e (stopped n) refl refl
    rest Start h = clears n e (started n) refl refl
    rest _ h = tt

-- of an outcome that is accepted
pub if_accepted : (X : Work → Type 0) (k : Outcome) (a : Answer) (o : Work) → k ≡ Accepts a o → IfGoes k X → X o
if_accepted X k a o h j = subst (λ z. IfGoes z X) h j
