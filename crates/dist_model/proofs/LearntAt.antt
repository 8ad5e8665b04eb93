-- What nodes know of creations: one event at one node.
use Rattle.erl_names.specs.Draw as kind
use Rattle.erl_names.specs.Draw.{Draw}
use Rattle.std.proofs.Common.{◌≡◌, ℕ, Bool, true, false, cond, List, [], ◌∷◌, refl, sym}
use Rattle.std.proofs.Common.{ap, ◌∙◌, subst, Option, Some, None, ◌⊎◌, inl, inr, Contains, ◌&&◌}
use Rattle.std.proofs.lemmas.List.Elements.{Contains-push_cases}
use Rattle.std.proofs.lemmas.Option.{same_Some, none-some}
use Rattle.std.specs.FinMap as fm
use Rattle.dist_model.proofs.Calls.{IfGoes, by_test, if_cond}
use Rattle.dist_model.proofs.ClosedSides.{any_found}
use Rattle.dist_model.proofs.EndOfProcess.{last_posts}
use Rattle.dist_model.proofs.HandshakeParts.{set_at}
use Rattle.dist_model.proofs.KeepEvents.{dial_goes, outer_parts}
use Rattle.dist_model.proofs.KeepParts.{Parts, call_keeps, item_keeps, record_keeps}
use Rattle.dist_model.proofs.Keys.{same_trunk, same_trunk_true}
use Rattle.dist_model.proofs.Learnt.{Fresh, Honest, Turns, Went, fresh_learns, known_learns, lose_learns, swept_learns}
use Rattle.dist_model.proofs.Run.{handshake_is}
use Rattle.dist_model.proofs.Sides.{side_at}
use Rattle.dist_model.proofs.Truths.{none_within}
use Rattle.dist_model.specs.Arrivals.{arrive, arrive_first, handshake_in, take_local}
use Rattle.dist_model.specs.Commands.{Refuses}
use Rattle.dist_model.specs.Introductions.{knows_peer, told_by}
use Rattle.dist_model.specs.Dialing.{draw_trunk, next_trunk}
use Rattle.dist_model.specs.Exits.{end_process}
use Rattle.dist_model.specs.Handshake.{identity, with_side, write}
use Rattle.dist_model.specs.Items.{Handshake, Item, Signalled, has_reason}
use Rattle.dist_model.specs.Losses.{any_side, least_record, sweep_by, sweep_record}
use Rattle.dist_model.specs.Names.{Name, same_name}
use Rattle.dist_model.specs.Node.{Node, route, payload_to}
use Rattle.dist_model.specs.NodeEvents.{Arrive, Call, Dial, Local, Lose, NodeEvent, Start, Stop, Sweep, at_node}
use Rattle.dist_model.specs.Sides.{AwaitsStatus, TrunkSide, is_gone, is_losing, is_over}
use Rattle.dist_model.specs.Work.{Addressed, Work, at_work, keep_local, post, post_all, put, report, send_on, spelled}
use Rattle.dist_model.specs.declared.report.Effect.{Effect}
use Rattle.erl_control.specs.declared.signal.Signal.{Signal}
use Rattle.erl_handshake.specs.Roles.{send_name}
use Rattle.erl_handshake.specs.declared.message.ShakeMsg.{ShakeMsg}
use Rattle.erl_names.specs.Minted.{Minted, drawn}
use Rattle.erl_names.specs.declared.trunk.TrunkId.{TrunkId}
use Rattle.erl_term.specs.Data.{Data}
use Rattle.erl_term.specs.declared.refusal.Refusal.{Refusal}
use Rattle.erl_term.specs.declared.term.Pid.{Pid}
use Rattle.erl_handshake.specs.declared.introduction.Introduction.{Introduction}
use Rattle.dist_model.specs.Handshake.{introduces}
use Rattle.erl_handshake.specs.Roles.{introduction_by}
use Rattle.dist_model.specs.Sides.{untold}

drawn_creation : (m : Minted) (d : Draw) → (drawn m d).creation ≡ m.creation
drawn_creation m kind.Pid = refl
drawn_creation m _ = refl

-- an item comes that tells this
abbrev pub HearsOf : NodeEvent → TrunkId → Introduction → Type 0
HearsOf e t c = (i : Item) × (word : ℕ) × (e ≡ Arrive t (Some i) word) × (told_by i ≡ Some c)

-- who a node without a side takes an item's sender for, and who one with it
abbrev pub sender : TrunkId → Option TrunkSide → Name
sender t None = t.dialer
sender t (Some s) = s.peer

-- a side that isn't gone was there before, or is new and nothing was known of its peer, or hears it
abbrev pub Learns : NodeEvent → TrunkId → Option TrunkSide → TrunkSide → Type 0
Learns e t None s = knows_peer s.state ≡ true → HearsOf e t s.introduction
Learns e t (Some a) s = (s.peer ≡ a.peer) × (is_gone s.state ≡ false → is_gone a.state ≡ false)
    × (knows_peer s.state ≡ true → ((knows_peer a.state ≡ true) × (s.introduction ≡ a.introduction)) ⊎ HearsOf e t s.introduction)

-- a node as an event leaves it
pub record Learnt (n : Node) (e : NodeEvent) (o : Work) : Type 0 where
  pub own : introduces o.node ≡ introduces n
  pub new : (t : TrunkId) → side_at o.node t ≡ None → side_at n t ≡ None
  pub sides : (t : TrunkId) (s : TrunkSide) → side_at o.node t ≡ Some s → Learns e t (side_at n t) s
  pub sent : (t : Option TrunkId) (y : Name) (m : ShakeMsg) → Contains o.effects (Effect.Sent t y (Handshake m)) → Honest n m

module _ (n : Node) (e : NodeEvent) where
  abbrev X : Work → Type 0
  X = Learnt n e

  -- with the same creation and sides, and what is sent more is no message of the handshake
  on : (o o' : Work) → introduces o'.node ≡ introduces o.node → o'.node.sides ≡ o.node.sides
      → ((t : Option TrunkId) (y : Name) (m : ShakeMsg) → Contains o'.effects (Effect.Sent t y (Handshake m)) → Honest n m) → X o → X o'
  on o o' nm sd sent k = record {
    own = nm ∙ k.own;
    new = λ t h. k.new t (ap (λ z. fm.get z t) (sym sd) ∙ h);
    sides = λ t s h. k.sides t s (ap (λ z. fm.get z t) (sym sd) ∙ h);
    sent = sent;
  }

  reports : (f : Effect Item) (o : Work)
      → ((t : Option TrunkId) (y : Name) (m : ShakeMsg) → ◌≡◌ {A = Effect Item} f (Effect.Sent t y (Handshake m)) → Honest n m)
      → X o → X (report f o)
  reports f o more k = on o (report f o) refl refl (λ t y m c. pick t y m (Contains-push_cases o.effects f (Effect.Sent t y (Handshake m)) c)) k
    where
      pick : (t : Option TrunkId) (y : Name) (m : ShakeMsg)
          → Contains o.effects (Effect.Sent t y (Handshake m)) ⊎ (◌≡◌ {A = Effect Item} f (Effect.Sent t y (Handshake m))) → Honest n m
      pick t y m (inl c) = k.sent t y m c
      pick t y m (inr h) = more t y m h

  sends : (t : Option TrunkId) (y : Name) (s : Signal) (pay : Bool) (o : Work) → X o → X (report (Effect.Sent t y (Signalled s pay)) o)
  sends t y s pay o k = reports (Effect.Sent t y (Signalled s pay)) o (λ u z m h. cc) k

  -- the node alone changes
  within : (o : Work) (m : Node) → introduces m ≡ introduces o.node → m.sides ≡ o.node.sides → X o → X (record o { node = m })
  within o m nm sd k = on o (record o { node = m }) nm sd k.sent k

  posts : (s : Addressed) (o : Work) → X o → X (post s o)
  posts s o k = go (same_name s.node o.node.mint.name)
    where
      y : Name
      y = s.node

      goes : (r : Option TrunkId) → X (send_on r y (spelled o.node s) o)
      goes None = k
      goes (Some t) = sends (Some t) y s.signal (has_reason s.signal && payload_to o.node y) o k

      go : (b : Bool) → X (cond b (keep_local (spelled o.node s) o) (send_on (route o.node y) y (spelled o.node s) o))
      go true = within (report (Effect.Sent None o.node.mint.name (spelled o.node s)) o) ((keep_local (spelled o.node s) o).node) refl refl
          (sends None o.node.mint.name s.signal (has_reason s.signal && payload_to o.node y) o k)
      go false = goes (route o.node y)

  posts_all : (ss : List Addressed) (o : Work) → X o → X (post_all ss o)
  posts_all [] o k = k
  posts_all (s ∷ ss) o k = posts_all ss (post s o) (posts s o k)

  puts : (p : Pid) (m : Data) (o : Work) → X o → X (put p m o)
  puts p m o k = within (report (Effect.Put p m) o) ((put p m o).node) refl refl (reports (Effect.Put p m) o (λ t y l h. cc) k)

  finishes : (p : Pid) (x : Data) (o : Work) → X o → X (end_process p x o)
  finishes p x o k =
      let o1 = post_all (last_posts p x o) o in
      within (report (Effect.Ended p x) o1) ((end_process p x o).node) refl refl
      (reports (Effect.Ended p x) o1 (λ t y m h. cc) (posts_all (last_posts p x o) o k))

  parts : Parts X
  parts = record {
    posted = posts;
    end_set = λ p q v o l k. within o _ refl refl k;
    drew = λ d o h k. within o _ (ap (λ c. introduction_by c o.node.flags) (drawn_creation o.node.mint d)) refl k;
    life_set = λ p l o h k. within o _ refl refl k;
    renamed = λ m o h k. within o _ refl refl k;
    message = puts;
    reacted = λ p q x o k. reports (Effect.LinkExit p q x) o (λ t y m h. cc) k;
    finished = finishes;
    registers = λ r m o l k. within o _ refl refl k;
    unregisters = λ r o k. within o _ refl refl k;
    watches = λ r m o l k. within o _ refl refl k;
    unwatches = λ r o k. within o _ refl refl k;
  }

  wrote : (t : TrunkId) (y : Name) (m : ShakeMsg) (o : Work) → Honest o.node m → X o → X (write t y m o)
  wrote t y m o h k = reports (Effect.Sent (Some t) y (Handshake m)) o
      (λ u z l f. let g : m ≡ l = cc in subst (Honest n) g (λ c i. h c i ∙ k.own)) k

  turned : (t : TrunkId) (s : TrunkSide) (o : Work) → Turns (HearsOf e t) o.node t s → X o → X (with_side t s o)
  turned t s o c k = record {
    own = k.own;
    new = λ u j. by_test _ (same_trunk u t)
        (λ i. absurd (none-some s (sym j ∙ at u true i)))
        (λ i. k.new u (sym (at u false i) ∙ j));
    sides = λ u a j. by_test _ (same_trunk u t)
        (λ i. here u a (same_trunk_true u t i) (same_Some s a (sym (at u true i) ∙ j)))
        (λ i. k.sides u a (sym (at u false i) ∙ j));
    sent = k.sent;
  }
    where
      at : (u : TrunkId) (b : Bool) → same_trunk u t ≡ b → side_at ((with_side t s o).node) u ≡ cond b (Some s) (side_at o.node u)
      at u b i = set_at o t s u ∙ ap (λ b. cond b (Some s) (side_at o.node u)) i

      -- was it there before
      went : (p : Option TrunkSide) (a : TrunkSide) → Learns e t p a → s.peer ≡ a.peer → (is_gone s.state ≡ false → is_gone a.state ≡ false)
          → (knows_peer s.state ≡ true → ((knows_peer a.state ≡ true) × (s.introduction ≡ a.introduction)) ⊎ HearsOf e t s.introduction)
          → Learns e t p s
      went None a l p g q = λ i. pick (q i)
        where
          pick : ((knows_peer a.state ≡ true) × (s.introduction ≡ a.introduction)) ⊎ HearsOf e t s.introduction
              → HearsOf e t s.introduction
          pick (inl f) = subst (HearsOf e t) (sym f.1) (l f.0)
          pick (inr f) = f
      went (Some b) a l p g q = (p ∙ l.0, λ i. l.1 (g i), λ i. pick (q i))
        where
          pick : ((knows_peer a.state ≡ true) × (s.introduction ≡ a.introduction)) ⊎ HearsOf e t s.introduction
              → ((knows_peer b.state ≡ true) × (s.introduction ≡ b.introduction)) ⊎ HearsOf e t s.introduction
          pick (inl f) = again (l.2 f.0)
            where
              again : ((knows_peer b.state ≡ true) × (a.introduction ≡ b.introduction)) ⊎ HearsOf e t a.introduction
                  → ((knows_peer b.state ≡ true) × (s.introduction ≡ b.introduction)) ⊎ HearsOf e t s.introduction
              again (inl v) = inl (v.0, f.1 ∙ v.1)
              again (inr v) = inr (subst (HearsOf e t) (sym f.1) v)
          pick (inr f) = inr f

      here : (u : TrunkId) (a : TrunkSide) → u ≡ t → s ≡ a → Learns e u (side_at n u) a
      here u a i q = subst (λ z. Learns e z (side_at n z) a) (sym i) (subst (λ z. Learns e t (side_at n t) z) q (now c))
        where
          now : Turns (HearsOf e t) o.node t s → Learns e t (side_at n t) s
          now (Fresh h f) = new (side_at n t) refl
            where
              new : (v : Option TrunkSide) → side_at n t ≡ v → Learns e t v s
              new None j = f
              new (Some v) j = absurd (none-some v (sym (k.new t h) ∙ j))
          now (Went b h p g q) = went (side_at n t) b (k.sides t b h) p g q

  idle : (m : Node) → introduces m ≡ introduces n → m.sides ≡ n.sides → X (at_work m)
  idle m nm sd = record {
    own = nm;
    new = λ t h. ap (λ z. fm.get z t) (sym sd) ∙ h;
    sides = λ t s h. still t (side_at n t) s (ap (λ z. fm.get z t) (sym sd) ∙ h);
    sent = λ t y l c. absurd (none_within (Effect.Sent t y (Handshake l)) c);
  }
    where
      still : (t : TrunkId) (p : Option TrunkSide) (s : TrunkSide) → p ≡ Some s → Learns e t p s
      still t None s h = absurd (none-some s h)
      still t (Some a) s h =
          let q : a ≡ s = same_Some a s h in
          subst (λ z. Learns e t (Some a) z) q (refl, λ i. i, λ i. inl (i, refl))

  start : X (at_work n)
  start = idle n refl refl

  learns : (t : TrunkId) (i : Item) (w : ℕ) → e ≡ Arrive t (Some i) w → (l : ShakeMsg) → handshake_in i ≡ Some l → (c : Introduction)
      → told_by (Handshake l) ≡ Some c → HearsOf e t c
  learns t i w h l j c f = (i, w, h, ap told_by (handshake_is i l j) ∙ f)

  arrives : (t : TrunkId) (first : Option Item) (w : ℕ) → e ≡ Arrive t first w → IfGoes (arrive n t (fm.get n.sides t) first w) X
  arrives t first w h = go first h (fm.get n.sides t) refl
    where
      comes : (v : Option Item) → e ≡ Arrive t v w → (s : TrunkSide) → side_at n t ≡ Some s → (b : Bool)
          → IfGoes (cond b (Refuses Refusal.NotLive) (arrive_first v t s (at_work n))) X
      comes v j s f true = tt
      comes None j s f false = tt
      comes (Some i) j s f false = known_learns (HearsOf e) X turned wrote t s (at_work n) f start i
          (item_keeps X parts s.peer i (at_work n) start) (handshake_in i) (learns t i w j)

      go : (v : Option Item) → e ≡ Arrive t v w → (s : Option TrunkSide) → side_at n t ≡ s → IfGoes (arrive n t s v w) X
      go None j None f = tt
      go (Some i) j None f = fresh_learns (HearsOf e) X turned wrote t (handshake_in i) w (at_work n) (learns t i w j) f start
      go v j (Some s) f = comes v j s f (is_over s.state)

  takes : (l : List Item) → IfGoes (take_local n l) X
  takes [] = tt
  takes (i ∷ rest) = item_keeps X parts n.mint.name i (at_work (record n { local = rest })) (idle (record n { local = rest }) refl refl)

  sweeps : (d : Option (TrunkId × TrunkSide)) → any_side is_losing (fm.entries n.sides) ≡ d → IfGoes (sweep_by d (at_work n)) X
  sweeps None h = tt
  sweeps (Some d) h =
      let y = d.1.peer in
      let f = any_found is_losing (fm.entries n.sides) d (fm.entries_sorted n.sides) h in
      let o = sweep_record (least_record y n) (at_work n) in
      let same : o.node.sides ≡ n.sides =
      record_keeps (λ o. o.node.sides ≡ n.sides) (outer_parts (λ m d. m ≡ n.sides)) y (at_work n) refl in
      swept_learns (HearsOf e) X turned wrote d.0 d.1 o (ap (λ m. fm.get m d.0) same ∙ fm.get-entries n.sides d.0 ∙ f.0)
      (record_keeps X parts y (at_work n) start)

  dialed : (y : Name) (w : ℕ) → side_at n (next_trunk n) ≡ None → X (write (next_trunk n) y (send_name (identity n))
      (with_side (next_trunk n) (record { peer = y; introduction = untold; state = AwaitsStatus w }) (at_work (draw_trunk n))))
  dialed y w none =
      let t = next_trunk n in
      let s : TrunkSide = record { peer = y; introduction = untold; state = AwaitsStatus w } in
      wrote t y (send_name (identity n)) (with_side t s (at_work (draw_trunk n))) (λ c i. sym (same_Some (introduces n) c i))
      (turned t s (at_work (draw_trunk n)) (Fresh none (λ i. cc)) (idle (draw_trunk n) refl refl))

-- a node stops or starts
abbrev pub clears : NodeEvent → Bool
clears Stop = true
clears Start = true
clears _ = false

pub node_learns : (names : List Name) (n : Node) (e : NodeEvent) → side_at n (next_trunk n) ≡ None → clears e ≡ false
    → IfGoes (at_node names n e) (Learnt n e)
node_learns names n (Call d) none h = if_cond n.up _ Refusal.NodeDown _ (λ u.
    call_keeps (Learnt n (Call d)) (parts n (Call d)) n d (λ j p. within n (Call d) (at_work n) _ refl refl (start n (Call d))) (start n (Call d)))
node_learns names n (Arrive t first w) none h = if_cond n.up _ Refusal.NodeDown _ (λ u. arrives n (Arrive t first w) t first w refl)
node_learns names n Local none h = if_cond n.up _ Refusal.NodeDown _ (λ u. takes n Local n.local)
node_learns names n (Lose t) none h = if_cond n.up _ Refusal.NodeDown _ (λ u.
    lose_learns (HearsOf (Lose t)) (Learnt n (Lose t)) (turned n (Lose t)) (wrote n (Lose t)) n t (fm.get n.sides t) refl (start n (Lose t)))
node_learns names n Sweep none h = if_cond n.up _ Refusal.NodeDown _ (λ u. sweeps n Sweep (any_side is_losing (fm.entries n.sides)) refl)
node_learns names n (Dial y w) none h = if_cond n.up _ Refusal.NodeDown _ (λ u.
    dial_goes (Learnt n (Dial y w)) names n y w (λ i j. dialed n (Dial y w) y w none))
node_learns names n Stop none h = cc
node_learns names n Start none h = cc
