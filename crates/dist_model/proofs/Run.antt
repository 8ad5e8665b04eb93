-- Every step keeps the world good.
use Rattle.std.proofs.Common.{◌++◌, inr, subst, inl, ◌≡◌, ℕ, ◌+◌, Bool, true, false, cond, List}
use Rattle.std.proofs.Common.{[], ◌∷◌, refl, sym, ap, ◌∙◌, ◌&&◌, Option, Some, None, nat_lt, ◌^◌}
use Rattle.std.proofs.lemmas.Option.{same_Some, none-some}
use Rattle.std.specs.Option.{is_some}
use Rattle.std.specs.FinMap as fm
use Rattle.conn_core.specs.declared.arrival.Fault.{Fault}
use Rattle.erl_handshake.specs.declared.fault.ShakeFault.{ShakeFault}
use Rattle.dist_model.specs.NodeEvents.{at_node, if_up}
use Rattle.dist_model.proofs.OneStep.{arrives, while_up}
use Rattle.dist_model.proofs.Arrivals.{acceptance_comes, broken, challenge_comes, good_awaits_reply}
use Rattle.dist_model.proofs.Arrivals.{good_awaits_status, good_lose, good_on_up, unless}
use Rattle.dist_model.proofs.Calls.{IfGoes, by_test}
use Rattle.dist_model.proofs.ClosedSides.{good_started, good_stopped, good_sweep}
use Rattle.dist_model.proofs.FirstMessage.{asked_on, fresh_fault, fresh_hello}
use Rattle.dist_model.proofs.Keys.{place_total, same_name_refl, same_place, same_trunk_refl, same_name_true}
use Rattle.dist_model.proofs.NewSides.{good_dial}
use Rattle.dist_model.proofs.Primitives.{good_popped, some_listed}
use Rattle.dist_model.proofs.Routes.{node_of_name}
use Rattle.dist_model.proofs.Rules.{awaits_ack, awaits_challenge, awaits_true, handshake_as, handshake_by, name_as}
use Rattle.dist_model.proofs.Sides.{side_at}
use Rattle.dist_model.proofs.Signals.{good_local}
use Rattle.dist_model.proofs.Trunks.{Good}
use Rattle.dist_model.proofs.TrunksStay.{good_call}
use Rattle.dist_model.specs.Arrivals.{arrive_at, arrive_fresh, handshake_in, signal_at, take_local}
use Rattle.dist_model.specs.Commands.{Accepts, Outcome, Refuses}
use Rattle.dist_model.specs.declared.report.Answer.{Answer}
use Rattle.dist_model.specs.Handshake.{fault, handshake_at}
use Rattle.dist_model.specs.Incarnations.{start, started}
use Rattle.dist_model.specs.Items.{Handshake, Item}
use Rattle.dist_model.specs.Losses.{lose}
use Rattle.dist_model.specs.Names.{Name, place_cmp, same_name}
use Rattle.dist_model.specs.Node.{Node}
use Rattle.dist_model.specs.Runs.{Always, Goes, Runs, opening, run}
use Rattle.dist_model.specs.Sides.{Accepting, Asked, AwaitsAck, AwaitsChallenge, AwaitsStatus, Gone, State, TrunkSide, Up, is_up}
use Rattle.dist_model.specs.Work.{at_work}
use Rattle.dist_model.specs.World.{Arrive, Call, Dial, Event, Local, Lose, Refused, Report, Start, Stepped, Stop, Sweep}
use Rattle.dist_model.specs.World.{World, carried, came_of, left, list_to, met, node_name, node_of, set_node, step, step_at}
use Rattle.erl_handshake.specs.Digest.{digest_of}
use Rattle.erl_handshake.specs.Flags.{has_all_of, mandatory}
use Rattle.erl_handshake.specs.Roles.{is_answered, is_same}
use Rattle.erl_handshake.specs.declared.message.ShakeMsg.{ShakeMsg}
use Rattle.erl_handshake.specs.declared.status.Status.{Status}
use Rattle.erl_names.specs.declared.trunk.TrunkId.{TrunkId}
use Rattle.erl_term.specs.declared.refusal.Refusal.{Refusal}
use Rattle.std.specs.FinMap.{FinMap}
use Rattle.erl_handshake.specs.declared.setup.Setup.{Setup}
use Rattle.dist_model.specs.Sides.{untold}
use Rattle.erl_handshake.specs.Roles.{introduction_by}

pub handshake_is : (i : Item) (m : ShakeMsg) → handshake_in i ≡ Some m → i ≡ Handshake m
handshake_is (Handshake l) m h = ap Handshake (same_Some l m h)
handshake_is _ m h = absurd (none-some m h)

module _ (w : World) (x : Name) (n : Node) (t : TrunkId) (v : TrunkSide) (rest : List Item) (hx : node_of w.nodes x ≡ Some n)
    (h : side_at n t ≡ Some v) (g : Good w) where
  abbrev To : Item → Outcome → Type 0
  To i o =
      list_to w.lists t x ≡ i ∷ rest → IfGoes o
      (λ p. Good (record { names = w.names; nodes = set_node w.nodes x p.node; lists = carried (fm.insert w.lists (t, x) rest) p.effects }))

  good_awaits_challenge_item : (u : ℕ) → v.state ≡ AwaitsChallenge u → (m : ShakeMsg)
      → To (Handshake m) (awaits_challenge t v u m (at_work n))
  good_awaits_challenge_item u s (ShakeMsg.Challenge c d b a) e =
      unless w x n t v rest hx h g (is_same a v.peer) (Handshake (ShakeMsg.Challenge c d b a)) _ (Fault.Shake ShakeFault.Forged)
      (λ _ f. unless w x n t v rest hx h g (has_all_of c mandatory) (Handshake (ShakeMsg.Challenge c d b a)) _
      (Fault.Shake ShakeFault.FlagsMissing)
      (λ _ k. challenge_comes w x n t v (Handshake (ShakeMsg.Challenge c d b a)) rest hx h g k u (introduction_by b c)
      (digest_of n.cookie d) s refl (λ p q. refl)) f) e
  good_awaits_challenge_item u s (ShakeMsg.Status Status.Ok) e =
      broken w x n t v rest hx h g (Fault.Shake ShakeFault.BadMessage) (Handshake (ShakeMsg.Status Status.Ok)) e
  good_awaits_challenge_item u s m e = broken w x n t v rest hx h g (Fault.Shake ShakeFault.BadMessage) (Handshake m) e

  good_awaits_ack_item : (u : ℕ) → v.state ≡ AwaitsAck u → (m : ShakeMsg) → To (Handshake m) (awaits_ack t v u m (at_work n))
  good_awaits_ack_item u s (ShakeMsg.ChallengeAck a) e =
      unless w x n t v rest hx h g (is_answered n.cookie u a) (Handshake (ShakeMsg.ChallengeAck a)) _ (Fault.Shake ShakeFault.BadDigest)
      (λ _ k. acceptance_comes w x n t v (Handshake (ShakeMsg.ChallengeAck a)) rest hx h g k u s refl (λ p q. refl)) e
  good_awaits_ack_item u s (ShakeMsg.Status Status.Ok) e =
      broken w x n t v rest hx h g (Fault.Shake ShakeFault.BadMessage) (Handshake (ShakeMsg.Status Status.Ok)) e
  good_awaits_ack_item u s m e = broken w x n t v rest hx h g (Fault.Shake ShakeFault.BadMessage) (Handshake m) e

  good_awaits_true_item : (u : ℕ) → v.state ≡ Asked u → (m : ShakeMsg) → To (Handshake m) (awaits_true t v u m (at_work n))
  good_awaits_true_item u s (ShakeMsg.Status Status.True) e =
      asked_on (record { names = w.names; nodes = w.nodes; lists = fm.insert w.lists (t, x) rest }) x n hx
      (good_popped w t x (Handshake (ShakeMsg.Status Status.True)) rest g e (λ m b hm hb j p q. refl)) t v u h s
  good_awaits_true_item u s (ShakeMsg.Status Status.False) e =
      broken w x n t v rest hx h g (Fault.Shake ShakeFault.Nok) (Handshake (ShakeMsg.Status Status.False)) e
  good_awaits_true_item u s m e = broken w x n t v rest hx h g (Fault.Shake ShakeFault.BadMessage) (Handshake m) e

  by_rule : (a : State) → v.state ≡ a → (m : ShakeMsg) → To (Handshake m) (handshake_by a t v m (at_work n))
  by_rule (AwaitsStatus u) s m = good_awaits_status w x n t v rest hx h g u s m
  by_rule (AwaitsChallenge u) s m = good_awaits_challenge_item u s m
  by_rule (AwaitsAck u) s m = good_awaits_ack_item u s m
  by_rule (Asked u) s m = good_awaits_true_item u s m
  by_rule (Accepting u) s m = good_awaits_reply w x n t v rest hx h g u s m
  by_rule _ s m = broken w x n t v rest hx h g (Fault.Shake ShakeFault.BadMessage) (Handshake m)

  by_handshake : (a : State) → v.state ≡ a → (m : ShakeMsg) → To (Handshake m) (handshake_at a t v m (at_work n))
  by_handshake a s m = subst (λ z. To (Handshake m) z) (sym (handshake_as a t v m (at_work n))) (by_rule a s m)

  by_signal : (a : State) → v.state ≡ a → (i : Item) → To i (signal_at a t v i (at_work n))
  by_signal Up s i = λ e. good_on_up w x n t v i rest hx h g e (ap is_up s)
  by_signal _ s i = broken w x n t v rest hx h g (Fault.Shake ShakeFault.BadMessage) i

  by_kind : (o : Option ShakeMsg) (i : Item) → handshake_in i ≡ o → To i (arrive_at o t v i (at_work n))
  by_kind None i k = by_signal v.state refl i
  by_kind (Some m) i k = λ e. by_handshake v.state refl m (e ∙ ap (λ z. z ∷ rest) (handshake_is i m k))

-- what goes through leads to a good world
ends_well : (w : World) (x : Name) (m : FinMap place_cmp (List Item)) (o : Outcome) → Good w
    → IfGoes o (λ p. Good (record { names = w.names; nodes = set_node w.nodes x p.node; lists = carried m p.effects }))
    → Good ((came_of w x m o).world)
ends_well w x m (Refuses k) g h = g
ends_well w x m (Accepts a o) g h = h

first_known : (w : World) (x : Name) (n : Node) (t : TrunkId) (v : TrunkSide) (k : ℕ) (i : Item) (rest : List Item)
    → node_of w.nodes x ≡ Some n → side_at n t ≡ Some v → Good w → list_to w.lists t x ≡ i ∷ rest
    → Good ((came_of w x (fm.insert w.lists (t, x) rest) (arrive_at (handshake_in i) t v i (at_work n))).world)
first_known w x n t v k i rest hx h g e =
    ends_well w x (fm.insert w.lists (t, x) rest) (arrive_at (handshake_in i) t v i (at_work n)) g
    (by_kind w x n t v rest hx h g (handshake_in i) i refl e)

-- a fresh side, any item
module _ (w : World) (x : Name) (n : Node) (hx : node_of w.nodes x ≡ Some n) (g : Good w) (t : TrunkId)
    (far : same_name t.dialer n.mint.name ≡ false) (key : is_some (fm.get w.lists (t, x)) ≡ true)
    (none : side_at n t ≡ None) where
  abbrev Well : Outcome → Type 0
  Well o = IfGoes o (λ p. Good (record { names = w.names; nodes = set_node w.nodes x p.node; lists = carried w.lists p.effects }))

  bad : Well (fault (Fault.Shake ShakeFault.BadMessage) t (record { peer = t.dialer; introduction = untold; state = Gone }) (at_work n))
  bad = fresh_fault w x n hx g t untold far key none (Fault.Shake ShakeFault.BadMessage)

  fresh_item : (o : Option ShakeMsg) (k : ℕ) → Well (arrive_fresh o t k (at_work n))
  fresh_item (Some (ShakeMsg.SendName c b a)) k =
      subst Well (sym (name_as t (ShakeMsg.SendName c b a) k (at_work n))) (fresh_hello w x n hx g t (introduction_by b c) far key none a k)
  fresh_item (Some (ShakeMsg.Status Status.Ok)) z = bad
  fresh_item _ z = bad

-- what travels is on a trunk that its dialer has: so one whose side isn't there was dialed by another
first_fresh : (w : World) (x : Name) (n : Node) (t : TrunkId) (k : ℕ) (i : Item) (rest : List Item)
    → node_of w.nodes x ≡ Some n → side_at n t ≡ None → Good w → same_name t.dialer x ≡ false → list_to w.lists t x ≡ i ∷ rest
    → Good ((came_of w x (fm.insert w.lists (t, x) rest) (arrive_fresh (handshake_in i) t k (at_work n))).world)
first_fresh w x n t k i rest hx none g far e =
    ends_well w x (fm.insert w.lists (t, x) rest) (arrive_fresh (handshake_in i) t k (at_work n)) g
    (fresh_item (record { names = w.names; nodes = w.nodes; lists = fm.insert w.lists (t, x) rest }) x n hx
    (good_popped w t x i rest g e (λ m b hm hb j p q.
    let nm : n ≡ m = same_Some n m (sym hx ∙ hm) in
    let z : false ≡ true =
    sym (ap is_some none) ∙ ap is_some (ap (λ y. side_at y t) nm ∙ hb) in absurd (let y : true ≡ false = sym z in cc)))
    t (ap (same_name t.dialer) (node_of_name w.nodes x n hx) ∙ far)
    (ap is_some (fm.get-insert place_total w.lists (t, x) rest (t, x)) ∙ ap
    (λ b. is_some (cond b (Some rest) (fm.get w.lists (t, x))))
    (same_place t t x x ∙ ap (λ b. b && same_name x x) (same_trunk_refl t) ∙ same_name_refl x))
    none (handshake_in i) k)

pub not_own : (w : World) (x : Name) (n : Node) (t : TrunkId) (i : Item) (rest : List Item) → node_of w.nodes x ≡ Some n
    → side_at n t ≡ None → Good w → list_to w.lists t x ≡ i ∷ rest → same_name t.dialer x ≡ false
not_own w x n t i rest hx none g e = by_test _ (same_name t.dialer x)
    (λ c.
    let p = g.posted t x (some_listed (fm.get w.lists (t, x)) i rest e) in
    let same : p.1 ≡ n = same_Some p.1 n (sym p.2 ∙ ap (node_of w.nodes) (same_name_true t.dialer x c) ∙ hx) in
    absurd (none-some p.0 (sym none ∙ ap (λ m. side_at m t) (sym same) ∙ p.3)))
    (λ c. c)

good_arrives : (w : World) (x : Name) (n : Node) (t : TrunkId) (k : ℕ) → node_of w.nodes x ≡ Some n → Good w
    → Good ((step_at w (Some n) (Arrive t x k)).world)
good_arrives w x n t k hx g = arrives w x n (λ s. Good s.world) (λ r. g) t k
    (λ i is h j. first_fresh w x n t k i is hx j g (not_own w x n t i is hx j g h) h)
    (λ i is s h j v. first_known w x n t s k i is hx j g h)

good_local_list : (w : World) (x : Name) (n : Node) (l : List Item) → node_of w.nodes x ≡ Some n → n.local ≡ l → Good w
    → Good ((came_of w x w.lists (take_local n l)).world)
good_local_list w x n [] hx e g = g
good_local_list w x n (i ∷ xs) hx e g = good_local w x n i xs hx g e

good_lose_any : (w : World) (x : Name) (n : Node) (t : TrunkId) (o : Option TrunkSide) → node_of w.nodes x ≡ Some n
    → side_at n t ≡ o → Good w → Good ((came_of w x w.lists (lose n t o)).world)
good_lose_any w x n t None hx h g = g
good_lose_any w x n t (Some v) hx h g = good_lose w x n t v hx h g

runs_well : (w : World) (x : Name) (n : Node) (o : Outcome) → Good w → Good ((came_of w x w.lists o).world)
    → Good ((came_of w x w.lists (if_up n o)).world)
runs_well w x n o g h = while_up w x n (λ s. Good s.world) (λ r. g) w.lists o h

good_start : (w : World) (x : Name) (n : Node) → node_of w.nodes x ≡ Some n → Good w → Good ((came_of w x w.lists (start n)).world)
good_start w x n hx g = go n.up (nat_lt (n.mint.creation + 1) (2 ^ 32))
  where
    go : (a b : Bool) → Good ((came_of w x w.lists (cond a (Refuses Refusal.NodeUp)
        (cond b (Accepts (Answer.Started (n.mint.creation + 1)) (at_work (started n))) (Refuses Refusal.IdsUsedUp)))).world)
    go false true = good_started w x n hx g
    go _ _ = g

pub good_step_at : (w : World) (o : Option Node) (e : Event) → node_of w.nodes (node_name e) ≡ o → Good w → Good ((step_at w o e).world)
good_step_at w None e h g = g
good_step_at w (Some n) (Call x c) h g = runs_well w x n _ g (good_call w x n c h g)
good_step_at w (Some n) (Arrive t x k) h g = good_arrives w x n t k h g
good_step_at w (Some n) (Local x) h g = runs_well w x n _ g (good_local_list w x n n.local h refl g)
good_step_at w (Some n) (Lose t x) h g = runs_well w x n _ g (good_lose_any w x n t (fm.get n.sides t) h refl g)
good_step_at w (Some n) (Sweep x) h g = runs_well w x n _ g (good_sweep w x n h g)
good_step_at w (Some n) (Dial x y k) h g = runs_well w x n _ g (good_dial w x n y k h g)
good_step_at w (Some n) (Stop x) h g = runs_well w x n _ g (good_stopped w x n h g)
good_step_at w (Some n) (Start x) h g = good_start w x n h g

pub good_run : (es : List Event) (w : World) → Good w → Good (run es w)
good_run [] w g = g
good_run (e ∷ es) w g = good_run es ((step w e).world) (good_step_at w (node_of w.nodes (node_name e)) e refl g)

-- what each step keeps holds throughout a run, whatever memory does
module _ (P : World → Type 0) (steps : (w : World) (e : Event) → P w → P ((step w e).world)) where
  comes : (w : World) (e : Event) (r : Report) (v : World) → P w → Goes w e r v → P v
  comes w e r v g (inl h) = subst P (sym h.1) (steps w e g)
  comes w e r v g (inr h) = subst P (sym h.1) g

  pub runs : (w : World) (es : List Event) (rs : List Report) (v : World) → P w → Runs w es rs v → P v
  runs w [] [] v g h = subst P (sym h) g
  runs w (e ∷ es) (r ∷ rs) v g h = runs h.0 es rs v (comes w e r h.0 g h.1) h.2
  runs w _ _ v g h = absurd h

  pub always_kept : (Holds : World → Type 0) → ((cs : List (Name × Setup)) → P (opening cs)) → ((w : World) → P w → Holds w) → Always Holds
  always_kept Holds opens f cs es rs w h = f w (runs (opening cs) es rs w (opens cs) h)

pub always : (Holds : World → Type 0) → ((cs : List (Name × Setup)) → Good (opening cs)) → ((w : World) → Good w → Holds w) → Always Holds
always = always_kept Good (λ w e g. good_step_at w (node_of w.nodes (node_name e)) e refl g)

pub events_run : (es : List Event) (w : World) → (rs : List Report) × Runs w es rs (run es w)
events_run [] w = ([], refl)
events_run (e ∷ es) w =
    let r = events_run es ((step w e).world) in
    ((step w e).report ∷ r.0, ((step w e).world, inl (refl, refl), r.1))

pub moments : (es fs : List Event) (rs : List Report) (w v : World) → Runs w (es ++ fs) rs v → (earlier : List Report)
    × (later : List Report) × (now : World) × (rs ≡ earlier ++ later) × Runs w es earlier now × Runs now fs later v
moments [] fs rs w v h = ([], rs, w, refl, refl, h)
moments (e ∷ es) fs [] w v h = absurd h
moments (e ∷ es) fs (r ∷ rs) w v h =
    let m = moments es fs rs h.0 v h.2 in
    (r ∷ m.0, m.1, m.2, ap (λ l. r ∷ l) m.3, (h.0, h.1, m.4), m.5)

-- a refusal changes nothing
abbrev Unchanged : World → Stepped → Type 0
Unchanged w s = (r : Refusal) → s.report ≡ Refused r → s.world ≡ w

unchanged_ends : (w : World) (x : Name) (m : FinMap place_cmp (List Item)) (o : Outcome) → Unchanged w (came_of w x m o)
unchanged_ends w x m (Refuses k) r h = refl
unchanged_ends w x m (Accepts a o) r h = cc

unchanged_at : (w : World) (o : Option Node) (e : Event) → Unchanged w (step_at w o e)
unchanged_at w None e = λ r h. refl
unchanged_at w (Some n) e = unchanged_ends w (node_name e) (left w e) (at_node w.names n (met w e))

pub refused_unchanged : (w v : World) (e : Event) (r : Refusal) → Goes w e (Refused r) v → v ≡ w
refused_unchanged w v e r (inl h) = h.1 ∙ unchanged_at w (node_of w.nodes (node_name e)) e r (sym h.0)
refused_unchanged w v e r (inr h) = h.1
