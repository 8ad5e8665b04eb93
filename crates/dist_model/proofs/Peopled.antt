-- Which processes a node keeps: while it is up those of its creation that it has spawned, living or ended, and none while it is down.
use Rattle.erl_names.specs.Draw as kind
use Rattle.erl_names.specs.Draw.{Draw}
use Rattle.std.proofs.Common.{◌≡◌, ℕ, ◌+◌, Bool, true, false, cond, not, List, [], ◌∷◌, ◌++◌, ◌⊎◌, inl, inr, refl, sym, ap}
use Rattle.std.proofs.Common.{append-nil, append_assoc, ◌∙◌, subst, arith, ◌==◌, nat_lt, ◌^◌, ◌&&◌, ◌||◌, Option, Some, None}
use Rattle.std.proofs.lemmas.Option.{same_Some}
use Rattle.std.specs.Option.{is_some}
use Rattle.std.specs.FinMap as fm
use Rattle.std.specs.FinMap.{FinMap}
use Rattle.dist_model.proofs.Calls.{IfGoes, by_test, if_cond, if_drawn, if_not, next_pid}
use Rattle.dist_model.proofs.Calls.{pid_drawn, spawned_at, spawned_living, spawned_never}
use Rattle.dist_model.proofs.Comings.{five}
use Rattle.dist_model.proofs.EndOfProcess.{buried_living}
use Rattle.dist_model.proofs.HandshakeParts.{Turned, fresh_kept, known_kept, lose_kept}
use Rattle.dist_model.proofs.Keys.{pid_total, same_name_is, same_name_true, same_pid_true}
use Rattle.dist_model.proofs.Moves.{set_life_living, living_received}
use Rattle.dist_model.proofs.Routes.{node_of_name, node_of_set_other, node_of_set_same}
use Rattle.dist_model.proofs.Run.{always}
use Rattle.dist_model.proofs.Safety.{good_opening, new_is}
use Rattle.dist_model.proofs.Sides.{side_at}
use Rattle.dist_model.proofs.Trunks.{Good}
use Rattle.dist_model.proofs.Views.{post_keeps}
use Rattle.dist_model.proofs.OneStep.{arrives_then, while_up_then}
use Rattle.dist_model.specs.NodeEvents.{if_up}
use Rattle.dist_model.specs.Arrivals.{take_local, arrive_at, arrive_fresh, handshake_in}
use Rattle.dist_model.specs.Calls.{call, spawn_life}
use Rattle.dist_model.specs.Claims.{DownHoldsNothing, Grows, LivingMeans, SpawnedLivesOrEnded}
use Rattle.dist_model.specs.Commands.{Accepts, Outcome, Refuses}
use Rattle.dist_model.specs.declared.command.Command.{Command}
use Rattle.dist_model.specs.Dialing.{dial, has_name}
use Rattle.dist_model.proofs.LastSignals.{exits_in}
use Rattle.dist_model.specs.Exits.{demonitors, end_process, monitor_exits}
use Rattle.dist_model.specs.Handshake.{set_state, with_side, write}
use Rattle.dist_model.specs.Incarnations.{start, started, stop, stopped}
use Rattle.dist_model.specs.Items.{Item}
use Rattle.dist_model.proofs.Records.{has_records}
use Rattle.dist_model.proofs.Truths.{not_both}
use Rattle.dist_model.proofs.KeepParts.{Parts, call_keeps, item_keeps, record_keeps}
use Rattle.dist_model.specs.Losses.{any_side, close_side, lose, released_by, release_parked, sweep, sweep_by, least_record, sweep_record}
use Rattle.dist_model.specs.Names.{Name, same_name, same_pid, place_cmp}
use Rattle.dist_model.specs.Node.{Ended, Life, Living, Node, is_living_life, living, is_stranger, route, side_where}
use Rattle.dist_model.specs.Runs.{Always, Goes, Runs, new_node, opening}
use Rattle.dist_model.specs.Sides.{in_state, Accepting, Gone, Parked, State, TrunkSide, is_gone, is_losing, is_parked}
use Rattle.dist_model.specs.Work.{Addressed, Work, at_work, delivered, draw, keep_local, post, post_all, post_to, put, send_on, set_life, spelled}
use Rattle.dist_model.specs.World.{Arrive, Call, Dial, Event, Local, Lose, Report, Start, Stepped}
use Rattle.dist_model.specs.World.{Stop, Sweep, World, came_of, node_name, node_of, set_node, step_at}
use Rattle.erl_handshake.specs.declared.message.ShakeMsg.{ShakeMsg}
use Rattle.erl_names.specs.Ids.{pid_of}
use Rattle.erl_names.specs.Minted.{id_of}
use Rattle.erl_names.specs.declared.trunk.TrunkId.{TrunkId}
use Rattle.erl_term.specs.Data.{Data}
use Rattle.erl_term.specs.Order.{pid_cmp}
use Rattle.erl_term.specs.declared.refusal.Refusal.{Refusal}
use Rattle.erl_term.specs.declared.term.Pid.{Pid}
use Rattle.erl_handshake.specs.declared.setup.Setup.{Setup}

pub record Peopled (n : Node) : Type 0 where
  pub alive : (p : Pid) → living n p ≡ true → (n.up ≡ true) × (p.creation ≡ n.mint.creation)
  pub kept : (p : Pid) → n.up ≡ true → p.creation ≡ n.mint.creation → is_stranger n p ≡ false → is_some (fm.get n.lives p) ≡ true
  pub down : n.up ≡ false
      → (n.lives ≡ fm.empty) × (n.names ≡ fm.empty) × (n.ends ≡ fm.empty) × (n.watches ≡ fm.empty) × (n.registered ≡ fm.empty)

-- what becomes of a node's processes where none is spawned: those that it keeps it goes on to keep, and none comes to life;
-- and its own list goes on from l
pub record Lasts (n : Node) (l : List Item) (m : Node) : Type 0 where
  pub up : m.up ≡ n.up
  pub name : m.mint.name ≡ n.mint.name
  pub creation : m.mint.creation ≡ n.mint.creation
  pub pids : m.mint.pids ≡ n.mint.pids
  pub keeps : (p : Pid) → is_some (fm.get n.lives p) ≡ true → is_some (fm.get m.lives p) ≡ true
  pub dies : (p : Pid) → living m p ≡ true → living n p ≡ true
  pub grows : Grows l m.local

some_cond : (b : Bool) (l : Life) (o : Option Life) → is_some o ≡ true → is_some (cond b (Some l) o) ≡ true
some_cond true l o h = refl
some_cond false l o h = h

keeps_set : (m : FinMap pid_cmp Life) (p : Pid) (l : Option Life) (x : Pid) → is_some (fm.get m x) ≡ true
    → is_some (fm.get (set_life m p l) x) ≡ true
keeps_set m p None x h = h
keeps_set m p (Some l) x h = ap is_some (fm.get-insert pid_total m p l x) ∙ some_cond (same_pid x p) l (fm.get m x) h

ended_dies : (b : Bool) (r : Data) (l : Option Life) → is_living_life (cond b (Some (Ended r)) l) ≡ true → is_living_life l ≡ true
ended_dies true r l h = cc
ended_dies false r l h = h

-- what is posted goes to the end of the own list, or elsewhere
grows_on : (l m k : List Item) → Grows l m → Grows m k → Grows l k
grows_on l m k a b = (a.0 ++ b.0, b.1 ∙ ap (λ z. z ++ b.0) a.1 ∙ append_assoc l a.0 b.0)

pub no_more : (l : List Item) → Grows l l
no_more l = ([], sym (append-nil l))

posted_local : (y : Name) (i : Item) (o : Work) → Grows o.node.local ((post_to y i o).node.local)
posted_local y i o = go (same_name y o.node.mint.name)
  where
    elsewhere : (t : Option TrunkId) → Grows o.node.local ((send_on t y i o).node.local)
    elsewhere None = no_more o.node.local
    elsewhere (Some t) = no_more o.node.local

    go : (b : Bool) → Grows o.node.local ((cond b (keep_local i o) (send_on (route o.node y) y i o)).node.local)
    go true = (i ∷ [], refl)
    go false = elsewhere (route o.node y)

module _ (n : Node) (l : List Item) where
  abbrev pub X : Work → Type 0
  X o = Lasts n l o.node

  -- what a part of an event changes beside the processes
  aside : (a b : Node) → b.up ≡ a.up → b.mint.name ≡ a.mint.name → b.mint.creation ≡ a.mint.creation → b.mint.pids ≡ a.mint.pids
      → b.lives ≡ a.lives → Grows a.local b.local → Lasts n l a → Lasts n l b
  aside a b u m c i e g k = record {
    up = u ∙ k.up;
    name = m ∙ k.name;
    creation = c ∙ k.creation;
    pids = i ∙ k.pids;
    keeps = λ p h. ap (λ z. is_some (fm.get z p)) e ∙ k.keeps p h;
    dies = λ p h. k.dies p (sym (ap (λ z. is_living_life (fm.get z p)) e) ∙ h);
    grows = grows_on l a.local b.local k.grows g;
  }

  posted : (s : Addressed) (o : Work) → X o → X (post s o)
  posted s o = aside o.node ((post s o).node)
      (post_keeps (λ m. m.up) (λ m l. refl) s.node (spelled o.node s) o)
      (post_keeps (λ m. m.mint.name) (λ m l. refl) s.node (spelled o.node s) o)
      (post_keeps (λ m. m.mint.creation) (λ m l. refl) s.node (spelled o.node s) o)
      (post_keeps (λ m. m.mint.pids) (λ m l. refl) s.node (spelled o.node s) o)
      (post_keeps (λ m. m.lives) (λ m l. refl) s.node (spelled o.node s) o)
      (posted_local s.node (spelled o.node s) o)

  posted_all : (ss : List Addressed) (o : Work) → X o → X (post_all ss o)
  posted_all [] o k = k
  posted_all (s ∷ ss) o k = posted_all ss (post s o) (posted s o k)

  lived : (p : Pid) (v : Option Life) (o : Work) → is_living_life v ≡ living o.node p → X o
      → X (record o { node = record (o.node) { lives = set_life o.node.lives p v } })
  lived p v o h k = record {
    up = k.up;
    name = k.name;
    creation = k.creation;
    pids = k.pids;
    keeps = λ x i. keeps_set o.node.lives p v x (k.keeps x i);
    dies = λ x i. k.dies x (sym (set_life_living o.node.lives p v x (λ e. h ∙ ap (living o.node) (sym (same_pid_true x p e)))) ∙ i);
    grows = k.grows;
  }

  putted : (p : Pid) (m : Data) (o : Work) → X o → X (put p m o)
  putted p m o k = let v = lived p (delivered (fm.get o.node.lives p) m) o (living_received (fm.get o.node.lives p) m) k in
      record { up = v.up; name = v.name; creation = v.creation; pids = v.pids; keeps = v.keeps; dies = v.dies; grows = v.grows }

  finished : (p : Pid) (x : Data) (o : Work) → X o → X (end_process p x o)
  finished p x o k =
      let ss = exits_in p x (fm.entries o.node.ends) ++ monitor_exits p x (fm.entries o.node.registered) ++ demonitors p
      (fm.entries o.node.watches) in
      let v = posted_all ss o k in
      let a = post_all ss o in
      record {
        up = v.up;
        name = v.name;
        creation = v.creation;
        pids = v.pids;
        keeps = λ q i. ap is_some (fm.get-insert pid_total a.node.lives p (Ended x) q)
            ∙ some_cond (same_pid q p) (Ended x) (fm.get a.node.lives q) (v.keeps q i);
        dies = λ q i. v.dies q (ended_dies (same_pid q p) x (fm.get a.node.lives q) (sym (buried_living p x a q) ∙ i));
        grows = v.grows;
      }

  drawn : (d : Draw) (o : Work) → (d ≡ kind.Pid → ⊥) → X o → X (draw d o)
  drawn kind.Pid o h k = absurd (h refl)
  drawn _ o h k = aside o.node _ refl refl refl refl refl (no_more o.node.local) k

  parts : Parts X
  parts = record {
    posted = posted;
    end_set = λ p q e o l k. aside o.node _ refl refl refl refl refl (no_more o.node.local) k;
    drew = drawn;
    life_set = lived;
    renamed = λ m o h k. aside o.node _ refl refl refl refl refl (no_more o.node.local) k;
    message = putted;
    reacted = λ p q x o k. k;
    finished = finished;
    registers = λ r m o l k. aside o.node _ refl refl refl refl refl (no_more o.node.local) k;
    unregisters = λ r o k. aside o.node _ refl refl refl refl refl (no_more o.node.local) k;
    watches = λ r m o l k. aside o.node _ refl refl refl refl refl (no_more o.node.local) k;
    unwatches = λ r o k. aside o.node _ refl refl refl refl refl (no_more o.node.local) k;
  }

  sided : (t : TrunkId) (s : TrunkSide) (o : Work) → X o → X (with_side t s o)
  sided t s o k = aside o.node _ refl refl refl refl refl (no_more o.node.local) k

  pub turned : (t : TrunkId) (s : TrunkSide) (o : Work) → Turned o.node t s → X o → X (with_side t s o)
  turned t s o h k = sided t s o k

  pub wrote : (t : TrunkId) (y : Name) (m : ShakeMsg) (o : Work) → X o → X (write t y m o)
  wrote t y m o k = k

  module _ (start : Lasts n l n) where
    pub called : (c : Command) → (c ≡ Command.Spawn → ⊥) → IfGoes (call n c) X
    called c ns = call_keeps X parts n c (λ s p. absurd (ns s)) start

    -- ---- what comes

    pub fresh_arrived : (t : TrunkId) (i : Item) (k : ℕ) → side_at n t ≡ None → IfGoes (arrive_fresh (handshake_in i) t k (at_work n)) X
    fresh_arrived t i k h =
        fresh_kept (λ u y. Unit {0}) X (λ u s o c r. turned u s o c) (λ u y m o v. wrote u y m o) t tt (handshake_in i) k
        (at_work n) h start

    pub known_arrived : (t : TrunkId) (v : TrunkSide) (i : Item) → side_at n t ≡ Some v
        → IfGoes (arrive_at (handshake_in i) t v i (at_work n)) X
    known_arrived t v i h =
        known_kept (λ u y. Unit {0}) X (λ u s o c r. turned u s o c) (λ u y m o v. wrote u y m o) t v (at_work n) h start i
        (λ u g. item_keeps X parts v.peer i (at_work n) start) (handshake_in i)

    -- ---- connections

    pub dialed : (names : List Name) (y : Name) (k : ℕ) → IfGoes (dial names n y k) X
    dialed names y k = if_not (same_name y n.mint.name) _ Refusal.SelfDial X (if_not (not (has_name y names)) _ Refusal.NothingThere X
        (if_not (is_some (side_where (λ v. not (is_gone v)) y (fm.entries n.sides))) _ Refusal.Busy X
        (if_not (not (nat_lt (n.dialed + 1) (2 ^ 64))) _ Refusal.IdsUsedUp X
        (aside n _ refl refl refl refl refl (no_more n.local) start))))

    unparked_by : (v : State) (t : TrunkId) (s : TrunkSide) (o : Work) → X o → X (released_by v t s o)
    unparked_by (Parked w) t s o k = sided t (in_state (Accepting w) s) o k
    unparked_by _ t s o k = k

    unparked : (d : Option (TrunkId × TrunkSide)) (o : Work) → X o → X (release_parked d o)
    unparked None o k = k
    unparked (Some e) o k = unparked_by e.1.state e.0 e.1 o k

    closes : (b : Bool) (t : TrunkId) (s : TrunkSide) (o : Work) → X o → X (cond b o (close_side t s o))
    closes true t s o k = k
    closes false t s o k = let o1 = set_state t s Gone o in unparked (side_where is_parked s.peer (fm.entries o1.node.sides)) o1
        (sided t (in_state Gone s) o k)

    pub sweeps : (d : Option (TrunkId × TrunkSide)) → IfGoes (sweep_by d (at_work n)) X
    sweeps None = tt
    sweeps (Some d) =
        let y = d.1.peer in
        let o1 = sweep_record (least_record y n) (at_work n) in
        closes (has_records y o1.node) d.0 d.1 o1 (record_keeps X parts y (at_work n) start)

  -- the first item of the own list is taken, and l is the rest
  pub own_taken : (i : Item) → IfGoes (take_local n (i ∷ l)) X
  own_taken i = item_keeps X parts n.mint.name i (at_work (record n { local = l }))
      (record { up = refl; name = refl; creation = refl; pids = refl; keeps = λ p h. h; dies = λ p h. h; grows = no_more l })

-- no event yet
pub begin : (n : Node) → Lasts n n.local n
begin n = record { up = refl; name = refl; creation = refl; pids = refl; keeps = λ p h. h; dies = λ p h. h; grows = no_more n.local }

-- ---- each event keeps it

never_as : (n m : Node) (l : List Item) → Lasts n l m → (p : Pid) → is_stranger m p ≡ is_stranger n p
never_as n m l k p = λ i. not (same_name p.node (k.name i)) || nat_lt (k.creation i) p.creation
    || (p.creation == k.creation i && nat_lt (k.pids i) p.id) || p.id == 0 || not (p.serial == 0)

-- a node that is up
module _ (n : Node) (u : n.up ≡ true) (g : Peopled n) where
  lasting : (l : List Item) (o : Work) → Lasts n l o.node → Peopled o.node × (o.node.mint.name ≡ n.mint.name)
  lasting l o k = (
    record {
      alive = λ p l. let v = g.alive p (k.dies p l) in (k.up ∙ v.0, v.1 ∙ sym k.creation);
      kept = λ p h c b. k.keeps p (g.kept p u (c ∙ k.creation) (sym (never_as n o.node l k p) ∙ b));
      down = λ h. not_both o.node.up (k.up ∙ u) h;
    },
    k.name,
  )

  abbrev Well : Outcome → Type 0
  Well o = IfGoes o (λ a. Peopled a.node × (a.node.mint.name ≡ n.mint.name))

  lasts_well : (l : List Item) (o : Outcome) → IfGoes o (λ a. Lasts n l a.node) → Well o
  lasts_well l (Refuses j) k = tt
  lasts_well l (Accepts a o) k = lasting l o k

  spawned : Well (call n Command.Spawn)
  spawned = if_drawn (id_of n.mint kind.Pid) _ (λ a. Peopled a.node × (a.node.mint.name ≡ n.mint.name)) (λ id h.
      let d = pid_drawn n.mint id h in
      subst (λ j. Peopled ((spawn_life n (pid_of n.mint j)).node) × ((spawn_life n (pid_of n.mint j)).node.mint.name ≡ n.mint.name))
      (sym d.1)
      (subst (λ m. Peopled (record n { mint = m; lives = fm.insert n.lives (next_pid n) (Living false []) }) × (m.name ≡ n.mint.name))
      (sym d.0) (
        record {
          alive = λ p l. by_test _ (same_pid p (next_pid n))
              (λ i. (u, ap (λ (z : Pid). z.creation) (same_pid_true p (next_pid n) i)))
              (λ i. g.alive p (sym (other_living p i) ∙ l));
          kept = λ p hu c b. ap is_some (fm.get-insert pid_total n.lives (next_pid n) (Living false []) p)
              ∙ by_test _ (same_pid p (next_pid n))
              (λ i. ap (λ z. is_some (cond z (Some (Living false [])) (fm.get n.lives p))) i)
              (λ i. ap (λ z. is_some (cond z (Some (Living false [])) (fm.get n.lives p))) i
              ∙ g.kept p hu c (sym (spawned_never n p i) ∙ b));
          down = λ h. not_both n.up u h;
        },
        refl,
      )))
    where
      other_living : (p : Pid) → same_pid p (next_pid n) ≡ false → living ((spawned_at n (next_pid n)).node) p ≡ living n p
      other_living p i = spawned_living n p ∙ ap (λ z. is_living_life (cond z (Some (Living false [])) (fm.get n.lives p))) i

  other_call : (c : Command) → (c ≡ Command.Spawn → ⊥) → Well (call n c)
  other_call c ns = lasts_well n.local (call n c) (called n n.local (begin n) c ns)

  any_call : (c : Command) → Well (call n c)
  any_call Command.Spawn = spawned
  any_call c = other_call c (λ i. cc)

-- nobody is living where no process is kept
nobody : (n : Node) (p : Pid) → n.lives ≡ fm.empty → living n p ≡ true → ⊥
nobody n p e l = let c : false ≡ true = sym (ap is_living_life (ap (λ z. fm.get z p) e ∙ fm.get-empty pid_cmp p)) ∙ l in cc

-- of an incarnation that has spawned nobody each process is to come
unspawned : (n : Node) (p : Pid) → n.mint.pids ≡ 0 → p.creation ≡ n.mint.creation → is_stranger n p ≡ false → ⊥
unspawned n p z c b =
    let v = five (not (same_name p.node n.mint.name)) (nat_lt n.mint.creation p.creation)
    (p.creation == n.mint.creation && nat_lt n.mint.pids p.id) (p.id == 0) (not (p.serial == 0)) b in
    none n.mint.creation p.creation n.mint.pids p.id z c v.2 v.3
  where
    none : (a b m i : ℕ) → m ≡ 0 → b ≡ a → (b == a && nat_lt m i) ≡ false → (i == 0) ≡ false → ⊥
    none a b m i z c h k = grind arith

pub stopped_peopled : (n : Node) → Peopled (stopped n)
stopped_peopled n = record {
  alive = λ p l. absurd (nobody (stopped n) p refl l);
  kept = λ p h c b. cc;
  down = λ h.
      (refl, refl, refl, refl, refl);
}

pub started_peopled : (n : Node) → Peopled (started n)
started_peopled n = record {
  alive = λ p l. absurd (nobody (started n) p refl l);
  kept = λ p h c b. absurd
      (unspawned (started n) p refl c b);
  down = λ h. cc;
}

abbrev pub AllPeopled : List Node → Type 0
AllPeopled ns = (x : Name) (n : Node) → node_of ns x ≡ Some n → Peopled n

set_peopled : (ns : List Node) (x : Name) (n m : Node) → node_of ns x ≡ Some n → AllPeopled ns → Peopled m × (m.mint.name ≡ n.mint.name)
    → AllPeopled (set_node ns x m)
set_peopled ns x n m h g k y v hv =
    let e : m.mint.name ≡ x = k.1 ∙ node_of_name ns x n h in
    by_test _ (same_name x y)
    (λ i. subst Peopled (same_Some m v
    (sym (node_of_set_same ns x n m h e) ∙ ap (node_of (set_node ns x m)) (same_name_true x y i) ∙ hv)) k.0)
    (λ i. g y v (sym (node_of_set_other ns x y m e (λ j. not_both (same_name x y) (same_name_is x y j) i)) ∙ hv))

module _ (w : World) (g : AllPeopled w.nodes) where
  abbrev After : Stepped → Type 0
  After s = AllPeopled s.world.nodes

  ends : (x : Name) (n : Node) (m : FinMap place_cmp (List Item)) (o : Outcome) → node_of w.nodes x ≡ Some n
      → IfGoes o (λ a. Peopled a.node × (a.node.mint.name ≡ n.mint.name)) → After (came_of w x m o)
  ends x n m (Refuses j) h k = g
  ends x n m (Accepts a o) h k = set_peopled w.nodes x n o.node h g k

  module _ (x : Name) (n : Node) (h : node_of w.nodes x ≡ Some n) where
    up_well : (o : Outcome) → (n.up ≡ true → After (came_of w x w.lists o)) → After (came_of w x w.lists (if_up n o))
    up_well o f = while_up_then w x n After (λ r. g) w.lists o f

    comes : (t : TrunkId) (k : ℕ) → After (step_at w (Some n) (Arrive t x k))
    comes t k = arrives_then w x n After (λ r. g) t k
        (λ i is u first at. ends x n (fm.insert w.lists (t, x) is) (arrive_fresh (handshake_in i) t k (at_work n)) h
        (lasts_well n u (g x n h) n.local _ (fresh_arrived n n.local (begin n) t i k at)))
        (λ i is v u first at over. ends x n (fm.insert w.lists (t, x) is) (arrive_at (handshake_in i) t v i (at_work n)) h
        (lasts_well n u (g x n h) n.local _ (known_arrived n n.local (begin n) t v i at)))

    own : n.up ≡ true → (l : List Item) → After (came_of w x w.lists (take_local n l))
    own u [] = g
    own u (i ∷ rest) = ends x n w.lists (take_local n (i ∷ rest)) h
        (lasts_well n u (g x n h) rest (take_local n (i ∷ rest)) (own_taken n rest i))

  pub after : (o : Option Node) (e : Event) → node_of w.nodes (node_name e) ≡ o → After (step_at w o e)
  after None e h = g
  after (Some n) (Call x c) h = up_well x n h _ (λ u. ends x n w.lists (call n c) h (any_call n u (g x n h) c))
  after (Some n) (Arrive t x k) h = comes x n h t k
  after (Some n) (Local x) h = up_well x n h _ (λ u. own x n h u n.local)
  after (Some n) (Lose t x) h = up_well x n h _
      (λ u. ends x n w.lists (lose n t (fm.get n.sides t)) h
      (lasts_well n u (g x n h) n.local (lose n t (fm.get n.sides t))
      (lose_kept (λ u y. Unit {0}) (X n n.local) (λ u s o c r. turned n n.local u s o c)
      (λ u y m o v. wrote n n.local u y m o) n t (fm.get n.sides t) refl (begin n))))
  after (Some n) (Sweep x) h = up_well x n h _
      (λ u. ends x n w.lists (sweep n) h
      (lasts_well n u (g x n h) n.local (sweep n) (sweeps n n.local (begin n) (any_side is_losing (fm.entries n.sides)))))
  after (Some n) (Dial x y k) h = up_well x n h _
      (λ u. ends x n w.lists (dial w.names n y k) h
      (lasts_well n u (g x n h) n.local (dial w.names n y k) (dialed n n.local (begin n) w.names y k)))
  after (Some n) (Stop x) h = up_well x n h _ (λ u. ends x n w.lists (stop n) h (stopped_peopled n, refl))
  after (Some n) (Start x) h = ends x n w.lists (start n) h
      (if_not n.up _ Refusal.NodeUp (λ a. Peopled a.node × (a.node.mint.name ≡ n.mint.name))
      (if_cond (nat_lt (n.mint.creation + 1) (2 ^ 32)) _ Refusal.IdsUsedUp (λ a. Peopled a.node × (a.node.mint.name ≡ n.mint.name))
      (λ b. (started_peopled n, refl))))

peopled_runs : (w : World) (es : List Event) (rs : List Report) (v : World) → AllPeopled w.nodes → Runs w es rs v → AllPeopled v.nodes
peopled_runs w [] [] v g h = subst (λ (z : World). AllPeopled z.nodes) (sym h) g
peopled_runs w [] (r ∷ rs) v g h = absurd h
peopled_runs w (e ∷ es) [] v g h = absurd h
peopled_runs w (e ∷ es) (r ∷ rs) v g h = peopled_runs h.0 es rs v (one h.1) h.2
  where
    one : Goes w e r h.0 → AllPeopled h.0.nodes
    one (inl c) = subst (λ (z : World). AllPeopled z.nodes) (sym c.1) (after w g (node_of w.nodes (node_name e)) e refl)
    one (inr c) = subst (λ (z : World). AllPeopled z.nodes) (sym c.1) g

pub peopled_opening : (cs : List (Name × Setup)) → AllPeopled ((opening cs).nodes)
peopled_opening cs x n h = let k = new_is cs cs x n h in subst Peopled (sym k.2) (new k.0 k.1)
  where
    new : (y : Name) (c : Setup) → Peopled (new_node y c)
    new y c = record {
      alive = λ p l. absurd (nobody (new_node y c) p refl l);
      kept = λ p u i b. absurd
          (unspawned (new_node y c) p refl i b);
      down = λ u. cc;
    }

always_peopled : (Holds : World → Type 0) → ((w : World) → Good w → AllPeopled w.nodes → Holds w) → Always Holds
always_peopled Holds f cs es rs w h = f w (always Good good_opening (λ v g. g) cs es rs w h)
    (peopled_runs (opening cs) es rs w (peopled_opening cs) h)

-- ---- the claims

pub living_means : Always LivingMeans
living_means = always_peopled LivingMeans (λ w g k x n p h l. let v = (k x n h).alive p l in (v.0, v.1, (g.core.nodes x n h).born p l))

pub spawned_lives_or_ended : Always SpawnedLivesOrEnded
spawned_lives_or_ended = always_peopled SpawnedLivesOrEnded (λ w g k x n p h u c b. go n p (fm.get n.lives p) refl ((k x n h).kept p u c b))
  where
    go : (n : Node) (p : Pid) (o : Option Life) → fm.get n.lives p ≡ o → is_some (fm.get n.lives p) ≡ true
        → (living n p ≡ true) ⊎ ((reason : Data) × (fm.get n.lives p ≡ Some (Ended reason)))
    go n p None e h = let c : false ≡ true = sym (ap is_some e) ∙ h in cc
    go n p (Some (Living t m)) e h = inl (ap is_living_life e)
    go n p (Some (Ended r)) e h = inr (r, e)

pub down_holds_nothing : Always DownHoldsNothing
down_holds_nothing = always_peopled DownHoldsNothing (λ w g k x n h d. (k x n h).down d)
