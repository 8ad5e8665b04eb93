-- What is planned of an arrival can be carried out, and the node still keeps what any node does.
use Rattle.std.proofs.Common.{◌≡◌, ℕ, Bool, true, false, cond, OnOk, Option, None, Some}
use Rattle.std.proofs.Common.{List, [], Result, Ok, Err, refl, sym, ap, subst, ◌∙◌}
use Rattle.std.specs.FinMap as fm
use Rattle.conn_core.specs.declared.arrival.Fault.{Fault}
use Rattle.dist_model.proofs.KeepCounted.{counted_kept}
use Rattle.dist_model.proofs.KeepSteady.{steady_kept}
use Rattle.dist_model.proofs.Keys.{same_name_is}
use Rattle.dist_model.specs.Arrivals.{arrive}
use Rattle.dist_model.specs.Commands.{Accepts, Outcome, Refuses}
use Rattle.dist_model.specs.Handshake.{set_state}
use Rattle.dist_model.specs.Items.{Item, Tick}
use Rattle.dist_model.specs.Keeping.{ComesOfOthers, CountsOwn, Steady}
use Rattle.dist_model.specs.Losses.{lose, lose_at}
use Rattle.dist_model.specs.Node.{Node}
use Rattle.dist_model.specs.NodeEvents.{Arrive, Lose, NodeEvent, at_node, if_up}
use Rattle.dist_model.specs.Sides as state
use Rattle.dist_model.specs.Sides.{State, TrunkSide, is_over, lost}
use Rattle.dist_model.specs.Work.{Work, at_work}
use Rattle.dist_model.specs.declared.report.Answer.{Answer}
use Rattle.erl_handshake.specs.declared.fault.ShakeFault.{ShakeFault}
use Rattle.erl_names.specs.declared.trunk.TrunkId.{TrunkId}
use Rattle.erl_term.specs.declared.refusal.Refusal.{Refusal}
use Rattle.node_connections.specs.Coming.{PlansBytes, comes}
use Rattle.node_connections.specs.Fronts.{Front, Begins, Holds, Spoils}
use Rattle.node_core.proofs.NodeKept.{comes_of_none}
use Rattle.node_core.specs.Arrived.{arrives, is_undialed, without_len}
use Rattle.node_core.specs.Staying.{Stays}
use Rattle.node_plan.specs.Planned.{IsPlanned, Plans}
use Rattle.node_plan.specs.declared.plan.Plan.{Plan}

pub same_work : (a b : Answer) (v w : Work) → Accepts a v ≡ Accepts b w → v ≡ w
same_work a b v w h = cc

pub refused_or : (why : Refusal) (a : Answer) (w : Work) {A : Type 0} → Refuses why ≡ Accepts a w → A
refused_or why a w h = cc

same_trunk : (t u : TrunkId) (x y : Option Item) (v w : ℕ) → Arrive t x v ≡ Arrive u y w → t ≡ u
same_trunk t u x y v w h = cc

not_both : {A : Type 0} (b : Bool) → b ≡ false → b ≡ true → A
not_both b h k = cc

no_error : (len : ℕ) → ◌≡◌ {A = Result ℕ Refusal} (Ok len) (Err Refusal.NotLive) → ⊥
no_error len h = cc

no_plan : (u : Unit {0}) (e : Refusal) → ◌≡◌ {A = Result (Unit {0}) Refusal} (Ok u) (Err e) → ⊥
no_plan u e h = cc

no_item : (trunk t : TrunkId) (item : Item) (v word : ℕ) → Arrive trunk None v ≡ Arrive t (Some item) word → ⊥
no_item trunk t item v word h = cc

not_lost : (trunk t : TrunkId) (item : Item) (word : ℕ) → Lose trunk ≡ Arrive t (Some item) word → ⊥
not_lost trunk t item word h = cc

module _ (m : Node) (plan : Plan) (steady : Steady m) (counts : CountsOwn m) (up : m.up ≡ true) where
  runs : (due : Outcome) → if_up m due ≡ due
  runs due = ap (λ b. cond b due (Refuses Refusal.NodeDown)) up

  -- another event would do the same
  stays_as : (event : NodeEvent) (answer : Answer) (due : Outcome) → ComesOfOthers m event → (h : IsPlanned m due plan)
      → at_node [] m event ≡ Accepts answer h.work → Stays plan m
  stays_as event answer due others h same = record {
    sound = h.makes.sound;
    sides = h.makes.sides;
    dials = h.makes.dials;
    steady = subst Steady h.makes.node (steady_kept [] m event answer h.work steady same);
    counted = subst CountsOwn h.makes.node (counted_kept [] m event answer h.work same counts others);
  }

  module _ (trunk : TrunkId) (word : ℕ) where
    others : (item : Item) (side : Option TrunkSide) → fm.get m.sides trunk ≡ side → is_undialed m trunk side ≡ false
        → ComesOfOthers m (Arrive trunk (Some item) word)
    others item side e dialed = λ t comes own none.
        let same = same_trunk trunk t (Some item) (Some comes.0) word comes.1 comes.2 in
        let missing : fm.get m.sides trunk ≡ None = subst (λ u. fm.get m.sides u ≡ None) (sym same) none in
        let of_none : is_undialed m trunk None ≡ false = subst (λ d. is_undialed m trunk d ≡ false) (sym e ∙ missing) dialed in
        not_both _ of_none (same_name_is trunk.dialer m.mint.name (ap (λ (u : TrunkId). u.dialer) same ∙ own))

    -- what spoils a side does the same as its loss
    loses : (why : Fault) (side : TrunkSide) (s : State) (a : Answer) (w : Work)
        → cond (is_over s) (Refuses Refusal.NotLive) (Accepts (Answer.Broken why) (set_state trunk side (lost s) (at_work m))) ≡ Accepts a w
        → lose_at s trunk side (at_work m) ≡ Accepts Answer.Done w
    loses why side state.Losing a w h = cc
    loses why side state.Gone a w h = cc
    loses why side _ a w h = ap (Accepts Answer.Done) (same_work _ _ _ _ h)

    pub stays_at : (front : Front) (side : Option TrunkSide) → fm.get m.sides trunk ≡ side → is_undialed m trunk side ≡ false
        → IsPlanned m (comes m trunk side front word) plan → Stays plan m
    stays_at Begins side e dialed h =
        stays_as (Arrive trunk None word) h.answer _ (comes_of_none m (Arrive trunk None word) (λ t item v. no_item trunk t item word v)) h
        (runs _ ∙ ap (λ d. arrive m trunk d None word) e ∙ h.accepts)
    stays_at (Holds item len) side e dialed h =
        stays_as (Arrive trunk (Some item) word) h.answer _ (others item side e dialed) h
        (runs _ ∙ ap (λ d. arrive m trunk d (Some item) word) e ∙ h.accepts)
    stays_at (Spoils why) None e dialed h =
        stays_as (Arrive trunk (Some Tick) word) (Answer.Broken (Fault.Shake ShakeFault.BadMessage)) _ (others Tick None e dialed) h
        (runs _ ∙ ap (λ d. arrive m trunk d (Some Tick) word) e
        ∙ ap (Accepts (Answer.Broken (Fault.Shake ShakeFault.BadMessage))) (same_work _ _ _ _ h.accepts))
    stays_at (Spoils why) (Some side) e dialed h =
        stays_as (Lose trunk) Answer.Done _ (comes_of_none m (Lose trunk) (not_lost trunk)) h
        (runs _ ∙ ap (λ d. lose m trunk d) e ∙ loses why side side.state h.answer h.work h.accepts)

    -- an arrival that was planned
    pub stays_taken : (bytes : List ℕ) (taken : Result ℕ Refusal)
        → (is_undialed m trunk (fm.get m.sides trunk) ≡ true → taken ≡ Err Refusal.NotLive)
        → (is_undialed m trunk (fm.get m.sides trunk) ≡ false
        → PlansBytes m (fm.get m.sides trunk) bytes (λ front. comes m trunk (fm.get m.sides trunk) front word) plan taken)
        → OnOk (without_len taken) (Stays plan m)
    stays_taken bytes (Err e) undialed came = tt
    stays_taken bytes (Ok len) undialed came = go (is_undialed m trunk (fm.get m.sides trunk)) refl
      where
        go : (b : Bool) → is_undialed m trunk (fm.get m.sides trunk) ≡ b → Stays plan m
        go true e = absurd (no_error len (undialed e))
        go false e = let h = came e in stays_at h.front (fm.get m.sides trunk) refl e h.plans.0

-- whether the node runs or not
pub by_up : (m : Node) (trunk : TrunkId) (bytes : List ℕ) (word : ℕ) (plan : Plan) (taken : Result ℕ Refusal) → Steady m → CountsOwn m
    → (m.up ≡ false → taken ≡ Err Refusal.NodeDown)
    → (m.up ≡ true → is_undialed m trunk (fm.get m.sides trunk) ≡ true → taken ≡ Err Refusal.NotLive)
    → (m.up ≡ true → is_undialed m trunk (fm.get m.sides trunk) ≡ false
    → PlansBytes m (fm.get m.sides trunk) bytes (λ front. comes m trunk (fm.get m.sides trunk) front word) plan taken)
    → OnOk (without_len taken) (Stays plan m)
by_up m trunk bytes word plan taken steady counts down undialed came = go m.up refl
  where
    go : (b : Bool) → m.up ≡ b → OnOk (without_len taken) (Stays plan m)
    go true up = stays_taken m plan steady counts up trunk word bytes taken (undialed up) (came up)
    go false e = let P : Result ℕ Refusal → Type 0 = (λ r. OnOk (without_len r) (Stays plan m)) in subst P (sym (down e)) tt

-- ---- what is planned at a node that runs

-- so many bytes are taken, unless memory was wanting
abbrev pub with_len : Result (Unit {0}) Refusal → Result ℕ Refusal → Result ℕ Refusal
with_len (Ok done) taken = taken
with_len (Err e) taken = Err e

module _ (m : Node) (trunk : TrunkId) (bytes : List ℕ) (word : ℕ) (plan : Plan) (up : m.up ≡ true) where
  abbrev due : Front → Outcome
  due front = comes m trunk (fm.get m.sides trunk) front word

  at_running : (front : Front) (planned : Result (Unit {0}) Refusal) → Plans m (due front) plan planned
      → Plans m (arrives m trunk front word) plan planned
  at_running front planned h =
      let P : Outcome → Type 0 = (λ x. Plans m x plan planned) in
      subst P (sym (ap (λ b. cond b (due front) (Refuses Refusal.NodeDown)) up)) h

  arrived : (taken : Result ℕ Refusal) (settled : Result (Unit {0}) Refusal)
      → PlansBytes m (fm.get m.sides trunk) bytes due plan taken
      → ((x : Outcome) → Plans m x plan (without_len taken) → Plans m x plan settled)
      → ((e : Refusal) → without_len taken ≡ Err e → settled ≡ Err e)
      → PlansBytes m (fm.get m.sides trunk) bytes (λ front. arrives m trunk front word) plan (with_len settled taken)
  arrived (Ok len) (Ok done) h s r = record {
    front = h.front;
    is = h.is;
    plans = (s (arrives m trunk h.front word) (at_running h.front (Ok tt) h.plans.0), h.plans.1);
  }
  arrived (Ok len) (Err f) h s r = record {
    front = h.front;
    is = h.is;
    plans = s (arrives m trunk h.front word) (at_running h.front (Ok tt) h.plans.0);
  }
  arrived (Err e) (Ok done) h s r = absurd (no_plan done e (r e refl))
  arrived (Err e) (Err f) h s r = record {
    front = h.front;
    is = h.is;
    plans = s (arrives m trunk h.front word) (at_running h.front (Err e) h.plans);
  }

  -- as it is answered
  pub came_as : (taken : Result ℕ Refusal) (made settled : Result (Unit {0}) Refusal) (result : Result ℕ Refusal) → made ≡ without_len taken
      → PlansBytes m (fm.get m.sides trunk) bytes due plan taken → ((x : Outcome) → Plans m x plan made → Plans m x plan settled)
      → ((e : Refusal) → made ≡ Err e → settled ≡ Err e) → with_len settled taken ≡ result
      → PlansBytes m (fm.get m.sides trunk) bytes (λ front. arrives m trunk front word) plan result
  came_as taken made settled result is h s r same =
      subst (λ q. PlansBytes m (fm.get m.sides trunk) bytes (λ front. arrives m trunk front word) plan q) same
      (arrived taken settled h (λ x k. s x (subst (λ q. Plans m x plan q) (sym is) k)) (λ e k. r e (is ∙ k)))
