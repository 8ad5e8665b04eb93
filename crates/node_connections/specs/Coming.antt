-- What a node that runs does with what comes on a connection.
-- (ERTS User's Guide, Distribution Protocol.)
use Rattle.std.specs.Prelude.{◌≡◌, ℕ, Option, None, Some, true, false, if◌then◌else◌, List, Result, Ok, Err}
use Rattle.conn_core.specs.declared.arrival.Fault.{Fault}
use Rattle.conn_core.specs.declared.arrival.Taken.{Taken}
use Rattle.conn_core.specs.declared.arrival.Taken.TheVariants as taken
use Rattle.dist_model.specs.Arrivals.{arrive}
use Rattle.dist_model.specs.Commands.{Outcome, Refuses}
use Rattle.dist_model.specs.Handshake.{fault}
use Rattle.dist_model.specs.Items.{Item, Signalled, Tick}
use Rattle.dist_model.specs.Node.{Node}
use Rattle.dist_model.specs.Sides.{TrunkSide, is_over, unheard}
use Rattle.dist_model.specs.Work.{at_work}
use Rattle.erl_control.specs.declared.signal.Item.{Item as FrameItem}
use Rattle.erl_control.specs.declared.signal.Item.TheVariants as frame
use Rattle.erl_names.specs.declared.trunk.TrunkId.{TrunkId}
use Rattle.erl_term.specs.declared.refusal.Refusal.{Refusal}
use Rattle.node_connections.specs.Fronts.{Front, Begins, Holds, Spoils, IsFront, IsFrontIn, len_of}
use Rattle.node_frames.specs.Sendable.{is_sendable}
use Rattle.node_plan.specs.Planned.{IsPlanned, IsRefused, Plans}
use Rattle.node_plan.specs.declared.plan.Plan.{Plan}

-- what is no item breaks the side, and where there is none the attempt is over
abbrev pub spoils : Node → TrunkId → Option TrunkSide → Fault → Outcome
spoils m trunk None why = fault why trunk (unheard trunk) (at_work m)
spoils m trunk (Some side) why = if is_over side.state then Refuses Refusal.NotLive else fault why trunk side (at_work m)

abbrev pub comes : Node → TrunkId → Option TrunkSide → Front → (word : ℕ) → Outcome
comes m trunk side Begins word = arrive m trunk side None word
comes m trunk side (Holds item len) word = arrive m trunk side (Some item) word
comes m trunk side (Spoils why) word = spoils m trunk side why

-- ---- what is planned of it: the answer tells how many bytes were taken

abbrev pub PlansFront : Node → Outcome → Front → Plan → Result ℕ Refusal → Type 0
PlansFront m outcome front plan (Ok len) = IsPlanned m outcome plan × (len ≡ len_of front)
PlansFront m outcome front plan (Err e) = IsRefused outcome e

-- the bytes have such a front, and the plan, or the refusal, is what is due at it
pub record PlansBytes (m : Node) (side : Option TrunkSide) (bytes : List ℕ) (due : Front → Outcome) (plan : Plan)
    (result : Result ℕ Refusal) : Type 0 where
  pub front : Front
  pub is : IsFront side bytes front
  pub plans : PlansFront m (due front) front plan result

-- ---- what a side has judged: what a frame carries can be sent on, and so many bytes are taken

abbrev pub item_of : FrameItem → Item
item_of (frame.Signal signal) = Signalled signal false
item_of frame.Tick = Tick

abbrev pub CanBeSent : FrameItem → Type 0
CanBeSent (frame.Signal signal) = is_sendable signal ≡ true
CanBeSent frame.Tick = Unit {0}

abbrev pub IsItemSent : Taken → Type 0
IsItemSent (taken.Item item) = CanBeSent item
IsItemSent _ = Unit {0}

pub record PlansArrival (m : Node) (side : TrunkSide) (bytes : List ℕ) (due : Front → Outcome) (len : ℕ) (plan : Plan)
    (result : Result (Unit {0}) Refusal) : Type 0 where
  pub front : Front
  pub is : IsFrontIn side.state bytes front
  pub plans : Plans m (due front) plan result
  pub len_is : len ≡ len_of front
