-- What an event adds to a book, and what it is where none can be added.
use Rattle.std.specs.Prelude.{◌≡◌, ◌⊎◌, ℕ, Option, None, Some, Bool, false, List, [], ◌∷◌, ◌++◌, if◌then◌else◌, length, slice_get}
use Rattle.std.specs.Option.{option_map}
use Rattle.dist_model.specs.Dialing.{has_name}
use Rattle.dist_model.specs.Items.{Item}
use Rattle.dist_model.specs.Names.{Name}
use Rattle.dist_model.specs.Node as model
use Rattle.dist_model.specs.NodeEvents.{at_node}
use Rattle.erl_names.specs.declared.trunk.TrunkId.{TrunkId}
use Rattle.erl_term.specs.declared.refusal.Refusal.{Refusal}
use Rattle.node_core.specs.Model.{model_of}
use Rattle.node_history.specs.Entering.{Enters, IsWanting, Stays}
use Rattle.node_history.specs.Kinds.{comes_here}
use Rattle.node_history.specs.declared.history.History.{History}
use Rattle.node_lock.specs.Answers.{is_accepted, trunk_in}
use Rattle.node_lock.specs.Standing.{outlet_of}
use Rattle.node_lock.specs.declared.outlet.Outlet.{Outlet}
use Rattle.node_frames.specs.Frames.{IsSpelled, bytes_of}
use Rattle.node_lock.specs.Passing.{new_outlet}
use Rattle.wire_core.specs.Ports.{behind_first, first_of, with_slot}
use Rattle.wire_core.specs.Spellings.{SpellsItem}
use Rattle.wire_core.specs.declared.parcel.Parcel.{Parcel}
use Rattle.node_core.specs.NodeEvents.{met}
use Rattle.node_core.specs.declared.node_event.NodeEvent.{NodeEvent}
use Rattle.node_core.specs.declared.node_event.NodeEvent.TheVariants as event

-- ---- what waits to come

-- a parcel is there, and the node reads it
abbrev pub is_ready : model.Node → TrunkId → Option Parcel → Bool
is_ready m trunk None = false
is_ready m trunk (Some parcel) = comes_here m trunk parcel.bytes

abbrev pub next_at : Option Outlet → Option Parcel
next_at None = None
next_at (Some outlet) = first_of outlet.port.slot

abbrev pub without_next : Outlet → Outlet
without_next outlet = record outlet { port = with_slot outlet.port (behind_first outlet.port.slot) }

-- the item of what comes next, and the stamp under which it was sent
abbrev pub IsOf : Option Parcel → Item → ℕ → Type 0
IsOf None item sent = ⊥
IsOf (Some parcel) item sent = (parcel.stamp ≡ sent) × (parcel.bytes ≡ bytes_of item) × IsSpelled item

-- the entry of any other event comes behind the stamp that its caller gives
abbrev pub IsComing : NodeEvent → (above : ℕ) → List Outlet → Option Item → (sent : ℕ) → Type 0
IsComing (event.Arrive trunk word) above outlets None sent = ⊥
IsComing (event.Arrive trunk word) above outlets (Some item) sent = IsOf (next_at (outlet_of trunk outlets)) item sent
IsComing _ above outlets first sent = (first ≡ None) × (sent ≡ above)

-- ---- an item comes at an outlet

pub record Takes (trunk : TrunkId) (word : ℕ) (old new : History) (before after : Outlet) (place : ℕ) : Type 0 where
  pub parcel : Parcel
  pub rest : List Parcel
  pub slot : before.port.slot ≡ parcel ∷ rest
  pub piece : SpellsItem parcel.bytes
  pub enters : (names : List Name) (item : Item) → IsSpelled item → parcel.bytes ≡ bytes_of item
      → Enters (at_node names (model_of old.node) (met (event.Arrive trunk word) (Some item)))
      (event.Arrive trunk word) parcel.stamp old new
  pub place_is : place ≡ length old.entries.items
  pub left : after ≡ (if is_accepted (slice_get new.entries.items place) then without_next before else before)

pub record TakesNothing (trunk : TrunkId) (old new : History) (before after : Outlet) (e : Refusal) : Type 0 where
  pub history : Stays old new
  pub outlet : after ≡ before
  pub why : ((e ≡ Refusal.NothingThere) × (is_ready (model_of old.node) trunk (first_of before.port.slot) ≡ false))
      ⊎ ((parcel : Parcel) × (first_of before.port.slot ≡ Some parcel) × SpellsItem parcel.bytes × IsWanting old.last parcel.stamp e)

-- ---- a node dials

abbrev pub with_opened : (greatest : ℕ) → Name → Name → (place : ℕ) → Option ℕ → List Outlet → List Outlet
with_opened greatest own peer place None outlets = outlets
with_opened greatest own peer place (Some count) outlets =
    outlets ++ new_outlet greatest (record { dialer = own; count = count }) peer place ∷ []

pub record DialsOut (greatest : ℕ) (is_known : Bool) (peer : Name) (word above : ℕ) (old new : History) (before after : List Outlet)
    (place : ℕ) : Type 0 where
  pub enters : (names : List Name) → has_name peer names ≡ is_known
      → Enters (at_node names (model_of old.node) (met (event.Dial peer word) None)) (event.Dial peer word) above old new
  pub place_is : place ≡ length old.entries.items
  pub opened : after ≡ with_opened greatest (model_of old.node).mint.name peer place
      (option_map (λ (trunk : TrunkId). trunk.count) (trunk_in (slice_get new.entries.items place))) before
