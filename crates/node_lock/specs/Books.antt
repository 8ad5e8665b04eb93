-- What a call leaves of a book.
use Rattle.std.specs.Prelude.{◌≡◌, ◌⊎◌, ℕ, Option, Bool, false, not, ◌&&◌, List, [], is_none, length, map}
use Rattle.dist_model.specs.Items.{Item}
use Rattle.dist_model.specs.Names.{Name, same_name}
use Rattle.dist_model.specs.Node as model
use Rattle.dist_model.specs.NodeEvents.{at_node}
use Rattle.erl_names.specs.declared.trunk.TrunkId.{TrunkId}
use Rattle.erl_term.specs.declared.refusal.Refusal.{Refusal}
use Rattle.node_core.specs.Model.{model_of}
use Rattle.node_history.specs.Entering.{Enters, IsWanting, Stays}
use Rattle.node_lock.specs.Applying.{IsComing, is_ready, next_at}
use Rattle.node_lock.specs.Passing.{with_piece}
use Rattle.node_lock.specs.Seen.{BookSeen}
use Rattle.node_lock.specs.Standing.{outlet_of}
use Rattle.node_lock.specs.declared.outlet.Outlet.{Outlet}
use Rattle.node_core.specs.NodeEvents.{met}
use Rattle.node_core.specs.declared.node_event.NodeEvent.{NodeEvent}
use Rattle.node_core.specs.declared.node_event.NodeEvent.TheVariants as event
use Rattle.erl_handshake.specs.declared.setup.Setup.{Setup}

abbrev pub is_ready_on : model.Node → TrunkId → List Outlet → Bool
is_ready_on m trunk outlets = is_ready m trunk (next_at (outlet_of trunk outlets))

-- another node has dialed, and there is no such connection yet
abbrev pub wants : model.Node → TrunkId → List Outlet → Bool
wants m trunk outlets = not (same_name trunk.dialer m.mint.name) && is_none (outlet_of trunk outlets)

-- whose book it is, and how long its pieces may be
pub record IsSameNode (old new : BookSeen) : Type 0 where
  pub names : new.names ≡ old.names
  pub place : new.place ≡ old.place
  pub setup : new.setup ≡ old.setup
  pub greatest : new.greatest ≡ old.greatest

-- of a node to which nothing has happened
pub record IsFreshBook (names : List Name) (place : ℕ) (setup : Setup) (book : BookSeen) : Type 0 where
  pub names_are : book.names ≡ names
  pub place_is : book.place ≡ place
  pub cookie_is : book.setup ≡ setup
  pub last : book.history.last ≡ 0
  pub entries : book.history.entries.items ≡ []
  pub outlets : book.outlets ≡ []
  pub greatest_is : book.greatest ≡ 512

-- The event is entered, at the node of the model as the step of it that the event is. The entry of an event at
-- which nothing comes from a peer is behind the stamp `above`.
pub record Applies (what : NodeEvent) (above : ℕ) (old new : BookSeen) (place : ℕ) : Type 0 where
  pub first : Option Item
  pub sent : ℕ
  pub comes : IsComing what above old.outlets first sent
  pub enters : Enters (at_node old.names (model_of old.history.node) (met what first)) what sent old.history new.history
  pub place_is : place ≡ length old.history.entries.items
  pub same : IsSameNode old new

-- nothing has come that the node reads
abbrev pub IsUnready : NodeEvent → BookSeen → Type 0
IsUnready (event.Arrive trunk word) book = is_ready_on (model_of book.history.node) trunk book.outlets ≡ false
IsUnready _ book = ⊥

pub record IsUnapplied (what : NodeEvent) (above : ℕ) (old new : BookSeen) (e : Refusal) : Type 0 where
  pub same : IsSameNode old new
  pub history : Stays old.history new.history
  pub outlets : new.outlets ≡ old.outlets
  pub why : ((e ≡ Refusal.NothingThere) × IsUnready what old)
      ⊎ ((first : Option Item) × (sent : ℕ) × IsComing what above old.outlets first sent × IsWanting old.history.last sent e)

-- between two entries
pub record Rests (old new : BookSeen) : Type 0 where
  pub same : IsSameNode old new
  pub history : new.history ≡ old.history

-- pieces of so many bytes at most are put from now on, at all connections, also at those to come
abbrev pub with_pieces : (greatest : ℕ) → BookSeen → BookSeen
with_pieces greatest book = record book { greatest = greatest; outlets = map (with_piece greatest) book.outlets }
