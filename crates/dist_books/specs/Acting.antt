-- What a node does at an event, by itself, with the item that comes to it: a line of its log.
use Rattle.std.specs.Prelude.{◌≡◌, ◌≢◌, ◌⊎◌, ℕ, ◌<◌, Bool, Option, None, Some, List, [], ◌∷◌, length, map, slice_index_or}
use Rattle.std.specs.Ordering.{eq_by_cmp}
use Rattle.dist_model.specs.Commands.{Accepts, Outcome, Refuses}
use Rattle.dist_model.specs.Items.{Item}
use Rattle.dist_model.specs.Names.{Name, place_cmp}
use Rattle.dist_model.specs.Node.{Node}
use Rattle.dist_model.specs.NodeEvents as met
use Rattle.dist_model.specs.NodeEvents.{NodeEvent, at_node}
use Rattle.dist_model.specs.Runs.{new_node}
use Rattle.dist_model.specs.Work.{Work}
use Rattle.dist_model.specs.World.{Arrive, Call, Dial, Event, Local, Lose, Refused, Report, Reported, Start, Stop, Sweep, node_name}
use Rattle.dist_model.specs.declared.report.Answer.{Answer}
use Rattle.dist_model.specs.declared.report.Effect.{Effect}
use Rattle.erl_names.specs.declared.trunk.TrunkId.{TrunkId}
use Rattle.erl_term.specs.declared.refusal.Refusal.{Refusal}
use Rattle.erl_handshake.specs.declared.profile.Profile.{Profile}
use Rattle.erl_handshake.specs.declared.setup.Setup.{Setup}

-- on a trunk, to one of its nodes
abbrev pub Way : Type 0
Way = TrunkId × Name

abbrev pub same_way : Way → Way → Bool
same_way = eq_by_cmp place_cmp

-- ---- the nodes of a world, by their numbers: names and setups

abbrev pub Nodes : Type 0
Nodes = List (Name × Setup)

-- what stands for a node that there is none
abbrev pub nowhere : Name × Setup
nowhere = ([], record { cookie = []; profile = Profile.One })

abbrev pub names_of : Nodes → List Name
names_of nodes = map (λ node. node.0) nodes

abbrev pub name_at : Nodes → ℕ → Name
name_at nodes k = (slice_index_or nodes k nowhere).0

abbrev pub opened_at : Nodes → ℕ → Node
opened_at nodes k = new_node (name_at nodes k) (slice_index_or nodes k nowhere).1

-- ---- what a node does

-- the event as its node meets it, where this item comes first
abbrev pub meets : Event → Option Item → NodeEvent
meets (Call name command) first = met.Call command
meets (Arrive trunk name word) first = met.Arrive trunk first word
meets (Local name) first = met.Local
meets (Lose trunk name) first = met.Lose trunk
meets (Sweep name) first = met.Sweep
meets (Dial name peer word) first = met.Dial peer word
meets (Stop name) first = met.Stop
meets (Start name) first = met.Start

-- what it takes if it isn't refused
abbrev pub takes : Event → Option Item → Option (Way × List Item)
takes (Arrive trunk name word) (Some item) = Some ((trunk, name), item ∷ [])
takes _ _ = None

-- what was sent to other nodes
abbrev pub on_ways : List (Effect Item) → List (Way × List Item)
on_ways [] = []
on_ways (Effect.Sent (Some trunk) peer item ∷ rest) = ((trunk, peer), item ∷ []) ∷ on_ways rest
on_ways (effect ∷ rest) = on_ways rest

module _ (names : List Name) (node : Node) (event : Event) where
  -- whatever comes first, it refuses, and nothing changes
  pub record RefusesWhateverComes (took : Option (Way × List Item)) (answer : Report) (next : Node)
      (sent : List (Way × List Item)) : Type 0 where
    pub why : Refusal
    pub refused : (first : Option Item) → at_node names node (meets event first) ≡ Refuses why
    pub answered : answer ≡ Refused why
    pub unchanged : next ≡ node
    pub nothing_taken : took ≡ None
    pub nothing_sent : sent ≡ []

  -- it accepts the event, with the item that comes, if one does
  pub record AcceptsWhatComes (took : Option (Way × List Item)) (answer : Report) (next : Node)
      (sent : List (Way × List Item)) : Type 0 where
    pub first : Option Item
    pub said : Answer
    pub work : Work
    pub accepted : at_node names node (meets event first) ≡ Accepts said work
    pub answered : answer ≡ Reported said work.effects
    pub becomes : next ≡ work.node
    pub taken : took ≡ takes event first
    pub sends : sent ≡ on_ways work.effects

-- an event of the node of this number
abbrev pub Acts : Nodes → ℕ → Node → Event → Option (Way × List Item) → Report → Node → List (Way × List Item) → Type 0
Acts nodes k node event took answer next sent = (k < length nodes) × (node_name event ≡ name_at nodes k)
    × (RefusesWhateverComes (names_of nodes) node event took answer next sent
    ⊎ AcceptsWhatComes (names_of nodes) node event took answer next sent)

-- ---- each event is so

abbrev pub report_of : Outcome → Report
report_of (Refuses why) = Refused why
report_of (Accepts said work) = Reported said work.effects

abbrev pub next_of : Node → Outcome → Node
next_of node (Refuses why) = node
next_of node (Accepts said work) = work.node

abbrev pub taken_in : Event → Option Item → Outcome → Option (Way × List Item)
taken_in event first (Refuses why) = None
taken_in event first (Accepts said work) = takes event first

abbrev pub sent_in : Outcome → List (Way × List Item)
sent_in (Refuses why) = []
sent_in (Accepts said work) = on_ways work.effects

-- Of an arrival without an item nothing is said: the node itself can't know whether one is on its way.
abbrev pub IsMet : Event → Option Item → Type 0
IsMet (Arrive trunk name word) first = first ≢ None
IsMet event first = Unit {0}

abbrev pub EventsAreLines : Type 0
EventsAreLines = (nodes : Nodes) (k : ℕ) (node : Node) (event : Event) (first : Option Item)
    → k < length nodes → node_name event ≡ name_at nodes k → IsMet event first
    → let outcome = at_node (names_of nodes) node (meets event first) in
    Acts nodes k node event (taken_in event first outcome) (report_of outcome) (next_of node outcome) (sent_in outcome)
