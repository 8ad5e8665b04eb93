-- Whether what is sent as some bytes is read where it comes, told by its kind: a side that is up reads signals and ticks, any other
-- messages of the handshake that are written to its role, and a node without a side those for an acceptor.
-- (ERTS User's Guide, Distribution Protocol, Distribution Handshake and Protocol between Connected Nodes.)
use Rattle.std.specs.Prelude.{◌≡◌, ℕ, Option, None, Some, Bool, true, false, not, List, ◌&&◌}
use Rattle.std.specs.FinMap as fm
use Rattle.dist_model.specs.Items.{Item}
use Rattle.dist_model.specs.Node.{Node}
use Rattle.dist_model.specs.Sides as state
use Rattle.dist_model.specs.Sides.{State, TrunkSide}
use Rattle.dist_model.specs.declared.report.Kind.{Kind}
use Rattle.erl_names.specs.declared.trunk.TrunkId.{TrunkId}
use Rattle.node_frames.specs.Kinds.{kind_in}
use Rattle.node_connections.specs.Fronts.{IsWhole}
use Rattle.node_core.specs.Arrived.{is_undialed}
use Rattle.node_frames.specs.Frames.{IsSpelled, bytes_of}

abbrev pub is_message : Option Kind → Bool
is_message (Some Kind.SendName) = true
is_message (Some Kind.Status) = true
is_message (Some Kind.Challenge) = true
is_message (Some Kind.ChallengeReply) = true
is_message (Some Kind.ChallengeAck) = true
is_message _ = false

abbrev pub is_for_dialer : Option Kind → Bool
is_for_dialer (Some Kind.Status) = true
is_for_dialer (Some Kind.Challenge) = true
is_for_dialer (Some Kind.ChallengeAck) = true
is_for_dialer _ = false

abbrev pub is_for_acceptor : Option Kind → Bool
is_for_acceptor (Some Kind.SendName) = true
is_for_acceptor (Some Kind.Status) = true
is_for_acceptor (Some Kind.ChallengeReply) = true
is_for_acceptor _ = false

abbrev pub reads_kind : State → Option Kind → Bool
reads_kind (state.AwaitsStatus word) kind = is_for_dialer kind
reads_kind (state.AwaitsChallenge word) kind = is_for_dialer kind
reads_kind (state.AwaitsAck word) kind = is_for_dialer kind
reads_kind (state.Asked word) kind = is_for_acceptor kind
reads_kind (state.Parked word) kind = is_for_acceptor kind
reads_kind (state.Accepting word) kind = is_for_acceptor kind
reads_kind state.Up kind = not (is_message kind)
-- whatever comes isn't read any more
reads_kind state.Losing kind = true
reads_kind state.Gone kind = true

abbrev pub reads_kind_at : Option TrunkSide → Option Kind → Bool
reads_kind_at None kind = is_for_acceptor kind
reads_kind_at (Some side) kind = reads_kind side.state kind

-- nothing comes of a trunk that the node itself would have dialed, and has no side of
abbrev pub comes_here : Node → TrunkId → List ℕ → Bool
comes_here m trunk bytes = let side = fm.get m.sides trunk in not (is_undialed m trunk side) && reads_kind_at side (kind_in bytes)

-- what is sent as these bytes and read is whole: the node asks for no more of them
abbrev pub ReadIsWhole : List ℕ → Type 0
ReadIsWhole bytes = (m : Node) (trunk : TrunkId) (item : Item) → IsSpelled item → bytes ≡ bytes_of item → comes_here m trunk bytes ≡ true
    → IsWhole (fm.get m.sides trunk) bytes
