-- The bytes of an item tell whether it is read.
use Rattle.std.proofs.Common.{◌≡◌, Bool, ℕ, List, Option, None, Some, true, false, not, refl, sym, ap, subst, ◌∙◌}
use Rattle.std.proofs.lemmas.Bool.{and_parts, not-true}
use Rattle.std.specs.FinMap as fm
use Rattle.dist_model.specs.Due.{is_handshake, shakes_for}
use Rattle.dist_model.specs.Items.{Handshake, Item, Signalled, Tick, kind_of}
use Rattle.dist_model.specs.Node.{Node}
use Rattle.dist_model.specs.Sides as state
use Rattle.dist_model.specs.Sides.{State, TrunkSide}
use Rattle.dist_model.specs.declared.report.Kind.{Kind}
use Rattle.erl_control.specs.declared.signal.Signal.{Signal}
use Rattle.erl_handshake.specs.declared.message.ShakeMsg.{ShakeMsg}
use Rattle.erl_names.specs.declared.trunk.TrunkId.{TrunkId}
use Rattle.node_frames.proofs.Told.{kind_is_told}
use Rattle.node_frames.specs.Kinds.{kind_in}
use Rattle.node_core.specs.Arrived.{is_undialed}
use Rattle.node_history.specs.Kinds.{ReadIsWhole, comes_here, is_for_acceptor, is_for_dialer, is_message, reads_kind, reads_kind_at}
use Rattle.node_frames.specs.Frames.{IsSpelled, bytes_of}
use Rattle.readers.specs.Reading.{AreBytes}
use Rattle.node_core.proofs.Fronts.{FrameAgain, OneFrame, whole_at}
use Rattle.node_core.specs.ComingToANode.{CanCome, reads, reads_at}

abbrev IsNoMessage : Option Kind → Type 0
IsNoMessage kind = (is_for_dialer kind ≡ false) × (is_for_acceptor kind ≡ false) × (is_message kind ≡ false)

signal_is_none : (signal : Signal) (payload : Bool) → IsNoMessage (Some (kind_of (Signalled signal payload)))
signal_is_none (Signal.Link from to) payload = (refl, refl, refl)
signal_is_none signal payload = (refl, refl, refl)

-- what a message is written to, by its kind
abbrev IsMessage : ShakeMsg → Type 0
IsMessage message =
    let item = Handshake message in
    let kind = Some (kind_of item) in
    (shakes_for true item ≡ is_for_dialer kind) × (shakes_for false item ≡ is_for_acceptor kind) × (is_message kind ≡ true)

message_is : (message : ShakeMsg) → IsMessage message
message_is (ShakeMsg.SendName flags creation name) = (refl, refl, refl)
message_is _ = (refl, refl, refl)

by_dialer : (item : Item) → shakes_for true item ≡ is_for_dialer (Some (kind_of item))
by_dialer (Handshake message) = (message_is message).0
by_dialer (Signalled signal payload) = sym (signal_is_none signal payload).0
by_dialer Tick = refl

by_acceptor : (item : Item) → shakes_for false item ≡ is_for_acceptor (Some (kind_of item))
by_acceptor (Handshake message) = (message_is message).1
by_acceptor (Signalled signal payload) = sym (signal_is_none signal payload).1
by_acceptor Tick = refl

by_frames : (item : Item) → not (is_handshake item) ≡ not (is_message (Some (kind_of item)))
by_frames (Handshake message) = sym (ap not (message_is message).2)
by_frames (Signalled signal payload) = sym (ap not (signal_is_none signal payload).2)
by_frames Tick = refl

by_state : (st : State) (item : Item) → reads st item ≡ reads_kind st (Some (kind_of item))
by_state (state.Asked w) item = by_acceptor item
by_state (state.Parked w) item = by_acceptor item
by_state (state.Accepting w) item = by_acceptor item
by_state state.Up item = by_frames item
by_state state.Losing item = refl
by_state state.Gone item = refl
by_state _ item = by_dialer item

by_kind : (side : Option TrunkSide) (item : Item) → reads_at side item ≡ reads_kind_at side (Some (kind_of item))
by_kind None item = by_acceptor item
by_kind (Some side) item = by_state side.state item

-- an item of these bytes can come where they are read
pub can_come : (m : Node) (trunk : TrunkId) (item : Item) → IsSpelled item → comes_here m trunk (bytes_of item) ≡ true
    → CanCome m trunk item
can_come m trunk item h c =
    let side = fm.get m.sides trunk in
    let here = and_parts (not (is_undialed m trunk side)) (reads_kind_at side (kind_in (bytes_of item))) c in
    record {
      spelled = h;
      read = by_kind side item ∙ sym (ap (λ kind. reads_kind_at side kind) (kind_is_told item h)) ∙ here.1;
      theirs = not-true (is_undialed m trunk side) here.0;
    }

pub read_is_whole : OneFrame → FrameAgain → (bytes : List ℕ) → AreBytes bytes → ReadIsWhole bytes
read_is_whole one again bytes are m trunk item s b h =
    whole_at one again bytes are (fm.get m.sides trunk) item
    (can_come m trunk item s (subst (λ bs. comes_here m trunk bs ≡ true) b h)).read s b
