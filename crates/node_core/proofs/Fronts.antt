-- What was sent is read as what it was.
use Rattle.std.proofs.Common.{◌≡◌, ℕ, Bool, true, false, cond, not, List, [], ◌++◌, length, Option, None}
use Rattle.std.proofs.Common.{Some, Result, Ok, Err, refl, sym, ap, subst, ◌∙◌, append-nil, inl, lit<}
use Rattle.conn_core.specs.declared.arrival.Fault.{Fault}
use Rattle.dist_model.specs.Arrivals.{arrive, arrive_first, is_good, signal_at}
use Rattle.dist_model.specs.Commands.{Accepts, Refuses}
use Rattle.dist_model.specs.Due.{is_handshake, of_role, shakes_for}
use Rattle.dist_model.specs.Handshake.{fault}
use Rattle.dist_model.specs.Items.{Handshake, Item, Signalled, Tick, kind_of}
use Rattle.dist_model.specs.Node.{Node}
use Rattle.dist_model.specs.Sides as state
use Rattle.dist_model.specs.Sides.{State, TrunkSide, is_over}
use Rattle.dist_model.specs.Taking.{take}
use Rattle.dist_model.specs.Work.{Work, at_work}
use Rattle.dist_model.specs.declared.report.Answer.{Answer}
use Rattle.erl_control.specs.Answer.{IsFrameDue}
use Rattle.erl_control.specs.Frame.{IsFramed}
use Rattle.erl_control.specs.declared.error.FrameError.{FrameError}
use Rattle.erl_control.specs.declared.signal.Item.{Item as FrameItem}
use Rattle.erl_control.specs.declared.signal.Item.TheVariants as frame
use Rattle.erl_control.specs.declared.signal.Signal.{Signal}
use Rattle.erl_control.specs.Numbers.{error_of}
use Rattle.erl_handshake.proofs.Dues.{due_again, due_once, written_shake}
use Rattle.erl_handshake.specs.Answer.{IsShakeDue}
use Rattle.erl_handshake.specs.Messages.{HasFields, IsFor, written}
use Rattle.erl_handshake.specs.declared.fault.ShakeFault.{ShakeFault}
use Rattle.erl_handshake.specs.declared.message.Role.{Role}
use Rattle.erl_handshake.specs.declared.message.Role.TheVariants as role
use Rattle.erl_handshake.specs.declared.message.ShakeMsg.{ShakeMsg}
use Rattle.erl_names.specs.declared.trunk.TrunkId.{TrunkId}
use Rattle.erl_term.specs.declared.refusal.Refusal.{Refusal}
use Rattle.node_connections.specs.Coming.{comes, item_of}
use Rattle.node_connections.specs.Fronts.{Begins, Front, Holds, IsFrameFront, IsFront, IsFrontIn, IsMessageFront, IsWhole, IsWholeIn, Spoils}
use Rattle.node_frames.specs.Frames.{IsSpelled, bytes_of}
use Rattle.readers.specs.Reading.{AreBytes}
use Rattle.node_core.specs.ComingToANode.{reads, reads_at}

-- ---- two laws of frames, which the caller has

abbrev pub OneFrame : Type 0
OneFrame = (bytes : List ℕ) → AreBytes bytes → (due : Result (Option (FrameItem × ℕ)) FrameError) × IsFrameDue bytes due
    × ((other : Result (Option (FrameItem × ℕ)) FrameError) → IsFrameDue bytes other → other ≡ due)

abbrev pub FrameAgain : Type 0
FrameAgain = (item : FrameItem) (bytes rest : List ℕ) → IsFramed item bytes → IsFrameDue (bytes ++ rest) (Ok (Some (item, length bytes)))

-- ---- messages of the handshake

abbrev reader_of : Bool → Role
reader_of true = role.Dialer
reader_of false = role.Acceptor

for_reader : (dials : Bool) (message : ShakeMsg) → of_role dials message ≡ true → IsFor (reader_of dials) message
for_reader true (ShakeMsg.SendName flags creation name) h = cc
for_reader true (ShakeMsg.Status status) h = tt
for_reader true (ShakeMsg.Challenge flags word creation name) h = refl
for_reader true (ShakeMsg.ChallengeReply word digest) h = cc
for_reader true (ShakeMsg.ChallengeAck digest) h = tt
for_reader false (ShakeMsg.SendName flags creation name) h = refl
for_reader false (ShakeMsg.Status status) h = tt
for_reader false (ShakeMsg.Challenge flags word creation name) h = cc
for_reader false (ShakeMsg.ChallengeReply word digest) h = tt
for_reader false (ShakeMsg.ChallengeAck digest) h = cc

abbrev ShakeDue : Type 0
ShakeDue = Result (Option (ShakeMsg × ℕ)) Refusal

none_or_one : (x : ShakeMsg × ℕ) {A : Type 0} → Ok None ≡ (let due : ShakeDue = Ok (Some x) in due) → A
none_or_one x h = cc

err_or_one : (e : Refusal) (x : ShakeMsg × ℕ) {A : Type 0} → Err e ≡ (let due : ShakeDue = Ok (Some x) in due) → A
err_or_one e x h = cc

same_read : (x y : ShakeMsg × ℕ) → Ok (Some x) ≡ (let due : ShakeDue = Ok (Some y) in due) → x ≡ y
same_read x y h = cc

message_front : (dials : Bool) (message : ShakeMsg) (bytes : List ℕ) (front : Front) → of_role dials message ≡ true
    → HasFields message → bytes ≡ written message
    → IsMessageFront (reader_of dials) bytes front → (len : ℕ) × (front ≡ Holds (Handshake message) len)
message_front dials message bytes front f h b d = go front d
  where
    reader : Role
    reader = reader_of dials

    len : ℕ
    len = length (written message)

    due : IsShakeDue reader bytes (Ok (Some (message, len)))
    due = subst (λ bs. IsShakeDue reader bs (Ok (Some (message, len)))) (append-nil (written message) ∙ sym b)
        (due_again reader message (written message) [] (written_shake reader message (for_reader dials message f) h))

    once : (other : ShakeDue) → IsShakeDue reader bytes other → other ≡ Ok (Some (message, len))
    once other k = due_once reader bytes other (Ok (Some (message, len))) k due

    go : (front : Front) → IsMessageFront reader bytes front → (len : ℕ) × (front ≡ Holds (Handshake message) len)
    go Begins k = none_or_one (message, len) (once (Ok None) k)
    go (Holds (Handshake other) n) k =
        (n, ap (λ (x : ShakeMsg × ℕ). Holds (Handshake x.0) n) (same_read (other, n) (message, len) (once (Ok (Some (other, n))) k)))
    go (Holds (Signalled signal payload) n) k = absurd k
    go (Holds Tick n) k = absurd k
    go (Spoils (Fault.Shake ShakeFault.BadMessage)) k = err_or_one Refusal.BadMessage (message, len) (once (Err Refusal.BadMessage) k)
    go (Spoils (Fault.Shake ShakeFault.FlagsMissing)) k = absurd k
    go (Spoils (Fault.Shake ShakeFault.BadDigest)) k = absurd k
    go (Spoils (Fault.Shake ShakeFault.Nok)) k = absurd k
    go (Spoils (Fault.Shake ShakeFault.Superseded)) k = absurd k
    go (Spoils (Fault.Shake ShakeFault.Forged)) k = absurd k
    go (Spoils (Fault.Frame why)) k = absurd k
    go (Spoils Fault.Forged) k = absurd k

nothing_begins : (reader : Role) (front : Front) → IsMessageFront reader [] front → front ≡ Begins
nothing_begins reader front d = go front d
  where
    once : (other : ShakeDue) → IsShakeDue reader [] other → other ≡ Ok None
    once other k = due_once reader [] other (Ok None) k (inl (lit< tt))

    go : (front : Front) → IsMessageFront reader [] front → front ≡ Begins
    go Begins k = refl
    go (Holds (Handshake other) n) k = none_or_one (other, n) (sym (once (Ok (Some (other, n))) k))
    go (Holds (Signalled signal payload) n) k = absurd k
    go (Holds Tick n) k = absurd k
    go (Spoils (Fault.Shake ShakeFault.BadMessage)) k =
        (let e : Err Refusal.BadMessage ≡ (let due : ShakeDue = Ok None in due) = once (Err Refusal.BadMessage) k in cc)
    go (Spoils (Fault.Shake ShakeFault.FlagsMissing)) k = absurd k
    go (Spoils (Fault.Shake ShakeFault.BadDigest)) k = absurd k
    go (Spoils (Fault.Shake ShakeFault.Nok)) k = absurd k
    go (Spoils (Fault.Shake ShakeFault.Superseded)) k = absurd k
    go (Spoils (Fault.Shake ShakeFault.Forged)) k = absurd k
    go (Spoils (Fault.Frame why)) k = absurd k
    go (Spoils Fault.Forged) k = absurd k

-- ---- frames

abbrev FrameDue : Type 0
FrameDue = Result (Option (FrameItem × ℕ)) FrameError

no_frame : (x : FrameItem × ℕ) {A : Type 0} → Ok None ≡ (let due : FrameDue = Ok (Some x) in due) → A
no_frame x h = cc

bad_frame : (e : FrameError) (x : FrameItem × ℕ) {A : Type 0} → Err e ≡ (let due : FrameDue = Ok (Some x) in due) → A
bad_frame e x h = cc

same_frame : (x y : FrameItem × ℕ) → Ok (Some x) ≡ (let due : FrameDue = Ok (Some y) in due) → x ≡ y
same_frame x y h = cc

-- bytes that are due as one thing are not due as another
frame_front : (bytes : List ℕ) (item : FrameItem) (len : ℕ) (front : Front)
    → ((other : FrameDue) → IsFrameDue bytes other → other ≡ Ok (Some (item, len)))
    → IsFrameFront bytes front → (n : ℕ) × (front ≡ Holds (item_of item) n)
frame_front bytes item len Begins once k = no_frame (item, len) (once (Ok None) k)
frame_front bytes item len (Holds (Signalled signal true) n) once k = absurd k
frame_front bytes item len (Holds (Signalled signal false) n) once k = (
  n,
  ap (λ (x : FrameItem × ℕ). Holds (item_of x.0) n)
      (same_frame (frame.Signal signal, n) (item, len) (once (Ok (Some (frame.Signal signal, n))) k)),
)
frame_front bytes item len (Holds Tick n) once k =
    (n, ap (λ (x : FrameItem × ℕ). Holds (item_of x.0) n) (same_frame (frame.Tick, n) (item, len) (once (Ok (Some (frame.Tick, n))) k)))
frame_front bytes item len (Holds (Handshake message) n) once k = absurd k
frame_front bytes item len (Spoils (Fault.Frame why)) once k = bad_frame (error_of why) (item, len) (once (Err (error_of why)) k)
frame_front bytes item len (Spoils (Fault.Shake why)) once k = absurd k
frame_front bytes item len (Spoils Fault.Forged) once k = absurd k

no_frame_front : (bytes : List ℕ) (front : Front) → ((other : FrameDue) → IsFrameDue bytes other → other ≡ Ok None)
    → IsFrameFront bytes front → front ≡ Begins
no_frame_front bytes Begins once k = refl
no_frame_front bytes (Holds (Signalled signal true) n) once k = absurd k
no_frame_front bytes (Holds (Signalled signal false) n) once k =
    no_frame (frame.Signal signal, n) (sym (once (Ok (Some (frame.Signal signal, n))) k))
no_frame_front bytes (Holds Tick n) once k = no_frame (frame.Tick, n) (sym (once (Ok (Some (frame.Tick, n))) k))
no_frame_front bytes (Holds (Handshake message) n) once k = absurd k
no_frame_front bytes (Spoils (Fault.Frame why)) once k =
    (let e : Err (error_of why) ≡ (let due : FrameDue = Ok None in due) = once (Err (error_of why)) k in cc)
no_frame_front bytes (Spoils (Fault.Shake why)) once k = absurd k
no_frame_front bytes (Spoils Fault.Forged) once k = absurd k

-- ---- the node does the same with both spellings of a signal

-- an item as it is read: its spelling isn't kept
abbrev as_read : Item → Item
as_read (Signalled signal payload) = Signalled signal false
as_read item = item

kinds_alike : (signal : Signal) (payload : Bool) → kind_of (Signalled signal payload) ≡ kind_of (Signalled signal false)
kinds_alike (Signal.Link from to) payload = refl
kinds_alike signal payload = refl

signals_alike : (st : State) (trunk : TrunkId) (side : TrunkSide) (signal : Signal) (payload : Bool) (work : Work)
    → signal_at st trunk side (Signalled signal payload) work ≡ signal_at st trunk side (Signalled signal false) work
signals_alike state.Up trunk side signal payload work =
    ap (λ kind. cond (is_good work.node side (Signalled signal false)) (Accepts (Answer.Took kind) (take side.peer signal work))
    (fault Fault.Forged trunk side work)) (kinds_alike signal payload)
signals_alike st trunk side signal payload work = refl

arrives_alike : (m : Node) (trunk : TrunkId) (word : ℕ) (o : Option TrunkSide) (item : Item)
    → arrive m trunk o (Some item) word ≡ arrive m trunk o (Some (as_read item)) word
arrives_alike m trunk word None (Signalled signal payload) = refl
arrives_alike m trunk word (Some side) (Signalled signal payload) =
    ap (λ outcome. cond (is_over side.state) (Refuses Refusal.NotLive) outcome)
    (signals_alike side.state trunk side signal payload (at_work m))
arrives_alike m trunk word o item = refl

module _ (one : OneFrame) (again : FrameAgain) (bytes : List ℕ) (are : AreBytes bytes) where
  as_due : (due : FrameDue) → IsFrameDue bytes due → (other : FrameDue) → IsFrameDue bytes other → other ≡ due
  as_due due d other k = let o = one bytes are in o.2 other k ∙ sym (o.2 due d)

  up_front : (item : Item) (front : Front) → not (is_handshake item) ≡ true → IsSpelled item → bytes ≡ bytes_of item
      → IsFrameFront bytes front
      → (n : ℕ) × (front ≡ Holds (as_read item) n)
  up_front (Signalled signal payload) front r s b k =
      let written = bytes_of (Signalled signal payload) in
      let due : IsFrameDue bytes (Ok (Some (frame.Signal signal, length written))) =
      subst (λ bs. IsFrameDue bs (Ok (Some (frame.Signal signal, length written)))) (append-nil written ∙ sym b)
      (again (frame.Signal signal) written [] s.0) in
      frame_front bytes (frame.Signal signal) (length written) front (as_due (Ok (Some (frame.Signal signal, length written))) due) k
  up_front Tick front r s b k =
      let due : IsFrameDue bytes (Ok (Some (frame.Tick, length (bytes_of Tick)))) =
      subst (λ bs. IsFrameDue bs (Ok (Some (frame.Tick, length (bytes_of Tick))))) (append-nil (bytes_of Tick) ∙ sym b)
      (again frame.Tick (bytes_of Tick) [] refl) in
      frame_front bytes frame.Tick (length (bytes_of Tick)) front (as_due (Ok (Some (frame.Tick, length (bytes_of Tick)))) due) k
  up_front (Handshake message) front r s b k = cc

  shake_front : (dials : Bool) (item : Item) (front : Front) → shakes_for dials item ≡ true → IsSpelled item → bytes ≡ bytes_of item
      → IsMessageFront (reader_of dials) bytes front → (n : ℕ) × (front ≡ Holds (as_read item) n)
  shake_front dials (Handshake message) front r s b k = message_front dials message bytes front r s b k
  shake_front dials (Signalled signal payload) front r s b k = cc
  shake_front dials Tick front r s b k = cc

  -- what was sent is whole where it is read
  not_begun : (item : Item) → ((n : ℕ) × (Begins ≡ Holds (as_read item) n)) → ⊥
  not_begun item h = let no : Begins ≡ Holds (as_read item) h.0 = h.1 in cc

  whole_in : (item : Item) (st : State) → reads st item ≡ true → IsSpelled item → bytes ≡ bytes_of item → IsWholeIn st bytes
  whole_in item (state.AwaitsStatus w) r s b = λ k. not_begun item (shake_front true item Begins r s b k)
  whole_in item (state.AwaitsChallenge w) r s b = λ k. not_begun item (shake_front true item Begins r s b k)
  whole_in item (state.AwaitsAck w) r s b = λ k. not_begun item (shake_front true item Begins r s b k)
  whole_in item (state.Asked w) r s b = λ k. not_begun item (shake_front false item Begins r s b k)
  whole_in item (state.Parked w) r s b = λ k. not_begun item (shake_front false item Begins r s b k)
  whole_in item (state.Accepting w) r s b = λ k. not_begun item (shake_front false item Begins r s b k)
  whole_in item state.Up r s b = λ k. not_begun item (up_front item Begins r s b k)
  whole_in item state.Losing r s b = tt
  whole_in item state.Gone r s b = tt

  pub whole_at : (o : Option TrunkSide) (item : Item) → reads_at o item ≡ true → IsSpelled item → bytes ≡ bytes_of item → IsWhole o bytes
  whole_at None item r s b = λ k. not_begun item (shake_front false item Begins r s b k)
  whole_at (Some side) item r s b = whole_in item side.state r s b

  module _ (m : Node) (trunk : TrunkId) (word : ℕ) where
    -- whatever comes to a side that is over is refused
    over : (side : TrunkSide) (front : Front) (first : Option Item) → is_over side.state ≡ true
        → comes m trunk (Some side) front word ≡ arrive m trunk (Some side) first word
    over side front first h = here front ∙ sym (there first)
      where
        there : (first : Option Item) → arrive m trunk (Some side) first word ≡ Refuses Refusal.NotLive
        there first = ap (λ b. cond b (Refuses Refusal.NotLive) (arrive_first first trunk side (at_work m))) h

        here : (front : Front) → comes m trunk (Some side) front word ≡ Refuses Refusal.NotLive
        here Begins = there None
        here (Holds item n) = there (Some item)
        here (Spoils why) = ap (λ b. cond b (Refuses Refusal.NotLive) (fault why trunk side (at_work m))) h

    held : (o : Option TrunkSide) (item : Item) (front : Front) → ((n : ℕ) × (front ≡ Holds (as_read item) n))
        → comes m trunk o front word ≡ arrive m trunk o (Some item) word
    held o item front h = ap (λ f. comes m trunk o f word) h.1 ∙ sym (arrives_alike m trunk word o item)

    side_comes : (side : TrunkSide) (item : Item) (front : Front) (st : State) → side.state ≡ st → reads st item ≡ true
        → IsSpelled item → bytes ≡ bytes_of item
        → IsFrontIn st bytes front → comes m trunk (Some side) front word ≡ arrive m trunk (Some side) (Some item) word
    side_comes side item front (state.AwaitsStatus w) e r s b k = held (Some side) item front (shake_front true item front r s b k)
    side_comes side item front (state.AwaitsChallenge w) e r s b k = held (Some side) item front (shake_front true item front r s b k)
    side_comes side item front (state.AwaitsAck w) e r s b k = held (Some side) item front (shake_front true item front r s b k)
    side_comes side item front (state.Asked w) e r s b k = held (Some side) item front (shake_front false item front r s b k)
    side_comes side item front (state.Parked w) e r s b k = held (Some side) item front (shake_front false item front r s b k)
    side_comes side item front (state.Accepting w) e r s b k = held (Some side) item front (shake_front false item front r s b k)
    side_comes side item front state.Up e r s b k = held (Some side) item front (up_front item front r s b k)
    side_comes side item front state.Losing e r s b k = over side front (Some item) (ap is_over e)
    side_comes side item front state.Gone e r s b k = over side front (Some item) (ap is_over e)

    -- the item that was sent is what comes
    pub item_comes : (o : Option TrunkSide) (item : Item) (front : Front) → reads_at o item ≡ true → IsSpelled item
        → bytes ≡ bytes_of item → IsFront o bytes front
        → comes m trunk o front word ≡ arrive m trunk o (Some item) word
    item_comes None item front r s b k = held None item front (shake_front false item front r s b k)
    item_comes (Some side) item front r s b k = side_comes side item front side.state refl r s b k

    begins : (o : Option TrunkSide) (front : Front) → front ≡ Begins → comes m trunk o front word ≡ arrive m trunk o None word
    begins o front h = ap (λ f. comes m trunk o f word) h

    shake_begins : (reader : Role) (front : Front) → bytes ≡ [] → IsMessageFront reader bytes front → front ≡ Begins
    shake_begins reader front b k = nothing_begins reader front (subst (λ bs. IsMessageFront reader bs front) b k)

    up_begins : (front : Front) → bytes ≡ [] → IsFrameFront bytes front → front ≡ Begins
    up_begins front b k =
        let due : IsFrameDue bytes (Ok None) = subst (λ bs. IsFrameDue bs (Ok None)) (sym b) (inl (lit< tt)) in
        no_frame_front bytes front (as_due (Ok None) due) k

    side_begins : (side : TrunkSide) (front : Front) (st : State) → side.state ≡ st → bytes ≡ [] → IsFrontIn st bytes front
        → comes m trunk (Some side) front word ≡ arrive m trunk (Some side) None word
    side_begins side front (state.AwaitsStatus w) e b k = begins (Some side) front (shake_begins role.Dialer front b k)
    side_begins side front (state.AwaitsChallenge w) e b k = begins (Some side) front (shake_begins role.Dialer front b k)
    side_begins side front (state.AwaitsAck w) e b k = begins (Some side) front (shake_begins role.Dialer front b k)
    side_begins side front (state.Asked w) e b k = begins (Some side) front (shake_begins role.Acceptor front b k)
    side_begins side front (state.Parked w) e b k = begins (Some side) front (shake_begins role.Acceptor front b k)
    side_begins side front (state.Accepting w) e b k = begins (Some side) front (shake_begins role.Acceptor front b k)
    side_begins side front state.Up e b k = begins (Some side) front (up_begins front b k)
    side_begins side front state.Losing e b k = over side front None (ap is_over e)
    side_begins side front state.Gone e b k = over side front None (ap is_over e)

    -- and where nothing travels nothing comes
    pub nothing_comes : (o : Option TrunkSide) (front : Front) → bytes ≡ [] → IsFront o bytes front
        → comes m trunk o front word ≡ arrive m trunk o None word
    nothing_comes None front b k = begins None front (shake_begins role.Acceptor front b k)
    nothing_comes (Some side) front b k = side_begins side front side.state refl b k
