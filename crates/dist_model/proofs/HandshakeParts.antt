-- What a new side and a written message keep is kept by the whole handshake, and by a lost connection.
use Rattle.erl_handshake.specs.declared.message.ShakeMsg.{ShakeMsg}
use Rattle.conn_core.specs.declared.arrival.Fault.{Fault}
use Rattle.erl_handshake.specs.declared.fault.ShakeFault.{ShakeFault}
use Rattle.dist_model.proofs.Rules.{accepts, awaits_ack, awaits_challenge, awaits_name, awaits_reply, awaits_status, awaits_true}
use Rattle.dist_model.proofs.Rules.{greet, greet_dialing, greet_up, greet_waiting, handshake_as, handshake_by, name_as}
use Rattle.dist_model.specs.Admission.{give_up}
use Rattle.dist_model.specs.Handshake.{handshake_at, challenge, up_is_lost, fault, challenge_or_park, set_state, with_side, write}
use Rattle.erl_handshake.specs.Digest.{digest_of}
use Rattle.erl_handshake.specs.Flags.{has_all_of, mandatory}
use Rattle.erl_handshake.specs.Roles.{is_answered, is_same}
use Rattle.erl_handshake.specs.declared.status.Status.{Status}
use Rattle.std.proofs.Common.{◌≡◌, ℕ, Bool, true, false, cond, refl, sym, ap, ◌∙◌, ◌||◌, Option, Some, None, nat_lt, subst}
use Rattle.std.proofs.lemmas.Option.{same_Some, none-some}
use Rattle.std.specs.Ordering.{is_gt}
use Rattle.std.specs.FinMap as fm
use Rattle.dist_model.proofs.Calls.{IfGoes, by_test, if_either}
use Rattle.dist_model.proofs.Keys.{same_trunk, same_trunk_refl, same_trunk_true, trunk_total}
use Rattle.dist_model.specs.Keeping.{Towards}
use Rattle.dist_model.proofs.Routes.{side_where_found, side_where_none}
use Rattle.dist_model.proofs.Sides.{asks, beside, holds, side_at, beside_neither}
use Rattle.dist_model.specs.Arrivals.{arrive_at, arrive_fresh, on_up, signal_at}
use Rattle.dist_model.specs.Arrivals
use Rattle.dist_model.specs.Commands.{Accepts}
use Rattle.dist_model.specs.declared.report.Answer.{Answer}
use Rattle.dist_model.specs.Items.{Handshake, Item, kind_of}
use Rattle.dist_model.proofs.Records.{has_records}
use Rattle.dist_model.specs.Losses.{close_side, lose, lose_at, released_by, release_parked, close_if_swept}
use Rattle.dist_model.specs.Names.{Name}
use Rattle.dist_model.specs.Node.{Node, side_where}
use Rattle.dist_model.specs.Sides.{Accepting, Asked, AwaitsAck, AwaitsChallenge, AwaitsStatus, Gone, Losing, Parked, State, TrunkSide}
use Rattle.dist_model.specs.Sides.{Up, is_dialing, is_gone, is_losing, is_parked, is_up, is_waiting, lost, is_over, introduction_in}
use Rattle.dist_model.specs.Taking.{take_item}
use Rattle.dist_model.specs.Work.{Work, at_work}
use Rattle.erl_names.specs.Order.{name_cmp}
use Rattle.erl_names.specs.declared.trunk.TrunkId.{TrunkId}
use Rattle.erl_handshake.specs.Roles.{introduction_by}
use Rattle.dist_model.specs.Sides.{untold}

-- how a side changes: what holds the peer's records goes on to hold them, and what is over stays so
pub record Ages (a b : TrunkSide) : Type 0 where
  pub peer : b.peer ≡ a.peer
  pub holding : holds a.state ≡ true → holds b.state ≡ true
  pub over : is_over a.state ≡ true → is_over b.state ≡ true

pub data TurnedBy (New : TrunkId → Name → Type 0) (o : Node) (t : TrunkId) (s : TrunkSide) : Type 0 where
  Fresh : New t s.peer → side_at o t ≡ None → TurnedBy New o t s
  Aged : (a : TrunkSide) → side_at o t ≡ Some a → Ages a s → TurnedBy New o t s
  -- no records are left
  Shut : (a : TrunkSide) → side_at o t ≡ Some a → s.peer ≡ a.peer → s.state ≡ Gone → has_records a.peer o ≡ false → TurnedBy New o t s

-- whichever side is new
abbrev pub Turned : Node → TrunkId → TrunkSide → Type 0
Turned = TurnedBy (λ t y. Unit {0})

abbrev pub as_state : TrunkSide → State → TrunkSide
as_state s x = record { peer = s.peer; introduction = introduction_in x s.introduction; state = x }

-- states that hold nothing and are not over
abbrev pub is_open : State → Bool
is_open v = is_dialing v || is_waiting v

open_ages : (v x : State) → is_open v ≡ true → (holds v ≡ true → holds x ≡ true)
open_ages Up x h = cc
open_ages Losing x h = cc
open_ages Gone x h = cc
open_ages _ x h = λ i. cc

open_starts : (v x : State) → is_open v ≡ true → (is_over v ≡ true → is_over x ≡ true)
open_starts Up x h = cc
open_starts Losing x h = cc
open_starts Gone x h = cc
open_starts _ x h = λ i. cc

lost_holds : (v : State) → holds v ≡ true → holds (lost v) ≡ true
lost_holds Up h = refl
lost_holds Losing h = refl
lost_holds _ h = cc

pub lost_over : (v : State) → is_over (lost v) ≡ true
lost_over Up = refl
lost_over _ = refl

open_waiting : (v : State) → is_waiting v ≡ true → is_open v ≡ true
open_waiting (Asked w) h = refl
open_waiting (Parked w) h = refl
open_waiting (Accepting w) h = refl
open_waiting _ h = cc

open_dialing : (v : State) → is_dialing v ≡ true → is_open v ≡ true
open_dialing v h = ap (λ b. b || is_waiting v) h

-- a side that isn't gone wasn't gone before, and stands beside those that it stood beside
abbrev pub Room : Node → TrunkSide → TrunkSide → Type 0
Room o a s = is_gone s.state ≡ false → (is_gone a.state ≡ false)
    × ((u : TrunkId) (v : TrunkSide) → side_at o u ≡ Some v → v.peer ≡ a.peer → beside a.state v.state ≡ true
    → beside s.state v.state ≡ true)

abbrev pub Roomy : Node → TrunkId → TrunkSide → Type 0
Roomy o t s = (a : TrunkSide) → side_at o t ≡ Some a → Room o a s

roomy : (o : Node) (t : TrunkId) (a s : TrunkSide) → side_at o t ≡ Some a → Room o a s → Roomy o t s
roomy o t a s h r b j = subst (λ z. Room o z s) (same_Some a b (sym h ∙ j)) r

pub room_new : (o : Node) (t : TrunkId) (s : TrunkSide) → side_at o t ≡ None → Roomy o t s
room_new o t s h a j = absurd (none-some a (sym h ∙ j))

room_gone : (o : Node) (a s : TrunkSide) → is_gone s.state ≡ true → Room o a s
room_gone o a s g h = let c : true ≡ false = sym g ∙ h in cc

-- it stood alone
abbrev Lone : State → Type 0
Lone v = (is_gone v ≡ false) × (holds v ≡ false) × (asks v ≡ false)

lone_as : (v w : State) → w ≡ v → Lone v → Lone w
lone_as v w e k = (ap is_gone e ∙ k.0, ap holds e ∙ k.1, ap asks e ∙ k.2)

room_lone : (o : Node) (a s : TrunkSide) → Lone a.state → Room o a s
room_lone o a s k h = (k.0, λ u v i p b. absurd (beside_neither a.state v.state k.1 k.2 b))

pub asks_beside : (x y : State) → asks x ≡ true → beside x y ≡ true → holds y ≡ true
asks_beside (Asked w) y k b = b
asks_beside (Parked w) y k b = b
asks_beside _ y k b = cc

-- it asks, and nobody holds the peer's records
room_free : (o : Node) (a s : TrunkSide) → is_gone a.state ≡ false → asks a.state ≡ true
    → ((u : TrunkId) (v : TrunkSide) → side_at o u ≡ Some v → v.peer ≡ a.peer → holds v.state ≡ true → ⊥) → Room o a s
room_free o a s g k f h = (g, λ u v i p b. absurd (f u v i p (asks_beside a.state v.state k b)))

-- it goes on asking
room_parked : (o : Node) (a : TrunkSide) (w : ℕ) → asks a.state ≡ true → Room o a (as_state a (Parked w))
room_parked o a w k h = both a.state k
  where
    both : (x : State) → asks x ≡ true → (is_gone x ≡ false) × ((u : TrunkId) (v : TrunkSide) → side_at o u ≡ Some v → v.peer ≡ a.peer
        → beside x v.state ≡ true → beside (Parked w) v.state ≡ true)
    both (Asked z) k = (refl, λ u v i p b. b)
    both (Parked z) k = (refl, λ u v i p b. b)
    both _ k = cc

room_lost : (o : Node) (a : TrunkSide) → Room o a (as_state a (lost a.state))
room_lost o a h = both a.state h
  where
    both : (x : State) → is_gone (lost x) ≡ false → (is_gone x ≡ false) × ((u : TrunkId) (v : TrunkSide) → side_at o u ≡ Some v
        → v.peer ≡ a.peer → beside x v.state ≡ true → beside (lost x) v.state ≡ true)
    both Up h = (refl, λ u v i p b. b)
    both Losing h = (refl, λ u v i p b. b)
    both _ h = cc

up_lost : (v : State) → is_up v ≡ true → lost v ≡ Losing
up_lost Up h = refl
up_lost _ h = cc

-- a side is set
pub set_at : (o : Work) (t : TrunkId) (s : TrunkSide) (u : TrunkId)
    → side_at ((with_side t s o).node) u ≡ cond (same_trunk u t) (Some s) (side_at o.node u)
set_at o t s u = fm.get-insert trunk_total o.node.sides t s u

pub set_there : (o : Work) (t : TrunkId) (s : TrunkSide) → side_at ((with_side t s o).node) t ≡ Some s
set_there o t s = set_at o t s t ∙ ap (λ b. cond b (Some s) (side_at o.node t)) (same_trunk_refl t)

pub towards_set : (o : Work) (t : TrunkId) (s : TrunkSide) → Towards ((with_side t s o).node) t s.peer
towards_set o t s = record { side = s; there = set_there o t s; peer = refl }

pub still_there : (o : Work) (t u : TrunkId) (s v : TrunkSide) → side_at o.node u ≡ Some v → (u ≡ t → ⊥)
    → side_at ((with_side t s o).node) u ≡ Some v
still_there o t u s v h d =
    set_at o t s u
    ∙ by_test _ (same_trunk u t) (λ e. absurd (d (same_trunk_true u t e))) (λ e. ap (λ b. cond b (Some s) (side_at o.node u)) e ∙ h)

pub still_none : (o : Work) (t u : TrunkId) (s v : TrunkSide) → side_at o.node u ≡ None → side_at o.node t ≡ Some v
    → side_at ((with_side t s o).node) u ≡ None
still_none o t u s v h e =
    set_at o t s u ∙ by_test _ (same_trunk u t)
    (λ i. absurd (none-some v (sym h ∙ ap (side_at o.node) (same_trunk_true u t i) ∙ e)))
    (λ i. ap (λ b. cond b (Some s) (side_at o.node u)) i ∙ h)

-- the side that is given up, if there is one
abbrev pub Passing : (State → Bool) → Node → Option (TrunkId × TrunkSide) → Type 0
Passing test n None = Unit {0}
Passing test n (Some e) = (side_at n e.0 ≡ Some e.1) × (test e.1.state ≡ true)

pub found : (test : State → Bool) (y : Name) (n : Node) (d : Option (TrunkId × TrunkSide))
    → side_where test y (fm.entries n.sides) ≡ d → Passing test n d
found test y n None h = tt
found test y n (Some e) h =
    let f = side_where_found test y (fm.entries n.sides) e (fm.entries_sorted n.sides) h in (fm.get-entries n.sides e.0 ∙ f.there, f.passes)

-- which sides may be new, towards whom, and what is kept
module _ (New : TrunkId → Name → Type 0) (X : Work → Type 0)
    (side : (t : TrunkId) (s : TrunkSide) (o : Work) → TurnedBy New o.node t s → Roomy o.node t s → X o → X (with_side t s o))
    (wrote : (t : TrunkId) (y : Name) (m : ShakeMsg) (o : Work) → Towards o.node t y → X o → X (write t y m o)) where
  aged_state : (t : TrunkId) (s : TrunkSide) (x : State) (o : Work) → side_at o.node t ≡ Some s → (holds s.state ≡ true → holds x ≡ true)
      → (is_over s.state ≡ true → is_over x ≡ true) → Room o.node s (as_state s x) → X o → X (set_state t s x o)
  aged_state t s x o h a b r k =
      side t (as_state s x) o (Aged s h (record { peer = refl; holding = a; over = b })) (roomy o.node t s (as_state s x) h r) k

  open_state : (t : TrunkId) (s : TrunkSide) (x : State) (o : Work) → side_at o.node t ≡ Some s → is_open s.state ≡ true
      → Room o.node s (as_state s x) → X o → X (set_state t s x o)
  open_state t s x o h a r k = aged_state t s x o h (open_ages s.state x a) (open_starts s.state x a) r k

  -- of an attempt that stands alone
  lone_state : (t : TrunkId) (s : TrunkSide) (x : State) (o : Work) → side_at o.node t ≡ Some s → is_open s.state ≡ true → Lone s.state
      → X o → X (set_state t s x o)
  lone_state t s x o h a r k = open_state t s x o h a (room_lone o.node s (as_state s x) r) k

  told : (t : TrunkId) (s : TrunkSide) (x : State) (m : ShakeMsg) (o : Work) → X (set_state t s x o)
      → X (write t s.peer m (set_state t s x o))
  told t s x m o k = wrote t s.peer m (set_state t s x o) (towards_set o t (as_state s x)) k

  pub known_fault : (j : Fault) (t : TrunkId) (s : TrunkSide) (o : Work) → side_at o.node t ≡ Some s → X o → IfGoes (fault j t s o) X
  known_fault j t s o h k = aged_state t s (lost s.state) o h (lost_holds s.state) (λ i. lost_over s.state) (room_lost o.node s) k

  -- an attempt that the arriving one ends
  given : (d : Option (TrunkId × TrunkSide)) (test : State → Bool) (o : Work)
      → ((v : State) → test v ≡ true → is_open v ≡ true) → Passing test o.node d → X o → X (give_up d o)
  given None test o f h k = k
  given (Some e) test o f h k = open_state e.0 e.1 Gone o h.0 (f e.1.state h.1) (room_gone o.node e.1 (as_state e.1 Gone) refl) k

  given_none : (d : Option (TrunkId × TrunkSide)) (test : State → Bool) (o : Work) (t : TrunkId) → Passing test o.node d
      → side_at o.node t ≡ None → side_at ((give_up d o).node) t ≡ None
  given_none None test o t p h = h
  given_none (Some e) test o t p h = still_none o e.0 t (as_state e.1 Gone) e.1 h p.0

  -- a new side of this trunk, towards its dialer
  module _ (t : TrunkId) (new : New t t.dialer) where
    fresh_state : (s : TrunkSide) (x : State) (o : Work) → s.peer ≡ t.dialer → side_at o.node t ≡ None → X o → X (set_state t s x o)
    fresh_state s x o e h k = side t (as_state s x) o (Fresh (subst (New t) (sym e) new) h) (room_new o.node t (as_state s x) h) k

    fresh_fault : (j : Fault) (s : TrunkSide) (o : Work) → s.peer ≡ t.dialer → side_at o.node t ≡ None → X o → IfGoes (fault j t s o) X
    fresh_fault j s o e h k = fresh_state s (lost s.state) o e h k

    accepted : (s : TrunkSide) (w : ℕ) (m : ShakeMsg) (x : Item) (o : Work) → s.peer ≡ t.dialer → side_at o.node t ≡ None → X o
        → IfGoes (accepts t s w m x o) X
    accepted s w m x o e h k = wrote t s.peer (challenge o.node w) (write t s.peer m (set_state t s (Accepting w) o))
        (towards_set o t (as_state s (Accepting w))) (told t s (Accepting w) m o (fresh_state s (Accepting w) o e h k))

    greeted_dialing : (d : Option (TrunkId × TrunkSide)) (s : TrunkSide) (w : ℕ) (x : Item) (o : Work) → Passing is_dialing o.node d
        → s.peer ≡ t.dialer → side_at o.node t ≡ None → X o → IfGoes (greet_dialing d t s w x o) X
    greeted_dialing None s w x o p i h k = accepted s w (ShakeMsg.Status Status.Ok) x o i h k
    greeted_dialing (Some e) s w x o p i h k = if_either (is_gt (name_cmp t.dialer o.node.mint.name)) _ _ X
        (accepted s w (ShakeMsg.Status Status.OkSimultaneous) x (give_up (Some e) o) i (given_none (Some e) is_dialing o t p h)
        (given (Some e) is_dialing o open_dialing p k))
        (told t s Gone (ShakeMsg.Status Status.Nok) o (fresh_state s Gone o i h k))

    greeted_up : (d : Option (TrunkId × TrunkSide)) (s : TrunkSide) (w : ℕ) (x : Item) (o : Work) → s.peer ≡ t.dialer
        → side_at o.node t ≡ None → X o → IfGoes (greet_up d t s w x o) X
    greeted_up None s w x o i h k = greeted_dialing (side_where is_dialing s.peer (fm.entries o.node.sides)) s w x o
        (found is_dialing s.peer o.node _ refl) i h k
    greeted_up (Some e) s w x o i h k = told t s (Asked w) (ShakeMsg.Status Status.Alive) o (fresh_state s (Asked w) o i h k)

    greeted : (s : TrunkSide) (w : ℕ) (x : Item) (o : Work) → s.peer ≡ t.dialer → side_at o.node t ≡ None → X o → IfGoes (greet t s w x o) X
    greeted s w x o i h k = greeted_up (side_where (λ v. is_up v || is_losing v) s.peer (fm.entries o.node.sides)) s w x o i h k

    greeted_waiting : (d : Option (TrunkId × TrunkSide)) (s : TrunkSide) (w : ℕ) (x : Item) (o : Work) → Passing is_waiting o.node d
        → s.peer ≡ t.dialer → side_at o.node t ≡ None → X o → IfGoes (greet_waiting d t s w x o) X
    greeted_waiting None s w x o p i h k = greeted s w x o i h k
    greeted_waiting (Some e) s w x o p i h k = if_either (nat_lt e.0.count t.count) _ _ X
        (greeted s w x (give_up (Some e) o) i (given_none (Some e) is_waiting o t p h) (given (Some e) is_waiting o open_waiting p k))
        (told t s Gone (ShakeMsg.Status Status.Nok) o (fresh_state s Gone o i h k))

    no_name : (o : Work) → side_at o.node t ≡ None → X o
        → IfGoes (fault (Fault.Shake ShakeFault.BadMessage) t (record { peer = t.dialer; introduction = untold; state = Gone }) o) X
    no_name o h k = fresh_fault (Fault.Shake ShakeFault.BadMessage) (record { peer = t.dialer; introduction = untold; state = Gone }) o refl h k

    named : (m : ShakeMsg) (w : ℕ) (o : Work) → side_at o.node t ≡ None → X o → IfGoes (awaits_name t m w o) X
    named (ShakeMsg.SendName flags creation name) w o h k =
        let s : TrunkSide = record { peer = t.dialer; introduction = introduction_by creation flags; state = Gone } in
        let x = Handshake (ShakeMsg.SendName flags creation name) in
        if_either (is_same name t.dialer) _ _ X
        (if_either (has_all_of flags mandatory) _ _ X
        (greeted_waiting (side_where is_waiting t.dialer (fm.entries o.node.sides)) s w x o
        (found is_waiting t.dialer o.node _ refl) refl h k)
        (fresh_fault (Fault.Shake ShakeFault.FlagsMissing) s o refl h k))
        (fresh_fault (Fault.Shake ShakeFault.Forged) s o refl h k)
    named (ShakeMsg.Status Status.Ok) w o h k = no_name o h k
    named (ShakeMsg.Status Status.OkSimultaneous) w o h k = no_name o h k
    named (ShakeMsg.Status Status.Nok) w o h k = no_name o h k
    named (ShakeMsg.Status Status.NotAllowed) w o h k = no_name o h k
    named (ShakeMsg.Status Status.Alive) w o h k = no_name o h k
    named (ShakeMsg.Status Status.True) w o h k = no_name o h k
    named (ShakeMsg.Status Status.False) w o h k = no_name o h k
    named (ShakeMsg.Challenge a b c d) w o h k = no_name o h k
    named (ShakeMsg.ChallengeReply a b) w o h k = no_name o h k
    named (ShakeMsg.ChallengeAck a) w o h k = no_name o h k

    pub fresh_kept : (m : Option ShakeMsg) (w : ℕ) (o : Work) → side_at o.node t ≡ None → X o → IfGoes (arrive_fresh m t w o) X
    fresh_kept None w o h k = no_name o h k
    fresh_kept (Some m) w o h k = subst (λ z. IfGoes z X) (sym (name_as t m w o)) (named m w o h k)

  module _ (t : TrunkId) (s : TrunkSide) (o : Work) (at : side_at o.node t ≡ Some s) (k : X o) where
    bad : IfGoes (fault (Fault.Shake ShakeFault.BadMessage) t s o) X
    bad = known_fault (Fault.Shake ShakeFault.BadMessage) t s o at k

    status : (v : ℕ) → is_open s.state ≡ true → Lone s.state → (m : ShakeMsg) → IfGoes (awaits_status t s v m o) X
    status v h r (ShakeMsg.Status Status.Ok) = lone_state t s (AwaitsChallenge v) o at h r k
    status v h r (ShakeMsg.Status Status.OkSimultaneous) = lone_state t s (AwaitsChallenge v) o at h r k
    status v h r (ShakeMsg.Status Status.Alive) = told t s (AwaitsChallenge v) (ShakeMsg.Status Status.True) o
        (lone_state t s (AwaitsChallenge v) o at h r k)
    status v h r (ShakeMsg.Status Status.Nok) = known_fault (Fault.Shake ShakeFault.Nok) t s o at k
    status v h r (ShakeMsg.Status Status.NotAllowed) = known_fault (Fault.Shake ShakeFault.Nok) t s o at k
    status v h r (ShakeMsg.Status Status.True) = bad
    status v h r (ShakeMsg.Status Status.False) = bad
    status v h r (ShakeMsg.SendName a b c) = bad
    status v h r (ShakeMsg.Challenge a b c d) = bad
    status v h r (ShakeMsg.ChallengeReply a b) = bad
    status v h r (ShakeMsg.ChallengeAck a) = bad

    challenged : (v : ℕ) → is_open s.state ≡ true → Lone s.state → (m : ShakeMsg) → IfGoes (awaits_challenge t s v m o) X
    challenged v h r (ShakeMsg.Challenge flags word creation name) =
        let s1 : TrunkSide = record { peer = s.peer; introduction = introduction_by creation flags; state = s.state } in
        if_either (is_same name s.peer) _ _ X (if_either (has_all_of flags mandatory) _ _ X
        (told t s1 (AwaitsAck v) (ShakeMsg.ChallengeReply v (digest_of o.node.cookie word)) o
        (side t (as_state s1 (AwaitsAck v)) o
        (Aged s at (record { peer = refl; holding = open_ages s.state (AwaitsAck v) h; over = open_starts s.state (AwaitsAck v) h }))
        (roomy o.node t s (as_state s1 (AwaitsAck v)) at (room_lone o.node s (as_state s1 (AwaitsAck v)) r)) k))
        (known_fault (Fault.Shake ShakeFault.FlagsMissing) t s o at k)) (known_fault (Fault.Shake ShakeFault.Forged) t s o at k)
    challenged v h r (ShakeMsg.Status Status.Ok) = bad
    challenged v h r (ShakeMsg.Status Status.OkSimultaneous) = bad
    challenged v h r (ShakeMsg.Status Status.Alive) = bad
    challenged v h r (ShakeMsg.Status Status.Nok) = bad
    challenged v h r (ShakeMsg.Status Status.NotAllowed) = bad
    challenged v h r (ShakeMsg.Status Status.True) = bad
    challenged v h r (ShakeMsg.Status Status.False) = bad
    challenged v h r (ShakeMsg.SendName a b c) = bad
    challenged v h r (ShakeMsg.ChallengeReply a b) = bad
    challenged v h r (ShakeMsg.ChallengeAck a) = bad

    acknowledged : (v : ℕ) → is_open s.state ≡ true → Lone s.state → (m : ShakeMsg) → IfGoes (awaits_ack t s v m o) X
    acknowledged v h r (ShakeMsg.ChallengeAck digest) = if_either (is_answered o.node.cookie v digest) _ _ X
        (lone_state t s Up o at h r k) (known_fault (Fault.Shake ShakeFault.BadDigest) t s o at k)
    acknowledged v h r (ShakeMsg.Status Status.Ok) = bad
    acknowledged v h r (ShakeMsg.Status Status.OkSimultaneous) = bad
    acknowledged v h r (ShakeMsg.Status Status.Alive) = bad
    acknowledged v h r (ShakeMsg.Status Status.Nok) = bad
    acknowledged v h r (ShakeMsg.Status Status.NotAllowed) = bad
    acknowledged v h r (ShakeMsg.Status Status.True) = bad
    acknowledged v h r (ShakeMsg.Status Status.False) = bad
    acknowledged v h r (ShakeMsg.SendName a b c) = bad
    acknowledged v h r (ShakeMsg.Challenge a b c d) = bad
    acknowledged v h r (ShakeMsg.ChallengeReply a b) = bad

    ended_up : (d : Option (TrunkId × TrunkSide)) → Passing is_up o.node d → X (up_is_lost d o)
    ended_up None p = k
    ended_up (Some e) p = aged_state e.0 e.1 Losing o p.0 (λ h. refl) (λ h. refl)
        (subst (λ x. Room o.node e.1 (as_state e.1 x)) (up_lost e.1.state p.1) (room_lost o.node e.1)) k

    not_up : (e : TrunkId × TrunkSide) → is_open s.state ≡ true → side_at o.node e.0 ≡ Some e.1 → is_up e.1.state ≡ true → t ≡ e.0 → ⊥
    not_up e h i u j = two s.state h (ap (λ (z : TrunkSide). is_up z.state) (same_Some s e.1 (sym at ∙ ap (side_at o.node) j ∙ i)) ∙ u)
      where
        two : (v : State) → is_open v ≡ true → is_up v ≡ true → ⊥
        two Up h u = cc
        two _ h u = cc

    still_at : (d : Option (TrunkId × TrunkSide)) → Passing is_up o.node d → is_open s.state ≡ true
        → side_at ((up_is_lost d o).node) t ≡ Some s
    still_at None p h = at
    still_at (Some e) p h = still_there o e.0 t (as_state e.1 Losing) s at (not_up e h p.0 p.1)

    abbrev FreeIn : Work → Type 0
    FreeIn o' = (u : TrunkId) (v : TrunkSide) → side_at o'.node u ≡ Some v → v.peer ≡ s.peer → holds v.state ≡ true → ⊥

    -- once the older connection is lost, it is found, or there was none
    free : (d : Option (TrunkId × TrunkSide)) → side_where is_up s.peer (fm.entries o.node.sides) ≡ d
        → side_where is_losing s.peer (fm.entries ((up_is_lost d o).node.sides)) ≡ None → FreeIn (up_is_lost d o)
    free None i j u v h p q =
        let at_u = sym (fm.get-entries o.node.sides u) ∙ h in
        none (is_up v.state) (is_losing v.state) (side_where_none is_up s.peer (fm.entries o.node.sides) u v i at_u p)
        (side_where_none is_losing s.peer (fm.entries o.node.sides) u v j at_u p) q
      where
        none : (a b : Bool) → a ≡ false → b ≡ false → (a || b) ≡ true → ⊥
        none false true x y z = cc
        none _ _ x y z = cc
    free (Some e) i j u v h p q =
        let f = side_where_found is_up s.peer (fm.entries o.node.sides) e (fm.entries_sorted o.node.sides) i in
        let o' = up_is_lost (Some e) o in
        let c : true ≡ false = side_where_none is_losing s.peer (fm.entries o'.node.sides) e.0 (as_state e.1 Losing) j
        (sym (fm.get-entries o'.node.sides e.0) ∙ set_there o e.0 (as_state e.1 Losing)) f.peer in cc

    gone_on : (d : Option (TrunkId × TrunkSide)) (w : ℕ) (o' : Work) → side_at o'.node t ≡ Some s → is_open s.state ≡ true
        → (is_gone s.state ≡ false) × (asks s.state ≡ true) → (d ≡ None → FreeIn o') → X o' → X (challenge_or_park d t s w o')
    gone_on None w o' a h r f j = told t s (Accepting w) (challenge o'.node w) o'
        (open_state t s (Accepting w) o' a h (room_free o'.node s (as_state s (Accepting w)) r.0 r.1 (f refl)) j)
    gone_on (Some e) w o' a h r f j = open_state t s (Parked w) o' a h (room_parked o'.node s w r.1) j

    asked : (v : ℕ) → is_open s.state ≡ true → (is_gone s.state ≡ false) × (asks s.state ≡ true) → (m : ShakeMsg)
        → IfGoes (awaits_true t s v m o) X
    asked v h r (ShakeMsg.Status Status.True) =
        let d = side_where is_up s.peer (fm.entries o.node.sides) in
        let p = found is_up s.peer o.node d refl in
        gone_on (side_where is_losing s.peer (fm.entries ((up_is_lost d o).node.sides))) v (up_is_lost d o)
        (still_at d p h) h r (free d refl)
        (ended_up d p)
    asked v h r (ShakeMsg.Status Status.False) = known_fault (Fault.Shake ShakeFault.Nok) t s o at k
    asked v h r _ = bad

    replied : (v : ℕ) → is_open s.state ≡ true → Lone s.state → (m : ShakeMsg) → IfGoes (awaits_reply t s v m o) X
    replied v h r (ShakeMsg.ChallengeReply word digest) = if_either (is_answered o.node.cookie v digest) _ _ X
        (told t s Up (ShakeMsg.ChallengeAck (digest_of o.node.cookie word)) o (lone_state t s Up o at h r k))
        (known_fault (Fault.Shake ShakeFault.BadDigest) t s o at k)
    replied v h r (ShakeMsg.Status Status.Ok) = bad
    replied v h r _ = bad

    by_rule : (v : State) → s.state ≡ v → (m : ShakeMsg) → IfGoes (handshake_by v t s m o) X
    by_rule (AwaitsStatus v) h m = status v (ap is_open h) (lone_as (AwaitsStatus v) s.state h (refl, refl, refl)) m
    by_rule (AwaitsChallenge v) h m = challenged v (ap is_open h) (lone_as (AwaitsChallenge v) s.state h (refl, refl, refl)) m
    by_rule (AwaitsAck v) h m = acknowledged v (ap is_open h) (lone_as (AwaitsAck v) s.state h (refl, refl, refl)) m
    by_rule (Asked v) h m = asked v (ap is_open h) (ap is_gone h, ap asks h) m
    by_rule (Accepting v) h m = replied v (ap is_open h) (lone_as (Accepting v) s.state h (refl, refl, refl)) m
    by_rule _ h m = bad

    pub shaken : (v : State) → s.state ≡ v → (m : ShakeMsg) → IfGoes (handshake_at v t s m o) X
    shaken v h m = subst (λ z. IfGoes z X) (sym (handshake_as v t s m o)) (by_rule v h m)

    module _ (x : Item) (taken : s.state ≡ Up → Arrivals.is_good o.node s x ≡ true → X (take_item s.peer x o)) where
      on_up_kept : s.state ≡ Up → IfGoes (on_up t s x o) X
      on_up_kept u = go (Arrivals.is_good o.node s x) refl
        where
          go : (b : Bool) → Arrivals.is_good o.node s x ≡ b
              → IfGoes (cond b (Accepts (Answer.Took (kind_of x)) (take_item s.peer x o)) (fault Fault.Forged t s o)) X
          go true e = taken u e
          go false e = known_fault Fault.Forged t s o at k

      signalled : (v : State) → s.state ≡ v → IfGoes (signal_at v t s x o) X
      signalled Up h = on_up_kept h
      signalled _ h = bad

      pub known_kept : (m : Option ShakeMsg) → IfGoes (arrive_at m t s x o) X
      known_kept None = signalled s.state refl
      known_kept (Some m) = shaken s.state refl m

    lost_kept : (v : State) → s.state ≡ v → IfGoes (lose_at v t s o) X
    lost_kept Up h = aged_state t s Losing o at (λ i. refl) (λ i. refl)
        (subst (λ x. Room o.node s (as_state s x)) (ap lost h) (room_lost o.node s)) k
    lost_kept Losing h = tt
    lost_kept Gone h = tt
    lost_kept _ h = open_state t s Gone o at (ap is_open h) (room_gone o.node s (as_state s Gone) refl) k

  pub lose_kept : (n : Node) (t : TrunkId) (s : Option TrunkSide) → side_at n t ≡ s → X (at_work n) → IfGoes (lose n t s) X
  lose_kept n t None h k = tt
  lose_kept n t (Some s) h k = lost_kept t s (at_work n) h k s.state refl

  -- a swept connection
  unparked_by : (v : State) (t : TrunkId) (s : TrunkSide) (o : Work) → s.state ≡ v → ((w : ℕ) → v ≡ Parked w
      → X (set_state t s (Accepting w) o))
      → X o → X (released_by v t s o)
  unparked_by (Parked w) t s o e f k = told t s (Accepting w) (challenge o.node w) o (f w refl)
  unparked_by _ t s o e f k = k

  -- a side that is parked behind y's goes on
  abbrev pub Unparks : Name → Work → Type 0
  Unparks y o = (u : TrunkId) (b : TrunkSide) (w : ℕ) → side_at o.node u ≡ Some b → b.peer ≡ y → b.state ≡ Parked w → X o
      → X (set_state u b (Accepting w) o)

  unparked : (y : Name) (d : Option (TrunkId × TrunkSide)) (o : Work) → side_where is_parked y (fm.entries o.node.sides) ≡ d
      → Unparks y o → X o
      → X (release_parked d o)
  unparked y None o h f k = k
  unparked y (Some e) o h f k =
      let v = side_where_found is_parked y (fm.entries o.node.sides) e (fm.entries_sorted o.node.sides) h in
      unparked_by e.1.state e.0 e.1 o refl (λ w i. f e.0 e.1 w (fm.get-entries o.node.sides e.0 ∙ v.there) v.peer i k) k

  pub swept_kept : (t : TrunkId) (s : TrunkSide) (o : Work) → side_at o.node t ≡ Some s → Unparks s.peer (set_state t s Gone o) → X o
      → X (close_if_swept t s o)
  swept_kept t s o h f k = go (has_records s.peer o.node) refl
    where
      go : (b : Bool) → has_records s.peer o.node ≡ b → X (cond b o (close_side t s o))
      go true e = k
      go false e =
          let o1 = set_state t s Gone o in
          unparked s.peer (side_where is_parked s.peer (fm.entries o1.node.sides)) o1 refl f
          (side t (as_state s Gone) o (Shut s h refl refl e) (roomy o.node t s (as_state s Gone) h (room_gone o.node s
          (as_state s Gone) refl)) k)

-- an attempt that was parked is open
pub parked_ages : (b : TrunkSide) (w : ℕ) → b.state ≡ Parked w → Ages b (as_state b (Accepting w))
parked_ages b w e = record {
  peer = refl;
  holding = open_ages b.state (Accepting w) (ap is_open e);
  over = open_starts b.state (Accepting w) (ap is_open e);
}
