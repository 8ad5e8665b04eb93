-- The rules of the handshake once more, written out for each state and message: the form that the proofs go by.
use Rattle.std.specs.FinMap as fm
use Rattle.erl_handshake.specs.declared.turn.Progress.TheVariants as verdict
use Rattle.erl_handshake.specs.declared.fault.ShakeFault.{ShakeFault}
use Rattle.std.proofs.Common.{◌≡◌, ℕ, Bool, true, false, cond, not, refl, sym, ap, ◌∙◌, nat_lt, ◌&&◌, ◌||◌, Option, Some, None}
use Rattle.std.specs.Option.{is_some, option_map}
use Rattle.std.specs.Ordering.{is_gt}
use Rattle.conn_core.specs.declared.arrival.Fault.{Fault}
use Rattle.dist_model.specs.Admission.{admit, after_name, answer_to, give_up, give_up_if, hears_name, stands_after}
use Rattle.dist_model.specs.Commands.{Accepts, Outcome}
use Rattle.dist_model.specs.declared.report.Answer.{Answer}
use Rattle.dist_model.specs.Handshake.{acceptor_side, challenge, dialer_side, up_is_lost, fault}
use Rattle.dist_model.specs.Handshake.{send_challenge_or_park, handshake_at, handshake_on, identity, set_state, write}
use Rattle.dist_model.specs.Items.{Handshake, Item, kind_of}
use Rattle.dist_model.specs.Node.{side_where}
use Rattle.dist_model.specs.Sides.{Accepting, Asked, AwaitsAck, AwaitsChallenge, AwaitsStatus, Gone}
use Rattle.dist_model.specs.Sides.{State, TrunkSide, Up, is_dialing, is_losing, is_up, is_waiting}
use Rattle.dist_model.specs.Work.{Work}
use Rattle.erl_handshake.specs.Admission.{admission, is_simultaneous, progress_of, status_due}
use Rattle.erl_handshake.specs.declared.admission.OtherConnections.{OtherConnections}
use Rattle.dist_model.specs.declared.report.Kind.{Kind}
use Rattle.dist_model.proofs.GivesWay.{given_stay}
use Rattle.erl_handshake.specs.Digest.{digest_of}
use Rattle.erl_handshake.specs.Flags.{has_all_of, mandatory}
use Rattle.erl_handshake.specs.Roles.{acceptor_ends, dialer_ends, is_answered, is_same, on_challenge, on_name}
use Rattle.erl_handshake.specs.declared.acceptor.AcceptorState.{AcceptorState}
use Rattle.erl_handshake.specs.declared.dialer.DialerState.{DialerState}
use Rattle.erl_handshake.specs.declared.message.ShakeMsg.{ShakeMsg}
use Rattle.erl_handshake.specs.declared.status.Status.{Status}
use Rattle.erl_names.specs.Order.{name_cmp}
use Rattle.erl_names.specs.declared.trunk.TrunkId.{TrunkId}
use Rattle.erl_handshake.specs.Roles.{introduction_by}
use Rattle.dist_model.specs.Sides.{untold}

-- the dialer awaits the status
abbrev pub awaits_status : TrunkId → TrunkSide → ℕ → ShakeMsg → Work → Outcome
awaits_status t s v (ShakeMsg.Status Status.Ok) o =
    Accepts (Answer.Took (kind_of (Handshake (ShakeMsg.Status Status.Ok)))) (set_state t s (AwaitsChallenge v) o)
awaits_status t s v (ShakeMsg.Status Status.OkSimultaneous) o =
    Accepts (Answer.Took (kind_of (Handshake (ShakeMsg.Status Status.OkSimultaneous)))) (set_state t s (AwaitsChallenge v) o)
awaits_status t s v (ShakeMsg.Status Status.Alive) o =
    Accepts (Answer.Took (kind_of (Handshake (ShakeMsg.Status Status.Alive))))
    (write t s.peer (ShakeMsg.Status Status.True) (set_state t s (AwaitsChallenge v) o))
awaits_status t s v (ShakeMsg.Status Status.Nok) o = fault (Fault.Shake ShakeFault.Nok) t s o
awaits_status t s v (ShakeMsg.Status Status.NotAllowed) o = fault (Fault.Shake ShakeFault.Nok) t s o
awaits_status t s v _ o = fault (Fault.Shake ShakeFault.BadMessage) t s o

-- the dialer awaits the challenge
abbrev pub awaits_challenge : TrunkId → TrunkSide → ℕ → ShakeMsg → Work → Outcome
awaits_challenge t s v (ShakeMsg.Challenge flags word creation name) o =
    cond (is_same name s.peer)
    (cond (has_all_of flags mandatory)
    (Accepts (Answer.Took (kind_of (Handshake (ShakeMsg.Challenge flags word creation name)))) (write t s.peer
    (ShakeMsg.ChallengeReply v (digest_of o.node.cookie word))
    (set_state t (record { peer = s.peer; introduction = introduction_by creation flags; state = s.state }) (AwaitsAck v) o)))
    (fault (Fault.Shake ShakeFault.FlagsMissing) t s o))
    (fault (Fault.Shake ShakeFault.Forged) t s o)
awaits_challenge t s v _ o = fault (Fault.Shake ShakeFault.BadMessage) t s o

-- the dialer awaits the acceptance
abbrev pub awaits_ack : TrunkId → TrunkSide → ℕ → ShakeMsg → Work → Outcome
awaits_ack t s v (ShakeMsg.ChallengeAck digest) o =
    cond (is_answered o.node.cookie v digest)
    (Accepts (Answer.Took (kind_of (Handshake (ShakeMsg.ChallengeAck digest)))) (set_state t s Up o))
    (fault (Fault.Shake ShakeFault.BadDigest) t s o)
awaits_ack t s v _ o = fault (Fault.Shake ShakeFault.BadMessage) t s o

abbrev pub awaits_true : TrunkId → TrunkSide → ℕ → ShakeMsg → Work → Outcome
awaits_true t s w (ShakeMsg.Status Status.True) o =
    Accepts (Answer.Took (kind_of (Handshake (ShakeMsg.Status Status.True))))
    (send_challenge_or_park t s w (up_is_lost (side_where is_up s.peer (fm.entries o.node.sides)) o))
awaits_true t s w (ShakeMsg.Status Status.False) o = fault (Fault.Shake ShakeFault.Nok) t s o
awaits_true t s w _ o = fault (Fault.Shake ShakeFault.BadMessage) t s o

-- the acceptor checks the dialer's digest
abbrev pub awaits_reply : TrunkId → TrunkSide → ℕ → ShakeMsg → Work → Outcome
awaits_reply t s w (ShakeMsg.ChallengeReply word digest) o =
    cond (is_answered o.node.cookie w digest) (Accepts
    (Answer.Took (kind_of (Handshake (ShakeMsg.ChallengeReply word digest))))
    (write t s.peer (ShakeMsg.ChallengeAck (digest_of o.node.cookie word)) (set_state t s Up o))) (fault
    (Fault.Shake ShakeFault.BadDigest) t s o)
awaits_reply t s w _ o = fault (Fault.Shake ShakeFault.BadMessage) t s o

abbrev pub handshake_by : State → TrunkId → TrunkSide → ShakeMsg → Work → Outcome
handshake_by (AwaitsStatus v) t s m o = awaits_status t s v m o
handshake_by (AwaitsChallenge v) t s m o = awaits_challenge t s v m o
handshake_by (AwaitsAck v) t s m o = awaits_ack t s v m o
handshake_by (Asked v) t s m o = awaits_true t s v m o
handshake_by (Accepting v) t s m o = awaits_reply t s v m o
handshake_by _ t s m o = fault (Fault.Shake ShakeFault.BadMessage) t s o

status_as : (t : TrunkId) (s : TrunkSide) (v : ℕ) (m : ShakeMsg) (o : Work)
    → handshake_at (AwaitsStatus v) t s m o ≡ awaits_status t s v m o
status_as t s v (ShakeMsg.Status Status.Ok) o = refl
status_as t s v _ o = refl

challenge_as : (t : TrunkId) (s : TrunkSide) (v : ℕ) (m : ShakeMsg) (o : Work)
    → handshake_at (AwaitsChallenge v) t s m o ≡ awaits_challenge t s v m o
challenge_as t s v (ShakeMsg.Challenge f w c n) o =
    elim (is_same n s.peer) as (λ a. handshake_on t s (ShakeMsg.Challenge f w c n) (dialer_side s ((on_challenge
    (cond a (cond (has_all_of f mandatory) None (Some ShakeFault.FlagsMissing)) (Some ShakeFault.Forged))
    (identity o.node) v w (introduction_by c f)).state)) ((on_challenge (cond a
    (cond (has_all_of f mandatory) None (Some ShakeFault.FlagsMissing))
    (Some ShakeFault.Forged)) (identity o.node) v w (introduction_by c f)).next) o
    ≡ cond a (cond (has_all_of f mandatory) (Accepts (Answer.Took (kind_of (Handshake (ShakeMsg.Challenge f w c n)))) (write t
    s.peer (ShakeMsg.ChallengeReply v (digest_of o.node.cookie w))
    (set_state t (record { peer = s.peer; introduction = introduction_by c f; state = s.state }) (AwaitsAck v) o))) (fault (Fault.Shake
    ShakeFault.FlagsMissing) t s o)) (fault (Fault.Shake ShakeFault.Forged) t s o)) [
      | true ↦
          elim (has_all_of f mandatory) as (λ b. handshake_on t s (ShakeMsg.Challenge f w c n)
          (dialer_side s ((on_challenge (cond b None (Some ShakeFault.FlagsMissing)) (identity o.node) v w (introduction_by c f)).state))
          ((on_challenge (cond b None (Some ShakeFault.FlagsMissing)) (identity o.node) v w (introduction_by c f)).next) o
          ≡ cond b (Accepts (Answer.Took (kind_of (Handshake (ShakeMsg.Challenge f w c n)))) (write t s.peer
          (ShakeMsg.ChallengeReply v (digest_of o.node.cookie w))
          (set_state t (record { peer = s.peer; introduction = introduction_by c f; state = s.state }) (AwaitsAck v) o))) (fault (Fault.Shake
          ShakeFault.FlagsMissing) t s o)) [ true ↦ refl | false ↦ refl ]
      | false ↦ refl
    ]
challenge_as t s v _ o = refl

ack_as : (t : TrunkId) (s : TrunkSide) (v : ℕ) (m : ShakeMsg) (o : Work) → handshake_at (AwaitsAck v) t s m o ≡ awaits_ack t s v m o
ack_as t s v (ShakeMsg.ChallengeAck d) o =
    elim (is_answered o.node.cookie v d) as (λ a. handshake_on t s (ShakeMsg.ChallengeAck d) (dialer_side s ((cond a
    (record { state = DialerState.Done s.introduction; next = record { send = None; progress = verdict.Done } })
    (dialer_ends ShakeFault.BadDigest)).state)) ((cond a (record
    { state = DialerState.Done s.introduction; next = record { send = None; progress = verdict.Done } }) (dialer_ends
    ShakeFault.BadDigest)).next) o
    ≡ cond a (Accepts (Answer.Took (kind_of (Handshake (ShakeMsg.ChallengeAck d)))) (set_state t s Up o))
    (fault (Fault.Shake ShakeFault.BadDigest) t s o)) [ true ↦ refl | false ↦ refl ]
ack_as t s v _ o = refl

true_as : (t : TrunkId) (s : TrunkSide) (v : ℕ) (m : ShakeMsg) (o : Work) → handshake_at (Asked v) t s m o ≡ awaits_true t s v m o
true_as t s v (ShakeMsg.Status Status.Ok) o = refl
true_as t s v _ o = refl

reply_as : (t : TrunkId) (s : TrunkSide) (v : ℕ) (m : ShakeMsg) (o : Work) → handshake_at (Accepting v) t s m o ≡ awaits_reply t s v m o
reply_as t s v (ShakeMsg.ChallengeReply w d) o =
    elim (is_answered o.node.cookie v d) as
    (λ a.
    handshake_on t s (ShakeMsg.ChallengeReply w d)
    (acceptor_side s ((cond a (record {
      state = AcceptorState.Done s.introduction;
      next = record {
        send = Some
            (ShakeMsg.ChallengeAck (digest_of o.node.cookie w));
        progress = verdict.Done;
      };
    }) (acceptor_ends ShakeFault.BadDigest)).state))
    ((cond a (record {
      state = AcceptorState.Done s.introduction;
      next = record {
        send = Some
            (ShakeMsg.ChallengeAck (digest_of o.node.cookie w));
        progress = verdict.Done;
      };
    }) (acceptor_ends ShakeFault.BadDigest)).next) o
    ≡ cond a (Accepts (Answer.Took (kind_of (Handshake (ShakeMsg.ChallengeReply w d))))
    (write t s.peer (ShakeMsg.ChallengeAck (digest_of o.node.cookie w)) (set_state t s Up o))) (fault
    (Fault.Shake ShakeFault.BadDigest) t s o)) [ true ↦ refl | false ↦ refl ]
reply_as t s v _ o = refl

pub handshake_as : (a : State) (t : TrunkId) (s : TrunkSide) (m : ShakeMsg) (o : Work) → handshake_at a t s m o ≡ handshake_by a t s m o
handshake_as (AwaitsStatus v) t s m o = status_as t s v m o
handshake_as (AwaitsChallenge v) t s m o = challenge_as t s v m o
handshake_as (AwaitsAck v) t s m o = ack_as t s v m o
handshake_as (Asked v) t s m o = true_as t s v m o
handshake_as (Accepting v) t s m o = reply_as t s v m o
handshake_as _ t s m o = refl

-- ---- a new side

-- the status and the challenge are sent
abbrev pub accepts : TrunkId → TrunkSide → ℕ → ShakeMsg → Item → Work → Outcome
accepts t s w status x o =
    Accepts (Answer.Took (kind_of x)) (write t s.peer (challenge o.node w) (write t s.peer status (set_state t s (Accepting w) o)))

-- rules b, c and d, once no older attempt of this dialer is left
abbrev pub greet_dialing : Option (TrunkId × TrunkSide) → TrunkId → TrunkSide → ℕ → Item → Work → Outcome
greet_dialing None t s w x o = accepts t s w (ShakeMsg.Status Status.Ok) x o
greet_dialing (Some e) t s w x o =
    cond (is_gt (name_cmp t.dialer o.node.mint.name))
    (accepts t s w (ShakeMsg.Status Status.OkSimultaneous) x (give_up (Some e) o))
    (Accepts (Answer.Took (kind_of x)) (write t s.peer (ShakeMsg.Status Status.Nok) (set_state t s Gone o)))

abbrev pub greet_up : Option (TrunkId × TrunkSide) → TrunkId → TrunkSide → ℕ → Item → Work → Outcome
greet_up None t s w x o = greet_dialing (side_where is_dialing s.peer (fm.entries o.node.sides)) t s w x o
greet_up (Some e) t s w x o = Accepts (Answer.Took (kind_of x)) (write t s.peer (ShakeMsg.Status Status.Alive) (set_state t s (Asked w) o))

abbrev pub greet : TrunkId → TrunkSide → ℕ → Item → Work → Outcome
greet t s w x o = greet_up (side_where (λ v. is_up v || is_losing v) s.peer (fm.entries o.node.sides)) t s w x o

abbrev pub greet_waiting : Option (TrunkId × TrunkSide) → TrunkId → TrunkSide → ℕ → Item → Work → Outcome
greet_waiting None t s w x o = greet t s w x o
greet_waiting (Some e) t s w x o =
    cond (nat_lt e.0.count t.count) (greet t s w x (give_up (Some e) o))
    (Accepts (Answer.Broken (Fault.Shake ShakeFault.Superseded)) (write t s.peer (ShakeMsg.Status Status.Nok) (set_state t s Gone o)))

-- a Fresh side gets its first message
abbrev pub awaits_name : TrunkId → ShakeMsg → ℕ → Work → Outcome
awaits_name t (ShakeMsg.SendName flags creation name) w o =
    let s : TrunkSide = record { peer = t.dialer; introduction = introduction_by creation flags; state = Gone } in
    cond (is_same name t.dialer)
    (cond (has_all_of flags mandatory) (greet_waiting (side_where is_waiting t.dialer (fm.entries o.node.sides)) t s w
    (Handshake (ShakeMsg.SendName flags creation name)) o) (fault (Fault.Shake ShakeFault.FlagsMissing) t s o))
    (fault (Fault.Shake ShakeFault.Forged) t s o)
awaits_name t _ w o = fault (Fault.Shake ShakeFault.BadMessage) t (record { peer = t.dialer; introduction = untold; state = Gone }) o

-- what is done once the others are known
abbrev told_by : OtherConnections → TrunkId → TrunkSide → ℕ → Work → Outcome
told_by u t s w o =
    let due = admission t.dialer o.node.mint.name t.count u in
    Accepts (answer_to due.progress)
    (stands_after due.status t s w
    (write t s.peer (ShakeMsg.Status due.status)
    (give_up_if due.ends_dialing is_dialing t.dialer
    (give_up_if due.ends_waiting is_waiting t.dialer o))))

-- no older attempt of this dialer: whether it is connected, and whether this node dials it
abbrev greeted : (c d : Bool) → TrunkId → TrunkSide → ℕ → Item → Work → Outcome
greeted true d t s w x o = Accepts (Answer.Took (kind_of x)) (write t s.peer (ShakeMsg.Status Status.Alive) (set_state t s (Asked w) o))
greeted false true t s w x o =
    cond (is_gt (name_cmp t.dialer o.node.mint.name))
    (accepts t s w (ShakeMsg.Status Status.OkSimultaneous) x (give_up (side_where is_dialing t.dialer (fm.entries o.node.sides)) o))
    (Accepts (Answer.Took (kind_of x)) (write t s.peer (ShakeMsg.Status Status.Nok) (set_state t s Gone o)))
greeted false false t s w x o = accepts t s w (ShakeMsg.Status Status.Ok) x o

-- the form that the proofs go by is this
greet_dialing_as : (d : Option (TrunkId × TrunkSide)) (t : TrunkId) (s : TrunkSide) (w : ℕ) (x : Item) (o : Work)
    → s.peer ≡ t.dialer → side_where is_dialing s.peer (fm.entries o.node.sides) ≡ d
    → greeted false (is_some d) t s w x o ≡ greet_dialing d t s w x o
greet_dialing_as None t s w x o e h = refl
greet_dialing_as (Some d) t s w x o e h = λ i. cond (is_gt (name_cmp t.dialer o.node.mint.name))
    (accepts t s w (ShakeMsg.Status Status.OkSimultaneous) x
    (give_up ((ap (λ y. side_where is_dialing y (fm.entries o.node.sides)) (sym e) ∙ h) i) o))
    (Accepts (Answer.Took (kind_of x)) (write t s.peer (ShakeMsg.Status Status.Nok) (set_state t s Gone o)))

greet_as : (t : TrunkId) (s : TrunkSide) (w : ℕ) (x : Item) (o : Work) → s.peer ≡ t.dialer
    → greeted (is_some (side_where (λ v. is_up v || is_losing v) t.dialer (fm.entries o.node.sides)))
    (is_some (side_where is_dialing t.dialer (fm.entries o.node.sides))) t s w x o ≡ greet t s w x o
greet_as t s w x o e =
    (λ i. greeted (is_some (side_where (λ v. is_up v || is_losing v) (sym e i) (fm.entries o.node.sides)))
    (is_some (side_where is_dialing (sym e i) (fm.entries o.node.sides))) t s w x o)
    ∙ go (side_where (λ v. is_up v || is_losing v) s.peer (fm.entries o.node.sides))
  where
    go : (u : Option (TrunkId × TrunkSide))
        → greeted (is_some u) (is_some (side_where is_dialing s.peer (fm.entries o.node.sides))) t s w x o ≡ greet_up u t s w x o
    go None = greet_dialing_as (side_where is_dialing s.peer (fm.entries o.node.sides)) t s w x o e refl
    go (Some u) = refl

abbrev said : TrunkId → TrunkSide → ℕ → Work → Status → Outcome
said t s w o u =
    Accepts (answer_to (progress_of u))
    (stands_after u t s w (write t s.peer (ShakeMsg.Status u) (give_up_if (is_simultaneous u) is_dialing t.dialer o)))

-- without the node's own attempt
abbrev alone : TrunkId → Work → Work
alone t o = give_up (side_where is_dialing t.dialer (fm.entries o.node.sides)) o

-- where no older attempt of the dialer is left
told_none : (c d : Bool) (t : TrunkId) (s : TrunkSide) (w : ℕ) (x : Item) (o : Work) → kind_of x ≡ Kind.SendName
    → told_by (record { waiting = None; connected = c; dialing = d }) t s w o ≡ greeted c d t s w x o
told_none true d t s w x o k =
    λ i. Accepts (Answer.Took (sym k i)) (write t s.peer (ShakeMsg.Status Status.Alive) (set_state t s (Asked w) o))
told_none false false t s w x o k =
    λ i. Accepts (Answer.Took (sym k i))
    (write t s.peer (challenge o.node w) (write t s.peer (ShakeMsg.Status Status.Ok) (set_state t s (Accepting w) o)))
told_none false true t s w x o k = go (is_gt (name_cmp t.dialer o.node.mint.name))
  where
    go : (b : Bool) → said t s w o (cond b Status.OkSimultaneous Status.Nok)
        ≡ cond b (accepts t s w (ShakeMsg.Status Status.OkSimultaneous) x (alone t o))
        (Accepts (Answer.Took (kind_of x)) (write t s.peer (ShakeMsg.Status Status.Nok) (set_state t s Gone o)))
    go true =
        λ i. Accepts (Answer.Took (sym k i)) (write t s.peer (challenge (alone t o).node w)
        (write t s.peer (ShakeMsg.Status Status.OkSimultaneous) (set_state t s (Accepting w) (alone t o))))
    go false = λ i. Accepts (Answer.Took (sym k i)) (write t s.peer (ShakeMsg.Status Status.Nok) (set_state t s Gone o))

-- what is due, by whether the older attempt is the later one
abbrev due : (late c d : Bool) → TrunkId → Work → Status
due late c d t o =
    cond late Status.Nok (status_due t.dialer o.node.mint.name t.count (record { waiting = None; connected = c; dialing = d }))

abbrev done : (late c d : Bool) → TrunkId → TrunkSide → ℕ → Work → Outcome
done late c d t s w o = Accepts (answer_to (cond late (verdict.Ended ShakeFault.Superseded) (progress_of (due late c d t o))))
    (stands_after (due late c d t o) t s w (write t s.peer (ShakeMsg.Status (due late c d t o))
    (give_up_if (is_simultaneous (due late c d t o)) is_dialing t.dialer (give_up_if (true && not late) is_waiting t.dialer o))))

abbrev after : (c d : Bool) → TrunkId → TrunkSide → ℕ → Work → Option (TrunkId × TrunkSide) → Outcome
after c d t s w o z = Accepts (answer_to (progress_of (due false c d t o)))
    (stands_after (due false c d t o) t s w (write t s.peer (ShakeMsg.Status (due false c d t o))
    (give_up_if (is_simultaneous (due false c d t o)) is_dialing t.dialer (give_up z o))))

-- of two attempts of the dialer the later goes on
told_some : (e : TrunkId × TrunkSide) (c d : Bool) (t : TrunkId) (s : TrunkSide) (w : ℕ) (x : Item) (o : Work)
    → kind_of x ≡ Kind.SendName → side_where is_waiting t.dialer (fm.entries o.node.sides) ≡ Some e
    → told_by (record { waiting = Some e.0.count; connected = c; dialing = d }) t s w o
    ≡ cond (nat_lt e.0.count t.count) (greeted c d t s w x (give_up (Some e) o))
    (Accepts (Answer.Broken (Fault.Shake ShakeFault.Superseded)) (write t s.peer (ShakeMsg.Status Status.Nok) (set_state t s Gone o)))
told_some e c d t s w x o k h = go (nat_lt e.0.count t.count)
  where
    go : (b : Bool) → done (not b) c d t s w o ≡ cond b (greeted c d t s w x (give_up (Some e) o))
        (Accepts (Answer.Broken (Fault.Shake ShakeFault.Superseded)) (write t s.peer (ShakeMsg.Status Status.Nok) (set_state t s Gone o)))
    go true = ap (after c d t s w o) h ∙ told_none c d t s w x (give_up (Some e) o) k
    go false = refl

abbrev is_connected_at : TrunkId → Work → Bool
is_connected_at t o = is_some (side_where (λ v. is_up v || is_losing v) t.dialer (fm.entries o.node.sides))

abbrev is_dialed_at : TrunkId → Work → Bool
is_dialed_at t o = is_some (side_where is_dialing t.dialer (fm.entries o.node.sides))

abbrev told_beside : Option (TrunkId × TrunkSide) → TrunkId → TrunkSide → ℕ → Work → Outcome
told_beside z t s w o =
    told_by (record {
      waiting = option_map (λ (v : TrunkId × TrunkSide). v.0.count) z;
      connected = is_connected_at t o;
      dialing = is_dialed_at t o;
    }) t s w o

admit_as : (t : TrunkId) (s : TrunkSide) (w : ℕ) (x : Item) (o : Work) → kind_of x ≡ Kind.SendName → s.peer ≡ t.dialer
    → admit t s w o ≡ greet_waiting (side_where is_waiting t.dialer (fm.entries o.node.sides)) t s w x o
admit_as t s w x o k p = go (side_where is_waiting t.dialer (fm.entries o.node.sides)) refl
  where
    go : (e : Option (TrunkId × TrunkSide)) → side_where is_waiting t.dialer (fm.entries o.node.sides) ≡ e
        → admit t s w o ≡ greet_waiting e t s w x o
    go None h = ap (λ z. told_beside z t s w o) h ∙ told_none (is_connected_at t o) (is_dialed_at t o) t s w x o k ∙ greet_as t s w x o p
    go (Some e) h =
        let g = given_stay o.node t.dialer e h in
        ap (λ z. told_beside z t s w o) h
        ∙ told_some e (is_connected_at t o) (is_dialed_at t o) t s w x o k h
        ∙ (λ i. cond (nat_lt e.0.count t.count) (greeted (sym g.0 i) (sym g.1 i) t s w x (give_up (Some e) o)) (Accepts
        (Answer.Broken (Fault.Shake ShakeFault.Superseded))
        (write t s.peer (ShakeMsg.Status Status.Nok) (set_state t s Gone o))))
        ∙ ap (λ z. cond (nat_lt e.0.count t.count) z (Accepts (Answer.Broken (Fault.Shake ShakeFault.Superseded))
        (write t s.peer (ShakeMsg.Status Status.Nok) (set_state t s Gone o)))) (greet_as t s w x (give_up (Some e) o) p)

pub name_as : (t : TrunkId) (m : ShakeMsg) (w : ℕ) (o : Work) → hears_name t m w o ≡ awaits_name t m w o
name_as t (ShakeMsg.SendName f c n) w o = go (is_same n t.dialer) (has_all_of f mandatory)
  where
    go : (a b : Bool) → after_name
        ((on_name (cond a (cond b None (Some ShakeFault.FlagsMissing)) (Some ShakeFault.Forged)) (introduction_by c f) w).next.progress) t
        (record { peer = t.dialer; introduction = introduction_by c f; state = Gone }) w o
        ≡ cond a (cond b (greet_waiting (side_where is_waiting t.dialer (fm.entries o.node.sides)) t
        (record { peer = t.dialer; introduction = introduction_by c f; state = Gone }) w (Handshake (ShakeMsg.SendName f c n)) o)
        (fault (Fault.Shake ShakeFault.FlagsMissing) t (record { peer = t.dialer; introduction = introduction_by c f; state = Gone }) o))
        (fault (Fault.Shake ShakeFault.Forged) t (record { peer = t.dialer; introduction = introduction_by c f; state = Gone }) o)
    go true true =
        admit_as t (record { peer = t.dialer; introduction = introduction_by c f; state = Gone }) w (Handshake (ShakeMsg.SendName f c n)) o refl refl
    go _ _ = refl
name_as t _ w o = refl
