-- A connected peer knows the cookie: the challenges and digests of the handshake of a trunk.
-- (ERTS User's Guide, Distribution Protocol, Distribution Handshake.)
use Rattle.std.specs.Prelude.{◌≡◌, ◌≢◌, ◌⊎◌, ℕ, Option, None, Some, List, [], ◌∷◌, Contains}
use Rattle.dist_model.specs.Claims.{effects_of}
use Rattle.dist_model.specs.Histories.{Happening, History}
use Rattle.dist_model.specs.Items.{Handshake}
use Rattle.dist_model.specs.Names.{Name}
use Rattle.dist_model.specs.Seen.{HasSide, seen}
use Rattle.dist_model.specs.Sides.{holds}
use Rattle.dist_model.specs.World.{Arrive, Dial, Refused, Report, Reported, World, node_name, node_of}
use Rattle.dist_model.specs.declared.report.Answer.{Answer}
use Rattle.dist_model.specs.declared.report.Effect.{Effect}
use Rattle.dist_model.specs.declared.report.Kind.{Kind}
use Rattle.erl_handshake.specs.Digest.{digest_of}
use Rattle.erl_handshake.specs.declared.message.ShakeMsg.{ShakeMsg}
use Rattle.erl_names.specs.declared.trunk.TrunkId.{TrunkId}

-- the challenge in a message, which its sender drew, and the digest in a message, over the receiver's challenge
abbrev pub challenge_in : ShakeMsg → Option ℕ
challenge_in (ShakeMsg.Challenge flags word creation name) = Some word
challenge_in (ShakeMsg.ChallengeReply word digest) = Some word
challenge_in _ = None

abbrev pub digest_in : ShakeMsg → Option (List ℕ)
digest_in (ShakeMsg.ChallengeReply word digest) = Some digest
digest_in (ShakeMsg.ChallengeAck digest) = Some digest
digest_in _ = None

-- ---- one event

-- x sent the message to y on the trunk
abbrev pub Says : Name → TrunkId → Name → ShakeMsg → Happening → Type 0
Says x trunk y message last =
    (node_name last.event ≡ x) × Contains (effects_of last.report) (Effect.Sent (Some trunk) y (Handshake message))

abbrev pub Challenges : Name → TrunkId → Name → ℕ → Happening → Type 0
Challenges x trunk y word last = (message : ShakeMsg) × (challenge_in message ≡ Some word) × Says x trunk y message last

abbrev pub Answers : Name → TrunkId → Name → List ℕ → Happening → Type 0
Answers x trunk y digest last = (message : ShakeMsg) × (digest_in message ≡ Some digest) × Says x trunk y message last

abbrev pub answer_of : Report → Option Answer
answer_of (Refused refusal) = None
answer_of (Reported answer effects) = Some answer

-- x drew the word as its challenge on the trunk: when it dialed, or when it received the dialer's name
abbrev pub Draws : Name → TrunkId → ℕ → Happening → Type 0
Draws x trunk word last =
    ((peer : Name) × (last.event ≡ Dial x peer word) × (answer_of last.report ≡ Some (Answer.Trunk trunk)))
    ⊎ ((last.event ≡ Arrive trunk x word) × (answer_of last.report ≡ Some (Answer.Took Kind.SendName)))

-- ---- a history, the latest event first

abbrev pub HasDrawn : Name → TrunkId → ℕ → History → Type 0
HasDrawn x trunk word [] = ⊥
HasDrawn x trunk word (last ∷ before) = Draws x trunk word last ⊎ HasDrawn x trunk word before

abbrev pub HasChallenged : Name → TrunkId → Name → ℕ → History → Type 0
HasChallenged x trunk y word [] = ⊥
HasChallenged x trunk y word (last ∷ before) = Challenges x trunk y word last ⊎ HasChallenged x trunk y word before

-- x challenged y with the word, and after that y sent the digest to x
abbrev pub WasAnswered : Name → TrunkId → Name → ℕ → List ℕ → History → Type 0
WasAnswered x trunk y word digest [] = ⊥
WasAnswered x trunk y word digest (last ∷ before) =
    (Answers y trunk x digest last × HasChallenged x trunk y word before) ⊎ WasAnswered x trunk y word digest before

-- ---- claims about a world and its history

abbrev pub cookie_of : World → Name → List ℕ
cookie_of world name = seen (node_of world.nodes name) [] (λ node. node.cookie)

-- x drew a challenge and sent it to y. After that y sent the digest of x's cookie over this challenge. It equals the digest of y's
-- cookie. Nodes of different cookies are connected only if their digests over this challenge are equal
pub record ShownBy (history : History) (world : World) (x : Name) (trunk : TrunkId) (y : Name) : Type 0 where
  pub word : ℕ
  pub drawn : HasDrawn x trunk word history
  pub answered : WasAnswered x trunk y word (digest_of (cookie_of world x) word) history
  pub same : digest_of (cookie_of world x) word ≡ digest_of (cookie_of world y) word

-- x has a side towards y that is up, or lost and not yet swept
abbrev pub ConnectedByCookie : History → World → Type 0
ConnectedByCookie history world = (x y : Name) (trunk : TrunkId) → HasSide world x trunk y holds → ShownBy history world x trunk y

-- a node sends on a trunk only challenges that it drew for this trunk
abbrev pub ChallengesAreDrawn : History → World → Type 0
ChallengesAreDrawn history world = (x y : Name) (trunk : TrunkId) (word : ℕ) → HasChallenged x trunk y word history
    → HasDrawn x trunk word history

-- a node draws at most one challenge for a trunk
abbrev pub OneChallenge : History → World → Type 0
OneChallenge history world = (x : Name) (trunk : TrunkId) (word other : ℕ) → HasDrawn x trunk word history
    → HasDrawn x trunk other history → word ≡ other

-- nodes whose digests differ over each challenge are never connected
abbrev pub StrangersStayApart : World → Type 0
StrangersStayApart world = (x y : Name) (trunk : TrunkId)
    → ((word : ℕ) → digest_of (cookie_of world x) word ≢ digest_of (cookie_of world y) word) → HasSide world x trunk y holds → ⊥
