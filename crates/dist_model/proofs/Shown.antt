-- What a node in the midst of an event has drawn, shown and sent of its handshakes.
use Rattle.std.proofs.Common.{◌≡◌, ℕ, Bool, true, false, cond, List, [], ◌∷◌, refl, sym, ap, ◌∙◌, subst, Option, Some, None, ◌⊎◌, inl}
use Rattle.std.proofs.lemmas.List.Elements.{All-cons, All-nil, All-push}
use Rattle.std.proofs.lemmas.Option.{same_Some, none-some}
use Rattle.std.specs.List.{All}
use Rattle.dist_model.proofs.Calls.{by_trunk}
use Rattle.dist_model.proofs.DueMoves.{AllWords}
use Rattle.dist_model.proofs.Envelopes.{outgoing, sent_in}
use Rattle.dist_model.proofs.HandshakeParts.{as_state}
use Rattle.dist_model.proofs.SideChanges.{side_after_other, side_after_same}
use Rattle.dist_model.proofs.Sides.{holds, side_at}
use Rattle.dist_model.specs.Commands.{Accepts, Outcome, Refuses}
use Rattle.dist_model.specs.Cookies.{challenge_in, digest_in}
use Rattle.dist_model.specs.Handshake.{with_side, write}
use Rattle.dist_model.specs.Items.{Handshake, Item}
use Rattle.dist_model.specs.Names.{Name}
use Rattle.dist_model.specs.Node.{Node}
use Rattle.dist_model.specs.Sides.{Accepting, Asked, AwaitsAck, AwaitsChallenge, AwaitsStatus, Gone, Parked, State, TrunkSide}
use Rattle.dist_model.specs.Work.{Work}
use Rattle.dist_model.specs.declared.report.Answer.{Answer}
use Rattle.dist_model.specs.declared.report.Effect.{Effect}
use Rattle.erl_handshake.specs.declared.message.ShakeMsg.{ShakeMsg}
use Rattle.erl_names.specs.declared.trunk.TrunkId.{TrunkId}

-- the side's own challenge
abbrev pub word_of : State → Option ℕ
word_of (AwaitsStatus w) = Some w
word_of (AwaitsChallenge w) = Some w
word_of (AwaitsAck w) = Some w
word_of (Asked w) = Some w
word_of (Parked w) = Some w
word_of (Accepting w) = Some w
word_of _ = None

-- what holds of an outcome that goes through
abbrev pub IfDone : Outcome → (Answer → Work → Type 0) → Type 0
IfDone (Refuses k) P = Unit {0}
IfDone (Accepts a o) P = P a o

pub done_either : (b : Bool) (x y : Outcome) (P : Answer → Work → Type 0) → IfDone x P → (b ≡ false → IfDone y P) → IfDone (cond b x y) P
done_either true x y P h k = h
done_either false x y P h k = k refl

module _ (n : Node) where
  -- kept by a side that there was, or drawn for a new one
  abbrev pub Drawn : (TrunkId → ℕ → Type 0) → TrunkId → ℕ → Type 0
  Drawn Now t c = ((a : TrunkSide) × (side_at n t ≡ Some a) × (word_of a.state ≡ Some c)) ⊎ ((side_at n t ≡ None) × Now t c)

  module _ (Proven : TrunkId → Name → Type 0) (May : TrunkId → Name → List ℕ → Type 0) (Now : TrunkId → ℕ → Type 0) where
    pub record SideOk (t : TrunkId) (s : TrunkSide) : Type 0 where
      pub word : (c : ℕ) → word_of s.state ≡ Some c → Drawn Now t c
      pub proven : holds s.state ≡ true → Proven t s.peer

    pub record MsgOk (t : TrunkId) (y : Name) (m : ShakeMsg) : Type 0 where
      pub word : (c : ℕ) → challenge_in m ≡ Some c → Drawn Now t c
      pub digest : (d : List ℕ) → digest_in m ≡ Some d → May t y d

    abbrev pub SaidOk : Effect Item → Type 0
    SaidOk (Effect.Sent (Some t) y (Handshake m)) = MsgOk t y m
    SaidOk _ = Unit {0}

    pub record Shows (o : Work) : Type 0 where
      pub sides : (t : TrunkId) (s : TrunkSide) → side_at o.node t ≡ Some s → SideOk t s
      pub said : All SaidOk o.effects

    -- ---- messages

    -- neither a challenge nor a digest
    pub plain : (t : TrunkId) (y : Name) (m : ShakeMsg) → challenge_in m ≡ None → digest_in m ≡ None → MsgOk t y m
    plain t y m h k = record {
      word = λ c e. absurd (none-some c (sym h ∙ e));
      digest = λ d e. absurd (none-some d (sym k ∙ e));
    }

    pub wrote : (t : TrunkId) (y : Name) (m : ShakeMsg) (o : Work) → MsgOk t y m → Shows o → Shows (write t y m o)
    wrote t y m o k g = record {
      sides = g.sides;
      said = All-push SaidOk o.effects (Effect.Sent (Some t) y (Handshake m)) g.said k;
    }

    -- ---- sides

    pub sets : (t : TrunkId) (s : TrunkSide) (o : Work) → SideOk t s → Shows o → Shows (with_side t s o)
    sets t s o k g = record {
      sides = λ u v h. by_trunk _ u t
          (λ e.
          let sv : s ≡ v = same_Some s v (sym (side_after_same o.node t s) ∙ ap (side_at ((with_side t s o).node)) (sym e) ∙ h) in
          subst (λ z. SideOk z v) (sym e) (subst (λ z. SideOk t z) sv k))
          (λ d. g.sides u v (sym (side_after_other o.node t s u d) ∙ h));
      said = g.said;
    }

    -- it has no challenge
    pub bare : (t : TrunkId) (s : TrunkSide) → word_of s.state ≡ None → (holds s.state ≡ true → Proven t s.peer) → SideOk t s
    bare t s h k = record { word = λ c e. absurd (none-some c (sym h ∙ e)); proven = k }

    pub gone_ok : (t : TrunkId) (s : TrunkSide) → SideOk t (as_state s Gone)
    gone_ok t s = bare t (as_state s Gone) refl (λ e. cc)

    -- it has this one
    pub with_word : (t : TrunkId) (s : TrunkSide) (w : ℕ) → word_of s.state ≡ Some w → holds s.state ≡ false → Drawn Now t w → SideOk t s
    with_word t s w h k d = record {
      word = λ c e. subst (Drawn Now t) (same_Some w c (sym h ∙ e)) d;
      proven = λ e. let z : true ≡ false = sym e ∙ k in cc;
    }

    -- ---- what isn't of the handshake

    words_said : (fs : List (Effect Item)) → AllWords (sent_in fs) → All SaidOk fs
    words_said [] a = All-nil SaidOk
    words_said (Effect.Sent (Some t) y (Handshake m) ∷ fs) a = absurd (let z : true ≡ false = a.0 in cc)
    words_said (Effect.Sent (Some t) y i ∷ fs) a = All-cons SaidOk (Effect.Sent (Some t) y i) fs tt (words_said fs a.1)
    words_said (f ∷ fs) a = All-cons SaidOk f fs tt (words_said fs a)

    module _ (old : (t : TrunkId) (s : TrunkSide) → side_at n t ≡ Some s → holds s.state ≡ true → Proven t s.peer) where
      pub old_side : (t : TrunkId) (s : TrunkSide) → side_at n t ≡ Some s → SideOk t s
      old_side t s h = record { word = λ c e. inl (s, h, e); proven = old t s h }

      pub unmoved : (o : Work) → ((t : TrunkId) → side_at o.node t ≡ side_at n t) → AllWords (outgoing o) → Shows o
      unmoved o same a = record {
        sides = λ t s h. old_side t s (sym (same t) ∙ h);
        said = words_said o.effects a;
      }
