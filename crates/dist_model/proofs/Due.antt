-- What stands first in a list is due: one trunk by itself.
use Rattle.std.proofs.Common.{◌≡◌, Bool, true, false, cond, not, ℕ, List, [], ◌∷◌, ◌++◌}
use Rattle.std.proofs.Common.{refl, sym, ap, ◌∙◌, subst, ◌&&◌, ◌||◌, Option, Some, None}
use Rattle.std.proofs.lemmas.Bool.{or_right, not-false, and_parts, not_from_false, and_from, not-true, or_parts, or_from}
use Rattle.dist_model.specs.Items.{Handshake, Item}
use Rattle.dist_model.specs.Sides.{Accepting, Asked, AwaitsAck, AwaitsChallenge, AwaitsStatus}
use Rattle.dist_model.specs.Sides.{Gone, is_over, is_up, Losing, Parked, State, TrunkSide, Up}
use Rattle.erl_handshake.specs.declared.message.ShakeMsg.{ShakeMsg}
use Rattle.dist_model.specs.Due.{due_in, is_handshake, of_role, shakes_for}
use Rattle.dist_model.proofs.Trunks.{has, is_accept, is_early, is_reply, role_state, up_once}
use Rattle.dist_model.proofs.Sides.{holds, up_holds}
use Rattle.dist_model.proofs.Primitives.{has-push}
use Rattle.dist_model.proofs.Truths.{not_both}

-- ---- items

abbrev pub is_word : Item → Bool
is_word i = not (is_handshake i)

abbrev pub strays : Bool → Item → Bool
strays dials (Handshake m) = not (of_role dials m)
strays dials _ = false

-- ---- lists

-- no message of the handshake stands behind one that passes
abbrev pub settled : (Item → Bool) → List Item → Bool
settled f [] = true
settled f (x ∷ xs) = cond (f x) (not (has is_handshake xs)) true && settled f xs

-- signals and ticks stand behind an acknowledgement alone
abbrev pub guarded : List Item → Bool
guarded [] = true
guarded (x ∷ xs) = is_accept x || (is_handshake x && guarded xs)

has-tail : (f : Item → Bool) (i : Item) (l : List Item) → has f (i ∷ l) ≡ false → has f l ≡ false
has-tail f i l h = (or_parts (f i) (has f l) h).1

has-head : (f : Item → Bool) (i : Item) (l : List Item) → has f (i ∷ l) ≡ false → f i ≡ false
has-head f i l h = (or_parts (f i) (has f l) h).0

has-last : (f : Item → Bool) (l : List Item) (i : Item) → f i ≡ true → has f (l ++ i ∷ []) ≡ true
has-last f [] i k = ap (λ b. b || false) k
has-last f (x ∷ xs) i k = go (f x) (has-last f xs i k)
  where
    go : (a : Bool) {b : Bool} → b ≡ true → (a || b) ≡ true
    go true h = refl
    go false h = h

has-kept : (f : Item → Bool) (l : List Item) (i : Item) → has f l ≡ true → has f (l ++ i ∷ []) ≡ true
has-kept f [] i h = cc
has-kept f (x ∷ xs) i h = go (f x) (has-kept f xs i) h
  where
    go : (a : Bool) → (has f xs ≡ true → has f (xs ++ i ∷ []) ≡ true) → (a || has f xs) ≡ true → (a || has f (xs ++ i ∷ [])) ≡ true
    go true k h = refl
    go false k h = k h

-- one that passes comes last
settled-none : (f : Item → Bool) (l : List Item) (i : Item) → has f l ≡ false → settled f (l ++ i ∷ []) ≡ true
settled-none f [] i h = go (f i)
  where
    go : (a : Bool) → (cond a true true && true) ≡ true
    go true = refl
    go false = refl
settled-none f (x ∷ xs) i h =
    let v = or_parts (f x) (has f xs) h in
    and_from (cond (f x) (not (has is_handshake (xs ++ i ∷ []))) true) (settled f (xs ++ i ∷ []))
    (ap (λ a. cond a (not (has is_handshake (xs ++ i ∷ []))) true) v.0) (settled-none f xs i v.1)

settled-word : (f : Item → Bool) (l : List Item) (i : Item) → settled f l ≡ true → is_handshake i ≡ false → settled f (l ++ i ∷ []) ≡ true
settled-word f [] i h k = go (f i)
  where
    go : (a : Bool) → (cond a true true && true) ≡ true
    go true = refl
    go false = refl
settled-word f (x ∷ xs) i h k =
    and_from (cond (f x) (not (has is_handshake (xs ++ i ∷ []))) true) (settled f (xs ++ i ∷ []))
    (go (f x) (and_parts (cond (f x) (not (has is_handshake xs)) true) (settled f xs) h).0)
    (settled-word f xs i (and_parts (cond (f x) (not (has is_handshake xs)) true) (settled f xs) h).1 k)
  where
    go : (a : Bool) → cond a (not (has is_handshake xs)) true ≡ true → cond a (not (has is_handshake (xs ++ i ∷ []))) true ≡ true
    go true h = not_from_false (has is_handshake (xs ++ i ∷ [])) (has-push is_handshake xs i (not-true (has is_handshake xs) h) k)
    go false h = refl

settled-tail : (f : Item → Bool) (i : Item) (l : List Item) → settled f (i ∷ l) ≡ true → settled f l ≡ true
settled-tail f i l h = (and_parts (cond (f i) (not (has is_handshake l)) true) (settled f l) h).1

settled-head : (f : Item → Bool) (i : Item) (l : List Item) → settled f (i ∷ l) ≡ true → f i ≡ true → has is_handshake l ≡ false
settled-head f i l h k = not-true (has is_handshake l) (sym (ap (λ a. cond a (not (has is_handshake l)) true) k)
    ∙ (and_parts (cond (f i) (not (has is_handshake l)) true) (settled f l) h).0)

guarded-shake : (l : List Item) (i : Item) → guarded l ≡ true → is_handshake i ≡ true → guarded (l ++ i ∷ []) ≡ true
guarded-shake [] i h k = go (is_accept i) (is_handshake i) k
  where
    go : (a b : Bool) → b ≡ true → (a || (b && true)) ≡ true
    go false false k = cc
    go _ _ k = refl
guarded-shake (x ∷ xs) i h k = go (is_accept x) (is_handshake x) (λ j. guarded-shake xs i j k) h
  where
    go : (a b : Bool) → (guarded xs ≡ true → guarded (xs ++ i ∷ []) ≡ true) → (a || (b && guarded xs)) ≡ true
        → (a || (b && guarded (xs ++ i ∷ []))) ≡ true
    go true b f h = refl
    go false true f h = f h
    go false false f h = cc

guarded-behind : (l : List Item) (i : Item) → guarded l ≡ true → has is_accept l ≡ true → guarded (l ++ i ∷ []) ≡ true
guarded-behind [] i h k = cc
guarded-behind (x ∷ xs) i h k = go (is_accept x) (is_handshake x) (guarded-behind xs i) h k
  where
    go : (a b : Bool) → (guarded xs ≡ true → has is_accept xs ≡ true → guarded (xs ++ i ∷ []) ≡ true) → (a || (b && guarded xs)) ≡ true
        → (a || has is_accept xs) ≡ true → (a || (b && guarded (xs ++ i ∷ []))) ≡ true
    go true b f h k = refl
    go false true f h k = f h k
    go false false f h k = cc

guarded-tail : (i : Item) (l : List Item) → guarded (i ∷ l) ≡ true → is_accept i ≡ false → guarded l ≡ true
guarded-tail i l h k = go (is_accept i) (is_handshake i) k h
  where
    go : (a b : Bool) → a ≡ false → (a || (b && guarded l)) ≡ true → guarded l ≡ true
    go false true k h = h
    go _ _ k h = cc

has-past : (f : Item → Bool) (i : Item) (l : List Item) → has f (i ∷ l) ≡ true → f i ≡ false → has f l ≡ true
has-past f i l h k = sym (ap (λ a. a || has f l) k) ∙ h

-- ---- states

abbrev pub awaits_ack : State → Bool
awaits_ack (AwaitsAck w) = true
awaits_ack _ = false

abbrev pub dials : State → Bool
dials v = is_early v || awaits_ack v

abbrev pub of_far : (State → Bool) → Option State → Bool
of_far f None = false
of_far f (Some a) = f a

abbrev pub state_in : Option TrunkSide → Option State
state_in None = None
state_in (Some s) = Some s.state

-- ---- one trunk: the state of its dialer's side, that of its acceptor's (none: it isn't there yet), what travels to each

pub record DueRow (v : State) (o : Option State) (D A : List Item) : Type 0 where
  -- the acceptor is up first
  pub before : of_far up_once o ≡ false → (holds v ≡ false) × (has is_accept D ≡ false) × (has is_word D ≡ false) × (has is_word A ≡ false)
  -- and not before the dialer replied
  pub early : is_early v ≡ true → (of_far holds o ≡ false) × (has is_reply A ≡ false) × (has is_accept D ≡ false)
  -- each message of the handshake is of its role
  pub to_dialer : has (strays true) D ≡ false
  pub to_acceptor : has (strays false) A ≡ false
  -- the acknowledgement and the reply are the last ones
  pub last_ack : settled is_accept D ≡ true
  pub last_reply : settled is_reply A ≡ true
  -- none is on the way to a side that is up
  pub dialer_up : is_up v ≡ true → has is_handshake D ≡ false
  pub acceptor_up : of_far is_up o ≡ true → has is_handshake A ≡ false
  -- signals come to the dialer behind the acknowledgement, which is on its way once the acceptor is up
  pub guard : dials v ≡ true → guarded D ≡ true
  pub acked : awaits_ack v ≡ true → of_far holds o ≡ true → has is_accept D ≡ true

far_up_holds : (o : Option State) → of_far is_up o ≡ true → of_far holds o ≡ true
far_up_holds None h = cc
far_up_holds (Some a) h = (up_holds a h).0

pub ends_kind : (v : State) → is_over v ≡ true → (is_early v ≡ false) × (awaits_ack v ≡ false) × (is_up v ≡ false) × (up_once v ≡ true)
ends_kind Losing h = (refl, refl, refl, refl)
ends_kind Gone h = (refl, refl, refl, refl)
ends_kind _ h = cc

-- before its acceptor is up
young_kind : (a : State) → up_once a ≡ false → (holds a ≡ false) × (is_up a ≡ false)
young_kind Up h = cc
young_kind Losing h = cc
young_kind Gone h = cc
young_kind _ h = (refl, refl)

-- one list or the other
pub row_with : (v : State) (o p : Option State) (D E A B : List Item) → o ≡ p → D ≡ E → A ≡ B → DueRow v o D A → DueRow v p E B
row_with v o p D E A B e f g r = subst (λ k. DueRow v k E B) e (subst (λ l. DueRow v o l B) f (subst (λ l. DueRow v o D l) g r))

-- ---- what an event does to one trunk

-- the first item to the dialer is taken
pub taken_by_dialer : (v : State) (o : Option State) (i : Item) (D A : List Item) → (dials v ≡ true → is_accept i ≡ false)
    → DueRow v o (i ∷ D) A → DueRow v o D A
taken_by_dialer v o i D A k r = record {
  before = λ h. let b = r.before h in (b.0, has-tail is_accept i D b.1, has-tail is_word i D b.2, b.3);
  early = λ h. let b = r.early h in (b.0, b.1, has-tail is_accept i D b.2);
  to_dialer = has-tail (strays true) i D r.to_dialer;
  to_acceptor = r.to_acceptor;
  last_ack = settled-tail is_accept i D r.last_ack;
  last_reply = r.last_reply;
  dialer_up = λ h. has-tail is_handshake i D (r.dialer_up h);
  acceptor_up = r.acceptor_up;
  guard = λ h. guarded-tail i D (r.guard h) (k h);
  acked = λ h j. has-past is_accept i D (r.acked h j) (k (or_right (is_early v) (awaits_ack v) h));
}

pub taken_by_acceptor : (v : State) (o : Option State) (i : Item) (D A : List Item) → DueRow v o D (i ∷ A) → DueRow v o D A
taken_by_acceptor v o i D A r = record {
  before = λ h. let b = r.before h in (b.0, b.1, b.2, has-tail is_word i A b.3);
  early = λ h. let b = r.early h in (b.0, has-tail is_reply i A b.1, b.2);
  to_dialer = r.to_dialer;
  to_acceptor = has-tail (strays false) i A r.to_acceptor;
  last_ack = r.last_ack;
  last_reply = settled-tail is_reply i A r.last_reply;
  dialer_up = r.dialer_up;
  acceptor_up = λ h. has-tail is_handshake i A (r.acceptor_up h);
  guard = r.guard;
  acked = r.acked;
}

-- the dialer's side is lost, closed or stopped
pub dialer_ends : (v u : State) (o : Option State) (D A : List Item) → is_over u ≡ true → (holds v ≡ false → holds u ≡ false)
    → DueRow v o D A → DueRow u o D A
dialer_ends v u o D A e k r = let z = ends_kind u e in record {
  before = λ h. let b = r.before h in (k b.0, b.1, b.2, b.3);
  early = λ h. not_both (is_early u) h z.0;
  to_dialer = r.to_dialer;
  to_acceptor = r.to_acceptor;
  last_ack = r.last_ack;
  last_reply = r.last_reply;
  dialer_up = λ h. not_both (is_up u) h z.2;
  acceptor_up = r.acceptor_up;
  guard = λ h. not_both (dials u) h (or_from (is_early u) (awaits_ack u) z.0 z.1);
  acked = λ h j. not_both (awaits_ack u) h z.1;
}

-- the acceptor's
pub acceptor_ends : (v u : State) (o : Option State) (D A : List Item) → is_over u ≡ true → (of_far holds o ≡ false → holds u ≡ false)
    → (holds u ≡ true → of_far holds o ≡ true) → DueRow v o D A → DueRow v (Some u) D A
acceptor_ends v u o D A e k l r = let z = ends_kind u e in record {
  before = λ h. not_both (up_once u) z.3 h;
  early = λ h. let b = r.early h in (k b.0, b.1, b.2);
  to_dialer = r.to_dialer;
  to_acceptor = r.to_acceptor;
  last_ack = r.last_ack;
  last_reply = r.last_reply;
  dialer_up = r.dialer_up;
  acceptor_up = λ h. not_both (is_up u) h z.2;
  guard = r.guard;
  acked = λ h j. r.acked h (l j);
}

-- the acceptor's side is new, waits, or goes on
pub acceptor_goes : (v u : State) (o : Option State) (D A : List Item) → of_far up_once o ≡ false → up_once u ≡ false → DueRow v o D A
    → DueRow v (Some u) D A
acceptor_goes v u o D A e f r = let z = young_kind u f in record {
  before = λ h. r.before e;
  early = λ h. let b = r.early h in (z.0, b.1, b.2);
  to_dialer = r.to_dialer;
  to_acceptor = r.to_acceptor;
  last_ack = r.last_ack;
  last_reply = r.last_reply;
  dialer_up = r.dialer_up;
  acceptor_up = λ h. not_both (is_up u) h z.1;
  guard = r.guard;
  acked = λ h j. not_both (holds u) j z.0;
}

-- a status or the challenge is sent, before the acceptor is up
pub says_to_dialer : (v : State) (o : Option State) (m : ShakeMsg) (D A : List Item) → of_far up_once o ≡ false → of_role true m ≡ true
    → is_accept (Handshake m) ≡ false → DueRow v o D A → DueRow v o (D ++ Handshake m ∷ []) A
says_to_dialer v o m D A e f n r = let b = r.before e in record {
  before = λ h. (b.0, has-push is_accept D (Handshake m) b.1 n, has-push is_word D (Handshake m) b.2 refl, b.3);
  early = λ h. let c = r.early h in (c.0, c.1, has-push is_accept D (Handshake m) c.2 n);
  to_dialer = has-push (strays true) D (Handshake m) r.to_dialer (ap not f);
  to_acceptor = r.to_acceptor;
  last_ack = settled-none is_accept D (Handshake m) b.1;
  last_reply = r.last_reply;
  dialer_up = λ h. not_both (holds v) (up_holds v h).0 b.0;
  acceptor_up = r.acceptor_up;
  guard = λ h. guarded-shake D (Handshake m) (r.guard h) refl;
  acked = λ h j. has-kept is_accept D (Handshake m) (r.acked h j);
}

-- the dialer answers, before it replies
pub says_to_acceptor : (v : State) (o : Option State) (m : ShakeMsg) (D A : List Item) → is_early v ≡ true → of_role false m ≡ true
    → is_reply (Handshake m) ≡ false → DueRow v o D A → DueRow v o D (A ++ Handshake m ∷ [])
says_to_acceptor v o m D A e f n r = let b = r.early e in record {
  before = λ h. let c = r.before h in (c.0, c.1, c.2, has-push is_word A (Handshake m) c.3 refl);
  early = λ h. (b.0, has-push is_reply A (Handshake m) b.1 n, b.2);
  to_dialer = r.to_dialer;
  to_acceptor = has-push (strays false) A (Handshake m) r.to_acceptor (ap not f);
  last_ack = r.last_ack;
  last_reply = settled-none is_reply A (Handshake m) b.1;
  dialer_up = r.dialer_up;
  acceptor_up = λ h. not_both (of_far holds o) (far_up_holds o h) b.0;
  guard = r.guard;
  acked = r.acked;
}

-- the status has come
pub dialer_goes : (w u : ℕ) (o : Option State) (D A : List Item) → DueRow (AwaitsStatus w) o D A → DueRow (AwaitsChallenge u) o D A
dialer_goes w u o D A r = record {
  before = r.before;
  early = r.early;
  to_dialer = r.to_dialer;
  to_acceptor = r.to_acceptor;
  last_ack = r.last_ack;
  last_reply = r.last_reply;
  dialer_up = λ h. cc;
  acceptor_up = r.acceptor_up;
  guard = r.guard;
  acked = λ h j. cc;
}

-- the dialer replies to the challenge
pub dialer_replies : (w u k : ℕ) (d : List ℕ) (o : Option State) (D A : List Item) → DueRow (AwaitsChallenge w) o D A
    → DueRow (AwaitsAck u) o D (A ++ Handshake (ShakeMsg.ChallengeReply k d) ∷ [])
dialer_replies w u k d o D A r = let b = r.early refl in record {
  before = λ h. let c = r.before h in (refl, c.1, c.2, has-push is_word A (Handshake (ShakeMsg.ChallengeReply k d)) c.3 refl);
  early = λ h. cc;
  to_dialer = r.to_dialer;
  to_acceptor = has-push (strays false) A (Handshake (ShakeMsg.ChallengeReply k d)) r.to_acceptor refl;
  last_ack = r.last_ack;
  last_reply = settled-none is_reply A (Handshake (ShakeMsg.ChallengeReply k d)) b.1;
  dialer_up = λ h. cc;
  acceptor_up = λ h. not_both (of_far holds o) (far_up_holds o h) b.0;
  guard = r.guard;
  acked = λ h j. not_both (of_far holds o) j b.0;
}

-- the acknowledgement has come
pub dialer_comes_up : (w : ℕ) (o : Option State) (i : Item) (D A : List Item) → is_accept i ≡ true → DueRow (AwaitsAck w) o (i ∷ D) A
    → DueRow Up o D A
dialer_comes_up w o i D A e r = record {
  before = λ h. not_both (is_accept i) e (has-head is_accept i D (r.before h).1);
  early = λ h. cc;
  to_dialer = has-tail (strays true) i D r.to_dialer;
  to_acceptor = r.to_acceptor;
  last_ack = settled-tail is_accept i D r.last_ack;
  last_reply = r.last_reply;
  dialer_up = λ h. settled-head is_accept i D r.last_ack e;
  acceptor_up = r.acceptor_up;
  guard = λ h. cc;
  acked = λ h j. cc;
}

-- the reply has come, and is acknowledged
pub acceptor_comes_up : (v : State) (w : ℕ) (i : Item) (d : List ℕ) (D A : List Item) → is_reply i ≡ true
    → DueRow v (Some (Accepting w)) D (i ∷ A) → DueRow v (Some Up) (D ++ Handshake (ShakeMsg.ChallengeAck d) ∷ []) A
acceptor_comes_up v w i d D A e r = let b = r.before refl in record {
  before = λ h. cc;
  early = λ h. not_both (is_reply i) e (has-head is_reply i A (r.early h).1);
  to_dialer = has-push (strays true) D (Handshake (ShakeMsg.ChallengeAck d)) r.to_dialer refl;
  to_acceptor = has-tail (strays false) i A r.to_acceptor;
  last_ack = settled-none is_accept D (Handshake (ShakeMsg.ChallengeAck d)) b.1;
  last_reply = settled-tail is_reply i A r.last_reply;
  dialer_up = λ h. not_both (holds v) (up_holds v h).0 b.0;
  acceptor_up = λ h. settled-head is_reply i A r.last_reply e;
  guard = λ h. guarded-shake D (Handshake (ShakeMsg.ChallengeAck d)) (r.guard h) refl;
  acked = λ h j. has-last is_accept D (Handshake (ShakeMsg.ChallengeAck d)) refl;
}

-- signals are sent on a side that is up
pub dialer_signals : (o : Option State) (i : Item) (D A : List Item) → is_handshake i ≡ false → strays false i ≡ false → DueRow Up o D A
    → DueRow Up o D (A ++ i ∷ [])
dialer_signals o i D A e f r = record {
  before = λ h. let b : true ≡ false = (r.before h).0 in cc;
  early = λ h. cc;
  to_dialer = r.to_dialer;
  to_acceptor = has-push (strays false) A i r.to_acceptor f;
  last_ack = r.last_ack;
  last_reply = settled-word is_reply A i r.last_reply e;
  dialer_up = r.dialer_up;
  acceptor_up = λ h. has-push is_handshake A i (r.acceptor_up h) e;
  guard = λ h. cc;
  acked = λ h j. cc;
}

pub acceptor_signals : (v : State) (i : Item) (D A : List Item) → is_handshake i ≡ false → strays true i ≡ false → is_accept i ≡ false
    → DueRow v (Some Up) D A → DueRow v (Some Up) (D ++ i ∷ []) A
acceptor_signals v i D A e f n r = record {
  before = λ h. cc;
  early = λ h. let b = r.early h in (b.0, b.1, has-push is_accept D i b.2 n);
  to_dialer = has-push (strays true) D i r.to_dialer f;
  to_acceptor = r.to_acceptor;
  last_ack = settled-word is_accept D i r.last_ack e;
  last_reply = r.last_reply;
  dialer_up = λ h. has-push is_handshake D i (r.dialer_up h) e;
  acceptor_up = r.acceptor_up;
  guard = λ h. go (is_early v) refl (awaits_ack v) refl h;
  acked = λ h j. has-kept is_accept D i (r.acked h j);
}
  where
    go : (a : Bool) → is_early v ≡ a → (b : Bool) → awaits_ack v ≡ b → (a || b) ≡ true → guarded (D ++ i ∷ []) ≡ true
    go true p b q h = let c : true ≡ false = (r.early p).0 in cc
    go false p true q h = guarded-behind D i (r.guard (or_right (is_early v) (awaits_ack v) q)) (r.acked q refl)
    go false p false q h = cc

-- a new attempt
pub dialed : (w f c : ℕ) (n : List ℕ) → DueRow (AwaitsStatus w) None [] (Handshake (ShakeMsg.SendName f c n) ∷ [])
dialed w f c n = record {
  before = λ h. (refl, refl, refl, refl);
  early = λ h. (refl, refl, refl);
  to_dialer = refl;
  to_acceptor = refl;
  last_ack = refl;
  last_reply = refl;
  dialer_up = λ h. cc;
  acceptor_up = λ h. cc;
  guard = λ h. refl;
  acked = λ h j. cc;
}

-- ---- what stands first is due

shake_due : (b : Bool) (i : Item) → is_handshake i ≡ true → strays b i ≡ false → shakes_for b i ≡ true
shake_due b (Handshake m) h k = not-false (of_role b m) k
shake_due b _ h k = cc

guarded_first : (i : Item) (l : List Item) → guarded (i ∷ l) ≡ true → is_handshake i ≡ true
guarded_first (Handshake m) l h = refl
guarded_first _ l h = cc

dialing_due : (v : State) (o : Option State) (i : Item) (D A : List Item) → dials v ≡ true → DueRow v o (i ∷ D) A → shakes_for true i ≡ true
dialing_due v o i D A h r = shake_due true i (guarded_first i D (r.guard h)) (has-head (strays true) i D r.to_dialer)

pub dialer_due : (v : State) (o : Option State) (i : Item) (D A : List Item) → role_state true v ≡ true → DueRow v o (i ∷ D) A
    → due_in true v i ≡ true
dialer_due (AwaitsStatus w) o i D A k r = dialing_due (AwaitsStatus w) o i D A refl r
dialer_due (AwaitsChallenge w) o i D A k r = dialing_due (AwaitsChallenge w) o i D A refl r
dialer_due (AwaitsAck w) o i D A k r = dialing_due (AwaitsAck w) o i D A refl r
dialer_due Up o i D A k r = not_from_false (is_handshake i) (has-head is_handshake i D (r.dialer_up refl))
dialer_due Losing o i D A k r = refl
dialer_due Gone o i D A k r = refl
dialer_due _ o i D A k r = cc

pub young_due : (v : State) (o : Option State) (i : Item) (D A : List Item) → of_far up_once o ≡ false → DueRow v o D (i ∷ A)
    → shakes_for false i ≡ true
young_due v o i D A h r = shake_due false i (not-false (is_handshake i) (has-head is_word i A (r.before h).3))
    (has-head (strays false) i A r.to_acceptor)

pub acceptor_due : (v u : State) (i : Item) (D A : List Item) → role_state false u ≡ true → DueRow v (Some u) D (i ∷ A)
    → due_in false u i ≡ true
acceptor_due v (Asked w) i D A k r = young_due v (Some (Asked w)) i D A refl r
acceptor_due v (Parked w) i D A k r = young_due v (Some (Parked w)) i D A refl r
acceptor_due v (Accepting w) i D A k r = young_due v (Some (Accepting w)) i D A refl r
acceptor_due v Up i D A k r = not_from_false (is_handshake i) (has-head is_handshake i A (r.acceptor_up refl))
acceptor_due v Losing i D A k r = refl
acceptor_due v Gone i D A k r = refl
acceptor_due v _ i D A k r = cc
