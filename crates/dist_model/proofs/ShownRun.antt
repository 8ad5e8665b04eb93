-- Who is connected has shown that it knows the cookie: what is known of a world and its history, and one event.
use Rattle.std.proofs.Common.{None, ◌≡◌, ℕ, Bool, true, false, cond, List, [], ◌∷◌, refl, sym, ap, ◌∙◌, subst, Some}
use Rattle.std.proofs.Common.{inl, inr, ◌&&◌, Contains}
use Rattle.std.proofs.lemmas.Bool.{and_parts}
use Rattle.std.proofs.lemmas.List.Elements.{All-append, All-contains, All-cons, All-head, All-nil, All-tail, All-weaker, Contains-get_or}
use Rattle.std.proofs.lemmas.Option.{same_Some, none-some}
use Rattle.std.specs.List.{All}
use Rattle.std.specs.FinMap as fm
use Rattle.std.specs.FinMap.{FinMap}
use Rattle.dist_model.proofs.Calls.{by_name}
use Rattle.dist_model.proofs.DownForm.{same_text}
use Rattle.dist_model.proofs.Envelopes.{outgoing, sent_in}
use Rattle.dist_model.proofs.KeepBearings.{bearings_kept, if_accepted}
use Rattle.dist_model.proofs.KeepCounted.{counted_stays}
use Rattle.dist_model.proofs.Keys.{same_name_true, same_trunk, same_trunk_true}
use Rattle.dist_model.proofs.Routes.{at_place, list_to_carried, list_to_insert, node_of_name, node_of_set_other, node_of_set_same}
use Rattle.dist_model.proofs.ShownSteps.{Tells}
use Rattle.dist_model.proofs.Shown.{Drawn, MsgOk, SaidOk, Shows, word_of}
use Rattle.dist_model.proofs.Sides.{holds, side_at}
use Rattle.dist_model.proofs.Trunks.{Good, partners}
use Rattle.dist_model.proofs.Truths.{none_within}
use Rattle.dist_model.specs.Commands.{Accepts}
use Rattle.dist_model.specs.Cookies.{ChallengesAreDrawn, Draws, HasChallenged, HasDrawn, OneChallenge, ShownBy, WasAnswered, challenge_in, cookie_of, digest_in}
use Rattle.dist_model.specs.Histories.{Happening, History}
use Rattle.dist_model.specs.Items.{Handshake, Item}
use Rattle.dist_model.specs.Keeping.{Bearings, Towards}
use Rattle.dist_model.specs.Names.{Name, place_cmp, same_name}
use Rattle.dist_model.specs.Node.{Node}
use Rattle.dist_model.specs.NodeEvents.{NodeEvent, at_node}
use Rattle.dist_model.specs.Seen.{seen}
use Rattle.dist_model.specs.Sides.{TrunkSide}
use Rattle.dist_model.specs.Work.{Work}
use Rattle.dist_model.specs.World.{Arrive, Dial, Event, Refused, Reported, World, carried, list_to, node_name, node_of, set_node}
use Rattle.dist_model.specs.declared.report.Answer.{Answer}
use Rattle.dist_model.specs.declared.report.Effect.{Effect}
use Rattle.dist_model.specs.declared.report.Kind.{Kind}
use Rattle.erl_handshake.specs.Digest.{digest_of}
use Rattle.erl_handshake.specs.Roles.{is_answered}
use Rattle.erl_handshake.specs.declared.message.ShakeMsg.{ShakeMsg}
use Rattle.erl_names.specs.declared.trunk.TrunkId.{TrunkId}
use Rattle.erl_term.specs.declared.refusal.Refusal.{Refusal}

-- y's node has a side of the trunk towards z
pub record From (w : World) (y : Name) (t : TrunkId) (z : Name) : Type 0 where
  pub node : Node
  pub at : node_of w.nodes y ≡ Some node
  pub towards : Towards node t z

-- what travels was sent so
pub record Borne (h : History) (w : World) (t : TrunkId) (z : Name) (m : ShakeMsg) : Type 0 where
  pub sender : Name
  pub from : From w sender t z
  pub challenge : (c : ℕ) → challenge_in m ≡ Some c → HasChallenged sender t z c h
  pub digest : (d : List ℕ) → digest_in m ≡ Some d → (c : ℕ) × WasAnswered z t sender c d h × (d ≡ digest_of (cookie_of w sender) c)

abbrev pub BorneItem : History → World → TrunkId → Name → Item → Type 0
BorneItem h w t z (Handshake m) = Borne h w t z m
BorneItem h w t z _ = Unit {0}

pub record Known (w : World) (h : History) : Type 0 where
  pub words : (x : Name) (n : Node) (t : TrunkId) (s : TrunkSide) → node_of w.nodes x ≡ Some n → side_at n t ≡ Some s
      → (c : ℕ) → word_of s.state ≡ Some c → HasDrawn x t c h
  pub shown : (x : Name) (n : Node) (t : TrunkId) (s : TrunkSide) → node_of w.nodes x ≡ Some n → side_at n t ≡ Some s
      → holds s.state ≡ true → ShownBy h w x t s.peer
  pub lists : (t : TrunkId) (z : Name) → All (BorneItem h w t z) (list_to w.lists t z)
  pub drawn : ChallengesAreDrawn h w
  pub opened : (x : Name) (t : TrunkId) (c : ℕ) → HasDrawn x t c h → (y : Name) × From w x t y
  pub one : OneChallenge h w

-- who was answered had challenged
pub had_challenged : (x : Name) (t : TrunkId) (y : Name) (c : ℕ) (d : List ℕ) (h : History) → WasAnswered x t y c d h
    → HasChallenged x t y c h
had_challenged x t y c d [] a = absurd a
had_challenged x t y c d (l ∷ h) (inl a) = inr a.1
had_challenged x t y c d (l ∷ h) (inr a) = inr (had_challenged x t y c d h a)

-- an event draws one challenge at most
draws_one : (x : Name) (t : TrunkId) (b c : ℕ) (l : Happening) → Draws x t b l → Draws x t c l → b ≡ c
draws_one x t b c l (inl k) (inl j) = let e : Dial x k.0 b ≡ Dial x j.0 c = sym k.1 ∙ j.1 in cc
draws_one x t b c l (inl k) (inr j) = let e : Dial x k.0 b ≡ Arrive t x c = sym k.1 ∙ j.0 in cc
draws_one x t b c l (inr k) (inl j) = let e : Dial x j.0 c ≡ Arrive t x b = sym j.1 ∙ k.0 in cc
draws_one x t b c l (inr k) (inr j) = let e : Arrive t x b ≡ Arrive t x c = sym k.0 ∙ j.0 in cc

-- ---- more has happened, and each node keeps its cookie

module _ (w v : World) (h : History) (l : Happening) (cookies : (x : Name) → cookie_of v x ≡ cookie_of w x) where
  pub shown_after : (x : Name) (t : TrunkId) (y : Name) → ShownBy h w x t y → ShownBy (l ∷ h) v x t y
  shown_after x t y k = record {
    word = k.word;
    drawn = inr k.drawn;
    answered = inr (subst (λ z. WasAnswered x t y k.word (digest_of z k.word) h) (sym (cookies x)) k.answered);
    same = ap (λ z. digest_of z k.word) (cookies x) ∙ k.same ∙ ap (λ z. digest_of z k.word) (sym (cookies y));
  }

  module _ (stays : (y : Name) (t : TrunkId) (z : Name) → From w y t z → From v y t z) where
    borne_after : (t : TrunkId) (z : Name) (m : ShakeMsg) → Borne h w t z m → Borne (l ∷ h) v t z m
    borne_after t z m k = record {
      sender = k.sender;
      from = stays k.sender t z k.from;
      challenge = λ c e. inr (k.challenge c e);
      digest = λ d e. let j = k.digest d e in (j.0, inr j.1, j.2 ∙ ap (λ y. digest_of y j.0) (sym (cookies k.sender)));
    }

    pub item_after : (t : TrunkId) (z : Name) (i : Item) → BorneItem h w t z i → BorneItem (l ∷ h) v t z i
    item_after t z (Handshake m) k = borne_after t z m k
    item_after t z _ k = tt

-- nothing has changed
pub known_refused : (w : World) (h : History) (e : Event) (j : Refusal) → Known w h → Known w ((record { event = e; report = Refused j }) ∷ h)
known_refused w h e j g =
    let l : Happening = record { event = e; report = Refused j } in
    record {
      words = λ x n t s hx hs c i. inr (g.words x n t s hx hs c i);
      shown = λ x n t s hx hs i. shown_after w w h l (λ y. refl) x t s.peer (g.shown x n t s hx hs i);
      lists = λ t z. All-weaker (BorneItem h w t z) (BorneItem (l ∷ h) w t z) (item_after w w h l (λ y. refl) (λ y u a k. k) t z)
          (list_to w.lists t z) (g.lists t z);
      drawn = λ x y t c k. inr (g.drawn x y t c (before x t y c k));
      opened = λ x t c k. g.opened x t c (drew_before x t c k);
      one = λ x t b c i k. g.one x t b c (drew_before x t b i) (drew_before x t c k);
    }
  where
    drew_before : (x : Name) (t : TrunkId) (c : ℕ) → HasDrawn x t c ((record { event = e; report = Refused j }) ∷ h) → HasDrawn x t c h
    drew_before x t c (inl (inl k)) = absurd (none-some (Answer.Trunk t) k.2)
    drew_before x t c (inl (inr k)) = absurd (none-some (Answer.Took Kind.SendName) k.1)
    drew_before x t c (inr k) = k

    before : (x : Name) (t : TrunkId) (y : Name) (c : ℕ)
        → HasChallenged x t y c ((record { event = e; report = Refused j }) ∷ h) → HasChallenged x t y c h
    before x t y c (inl k) = absurd (none_within (Effect.Sent (Some t) y (Handshake k.0)) k.2.1)
    before x t y c (inr k) = k

-- ---- what was sent is on its way

module _ (P : TrunkId → Name → Item → Type 0) where
  abbrev Along : Effect Item → Type 0
  Along (Effect.Sent (Some t) z i) = P t z i
  Along _ = Unit {0}

  sent_along : (t : TrunkId) (z : Name) (fs : List (Effect Item)) → All Along fs → All (P t z) (at_place t z (sent_in fs))
  sent_along t z [] k = All-nil (P t z)
  sent_along t z (Effect.Sent (Some u) y i ∷ fs) k =
      All-append (P t z) (cond (same_trunk t u && same_name z y) (i ∷ []) []) (at_place t z (sent_in fs))
      (go (same_trunk t u && same_name z y) refl) (sent_along t z fs (All-tail Along (Effect.Sent (Some u) y i) fs k))
    where
      head : P u y i
      head = All-head Along (Effect.Sent (Some u) y i) fs k

      go : (b : Bool) → (same_trunk t u && same_name z y) ≡ b → All (P t z) (cond b (i ∷ []) [])
      go true e =
          let v = and_parts (same_trunk t u) (same_name z y) e in
          All-cons (P t z) i [] (subst (λ a. P a z i) (sym (same_trunk_true t u v.0))
          (subst (λ a. P u a i) (sym (same_name_true z y v.1)) head)) (All-nil (P t z))
      go false e = All-nil (P t z)
  sent_along t z (f ∷ fs) k = sent_along t z fs (All-tail Along f fs k)

  pub lists_along : (m : FinMap place_cmp (List Item)) (o : Work) → ((t : TrunkId) (z : Name) → All (P t z) (list_to m t z))
      → All Along o.effects → (t : TrunkId) (z : Name) → All (P t z) (list_to (carried m o.effects) t z)
  lists_along m o l k t z = subst (λ a. All (P t z) a) (sym (list_to_carried m o.effects t z))
      (All-append (P t z) (list_to m t z) (at_place t z (outgoing o)) (l t z) (sent_along t z o.effects k))

  pub lists_popped : (m : FinMap place_cmp (List Item)) (t : TrunkId) (x : Name) (rest : List Item)
      → All (P t x) rest → ((u : TrunkId) (y : Name) → All (P u y) (list_to m u y))
      → (u : TrunkId) (y : Name) → All (P u y) (list_to (fm.insert m (t, x) rest) u y)
  lists_popped m t x rest k l u y = subst (λ a. All (P u y) a) (sym (list_to_insert m t x rest u y)) (go (same_trunk u t && same_name y x) refl)
    where
      go : (b : Bool) → (same_trunk u t && same_name y x) ≡ b → All (P u y) (cond b rest (list_to m u y))
      go true e =
          let v = and_parts (same_trunk u t) (same_name y x) e in
          subst (λ a. All (P a y) rest) (sym (same_trunk_true u t v.0)) (subst (λ a. All (P t a) rest) (sym (same_name_true y x v.1)) k)
      go false e = l u y

-- ---- an event of x goes through

module _ (w : World) (h : History) (gw : Good w) (g : Known w h) (x : Name) (n : Node) (hx : node_of w.nodes x ≡ Some n) where
  nx : n.mint.name ≡ x
  nx = node_of_name w.nodes x n hx

  abbrev pub Proven : TrunkId → Name → Type 0
  Proven t y = ShownBy h w x t y

  -- the digest of x's cookie, and of a challenge that z sent to x
  abbrev pub May : TrunkId → Name → List ℕ → Type 0
  May t z d = (c : ℕ) × HasChallenged z t x c h × (d ≡ digest_of n.cookie c)

  abbrev pub Now : Event → Answer → TrunkId → ℕ → Type 0
  Now e a t c = Draws x t c (record { event = e; report = Reported a [] })

  -- who sends to a side is its peer
  sender : (t : TrunkId) (v : TrunkSide) (y : Name) → side_at n t ≡ Some v → From w y t x → y ≡ v.peer
  sender t v y hv k = sym (partners w gw.core x y n k.node t v k.towards.side hx k.at hv k.towards.there apart).0
    where
      apart : x ≡ y → ⊥
      apart e =
          let same : k.node ≡ n = same_Some k.node n (sym k.at ∙ ap (node_of w.nodes) (sym e) ∙ hx) in
          (gw.core.sides x n hx).other t k.towards.side (ap (λ z. side_at z t) (sym same) ∙ k.towards.there) (k.towards.peer ∙ sym nx)

  mine : cookie_of w x ≡ n.cookie
  mine = ap (λ o. seen o [] (λ node. node.cookie)) hx

  -- what a message shows to the side that it comes to
  pub shows_cookie : (t : TrunkId) (v : TrunkSide) (m : ShakeMsg) → side_at n t ≡ Some v → Borne h w t x m → (u : ℕ) (d : List ℕ)
      → word_of v.state ≡ Some u → digest_in m ≡ Some d → is_answered n.cookie u d ≡ true → Proven t v.peer
  shows_cookie t v m hv b u d hu hd ans =
      let y = b.sender in
      let k = b.digest d hd in
      let p : y ≡ v.peer = sender t v y hv b.from in
      let uc : u ≡ k.0 = g.one x t u k.0 (g.words x n t v hx hv u hu) (g.drawn x y t k.0 (had_challenged x t y k.0 d h k.1)) in
      let dx : d ≡ digest_of (cookie_of w x) u = same_text d (digest_of n.cookie u) ans ∙ ap (λ z. digest_of z u) (sym mine) in
      let dy : d ≡ digest_of (cookie_of w v.peer) u = k.2 ∙ ap (digest_of (cookie_of w y)) (sym uc) ∙ ap (λ z. digest_of (cookie_of w z) u) p in
      record {
        word = u;
        drawn = g.words x n t v hx hv u hu;
        answered = subst (λ z. WasAnswered x t v.peer u z h) dx
            (subst (λ z. WasAnswered x t v.peer z d h) (sym uc) (subst (λ z. WasAnswered x t z k.0 d h) p k.1));
        same = sym dx ∙ dy;
      }

  pub may_answer : (t : TrunkId) (v : TrunkSide) (m : ShakeMsg) → side_at n t ≡ Some v → Borne h w t x m → (c : ℕ)
      → challenge_in m ≡ Some c → May t v.peer (digest_of n.cookie c)
  may_answer t v m hv b c hc =
      (c, subst (λ z. HasChallenged z t x c h) (sender t v b.sender hv b.from) (b.challenge c hc), refl)

  module _ (e : Event) (ex : node_name e ≡ x) (ev : NodeEvent) (a : Answer) (o : Work) (goes : at_node w.names n ev ≡ Accepts a o)
      (cookie : o.node.cookie ≡ n.cookie) (opens : (t : TrunkId) (c : ℕ) → Now e a t c → (side_at n t ≡ None) × Tells t o)
      (k : Shows n Proven May (Now e a) o) (m : FinMap place_cmp (List Item))
      (ml : (t : TrunkId) (z : Name) → All (BorneItem h w t z) (list_to m t z)) where
    abbrev l : Happening
    l = record { event = e; report = Reported a o.effects }

    abbrev v : World
    v = record { names = w.names; nodes = set_node w.nodes x o.node; lists = carried m o.effects }

    bears : Bearings n ev o
    bears = if_accepted (Bearings n ev) (at_node w.names n ev) a o goes (bearings_kept w.names n ev)

    here : node_of v.nodes x ≡ Some o.node
    here = node_of_set_same w.nodes x n o.node hx (bears.name ∙ nx)

    there : (y : Name) → (x ≡ y → ⊥) → node_of v.nodes y ≡ node_of w.nodes y
    there y d = node_of_set_other w.nodes x y o.node (bears.name ∙ nx) d

    keeps : (t : TrunkId) (y : Name) → Towards n t y → Towards o.node t y
    keeps = counted_stays w.names n ev a o goes (λ t s. (gw.home x n hx).counts t s)

    cookies : (y : Name) → cookie_of v y ≡ cookie_of w y
    cookies y = by_name _ x y
        (λ i. ap (cookie_of v) (sym i) ∙ ap (λ z. seen z [] (λ node. node.cookie)) here ∙ cookie ∙ sym mine ∙ ap (cookie_of w) i)
        (λ d. ap (λ z. seen z [] (λ node. node.cookie)) (there y d))

    stays : (y : Name) (t : TrunkId) (z : Name) → From w y t z → From v y t z
    stays y t z f = by_name _ x y
        (λ i.
        let same : f.node ≡ n = same_Some f.node n (sym f.at ∙ ap (node_of w.nodes) (sym i) ∙ hx) in
        record {
          node = o.node;
          at = ap (node_of v.nodes) (sym i) ∙ here;
          towards = keeps t z (subst (λ (q : Node). Towards q t z) same f.towards);
        })
        (λ d. record { node = f.node; at = there y d ∙ f.at; towards = f.towards })

    -- what x had drawn, or draws now
    drew : (t : TrunkId) (c : ℕ) → Drawn n (Now e a) t c → HasDrawn x t c (l ∷ h)
    drew t c (inl j) = inr (g.words x n t j.0 hx j.1 c j.2)
    drew t c (inr j) = inl j.1

    sent_from : (t : TrunkId) (z : Name) (i : Item) → Contains o.effects (Effect.Sent (Some t) z i) → From v x t z
    sent_from t z i c = record { node = o.node; at = here; towards = bears.sent t z i c }

    says : (f : Effect Item) → Contains o.effects f × SaidOk n Proven May (Now e a) f → Along (BorneItem (l ∷ h) v) f
    says (Effect.Sent (Some t) z (Handshake q)) j = record {
      sender = x;
      from = sent_from t z (Handshake q) j.0;
      challenge = λ c i. inl (q, i, (ex, j.0));
      digest = λ d i. let r = j.1.digest d i in
          (r.0, inl ((q, i, (ex, j.0)), r.1), r.2 ∙ ap (λ y. digest_of y r.0) (sym (cookies x ∙ mine)));
    }
    says (Effect.Sent (Some t) z i) j = tt
    says f j = tt

    -- the challenge that it sends was drawn for its side
    sends : (t : TrunkId) (y : Name) (c : ℕ) → (q : ShakeMsg) → challenge_in q ≡ Some c
        → Contains o.effects (Effect.Sent (Some t) y (Handshake q)) → Drawn n (Now e a) t c
    sends t y c q j i = let ok : MsgOk n Proven May (Now e a) t y q = All-contains (SaidOk n Proven May (Now e a)) o.effects
        (Effect.Sent (Some t) y (Handshake q)) k.said i in ok.word c j

    drawn : ChallengesAreDrawn (l ∷ h) v
    drawn p y t c (inl i) = subst (λ u. HasDrawn u t c (l ∷ h)) (sym ex ∙ i.2.0) (drew t c (sends t y c i.0 i.1 i.2.1))
    drawn p y t c (inr i) = inr (g.drawn p y t c i)

    words : (z : Name) (p : Node) (t : TrunkId) (s : TrunkSide) → node_of v.nodes z ≡ Some p → side_at p t ≡ Some s
        → (c : ℕ) → word_of s.state ≡ Some c → HasDrawn z t c (l ∷ h)
    words z p t s hz hs c i = by_name _ x z
        (λ j.
        let same : p ≡ o.node = same_Some p o.node (sym hz ∙ ap (node_of v.nodes) (sym j) ∙ here) in
        subst (λ y. HasDrawn y t c (l ∷ h)) j
        (drew t c ((k.sides t s (ap (λ (q : Node). side_at q t) (sym same) ∙ hs)).word c i)))
        (λ d. inr (g.words z p t s (sym (there z d) ∙ hz) hs c i))

    shown : (z : Name) (p : Node) (t : TrunkId) (s : TrunkSide) → node_of v.nodes z ≡ Some p → side_at p t ≡ Some s
        → holds s.state ≡ true → ShownBy (l ∷ h) v z t s.peer
    shown z p t s hz hs i = by_name _ x z
        (λ j.
        let same : p ≡ o.node = same_Some p o.node (sym hz ∙ ap (node_of v.nodes) (sym j) ∙ here) in
        subst (λ y. ShownBy (l ∷ h) v y t s.peer) j
        (shown_after w v h l cookies x t s.peer ((k.sides t s (ap (λ (q : Node). side_at q t) (sym same) ∙ hs)).proven i)))
        (λ d. shown_after w v h l cookies z t s.peer (g.shown z p t s (sym (there z d) ∙ hz) hs i))

    -- what it draws is for a new side, which is there then
    drawer : (z : Name) (t : TrunkId) (c : ℕ) → Draws z t c l → z ≡ x
    drawer z t c (inl i) = sym (ap node_name i.1) ∙ ex
    drawer z t c (inr i) = sym (ap node_name i.0) ∙ ex

    opening : (z : Name) (t : TrunkId) (c : ℕ) → Draws z t c l → (side_at n t ≡ None) × Tells t o
    opening z t c i = opens t c (subst (λ u. Draws u t c l) (drawer z t c i) i)

    opened : (z : Name) (t : TrunkId) (c : ℕ) → HasDrawn z t c (l ∷ h) → (y : Name) × From v z t y
    opened z t c (inl i) = let q = (opening z t c i).1 in
        (q.0, subst (λ u. From v u t q.0) (sym (drawer z t c i)) (sent_from t q.0 (Handshake q.1) q.2))
    opened z t c (inr i) = let q = g.opened z t c i in (q.0, stays z t q.0 q.1)

    not_before : (z : Name) (t : TrunkId) (b c : ℕ) → Draws z t b l → HasDrawn z t c h → ⊥
    not_before z t b c i j =
        let q = g.opened x t c (subst (λ u. HasDrawn u t c h) (drawer z t b i) j) in
        let same : q.1.node ≡ n = same_Some q.1.node n (sym q.1.at ∙ hx) in
        none-some q.1.towards.side (sym (opening z t b i).0 ∙ ap (λ y. side_at y t) (sym same) ∙ q.1.towards.there)

    one : OneChallenge (l ∷ h) v
    one z t b c (inl i) (inl j) = draws_one z t b c l i j
    one z t b c (inl i) (inr j) = absurd (not_before z t b c i j)
    one z t b c (inr i) (inl j) = absurd (not_before z t c b j i)
    one z t b c (inr i) (inr j) = g.one z t b c i j

    pub known_goes : Known v (l ∷ h)
    known_goes = record {
      words = words;
      shown = shown;
      lists = lists_along (BorneItem (l ∷ h) v) m o
          (λ t z. All-weaker (BorneItem h w t z) (BorneItem (l ∷ h) v t z) (item_after w v h l cookies stays t z) (list_to m t z) (ml t z))
          (λ i d lt. says _ (Contains-get_or o.effects i d lt, k.said i d lt));
      drawn = drawn;
      opened = opened;
      one = one;
    }
