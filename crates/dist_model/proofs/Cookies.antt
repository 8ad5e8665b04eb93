-- Who is connected has shown that it knows the cookie: every event keeps it, and so does every run.
use Rattle.std.proofs.Common.{◌≡◌, ◌^◌, ◌+◌, ℕ, Bool, true, false, cond, not, List, [], ◌∷◌, refl, sym, ap, ◌∙◌, subst, Option, Some, None}
use Rattle.std.proofs.Common.{inl, inr, nat_lt, arith}
use Rattle.std.proofs.lemmas.List.Elements.{All-head, All-nil, All-tail}
use Rattle.std.proofs.lemmas.Option.{same_Some, none-some}
use Rattle.std.specs.List.{All}
use Rattle.std.specs.Option.{is_some}
use Rattle.std.specs.FinMap as fm
use Rattle.dist_model.proofs.Calls.{IfGoes}
use Rattle.dist_model.proofs.ClosedSides.{gone_side, gone_sides}
use Rattle.dist_model.proofs.DueParts.{sent_call, sent_item, sent_start, sent_sweep}
use Rattle.dist_model.proofs.DueMoves.{Sent}
use Rattle.dist_model.proofs.EndOfProcess.{last_posts}
use Rattle.dist_model.proofs.Founded.{all_posts_keep, posts_keep}
use Rattle.dist_model.proofs.HandshakeParts.{Roomy, Turned, Unparks, as_state, fresh_kept}
use Rattle.dist_model.proofs.KeepBearings.{if_accepted}
use Rattle.dist_model.proofs.KeepEvents.{Rest, at_node_keeps, dial_goes}
use Rattle.dist_model.proofs.KeepParts.{Parts}
use Rattle.dist_model.proofs.NewSides.{option_none}
use Rattle.dist_model.proofs.Records.{least_as, sweep_link}
use Rattle.dist_model.proofs.Run.{handshake_is}
use Rattle.dist_model.proofs.Safety.{none_at}
use Rattle.dist_model.proofs.Seen.{list_in}
use Rattle.dist_model.proofs.Shown.{IfDone, Shows, SideOk, gone_ok, plain, sets, unmoved, with_word, wrote}
use Rattle.dist_model.proofs.ShownRun.{Borne, BorneItem, Known, May, Now, Proven, known_goes, known_refused, lists_popped, may_answer, shows_cookie}
use Rattle.dist_model.proofs.ShownSteps.{Nameless, Opens, Tells, fresh_comes, fresh_opens, known_comes, known_nameless, loses_at, sweeps}
use Rattle.dist_model.proofs.Sides.{holds, side_at}
use Rattle.dist_model.proofs.Trunks.{Good}
use Rattle.dist_model.specs.Arrivals.{arrive, arrive_at, arrive_first, arrive_fresh, handshake_in, take_local}
use Rattle.dist_model.specs.Calls.{call}
use Rattle.dist_model.specs.Commands.{Accepts, Outcome, Refuses}
use Rattle.dist_model.specs.Cookies.{ConnectedByCookie, ShownBy}
use Rattle.dist_model.specs.Dialing.{dial, draw_trunk, has_name, next_trunk}
use Rattle.dist_model.specs.Handshake.{identity, set_state, with_side, write}
use Rattle.dist_model.specs.Histories.{History}
use Rattle.dist_model.specs.Incarnations.{started, stopped}
use Rattle.dist_model.specs.Items.{Handshake, Item, kind_of}
use Rattle.dist_model.specs.Keeping.{Towards}
use Rattle.dist_model.specs.Losses.{any_side, close_if_swept, link_to, lose, sweep_by}
use Rattle.dist_model.specs.Names.{Name, place_cmp, same_name}
use Rattle.dist_model.specs.Node.{Node, side_where}
use Rattle.dist_model.specs.NodeEvents as met
use Rattle.dist_model.specs.NodeEvents.{NodeEvent, at_node, if_up}
use Rattle.dist_model.specs.Runs.{opening}
use Rattle.dist_model.specs.Seen.{seen}
use Rattle.dist_model.specs.Sides.{AwaitsStatus, Gone, Losing, TrunkSide, is_gone, is_losing, is_over}
use Rattle.dist_model.specs.Taking.{take_item}
use Rattle.dist_model.specs.Work.{Work, at_work, spelled}
use Rattle.dist_model.specs.World.{Arrive, Call, Dial, Event, Local, Lose, Start, Stepped, Stop, Sweep, World, came_of}
use Rattle.dist_model.specs.World.{first_of, left, list_to, met as met_by, node_name, node_of, rest_of, step_at}
use Rattle.dist_model.specs.declared.report.Answer.{Answer}
use Rattle.dist_model.specs.declared.report.Effect.{Effect}
use Rattle.dist_model.specs.declared.report.Kind.{Kind}
use Rattle.std.proofs.Common.{Contains}
use Rattle.std.proofs.lemmas.List.Elements.{Contains-push}
use Rattle.erl_handshake.specs.Roles.{send_name}
use Rattle.erl_handshake.specs.declared.message.ShakeMsg.{ShakeMsg}
use Rattle.erl_names.specs.declared.trunk.TrunkId.{TrunkId}
use Rattle.erl_term.specs.declared.refusal.Refusal.{Refusal}
use Rattle.erl_handshake.specs.declared.setup.Setup.{Setup}
use Rattle.dist_model.specs.Sides.{untold}

-- ---- a node keeps its cookie

module _ (names : List Name) (n : Node) where
  abbrev C : Work → Type 0
  C o = o.node.cookie ≡ n.cookie

  abbrev AnyNew : TrunkId → Name → Type 0
  AnyNew t y = Unit {0}

  parts : Parts C
  parts = record {
    posted = λ s o k. posts_keep (λ m. m.cookie) (λ m l. refl) s.node (spelled o.node s) o ∙ k;
    end_set = λ p q e o l k. k;
    drew = λ d o h k. k;
    life_set = λ p l o h k. k;
    renamed = λ m o h k. k;
    message = λ p m o k. k;
    reacted = λ p q x o k. k;
    finished = λ p x o k. all_posts_keep (λ m. m.cookie) (λ m l. refl) (last_posts p x o) o ∙ k;
    registers = λ r m o l k. k;
    unregisters = λ r o k. k;
    watches = λ r m o l k. k;
    unwatches = λ r o k. k;
  }

  turned : (t : TrunkId) (s : TrunkSide) (o : Work) → Turned o.node t s → Roomy o.node t s → C o → C (with_side t s o)
  turned t s o c r k = k

  says : (t : TrunkId) (y : Name) (m : ShakeMsg) (o : Work) → Towards o.node t y → C o → C (write t y m o)
  says t y m o v k = k

  opens : (t : TrunkId) (s : TrunkSide) (o : Work) → side_at o.node t ≡ Some s → s.state ≡ Losing → C o
      → Unparks AnyNew C turned says s.peer (set_state t s Gone o)
  opens t s o h e k u b w f p i j = j

  rest : (d : NodeEvent) → Rest AnyNew C parts turned says opens names n refl d
  rest (met.Call d) = λ s p. refl
  rest (met.Arrive t (Some i) w) = λ at. fresh_kept AnyNew C turned says t tt (handshake_in i) w (at_work n) at refl
  rest met.Local = λ l. refl
  rest (met.Dial y w) = dial_goes C names n y w (λ i j. refl)
  rest met.Stop = refl
  rest met.Start = refl
  rest _ = tt

  cookie_stays : (e : NodeEvent) → IfGoes (at_node names n e) C
  cookie_stays e = at_node_keeps AnyNew C parts turned says opens names n refl e (rest e)

-- ---- one event

any_now : (P : Answer → Work → Type 0) (k : Outcome) → ((a : Answer) → IfGoes k (P a)) → IfDone k P
any_now P (Refuses j) f = tt
any_now P (Accepts a o) f = f a

if_done : (P : Answer → Work → Type 0) (b : Bool) (k : Outcome) (j : Refusal) → IfDone k P → IfDone (cond b k (Refuses j)) P
if_done P true k j h = h
if_done P false k j h = tt

weaker : (P Q : Answer → Work → Type 0) → ((a : Answer) (o : Work) → P a o → Q a o) → (k : Outcome) → IfDone k P → IfDone k Q
weaker P Q f (Refuses j) h = tt
weaker P Q f (Accepts a o) h = f a o h

unless_done : (P : Answer → Work → Type 0) (b : Bool) (k : Outcome) (j : Refusal) → IfDone k P → IfDone (cond b (Refuses j) k) P
unless_done P true k j h = tt
unless_done P false k j h = h

module _ (w : World) (h : History) (gw : Good w) (g : Known w h) (x : Name) (n : Node) (hx : node_of w.nodes x ≡ Some n) where
  abbrev Pr : TrunkId → Name → Type 0
  Pr = Proven w h gw g x n hx

  abbrev Ma : TrunkId → Name → List ℕ → Type 0
  Ma = May w h gw g x n hx

  module _ (e : Event) where
    abbrev P : Answer → Work → Type 0
    P a o = Shows n Pr Ma (Now w h gw g x n hx e a) o

    old : (t : TrunkId) (s : TrunkSide) → side_at n t ≡ Some s → holds s.state ≡ true → Pr t s.peer
    old t s k i = g.shown x n t s hx k i

    sent_shows : (a : Answer) (o : Work) → Sent n o → P a o
    sent_shows a o k = unmoved n Pr Ma (Now w h gw g x n hx e a) old o (λ t. ap (λ z. fm.get z t) k.sides) k.words

    all_sent : (k : Outcome) → IfGoes k (Sent n) → IfDone k P
    all_sent (Refuses j) i = tt
    all_sent (Accepts a o) i = sent_shows a o i

    idle : (a : Answer) → P a (at_work n)
    idle a = sent_shows a (at_work n) (sent_start n)

    cleared : (m : Node) → ((t : TrunkId) → side_at m t ≡ gone_side (side_at n t)) → (a : Answer) → P a (at_work m)
    cleared m same a = record {
      sides = λ t s i. go t (side_at n t) s (sym (same t) ∙ i);
      said = All-nil _;
    }
      where
        go : (t : TrunkId) (o : Option TrunkSide) (s : TrunkSide) → gone_side o ≡ Some s → SideOk n Pr Ma (Now w h gw g x n hx e a) t s
        go t None s i = absurd (none-some s i)
        go t (Some v) s i = subst (λ z. SideOk n Pr Ma (Now w h gw g x n hx e a) t z) (same_Some (as_state v Gone) s i)
            (gone_ok n Pr Ma (Now w h gw g x n hx e a) t v)

    loses : (t : TrunkId) (o : Option TrunkSide) → side_at n t ≡ o → IfDone (lose n t o) P
    loses t None i = tt
    loses t (Some s) i = any_now P _ (λ a. loses_at n Pr Ma (Now w h gw g x n hx e a) t s (at_work n) i (idle a) s.state refl)

    sweeping : (d : Option (TrunkId × TrunkSide)) → IfDone (sweep_by d (at_work n)) P
    sweeping None = tt
    sweeping (Some d) = any_now P (sweep_by (Some d) (at_work n)) (λ a.
        subst (λ z. P a (close_if_swept d.0 d.1 z)) (sym (least_as d.1.peer (at_work n)))
        (sweeps n Pr Ma (Now w h gw g x n hx e a) d.0 d.1 (sweep_link (link_to d.1.peer (fm.entries n.ends)) d.1.peer (at_work n))
        (sent_shows a (sweep_link (link_to d.1.peer (fm.entries n.ends)) d.1.peer (at_work n)) (sent_sweep n d.1.peer))))

    local : (l : List Item) → IfDone (take_local n l) P
    local [] = tt
    local (i ∷ xs) =
        let k = sent_item (record n { local = xs }) n.mint.name i (at_work (record n { local = xs })) (sent_start (record n { local = xs })) in
        sent_shows (Answer.Took (kind_of i)) (take_item n.mint.name i (at_work (record n { local = xs })))
        (record { sides = k.sides; name = k.name; routed = k.routed; words = k.words })

  -- the next trunk is new
  next_none : side_at n (next_trunk n) ≡ None
  next_none = option_none (side_at n (next_trunk n))
      (λ s k. let c = (gw.home x n hx).counts (next_trunk n) s k refl in absurd (omega arith))

  module _ (y : Name) (k : ℕ) where
    abbrev Q : Answer → Work → Type 0
    Q = P (Dial x y k)

    abbrev t0 : TrunkId
    t0 = next_trunk n

    abbrev s0 : TrunkSide
    s0 = record { peer = y; introduction = untold; state = AwaitsStatus k }

    abbrev o0 : Work
    o0 = at_work (draw_trunk n)

    abbrev N : TrunkId → ℕ → Type 0
    N = Now w h gw g x n hx (Dial x y k) (Answer.Trunk t0)

    dialed : Q (Answer.Trunk t0) (write t0 y (send_name (identity n)) (with_side t0 s0 o0))
    dialed = wrote n Pr Ma N t0 y (send_name (identity n)) (with_side t0 s0 o0) (plain n Pr Ma N t0 y (send_name (identity n)) refl refl)
        (sets n Pr Ma N t0 s0 o0 (with_word n Pr Ma N t0 s0 k refl refl (inr (next_none, inl (y, refl, refl))))
        (unmoved n Pr Ma N (old (Dial x y k)) o0 (λ t. refl) tt))

    dials : IfDone (dial w.names n y k) Q
    dials = unless_done Q (same_name y n.mint.name) _ Refusal.SelfDial (unless_done Q (not (has_name y w.names)) _ Refusal.NothingThere
        (unless_done Q (is_some (side_where (λ v. not (is_gone v)) y (fm.entries n.sides))) _ Refusal.Busy
        (unless_done Q (not (nat_lt (n.dialed + 1) (2 ^ 64))) _ Refusal.IdsUsedUp dialed)))

  -- what comes
  comes : (t : TrunkId) (k : ℕ) (l : List Item) → list_to w.lists t x ≡ l → (v : Option TrunkSide) → side_at n t ≡ v
      → IfDone (arrive n t v (first_of l) k) (P (Arrive t x k))
  comes t k [] hl None i = tt
  comes t k (j ∷ js) hl None i = fresh_comes n Pr Ma (λ a. Now w h gw g x n hx (Arrive t x k) a) t i (handshake_in j) k (at_work n)
      (λ f c y q. inr (refl, refl)) (idle (Arrive t x k))
  comes t k l hl (Some s) i = go (is_over s.state) l hl
    where
      heard : (j : Item) (js : List Item) → list_to w.lists t x ≡ j ∷ js → (m : ShakeMsg) → handshake_in j ≡ Some m → Borne h w t x m
      heard j js e m q = subst (BorneItem h w t x) (handshake_is j m q)
          (All-head (BorneItem h w t x) j js (subst (λ z. All (BorneItem h w t x) z) e (g.lists t x)))

      go : (b : Bool) (l : List Item) → list_to w.lists t x ≡ l
          → IfDone (cond b (Refuses Refusal.NotLive) (arrive_first (first_of l) t s (at_work n))) (P (Arrive t x k))
      go true l e = tt
      go false [] e = tt
      go false (j ∷ js) e = any_now (P (Arrive t x k)) _ (λ a.
          known_comes n Pr Ma (Now w h gw g x n hx (Arrive t x k) a) (old (Arrive t x k)) t s i (handshake_in j) j (λ m q.
          let b = heard j js e m q in
          (shows_cookie w h gw g x n hx t s m i b, may_answer w h gw g x n hx t s m i b)))

  by_event : (e : Event) → node_name e ≡ x → IfDone (at_node w.names n (met_by w e)) (P e)
  by_event (Call y c) q = if_done _ n.up _ Refusal.NodeDown (all_sent (Call y c) (call n c) (sent_call n c))
  by_event (Arrive t y k) q = if_done _ n.up _ Refusal.NodeDown
      (subst (λ z. IfDone (arrive n t (fm.get n.sides t) (first_of (list_to w.lists t z)) k) (P (Arrive t z k))) (sym q)
      (comes t k (list_to w.lists t x) refl (fm.get n.sides t) refl))
  by_event (Local y) q = if_done _ n.up _ Refusal.NodeDown (local (Local y) n.local)
  by_event (Lose t y) q = if_done _ n.up _ Refusal.NodeDown (loses (Lose t y) t (fm.get n.sides t) refl)
  by_event (Sweep y) q = if_done _ n.up _ Refusal.NodeDown (sweeping (Sweep y) (any_side is_losing (fm.entries n.sides)))
  by_event (Dial y z k) q = if_done _ n.up _ Refusal.NodeDown (subst (λ u. IfDone (dial w.names n z k) (P (Dial u z k))) (sym q) (dials z k))
  by_event (Stop y) q = if_done _ n.up _ Refusal.NodeDown (cleared (Stop y) (stopped n) (gone_sides n) Answer.Stopped)
  by_event (Start y) q = unless_done _ n.up _ Refusal.NodeUp (if_done _ (nat_lt (n.mint.creation + 1) (2 ^ 32)) _ Refusal.IdsUsedUp
      (cleared (Start y) (started n) (gone_sides n) (Answer.Started (n.mint.creation + 1))))

  -- what is drawn is for a new side
  module _ (e : Event) where
    abbrev O : Answer → Work → Type 0
    O a o = (t : TrunkId) (c : ℕ) → Now w h gw g x n hx e a t c → (side_at n t ≡ None) × Tells t o

  opens_dial : (y : Name) (k : ℕ) → IfDone (dial w.names n y k) (O (Dial x y k))
  opens_dial y k = unless_done Q0 (same_name y n.mint.name) _ Refusal.SelfDial (unless_done Q0 (not (has_name y w.names)) _ Refusal.NothingThere
      (unless_done Q0 (is_some (side_where (λ v. not (is_gone v)) y (fm.entries n.sides))) _ Refusal.Busy
      (unless_done Q0 (not (nat_lt (n.dialed + 1) (2 ^ 64))) _ Refusal.IdsUsedUp told)))
    where
      Q0 : Answer → Work → Type 0
      Q0 = O (Dial x y k)

      told : (t : TrunkId) (c : ℕ) → Now w h gw g x n hx (Dial x y k) (Answer.Trunk (next_trunk n)) t c → (side_at n t ≡ None)
          × Tells t (write (next_trunk n) y (send_name (identity n)) (with_side (next_trunk n)
          (record { peer = y; introduction = untold; state = AwaitsStatus k }) (at_work (draw_trunk n))))
      told t c (inr i) = let q : Dial x y k ≡ Arrive t x c = i.0 in cc
      told t c (inl i) =
          let q : next_trunk n ≡ t = cc in (
            ap (side_at n) (sym q) ∙ next_none,
            (
              y,
              send_name (identity n),
              subst (λ z. Contains ((write (next_trunk n) y
                  (send_name (identity n)) (with_side (next_trunk n) (record { peer = y; introduction = untold; state = AwaitsStatus k })
                  (at_work (draw_trunk n)))).effects) (Effect.Sent (Some z) y (Handshake (send_name (identity n))))) q
                  (Contains-push [] (Effect.Sent (Some (next_trunk n)) y (Handshake (send_name (identity n))))),
            ),
          )

  opens_come : (t : TrunkId) (k : ℕ) (l : List Item) (v : Option TrunkSide) → side_at n t ≡ v
      → IfDone (arrive n t v (first_of l) k) (O (Arrive t x k))
  opens_come t k [] None i = tt
  opens_come t k (j ∷ js) None i = weaker (Opens t) (O (Arrive t x k)) go (arrive_fresh (handshake_in j) t k (at_work n))
      (fresh_opens t (handshake_in j) k (at_work n))
    where
      go : (a : Answer) (o : Work) → Opens t a o → O (Arrive t x k) a o
      go a o f u c (inl d) = let q : Arrive t x k ≡ Dial x d.0 c = d.1 in cc
      go a o f u c (inr d) =
          let q : t ≡ u = cc in
          let name : a ≡ Answer.Took Kind.SendName = same_Some a (Answer.Took Kind.SendName) d.1 in
          (ap (side_at n) (sym q) ∙ i, subst (λ z. Tells z o) q (f name))
  opens_come t k l (Some s) i = go (is_over s.state) l
    where
      none : (a : Answer) (o : Work) → Nameless a o → O (Arrive t x k) a o
      none a o f u c (inl d) = let q : Arrive t x k ≡ Dial x d.0 c = d.1 in cc
      none a o f u c (inr d) = absurd (f (same_Some a (Answer.Took Kind.SendName) d.1))

      go : (b : Bool) (l : List Item)
          → IfDone (cond b (Refuses Refusal.NotLive) (arrive_first (first_of l) t s (at_work n))) (O (Arrive t x k))
      go true l = tt
      go false [] = tt
      go false (j ∷ js) = weaker Nameless (O (Arrive t x k)) none (arrive_at (handshake_in j) t s j (at_work n))
          (known_nameless t s (at_work n) (handshake_in j) j refl)

  never : (e : Event) (k : Outcome) → ((a : Answer) (t : TrunkId) (c : ℕ) → Now w h gw g x n hx e a t c → ⊥) → IfDone k (O e)
  never e (Refuses j) f = tt
  never e (Accepts a o) f = λ t c i. absurd (f a t c i)

  quiet : (e : Event) → ((y : Name) (c : ℕ) → e ≡ Dial x y c → ⊥) → ((t : TrunkId) (c : ℕ) → e ≡ Arrive t x c → ⊥)
      → (a : Answer) (t : TrunkId) (c : ℕ) → Now w h gw g x n hx e a t c → ⊥
  quiet e d f a t c (inl i) = d i.0 c i.1
  quiet e d f a t c (inr i) = f t c i.0

  opens_by : (e : Event) → node_name e ≡ x → IfDone (at_node w.names n (met_by w e)) (O e)
  opens_by (Arrive t y k) q = if_done _ n.up _ Refusal.NodeDown
      (subst (λ z. IfDone (arrive n t (fm.get n.sides t) (first_of (list_to w.lists t z)) k) (O (Arrive t z k))) (sym q)
      (opens_come t k (list_to w.lists t x) (fm.get n.sides t) refl))
  opens_by (Dial y z k) q = if_done _ n.up _ Refusal.NodeDown
      (subst (λ u. IfDone (dial w.names n z k) (O (Dial u z k))) (sym q) (opens_dial z k))
  opens_by (Call y c) q = never (Call y c) (at_node w.names n (met_by w (Call y c))) (quiet (Call y c) (λ z c i. cc) (λ t c i. cc))
  opens_by (Local y) q = never (Local y) (at_node w.names n (met_by w (Local y))) (quiet (Local y) (λ z c i. cc) (λ t c i. cc))
  opens_by (Lose t y) q = never (Lose t y) (at_node w.names n (met_by w (Lose t y))) (quiet (Lose t y) (λ z c i. cc) (λ t c i. cc))
  opens_by (Sweep y) q = never (Sweep y) (at_node w.names n (met_by w (Sweep y))) (quiet (Sweep y) (λ z c i. cc) (λ t c i. cc))
  opens_by (Stop y) q = never (Stop y) (at_node w.names n (met_by w (Stop y))) (quiet (Stop y) (λ z c i. cc) (λ t c i. cc))
  opens_by (Start y) q = never (Start y) (at_node w.names n (met_by w (Start y))) (quiet (Start y) (λ z c i. cc) (λ t c i. cc))

  -- what is still on its way
  left_known : (e : Event) (t : TrunkId) (z : Name) → All (BorneItem h w t z) (list_to (left w e) t z)
  left_known (Arrive u y k) t z = lists_popped (BorneItem h w) w.lists u y (rest_of (list_to w.lists u y))
      (go (list_to w.lists u y) (g.lists u y)) g.lists t z
    where
      go : (l : List Item) → All (BorneItem h w u y) l → All (BorneItem h w u y) (rest_of l)
      go [] k = All-nil _
      go (i ∷ l) k = All-tail (BorneItem h w u y) i l k
  left_known (Call y c) t z = g.lists t z
  left_known _ t z = g.lists t z

abbrev After : World → History → Event → Stepped → Type 0
After w h e s = Known s.world ((record { event = e; report = s.report }) ∷ h)

pub known_step : (w : World) (h : History) (o : Option Node) (e : Event) → node_of w.nodes (node_name e) ≡ o → Good w → Known w h
    → After w h e (step_at w o e)
known_step w h None e i gw g = known_refused w h e Refusal.NothingThere g
known_step w h (Some n) e i gw g = go (at_node w.names n (met_by w e)) refl (by_event w h gw g (node_name e) n i e refl)
    (opens_by w h gw g (node_name e) n i e refl)
  where
    go : (k : Outcome) → at_node w.names n (met_by w e) ≡ k → IfDone k (P w h gw g (node_name e) n i e)
        → IfDone k (O w h gw g (node_name e) n i e) → After w h e (came_of w (node_name e) (left w e) k)
    go (Refuses j) q d f = known_refused w h e j g
    go (Accepts a o) q d f = known_goes w h gw g (node_name e) n i e refl (met_by w e) a o q
        (if_accepted (λ z. z.node.cookie ≡ n.cookie) (at_node w.names n (met_by w e)) a o q (cookie_stays w.names n (met_by w e)))
        f d (left w e) (left_known w h gw g (node_name e) n i e)

-- ---- over every run

pub known_opening : (cs : List (Name × Setup)) → Known (opening cs) []
known_opening cs = record {
  words = λ x n t s hx hs. absurd (none_at cs x n t s hx hs);
  shown = λ x n t s hx hs. absurd (none_at cs x n t s hx hs);
  lists = λ t z. subst (λ l. All (BorneItem [] (opening cs) t z) l) (sym (ap list_in (fm.get-empty place_cmp (t, z)))) (All-nil _);
  drawn = λ x y t c k. absurd k;
  opened = λ x t c k. absurd k;
  one = λ x t b c k. absurd k;
}

pub by_cookie : (h : History) (w : World) → Known w h → ConnectedByCookie h w
by_cookie h w g x y t k = go (node_of w.nodes x) refl k.there
  where
    go : (o : Option Node) → node_of w.nodes x ≡ o → seen o None (λ n. fm.get n.sides t) ≡ Some k.side → ShownBy h w x t y
    go None hx i = absurd (none-some k.side i)
    go (Some n) hx i = subst (λ z. ShownBy h w x t z) k.peer (g.shown x n t k.side hx i k.state)
