-- A Monitor or a MonitorName call alone sends MONITOR_P.
use Rattle.erl_names.specs.Draw as kind
use Rattle.std.proofs.Common.{◌≡◌, ℕ, Bool, true, false, cond, List, [], ◌∷◌, ◌++◌, refl, sym}
use Rattle.std.proofs.Common.{ap, ◌∙◌, subst, Option, Some, None, ◌⊎◌, inl, inr, Contains, ◌&&◌, nat_lt, ◌+◌, ◌^◌, ◌≤◌, append-nil, append_assoc, arith, length}
use Rattle.std.proofs.lemmas.List.Elements.{Contains-append_cases, Contains-push_cases}
use Rattle.std.specs.FinMap as fm
use Rattle.dist_model.proofs.Calls.{IfGoes, if_cond, if_not}
use Rattle.dist_model.proofs.ClosedSides.{any_found}
use Rattle.dist_model.proofs.Entries.{registered_found, same_reference_true, watch_found}
use Rattle.dist_model.proofs.Envelopes.{Envelope, sent_in}
use Rattle.dist_model.proofs.KeepEvents.{dial_goes, outer_parts}
use Rattle.dist_model.proofs.KeepParts.{record_keeps}
use Rattle.dist_model.proofs.Learnt.{Honest, Turns, fresh_learns, known_learns, lose_learns, swept_learns}
use Rattle.dist_model.proofs.Parts.{Apart, Closed, Rules, call_kept, is_plain, item_kept, link_swept}
use Rattle.dist_model.proofs.Records.{least_as}
use Rattle.dist_model.proofs.Sides.{side_at}
use Rattle.dist_model.proofs.Truths.{none_within}
use Rattle.dist_model.specs.Arrivals.{arrive, arrive_first, handshake_in, take_local}
use Rattle.dist_model.specs.Calls.{call}
use Rattle.dist_model.specs.Commands.{Accepts, Outcome, Refuses, with_id}
use Rattle.dist_model.specs.declared.command.Command.{Command}
use Rattle.dist_model.specs.declared.report.Answer.{Answer}
use Rattle.dist_model.specs.declared.report.Effect.{Effect}
use Rattle.dist_model.specs.Exits.{demonitors, end_process, exit_for, exits, monitor_exits}
use Rattle.dist_model.specs.Handshake.{with_side, write}
use Rattle.dist_model.specs.Incarnations.{started, stopped}
use Rattle.dist_model.specs.Items.{Handshake, Item, Signalled, has_reason}
use Rattle.dist_model.specs.Losses.{any_side, least_record, link_to, sweep_by, sweep_record}
use Rattle.monitor_core.specs.Monitors.{target_node, watch_of}
use Rattle.dist_model.specs.Monitoring.{demonitor_by, monitor, unwatch, watch}
use Rattle.dist_model.specs.Names.{Name, same_name, same_pid}
use Rattle.dist_model.specs.Node.{Node, ends_of, is_stranger, living, monitors_names, reaches, route, payload_to}
use Rattle.dist_model.specs.NodeEvents.{Arrive, Call, Dial, Local, Lose, NodeEvent, Start, Stop, Sweep, at_node}
use Rattle.dist_model.specs.Sides.{TrunkSide, is_losing, is_over}
use Rattle.dist_model.specs.Taking.{take_item}
use Rattle.dist_model.specs.Work.{Addressed, Work, at_work, draw, keep_local, post, post_all, put, report, send_on, spelled}
use Rattle.erl_control.specs.declared.signal.Signal.{Signal}
use Rattle.erl_handshake.specs.declared.message.ShakeMsg.{ShakeMsg}
use Rattle.erl_names.specs.Ids.{reference_of}
use Rattle.erl_names.specs.Minted.{id_of}
use Rattle.erl_names.specs.declared.trunk.TrunkId.{TrunkId}
use Rattle.erl_term.specs.Data.{Data}
use Rattle.erl_term.specs.declared.refusal.Refusal.{Refusal}
use Rattle.erl_term.specs.declared.term.Pid.{Pid}
use Rattle.erl_term.specs.declared.term.Reference.{Reference}
use Rattle.exit_core.specs.Messages.{down_term}
use Rattle.link_core.specs.News.{noconnection}
use Rattle.link_core.specs.declared.end.End.{End}
use Rattle.monitor_core.specs.declared.monitor.Target.{Target}
use Rattle.monitor_core.specs.declared.monitor.Watch.{Watch}
use Rattle.monitor_core.specs.declared.monitor.Registration.{Registration}
use Rattle.dist_model.specs.Telling.{asked, monitor_signal, object, taken_back, told_end}
use Rattle.dist_model.specs.Traces.{IsNameAt}
use Rattle.dist_model.proofs.Keys.{same_name_true}
use Rattle.dist_model.proofs.Known.{contains_rest}
use Rattle.dist_model.proofs.Lands.{asked_is, is_call}
use Rattle.dist_model.specs.World.{rest_of}

-- MONITOR_P
abbrev pub asks : Item → Bool
asks (Signalled (Signal.Monitor p q r) pay) = true
asks (Signalled (Signal.MonitorName p name r) pay) = true
asks _ = false

-- the call by which p monitors the target
abbrev pub monitoring : Pid → Target → Command
monitoring p (Target.Pid q) = Command.Monitor p q
monitoring p (Target.Name name node) = Command.MonitorName p node name

-- none was sent, and none came behind this list to the own one
abbrev pub UnaskedIn : List Item → Work → Type 0
UnaskedIn l o = ((t : Option TrunkId) (y : Name) (i : Item) → Contains o.effects (Effect.Sent t y i) → asks i ≡ false)
    × (more : List Item) × (o.node.local ≡ l ++ more) × ((i : Item) → Contains more i → asks i ≡ false)

asks_blind : (s : Signal) (pay : Bool) → asks (Signalled s pay) ≡ asks (Signalled s false)
asks_blind (Signal.Monitor p q r) pay = refl
asks_blind (Signal.MonitorName p name r) pay = refl
asks_blind _ pay = refl

abbrev Quiets : List Addressed → Type 0
Quiets [] = Unit {0}
Quiets (s ∷ ss) = (asks (Signalled s.signal false) ≡ false) × Quiets ss

quiets-append : (xs ys : List Addressed) → Quiets xs → Quiets ys → Quiets (xs ++ ys)
quiets-append [] ys h k = k
quiets-append (x ∷ xs) ys h k = (h.0, quiets-append xs ys h.1 k)

exits_quiet : (p : Pid) (x : Data) (ls : List (Pid × End)) → Quiets (exits p x ls)
exits_quiet p x [] = tt
exits_quiet p x (l ∷ ls) = quiets-append (exit_for p x l.0 l.1) (exits p x ls) (one l.1) (exits_quiet p x ls)
  where
    one : (e : End) → Quiets (exit_for p x l.0 e)
    one End.Active = (refl, tt)
    one _ = tt

told_quiet : (t : Target) (o : Pid) (k : Reference) (x : Data) → Quiets (told_end t o k x ∷ [])
told_quiet (Target.Pid q) o k x = (refl, tt)
told_quiet (Target.Name name node) o k x = (refl, tt)

back_quiet : (p : Pid) (t : Target) (k : Reference) → Quiets (taken_back p t k ∷ [])
back_quiet p (Target.Pid q) k = (refl, tt)
back_quiet p (Target.Name name node) k = (refl, tt)

monitor_exits_quiet : (p : Pid) (x : Data) (es : List (Reference × Registration)) → Quiets (monitor_exits p x es)
monitor_exits_quiet p x [] = tt
monitor_exits_quiet p x (e ∷ es) =
    quiets-append (cond (same_pid e.1.held p) (told_end e.1.target e.1.owner e.0 x ∷ []) []) (monitor_exits p x es)
    (one (same_pid e.1.held p)) (monitor_exits_quiet p x es)
  where
    one : (b : Bool) → Quiets (cond b (told_end e.1.target e.1.owner e.0 x ∷ []) [])
    one true = told_quiet e.1.target e.1.owner e.0 x
    one false = tt

demonitors_quiet : (p : Pid) (es : List (Reference × Watch)) → Quiets (demonitors p es)
demonitors_quiet p [] = tt
demonitors_quiet p (e ∷ es) =
    quiets-append (cond (same_pid e.1.owner p) (taken_back p e.1.target e.0 ∷ []) []) (demonitors p es)
    (one (same_pid e.1.owner p)) (demonitors_quiet p es)
  where
    one : (b : Bool) → Quiets (cond b (taken_back p e.1.target e.0 ∷ []) [])
    one true = back_quiet p e.1.target e.0
    one false = tt

plainly : (s : Signal) → is_plain s ≡ true → asks (Signalled s false) ≡ false
plainly (Signal.Monitor p q r) h = cc
plainly (Signal.MonitorName p name r) h = cc
plainly _ h = refl

abbrev quiet_rules : Rules
quiet_rules = record {
  Says = λ s. asks (Signalled s.signal false) ≡ false;
  Reacts = λ p q x. Unit {0};
  Tells = λ r m x. Unit {0};
  Joins = λ r m. Unit {0};
  Drops = λ r m. Unit {0};
}

module _ (l : List Item) where
  abbrev Unasked : Work → Type 0
  Unasked = UnaskedIn l

  -- another effect sends none
  reports : (f : Effect Item) (o : Work) → ((t : Option TrunkId) (y : Name) (i : Item) → ◌≡◌ {A = Effect Item} f (Effect.Sent t y i) → asks i ≡ false)
      → Unasked o → Unasked (report f o)
  reports f o more k = (λ t y i c. pick t y i (Contains-push_cases o.effects f (Effect.Sent t y i) c), k.1, k.2, k.3)
    where
      pick : (t : Option TrunkId) (y : Name) (i : Item)
          → Contains o.effects (Effect.Sent t y i) ⊎ (◌≡◌ {A = Effect Item} f (Effect.Sent t y i)) → asks i ≡ false
      pick t y i (inl q) = k.0 t y i q
      pick t y i (inr q) = more t y i q

  sends : (t : Option TrunkId) (y : Name) (j : Item) (o : Work) → asks j ≡ false → Unasked o → Unasked (report (Effect.Sent t y j) o)
  sends t y j o h k = reports (Effect.Sent t y j) o (λ u z i q. let e : j ≡ i = cc in sym (ap asks e) ∙ h) k

  posts : (s : Addressed) (o : Work) → asks (Signalled s.signal false) ≡ false → Unasked o → Unasked (post s o)
  posts s o h k = go (same_name s.node o.node.mint.name)
    where
      y : Name
      y = s.node

      still : asks (spelled o.node s) ≡ false
      still = asks_blind s.signal (has_reason s.signal && payload_to o.node s.node) ∙ h

      goes : (r : Option TrunkId) → Unasked (send_on r y (spelled o.node s) o)
      goes None = k
      goes (Some t) = sends (Some t) y (spelled o.node s) o still k

      go : (b : Bool) → Unasked (cond b (keep_local (spelled o.node s) o) (send_on (route o.node y) y (spelled o.node s) o))
      go true = (
        (sends None o.node.mint.name (spelled o.node s) o still k).0,
        k.1 ++ spelled o.node s ∷ [],
        ap (λ z. z ++ spelled o.node s ∷ []) k.2 ∙ append_assoc l k.1 (spelled o.node s ∷ []),
        λ i c. pick i (Contains-push_cases k.1 (spelled o.node s) i c),
      )
        where
          pick : (i : Item) → Contains k.1 i ⊎ (spelled o.node s ≡ i) → asks i ≡ false
          pick i (inl c) = k.3 i c
          pick i (inr e) = ap asks (sym e) ∙ still
      go false = goes (route o.node y)

  posts_all : (ss : List Addressed) (o : Work) → Quiets ss → Unasked o → Unasked (post_all ss o)
  posts_all [] o h k = k
  posts_all (s ∷ ss) o h k = posts_all ss (post s o) h.1 (posts s o h.0 k)

  finishes : (p : Pid) (x : Data) (o : Work) → Unasked o → Unasked (end_process p x o)
  finishes p x o k =
      let a = exits p x (ends_of o.node p) in
      let b = monitor_exits p x (fm.entries o.node.registered) in
      let c = demonitors p (fm.entries o.node.watches) in
      reports (Effect.Ended p x) (post_all (a ++ b ++ c) o) (λ t y i q. cc)
      (posts_all (a ++ b ++ c) o (quiets-append (a ++ b) c (quiets-append a b (exits_quiet p x (ends_of o.node p))
      (monitor_exits_quiet p x (fm.entries o.node.registered))) (demonitors_quiet p (fm.entries o.node.watches))) k)

  quiet_closed : Closed quiet_rules Unasked
  quiet_closed = record {
    plain = λ s h. plainly s.signal h;
    posted = posts;
    end_set = λ p q e o l k. k;
    drew = λ o k. k;
    life_set = λ p l o h k. k;
    renamed = λ m o h k. k;
    message = λ p m o h k. reports (Effect.Put p m) o (λ t y i q. cc) k;
    reacted = λ p q x o h k. reports (Effect.LinkExit p q x) o (λ t y i q. cc) k;
    finished = finishes;
    registers = λ r m o l b h k. k;
    unregisters = λ r m o e h k. k;
    ended = λ r m x o e h k. reports (Effect.Put m.owner (down_term r (object m.target) x)) o (λ t y i q. cc) k;
  }

  takes_item : (y : Name) (i : Item) (o : Work) → Unasked o → Unasked (take_item y i o)
  takes_item y i o k = item_kept quiet_rules Unasked quiet_closed y i o (record {
    gone = λ p q pay e l. refl;
    acts = λ p q x pay e l a. tt;
    sent = λ p m pay e. reports (Effect.Put p m) o (λ t y j q. cc) k;
    named = λ q p name m pay e. reports (Effect.Put p m) o (λ t y j q. cc) k;
    nobody = λ p q r pay e l. refl;
    nobody_named = λ p name r pay e v. refl;
    joins = λ p q r pay e l. tt;
    joins_named = λ p name r pay q e f l. tt;
    drops = λ p q r pay m e h s. tt;
    drops_named = λ p name r pay m e h s. tt;
    tells = λ p q r x pay e h. tt;
    tells_named = λ p name r x pay e h. tt;
  }) k

  turned : (t : TrunkId) (s : TrunkSide) (o : Work) → Turns (λ c. Unit {0}) o.node t s → Unasked o → Unasked (with_side t s o)
  turned t s o c k = k

  wrote : (t : TrunkId) (y : Name) (m : ShakeMsg) (o : Work) → Honest o.node m → Unasked o → Unasked (write t y m o)
  wrote t y m o h k = sends (Some t) y (Handshake m) o refl k

module _ (n : Node) where
  abbrev X : Work → Type 0
  X = UnaskedIn n.local

  -- nothing has happened
  idle : (l : List Item) (m : Node) → m.local ≡ l → UnaskedIn l (at_work m)
  idle l m e = (λ t y i c. absurd (none_within (Effect.Sent t y i) c), [], e ∙ sym (append-nil l), λ i c. absurd (none_within i c))

  start : X (at_work n)
  start = idle n.local n refl

  arrives : (t : TrunkId) (first : Option Item) (w : ℕ) → IfGoes (arrive n t (fm.get n.sides t) first w) X
  arrives t first w = go first (fm.get n.sides t) refl
    where
      comes : (v : Option Item) (s : TrunkSide) → side_at n t ≡ Some s → (b : Bool)
          → IfGoes (cond b (Refuses Refusal.NotLive) (arrive_first v t s (at_work n))) X
      comes v s f true = tt
      comes None s f false = tt
      comes (Some i) s f false = known_learns (λ u c. Unit {0}) X (turned n.local) (wrote n.local) t s (at_work n) f start i
          (takes_item n.local s.peer i (at_work n) start) (handshake_in i) (λ l j c e. tt)

      go : (v : Option Item) (s : Option TrunkSide) → side_at n t ≡ s → IfGoes (arrive n t s v w) X
      go None None f = tt
      go (Some i) None f = fresh_learns (λ u c. Unit {0}) X (turned n.local) (wrote n.local) t (handshake_in i) w (at_work n) (λ l j c e. tt) f start
      go v (Some s) f = comes v s f (is_over s.state)

  takes : (l : List Item) → IfGoes (take_local n l) (UnaskedIn (rest_of l))
  takes [] = tt
  takes (i ∷ rest) = takes_item rest n.mint.name i (at_work (record n { local = rest })) (idle rest (record n { local = rest }) refl)

  swept : (y : Name) → X (sweep_record (least_record y n) (at_work n))
  swept y = subst X (sym (least_as y (at_work n))) (link_swept quiet_rules X (quiet_closed n.local) (link_to y (fm.entries n.ends)) y
      (at_work n) (λ e h a. tt) (λ e h. ((watch_found y n.watches e h).0, tt)) (λ e h. ((registered_found y n.registered e h).0, tt)) start)

  sweeps : (d : Option (TrunkId × TrunkSide)) → any_side is_losing (fm.entries n.sides) ≡ d → IfGoes (sweep_by d (at_work n)) X
  sweeps None h = tt
  sweeps (Some d) h =
      let y = d.1.peer in
      let f = any_found is_losing (fm.entries n.sides) d (fm.entries_sorted n.sides) h in
      let o = sweep_record (least_record y n) (at_work n) in
      let same : o.node.sides ≡ n.sides =
      record_keeps (λ o. o.node.sides ≡ n.sides) (outer_parts (λ m d. m ≡ n.sides)) y (at_work n) refl in
      swept_learns (λ u c. Unit {0}) X (turned n.local) (wrote n.local) d.0 d.1 o (ap (λ m. fm.get m d.0) same ∙ fm.get-entries n.sides d.0 ∙ f.0)
      (swept y)

  demonitored : (v : Option Watch) (p : Pid) (r : Reference) → IfGoes (demonitor_by v p r (at_work n)) X
  demonitored None p r = tt
  demonitored (Some v) p r = if_cond (same_pid v.owner p) _ Refusal.NotTheOwner X
      (λ h. posts n.local (taken_back p v.target r) (unwatch r (at_work n)) ((back_quiet p v.target r).0) start)

  apart : (c : Command) → Apart c → IfGoes (call n c) X
  apart c a = call_kept quiet_rules X (quiet_closed n.local) n start c a (λ id e h. start) (λ p q e l r. tt)

  calls : (c : Command) → ((p : Pid) (t : Target) → c ≡ monitoring p t → ⊥) → IfGoes (call n c) X
  calls (Command.Demonitor p r) a = if_cond (living n p) _ Refusal.NoSuchProcess X (λ l. demonitored (fm.get n.watches r) p r)
  calls c a = apart c ((λ p q e. a p (Target.Pid q) e), (λ p r e. cc), (λ p y name e. a p (Target.Name name y) e))

-- the part of the own list that an event takes over
abbrev pub own_left : Node → NodeEvent → List Item
own_left n Local = rest_of n.local
own_left n Start = []
own_left n e = n.local

-- but for such a call
pub node_unasked : (names : List Name) (n : Node) (e : NodeEvent) → ((p : Pid) (t : Target) → e ≡ Call (monitoring p t) → ⊥)
    → IfGoes (at_node names n e) (UnaskedIn (own_left n e))
node_unasked names n (Call d) a = if_cond n.up _ Refusal.NodeDown _ (λ u. calls n d (λ p t j. a p t (ap Call j)))
node_unasked names n (Arrive t first w) a = if_cond n.up _ Refusal.NodeDown _ (λ u. arrives n t first w)
node_unasked names n Local a = if_cond n.up _ Refusal.NodeDown _ (λ u. takes n n.local)
node_unasked names n (Lose t) a = if_cond n.up _ Refusal.NodeDown _ (λ u.
    lose_learns (λ u c. Unit {0}) (UnaskedIn n.local) (turned n.local) (wrote n.local) n t (fm.get n.sides t) refl (start n))
node_unasked names n Sweep a = if_cond n.up _ Refusal.NodeDown _ (λ u. sweeps n (any_side is_losing (fm.entries n.sides)) refl)
node_unasked names n (Dial y w) a = if_cond n.up _ Refusal.NodeDown _ (λ u.
    dial_goes (UnaskedIn n.local) names n y w (λ i j. sends n.local (Some _) y (Handshake _) (at_work n) refl (start n)))
node_unasked names n Stop a = if_cond n.up _ Refusal.NodeDown _ (λ u. idle n n.local (stopped n) refl)
node_unasked names n Start a = if_not n.up _ Refusal.NodeUp _ (if_cond (nat_lt (n.mint.creation + 1) (2 ^ 32)) _ Refusal.IdsUsedUp _
    (λ u. idle n [] (started n) refl))

left_was : (n : Node) (e : NodeEvent) (i : Item) → Contains (own_left n e) i → Contains n.local i
left_was n Local i c = contains_rest n.local i c
left_was n Start i c = absurd (none_within i c)
left_was n (Call d) i c = c
left_was n (Arrive t f w) i c = c
left_was n (Lose t) i c = c
left_was n Sweep i c = c
left_was n (Dial y w) i c = c
left_was n Stop i c = c

-- one that is there then was there
pub was_there : (n : Node) (e : NodeEvent) (o : Work) (i : Item) → UnaskedIn (own_left n e) o → asks i ≡ true → Contains o.node.local i
    → Contains n.local i
was_there n e o i k a c = pick (Contains-append_cases (own_left n e) k.1 i (subst (λ l. Contains l i) k.2 c))
  where
    pick : Contains (own_left n e) i ⊎ Contains k.1 i → Contains n.local i
    pick (inl d) = left_was n e i d
    pick (inr d) = let z : true ≡ false = sym a ∙ k.3 i d in cc

-- ---- such a call

abbrev pub IfAnswers : Outcome → (Answer → Work → Type 0) → Type 0
IfAnswers (Refuses k) P = Unit {0}
IfAnswers (Accepts a o) P = P a o

-- a MONITOR_P that the call sends on a trunk
pub record Asked (n : Node) (p : Pid) (g : Target) (a : Answer) (t : TrunkId) (y : Name) (p' : Pid) (g' : Target) (r : Reference) : Type 0 where
  pub owner : p ≡ p'
  pub target : g ≡ g'
  pub answer : a ≡ Answer.Reference r
  pub to : y ≡ target_node g
  pub here : living n p ≡ true
  pub away : same_name (target_node g) n.mint.name ≡ false
  pub route : route n (target_node g) ≡ Some t

-- and one that its node keeps for itself
pub record AskedHere (n : Node) (p : Pid) (g : Target) (a : Answer) (p' : Pid) (g' : Target) (r : Reference) : Type 0 where
  pub owner : p ≡ p'
  pub target : g ≡ g'
  pub answer : a ≡ Answer.Reference r
  pub here : living n p ≡ true
  pub own : same_name (target_node g) n.mint.name ≡ true

-- one signal is of one monitor, where a name is of the node that it goes to
same_asked : (p p' : Pid) (g g' : Target) (k r : Reference) (a b : Bool) → IsNameAt (target_node g) g'
    → ◌≡◌ {A = Item} (Signalled (monitor_signal p g k) a) (Signalled (monitor_signal p' g' r) b) → (p ≡ p') × (g ≡ g') × (k ≡ r)
same_asked p p' (Target.Pid q) (Target.Pid q') k r a b at e =
    let x : p ≡ p' = cc in let y : q ≡ q' = cc in let z : k ≡ r = cc in (x, ap Target.Pid y, z)
same_asked p p' (Target.Name name node) (Target.Name name' node') k r a b at e =
    let x : p ≡ p' = cc in let y : name ≡ name' = cc in let z : k ≡ r = cc in (x, (λ i. Target.Name (y i) (sym at i)), z)
same_asked p p' (Target.Pid q) (Target.Name name' node') k r a b at e = cc
same_asked p p' (Target.Name name node) (Target.Pid q') k r a b at e = cc

-- it has no reason, so its spelling is one
asked_spelled : (n : Node) (p : Pid) (g : Target) (r : Reference) → spelled n (asked p g r) ≡ Signalled (monitor_signal p g r) false
asked_spelled n p (Target.Pid q) r = refl
asked_spelled n p (Target.Name name node) r = refl

-- it sends or keeps one item at most
abbrev pub IsOne : Node → Answer → Work → Type 0
IsOne n a o = ((o.node.local ≡ n.local) × (length (sent_in o.effects) ≤ 1))
    ⊎ ((i : Item) × (o.node.local ≡ n.local ++ i ∷ []) × (sent_in o.effects ≡ [])
    × ((r : Reference) → is_call r i ≡ true → a ≡ Answer.Reference r))

module _ (n : Node) (p : Pid) (g : Target) where
  abbrev pub AllAsked : Answer → Work → Type 0
  AllAsked a o = ((t : TrunkId) (y : Name) (p' : Pid) (g' : Target) (r : Reference) (pay : Bool) → IsNameAt y g'
      → Contains o.effects (Effect.Sent (Some t) y (Signalled (monitor_signal p' g' r) pay)) → Asked n p g a t y p' g' r)
      × ((p' : Pid) (g' : Target) (r : Reference) (pay : Bool) → IsNameAt n.mint.name g' → Contains o.node.local (Signalled (monitor_signal p' g' r) pay)
      → Contains n.local (Signalled (monitor_signal p' g' r) pay) ⊎ AskedHere n p g a p' g' r)
      × IsOne n a o

  only : {f g : Effect Item} → Contains (f ∷ []) g → f ≡ g
  only {f} {g} c = pick (Contains-push_cases [] f g c)
    where
      pick : Contains {X = Effect Item} [] g ⊎ (f ≡ g) → f ≡ g
      pick (inl k) = absurd (none_within g k)
      pick (inr k) = k

  is_asked : (count : ℕ) → living n p ≡ true → (b : Bool) → same_name (target_node g) n.mint.name ≡ b → (u : Option TrunkId)
      → route n (target_node g) ≡ u → AllAsked (Answer.Reference (reference_of n.mint count)) (cond b
      (keep_local (Signalled (monitor_signal p g (reference_of n.mint count)) false)
      (watch (reference_of n.mint count) (watch_of p g) (draw kind.Reference (at_work n))))
      (send_on u (target_node g) (Signalled (monitor_signal p g (reference_of n.mint count)) false)
      (watch (reference_of n.mint count) (watch_of p g) (draw kind.Reference (at_work n)))))
  is_asked count l true e u h = (
    λ t y p' g' r pay at c. let z = only c in cc,
    λ p' g' r pay at c. pick p' g' r pay at (Contains-push_cases n.local (Signalled (monitor_signal p g (reference_of n.mint count)) false)
        (Signalled (monitor_signal p' g' r) pay) c),
    inr (
      Signalled (monitor_signal p g (reference_of n.mint count)) false,
      refl,
      refl,
      λ r h. ap Answer.Reference (sym (same_reference_true r (reference_of n.mint count) (sym (asked_is r p g (reference_of n.mint count) false) ∙ h))),
    ),
  )
    where
      pick : (p' : Pid) (g' : Target) (r : Reference) (pay : Bool) → IsNameAt n.mint.name g'
          → Contains n.local (Signalled (monitor_signal p' g' r) pay)
          ⊎ (◌≡◌ {A = Item} (Signalled (monitor_signal p g (reference_of n.mint count)) false) (Signalled (monitor_signal p' g' r) pay))
          → Contains n.local (Signalled (monitor_signal p' g' r) pay)
          ⊎ AskedHere n p g (Answer.Reference (reference_of n.mint count)) p' g' r
      pick p' g' r pay at (inl c) = inl c
      pick p' g' r pay at (inr z) =
          let v = same_asked p p' g g' (reference_of n.mint count) r false pay
          (subst (λ z. IsNameAt z g') (sym (same_name_true (target_node g) n.mint.name e)) at) z in inr (record {
            owner = v.0;
            target = v.1;
            answer = ap Answer.Reference v.2;
            here = l;
            own = e;
          })
  is_asked count l false e None h = (λ t y p' g' r pay at c. absurd (none_within _ c), λ p' g' r pay at c. inl c, inl (refl, omega arith))
  is_asked count l false e (Some v) h = (λ t y p' g' r pay at c. one t y p' g' r pay at (only c), λ p' g' r pay at c. inl c, inl (refl, omega arith))
    where
      one : (t : TrunkId) (y : Name) (p' : Pid) (g' : Target) (r : Reference) (pay : Bool) → IsNameAt y g'
          → ◌≡◌ {A = Effect Item} (Effect.Sent (Some v) (target_node g) (Signalled (monitor_signal p g (reference_of n.mint count)) false))
          (Effect.Sent (Some t) y (Signalled (monitor_signal p' g' r) pay))
          → Asked n p g (Answer.Reference (reference_of n.mint count)) t y p' g' r
      one t y p' g' r pay at z =
          let k : target_node g ≡ y = cc in
          let s = same_asked p p' g g' (reference_of n.mint count) r false pay (subst (λ z. IsNameAt z g') (sym k) at) (item z) in record {
            owner = s.0;
            target = s.1;
            answer = ap Answer.Reference s.2;
            to = sym k;
            here = l;
            away = e;
            route = let k : v ≡ t = cc in h ∙ ap Some k;
          }
        where
          item : {f h : Item} {t u : Option TrunkId} {x y : Name} → ◌≡◌ {A = Effect Item} (Effect.Sent t x f) (Effect.Sent u y h) → f ≡ h
          item e = cc

  without : (f : Effect Item) → ((t : TrunkId) (y : Name) (i : Item) → ◌≡◌ {A = Effect Item} f (Effect.Sent (Some t) y i) → ⊥)
      → (o : Work) → o.effects ≡ f ∷ [] → o.node.local ≡ n.local → sent_in (f ∷ []) ≡ [] → (a : Answer) → AllAsked a o
  without f none o e d s a = (
    λ t y p' g' r pay at c. absurd (none t y (Signalled (monitor_signal p' g' r) pay)
        (only (subst (λ l. Contains l (Effect.Sent (Some t) y (Signalled (monitor_signal p' g' r) pay))) e c))),
    λ p' g' r pay at c. inl (subst (λ l. Contains l (Signalled (monitor_signal p' g' r) pay)) d c),
    inl (d, subst (λ (l : List Envelope). length l ≤ 1) (sym (ap sent_in e ∙ s)) (omega arith)),
  )

  drawn : living n p ≡ true → (v : Option ℕ) → IfAnswers (with_id v (λ count. Accepts (Answer.Reference (reference_of n.mint count))
      (monitor (reference_of n.mint count) p g (draw kind.Reference (at_work n))))) AllAsked
  drawn l None = tt
  drawn l (Some count) = go (reaches n (target_node g))
    where
      r : Reference
      r = reference_of n.mint count

      o : Work
      o = watch r (watch_of p g) (draw kind.Reference (at_work n))

      go : (b : Bool) → AllAsked (Answer.Reference r) (cond b (post (asked p g r) o) (put p (down_term r (object g) noconnection) (draw kind.Reference (at_work n))))
      go true = subst (λ z. AllAsked (Answer.Reference r) (cond (same_name (target_node g) n.mint.name) (keep_local z o)
          (send_on (route n (target_node g)) (target_node g) z o))) (sym (asked_spelled o.node p g r))
          (is_asked count l (same_name (target_node g) n.mint.name) refl (route n (target_node g)) refl)
      go false = without (Effect.Put p (down_term r (object g) noconnection)) (λ t y i e. cc)
          (put p (down_term r (object g) noconnection) (draw kind.Reference (at_work n))) refl refl refl (Answer.Reference r)

  answers_cond : (b : Bool) (k : Outcome) (j : Refusal) → (b ≡ true → IfAnswers k AllAsked) → IfAnswers (cond b k (Refuses j)) AllAsked
  answers_cond true k j h = h refl
  answers_cond false k j h = tt

  answers_not : (b : Bool) (k : Outcome) (j : Refusal) → IfAnswers k AllAsked → IfAnswers (cond b (Refuses j) k) AllAsked
  answers_not true k j h = tt
  answers_not false k j h = h

pub call_asks : (n : Node) (p : Pid) (g : Target) (names : List Name) (a : Answer) (o : Work)
    → at_node names n (Call (monitoring p g)) ≡ Accepts a o → AllAsked n p g a o
call_asks n p (Target.Pid q) names a o h = subst (λ z. IfAnswers z (AllAsked n p (Target.Pid q))) h
    (answers_cond n p (Target.Pid q) n.up _ Refusal.NodeDown (λ u. answers_cond n p (Target.Pid q) (living n p) _ Refusal.NoSuchProcess (λ l.
    answers_not n p (Target.Pid q) (same_name q.node n.mint.name && is_stranger n q) _ Refusal.Forged
    (drawn n p (Target.Pid q) l (id_of n.mint kind.Reference)))))
call_asks n p (Target.Name name node) names a o h = subst (λ z. IfAnswers z (AllAsked n p (Target.Name name node))) h
    (answers_cond n p (Target.Name name node) n.up _ Refusal.NodeDown (λ u.
    answers_cond n p (Target.Name name node) (living n p) _ Refusal.NoSuchProcess (λ l.
    answers_cond n p (Target.Name name node) (monitors_names n node) _ Refusal.NotOffered (λ f.
    drawn n p (Target.Name name node) l (id_of n.mint kind.Reference)))))
