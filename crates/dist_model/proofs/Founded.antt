-- What travels, and what is reported, is founded: on what was so before the event, or on what it reports.
use Rattle.erl_handshake.specs.declared.message.ShakeMsg.{ShakeMsg}
use Rattle.erl_names.specs.Draw as kind
use Rattle.std.proofs.Common.{◌≡◌, Bool, true, false, cond, not, List, [], ◌∷◌, ◌++◌, refl, sym}
use Rattle.std.proofs.Common.{ap, ◌∙◌, subst, Option, Some, None, ◌⊎◌, inl, inr, Contains, ◌&&◌}
use Rattle.std.proofs.lemmas.List.Elements.{All-append, All-cons, All-nil, All-push, All-weaker, All-head}
use Rattle.std.proofs.lemmas.List.Elements.{All-tail, Contains-append_left, Contains-push, Contains-push_cases}
use Rattle.std.proofs.lemmas.Option.{same_Some, none-some}
use Rattle.std.specs.List.{All}
use Rattle.std.specs.FinMap as fm
use Rattle.dist_model.proofs.Envelopes.{Envelope, outgoing, sent_in-push, sent_in-silent}
use Rattle.dist_model.proofs.Entries.{IsBound, IsBoundAs, each_entry, none_by, same_reference_true}
use Rattle.dist_model.proofs.HandshakeParts.{Turned}
use Rattle.dist_model.proofs.Keys.{same_pid_true, same_trunk}
use Rattle.dist_model.proofs.Parts.{Closed, Rules, is_plain}
use Rattle.dist_model.proofs.Routes.{at_place, list_to_carried, list_to_insert}
use Rattle.dist_model.specs.Downs.{same_reference}
use Rattle.dist_model.proofs.LastSignals.{exits_in, exits_cons}
use Rattle.dist_model.specs.Exits.{demonitors, exit_for, end_process, is_owned, is_bound, monitor_exits}
use Rattle.dist_model.specs.Handshake.{with_side, write}
use Rattle.dist_model.specs.Items.{Handshake, Item, Signalled, has_reason}
use Rattle.dist_model.specs.Monitoring.{register, unregister, unwatch}
use Rattle.dist_model.specs.Names.{Name, place_cmp, same_name, same_pid}
use Rattle.dist_model.specs.Node.{Node, route, payload_to}
use Rattle.dist_model.specs.Sides.{TrunkSide}
use Rattle.dist_model.specs.Work.{Addressed, Work, draw, keep_local, post, post_all, post_to, put, report, send_on, set_end, set_life, spelled, to_pid}
use Rattle.dist_model.specs.declared.report.Effect.{Effect}
use Rattle.erl_control.specs.declared.signal.Signal.{Signal}
use Rattle.erl_names.specs.declared.trunk.TrunkId.{TrunkId}
use Rattle.erl_term.specs.Data.{Data}
use Rattle.erl_term.specs.declared.term.Pid.{Pid}
use Rattle.erl_term.specs.declared.term.Reference.{Reference}
use Rattle.exit_core.specs.Messages.{down_term}
use Rattle.link_core.specs.News.{noproc}
use Rattle.link_core.specs.declared.end.End.{End}
use Rattle.erl_term.proofs.Order.{reference_cmp_exact, reference_cmp_total}
use Rattle.monitor_core.specs.Monitors.{MonitorMap, RegistrationMap, WatchMap, added}
use Rattle.dist_model.specs.World.{carried, list_to}
use Rattle.std.specs.FinMap.{FinMap}
use Rattle.monitor_core.specs.declared.monitor.Target.{Target}
use Rattle.monitor_core.specs.declared.monitor.Watch.{Watch}
use Rattle.monitor_core.specs.declared.monitor.Registration.{Registration}
use Rattle.dist_model.specs.Telling.{demonitor_signal, monitor_exit_signal, monitor_signal, object, taken_back, told_end}

-- a call by which p monitors a target, but for the node of a name, which no signal tells
abbrev pub IsAsked : (Pid → Target → Reference → Type 0) → Target → Pid → Reference → Type 0
IsAsked C (Target.Pid q) p r = C p (Target.Pid q) r
IsAsked C (Target.Name name node) p r = (other : Name) × C p (Target.Name name other) r

pub asked_by : (C D : Pid → Target → Reference → Type 0) → ((p : Pid) (t : Target) (r : Reference) → C p t r → D p t r)
    → (t : Target) (p : Pid) (r : Reference) → IsAsked C t p r → IsAsked D t p r
asked_by C D f (Target.Pid q) p r h = f p (Target.Pid q) r h
asked_by C D f (Target.Name name node) p r h = (h.0, f p (Target.Name name h.0) r h.1)

-- why the end of a target may be told
abbrev pub IsOver : (Pid → Data → Type 0) → Target → Data → Type 0
IsOver E (Target.Pid q) x = E q x
IsOver E (Target.Name name node) x = (x ≡ noproc) ⊎ ((q : Pid) × E q x)

pub over_by : (E F : Pid → Data → Type 0) → ((q : Pid) (x : Data) → E q x → F q x) → (t : Target) (x : Data) → IsOver E t x → IsOver F t x
over_by E F f (Target.Pid q) x h = f q x h
over_by E F f (Target.Name name node) x (inl h) = inl h
over_by E F f (Target.Name name node) x (inr h) = inr (h.0, f h.0 x h.1)

-- the target that a signal names. No signal tells the node of a name
abbrev pub named_by : Name → Target
named_by name = Target.Name name []

-- by whose ends, by which calls of Monitor and MonitorName, and by which monitors that ended
abbrev pub FoundedSignal : (Pid → Data → Type 0) → (Pid → Target → Reference → Type 0) → (Reference → Type 0) → Signal → Type 0
FoundedSignal E C O (Signal.Exit p q x) = E p x
FoundedSignal E C O (Signal.Monitor p q r) = C p (Target.Pid q) r
FoundedSignal E C O (Signal.MonitorName p name r) = IsAsked C (named_by name) p r
FoundedSignal E C O (Signal.Demonitor p q r) = O r
FoundedSignal E C O (Signal.DemonitorName p name r) = O r
FoundedSignal E C O (Signal.MonitorExit q p r x) = E q x × C p (Target.Pid q) r
FoundedSignal E C O (Signal.MonitorNameExit name p r x) = IsOver E (named_by name) x × IsAsked C (named_by name) p r
FoundedSignal E C O _ = Unit {0}

abbrev pub Founded : (Pid → Data → Type 0) → (Pid → Target → Reference → Type 0) → (Reference → Type 0) → Item → Type 0
Founded E C O (Signalled s pay) = FoundedSignal E C O s
Founded E C O _ = Unit {0}

pub founded_by : (E F : Pid → Data → Type 0) (C D : Pid → Target → Reference → Type 0) (O P : Reference → Type 0)
    → ((q : Pid) (x : Data) → E q x → F q x) → ((p : Pid) (t : Target) (r : Reference) → C p t r → D p t r)
    → ((r : Reference) → O r → P r)
    → (i : Item) → Founded E C O i → Founded F D P i
founded_by E F C D O P e c o (Signalled (Signal.Exit p q x) pay) h = e p x h
founded_by E F C D O P e c o (Signalled (Signal.Monitor p q r) pay) h = c p (Target.Pid q) r h
founded_by E F C D O P e c o (Signalled (Signal.MonitorName p name r) pay) h = asked_by C D c (named_by name) p r h
founded_by E F C D O P e c o (Signalled (Signal.Demonitor p q r) pay) h = o r h
founded_by E F C D O P e c o (Signalled (Signal.DemonitorName p name r) pay) h = o r h
founded_by E F C D O P e c o (Signalled (Signal.MonitorExit q p r x) pay) h = (e q x h.0, c p (Target.Pid q) r h.1)
founded_by E F C D O P e c o (Signalled (Signal.MonitorNameExit name p r x) pay) h =
    (over_by E F e (named_by name) x h.0, asked_by C D c (named_by name) p r h.1)
founded_by E F C D O P e c o _ h = tt

plain_founded : (E : Pid → Data → Type 0) (C : Pid → Target → Reference → Type 0) (O : Reference → Type 0) (s : Signal)
    → is_plain s ≡ true → FoundedSignal E C O s
plain_founded E C O (Signal.Exit p q x) h = cc
plain_founded E C O (Signal.Monitor p q r) h = cc
plain_founded E C O (Signal.MonitorName p name r) h = cc
plain_founded E C O (Signal.Demonitor p q r) h = cc
plain_founded E C O (Signal.DemonitorName p name r) h = cc
plain_founded E C O (Signal.MonitorExit q p r x) h = cc
plain_founded E C O (Signal.MonitorNameExit name p r x) h = cc
plain_founded E C O _ h = tt

-- the signals about a monitor
pub asked_founded : (E : Pid → Data → Type 0) (C : Pid → Target → Reference → Type 0) (O : Reference → Type 0) (p : Pid) (t : Target)
    (r : Reference) → C p t r → FoundedSignal E C O (monitor_signal p t r)
asked_founded E C O p (Target.Pid q) r h = h
asked_founded E C O p (Target.Name name node) r h = (node, h)

pub told_founded : (E : Pid → Data → Type 0) (C : Pid → Target → Reference → Type 0) (O : Reference → Type 0) (t : Target) (p : Pid)
    (r : Reference) (x : Data) → IsOver E t x → IsAsked C t p r → FoundedSignal E C O (monitor_exit_signal t p r x)
told_founded E C O (Target.Pid q) p r x h k = (h, k)
told_founded E C O (Target.Name name node) p r x h k = (h, k)

pub back_founded : (E : Pid → Data → Type 0) (C : Pid → Target → Reference → Type 0) (O : Reference → Type 0) (p : Pid) (t : Target)
    (r : Reference) → O r → FoundedSignal E C O (demonitor_signal p t r)
back_founded E C O p (Target.Pid q) r h = h
back_founded E C O p (Target.Name name node) r h = h

-- a process that ends is over, and so is what is bound to it
pub bound_over : (E : Pid → Data → Type 0) (t : Target) (p : Pid) (x : Data) → IsBoundAs t p → E p x → IsOver E t x
bound_over E (Target.Pid q) p x b h = subst (λ z. E z x) (sym b) h
bound_over E (Target.Name name node) p x b h = inr (p, h)

-- what is posted
pub record Carried (P : Item → Type 0) (o : Work) : Type 0 where
  pub local : All P o.node.local
  pub sent : All (λ e. P e.item) (outgoing o)

pub carried_post : (P : Item → Type 0) (y : Name) (x : Item) (o : Work) → P x → Carried P o → Carried P (post_to y x o)
carried_post P y x o h k = go (same_name y o.node.mint.name)
  where
    on : (r : Option TrunkId) → Carried P (send_on r y x o)
    on None = k
    on (Some t) = record {
      local = k.local;
      sent = subst (All (λ e. P e.item)) (sym (sent_in-push o.effects (Effect.Sent (Some t) y x)))
          (All-push (λ e. P e.item) (outgoing o) (record { trunk = t; target = y; item = x }) k.sent h);
    }

    go : (b : Bool) → Carried P (cond b (keep_local x o) (send_on (route o.node y) y x o))
    go true = record {
      local = All-push P o.node.local x k.local h;
      sent = subst (All (λ e. P e.item)) (sym (sent_in-silent o.effects (Effect.Sent None o.node.mint.name x) refl)) k.sent;
    }
    go false = on (route o.node y)

pub carried_all : (P : Item → Type 0) → ((s : Signal) (pay : Bool) → P (Signalled s false) → P (Signalled s pay))
    → (ss : List Addressed) (o : Work)
    → All (λ s. P (Signalled s.signal false)) ss → Carried P o → Carried P (post_all ss o)
carried_all P blind [] o h k = k
carried_all P blind (s ∷ ss) o h k =
    carried_all P blind ss (post s o) (All-tail (λ z. P (Signalled z.signal false)) s ss h)
    (carried_post P s.node (spelled o.node s) o
    (blind s.signal (has_reason s.signal && payload_to o.node s.node) (All-head (λ z. P (Signalled z.signal false)) s ss h)) k)

pub carried_by : (P Q : Item → Type 0) (o : Work) → ((i : Item) → P i → Q i) → Carried P o → Carried Q o
carried_by P Q o f k = record {
  local = All-weaker P Q f o.node.local k.local;
  sent = All-weaker (λ e. P e.item) (λ e. Q e.item) (λ e. f e.item) (outgoing o) k.sent;
}

pub carried_write : (P : Item → Type 0) (t : TrunkId) (y : Name) (m : ShakeMsg) (o : Work) → P (Handshake m) → Carried P o
    → Carried P (write t y m o)
carried_write P t y m o h k = record {
  local = k.local;
  sent = subst (All (λ (e : Envelope). P e.item)) (sym (sent_in-push o.effects (Effect.Sent (Some t) y (Handshake m))))
      (All-push (λ (e : Envelope). P e.item) (outgoing o) (record { trunk = t; target = y; item = Handshake m }) k.sent h);
}

-- and what is on its way then
pub placed : (P : Item → Type 0) (t : TrunkId) (y : Name) (es : List Envelope) → All (λ v. P v.item) es → All P (at_place t y es)
placed P t y [] j = All-nil P
placed P t y (v ∷ es) j = All-append P (cond (same_trunk t v.trunk && same_name y v.target) (v.item ∷ []) []) (at_place t y es)
    (go (same_trunk t v.trunk && same_name y v.target))
    (placed P t y es (All-tail (λ (u : Envelope). P u.item) v es j))
  where
    go : (b : Bool) → All P (cond b (v.item ∷ []) [])
    go true = All-cons P v.item [] (All-head (λ (u : Envelope). P u.item) v es j) (All-nil P)
    go false = All-nil P

pub carried_lists : (P : Item → Type 0) (m : FinMap place_cmp (List Item)) (o : Work)
    → ((t : TrunkId) (y : Name) → All P (list_to m t y)) → All (λ v. P v.item) (outgoing o)
    → (t : TrunkId) (y : Name) → All P (list_to (carried m o.effects) t y)
carried_lists P m o l k t y = subst (λ z. All P z) (sym (list_to_carried m o.effects t y))
    (All-append P (list_to m t y) (at_place t y (outgoing o)) (l t y) (placed P t y (outgoing o) k))

pub popped_lists : (P : Item → Type 0) (m : FinMap place_cmp (List Item)) (t : TrunkId) (x : Name) (i : Item) (rest : List Item)
    → list_to m t x ≡ i ∷ rest → ((u : TrunkId) (y : Name) → All P (list_to m u y))
    → (u : TrunkId) (y : Name) → All P (list_to (fm.insert m (t, x) rest) u y)
popped_lists P m t x i rest first l u y = subst (λ z. All P z) (sym (list_to_insert m t x rest u y)) (go (same_trunk u t && same_name y x))
  where
    go : (b : Bool) → All P (cond b rest (list_to m u y))
    go true = All-tail P i rest (subst (λ z. All P z) first (l t x))
    go false = l u y

-- effects that only report what is sent
pub data Quietly (fs : List (Effect Item)) : List (Effect Item) → Type 0 where
  Nothing : Quietly fs fs
  Sends : (gs : List (Effect Item)) (t : Option TrunkId) (y : Name) (i : Item) → Quietly fs gs → Quietly fs (gs ++ Effect.Sent t y i ∷ [])

pub quietly_post : (fs : List (Effect Item)) (y : Name) (x : Item) (o : Work) → Quietly fs o.effects → Quietly fs ((post_to y x o).effects)
quietly_post fs y x o k = go (same_name y o.node.mint.name)
  where
    on : (r : Option TrunkId) → Quietly fs ((send_on r y x o).effects)
    on None = k
    on (Some t) = Sends o.effects (Some t) y x k

    go : (b : Bool) → Quietly fs ((cond b (keep_local x o) (send_on (route o.node y) y x o)).effects)
    go true = Sends o.effects None o.node.mint.name x k
    go false = on (route o.node y)

pub quietly_all : (fs : List (Effect Item)) (ss : List Addressed) (o : Work) → Quietly fs o.effects → Quietly fs ((post_all ss o).effects)
quietly_all fs [] o k = k
quietly_all fs (s ∷ ss) o k = quietly_all fs ss (post s o) (quietly_post fs s.node (spelled o.node s) o k)

pub quietly_more : (fs gs : List (Effect Item)) → Quietly fs gs → (f : Effect Item) → Contains fs f → Contains gs f
quietly_more fs gs Nothing f h = h
quietly_more fs gs (Sends hs t y i k) f h = Contains-append_left hs (Effect.Sent t y i ∷ []) f (quietly_more fs hs k f h)

pub quietly_acts : (fs gs : List (Effect Item)) → Quietly fs gs → (p q : Pid) (x : Data) → Contains gs (Effect.LinkExit p q x)
    → Contains fs (Effect.LinkExit p q x)
quietly_acts fs gs Nothing p q x h = h
quietly_acts fs gs (Sends hs t y i k) p q x h =
    pick (quietly_acts fs hs k p q x) (Contains-push_cases hs (Effect.Sent t y i) (Effect.LinkExit p q x) h)
  where
    pick : (Contains hs (Effect.LinkExit p q x) → Contains fs (Effect.LinkExit p q x)) → Contains hs (Effect.LinkExit p q x)
        ⊎ (◌≡◌ {A = Effect Item} (Effect.Sent t y i) (Effect.LinkExit p q x)) → Contains fs (Effect.LinkExit p q x)
    pick f (inl e) = f e
    pick f (inr e) = cc

-- what a post leaves of the node
pub posts_keep : {A : Type 0} (f : Node → A) → ((n : Node) (l : List Item) → f (record n { local = l }) ≡ f n)
    → (y : Name) (x : Item) (o : Work) → f ((post_to y x o).node) ≡ f o.node
posts_keep f h y x o = go (same_name y o.node.mint.name)
  where
    on : (r : Option TrunkId) → f ((send_on r y x o).node) ≡ f o.node
    on None = refl
    on (Some t) = refl

    go : (b : Bool) → f ((cond b (keep_local x o) (send_on (route o.node y) y x o)).node) ≡ f o.node
    go true = h o.node (o.node.local ++ x ∷ [])
    go false = on (route o.node y)

pub all_posts_keep : {A : Type 0} (f : Node → A) → ((n : Node) (l : List Item) → f (record n { local = l }) ≡ f n)
    → (ss : List Addressed) (o : Work) → f ((post_all ss o).node) ≡ f o.node
all_posts_keep f h [] o = refl
all_posts_keep f h (s ∷ ss) o = all_posts_keep f h ss (post s o) ∙ posts_keep f h s.node (spelled o.node s) o

cond_some : {M : Type 0} (b : Bool) (v : Option M) (m : M) → cond b None v ≡ Some m → v ≡ Some m
cond_some true v m h = absurd (none-some m h)
cond_some false v m h = h

pub removed_some : {M : Type 0} (w : MonitorMap M) (k r : Reference) (m : M) → fm.get (fm.remove w k) r ≡ Some m → fm.get w r ≡ Some m
removed_some w k r m h = cond_some (same_reference r k) (fm.get w r) m (sym (fm.get-remove reference_cmp_total w k r) ∙ h)

pub retained : {M : Type 0} (b : Bool) (v : Option M) (m : M) → cond b v None ≡ Some m → (b ≡ true) × (v ≡ Some m)
retained true v m h = (refl, h)
retained false v m h = absurd (none-some m h)

pub watches_left : (p : Pid) (w : WatchMap) (r : Reference)
    → fm.get (fm.retain_keys w (λ j. not (is_owned p (fm.get w j)))) r ≡ cond (not (is_owned p (fm.get w r))) (fm.get w r) None
watches_left p w r =
    fm.get-retain_keys w (λ j. not (is_owned p (fm.get w j))) r
    (λ j h. ap (λ i. not (is_owned p (fm.get w i))) (sym (reference_cmp_exact r j h)))

pub registered_left : (p : Pid) (w : RegistrationMap) (r : Reference)
    → fm.get (fm.retain_keys w (λ j. not (is_bound p (fm.get w j)))) r ≡ cond (not (is_bound p (fm.get w r))) (fm.get w r) None
registered_left p w r =
    fm.get-retain_keys w (λ j. not (is_bound p (fm.get w j))) r
    (λ j h. ap (λ i. not (is_bound p (fm.get w i))) (sym (reference_cmp_exact r j h)))

pub added_some : {M : Type 0} (w : MonitorMap M) (k : Reference) (v : M) (r : Reference) (m : M)
    → fm.get (added w k v) r ≡ Some m → (fm.get w r ≡ Some m) ⊎ ((r ≡ k) × (v ≡ m))
added_some w k v r m h = go (fm.contains_key w k) h
  where
    pick : (b : Bool) → same_reference r k ≡ b → cond b (Some v) (fm.get w r) ≡ Some m → (fm.get w r ≡ Some m) ⊎ ((r ≡ k) × (v ≡ m))
    pick true i j = inr (same_reference_true r k i, same_Some v m j)
    pick false i j = inl j

    go : (b : Bool) → fm.get (cond b w (fm.insert w k v)) r ≡ Some m → (fm.get w r ≡ Some m) ⊎ ((r ≡ k) × (v ≡ m))
    go true j = inl j
    go false j = pick (same_reference r k) refl (sym (fm.get-insert reference_cmp_total w k v r) ∙ j)

module _ (n : Node) (Old : Pid → Data → Type 0) (Ok : Pid → Pid → Data → Type 0) (Call : Pid → Target → Reference → Type 0)
    (Off : Reference → Type 0) where
  -- it had ended before, or ended in this event
  abbrev pub EndedBefore : Work → Pid → Data → Type 0
  EndedBefore o q x = Old q x ⊎ Contains o.effects (Effect.Ended q x)

  -- a monitor that is over, or ended in this event
  abbrev pub OffNow : Work → Reference → Type 0
  OffNow o r = Off r ⊎ (((m : Watch) × (fm.get n.watches r ≡ Some m)) × (fm.get o.node.watches r ≡ None))

  abbrev pub FoundedIn : Work → Item → Type 0
  FoundedIn o = Founded (EndedBefore o) Call (OffNow o)

  pub record True (o : Work) : Type 0 where
    pub carried : Carried (FoundedIn o) o
    pub acts : (p q : Pid) (x : Data) → Contains o.effects (Effect.LinkExit p q x) → Ok p q x
    pub watched : (r : Reference) (m : Watch) → fm.get o.node.watches r ≡ Some m → fm.get n.watches r ≡ Some m
    pub enrolled : (r : Reference) (m : Registration) → fm.get o.node.registered r ≡ Some m → IsAsked Call m.target m.owner r × IsBound m

  widen : (o o' : Work) → ((f : Effect Item) → Contains o.effects f → Contains o'.effects f)
      → ((r : Reference) (m : Watch) → fm.get o'.node.watches r ≡ Some m → fm.get o.node.watches r ≡ Some m) → (i : Item)
      → FoundedIn o i → FoundedIn o' i
  widen o o' f w = founded_by (EndedBefore o) (EndedBefore o') Call Call (OffNow o) (OffNow o') ends (λ p t r c. c) offs
    where
      ends : (q : Pid) (x : Data) → EndedBefore o q x → EndedBefore o' q x
      ends q x (inl h) = inl h
      ends q x (inr h) = inr (f (Effect.Ended q x) h)

      offs : (r : Reference) → OffNow o r → OffNow o' r
      offs r (inl h) = inl h
      offs r (inr h) = inr (h.0, none_by (fm.get o.node.watches r) (fm.get o'.node.watches r) (w r) h.1)

  -- the same items, and more effects
  pub true_more : (o o' : Work) → o'.node.local ≡ o.node.local → (outgoing o') ≡ (outgoing o)
      → ((f : Effect Item) → Contains o.effects f → Contains o'.effects f)
      → ((p q : Pid) (x : Data) → Contains o'.effects (Effect.LinkExit p q x) → Ok p q x)
      → ((r : Reference) (m : Watch) → fm.get o'.node.watches r ≡ Some m → fm.get o.node.watches r ≡ Some m)
      → ((r : Reference) (m : Registration) → fm.get o'.node.registered r ≡ Some m → IsAsked Call m.target m.owner r × IsBound m)
      → True o → True o'
  true_more o o' l s f a w e k = let c = carried_by (FoundedIn o) (FoundedIn o') o (widen o o' f w) k.carried in record {
    carried = record {
      local = subst (λ z. All (FoundedIn o') z) (sym l) c.local;
      sent = subst (λ z. All (λ (v : Envelope). FoundedIn o' v.item) z) (sym s) c.sent;
    };
    acts = a;
    watched = λ r m h. k.watched r m (w r m h);
    enrolled = e;
  }

  pub true_node : (o : Work) (m : Node) → m.local ≡ o.node.local → m.watches ≡ o.node.watches
      → m.registered ≡ o.node.registered → True o → True (record o { node = m })
  true_node o m l w e k =
      true_more o (record o { node = m }) l refl (λ f h. h) k.acts (λ r v h. ap (λ z. fm.get z r) (sym w) ∙ h)
      (λ r v h. k.enrolled r v (ap (λ z. fm.get z r) (sym e) ∙ h)) k

  pub true_put : (p : Pid) (m : Data) (o : Work) → True o → True (put p m o)
  true_put p m o k =
      true_more o (put p m o) refl (sent_in-silent o.effects (Effect.Put p m) refl)
      (λ f h. Contains-append_left o.effects (Effect.Put p m ∷ []) f h)
      (λ a b x h. pick a b x (Contains-push_cases o.effects (Effect.Put p m) (Effect.LinkExit a b x) h))
      (λ r v h. h) k.enrolled k
    where
      pick : (a b : Pid) (x : Data) → Contains o.effects (Effect.LinkExit a b x)
          ⊎ (◌≡◌ {A = Effect Item} (Effect.Put p m) (Effect.LinkExit a b x)) → Ok a b x
      pick a b x (inl h) = k.acts a b x h
      pick a b x (inr h) = cc

  true_reported : (p q : Pid) (x : Data) (o : Work) → Ok p q x → True o → True (report (Effect.LinkExit p q x) o)
  true_reported p q x o ok k =
      true_more o (report (Effect.LinkExit p q x) o) refl (sent_in-silent o.effects (Effect.LinkExit p q x) refl)
      (λ f h. Contains-append_left o.effects (Effect.LinkExit p q x ∷ []) f h)
      (λ a b z h. pick a b z (Contains-push_cases o.effects (Effect.LinkExit p q x) (Effect.LinkExit a b z) h))
      (λ r v h. h) k.enrolled k
    where
      pick : (a b : Pid) (z : Data) → Contains o.effects (Effect.LinkExit a b z)
          ⊎ (◌≡◌ {A = Effect Item} (Effect.LinkExit p q x) (Effect.LinkExit a b z)) → Ok a b z
      pick a b z (inl h) = k.acts a b z h
      pick a b z (inr h) =
          let pa : p ≡ a = cc in let qb : q ≡ b = cc in let xz : x ≡ z = cc in
          subst (λ v. Ok v b z) pa (subst (λ v. Ok p v z) qb (subst (λ v. Ok p q v) xz ok))

  -- signals that are founded in the end
  true_posts : (ss : List Addressed) (o : Work) → All (λ s. FoundedIn o (Signalled s.signal false)) ss → True o → True (post_all ss o)
  true_posts ss o h k =
      let q = quietly_all o.effects ss o Nothing in
      let ws = all_posts_keep (λ m. m.watches) (λ m l. refl) ss o in
      let rs = all_posts_keep (λ m. m.registered) (λ m l. refl) ss o in
      record {
        carried = carried_by (FoundedIn o) (FoundedIn (post_all ss o)) (post_all ss o)
            (widen o (post_all ss o) (quietly_more o.effects ((post_all ss o).effects) q) (λ r m e. ap (λ z. fm.get z r) (sym ws) ∙ e))
            (carried_all (FoundedIn o) (λ s pay c. c) ss o h k.carried);
        acts = λ a b x c. k.acts a b x (quietly_acts o.effects ((post_all ss o).effects) q a b x c);
        watched = λ r m e. k.watched r m (ap (λ z. fm.get z r) (sym ws) ∙ e);
        enrolled = λ r m e. k.enrolled r m (ap (λ z. fm.get z r) (sym rs) ∙ e);
      }

  pub true_post : (s : Addressed) (o : Work) → FoundedIn o (Signalled s.signal false) → True o → True (post s o)
  true_post s o h k =
      true_posts (s ∷ []) o (All-cons (λ z. FoundedIn o (Signalled z.signal false)) s [] h (All-nil (λ z. FoundedIn o (Signalled z.signal false)))) k

  pub old_now : (o : Work) (i : Item) → Founded Old Call Off i → FoundedIn o i
  old_now o = founded_by Old (EndedBefore o) Call Call Off (OffNow o) (λ q x h. inl h) (λ p t r h. h) (λ r h. inl h)

  -- a process ends
  module _ (p : Pid) (x : Data) (o : Work) (k : True o) where
    abbrev Good : Addressed → Type 0
    Good s = FoundedIn (end_process p x o) (Signalled s.signal false)

    why : EndedBefore (end_process p x o) p x
    why = inr (Contains-push ((post_all (exits_in p x (fm.entries o.node.ends)
        ++ monitor_exits p x (fm.entries o.node.registered)
        ++ demonitors p (fm.entries o.node.watches)) o).effects) (Effect.Ended p x))

    none : All Good []
    none = All-nil Good

    exits_good : (es : List ((Pid × Pid) × End)) → All Good (exits_in p x es)
    exits_good [] = none
    exits_good (e ∷ es) =
        subst (All Good) (sym (exits_cons p x e es)) (All-append Good (cond (same_pid e.0.0 p) (exit_for p x e.0.1 e.1) [])
        (exits_in p x es) (go (same_pid e.0.0 p) e.1) (exits_good es))
      where
        go : (b : Bool) (v : End) → All Good (cond b (exit_for p x e.0.1 v) [])
        go true End.Active = All-cons Good (to_pid e.0.1 (Signal.Exit p e.0.1 x)) [] why none
        go _ _ = none

    monitor_exits_good : (es : List (Reference × Registration)) → All (λ e. fm.get o.node.registered e.0 ≡ Some e.1) es
        → All Good (monitor_exits p x es)
    monitor_exits_good [] h = none
    monitor_exits_good (e ∷ es) h =
        All-append Good (cond (same_pid e.1.held p) (told_end e.1.target e.1.owner e.0 x ∷ []) []) (monitor_exits p x es)
        (go (same_pid e.1.held p) refl)
        (monitor_exits_good es (All-tail (λ d. fm.get o.node.registered d.0 ≡ Some d.1) e es h))
      where
        known : IsAsked Call e.1.target e.1.owner e.0 × IsBound e.1
        known = k.enrolled e.0 e.1 (All-head (λ d. fm.get o.node.registered d.0 ≡ Some d.1) e es h)

        E : Pid → Data → Type 0
        E = EndedBefore (end_process p x o)

        ended : same_pid e.1.held p ≡ true → IsOver E e.1.target x
        ended i = bound_over E e.1.target e.1.held x known.1 (subst (λ z. E z x) (sym (same_pid_true e.1.held p i)) why)

        go : (b : Bool) → same_pid e.1.held p ≡ b → All Good (cond b (told_end e.1.target e.1.owner e.0 x ∷ []) [])
        go true i = All-cons Good (told_end e.1.target e.1.owner e.0 x) []
            (told_founded E Call (OffNow (end_process p x o)) e.1.target e.1.owner e.0 x (ended i) known.0) none
        go false i = none

    left : (r : Reference)
        → fm.get (end_process p x o).node.watches r ≡ cond (not (is_owned p (fm.get o.node.watches r))) (fm.get o.node.watches r) None
    left r =
        let ss =
        exits_in p x (fm.entries o.node.ends) ++ monitor_exits p x (fm.entries o.node.registered)
        ++ demonitors p (fm.entries o.node.watches) in
        watches_left p ((post_all ss o).node.watches) r ∙ ap
        (λ (z : WatchMap). cond (not (is_owned p (fm.get z r))) (fm.get z r) None)
        (all_posts_keep (λ m. m.watches) (λ m l. refl) ss o)

    demonitors_good : (es : List (Reference × Watch)) → All (λ e. fm.get o.node.watches e.0 ≡ Some e.1) es → All Good (demonitors p es)
    demonitors_good [] h = none
    demonitors_good (e ∷ es) h =
        All-append Good (cond (same_pid e.1.owner p) (taken_back p e.1.target e.0 ∷ []) []) (demonitors p es)
        (go (same_pid e.1.owner p) refl)
        (demonitors_good es (All-tail (λ d. fm.get o.node.watches d.0 ≡ Some d.1) e es h))
      where
        here : fm.get o.node.watches e.0 ≡ Some e.1
        here = All-head (λ d. fm.get o.node.watches d.0 ≡ Some d.1) e es h

        go : (b : Bool) → same_pid e.1.owner p ≡ b → All Good (cond b (taken_back p e.1.target e.0 ∷ []) [])
        go true i = All-cons Good (taken_back p e.1.target e.0) []
            (back_founded (EndedBefore (end_process p x o)) Call (OffNow (end_process p x o)) p e.1.target e.0 (inr (
              (e.1, k.watched e.0 e.1 here),
              left e.0 ∙ ap (λ v. cond (not (is_owned p v)) v None) here ∙ ap (λ b. cond (not b) (Some e.1) None) i,
            ))) none
        go false i = none

    true_finish : True (end_process p x o)
    true_finish =
        let ss =
        exits_in p x (fm.entries o.node.ends) ++ monitor_exits p x (fm.entries o.node.registered)
        ++ demonitors p (fm.entries o.node.watches) in
        let o1 = post_all ss o in
        let q = quietly_all o.effects ss o Nothing in
        let ws = all_posts_keep (λ m. m.watches) (λ m l. refl) ss o in
        let rs = all_posts_keep (λ m. m.registered) (λ m l. refl) ss o in
        let more : (f : Effect Item) → Contains o.effects f → Contains (end_process p x o).effects f =
        λ f h. Contains-append_left o1.effects (Effect.Ended p x ∷ []) f (quietly_more o.effects o1.effects q f h) in
        let less : (r : Reference) (m : Watch) → fm.get (end_process p x o).node.watches r ≡ Some m → fm.get o.node.watches r ≡ Some m =
        λ r m h. (retained (not (is_owned p (fm.get o.node.watches r))) (fm.get o.node.watches r) m (sym (left r) ∙ h)).1 in
        let c : Carried (FoundedIn (end_process p x o)) o1 = carried_all (FoundedIn (end_process p x o)) (λ s pay c. c) ss o
        (All-append Good (exits_in p x (fm.entries o.node.ends) ++ monitor_exits p x (fm.entries o.node.registered))
        (demonitors p (fm.entries o.node.watches))
        (All-append Good (exits_in p x (fm.entries o.node.ends)) (monitor_exits p x (fm.entries o.node.registered))
        (exits_good (fm.entries o.node.ends))
        (monitor_exits_good (fm.entries o.node.registered) (each_entry o.node.registered)))
        (demonitors_good (fm.entries o.node.watches) (each_entry o.node.watches)))
        (carried_by (FoundedIn o) (FoundedIn (end_process p x o)) o (widen o (end_process p x o) more less) k.carried) in
        record {
          carried = record {
            local = c.local;
            sent = subst (All (λ (v : Envelope). FoundedIn (end_process p x o) v.item))
                (sym (sent_in-silent o1.effects (Effect.Ended p x) refl)) c.sent;
          };
          acts = λ a b z h. pick a b z (Contains-push_cases o1.effects (Effect.Ended p x) (Effect.LinkExit a b z) h);
          watched = λ r m h. k.watched r m (less r m h);
          enrolled = λ r m h. k.enrolled r m (ap (λ z. fm.get z r) (sym rs) ∙ (retained
              (not (is_bound p (fm.get o1.node.registered r))) (fm.get o1.node.registered r) m
              (sym (registered_left p o1.node.registered r) ∙ h)).1);
        }
      where
        pick : (a b : Pid) (z : Data)
            → Contains ((post_all (exits_in p x (fm.entries o.node.ends) ++ monitor_exits p x (fm.entries o.node.registered)
            ++ demonitors p (fm.entries o.node.watches)) o).effects) (Effect.LinkExit a b z)
            ⊎ (◌≡◌ {A = Effect Item} (Effect.Ended p x) (Effect.LinkExit a b z)) → Ok a b z
        pick a b z (inl h) =
            k.acts a b z (quietly_acts o.effects _ (quietly_all o.effects (exits_in p x (fm.entries o.node.ends)
            ++ monitor_exits p x (fm.entries o.node.registered)
            ++ demonitors p (fm.entries o.node.watches)) o Nothing) a b z h)
        pick a b z (inr h) = cc

  abbrev pub true_rules : Rules
  true_rules = record {
    Says = λ s. FoundedSignal Old Call Off s.signal;
    Reacts = Ok;
    Tells = λ r m x. Unit {0};
    Joins = λ r m. IsAsked Call m.target m.owner r;
    Drops = λ r m. Unit {0};
  }

  pub true_closed : Closed true_rules True
  true_closed = record {
    plain = λ s h. plain_founded Old Call Off s.signal h;
    posted = λ s o h k. true_post s o (old_now o (Signalled s.signal false) h) k;
    end_set = λ p q e o l k. true_node o ((set_end p q e o).node) refl refl refl k;
    drew = λ o k. true_node o ((draw kind.UnlinkId o).node) refl refl refl k;
    life_set = λ p l o h k. true_node o (record (o.node) { lives = set_life o.node.lives p l }) refl refl refl k;
    renamed = λ m o h k. true_node o (record (o.node) { names = m }) refl refl refl k;
    message = λ p m o h k. true_put p m o k;
    reacted = λ p q x o h k. true_reported p q x o h k;
    finished = λ p x o k. true_finish p x o k;
    registers = λ r m o l b h k. true_more o (register r m o) refl refl (λ f c. c) k.acts (λ s v c. c)
        (λ s v c. joined r m o h b k s v (added_some o.node.registered r m s v c)) k;
    unregisters = λ r m o e h k. true_more o (unregister r o) refl refl (λ f c. c) k.acts (λ s v c. c)
        (λ s v c. k.enrolled s v (removed_some o.node.registered r s v c)) k;
    ended = λ r m x o e h k. true_put m.owner (down_term r (object m.target) x) (unwatch r o)
        (true_more o (unwatch r o) refl refl (λ f c. c) k.acts (λ s v c. removed_some o.node.watches r s v c) k.enrolled k);
  }
    where
      joined : (r : Reference) (m : Registration) (o : Work) → IsAsked Call m.target m.owner r → IsBound m → True o → (s : Reference)
          (v : Registration) → (fm.get o.node.registered s ≡ Some v) ⊎ ((s ≡ r) × (m ≡ v))
          → IsAsked Call v.target v.owner s × IsBound v
      joined r m o h b k s v (inl c) = k.enrolled s v c
      joined r m o h b k s v (inr c) = (
        subst (λ z. IsAsked Call v.target v.owner z) (sym c.0)
            (subst (λ (z : Registration). IsAsked Call z.target z.owner r) c.1 h),
        subst IsBound c.1 b,
      )

  -- the handshake
  pub true_side : (t : TrunkId) (s : TrunkSide) (o : Work) → Turned o.node t s → True o → True (with_side t s o)
  true_side t s o h k = true_node o ((with_side t s o).node) refl refl refl k

  pub true_wrote : (t : TrunkId) (y : Name) (m : ShakeMsg) (o : Work) → True o → True (write t y m o)
  true_wrote t y m o k =
      let o' = write t y m o in
      let c =
      carried_by (FoundedIn o) (FoundedIn o') o
      (widen o o' (λ f h. Contains-append_left o.effects (Effect.Sent (Some t) y (Handshake m) ∷ []) f h) (λ r v h. h)) k.carried in
      record {
        carried = carried_write (FoundedIn o') t y m o tt c;
        acts = λ p q x h. k.acts p q x (quietly_acts o.effects (o.effects ++ Effect.Sent (Some t) y (Handshake m) ∷ [])
            (Sends o.effects (Some t) y (Handshake m) Nothing) p q x h);
        watched = k.watched;
        enrolled = k.enrolled;
      }
