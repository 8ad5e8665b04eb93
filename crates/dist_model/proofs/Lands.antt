-- What is posted comes to the list of its node, and what was there stays.
use Rattle.std.proofs.Common.{◌≡◌, Bool, true, false, cond, List, [], ◌∷◌, ◌++◌, refl, sym, ap}
use Rattle.std.proofs.Common.{◌∙◌, subst, ◌&&◌, ◌||◌, Option, Some, None, append_assoc, append-nil}
use Rattle.std.proofs.lemmas.Bool.{or_right, and_parts}
use Rattle.std.proofs.lemmas.Option.{same_Some, none-some}
use Rattle.std.proofs.Math.Bool.{or_assoc}
use Rattle.std.specs.FinMap as fm
use Rattle.std.specs.FinMap.Entries.{find}
use Rattle.dist_model.proofs.Envelopes.{Envelope, outgoing, sent_in-push, sent_in-silent}
use Rattle.dist_model.proofs.Founded.{Nothing, Quietly, Sends, posts_keep}
use Rattle.dist_model.proofs.Keys.{same_name_is, same_name_true, same_trunk, same_trunk_refl}
use Rattle.dist_model.proofs.Routes.{at_place}
use Rattle.dist_model.proofs.Trunks.{has}
use Rattle.dist_model.specs.Downs.{Down, down_in, downs_in, same_reference}
use Rattle.dist_model.specs.Exits.{monitor_exits}
use Rattle.dist_model.specs.Items.{Item, Signalled, has_reason}
use Rattle.dist_model.specs.Names.{Name, same_name, same_pid}
use Rattle.dist_model.specs.Node.{Node, route, route_in, payload_to}
use Rattle.dist_model.specs.Work.{Addressed, Work, keep_local, post, post_all, post_to, send_on, spelled}
use Rattle.dist_model.specs.declared.report.Effect.{Effect}
use Rattle.erl_control.specs.declared.signal.Signal.{Signal}
use Rattle.erl_names.specs.declared.trunk.TrunkId.{TrunkId}
use Rattle.erl_term.specs.Data.{Data}
use Rattle.erl_term.specs.declared.term.Pid.{Pid}
use Rattle.erl_term.specs.declared.term.Reference.{Reference}
use Rattle.exit_core.specs.Messages.{down_term}
use Rattle.erl_term.specs.Order.{reference_cmp}
use Rattle.monitor_core.specs.declared.monitor.Target.{Target}
use Rattle.monitor_core.specs.declared.monitor.Watch.{Watch}
use Rattle.monitor_core.specs.declared.monitor.Registration.{Registration}
use Rattle.dist_model.specs.Telling.{monitor_exit_signal, monitor_signal, object, told_end}

abbrev pub down : Watch → Data → Down
down m x = record { owner = m.owner; target = m.target; info = x }

-- MONITOR_P, and MONITOR_P_EXIT, of this reference
abbrev pub is_call : Reference → Item → Bool
is_call k (Signalled (Signal.Monitor p q r) pay) = same_reference k r
is_call k (Signalled (Signal.MonitorName p name r) pay) = same_reference k r
is_call k _ = false

abbrev pub is_end : Reference → Item → Bool
is_end k (Signalled (Signal.MonitorExit q p r x) pay) = same_reference k r
is_end k (Signalled (Signal.MonitorNameExit name p r x) pay) = same_reference k r
is_end k _ = false

-- the payload changes nothing there
pub end_blind : (k : Reference) (s : Signal) (pay : Bool) → is_end k (Signalled s pay) ≡ is_end k (Signalled s false)
end_blind k (Signal.MonitorExit q p r x) pay = refl
end_blind k (Signal.MonitorNameExit name p r x) pay = refl
end_blind k _ pay = refl

-- the references of the signals about a monitor
pub asked_is : (k : Reference) (p : Pid) (t : Target) (r : Reference) (pay : Bool)
    → is_call k (Signalled (monitor_signal p t r) pay) ≡ same_reference k r
asked_is k p (Target.Pid q) r pay = refl
asked_is k p (Target.Name name node) r pay = refl

pub told_is : (k : Reference) (t : Target) (p : Pid) (r : Reference) (x : Data) (pay : Bool)
    → is_end k (Signalled (monitor_exit_signal t p r x) pay) ≡ same_reference k r
told_is k (Target.Pid q) p r x pay = refl
told_is k (Target.Name name node) p r x pay = refl

-- lists
pub has_append : (f : Item → Bool) (xs ys : List Item) → has f (xs ++ ys) ≡ (has f xs || has f ys)
has_append f [] ys = refl
has_append f (x ∷ xs) ys = ap (λ b. f x || b) (has_append f xs ys) ∙ sym (or_assoc (f x) (has f xs) (has f ys))

pub has_first : (f : Item → Bool) (xs ys : List Item) → has f xs ≡ true → has f (xs ++ ys) ≡ true
has_first f xs ys h = has_append f xs ys ∙ ap (λ b. b || has f ys) h

pub has_last : (f : Item → Bool) (xs ys : List Item) → has f ys ≡ true → has f (xs ++ ys) ≡ true
has_last f xs ys h = has_append f xs ys ∙ or_right (has f xs) (has f ys) h

has_one : (f : Item → Bool) (x : Item) → f x ≡ true → has f (x ∷ []) ≡ true
has_one f x h = ap (λ b. b || false) h

pub at_place_append : (t : TrunkId) (y : Name) (es fs : List Envelope) → at_place t y (es ++ fs) ≡ at_place t y es ++ at_place t y fs
at_place_append t y [] fs = refl
at_place_append t y (e ∷ es) fs =
    ap (λ l. cond (same_trunk t e.trunk && same_name y e.target) (e.item ∷ []) [] ++ l) (at_place_append t y es fs)
    ∙ sym (append_assoc (cond (same_trunk t e.trunk && same_name y e.target) (e.item ∷ []) []) (at_place t y es) (at_place t y fs))

pub downs_append : (k : Reference) (fs gs : List (Effect Item)) → downs_in k (fs ++ gs) ≡ downs_in k fs ++ downs_in k gs
downs_append k [] gs = refl
downs_append k (Effect.Put p m ∷ fs) gs =
    ap (λ l. down_in k p m ++ l) (downs_append k fs gs) ∙ sym (append_assoc (down_in k p m) (downs_in k fs) (downs_in k gs))
downs_append k (_ ∷ fs) gs = downs_append k fs gs

pub no_more : (k : Reference) (fs gs : List (Effect Item)) → downs_in k gs ≡ [] → downs_in k (fs ++ gs) ≡ downs_in k fs
no_more k fs gs h = downs_append k fs gs ∙ ap (λ l. downs_in k fs ++ l) h ∙ append-nil (downs_in k fs)

pub quietly_downs : (k : Reference) (fs gs : List (Effect Item)) → Quietly fs gs → downs_in k gs ≡ downs_in k fs
quietly_downs k fs gs Nothing = refl
quietly_downs k fs gs (Sends hs t y i q) = no_more k hs (Effect.Sent t y i ∷ []) refl ∙ quietly_downs k fs hs q

down_by : (k : Reference) (r : Reference) (p : Pid) (q : Target) (x : Data)
    → ◌≡◌ {A = List Down} (cond (same_reference k r && true) ((record { owner = p; target = q; info = x }) ∷ []) [])
    (cond (same_reference k r) ((record { owner = p; target = q; info = x }) ∷ []) [])
down_by k r p q x = go (same_reference k r)
  where
    go : (b : Bool) → ◌≡◌ {A = List Down} (cond (b && true) ((record { owner = p; target = q; info = x }) ∷ []) [])
        (cond b ((record { owner = p; target = q; info = x }) ∷ []) [])
    go true = refl
    go false = refl

-- the target and the reason of a DOWN
pub down_said : (k : Reference) (r : Reference) (p : Pid) (q : Target) (x : Data)
    → down_in k p (down_term r (object q) x) ≡ cond (same_reference k r) ((record { owner = p; target = q; info = x }) ∷ []) []
down_said k r p (Target.Pid q) x = down_by k r p (Target.Pid q) x
down_said k r p (Target.Name name node) x = down_by k r p (Target.Name name node) x

-- a signal that goes to y
abbrev pub any_to : (Item → Bool) → Name → List Addressed → Bool
any_to f y [] = false
any_to f y (s ∷ ss) = (f (Signalled s.signal false) && same_name y s.node) || any_to f y ss

pub any_to_append : (f : Item → Bool) (y : Name) (xs ys : List Addressed) → any_to f y (xs ++ ys) ≡ (any_to f y xs || any_to f y ys)
any_to_append f y [] ys = refl
any_to_append f y (x ∷ xs) ys =
    ap (λ b. (f (Signalled x.signal false) && same_name y x.node) || b) (any_to_append f y xs ys)
    ∙ sym (or_assoc (f (Signalled x.signal false) && same_name y x.node) (any_to f y xs) (any_to f y ys))

-- posting keeps what is there
pub local_grows : (f : Item → Bool) (z : Name) (x : Item) (o : Work) → has f o.node.local ≡ true → has f ((post_to z x o).node.local) ≡ true
local_grows f z x o h = go (same_name z o.node.mint.name)
  where
    on : (r : Option TrunkId) → has f ((send_on r z x o).node.local) ≡ true
    on None = h
    on (Some t) = h

    go : (b : Bool) → has f ((cond b (keep_local x o) (send_on (route o.node z) z x o)).node.local) ≡ true
    go true = has_first f o.node.local (x ∷ []) h
    go false = on (route o.node z)

pub sent_grows : (f : Item → Bool) (t : TrunkId) (y : Name) (z : Name) (x : Item) (o : Work)
    → has f (at_place t y (outgoing o)) ≡ true → has f (at_place t y (outgoing (post_to z x o))) ≡ true
sent_grows f t y z x o h = go (same_name z o.node.mint.name)
  where
    on : (r : Option TrunkId) → has f (at_place t y (outgoing (send_on r z x o))) ≡ true
    on None = h
    on (Some u) =
        ap (λ l. has f (at_place t y l)) (sent_in-push o.effects (Effect.Sent (Some u) z x))
        ∙ ap (has f) (at_place_append t y (outgoing o) ((record { trunk = u; target = z; item = x }) ∷ []))
        ∙ has_first f (at_place t y (outgoing o)) _ h

    go : (b : Bool) → has f (at_place t y (outgoing (cond b (keep_local x o) (send_on (route o.node z) z x o)))) ≡ true
    go true = ap (λ l. has f (at_place t y l)) (sent_in-silent o.effects (Effect.Sent None o.node.mint.name x) refl) ∙ h
    go false = on (route o.node z)

pub all_local_grows : (f : Item → Bool) (ss : List Addressed) (o : Work) → has f o.node.local ≡ true
    → has f ((post_all ss o).node.local) ≡ true
all_local_grows f [] o h = h
all_local_grows f (s ∷ ss) o h = all_local_grows f ss (post s o) (local_grows f s.node (spelled o.node s) o h)

pub all_sent_grows : (f : Item → Bool) (t : TrunkId) (y : Name) (ss : List Addressed) (o : Work)
    → has f (at_place t y (outgoing o)) ≡ true → has f (at_place t y (outgoing (post_all ss o))) ≡ true
all_sent_grows f t y [] o h = h
all_sent_grows f t y (s ∷ ss) o h = all_sent_grows f t y ss (post s o) (sent_grows f t y s.node (spelled o.node s) o h)

-- and what is posted comes there
one_local : (f : Item → Bool) (z : Name) (x : Item) (o : Work) → f x ≡ true → same_name z o.node.mint.name ≡ true
    → has f ((post_to z x o).node.local) ≡ true
one_local f z x o h e =
    ap (λ b. has f ((cond b (keep_local x o) (send_on (route o.node z) z x o)).node.local)) e
    ∙ has_last f o.node.local (x ∷ []) (has_one f x h)

one_sent : (f : Item → Bool) (t : TrunkId) (z : Name) (x : Item) (o : Work) → f x ≡ true
    → same_name z o.node.mint.name ≡ false → route o.node z ≡ Some t → has f (at_place t z (outgoing (post_to z x o))) ≡ true
one_sent f t z x o h e r =
    ap (λ b. has f (at_place t z (outgoing (cond b (keep_local x o) (send_on (route o.node z) z x o))))) e
    ∙ ap (λ v. has f (at_place t z (outgoing (send_on v z x o)))) r
    ∙ ap (λ l. has f (at_place t z l)) (sent_in-push o.effects (Effect.Sent (Some t) z x))
    ∙ ap (has f) (at_place_append t z (outgoing o) ((record { trunk = t; target = z; item = x }) ∷ []))
    ∙ has_last f (at_place t z (outgoing o)) (at_place t z ((record { trunk = t; target = z; item = x }) ∷ []))
    (ap (λ b. has f (cond b (x ∷ []) [] ++ [])) (ap (λ b. b && same_name z z) (same_trunk_refl t) ∙ same_name_is z z refl) ∙ has_one f x h)

-- a signal of reference k goes to y's node
abbrev pub Lands : (Item → Bool) → Node → Name → Work → Type 0
Lands f n y o =
    (same_name y n.mint.name ≡ true → has f o.node.local ≡ true)
    × ((t : TrunkId) → same_name y n.mint.name ≡ false → route n y ≡ Some t → has f (at_place t y (outgoing o)) ≡ true)

pub lands_one : (f : Item → Bool) (n : Node) (s : Addressed) (o : Work) → o.node.sides ≡ n.sides → o.node.mint.name ≡ n.mint.name
    → f (spelled o.node s) ≡ true → Lands f n s.node (post s o)
lands_one f n s o sd nm h = (
  λ e. one_local f s.node (spelled o.node s) o h (ap (same_name s.node) nm ∙ e),
  λ t e r. one_sent f t s.node (spelled o.node s) o h (ap (same_name s.node) nm ∙ e)
      (ap (λ l. route_in (fm.entries l) s.node) sd ∙ r),
)

pub lands_all : (f : Item → Bool) → ((s : Signal) (pay : Bool) → f (Signalled s pay) ≡ f (Signalled s false)) → (n : Node) (y : Name)
    (ss : List Addressed) (o : Work) → o.node.sides ≡ n.sides → o.node.mint.name ≡ n.mint.name → any_to f y ss ≡ true
    → Lands f n y (post_all ss o)
lands_all f blind n y [] o sd nm h = cc
lands_all f blind n y (s ∷ ss) o sd nm h = go (f (Signalled s.signal false) && same_name y s.node) refl h
    (lands_all f blind n y ss (post s o) (posts_keep (λ m. m.sides) (λ m l. refl) s.node (spelled o.node s) o ∙ sd)
    (posts_keep (λ m. m.mint.name) (λ m l. refl) s.node (spelled o.node s) o ∙ nm))
  where
    go : (b : Bool) → (f (Signalled s.signal false) && same_name y s.node) ≡ b → (b || any_to f y ss) ≡ true
        → (any_to f y ss ≡ true → Lands f n y (post_all ss (post s o))) → Lands f n y (post_all ss (post s o))
    go true e h k =
        let v = and_parts (f (Signalled s.signal false)) (same_name y s.node) e in
        let l : Lands f n y (post s o) =
        subst (λ z. Lands f n z (post s o)) (sym (same_name_true y s.node v.1)) (lands_one f n s o sd nm
        (blind s.signal (has_reason s.signal && payload_to o.node s.node) ∙ v.0)) in
        (λ i. all_local_grows f ss (post s o) (l.0 i), λ t i r. all_sent_grows f t y ss (post s o) (l.1 t i r))
    go false e h k = k h

-- one that ends tells the owner of each registration
pub told_owner : (p : Pid) (x : Data) (k : Reference) (m : Registration) (es : List (Reference × Registration))
    → find reference_cmp k es ≡ Some m → same_pid m.held p ≡ true → any_to (is_end k) m.owner.node (monitor_exits p x es) ≡ true
told_owner p x k m [] h t = absurd (none-some m h)
told_owner p x k m (e ∷ es) h t =
    any_to_append (is_end k) m.owner.node (cond (same_pid e.1.held p) (told_end e.1.target e.1.owner e.0 x ∷ []) [])
    (monitor_exits p x es) ∙ go (same_reference k e.0) refl h (λ i. told_owner p x k m es i t)
  where
    -- this one's owner is told
    told : same_reference k e.0 ≡ true → e.1 ≡ m → any_to (is_end k) m.owner.node (told_end e.1.target e.1.owner e.0 x ∷ []) ≡ true
    told a c =
        ap (λ (z : Registration). any_to (is_end k) m.owner.node (told_end z.target z.owner e.0 x ∷ [])) c
        ∙ ap (λ c. (c && same_name m.owner.node m.owner.node) || false) (told_is k m.target m.owner e.0 x false ∙ a)
        ∙ ap (λ c. c || false) (same_name_is m.owner.node m.owner.node refl)

    first : (c : Bool) → same_pid e.1.held p ≡ c → c ≡ true → same_reference k e.0 ≡ true → e.1 ≡ m
        → any_to (is_end k) m.owner.node (cond c (told_end e.1.target e.1.owner e.0 x ∷ []) []) ≡ true
    first true i j a c = told a c
    first false i j a c = cc

    go : (c : Bool) → same_reference k e.0 ≡ c → cond c (Some e.1) (find reference_cmp k es) ≡ Some m
        → (find reference_cmp k es ≡ Some m → any_to (is_end k) m.owner.node (monitor_exits p x es) ≡ true)
        → (any_to (is_end k) m.owner.node (cond (same_pid e.1.held p) (told_end e.1.target e.1.owner e.0 x ∷ []) [])
        || any_to (is_end k) m.owner.node (monitor_exits p x es)) ≡ true
    go true i h f = let c : e.1 ≡ m = same_Some e.1 m h in
        ap (λ d. d || any_to (is_end k) m.owner.node (monitor_exits p x es)) (first (same_pid e.1.held p) refl
        (ap (λ (z : Registration). same_pid z.held p) c ∙ t) i c)
    go false i h f =
        or_right (any_to (is_end k) m.owner.node (cond (same_pid e.1.held p) (told_end e.1.target e.1.owner e.0 x ∷ []) []))
        (any_to (is_end k) m.owner.node (monitor_exits p x es)) (f h)
