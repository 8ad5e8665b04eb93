-- What a node keeps by itself, and what its own list and what it sends keep where it posts.
use Rattle.std.proofs.Common.{◌≡◌, Bool, true, false, cond, List, [], ◌∷◌, ◌++◌, refl}
use Rattle.std.proofs.Common.{sym, ap, ◌∙◌, subst, ◌&&◌, ◌||◌, Option, Some, None, T}
use Rattle.std.proofs.lemmas.Bool.{and_parts}
use Rattle.std.specs.Option.{is_some}
use Rattle.std.specs.Ordering.{is_eq, eq_by_cmp}
use Rattle.std.specs.Cmp.{tied_itself}
use Rattle.std.specs.FinMap as fm
use Rattle.std.specs.FinMap.Entries.{find, is_sorted, below_all}
use Rattle.sorted_map.specs.Facts.{both_pass}
use Rattle.dist_model.proofs.Envelopes.{Envelope, outgoing, sent_by, sent_in, sent_in-push, sent_in-silent}
use Rattle.dist_model.proofs.Keys.{pair_exact, pair_total, same_pid_refl, same_pid_true, below_key}
use Rattle.dist_model.proofs.Views.{post_keeps, telling_news, news_pay}
use Rattle.dist_model.proofs.LastSignals.{exits_in, exits_cons}
use Rattle.dist_model.specs.Exits.{demonitors, exit_for, monitor_exits}
use Rattle.dist_model.specs.Items.{Item, Signalled, news_in, telling, has_reason}
use Rattle.dist_model.specs.Names.{Name, pair_cmp, same_name, same_pid}
use Rattle.dist_model.specs.Node.{Node, end_of, living, is_stranger, route, route_in, side_where, payload_to}
use Rattle.dist_model.specs.Sides.{TrunkSide, is_losing, is_up}
use Rattle.dist_model.specs.Work.{Addressed, Work, keep_local, post, post_all, post_to, send_on, spelled}
use Rattle.dist_model.specs.declared.report.Effect.{Effect}
use Rattle.erl_control.specs.declared.signal.Signal.{Signal}
use Rattle.erl_names.specs.Order.{trunk_cmp}
use Rattle.erl_names.specs.declared.trunk.TrunkId.{TrunkId}
use Rattle.erl_term.specs.Data.{Data}
use Rattle.erl_term.specs.declared.term.Pid.{Pid}
use Rattle.erl_term.specs.declared.term.Reference.{Reference}
use Rattle.link_core.specs.declared.end.End.{End}
use Rattle.link_core.specs.News.{Exited, LinkNews}
use Rattle.monitor_core.specs.declared.monitor.Registration.{Registration}
use Rattle.monitor_core.specs.declared.monitor.Target.{Target}
use Rattle.monitor_core.specs.declared.monitor.Watch.{Watch}
use Rattle.dist_model.specs.Telling.{taken_back, told_end}
use Rattle.std.specs.FinMap.{FinMap}

-- a node up or losing towards y, or the node of y
abbrev pub held : Node → Name → Bool
held n y = same_name y n.mint.name || is_some (side_where (λ v. is_up v || is_losing v) y (fm.entries n.sides))

-- what a node keeps by itself
pub record NodeKept (n : Node) : Type 0 where
  pub born : (p : Pid) → living n p ≡ true → is_stranger n p ≡ false
  pub rooted : (p q : Pid) → (end_of n p q ≡ End.None → ⊥) → (living n p ≡ true) × (held n q.node ≡ true)
      × (same_name q.node n.mint.name ≡ true → (is_stranger n q ≡ false) × (same_pid p q ≡ false))

-- what a local list holds about links: between two that were spawned here, and are two
abbrev pub HomeItem : (Pid → Bool) → Item → Type 0
HomeItem f x = (a b : Pid) → (news_in a b x ≡ [] → ⊥) → (f a ≡ false) × (f b ≡ false) × (same_pid a b ≡ false)

pub home_said : (f : Pid → Bool) (a b : Pid) (s : LinkNews) (pay : Bool) → (f a ≡ false) × (f b ≡ false) × (same_pid a b ≡ false)
    → HomeItem f (Signalled (telling a b s) pay)
home_said f a b s pay h x y n = go (same_pid a x && same_pid b y) refl
  where
    go : (t : Bool) → (same_pid a x && same_pid b y) ≡ t → (f x ≡ false) × (f y ≡ false) × (same_pid x y ≡ false)
    go true e =
        let v = and_parts (same_pid a x) (same_pid b y) e in
        let xe : a ≡ x = same_pid_true a x v.0 in
        let ye : b ≡ y = same_pid_true b y v.1 in
        (sym (ap f xe) ∙ h.0, sym (ap f ye) ∙ h.1, sym (ap (λ z. same_pid z y) xe) ∙ sym (ap (same_pid a) ye) ∙ h.2)
    go false e = absurd (n (telling_news a b x y s pay ∙ ap (λ t. cond t (s ∷ []) []) e))

pub home_saying : (f : Pid → Bool) (a b : Pid) (s : LinkNews) (pay : Bool) → HomeItem f (Signalled (telling a b s) pay)
    → (f a ≡ false) × (f b ≡ false) × (same_pid a b ≡ false)
home_saying f a b s pay h =
    h a b (λ e. let n : s ∷ [] ≡ [] = sym (telling_news a b a b s pay
    ∙ ap (λ t. cond (t && same_pid b b) (s ∷ []) []) (same_pid_refl a)
    ∙ ap (λ t. cond t (s ∷ []) []) (same_pid_refl b)) ∙ e in cc)

abbrev pub Homely : (Pid → Bool) → List Item → Type 0
Homely f [] = Unit {0}
Homely f (x ∷ xs) = HomeItem f x × Homely f xs

Homely-push : (f : Pid → Bool) (xs : List Item) (x : Item) → Homely f xs → HomeItem f x → Homely f (xs ++ x ∷ [])
Homely-push f [] x h k = (k, tt)
Homely-push f (y ∷ ys) x h k = (h.0, Homely-push f ys x h.1 k)

abbrev pub home_of : Node → Type 0
home_of n = Homely (λ p. is_stranger n p) n.local

pub home_plain : (f : Pid → Bool) (x : Item) → ((p q : Pid) → news_in p q x ≡ []) → HomeItem f x
home_plain f x none a b n = absurd (n (none a b))

-- an item may be posted to y: it is plain, or y is another node, or both were spawned here
pub post_home : (y : Name) (x : Item) (o : Work)
    → (same_name y o.node.mint.name ≡ true → HomeItem (λ p. is_stranger o.node p) x) → home_of o.node
    → home_of ((post_to y x o).node)
post_home y x o i h = go (same_name y o.node.mint.name) refl
  where
    sent : (r : Option TrunkId) → home_of ((send_on r y x o).node)
    sent None = h
    sent (Some t) = h

    go : (b : Bool) → same_name y o.node.mint.name ≡ b → home_of ((cond b (keep_local x o) (send_on (route o.node y) y x o)).node)
    go true e = Homely-push (λ p. is_stranger o.node p) o.node.local x h (i e)
    go false e = sent (route o.node y)

-- the payload changes nothing there
home_pay : (f : Pid → Bool) (s : Signal) (u v : Bool) → HomeItem f (Signalled s u) → HomeItem f (Signalled s v)
home_pay f s u v h a b n = h a b (λ e. n (news_pay a b s v u ∙ e))

abbrev pub PostsHome : Name → (Pid → Bool) → List Addressed → Type 0
PostsHome z f [] = Unit {0}
PostsHome z f (e ∷ es) = (same_name e.node z ≡ true → HomeItem f (Signalled e.signal false)) × PostsHome z f es

pub post_all_home : (es : List Addressed) (o : Work) → PostsHome o.node.mint.name (λ p. is_stranger o.node p) es → home_of o.node
    → home_of ((post_all es o).node)
post_all_home [] o i h = h
post_all_home (e ∷ es) o i h = post_all_home es (post e o)
    (subst (λ f. PostsHome ((post e o).node.mint.name) f es)
    (sym (λ j p. post_keeps (λ n. is_stranger n p) (λ n m. refl) e.node (spelled o.node e) o j))
    (subst (λ z. PostsHome z (λ p. is_stranger o.node p) es)
    (sym (post_keeps (λ n. n.mint.name) (λ n m. refl) e.node (spelled o.node e) o)) i.1))
    (post_home e.node (spelled o.node e) o
    (λ j. home_pay (λ p. is_stranger o.node p) e.signal false (has_reason e.signal && payload_to o.node e.node) (i.0 j)) h)

pub PostsHome-append : (z : Name) (f : Pid → Bool) (xs ys : List Addressed) → PostsHome z f xs → PostsHome z f ys → PostsHome z f (xs ++ ys)
PostsHome-append z f [] ys a b = b
PostsHome-append z f (x ∷ xs) ys a b = (a.0, PostsHome-append z f xs ys a.1 b)

-- what a process that ends posts
pub exits_home : (z : Name) (f : Pid
    → Bool) (p : Pid) (r : Data) (es : List ((Pid × Pid) × End)) → f p ≡ false → ((e : (Pid × Pid) × End)
    → find pair_cmp e.0 es ≡ Some e.1 → (e.1 ≡ End.None → ⊥) → same_name e.0.1.node z ≡ true → (f e.0.1 ≡ false)
    × (same_pid e.0.0 e.0.1 ≡ false)) → T (is_sorted pair_cmp es) → PostsHome z f (exits_in p r es)
exits_home z f p r [] hp h s = tt
exits_home z f p r (e ∷ es) hp h s =
    let t = both_pass (below_all pair_cmp e.0 es) (is_sorted pair_cmp es) s in
    subst (PostsHome z f) (sym (exits_cons p r e es))
    (PostsHome-append z f (cond (same_pid e.0.0 p) (exit_for p r e.0.1 e.1) []) (exits_in p r es) (own (same_pid e.0.0 p) refl e.1 refl)
    (exits_home z f p r es hp (λ d fd nd. h d (rest d fd (below_key pair_cmp pair_exact d.0 e.0 d.1 es t.0 fd)) nd) t.1))
  where
    rest : (d : (Pid × Pid) × End) → find pair_cmp d.0 es ≡ Some d.1 → eq_by_cmp pair_cmp d.0 e.0 ≡ false
        → find pair_cmp d.0 (e ∷ es) ≡ Some d.1
    rest d fd n = ap (λ b. cond b (Some e.1) (find pair_cmp d.0 es)) n ∙ fd

    own : (b : Bool) → same_pid e.0.0 p ≡ b → (v : End) → v ≡ e.1 → PostsHome z f (cond b (exit_for p r e.0.1 v) [])
    own true j End.Active i = (
      λ nm. let d : (f e.0.1 ≡ false) × (same_pid p e.0.1 ≡ false) = subst (λ u. (f e.0.1 ≡ false)
          × (same_pid u e.0.1 ≡ false)) (same_pid_true e.0.0 p j) (h e
          (ap (λ c. cond (is_eq c) (Some e.1) (find pair_cmp e.0 es)) (tied_itself pair_total e.0))
          (λ a. let c : End.Active ≡ End.None = i ∙ a in cc) nm) in home_said f p e.0.1 (Exited r) false (hp, d.0, d.1),
      tt,
    )
    own _ j _ i = tt

told_home : (z : Name) (f : Pid → Bool) (t : Target) (o : Pid) (k : Reference) (r : Data) (l : List Addressed) → PostsHome z f l
    → PostsHome z f (told_end t o k r ∷ l)
told_home z f (Target.Pid q) o k r l h = (λ h a b n. absurd (n refl), h)
told_home z f (Target.Name n m) o k r l h = (λ h a b n. absurd (n refl), h)

back_home : (z : Name) (f : Pid → Bool) (p : Pid) (t : Target) (k : Reference) (l : List Addressed) → PostsHome z f l
    → PostsHome z f (taken_back p t k ∷ l)
back_home z f p (Target.Pid q) k l h = (λ h a b n. absurd (n refl), h)
back_home z f p (Target.Name n m) k l h = (λ h a b n. absurd (n refl), h)

pub downs_home : (z : Name) (f : Pid → Bool) (p : Pid) (r : Data) (es : List (Reference × Registration)) → PostsHome z f (monitor_exits p r es)
downs_home z f p r [] = tt
downs_home z f p r (e ∷ es) =
    elim (same_pid e.1.held p) as
    (λ b. PostsHome z f (cond b (told_end e.1.target e.1.owner e.0 r ∷ []) [] ++ monitor_exits p r es))
    [ true ↦ told_home z f e.1.target e.1.owner e.0 r (monitor_exits p r es) (downs_home z f p r es) | false ↦ downs_home z f p r es ]

pub unwatches_home : (z : Name) (f : Pid → Bool) (p : Pid) (es : List (Reference × Watch)) → PostsHome z f (demonitors p es)
unwatches_home z f p [] = tt
unwatches_home z f p (e ∷ es) =
    elim (same_pid e.1.owner p) as
    (λ b. PostsHome z f (cond b (taken_back p e.1.target e.0 ∷ []) [] ++ demonitors p es))
    [ true ↦ back_home z f p e.1.target e.0 (demonitors p es) (unwatches_home z f p es) | false ↦ unwatches_home z f p es ]

-- each envelope is on the trunk that is up
abbrev pub AllRouted : FinMap trunk_cmp TrunkSide → List Envelope → Type 0
AllRouted m [] = Unit {0}
AllRouted m (e ∷ es) = (route_in (fm.entries m) e.target ≡ Some e.trunk) × AllRouted m es

routed-push : (m : FinMap trunk_cmp TrunkSide) (es : List Envelope) (e : Envelope) → AllRouted m es
    → route_in (fm.entries m) e.target ≡ Some e.trunk → AllRouted m (es ++ e ∷ [])
routed-push m [] e a r = (r, tt)
routed-push m (d ∷ es) e a r = (a.0, routed-push m es e a.1 r)

send_routed : (r : Option TrunkId) (y : Name) (x : Item) (o : Work) → route o.node y ≡ r → AllRouted o.node.sides (outgoing o)
    → AllRouted ((send_on r y x o).node.sides) (outgoing (send_on r y x o))
send_routed None y x o h a = a
send_routed (Some t) y x o h a =
    subst (AllRouted o.node.sides) (sym (sent_in-push o.effects (Effect.Sent (Some t) y x)))
    (routed-push o.node.sides (outgoing o) (record { trunk = t; target = y; item = x }) a h)

-- an effect that sends nothing on a trunk
pub silent_routed : (m : FinMap trunk_cmp TrunkSide) (fs : List (Effect Item)) (f : Effect Item) → sent_by f ≡ []
    → AllRouted m (sent_in fs) → AllRouted m (sent_in (fs ++ f ∷ []))
silent_routed m fs f h a = subst (AllRouted m) (sym (sent_in-silent fs f h)) a

pub post_routed : (y : Name) (x : Item) (o : Work) → AllRouted o.node.sides (outgoing o)
    → AllRouted ((post_to y x o).node.sides) (outgoing (post_to y x o))
post_routed y x o a = go (same_name y o.node.mint.name)
  where
    go : (b : Bool) → AllRouted ((cond b (keep_local x o) (send_on (route o.node y) y x o)).node.sides)
        (outgoing (cond b (keep_local x o) (send_on (route o.node y) y x o)))
    go true = silent_routed o.node.sides o.effects (Effect.Sent None o.node.mint.name x) refl a
    go false = send_routed (route o.node y) y x o refl a

pub post_all_routed : (es : List Addressed) (o : Work) → AllRouted o.node.sides (outgoing o)
    → AllRouted ((post_all es o).node.sides) (outgoing (post_all es o))
post_all_routed [] o a = a
post_all_routed (e ∷ es) o a = post_all_routed es (post e o) (post_routed e.node (spelled o.node e) o a)
