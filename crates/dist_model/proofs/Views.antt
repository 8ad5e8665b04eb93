-- What a node in the midst of an event is to one pair of processes.
use Rattle.std.proofs.Common.{◌≡◌, Bool, true, false, cond, not, List, [], ◌∷◌, ◌++◌, refl, sym, ap, ◌∙◌}
use Rattle.std.proofs.Common.{subst, ◌&&◌, ◌||◌, Option, Some, None, ◌⊎◌, inl, inr, append_assoc, append-nil}
use Rattle.std.proofs.lemmas.Bool.{and_parts}
use Rattle.std.specs.Option.{is_some}
use Rattle.dist_model.proofs.Envelopes.{Envelope, outgoing, sent_by, sent_in, sent_in-push, sent_in-silent}
use Rattle.dist_model.proofs.Keys.{same_name_is, same_pid_refl, same_pid_true}
use Rattle.dist_model.specs.Items.{Item, Signalled, news, news_in, telling, has_reason}
use Rattle.dist_model.specs.Names.{Name, same_name, same_pid}
use Rattle.dist_model.specs.Node.{Node, end_of, living, is_stranger, reaches, route, payload_to}
use Rattle.dist_model.specs.declared.report.Effect.{Effect}
use Rattle.dist_model.specs.Work.{Addressed, Work, keep_local, post, post_all, post_to, report, send_on, spelled}
use Rattle.erl_control.specs.declared.signal.Signal.{Signal}
use Rattle.erl_names.specs.declared.trunk.TrunkId.{TrunkId}
use Rattle.erl_term.specs.declared.term.Pid.{Pid}
use Rattle.link_core.proofs.Kept.{side_path}
use Rattle.link_core.specs.News.{LinkNews, Signals}
use Rattle.link_core.specs.Pair.{Side}
use Rattle.link_core.specs.declared.end.LinkSignal.{LinkSignal}

abbrev pub to_name : Name → List Envelope → List Item
to_name y [] = []
to_name y (e ∷ es) = cond (same_name e.target y) (e.item ∷ []) [] ++ to_name y es

-- what the node has waiting for processes of y: its local list, or what this event sent
abbrev pub line : Work → Name → List Item
line o y = cond (same_name y o.node.mint.name) o.node.local (to_name y (outgoing o))

-- once spawned, and not living
abbrev pub over : Node → Pid → Bool
over n p = not (living n p) && not (is_stranger n p)

abbrev pub side_of : Node → Pid → Pid → List LinkNews → Side
side_of n p q L = record { end = end_of n p q; gone = over n p; drawn = n.mint.unlink_ids; sent = L }

-- p's side of its link with q, where b stood on the way before the event
abbrev pub view : List LinkNews → Work → Pid → Pid → Side
view b o p q = side_of o.node p q (b ++ news p q (line o q.node))

abbrev pub more : Side → List LinkNews → Side
more a L = record { end = a.end; gone = a.gone; drawn = a.drawn; sent = a.sent ++ L }

pub news-append : (p q : Pid) (xs ys : List Item) → news p q (xs ++ ys) ≡ news p q xs ++ news p q ys
news-append p q [] ys = refl
news-append p q (x ∷ xs) ys =
    ap (λ l. news_in p q x ++ l) (news-append p q xs ys) ∙ sym (append_assoc (news_in p q x) (news p q xs) (news p q ys))

pub news-push : (p q : Pid) (xs : List Item) (x : Item) → news p q (xs ++ x ∷ []) ≡ news p q xs ++ news_in p q x
news-push p q xs x = news-append p q xs (x ∷ []) ∙ ap (λ l. news p q xs ++ l) (append-nil (news_in p q x))

pub to_name-push : (y : Name) (es : List Envelope) (e : Envelope)
    → to_name y (es ++ e ∷ []) ≡ to_name y es ++ cond (same_name e.target y) (e.item ∷ []) []
to_name-push y [] e = append-nil _
to_name-push y (d ∷ es) e =
    ap (λ l. cond (same_name d.target y) (d.item ∷ []) [] ++ l) (to_name-push y es e)
    ∙ sym (append_assoc (cond (same_name d.target y) (d.item ∷ []) []) (to_name y es) (cond (same_name e.target y) (e.item ∷ []) []))

-- an item that is addressed to the node of its receiver
abbrev pub Suits : Name → Item → Pid → Pid → Type 0
Suits y x p q = (y ≡ q.node) ⊎ (news_in p q x ≡ [])

nothing_more : (L R : List LinkNews) → R ≡ [] → L ≡ L ++ R
nothing_more L R h = sym (append-nil L) ∙ ap (λ l. L ++ l) (sym h)

module _ (y : Name) (x : Item) (o : Work) (p q : Pid) where
  local_line : (b : Bool) → same_name q.node o.node.mint.name ≡ b → same_name y o.node.mint.name ≡ true → Suits y x p q
      → news p q (cond b (o.node.local ++ x ∷ []) (to_name q.node (outgoing o)))
      ≡ news p q (cond b o.node.local (to_name q.node (outgoing o))) ++ news_in p q x
  local_line true e h s = news-push p q o.node.local x
  local_line false e h (inl d) =
      let c : same_name q.node o.node.mint.name ≡ true = subst (λ z. same_name z o.node.mint.name ≡ true) d h in
      absurd (let n : true ≡ false = sym c ∙ e in cc)
  local_line false e h (inr n) = nothing_more (news p q (to_name q.node (outgoing o))) (news_in p q x) n

  -- what is kept for the node itself goes on no trunk
  kept_line : same_name y o.node.mint.name ≡ true → Suits y x p q
      → news p q (line (keep_local x o) q.node) ≡ news p q (line o q.node) ++ news_in p q x
  kept_line h s =
      ap (λ l. news p q (cond (same_name q.node o.node.mint.name) (o.node.local ++ x ∷ []) (to_name q.node l)))
      (sent_in-silent o.effects (Effect.Sent None o.node.mint.name x) refl)
      ∙ local_line (same_name q.node o.node.mint.name) refl h s

  sent_on_line : (t : TrunkId) (c : Bool) → same_name y q.node ≡ c → Suits y x p q
      → news p q (to_name q.node (outgoing o) ++ cond c (x ∷ []) []) ≡ news p q (to_name q.node (outgoing o)) ++ news_in p q x
  sent_on_line t true e s = news-push p q (to_name q.node (outgoing o)) x
  sent_on_line t false e (inl d) = absurd (let n : true ≡ false = sym (same_name_is y q.node d) ∙ e in cc)
  sent_on_line t false e (inr n) =
      ap (news p q) (append-nil (to_name q.node (outgoing o))) ∙ nothing_more (news p q (to_name q.node (outgoing o))) (news_in p q x) n

  sent_line : (r : Option TrunkId) (b : Bool) → route o.node y ≡ r → same_name q.node o.node.mint.name ≡ b
      → same_name y o.node.mint.name ≡ false → (b || is_some (route o.node q.node)) ≡ true → Suits y x p q
      → news p q (cond b (send_on r y x o).node.local (to_name q.node (outgoing (send_on r y x o))))
      ≡ news p q (cond b o.node.local (to_name q.node (outgoing o))) ++ news_in p q x
  sent_line r true e f h reach (inl d) =
      absurd (let c : same_name y o.node.mint.name ≡ true = subst (λ z. same_name z o.node.mint.name ≡ true) (sym d) f in
      let n : true ≡ false = sym c ∙ h in cc)
  sent_line None true e f h reach (inr n) = nothing_more (news p q o.node.local) (news_in p q x) n
  sent_line (Some t) true e f h reach (inr n) = nothing_more (news p q o.node.local) (news_in p q x) n
  sent_line None false e f h reach (inl d) =
      absurd (let c : route o.node q.node ≡ None = subst (λ z. route o.node z ≡ None) d e in
      let n : false ≡ true = sym (ap is_some c) ∙ reach in cc)
  sent_line None false e f h reach (inr n) = nothing_more (news p q (to_name q.node (outgoing o))) (news_in p q x) n
  sent_line (Some t) false e f h reach s =
      ap (λ l. news p q (to_name q.node l)) (sent_in-push o.effects (Effect.Sent (Some t) y x))
      ∙ ap (news p q) (to_name-push q.node (outgoing o) (record { trunk = t; target = y; item = x }))
      ∙ sent_on_line t (same_name y q.node) refl s

  sent_all : (r : Option TrunkId) → route o.node y ≡ r → same_name y o.node.mint.name ≡ false → reaches o.node q.node ≡ true → Suits y x p q
      → news p q (line (send_on r y x o) q.node) ≡ news p q (line o q.node) ++ news_in p q x
  sent_all None e h reach s = sent_line None (same_name q.node o.node.mint.name) e refl h reach s
  sent_all (Some t) e h reach s = sent_line (Some t) (same_name q.node o.node.mint.name) e refl h reach s

  post_line_by : (b : Bool) → same_name y o.node.mint.name ≡ b → reaches o.node q.node ≡ true → Suits y x p q
      → news p q (cond (same_name q.node (cond b (keep_local x o) (send_on (route o.node y) y x o)).node.mint.name)
      (cond b (keep_local x o) (send_on (route o.node y) y x o)).node.local
      (to_name q.node (outgoing (cond b (keep_local x o) (send_on (route o.node y) y x o)))))
      ≡ news p q (line o q.node) ++ news_in p q x
  post_line_by true e reach s = kept_line e s
  post_line_by false e reach s = sent_all (route o.node y) refl e reach s

  pub post_line : reaches o.node q.node ≡ true → Suits y x p q
      → news p q (line (post_to y x o) q.node) ≡ news p q (line o q.node) ++ news_in p q x
  post_line reach s = post_line_by (same_name y o.node.mint.name) refl reach s

-- an effect that sends nothing on a trunk changes no view
pub silent_lines : (b : List LinkNews) (o : Work) (fs gs : List (Effect Item)) (p q : Pid) → sent_in gs ≡ sent_in fs
    → view b (record o { effects = gs }) p q ≡ view b (record o { effects = fs }) p q
silent_lines b o fs gs p q h =
    ap (λ l. side_of o.node p q (b ++ news p q (cond (same_name q.node o.node.mint.name) o.node.local (to_name q.node l)))) h

pub silent_view : (b : List LinkNews) (f : Effect Item) (o : Work) (p q : Pid) → sent_by f ≡ [] → view b (report f o) p q ≡ view b o p q
silent_view b f o p q h = silent_lines b o o.effects (o.effects ++ f ∷ []) p q (sent_in-silent o.effects f h)

-- what no post changes
module _ {A : Type 0} (f : Node → A) (free : (n : Node) (l : List Item) → f (record n { local = l }) ≡ f n) where
  send_keeps : (r : Option TrunkId) (y : Name) (x : Item) (o : Work) → f ((send_on r y x o).node) ≡ f o.node
  send_keeps None y x o = refl
  send_keeps (Some t) y x o = refl

  post_keeps_by : (b : Bool) (y : Name) (x : Item) (o : Work)
      → f ((cond b (keep_local x o) (send_on (route o.node y) y x o)).node) ≡ f o.node
  post_keeps_by true y x o = free o.node (o.node.local ++ x ∷ [])
  post_keeps_by false y x o = send_keeps (route o.node y) y x o

  pub post_keeps : (y : Name) (x : Item) (o : Work) → f ((post_to y x o).node) ≡ f o.node
  post_keeps y x o = post_keeps_by (same_name y o.node.mint.name) y x o

  pub post_all_keeps : (es : List Addressed) (o : Work) → f ((post_all es o).node) ≡ f o.node
  post_all_keeps [] o = refl
  post_all_keeps (e ∷ es) o = post_all_keeps es (post e o) ∙ post_keeps e.node (spelled o.node e) o

-- a post is one signal more, or none
pub post_view : (b : List LinkNews) (y : Name) (x : Item) (o : Work) (p q : Pid) → reaches o.node q.node ≡ true
    → Suits y x p q → view b (post_to y x o) p q ≡ more (view b o p q) (news_in p q x)
post_view b y x o p q reach s = side_path (view b (post_to y x o) p q) (more (view b o p q) (news_in p q x))
    (post_keeps (λ n. end_of n p q) (λ n l. refl) y x o) (post_keeps (λ n. over n p) (λ n l. refl) y x o)
    (post_keeps (λ n. n.mint.unlink_ids) (λ n l. refl) y x o)
    (ap (λ l. b ++ l) (post_line y x o p q reach s) ∙ sym (append_assoc b (news p q (line o q.node)) (news_in p q x)))

-- link news do not depend on the payload
pub news_pay : (p q : Pid) (s : Signal) (a b : Bool) → news_in p q (Signalled s a) ≡ news_in p q (Signalled s b)
news_pay p q (Signal.Link x y) a b = refl
news_pay p q _ a b = refl

pub suits_pay : (y : Name) (s : Signal) (p q : Pid) (a b : Bool) → Suits y (Signalled s a) p q → Suits y (Signalled s b) p q
suits_pay y s p q a b (inl e) = inl e
suits_pay y s p q a b (inr n) = inr (news_pay p q s b a ∙ n)

-- several posts
abbrev pub posted : Pid → Pid → List Addressed → List LinkNews
posted p q [] = []
posted p q (e ∷ es) = news_in p q (Signalled e.signal false) ++ posted p q es

abbrev pub AllSuit : Pid → Pid → List Addressed → Type 0
AllSuit p q [] = Unit {0}
AllSuit p q (e ∷ es) = Suits e.node (Signalled e.signal false) p q × AllSuit p q es

more-nil : (a : Side) → a ≡ more a []
more-nil a = side_path a (more a []) refl refl refl (sym (append-nil a.sent))

more-more : (a : Side) (L R : List LinkNews) → more (more a L) R ≡ more a (L ++ R)
more-more a L R = side_path (more (more a L) R) (more a (L ++ R)) refl refl refl (append_assoc a.sent L R)

pub post_all_view : (b : List LinkNews) (es : List Addressed) (o : Work) (p q : Pid) → reaches o.node q.node ≡ true
    → AllSuit p q es → view b (post_all es o) p q ≡ more (view b o p q) (posted p q es)
post_all_view b [] o p q reach s = more-nil (view b o p q)
post_all_view b (e ∷ es) o p q reach s =
    post_all_view b es (post e o) p q
    (post_keeps (λ n. reaches n q.node) (λ n l. refl) e.node (spelled o.node e) o ∙ reach) s.1
    ∙ ap (λ a. more a (posted p q es)) (post_view b e.node (spelled o.node e) o p q reach
    (suits_pay e.node e.signal p q false (has_reason e.signal && payload_to o.node e.node) s.0)
    ∙ ap (more (view b o p q)) (news_pay p q e.signal (has_reason e.signal && payload_to o.node e.node) false))
    ∙ more-more (view b o p q) (news_in p q (Signalled e.signal false)) (posted p q es)

pub posted-append : (p q : Pid) (xs ys : List Addressed) → posted p q (xs ++ ys) ≡ posted p q xs ++ posted p q ys
posted-append p q [] ys = refl
posted-append p q (x ∷ xs) ys =
    ap (λ l. news_in p q (Signalled x.signal false) ++ l) (posted-append p q xs ys)
    ∙ sym (append_assoc (news_in p q (Signalled x.signal false)) (posted p q xs) (posted p q ys))

pub AllSuit-append : (p q : Pid) (xs ys : List Addressed) → AllSuit p q xs → AllSuit p q ys → AllSuit p q (xs ++ ys)
AllSuit-append p q [] ys a b = b
AllSuit-append p q (x ∷ xs) ys a b = (a.0, AllSuit-append p q xs ys a.1 b)

-- a signal about a link suits where it goes to its receiver's node
pub signal_other : (b : Bool) (s : LinkNews) → b ≡ false → ◌≡◌ {A = List LinkNews} (cond b (s ∷ []) []) []
signal_other true s h = cc
signal_other false s h = refl

pub telling_news : (a b p q : Pid) (s : LinkNews) (pay : Bool)
    → news_in p q (Signalled (telling a b s) pay) ≡ cond (same_pid a p && same_pid b q) (s ∷ []) []
telling_news a b p q (Signals LinkSignal.Link) pay = refl
telling_news a b p q _ pay = refl

pub linking_suits_by : (b : Bool) (x y p q : Pid) (s : LinkNews) (pay : Bool) → (same_pid x p && same_pid y q) ≡ b
    → Suits y.node (Signalled (telling x y s) pay) p q
linking_suits_by true x y p q s pay e = inl (ap (λ (v : Pid). v.node) (same_pid_true y q (and_parts (same_pid x p) (same_pid y q) e).1))
linking_suits_by false x y p q s pay e = inr (telling_news x y p q s pay ∙ signal_other (same_pid x p && same_pid y q) s e)

pub linking_suits : (x y p q : Pid) (s : LinkNews) (pay : Bool) → Suits y.node (Signalled (telling x y s) pay) p q
linking_suits x y p q s pay = linking_suits_by (same_pid x p && same_pid y q) x y p q s pay refl

pub news_told : (p q : Pid) (s : LinkNews) (pay : Bool) → news_in p q (Signalled (telling p q s) pay) ≡ s ∷ []
news_told p q s pay =
    telling_news p q p q s pay ∙ ap (λ b. cond (b && same_pid q q) (s ∷ []) []) (same_pid_refl p)
    ∙ ap (λ b. cond b (s ∷ []) []) (same_pid_refl q)

pub no_news_of_others : (p q a b : Pid) (s : LinkNews) (pay : Bool) → ((a ≡ p) × (b ≡ q) → ⊥)
    → news_in p q (Signalled (telling a b s) pay) ≡ []
no_news_of_others p q a b s pay n = go (same_pid a p && same_pid b q) refl
  where
    go : (t : Bool) → (same_pid a p && same_pid b q) ≡ t → news_in p q (Signalled (telling a b s) pay) ≡ []
    go true e = let v = and_parts (same_pid a p) (same_pid b q) e in absurd (n (same_pid_true a p v.0, same_pid_true b q v.1))
    go false e = telling_news a b p q s pay ∙ ap (λ t. cond t (s ∷ []) []) e
