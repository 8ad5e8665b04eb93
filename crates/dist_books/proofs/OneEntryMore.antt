-- A book with one entry more is kept.
use Rattle.std.proofs.Common.{◌≡◌, ◌≢◌, ℕ, ◌<◌, ◌+◌, Bool, true, false, Option, None, Some, List, [], ◌∷◌, ◌++◌, inl, inr}
use Rattle.std.proofs.Common.{if◌then◌else◌, length, refl, sym, ap, ◌∙◌, subst, append_assoc, append-nil, arith, Contains}
use Rattle.std.specs.FinMap as fm
use Rattle.std.proofs.lemmas.List.Elements.{All-push, Contains-append_left, Contains-append_right, Contains-push}
use Rattle.dist_books.proofs.Senders.{no_front}
use Rattle.dist_books.proofs.Steps.{KeepsBearings, same_way_is, same_way_self}
use Rattle.dist_books.specs.Acting.{Acts, EventsAreLines, IsMet, Nodes, Way, meets, name_at, names_of, next_of}
use Rattle.dist_books.specs.Acting.{on_ways, opened_at, report_of, same_way, sent_in, taken_in, takes}
use Rattle.dist_books.specs.Books.{Book, IsPort, Log, Port, Replays, Rise, Stamped, outbox_to, put_to, slot_of, taken_by}
use Rattle.dist_books.specs.Growing.{BooksGrow, Enters, Follows, HasPorts, IsTowards, Leaves, SentToPeers, comes_to, effects_in}
use Rattle.dist_model.proofs.Keys.{same_name_is, same_name_true}
use Rattle.dist_model.specs.Commands.{Accepts, Outcome, Refuses}
use Rattle.dist_model.specs.Items.{Item}
use Rattle.dist_model.specs.Keeping as keeping
use Rattle.dist_model.specs.Keeping.{CountsOwn, Dials, Towards}
use Rattle.dist_model.specs.Names.{Name, same_name}
use Rattle.dist_model.specs.NodeEvents as met
use Rattle.dist_model.specs.NodeEvents.{NodeEvent}
use Rattle.dist_model.specs.Sides.{TrunkSide}
use Rattle.dist_model.specs.Work.{Work}
use Rattle.dist_model.specs.World.{Arrive, Call, Dial, Event, Local, Lose, Report, Start, Stop, Sweep, node_name}
use Rattle.dist_model.specs.declared.report.Answer.{Answer}
use Rattle.dist_model.specs.declared.report.Effect.{Effect}
use Rattle.erl_names.specs.declared.trunk.TrunkId.{TrunkId}
use Rattle.dist_books.proofs.Growth.{lead_grows, sent_grows, took_grows}
use Rattle.dist_books.specs.Logs.{Entry, Line, TakesEarlier, bare, bare_took, entries_of, off, on, stamped, took_on}

-- ---- lists

entries_snoc : (log : Log) (line : Line Event Report Way Item) → entries_of (log ++ line ∷ []) ≡ entries_of log ++ line.entry ∷ []
entries_snoc [] line = refl
entries_snoc (x ∷ log) line = ap (λ l. x.entry ∷ l) (entries_snoc log line)

rise_snoc : (n : ℕ) (history : List (Entry Event Report)) (entry : Entry Event Report) (last : ℕ) → Rise n history last → last < entry.stamp
    → Rise n (history ++ entry ∷ []) entry.stamp
rise_snoc n [] entry last h above = (omega (arith, h), refl)
rise_snoc n (x ∷ history) entry last h above = (h.0, rise_snoc x.stamp history entry last h.1 above)

no_back : (xs ys : List Stamped) → xs ++ ys ≡ [] → ys ≡ []
no_back [] ys h = h
no_back (x ∷ xs) ys h = absurd (cc)

not_empty : (x : Stamped) (xs : List Stamped) → x ∷ xs ≡ [] → ⊥
not_empty x xs h = cc

side_is : (s t : TrunkSide) → ◌≡◌ {A = Option TrunkSide} (Some s) (Some t) → s ≡ t
side_is s t h = cc

is_item : (xs : List Item) (item : Item) → xs ≡ [] → xs ≡ item ∷ [] → ⊥
is_item xs item a b = let no : [] ≡ item ∷ [] = sym a ∙ b in cc

-- ---- what is sent on a way

sent_nothing : (c : Way) (effects : List (Effect Item)) → ((item : Item) → Contains effects (Effect.Sent (Some c.0) c.1 item) → ⊥)
    → on same_way c (on_ways effects) ≡ []
sent_nothing c [] none = refl
sent_nothing c (Effect.Sent (Some trunk) peer item ∷ rest) none =
    go (same_way c (trunk, peer)) refl
    (sent_nothing c rest
    (λ i h. none i (Contains-append_right (Effect.Sent (Some trunk) peer item ∷ []) rest (Effect.Sent (Some c.0) c.1 i) h)))
  where
    here : Contains (Effect.Sent (Some trunk) peer item ∷ rest) (Effect.Sent (Some trunk) peer item)
    here = Contains-append_left (Effect.Sent (Some trunk) peer item ∷ []) rest (Effect.Sent (Some trunk) peer item)
        (Contains-push [] (Effect.Sent (Some trunk) peer item))

    go : (b : Bool) → same_way c (trunk, peer) ≡ b → on same_way c (on_ways rest) ≡ []
        → (if b then item ∷ [] else []) ++ on same_way c (on_ways rest) ≡ []
    go true is later =
        let P : Way → Type 0 = λ w. Contains (Effect.Sent (Some trunk) peer item ∷ rest) (Effect.Sent (Some w.0) w.1 item) in
        absurd (none item (subst P (sym (same_way_is c (trunk, peer) is)) here))
    go false is later = later
sent_nothing c (Effect.Sent None peer item ∷ rest) none =
    sent_nothing c rest (λ i h. none i (Contains-append_right (Effect.Sent None peer item ∷ []) rest (Effect.Sent (Some c.0) c.1 i) h))
sent_nothing c (Effect.Put p m ∷ rest) none =
    sent_nothing c rest (λ i h. none i (Contains-append_right (Effect.Put p m ∷ []) rest (Effect.Sent (Some c.0) c.1 i) h))
sent_nothing c (Effect.Ended p r ∷ rest) none =
    sent_nothing c rest (λ i h. none i (Contains-append_right (Effect.Ended p r ∷ []) rest (Effect.Sent (Some c.0) c.1 i) h))
sent_nothing c (Effect.LinkExit p q r ∷ rest) none =
    sent_nothing c rest (λ i h. none i (Contains-append_right (Effect.LinkExit p q r ∷ []) rest (Effect.Sent (Some c.0) c.1 i) h))

-- ---- an item that comes to a new side is taken off its way

came : (name : Name) (event : Event) (first : Option Item) (trunk : TrunkId) → node_name event ≡ name
    → keeping.Comes (meets event first) trunk
    → (item : Item) × (takes event first ≡ Some ((trunk, name), item ∷ []))
came name (Call n c) first trunk named comes =
    absurd (let h : met.Call c ≡ met.Arrive trunk (Some comes.0) comes.1 = comes.2 in cc)
came name (Arrive t n word) None trunk named comes =
    absurd (let h : met.Arrive t None word ≡ met.Arrive trunk (Some comes.0) comes.1 = comes.2 in cc)
came name (Arrive t n word) (Some item) trunk named comes =
    let h : met.Arrive t (Some item) word ≡ met.Arrive trunk (Some comes.0) comes.1 = comes.2 in
    let same : t ≡ trunk = cc in
    (item, λ i. Some ((same i, named i), item ∷ []))
came name (Local n) first trunk named comes =
    absurd (let h : met.Local ≡ met.Arrive trunk (Some comes.0) comes.1 = comes.2 in cc)
came name (Lose t n) first trunk named comes =
    absurd (let h : met.Lose t ≡ met.Arrive trunk (Some comes.0) comes.1 = comes.2 in cc)
came name (Sweep n) first trunk named comes =
    absurd (let h : met.Sweep ≡ met.Arrive trunk (Some comes.0) comes.1 = comes.2 in cc)
came name (Dial n peer word) first trunk named comes =
    absurd (let h : met.Dial peer word ≡ met.Arrive trunk (Some comes.0) comes.1 = comes.2 in cc)
came name (Stop n) first trunk named comes =
    absurd (let h : met.Stop ≡ met.Arrive trunk (Some comes.0) comes.1 = comes.2 in cc)
came name (Start n) first trunk named comes =
    absurd (let h : met.Start ≡ met.Arrive trunk (Some comes.0) comes.1 = comes.2 in cc)

-- what was taken off a way isn't nothing
not_bare : (xs : List Stamped) (item : Item) → bare xs ≡ item ∷ [] → xs ≡ [] → ⊥
not_bare xs item is none = is_item (bare xs) item (ap (λ l. bare l) none) is

same_took : (a b : Way) (xs ys : List Item) → ◌≡◌ {A = Option (Way × List Item)} (Some (a, xs)) (Some (b, ys)) → (a ≡ b) × (xs ≡ ys)
same_took a b xs ys h =
    let both : ◌≡◌ {A = Way × List Item} (a, xs) (b, ys) = cc in
    (ap (λ (p : Way × List Item). p.0) both, ap (λ (p : Way × List Item). p.1) both)

no_took : (c : Way) (xs : List Item) → ◌≡◌ {A = Option (Way × List Item)} None (Some (c, xs)) → ⊥
no_took c xs h = cc

off_way : (c : Way) (took : Option (Way × List Stamped)) (item : Item) → bare_took took ≡ Some (c, item ∷ []) → off same_way c took ≡ [] → ⊥
off_way c None item is none = no_took c (item ∷ []) is
off_way c (Some taken) item is none =
    let same = same_took taken.0 c (bare taken.1) (item ∷ []) is in
    not_bare taken.1 item same.1 (sym (ap (λ b. if b then taken.1 else []) (ap (λ w. same_way c w) same.0 ∙ same_way_self c)) ∙ none)

-- ---- one entry more

module _ (lines : EventsAreLines) (bearings : KeepsBearings) (nodes : Nodes) (k : ℕ) (event : Event) (first : Option Item) (book : Book)
    (took : Option (Way × List Stamped)) (stamp : ℕ) (next : Book) (below : k < length nodes) (named : node_name event ≡ name_at nodes k)
    (met : IsMet event first) (counts : CountsOwn book.node) (f : Follows nodes k book)
    (e : Enters nodes k event first book took stamp next) where
  abbrev own : Name
  own = name_at nodes k

  abbrev due : Outcome
  due = comes_to nodes k event first book

  abbrev now : NodeEvent
  now = meets event first

  abbrev sent : List (Way × List Item)
  sent = sent_in due

  abbrev line : Line Event Report Way Item
  line = record { entry = record { stamp = stamp; event = event; answer = report_of due }; took = took; sent = sent }

  abbrev log : Log
  log = f.log ++ line ∷ []

  -- ---- the sides of the node after it

  -- a side was there before, or an item has come to it, or it was dialed
  pub data Origin (trunk : TrunkId) (peer : Name) : Type 0 where
    Was : Towards book.node trunk peer → Origin trunk peer
    Came : (item : Item) → takes event first ≡ Some ((trunk, own), item ∷ []) → taken_in event first due ≡ takes event first
        → fm.get book.node.sides trunk ≡ None → peer ≡ trunk.dialer → Origin trunk peer
    Dialed : Dials book.node now trunk peer → Origin trunk peer

  from_new : (said : Answer) (work : Work) → due ≡ Accepts said work → (trunk : TrunkId) (peer : Name) → Towards work.node trunk peer
      → fm.get book.node.sides trunk ≡ None → Origin trunk peer
  from_new said work is trunk peer there none =
      elim ((bearings (names_of nodes) book.node now said work is).new trunk there.side none there.there) [
        | inl c ↦ (let item = came own event first trunk named c.0 in
            Came item.0 item.1 (ap (λ o. taken_in event first o) is) none (sym there.peer ∙ c.1))
        | inr d ↦ Dialed (subst (λ p. Dials book.node now trunk p) there.peer d)
      ]

  from_old : (said : Answer) (work : Work) → due ≡ Accepts said work → (trunk : TrunkId) (peer : Name) → Towards work.node trunk peer
      → (s : TrunkSide) → fm.get book.node.sides trunk ≡ Some s → Origin trunk peer
  from_old said work is trunk peer there s old =
      elim ((bearings (names_of nodes) book.node now said work is).stays trunk s.peer (record { side = s; there = old; peer = refl })) [
        | inl t ↦ Was (record { side = s; there = old; peer = peers t })
        | inr d ↦ Dialed (subst (λ p. Dials book.node now trunk p) (peers d.2) d.1)
      ]
    where
      peers : {p : Name} → Towards work.node trunk p → p ≡ peer
      peers t = sym t.peer ∙ ap (λ (x : TrunkSide). x.peer) (side_is t.side there.side (sym t.there ∙ there.there)) ∙ there.peer

  accepted_origin : (said : Answer) (work : Work) → due ≡ Accepts said work → (trunk : TrunkId) (peer : Name) → Towards work.node trunk peer
      → (o : Option TrunkSide) → fm.get book.node.sides trunk ≡ o → Origin trunk peer
  accepted_origin said work is trunk peer there None old = from_new said work is trunk peer there old
  accepted_origin said work is trunk peer there (Some s) old = from_old said work is trunk peer there s old

  origin_in : (o : Outcome) → due ≡ o → (trunk : TrunkId) (peer : Name) → Towards (next_of book.node o) trunk peer → Origin trunk peer
  origin_in (Refuses why) is trunk peer there = Was there
  origin_in (Accepts said work) is trunk peer there = accepted_origin said work is trunk peer there (fm.get book.node.sides trunk) refl

  origin : (trunk : TrunkId) (peer : Name) → Towards next.node trunk peer → Origin trunk peer
  origin trunk peer there = origin_in due refl trunk peer (subst (λ n. Towards n trunk peer) e.node there)

  -- ---- ports

  leaves : (trunk : TrunkId) → Leaves own sent took stamp trunk book.node next.node now (book.ports trunk) (next.ports trunk)
  leaves trunk = e.ports trunk

  keeps_towards : (trunk : TrunkId) (peer : Name) (old new : Option Port) → Leaves own sent took stamp trunk book.node next.node now old new
      → IsTowards old peer → IsTowards new peer
  keeps_towards trunk peer None new l is = absurd is
  keeps_towards trunk peer (Some old) None l is = l
  keeps_towards trunk peer (Some old) (Some new) l is = l.peer ∙ is

  -- an item was taken where there is a port, which is towards the dialer unless this node has a side there
  arrived_towards : (trunk : TrunkId) (old new : Option Port) → book.ports trunk ≡ old
      → Leaves own sent took stamp trunk book.node next.node now old new
      → (off same_way (trunk, own) took ≡ [] → ⊥) → fm.get book.node.sides trunk ≡ None
      → IsPort own trunk old (took_on same_way (trunk, own) f.log) → IsTowards new trunk.dialer
  arrived_towards trunk None None at l some none is = absurd (some l)
  arrived_towards trunk None (Some new) at l some none is = absurd (some l.0)
  arrived_towards trunk (Some old) None at l some none is = l
  arrived_towards trunk (Some old) (Some new) at l some none is = elim is [
    | inl d ↦
        absurd
        (let t = f.ports.dialed trunk old d.0 at in let no : ◌≡◌ {A = Option TrunkSide} None (Some t.side) = sym none ∙ t.there in cc)
    | inr d ↦ l.peer ∙ d.1
  ]

  some_taken : (trunk : TrunkId) (item : Item) → takes event first ≡ Some ((trunk, own), item ∷ [])
      → taken_in event first due ≡ takes event first
      → off same_way (trunk, own) took ≡ [] → ⊥
  some_taken trunk item t same none = off_way (trunk, own) took item (e.takes ∙ same ∙ t) none

  there : (trunk : TrunkId) (peer : Name) → Towards next.node trunk peer → IsTowards (next.ports trunk) peer
  there trunk peer is = go (origin trunk peer is)
    where
      go : Origin trunk peer → IsTowards (next.ports trunk) peer
      go (Was t) = keeps_towards trunk peer (book.ports trunk) (next.ports trunk) (leaves trunk) (f.ports.there trunk peer t)
      go (Came item t same none to) = subst (λ p. IsTowards (next.ports trunk) p) (sym to)
          (arrived_towards trunk (book.ports trunk) (next.ports trunk) refl (leaves trunk) (some_taken trunk item t same) none
          (f.replays.port trunk))
      go (Dialed d) = e.opened trunk peer d is

  took_now : (trunk : TrunkId) → took_on same_way (trunk, own) log ≡ took_on same_way (trunk, own) f.log ++ off same_way (trunk, own) took
  took_now trunk = took_grows same_way (trunk, own) f.log line

  heard : (trunk : TrunkId) (peer : Name) → Towards next.node trunk peer → trunk.dialer ≢ own → took_on same_way (trunk, own) log ≢ []
  heard trunk peer is others none = go (origin trunk peer is)
    where
      parts : took_on same_way (trunk, own) f.log ++ off same_way (trunk, own) took ≡ []
      parts = sym (took_now trunk) ∙ none

      go : Origin trunk peer → ⊥
      go (Was t) = f.ports.heard trunk peer t others (no_front _ _ parts)
      go (Came item t same none' to) = some_taken trunk item t same (no_back _ _ parts)
      go (Dialed d) = others (ap (λ (t : TrunkId). t.dialer) d.1 ∙ f.ports.name)

  -- the trunk that it dials has no side yet
  not_there : (trunk : TrunkId) (peer other : Name) → Towards book.node trunk peer → Dials book.node now trunk other → ⊥
  not_there trunk peer other t d =
      let most = counts trunk t.side t.there (ap (λ (x : TrunkId). x.dialer) d.1) in
      let count : trunk.count ≡ book.node.dialed + 1 = ap (λ (x : TrunkId). x.count) d.1 in
      omega (arith, most, count)

  stays_in : (o : Outcome) → due ≡ o → (trunk : TrunkId) (peer : Name) → Towards book.node trunk peer
      → Towards (next_of book.node o) trunk peer
  stays_in (Refuses why) is trunk peer t = t
  stays_in (Accepts said work) is trunk peer t = elim ((bearings (names_of nodes) book.node now said work is).stays trunk peer t) [
    | inl n ↦ n
    | inr d ↦ absurd (not_there trunk peer d.0 t d.1)
  ]

  stays : (trunk : TrunkId) (peer : Name) → Towards book.node trunk peer → Towards next.node trunk peer
  stays trunk peer t = subst (λ n. Towards n trunk peer) (sym e.node) (stays_in due refl trunk peer t)

  dialed_at : (trunk : TrunkId) (port : Port) → trunk.dialer ≡ own → (old new : Option Port) → book.ports trunk ≡ old → new ≡ Some port
      → Leaves own sent took stamp trunk book.node next.node now old new → Towards next.node trunk port.peer
  dialed_at trunk port by None None was is l = absurd (let no : None ≡ Some port = is in cc)
  dialed_at trunk port by None (Some new) was is l =
      let same : new ≡ port = cc in subst (λ (p : Port). Towards next.node trunk p.peer) same l.1.side
  dialed_at trunk port by (Some old) None was is l = absurd l
  dialed_at trunk port by (Some old) (Some new) was is l =
      let same : new ≡ port = cc in
      subst (λ p. Towards next.node trunk p) (sym l.peer ∙ ap (λ (p : Port). p.peer) same)
      (stays trunk old.peer (f.ports.dialed trunk old by was))

  name_in : (o : Outcome) → due ≡ o → (next_of book.node o).mint.name ≡ book.node.mint.name
  name_in (Refuses why) is = refl
  name_in (Accepts said work) is = (bearings (names_of nodes) book.node now said work is).name

  has_ports : HasPorts own next log
  has_ports = record {
    name = ap (λ n. n.mint.name) e.node ∙ name_in due refl ∙ f.ports.name;
    there = there;
    heard = heard;
    dialed = λ trunk port by is. dialed_at trunk port by (book.ports trunk) (next.ports trunk) refl is (leaves trunk);
  }

  -- ---- what is sent goes to the peer of a side

  unsent_in : (o : Outcome) → due ≡ o → (trunk : TrunkId) (peer : Name) → (Towards (next_of book.node o) trunk peer → ⊥)
      → on same_way (trunk, peer) (sent_in o) ≡ []
  unsent_in (Refuses why) is trunk peer none = refl
  unsent_in (Accepts said work) is trunk peer none =
      sent_nothing (trunk, peer) work.effects
      (λ item c. none ((bearings (names_of nodes) book.node now said work is).sent trunk peer item c))

  unsent : (trunk : TrunkId) (peer : Name) → (Towards next.node trunk peer → ⊥) → stamped stamp (on same_way (trunk, peer) sent) ≡ []
  unsent trunk peer none =
      ap (λ l. stamped stamp l) (unsent_in due refl trunk peer (λ t. none (subst (λ n. Towards n trunk peer) (sym e.node) t)))

  -- by whether the peer of a port is meant
  puts : (trunk : TrunkId) (peer : Name) (new : Port) (was : List Stamped) (b : Bool) → same_name new.peer peer ≡ b
      → (new.peer ≡ peer → new.put ++ new.outbox ≡ was) → ((new.peer ≡ peer → ⊥) → was ≡ [])
      → was ≡ (if b then new.put else []) ++ (if b then new.outbox else [])
  puts trunk peer new was true is same apart = sym (same (same_name_true new.peer peer is))
  puts trunk peer new was false is same apart = apart (λ h. let no : true ≡ false = sym (same_name_is new.peer peer h) ∙ is in cc)

  put_by : (port : Port) (peer : Name) → Bool → List Stamped
  put_by port peer b = (if b then port.put else []) ++ (if b then port.outbox else [])

  outs : (trunk : TrunkId) (peer : Name) (old new : Option Port) → Leaves own sent took stamp trunk book.node next.node now old new
      → (Towards next.node trunk peer → IsTowards new peer)
      → (put_to peer old ++ outbox_to peer old) ++ stamped stamp (on same_way (trunk, peer) sent) ≡ put_to peer new ++ outbox_to peer new
  outs trunk peer None None l to = unsent trunk peer to
  outs trunk peer None (Some new) l to = puts trunk peer new (stamped stamp (on same_way (trunk, peer) sent)) (same_name new.peer peer) refl
      (λ same. l.1.out ∙ ap (λ p. stamped stamp (on same_way (trunk, p) sent)) same)
      (λ apart. unsent trunk peer (λ t. apart (to t)))
  outs trunk peer (Some old) None l to = absurd l
  outs trunk peer (Some old) (Some new) l to = pick (same_name old.peer peer) refl
    where
      more : List Stamped
      more = stamped stamp (on same_way (trunk, peer) sent)

      pick : (b : Bool) → same_name old.peer peer ≡ b
          → ((if b then old.put else []) ++ (if b then old.outbox else [])) ++ more ≡ put_to peer (Some new) ++ outbox_to peer (Some new)
      pick true is =
          let to_old : old.peer ≡ peer = same_name_true old.peer peer is in
          ap (λ p. (old.put ++ old.outbox) ++ stamped stamp (on same_way (trunk, p) sent)) (sym to_old) ∙ sym l.out
          ∙ ap (λ b. (if b then new.put else []) ++ (if b then new.outbox else [])) (sym (same_name_is new.peer peer (l.peer ∙ to_old)))
      pick false is =
          let other : new.peer ≡ peer → ⊥ = λ h. let no : true ≡ false = sym (same_name_is old.peer peer (sym l.peer ∙ h)) ∙ is in cc in
          unsent trunk peer (λ t. other (to t))
          ∙ puts trunk peer new [] (same_name new.peer peer) refl (λ h. absurd (other h)) (λ h. refl)

  -- ---- what came

  ins : (trunk : TrunkId) (old new : Option Port) (log_took : List Stamped)
      → Leaves own sent took stamp trunk book.node next.node now old new
      → taken_by old ≡ log_took ++ slot_of old → taken_by new ≡ (log_took ++ off same_way (trunk, own) took) ++ slot_of new
  ins trunk None None log_took l is = is ∙ ap (λ x. log_took ++ x) (sym l) ∙ sym (append-nil _)
  ins trunk None (Some new) log_took l is =
      l.1.taken ∙ is ∙ ap (λ x. log_took ++ x) (sym l.0) ∙ sym (append-nil _)
      ∙ ap (λ x. (log_took ++ off same_way (trunk, own) took) ++ x) (sym l.1.slot)
  ins trunk (Some old) None log_took l is = absurd l
  ins trunk (Some old) (Some new) log_took l is =
      l.taken ∙ is ∙ ap (λ x. log_took ++ x) l.slot ∙ sym (append_assoc log_took (off same_way (trunk, own) took) new.slot)

  -- ---- the ports are as they are to be

  is_port : (trunk : TrunkId) (old new : Option Port) → Leaves own sent took stamp trunk book.node next.node now old new
      → IsPort own trunk old (took_on same_way (trunk, own) f.log) → IsPort own trunk new (took_on same_way (trunk, own) log)
  is_port trunk None None l is = tt
  is_port trunk None (Some new) l is =
      inl (ap (λ (t : TrunkId). t.dialer) l.1.dials.1 ∙ f.ports.name, λ h. l.1.dials.2 (h ∙ sym f.ports.name))
  is_port trunk (Some old) None l is = absurd l
  is_port trunk (Some old) (Some new) l is = elim is [
    | inl d ↦ inl (d.0, λ h. d.1 (sym l.peer ∙ h))
    | inr d ↦ inr (
      d.0,
      l.peer ∙ d.1,
      λ none. l.out ∙ ap (λ x. x ++ stamped stamp (on same_way (trunk, old.peer) sent)) (d.2 (no_front _ _ (sym (took_now trunk) ∙ none)))
          ∙ unsent trunk old.peer (λ t. heard trunk old.peer t d.0 none),
    )
  ]

  replays : Replays nodes k next log
  replays = record {
    history = e.history ∙ ap (λ l. l ++ line.entry ∷ []) f.replays.history ∙ sym (entries_snoc f.log line);
    leads = lead_grows (Acts nodes) k (opened_at nodes k) book.node next.node f.log line f.replays.leads acts;
    rise = subst (λ h. Rise 0 h next.last) (sym e.history) (subst (λ n. Rise 0 (book.history ++ line.entry ∷ []) n) (sym e.last)
        (rise_snoc 0 book.history line.entry book.last f.replays.rise e.rises));
    earlier = All-push (λ (l : Line Event Report Way Item). TakesEarlier l.entry.stamp l.took) f.log line f.replays.earlier e.earlier;
    out = λ trunk peer. sent_grows same_way (trunk, peer) f.log line
        ∙ ap (λ l. l ++ stamped stamp (on same_way (trunk, peer) sent)) (f.replays.out trunk peer)
        ∙ outs trunk peer (book.ports trunk) (next.ports trunk) (leaves trunk) (there trunk peer);
    into =
        λ trunk. ins trunk (book.ports trunk) (next.ports trunk) (took_on same_way (trunk, own) f.log) (leaves trunk) (f.replays.into trunk)
        ∙ ap (λ l. l ++ slot_of (next.ports trunk)) (sym (took_now trunk));
    port = λ trunk. is_port trunk (book.ports trunk) (next.ports trunk) (leaves trunk) (f.replays.port trunk);
  }
    where
      acts : Acts nodes k book.node event (bare_took took) (report_of due) next.node sent
      acts = subst (λ t. Acts nodes k book.node event t (report_of due) next.node sent) (sym e.takes)
          (subst (λ n. Acts nodes k book.node event (taken_in event first due) (report_of due) n sent) (sym e.node)
          (lines nodes k book.node event first below named met))

  grown : Follows nodes k next
  grown = record { log = log; replays = replays; ports = has_ports }

pub sent_to_peers : EventsAreLines → KeepsBearings → SentToPeers
sent_to_peers lines bearings nodes k event first book took stamp next below named met counts f e trunk peer item sent =
    go (comes_to nodes k event first book) refl sent
  where
    go : (o : Outcome) → comes_to nodes k event first book ≡ o → Contains (effects_in o) (Effect.Sent (Some trunk) peer item)
        → IsTowards (next.ports trunk) peer
    go (Refuses why) is c = let lt = c.1 in absurd (omega arith)
    go (Accepts said work) is c =
        there lines bearings nodes k event first book took stamp next below named met counts f e trunk peer
        (subst (λ n. Towards n trunk peer) (sym (e.node ∙ ap (λ o. next_of book.node o) is))
        ((bearings (names_of nodes) book.node (meets event first) said work is).sent trunk peer item c))

pub books_grow : EventsAreLines → KeepsBearings → BooksGrow
books_grow lines bearings nodes k event first book took stamp next below named met counts f e =
    grown lines bearings nodes k event first book took stamp next below named met counts f e
