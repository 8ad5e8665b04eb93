-- What a book keeps is kept by each event of its node.
use Rattle.std.proofs.Common.{◌≡◌, ℕ, zero, suc, ◌+◌, ◌<◌, Bool, true, false, cond, Option, None, Some, List, [], ◌∷◌, ◌++◌}
use Rattle.std.proofs.Common.{Result, Ok, Err, is_ok, get_or, length, map, set, slice_get, refl, sym, ap, ◌∙◌, subst, arith}
use Rattle.std.specs.Option.{option_map}
use Rattle.dist_books.specs.Acting.{IsMet, Nodes, meets, name_at, names_of, taken_in}
use Rattle.dist_books.specs.Growing.{BooksGrow, NextIsNew}
use Rattle.dist_model.specs.Commands.{Accepts, Outcome, Refuses}
use Rattle.dist_model.specs.Dialing.{has_name, next_trunk}
use Rattle.dist_model.specs.Names.{Name}
use Rattle.dist_model.specs.Node as model
use Rattle.dist_model.specs.NodeEvents as met
use Rattle.dist_model.specs.NodeEvents.{at_node}
use Rattle.dist_model.specs.declared.report.Answer.{Answer as Said}
use Rattle.erl_names.specs.declared.trunk.TrunkId.{TrunkId}
use Rattle.erl_term.specs.declared.refusal.Refusal.{Refusal}
use Rattle.node_core.specs.Model.{model_of}
use Rattle.node_history.specs.Entering.{Answer, Ends, Enters, Stays, Tries}
use Rattle.node_history.specs.declared.entry.Entry.{Entry}
use Rattle.node_history.specs.declared.history.History.{History}
use Rattle.node_lock.proofs.OneEntryMore as one_more
use Rattle.node_lock.proofs.OneEntryMore.{ends, entered_plainly, entered_refused}
use Rattle.node_lock.proofs.Dialed.{accepted_dial, entered_dialing, none, opened_outlet}
use Rattle.node_lock.proofs.Places.{IsFirst, apart_push, apart_set, first_is, first_trunk}
use Rattle.node_lock.proofs.ItemTaken.{Waits, entered_taking, some_not_none, waits}
use Rattle.node_lock.specs.Answers.{is_accepted, is_plain, trunk_answered, trunk_in, trunk_said}
use Rattle.node_lock.specs.Applying.{DialsOut, Takes, TakesNothing, with_opened, without_next}
use Rattle.node_lock.specs.Standing.{AreApart, AreNodes, FeedsAt, IsBook, HasBook, TellEntries, outlet_of}
use Rattle.node_lock.specs.declared.outlet.Outlet.{Outlet}
use Rattle.node_core.specs.NodeEvents.{event_at, met as met_by}
use Rattle.node_core.specs.declared.node_event.NodeEvent.{NodeEvent}
use Rattle.node_core.specs.declared.node_event.NodeEvent.TheVariants as event
use Rattle.dist_books.specs.Acting.{nowhere}
use Rattle.erl_handshake.specs.declared.setup.Setup.{Setup}

-- ---- nodes by their names

length_names : (nodes : Nodes) → length (names_of nodes) ≡ length nodes
length_names [] = refl
length_names (n ∷ ns) = ap (λ k. suc k) (length_names ns)

pub is_below : (names : List Name) (place : ℕ) (setup : Setup) (nodes : Nodes) → AreNodes names place setup nodes
    → place < length names → place < length nodes
is_below names place setup nodes a h = omega (arith, length_names nodes, ap (λ (l : List Name). length l) a.named)

-- ---- the entry that came last

pub slice_last : {A : Type 0} (xs : List A) (x : A) → slice_get (xs ++ x ∷ []) (length xs) ≡ Some x
slice_last [] x = refl
slice_last (y ∷ xs) x = slice_last xs x

last_entry : (due : Outcome) (what : NodeEvent) (sent : ℕ) (old new : History) (e : Enters due what sent old new) (place : ℕ)
    → place ≡ length old.entries.items
    → slice_get new.entries.items place ≡ Some (record { stamp = new.last; event = what; answer = e.answer })
last_entry due what sent old new e place is =
    ap (λ k. slice_get new.entries.items k) is ∙ ap (λ es. slice_get es (length old.entries.items)) e.entries
    ∙ slice_last old.entries.items (record { stamp = new.last; event = what; answer = e.answer })

pub set_first : (trunk : TrunkId) (k : ℕ) (os : List Outlet) (d : Outlet) → IsFirst trunk k os → set os k (get_or os k d) ≡ os
set_first trunk k [] d h = absurd h
set_first trunk zero (o ∷ os) d h = refl
set_first trunk (suc k) (o ∷ os) d h = ap (λ l. o ∷ l) (set_first trunk k os d h.1)

-- ---- a node of these names and this setup is there

abbrev pub those : List Name → Setup → Nodes
those names setup = map (λ (name : Name). (name, setup)) names

pub those_named : (names : List Name) (setup : Setup) → names_of (those names setup) ≡ names
those_named [] setup = refl
those_named (n ∷ ns) setup = ap (λ l. n ∷ l) (those_named ns setup)

pub those_secret : (names : List Name) (setup : Setup) (place : ℕ) → place < length names
    → (get_or (those names setup) place nowhere).1 ≡ setup
those_secret [] setup place h = absurd (omega arith)
those_secret (n ∷ ns) setup zero h = refl
those_secret (n ∷ ns) setup (suc k) h = those_secret ns setup k (omega arith)

-- ---- nothing has changed

pub stands_still : (place : ℕ) (old new : History) (outlets outlets' : List Outlet) (nodes : Nodes) → Stays old new → outlets' ≡ outlets
    → HasBook place old outlets nodes → HasBook place new outlets' nodes
stands_still place old new outlets outlets' nodes st same s =
    subst (λ os. HasBook place new os nodes) (sym same) (record {
      book = s.book;
      is = record {
        node = s.is.node ∙ sym st.node;
        last = s.is.last ∙ sym st.last;
        entries = subst (λ es. TellEntries (name_at nodes place) es s.book.history) (sym st.entries) s.is.entries;
        ports = λ t. subst (λ es. FeedsAt t es (outlet_of t outlets) (s.book.ports t)) (sym st.entries) (s.is.ports t);
      };
      follows = s.follows;
    })

pub still_kept : (names : List Name) (place : ℕ) (setup : Setup) (old new : History) (outlets outlets' : List Outlet)
    → Stays old new → outlets' ≡ outlets
    → IsBook names place setup old outlets → IsBook names place setup new outlets'
still_kept names place setup old new outlets outlets' st same kept =
    (kept.0, λ nodes a. stands_still place old new outlets outlets' nodes st same (kept.1 nodes a), subst AreApart (sym same) kept.2)

-- ---- at the node alone

module _ (own : Name) where
  plain_met : (what : NodeEvent) → is_plain what ≡ true → IsMet (event_at own what) None
  plain_met (event.Arrive trunk word) h = absurd (let no : false ≡ true = h in cc)
  plain_met what h = tt

  plain_takes : (what : NodeEvent) (o : Outcome) → taken_in (event_at own what) None o ≡ None
  plain_takes what (Refuses why) = refl
  plain_takes (event.Call command) (Accepts said work) = refl
  plain_takes what o = refl

  plain_dials : (what : NodeEvent) (peer : Name) (word : ℕ) → is_plain what ≡ true → meets (event_at own what) None ≡ met.Dial peer word → ⊥
  plain_dials (event.Dial q w) peer word p h = let no : false ≡ true = p in cc
  plain_dials what peer word p h = cc

abbrev pub HappensAt : NodeEvent → (above : ℕ) → (old new : History) → Result ℕ Refusal → Type 0
HappensAt what above old new result =
    (names : List Name) → Tries (at_node names (model_of old.node) (met_by what None)) what above old new result

pub happened : BooksGrow → (names : List Name) (place : ℕ) (setup : Setup) (old new : History) (outlets : List Outlet)
    (what : NodeEvent) (above : ℕ) (result : Result ℕ Refusal)
    → is_plain what ≡ true → HappensAt what above old new result → IsBook names place setup old outlets → IsBook names place setup new outlets
happened grow names place setup old new outlets what above (Ok at) plain h kept = (
  kept.0,
  λ nodes a.
      let own = name_at nodes place in
      let e = (h (names_of nodes)).0 in
      let below = is_below names place setup nodes a kept.0 in
      let s = kept.1 nodes a in
      entered_plainly grow place nodes old new what None above outlets below s e (plain_met own what plain)
      (plain_takes own what (one_more.due grow place nodes old new what None above outlets below s e))
      (λ t peer d to. absurd (plain_dials own what peer d.0.0 plain d.0.1)),
  kept.2,
)
happened grow names place setup old new outlets what above (Err e) plain h kept =
    still_kept names place setup old new outlets outlets (h names).0 refl kept

-- ---- an item comes

module _ (grow : BooksGrow) (names : List Name) (place : ℕ) (setup : Setup) (old new : History) (outlets : List Outlet)
    (trunk : TrunkId) (word : ℕ) (k : ℕ) (d after : Outlet)
    (first : IsFirst trunk k outlets) (kept : IsBook names place setup old outlets) where
  abbrev before : Outlet
  before = get_or outlets k d

  there : outlet_of trunk outlets ≡ Some before
  there = first_is trunk k outlets d first

  module _ (at : ℕ) (h : Takes trunk word old new before after at) (nodes : Nodes) (a : AreNodes names place setup nodes) where
    s : HasBook place old outlets nodes
    s = kept.1 nodes a

    below : place < length nodes
    below = is_below names place setup nodes a kept.0

    here : FeedsAt trunk old.entries.items (Some before) (s.book.ports trunk)
    here = subst (λ o. FeedsAt trunk old.entries.items o (s.book.ports trunk)) there (s.is.ports trunk)

    w : Waits trunk old.entries.items before (s.book.ports trunk) h.parcel
    w = waits trunk old.entries.items before (s.book.ports trunk) h.parcel h.rest here h.slot

    e : Enters (at_node (names_of nodes) (model_of old.node) (met_by (event.Arrive trunk word) (Some w.x.1)))
        (event.Arrive trunk word) w.x.0 old new
    e =
        subst (λ n. Enters (at_node (names_of nodes) (model_of old.node) (met_by (event.Arrive trunk word) (Some w.x.1)))
        (event.Arrive trunk word) n old new) w.carries.stamp
        (h.enters (names_of nodes) w.x.1 w.carries.spelled w.carries.bytes)

    abbrev due : Outcome
    due = one_more.due grow place nodes old new (event.Arrive trunk word) (Some w.x.1) w.x.0 outlets below s e

    abbrev entry : Entry
    entry = record { stamp = new.last; event = event.Arrive trunk word; answer = e.answer }

    answered : (answer : Answer) → e.answer ≡ answer → after ≡ cond (is_ok answer) (without_next before) before
    answered answer is =
        h.left
        ∙ ap (λ (x : Option Entry). cond (is_accepted x) (without_next before) before)
        (last_entry (at_node (names_of nodes) (model_of old.node) (met_by (event.Arrive trunk word) (Some w.x.1)))
        (event.Arrive trunk word) w.x.0 old new e at h.place_is)
        ∙ ap (λ x. cond (is_ok x) (without_next before) before) is

    by_answer : (answer : Answer) → e.answer ≡ answer → Ends due s.book.node (model_of new.node) answer
        → HasBook place new (set outlets k after) nodes
    by_answer (Ok report) is q =
        subst (λ o. HasBook place new (set outlets k o) nodes) (sym (answered (Ok report) is))
        (entered_taking grow place nodes old new trunk word w.x outlets below s e q.answer q.work q.accepts k before first
        there w.feeds.trunk_is w.port w.is w.feeds w.xs w.slot)
    by_answer (Err why) is q =
        subst (λ o. HasBook place new (set outlets k o) nodes) (sym (answered (Err why) is))
        (subst (λ os. HasBook place new os nodes) (sym (set_first trunk k outlets d first))
        (entered_refused grow place nodes old new (event.Arrive trunk word) (Some w.x.1) w.x.0 outlets below s e
        (λ no. some_not_none w.x.1 no) why q.0))

    pub taken_stands : HasBook place new (set outlets k after) nodes
    taken_stands = by_answer e.answer refl (ends grow place nodes old new (event.Arrive trunk word) (Some w.x.1) w.x.0 outlets below s e)

  same_end : (at : ℕ) → Takes trunk word old new before after at → after.port.trunk ≡ trunk
  same_end at h =
      ap (λ (o : Outlet). o.port.trunk) h.left ∙ either (is_accepted (slice_get new.entries.items at))
      ∙ first_trunk trunk k outlets d first
    where
      either : (b : Bool) → (cond b (without_next before) before).port.trunk ≡ before.port.trunk
      either true = refl
      either false = refl

  pub taken : (at : ℕ) → Takes trunk word old new before after at → IsBook names place setup new (set outlets k after)
  taken at h = (kept.0, λ nodes a. taken_stands at h nodes a, apart_set trunk k outlets after first (same_end at h) kept.2)

  pub not_taken : (e : Refusal) → TakesNothing trunk old new before after e → IsBook names place setup new (set outlets k after)
  not_taken e h =
      still_kept names place setup old new outlets (set outlets k after) h.history
      (ap (λ o. set outlets k o) h.outlet ∙ set_first trunk k outlets d first) kept

-- ---- the node dials

module _ (grow : BooksGrow) (new_next : NextIsNew) (names : List Name) (place : ℕ) (setup : Setup) (old new : History)
    (outlets after : List Outlet) (is_known : Bool)
    (peer : Name) (word greatest above : ℕ) (known : has_name peer names ≡ is_known) (kept : IsBook names place setup old outlets) where
  module _ (at : ℕ) (h : DialsOut greatest is_known peer word above old new outlets after at) (nodes : Nodes)
      (a : AreNodes names place setup nodes) where
    s2 : HasBook place old outlets nodes
    s2 = kept.1 nodes a

    below2 : place < length nodes
    below2 = is_below names place setup nodes a kept.0

    abbrev outcome : Outcome
    outcome = at_node (names_of nodes) (model_of old.node) (met_by (event.Dial peer word) None)

    e2 : Enters outcome (event.Dial peer word) above old new
    e2 = h.enters (names_of nodes) (ap (λ (l : List Name). has_name peer l) a.named ∙ known)

    abbrev due2 : Outcome
    due2 = one_more.due grow place nodes old new (event.Dial peer word) None above outlets below2 s2 e2

    abbrev own : Name
    own = (model_of old.node).mint.name

    abbrev count_of : Option TrunkId → Option ℕ
    count_of = option_map (λ (t : TrunkId). t.count)

    opened_by : (answer : Answer) → e2.answer ≡ answer → after ≡ with_opened greatest own peer at (count_of (trunk_answered answer)) outlets
    opened_by answer is =
        h.opened
        ∙ ap (λ (x : Option Entry). with_opened greatest own peer at (count_of (trunk_in x)) outlets)
        (last_entry outcome (event.Dial peer word) above old new e2 at h.place_is)
        ∙ ap (λ x. with_opened greatest own peer at (count_of (trunk_answered x)) outlets) is

    -- a new outlet of that connection
    same_outlet : (name : Name) → name ≡ s2.book.node.mint.name
        → with_opened greatest name peer at (Some (s2.book.node.dialed + 1)) outlets ≡ outlets
        ++ opened_outlet greatest (next_trunk s2.book.node) peer old.entries.items ∷ []
    same_outlet name is =
        ap (λ (n : Name). with_opened greatest n peer at (Some (s2.book.node.dialed + 1)) outlets) is
        ∙ ap (λ (n : ℕ). with_opened greatest s2.book.node.mint.name peer n (Some (s2.book.node.dialed + 1)) outlets) h.place_is

    by_reply : (answer : Answer) → e2.answer ≡ answer → Ends due2 s2.book.node (model_of new.node) answer → HasBook place new after nodes
    by_reply (Ok report) is d =
        let dialed = accepted_dial (names_of nodes) s2.book.node peer word d.answer d.work d.accepts in
        let said : count_of (trunk_answered (Ok report)) ≡ Some (s2.book.node.dialed + 1) =
        ap (λ (x : Said). count_of (trunk_said x)) (d.told ∙ dialed.answer) in
        subst (λ os. HasBook place new os nodes)
        (sym (opened_by (Ok report) is ∙ ap (λ c. with_opened greatest own peer at c outlets) said
        ∙ same_outlet own (ap (λ (m : model.Node). m.mint.name) (sym s2.is.node))))
        (entered_dialing grow new_next place nodes old new peer word greatest above outlets below2 s2 e2 d.answer d.work d.accepts)
    by_reply (Err why) is d =
        subst (λ os. HasBook place new os nodes) (sym (opened_by (Err why) is))
        (entered_refused grow place nodes old new (event.Dial peer word) None above outlets below2 s2 e2 tt why d.0)

    apart_by : (answer : Answer) → e2.answer ≡ answer → Ends due2 s2.book.node (model_of new.node) answer → AreApart after
    apart_by (Ok report) is d =
        let dialed = accepted_dial (names_of nodes) s2.book.node peer word d.answer d.work d.accepts in
        let said : count_of (trunk_answered (Ok report)) ≡ Some (s2.book.node.dialed + 1) =
        ap (λ (x : Said). count_of (trunk_said x)) (d.told ∙ dialed.answer) in
        subst AreApart
        (sym (opened_by (Ok report) is ∙ ap (λ c. with_opened greatest own peer at c outlets) said
        ∙ same_outlet own (ap (λ (m : model.Node). m.mint.name) (sym s2.is.node))))
        (apart_push outlets (opened_outlet greatest (next_trunk s2.book.node) peer old.entries.items)
        (none grow new_next place nodes old new peer word greatest above outlets below2 s2 e2 d.answer d.work d.accepts) kept.2)
    apart_by (Err why) is d = subst AreApart (sym (opened_by (Err why) is)) kept.2

    pub dialed_apart : AreApart after
    dialed_apart = apart_by e2.answer refl (ends grow place nodes old new (event.Dial peer word) None above outlets below2 s2 e2)

    pub dialed_stands : HasBook place new after nodes
    dialed_stands = by_reply e2.answer refl (ends grow place nodes old new (event.Dial peer word) None above outlets below2 s2 e2)

  pub dialed : (at : ℕ) → DialsOut greatest is_known peer word above old new outlets after at → IsBook names place setup new after
  dialed at h = (
    kept.0,
    λ nodes a. dialed_stands at h nodes a,
    dialed_apart at h (those names setup)
        (record { named = those_named names setup; secret = those_secret names setup place kept.0 }),
  )
