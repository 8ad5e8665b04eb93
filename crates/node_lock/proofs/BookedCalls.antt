-- What a book says of its calls, between two entries and at the node alone.
use Rattle.std.proofs.Common.{◌≡◌, ◌⊎◌, ℕ, zero, suc, ◌<◌, Bool, true, false, Option, None, Some, List, [], ◌∷◌, ◌++◌, Result, Ok, Err}
use Rattle.std.proofs.Common.{IfOk, IfErr, inl, inr, ⊎_elim, is_none, not, ◌&&◌, get_or, length, set, refl, sym, ap, ◌∙◌, subst, arith}
use Rattle.std.proofs.lemmas.Bool.{and_parts, not-true}
use Rattle.std.specs.List.{position}
use Rattle.std.specs.Ordering.{eq_by_cmp}
use Rattle.dist_books.specs.Acting.{Nodes, name_at, names_of}
use Rattle.dist_books.specs.Books.{Port}
use Rattle.dist_books.specs.Growing.{BooksGrow, BooksRest, NewBooksFollow, NextIsNew}
use Rattle.dist_model.proofs.Keys.{same_name_is}
use Rattle.dist_model.specs.Dialing.{has_name}
use Rattle.dist_model.specs.Items.{Item}
use Rattle.dist_model.specs.Names.{Name, same_name}
use Rattle.dist_model.specs.Node as model
use Rattle.dist_model.specs.Runs.{new_node}
use Rattle.erl_names.specs.Order.{trunk_cmp}
use Rattle.erl_names.specs.declared.trunk.TrunkId.{TrunkId}
use Rattle.erl_term.specs.declared.refusal.Refusal.{Refusal}
use Rattle.node_core.specs.Model.{model_of}
use Rattle.node_history.specs.Entering.{IsWanting, Stays}
use Rattle.node_history.specs.declared.entry.Entry.{Entry}
use Rattle.node_history.specs.declared.history.History.{History}
use Rattle.node_lock.proofs.Places.{IsFirst, apart_push, apart_set, first_is, first_trunk, is_first, none_is}
use Rattle.node_lock.proofs.BetweenEntries.{installed, new_stands, shifted}
use Rattle.node_lock.proofs.Ways.{none_behind}
use Rattle.node_lock.specs.Answers.{is_plain}
use Rattle.node_lock.specs.Books.{Applies, IsUnapplied, IsUnready, is_ready_on, wants}
use Rattle.node_lock.specs.Seen.{BookSeen}
use Rattle.node_lock.specs.Applying.{IsComing, IsOf, is_ready, next_at, DialsOut, Takes, TakesNothing}
use Rattle.node_lock.specs.Feeding.{Fed, KeepsFeeding}
use Rattle.node_lock.specs.Standing.{FeedsAt, IsBook, outlet_of}
use Rattle.node_lock.specs.Waiting.{AreFramesOf}
use Rattle.node_lock.specs.declared.outlet.Outlet.{Outlet}
use Rattle.node_lock.specs.Passing.{fresh_outlet, new_outlet}
use Rattle.wire_core.specs.Ports.{first_of, fresh}
use Rattle.wire_core.specs.Standing.{no_port}
use Rattle.wire_core.specs.Spellings.{SpellsItem}
use Rattle.wire_core.specs.declared.parcel.Parcel.{Parcel}
use Rattle.node_core.specs.declared.node_event.NodeEvent.{NodeEvent}
use Rattle.node_core.specs.declared.node_event.NodeEvent.TheVariants as event
use Rattle.node_lock.proofs.KeptByEvents.{is_below, set_first, still_kept, those, those_named, those_secret, HappensAt, taken, not_taken, dialed}
use Rattle.erl_handshake.specs.declared.setup.Setup.{Setup}

-- ---- each outlet feeds some port

fed_by : (t : TrunkId) (es : List Entry) (o : Outlet) (p : Option Port) → FeedsAt t es (Some o) p → Fed es o
fed_by t es o None h = absurd h
fed_by t es o (Some p) h = (t, p, h)

pub book_feeds : (names : List Name) (place : ℕ) (setup : Setup) (history : History) (outlets : List Outlet)
    (trunk : TrunkId) (k : ℕ) (d : Outlet)
    → IsFirst trunk k outlets → IsBook names place setup history outlets → Fed history.entries.items (get_or outlets k d)
book_feeds names place setup history outlets trunk k d first kept =
    let s = kept.1 (those names setup) (record { named = those_named names setup; secret = those_secret names setup place kept.0 }) in
    fed_by trunk history.entries.items (get_or outlets k d) (s.book.ports trunk)
    (subst (λ o. FeedsAt trunk history.entries.items o (s.book.ports trunk)) (first_is trunk k outlets d first) (s.is.ports trunk))

-- ---- between two entries

pub shift_kept : BooksRest → (names : List Name) (place : ℕ) (setup : Setup) (history : History) (outlets : List Outlet)
    (trunk : TrunkId) (k : ℕ) (d after : Outlet)
    → IsFirst trunk k outlets → KeepsFeeding history.entries.items (get_or outlets k d) after → IsBook names place setup history outlets
    → IsBook names place setup history (set outlets k after)
shift_kept rest names place setup history outlets trunk k d after first keeps kept = (
  kept.0,
  λ nodes a. shifted rest place nodes history outlets (kept.1 nodes a) trunk k (get_or outlets k d) after first
      (first_is trunk k outlets d first) keeps,
  let fed = book_feeds names place setup history outlets trunk k d first kept in
      apart_set trunk k outlets after first
      ((keeps fed.0 fed.1 fed.2).feeds.trunk_is ∙ sym fed.2.trunk_is ∙ first_trunk trunk k outlets d first) kept.2,
)

abbrev pub installed_outlet : (greatest : ℕ) → TrunkId → List Entry → Outlet
installed_outlet greatest trunk es = fresh_outlet greatest es trunk

pub install_kept : BooksRest
    → (greatest : ℕ) (names : List Name) (place : ℕ) (setup : Setup) (history : History) (outlets : List Outlet) (trunk : TrunkId)
    → same_name trunk.dialer (model_of history.node).mint.name ≡ false → outlet_of trunk outlets ≡ None
    → IsBook names place setup history outlets
    → IsBook names place setup history (outlets ++ installed_outlet greatest trunk history.entries.items ∷ [])
install_kept rest greatest names place setup history outlets trunk other none kept = (
  kept.0,
  λ nodes a.
      let s = kept.1 nodes a in
      let es = history.entries.items in
      let own = name_at nodes place in
      let name : (model_of history.node).mint.name ≡ own = ap (λ (m : model.Node). m.mint.name) (sym s.is.node) ∙ s.follows.ports.name in
      installed rest place nodes history outlets s (installed_outlet greatest trunk es) (no_port trunk.dialer) none
      (record {
        other =
            λ is. let no : true ≡ false = sym (same_name_is trunk.dialer (model_of history.node).mint.name (is ∙ sym name)) ∙ other in cc;
        peer = refl;
        out = refl;
        taken = refl;
        slot = refl;
      })
      (record {
        staged = no_port trunk.dialer;
        rest = [];
        port_is = refl;
        stands = record { peer = refl; put = tt; outbox = tt; taken = tt; slot = tt };
        trunk_is = refl;
        to_come = subst (λ fs. AreFramesOf fs []) (sym (none_behind (trunk, trunk.dialer) es)) tt;
        place = inr (refl, refl);
      }),
  apart_push outlets (installed_outlet greatest trunk history.entries.items) none kept.2,
)

-- ---- a new book

name_in : (nodes : Nodes) (place : ℕ) (d : Name) → place < length nodes → get_or (names_of nodes) place d ≡ name_at nodes place
name_in [] place d h = absurd (omega arith)
name_in (n ∷ ns) zero d h = refl
name_in (n ∷ ns) (suc k) d h = name_in ns k d (omega arith)

pub new_kept : NewBooksFollow → (names : List Name) (place : ℕ) (setup : Setup) (name : Name) (history : History) → place < length names
    → name ≡ get_or names place name → model_of history.node ≡ new_node name setup → history.last ≡ 0 → history.entries.items ≡ []
    → IsBook names place setup history []
new_kept follow names place setup name history h name_is node last entries = (
  h,
  λ nodes a.
      let below = is_below names place setup nodes a h in
      let named : name ≡ name_at nodes place = name_is ∙ ap (λ l. get_or l place name) (sym a.named) ∙ name_in nodes place name below in
      new_stands follow place nodes history
      (node ∙ ap (λ n. new_node n setup) named ∙ ap (λ c. new_node (name_at nodes place) c) (sym a.secret)) last entries,
  tt,
)

-- ---- what a book says of an event at the node alone

abbrev pub seen : (names : List Name) (place : ℕ) (setup : Setup) (greatest : ℕ) → History → List Outlet → BookSeen
seen names place setup greatest history outlets = record {
  names = names;
  place = place;
  setup = setup;
  history = history;
  outlets = outlets;
  greatest = greatest;
}

plain_comes : (what : NodeEvent) (above : ℕ) (outlets : List Outlet) → is_plain what ≡ true → IsComing what above outlets None above
plain_comes (event.Arrive trunk word) above outlets h = absurd (let no : false ≡ true = h in cc)
plain_comes what above outlets h = (refl, refl)

module _ (names : List Name) (place : ℕ) (setup : Setup) (greatest : ℕ) (old new : History) (outlets : List Outlet)
    (what : NodeEvent) (above : ℕ) (plain : is_plain what ≡ true) where
  pub plainly : (result : Result ℕ Refusal) → HappensAt what above old new result
      → IfOk result (Applies what above (seen names place setup greatest old outlets) (seen names place setup greatest new outlets))
  plainly (Ok at) h =
      let t = h names in
      record {
        first = None;
        sent = above;
        comes = plain_comes what above outlets plain;
        enters = t.0;
        place_is = t.1;
        same = record { names = refl; place = refl; setup = refl; greatest = refl };
      }
  plainly (Err e) h = tt

  pub plainly_not : (result : Result ℕ Refusal) → HappensAt what above old new result
      → IfErr result (IsUnapplied what above (seen names place setup greatest old outlets) (seen names place setup greatest new outlets))
  plainly_not (Ok at) h = tt
  plainly_not (Err e) h =
      let t = h names in
      record {
        same = record { names = refl; place = refl; setup = refl; greatest = refl };
        history = t.0;
        outlets = refl;
        why = inr (None, above, plain_comes what above outlets plain, t.1);
      }

-- ---- as the code tells it

pub found_first : (trunk : TrunkId) (os os' : List Outlet) (at : ℕ) → os' ≡ os
    → Some at ≡ position (λ o. eq_by_cmp trunk_cmp trunk o.port.trunk) os' → IsFirst trunk at os
found_first trunk os os' at same h =
    is_first trunk at os (ap (λ l. position (λ o. eq_by_cmp trunk_cmp trunk o.port.trunk) l) (sym same) ∙ sym h)

module _ (names : List Name) (place : ℕ) (setup : Setup) (history : History) (outlets : List Outlet) (trunk : TrunkId)
    (at : ℕ) (old new : Outlet) (es : List Entry)
    (os' : List Outlet) (same : os' ≡ outlets) (there : Some at ≡ position (λ o. eq_by_cmp trunk_cmp trunk o.port.trunk) os')
    (is : old ≡ get_or outlets at old)
    (entries : es ≡ history.entries.items) (kept : IsBook names place setup history outlets) where
  pub moved_kept : BooksRest → KeepsFeeding es old new → IsBook names place setup history (set outlets at new)
  moved_kept rest keeps =
      shift_kept rest names place setup history outlets trunk at old new (found_first trunk outlets os' at same there)
      (subst (λ o. KeepsFeeding history.entries.items o new) is (subst (λ l. KeepsFeeding l old new) entries keeps)) kept

  pub feeds_at : Fed es old
  feeds_at =
      subst (λ l. Fed l old) (sym entries) (subst (λ o. Fed history.entries.items o) (sym is)
      (book_feeds names place setup history outlets trunk at old (found_first trunk outlets os' at same there) kept))

module _ (names : List Name) (place : ℕ) (setup : Setup) (greatest : ℕ) (old new : History) (outlets : List Outlet)
    (trunk : TrunkId) (word : ℕ) (at : ℕ) (before after : Outlet)
    (os' : List Outlet) (same : os' ≡ outlets) (there : Some at ≡ position (λ o. eq_by_cmp trunk_cmp trunk o.port.trunk) os')
    (is : before ≡ get_or outlets at before) where
  first_one : IsFirst trunk at outlets
  first_one = found_first trunk outlets os' at same there

  outlet_is : outlet_of trunk outlets ≡ Some before
  outlet_is = first_is trunk at outlets before first_one ∙ ap (λ o. Some o) (sym is)

  pub arrive_kept : BooksGrow → (result : Result ℕ Refusal) → IfOk result (Takes trunk word old new before after)
      → IfErr result (TakesNothing trunk old new before after)
      → IsBook names place setup old outlets → IsBook names place setup new (set outlets at after)
  arrive_kept grow (Ok x) ok err kept =
      taken grow names place setup old new outlets trunk word at before after first_one kept x
      (subst (λ o. Takes trunk word old new o after x) is ok)
  arrive_kept grow (Err e) ok err kept =
      not_taken grow names place setup old new outlets trunk word at before after first_one kept e
      (subst (λ o. TakesNothing trunk old new o after e) is err)

  next_is : next_at (outlet_of trunk outlets) ≡ first_of before.port.slot
  next_is = ap (λ o. next_at o) outlet_is

  of_piece : (parcel : Parcel) → first_of before.port.slot ≡ Some parcel → (piece : SpellsItem parcel.bytes)
      → IsComing (event.Arrive trunk word) 0 outlets (Some piece.item) parcel.stamp
  of_piece parcel slot piece = subst (λ q. IsOf q piece.item parcel.stamp) (sym (next_is ∙ slot)) (refl, sym piece.written, piece.spelled)

  pub arrive_applies : (result : Result ℕ Refusal) → IfOk result (Takes trunk word old new before after)
      → IfOk result (Applies (event.Arrive trunk word) 0 (seen names place setup greatest old outlets)
      (seen names place setup greatest new (set outlets at after)))
  arrive_applies (Ok x) h = record {
    first = Some h.piece.item;
    sent = h.parcel.stamp;
    comes = of_piece h.parcel (ap (λ l. first_of l) h.slot) h.piece;
    enters = h.enters names h.piece.item h.piece.spelled (sym h.piece.written);
    place_is = h.place_is;
    same = record { names = refl; place = refl; setup = refl; greatest = refl };
  }
  arrive_applies (Err e) h = tt

  why_not : (e : Refusal) → TakesNothing trunk old new before after e
      → ((e ≡ Refusal.NothingThere) × IsUnready (event.Arrive trunk word) (seen names place setup greatest old outlets))
      ⊎ ((first : Option Item) × (sent : ℕ) × IsComing (event.Arrive trunk word) 0 outlets first sent × IsWanting old.last sent e)
  why_not e h = ⊎_elim
      (λ (x : (e ≡ Refusal.NothingThere) × (is_ready (model_of old.node) trunk (first_of before.port.slot) ≡ false)).
      inl (x.0, ap (λ q. is_ready (model_of old.node) trunk q) next_is ∙ x.1))
      (λ (x : (parcel : Parcel) × (first_of before.port.slot ≡ Some parcel) × SpellsItem parcel.bytes × IsWanting old.last parcel.stamp e).
      inr (Some x.2.item, x.0.stamp, of_piece x.0 x.1 x.2, x.3)) h.why

  pub arrive_unapplied : (result : Result ℕ Refusal) → IfErr result (TakesNothing trunk old new before after)
      → IfErr result (IsUnapplied (event.Arrive trunk word) 0 (seen names place setup greatest old outlets)
      (seen names place setup greatest new (set outlets at after)))
  arrive_unapplied (Ok x) h = tt
  arrive_unapplied (Err e) h = record {
    same = record { names = refl; place = refl; setup = refl; greatest = refl };
    history = h.history;
    outlets = ap (λ o. set outlets at o) (h.outlet ∙ is) ∙ set_first trunk at outlets before first_one;
    why = why_not e h;
  }

pub nowhere_unapplied : (names : List Name) (place : ℕ) (setup : Setup) (greatest : ℕ) (history : History)
    (outlets os' : List Outlet) (trunk : TrunkId) (word : ℕ) → os' ≡ outlets
    → None ≡ position (λ o. eq_by_cmp trunk_cmp trunk o.port.trunk) os'
    → IsUnapplied (event.Arrive trunk word) 0 (seen names place setup greatest history outlets)
    (seen names place setup greatest history outlets) Refusal.NothingThere
nowhere_unapplied names place setup greatest history outlets os' trunk word same h = record {
  same = record { names = refl; place = refl; setup = refl; greatest = refl };
  history = record { node = refl; last = refl; entries = refl };
  outlets = refl;
  why = inl (
    refl,
    ap (λ o. is_ready (model_of history.node) trunk (next_at o))
        (none_is trunk outlets (ap (λ l. position (λ o. eq_by_cmp trunk_cmp trunk o.port.trunk) l) (sym same) ∙ sym h)),
  );
}

pub dial_kept : BooksGrow → NextIsNew → (greatest : ℕ) (names : List Name) (place : ℕ) (setup : Setup) (old new : History)
    (outlets after : List Outlet) (is_known : Bool) (peer : Name) (word above : ℕ)
    (result : Result ℕ Refusal) → has_name peer names ≡ is_known → IfOk result (DialsOut greatest is_known peer word above old new outlets after)
    → IfErr result (λ e. Stays old new) → IfErr result (λ e. after ≡ outlets) → IsBook names place setup old outlets
    → IsBook names place setup new after
dial_kept grow next greatest names place setup old new outlets after is_known peer word above (Ok x) known ok st os kept =
    dialed grow next names place setup old new outlets after is_known peer word greatest above known kept x ok
dial_kept grow next greatest names place setup old new outlets after is_known peer word above (Err e) known ok st os kept =
    still_kept names place setup old new outlets after st os kept

pub none_same : (trunk : TrunkId) (os : List Outlet)
    → is_none (position (λ o. eq_by_cmp trunk_cmp trunk o.port.trunk) os) ≡ is_none (outlet_of trunk os)
none_same trunk os = go (position (λ o. eq_by_cmp trunk_cmp trunk o.port.trunk) os) refl
  where
    go : (p : Option ℕ) → position (λ o. eq_by_cmp trunk_cmp trunk o.port.trunk) os ≡ p → is_none p ≡ is_none (outlet_of trunk os)
    go None h = ap (λ o. is_none o) (sym (none_is trunk os h))
    go (Some j) h =
        ap (λ o. is_none o) (sym (first_is trunk j os (record { port = fresh trunk []; entry = 0; effects = 0 }) (is_first trunk j os h)))

pub wants_is : (m : model.Node) (trunk : TrunkId) (os os' : List Outlet) (b : Bool) → same_name trunk.dialer m.mint.name ≡ false → os' ≡ os
    → b ≡ is_none (position (λ o. eq_by_cmp trunk_cmp trunk o.port.trunk) os') → b ≡ wants m trunk os
wants_is m trunk os os' b other same h =
    h ∙ ap (λ l. is_none (position (λ o. eq_by_cmp trunk_cmp trunk o.port.trunk) l)) same ∙ none_same trunk os
    ∙ ap (λ x. not x && is_none (outlet_of trunk os)) (sym other)

no_outlet : (o : Option Outlet) → is_none o ≡ true → o ≡ None
no_outlet None h = refl
no_outlet (Some o) h = absurd (let no : false ≡ true = h in cc)

pub installed_as : BooksRest → (greatest : ℕ) (names : List Name) (place : ℕ) (setup : Setup) (history : History)
    (outlets mid after : List Outlet) (trunk : TrunkId) (dialer : Name)
    (new : Outlet) → wants (model_of history.node) trunk outlets ≡ true → mid ≡ outlets → after ≡ mid ++ new ∷ []
    → new ≡ new_outlet greatest trunk dialer (length history.entries.items) → dialer ≡ trunk.dialer
    → IsBook names place setup history outlets → IsBook names place setup history after
installed_as rest greatest names place setup history outlets mid after trunk dialer new w m a is d kept =
    let t = and_parts (not (same_name trunk.dialer (model_of history.node).mint.name)) (is_none (outlet_of trunk outlets)) w in
    let is_new : new ≡ installed_outlet greatest trunk history.entries.items =
    is ∙ ap (λ x. new_outlet greatest trunk x (length history.entries.items)) d in
    subst (λ l. IsBook names place setup history l) (sym (a ∙ ap (λ l. l ++ new ∷ []) m ∙ ap (λ o. outlets ++ o ∷ []) is_new))
    (install_kept rest greatest names place setup history outlets trunk
    (not-true (same_name trunk.dialer (model_of history.node).mint.name) t.0) (no_outlet (outlet_of trunk outlets) t.1) kept)

pub copied_name : (names : List Name) (place : ℕ) (name held : Name) → name ≡ held → held ≡ get_or names place held
    → name ≡ get_or names place name
copied_name names place name held is h = subst (λ n. n ≡ get_or names place n) (sym is) h

pub not_not : (b : Bool) → b ≡ not (not b)
not_not true = refl
not_not false = refl

pub ready_at : (m : model.Node) (trunk : TrunkId) (outlets os' : List Outlet) (at : ℕ) (old : Outlet) → os' ≡ outlets
    → Some at ≡ position (λ o. eq_by_cmp trunk_cmp trunk o.port.trunk) os' → old ≡ get_or outlets at old
    → is_ready m trunk (first_of old.port.slot) ≡ is_ready_on m trunk outlets
ready_at m trunk outlets os' at old same h is =
    ap (λ o. is_ready m trunk (next_at o))
    (sym (first_is trunk at outlets old (found_first trunk outlets os' at same h) ∙ ap (λ o. Some o) (sym is)))

pub unready_at : (m : model.Node) (trunk : TrunkId) (outlets os' : List Outlet) → os' ≡ outlets
    → None ≡ position (λ o. eq_by_cmp trunk_cmp trunk o.port.trunk) os' → false ≡ is_ready_on m trunk outlets
unready_at m trunk outlets os' same h =
    sym (ap (λ o. is_ready m trunk (next_at o))
    (none_is trunk outlets (ap (λ l. position (λ o. eq_by_cmp trunk_cmp trunk o.port.trunk) l) (sym same) ∙ sym h)))
