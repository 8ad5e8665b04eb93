-- A node dials: the entry of its event, and a port of the new connection.
use Rattle.std.proofs.Common.{◌≡◌, ℕ, ◌+◌, ◌<◌, ◌^◌, Bool, true, false, cond, not, nat_lt, Option, None}
use Rattle.std.proofs.Common.{Some, List, [], ◌∷◌, ◌++◌, inr, is_some, length, refl, sym, ap, ◌∙◌, subst}
use Rattle.std.specs.FinMap as fm
use Rattle.dist_books.specs.Acting as acting
use Rattle.dist_books.specs.Acting.{Nodes, meets, name_at, names_of, same_way}
use Rattle.dist_books.specs.Books.{Port, Stamped}
use Rattle.dist_books.specs.Growing.{BooksGrow, IsTowards, Leaves, NextIsNew}
use Rattle.dist_model.proofs.Keys.{same_name_is, same_trunk, same_trunk_is, same_trunk_refl, same_trunk_true, trunk_total}
use Rattle.dist_model.specs.Commands.{Accepts, Outcome, Refuses}
use Rattle.dist_model.specs.Dialing.{dial, draw_trunk, has_name, next_trunk}
use Rattle.dist_model.specs.Handshake.{identity, with_side, write}
use Rattle.dist_model.specs.Keeping.{CountsOwn, Dials, Towards}
use Rattle.dist_model.specs.Names.{Name, same_name}
use Rattle.dist_model.specs.Node as model
use Rattle.dist_model.specs.Node.{side_where}
use Rattle.dist_model.specs.NodeEvents as met
use Rattle.dist_model.specs.NodeEvents.{at_node}
use Rattle.dist_model.specs.Sides.{AwaitsStatus, TrunkSide, is_gone}
use Rattle.dist_model.specs.Work.{Work, at_work}
use Rattle.dist_model.specs.declared.report.Answer.{Answer}
use Rattle.erl_handshake.specs.Roles.{send_name}
use Rattle.erl_names.specs.declared.trunk.TrunkId.{TrunkId}
use Rattle.erl_term.specs.declared.refusal.Refusal.{Refusal}
use Rattle.dist_books.specs.Logs.{on, stamped}
use Rattle.node_core.specs.Model.{model_of}
use Rattle.node_history.specs.Entering.{Enters}
use Rattle.node_history.specs.declared.entry.Entry.{Entry}
use Rattle.node_history.specs.declared.history.History.{History}
use Rattle.node_lock.proofs.Counted.{counts_of}
use Rattle.node_lock.proofs.OneEntryMore as one_more
use Rattle.node_lock.proofs.OneEntryMore.{entered, feeds_grown, leaves_grown, more}
use Rattle.node_lock.proofs.Places.{outlet_push}
use Rattle.node_lock.proofs.Ways.{none_behind, place_snoc, waiting_snoc}
use Rattle.node_lock.specs.Standing.{Feeds, FeedsAt, HasBook, outlet_of}
use Rattle.node_lock.specs.Waiting.{AreFramesOf, sent_in}
use Rattle.node_lock.specs.declared.outlet.Outlet.{Outlet}
use Rattle.node_lock.specs.Passing.{new_outlet}
use Rattle.wire_core.specs.Standing.{no_port}
use Rattle.node_core.proofs.Fronted.{refused_or, same_work}
use Rattle.node_core.specs.NodeEvents.{met as met_by}
use Rattle.node_core.specs.declared.node_event.NodeEvent.TheVariants as event
use Rattle.dist_model.specs.Sides.{untold}

-- ---- what a dial comes to that is accepted

abbrev dialed_side : (peer : Name) (word : ℕ) → TrunkSide
dialed_side peer word = record { peer = peer; introduction = untold; state = AwaitsStatus word }

abbrev dialed_work : model.Node → Name → ℕ → Work
dialed_work m peer word =
    write (next_trunk m) peer (send_name (identity m)) (with_side (next_trunk m) (dialed_side peer word) (at_work (draw_trunk m)))

pub record Dialed (m : model.Node) (peer : Name) (word : ℕ) (said : Answer) (work : Work) : Type 0 where
  pub stranger : peer ≡ m.mint.name → ⊥
  pub answer : said ≡ Answer.Trunk (next_trunk m)
  pub side : Towards work.node (next_trunk m) peer

same_answer : (a b : Answer) (w v : Work) → Accepts a w ≡ Accepts b v → a ≡ b
same_answer a b w v h = cc

pub accepted_dial : (names : List Name) (m : model.Node) (peer : Name) (word : ℕ) (said : Answer) (work : Work)
    → at_node names m (met.Dial peer word) ≡ Accepts said work → Dialed m peer word said work
accepted_dial names m peer word said work h = by_up m.up h
  where
    t0 : TrunkId
    t0 = next_trunk m

    w0 : Work
    w0 = dialed_work m peer word

    towards : Towards w0.node t0 peer
    towards = record {
      side = dialed_side peer word;
      there = fm.get-insert trunk_total m.sides t0 (dialed_side peer word) t0
          ∙ ap (λ b. cond b (Some (dialed_side peer word)) (fm.get m.sides t0)) (same_trunk_refl t0);
      peer = refl;
    }

    by_tests : (a b c d : Bool) → same_name peer m.mint.name ≡ a
        → cond a (Refuses Refusal.SelfDial) (cond b (Refuses Refusal.NothingThere)
        (cond c (Refuses Refusal.Busy) (cond d (Refuses Refusal.IdsUsedUp) (Accepts (Answer.Trunk t0) w0)))) ≡ Accepts said work
        → Dialed m peer word said work
    by_tests true b c d s e = refused_or Refusal.SelfDial said work e
    by_tests false true c d s e = refused_or Refusal.NothingThere said work e
    by_tests false false true d s e = refused_or Refusal.Busy said work e
    by_tests false false false true s e = refused_or Refusal.IdsUsedUp said work e
    by_tests false false false false s e = record {
      stranger = λ is. let no : false ≡ true = sym s ∙ same_name_is peer m.mint.name is in cc;
      answer = sym (same_answer (Answer.Trunk t0) said w0 work e);
      side = subst (λ (w : Work). Towards w.node t0 peer) (same_work (Answer.Trunk t0) said w0 work e) towards;
    }

    by_up : (u : Bool) → cond u (dial names m peer word) (Refuses Refusal.NodeDown) ≡ Accepts said work → Dialed m peer word said work
    by_up true e =
        by_tests (same_name peer m.mint.name) (not (has_name peer names))
        (is_some (side_where (λ state. not (is_gone state)) peer (fm.entries m.sides))) (not (nat_lt (m.dialed + 1) (2 ^ 64))) refl e
    by_up false e = refused_or Refusal.NodeDown said work e

abbrev pub opened_outlet : (greatest : ℕ) → TrunkId → Name → List Entry → Outlet
opened_outlet greatest trunk peer es = new_outlet greatest trunk peer (length es)

same_peer : (p q : Name) (w v : ℕ) → met.Dial p w ≡ met.Dial q v → p ≡ q
same_peer p q w v h = cc

some_port : (p : Port) {A : Type 0} → ◌≡◌ {A = Option Port} None (Some p) → A
some_port p h = cc

module _ (grow : BooksGrow) (new_next : NextIsNew) (place : ℕ) (nodes : Nodes) (old new : History) (peer : Name)
    (word greatest above : ℕ) (outlets : List Outlet)
    (below : place < length nodes) (s : HasBook place old outlets nodes)
    (e : Enters (at_node (names_of nodes) (model_of old.node) (met_by (event.Dial peer word) None)) (event.Dial peer word) above old new) where
  abbrev own : Name
  own = name_at nodes place

  abbrev due : Outcome
  due = one_more.due grow place nodes old new (event.Dial peer word) None above outlets below s e

  abbrev grown : TrunkId → Option Port → Option Port
  grown = one_more.grown grow place nodes old new (event.Dial peer word) None above outlets below s e

  abbrev entry : Entry
  entry = one_more.entry grow place nodes old new (event.Dial peer word) None above outlets below s e

  abbrev es : List Entry
  es = old.entries.items ++ entry ∷ []

  abbrev pub t0 : TrunkId
  t0 = next_trunk s.book.node

  module _ (said : Answer) (work : Work) (accepted : due ≡ Accepts said work) where
    abbrev pub is : Dialed s.book.node peer word said work
    is = accepted_dial (names_of nodes) s.book.node peer word said work accepted

    abbrev sent : List Stamped
    sent = stamped new.last (on same_way (t0, peer) (acting.sent_in due))

    abbrev opened : Port
    opened = record (no_port peer) { outbox = sent }

    abbrev outlet : Outlet
    outlet = opened_outlet greatest t0 peer old.entries.items

    was_none : s.book.ports t0 ≡ None
    was_none = new_next nodes place s.book s.follows (subst CountsOwn (sym s.is.node) (counts_of old.node))

    no_outlet : (o : Option Outlet) → FeedsAt t0 old.entries.items o None → o ≡ None
    no_outlet None h = refl
    no_outlet (Some o) h = absurd h

    pub none : outlet_of t0 outlets ≡ None
    none = no_outlet (outlet_of t0 outlets) (subst (λ p. FeedsAt t0 old.entries.items (outlet_of t0 outlets) p) was_none (s.is.ports t0))

    abbrev ports : TrunkId → Option Port
    ports t = cond (same_trunk t t0) (Some opened) (grown t (s.book.ports t))

    abbrev LeavesAt : TrunkId → Option Port → Option Port → Type 0
    LeavesAt t =
        Leaves own (acting.sent_in due) None new.last t s.book.node
        (one_more.next_node grow place nodes old new (event.Dial peer word) None above outlets below s e)
        (meets (one_more.now grow place nodes old new (event.Dial peer word) None above outlets below s e) None)

    leaves_here : LeavesAt t0 None (Some opened)
    leaves_here = (
      refl,
      record {
        dials = ((word, refl), refl, is.stranger);
        side = subst (λ (m : model.Node). Towards m t0 peer) (ap (λ o. acting.next_of s.book.node o) (sym accepted)) is.side;
        out = refl;
        taken = refl;
        slot = refl;
      },
    )

    leaves : (t : TrunkId) (b : Bool) → same_trunk t t0 ≡ b → LeavesAt t (s.book.ports t) (cond b (Some opened) (grown t (s.book.ports t)))
    leaves t true same =
        subst (λ u. LeavesAt u (s.book.ports u) (Some opened)) (sym (same_trunk_true t t0 same))
        (subst (λ q. LeavesAt t0 q (Some opened)) (sym was_none) leaves_here)
    leaves t false same = leaves_grown grow place nodes old new (event.Dial peer word) None above outlets below s e t (s.book.ports t)

    towards : (t : TrunkId) (q : Name) → Dials s.book.node (met.Dial peer word) t q → IsTowards (ports t) q
    towards t q d =
        subst (λ b. IsTowards (cond b (Some opened) (grown t (s.book.ports t))) q) (sym (same_trunk_is t t0 d.1))
        (same_peer peer q word d.0.0 d.0.1)

    fed_here : Feeds t0 es outlet opened
    fed_here = record {
      staged = no_port peer;
      rest = sent;
      port_is = refl;
      stands = record { peer = refl; put = tt; outbox = tt; taken = tt; slot = tt };
      trunk_is = refl;
      to_come = subst (λ fs. AreFramesOf fs sent)
          (sym (waiting_snoc (t0, peer) (length old.entries.items) 0 old.entries.items entry (inr (refl, refl))
          ∙ ap (λ fs. fs ++ sent_in (t0, peer) entry) (none_behind (t0, peer) old.entries.items)))
          (more grow place nodes old new (event.Dial peer word) None above outlets below s e t0 peer);
      place = place_snoc (length old.entries.items) 0 old.entries.items entry (inr (refl, refl));
    }

    fed : (t : TrunkId) (b : Bool) → same_trunk t t0 ≡ b
        → FeedsAt t es (cond b (Some outlet) (outlet_of t outlets)) (cond b (Some opened) (grown t (s.book.ports t)))
    fed t true same = subst (λ u. FeedsAt u es (Some outlet) (Some opened)) (sym (same_trunk_true t t0 same)) fed_here
    fed t false same =
        feeds_grown grow place nodes old new (event.Dial peer word) None above outlets below s e t (outlet_of t outlets)
        (s.book.ports t) (s.is.ports t)

    pub entered_dialing : HasBook place new (outlets ++ outlet ∷ []) nodes
    entered_dialing =
        entered grow place nodes old new (event.Dial peer word) None above outlets below s e None ports (outlets ++ outlet ∷ [])
        tt (sym (ap
        (λ d. acting.taken_in (one_more.now grow place nodes old new (event.Dial peer word) None above outlets below s e) None d)
        accepted)) tt
        (λ t. leaves t (same_trunk t t0) refl)
        (λ t q d h. towards t q d)
        (λ t. subst (λ q. FeedsAt t es q (ports t)) (sym (outlet_push t outlets outlet none)) (fed t (same_trunk t t0) refl))
