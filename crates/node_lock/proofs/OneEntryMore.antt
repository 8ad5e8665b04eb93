-- A book with one entry more stands for one with one more.
use Rattle.std.proofs.Common.{◌≡◌, ℕ, ◌<◌, Option, None, Some, List, [], ◌∷◌, ◌++◌, Ok}
use Rattle.std.proofs.Common.{Err, length, refl, sym, ap, ◌∙◌, subst, append_assoc, arith}
use Rattle.dist_books.specs.Acting as acting
use Rattle.dist_books.specs.Acting.{IsMet, Nodes, Way, meets, name_at, names_of, next_of, on_ways, report_of, same_way, taken_in, takes}
use Rattle.dist_books.specs.Books.{Book, Port, Stamped}
use Rattle.dist_books.specs.Growing.{BooksGrow, IsTowards, Leaves, comes_to}
use Rattle.dist_model.specs.Commands.{Outcome, Refuses}
use Rattle.dist_model.specs.Items.{Item}
use Rattle.dist_model.specs.Keeping.{CountsOwn, Dials, Towards}
use Rattle.dist_model.specs.Names.{Name}
use Rattle.dist_model.specs.Node as model
use Rattle.dist_model.specs.NodeEvents.{at_node}
use Rattle.dist_model.specs.World.{Event, Report}
use Rattle.erl_names.specs.declared.trunk.TrunkId.{TrunkId}
use Rattle.dist_books.specs.Logs as merging
use Rattle.dist_books.specs.Logs.{TakesEarlier, bare_took, on, stamped}
use Rattle.node_core.specs.Model.{model_of}
use Rattle.node_history.specs.Entering.{Answer, Ends, Enters}
use Rattle.node_history.specs.declared.entry.Entry.{Entry}
use Rattle.node_history.specs.declared.history.History.{History}
use Rattle.node_lock.proofs.Counted.{counts_of}
use Rattle.node_lock.proofs.Ways.{frames_append, frames_of_sent, place_snoc, waiting_snoc}
use Rattle.node_lock.specs.Standing.{Feeds, FeedsAt, HasBook, TellEntries, TellsEntry, outlet_of}
use Rattle.node_lock.specs.Waiting.{AreFramesOf, effects_of, sent_in, waiting}
use Rattle.node_lock.specs.declared.outlet.Outlet.{Outlet}
use Rattle.node_core.specs.Told.{Tells}
use Rattle.node_core.specs.NodeEvents.{event_at, met as met_by}
use Rattle.node_core.proofs.EventNamed.{event_named}
use Rattle.node_core.specs.declared.node_event.NodeEvent.{NodeEvent}
use Rattle.node_core.specs.declared.node_event.NodeEvent.TheVariants as event
use Rattle.node_core.specs.SentAt.{sent_at}

-- ---- an event, and what comes of it

meets_is : (own : Name) (what : NodeEvent) (first : Option Item) → meets (event_at own what) first ≡ met_by what first
meets_is own (event.Call command) first = refl
meets_is own what first = refl

module _ (o : Outcome) (m n : model.Node) where
  tells : (answer : Answer) → Ends o m n answer → Tells answer (report_of o)
  tells (Ok report) d = subst (λ x. Tells (Ok report) (report_of x)) (sym d.accepts) (d.told, d.effects)
  tells (Err why) d = subst (λ x. Tells (Err why) (report_of x)) (sym d.0) refl

  becomes : (answer : Answer) → Ends o m n answer → n ≡ next_of m o
  becomes (Ok report) d = d.node ∙ ap (λ x. next_of m x) (sym d.accepts)
  becomes (Err why) d = d.1 ∙ ap (λ x. next_of m x) (sym d.0)

  sent_frames : (stamp : ℕ) (way : Way) (answer : Answer) → Ends o m n answer
      → AreFramesOf (stamped stamp (sent_at way.0 way.1 (effects_of answer))) (stamped stamp (on same_way way (acting.sent_in o)))
  sent_frames stamp way (Ok report) d =
      subst
      (λ x. AreFramesOf (stamped stamp (sent_at way.0 way.1 report.effects.items)) (stamped stamp (on same_way way (acting.sent_in x))))
      (sym d.accepts)
      (subst
      (λ es. AreFramesOf (stamped stamp (sent_at way.0 way.1 es)) (stamped stamp (on same_way way (on_ways d.work.effects))))
      (sym d.effects)
      (frames_of_sent stamp way d.work.effects d.spelled))
  sent_frames stamp way (Err why) d =
      subst (λ x. AreFramesOf [] (stamped stamp (on same_way way (acting.sent_in x)))) (sym d.0) tt

tell_snoc : (own : Name) (es : List Entry) (rs : List (merging.Entry Event Report)) (e : Entry) (r : merging.Entry Event Report)
    → TellEntries own es rs → TellsEntry own e r → TellEntries own (es ++ e ∷ []) (rs ++ r ∷ [])
tell_snoc own [] [] e r h t = (t, tt)
tell_snoc own [] (y ∷ rs) e r h t = absurd h
tell_snoc own (x ∷ es) [] e r h t = absurd h
tell_snoc own (x ∷ es) (y ∷ rs) e r h t = (h.0, tell_snoc own es rs e r h.1 t)

-- ---- a port that the history feeds, with what an entry has sent on it

pub feeds_more : (t : TrunkId) (es : List Entry) (e : Entry) (o : Outlet) (p : Port) (more : List Stamped) → Feeds t es o p
    → AreFramesOf (sent_in (t, p.peer) e) more → Feeds t (es ++ e ∷ []) o (record p { outbox = p.outbox ++ more })
feeds_more t es e o p more f h =
    let peer : p.peer ≡ o.port.peer = ap (λ (q : Port). q.peer) f.port_is ∙ f.stands.peer in
    let S = f.staged in
    record {
      staged = S;
      rest = f.rest ++ more;
      port_is = ap (λ (q : Port). record q { outbox = q.outbox ++ more }) f.port_is
          ∙ ap (λ (l : List Stamped). record S { outbox = l }) (append_assoc S.outbox f.rest more);
      stands = f.stands;
      trunk_is = f.trunk_is;
      to_come = subst (λ fs. AreFramesOf fs (f.rest ++ more)) (sym (waiting_snoc (t, o.port.peer) o.entry o.effects es e f.place))
          (frames_append (waiting (t, o.port.peer) o.entry o.effects es) (sent_in (t, o.port.peer) e) f.rest more f.to_come
          (subst (λ x. AreFramesOf (sent_in (t, x) e) more) peer h));
      place = place_snoc o.entry o.effects es e f.place;
    }

-- ---- one entry more

module _ (grow : BooksGrow) (place : ℕ) (nodes : Nodes) (old new : History) (what : NodeEvent) (first : Option Item)
    (above : ℕ) (outlets : List Outlet)
    (below : place < length nodes) (s : HasBook place old outlets nodes)
    (e : Enters (at_node (names_of nodes) (model_of old.node) (met_by what first)) what above old new) where
  abbrev pub own : Name
  own = name_at nodes place

  abbrev pub now : Event
  now = event_at own what

  abbrev pub due : Outcome
  due = comes_to nodes place now first s.book

  abbrev pub sent : List (Way × List Item)
  sent = acting.sent_in due

  abbrev pub entry : Entry
  entry = record { stamp = new.last; event = what; answer = e.answer }

  pub due_is : at_node (names_of nodes) (model_of old.node) (met_by what first) ≡ due
  due_is =
      ap (λ (m : model.Node). at_node (names_of nodes) m (met_by what first)) (sym s.is.node)
      ∙ ap (λ n. at_node (names_of nodes) s.book.node n) (sym (meets_is own what first))

  pub ends : Ends due s.book.node (model_of new.node) e.answer
  ends =
      subst (λ o. Ends o s.book.node (model_of new.node) e.answer) due_is
      (subst
      (λ (m : model.Node). Ends (at_node (names_of nodes) (model_of old.node) (met_by what first)) m (model_of new.node) e.answer)
      (sym s.is.node) e.ends)

  pub more : (t : TrunkId) (peer : Name) → AreFramesOf (sent_in (t, peer) entry) (stamped new.last (on same_way (t, peer) sent))
  more t peer = sent_frames due s.book.node (model_of new.node) new.last (t, peer) e.answer ends

  abbrev pub next_node : model.Node
  next_node = next_of s.book.node due

  abbrev pub next : (TrunkId → Option Port) → Book
  next ports = record {
    node = next_node;
    last = new.last;
    history = s.book.history ++ record { stamp = new.last; event = now; answer = report_of due } ∷ [];
    ports = ports;
  }

  -- ---- with any ports that grow

  pub entered : (took : Option (Way × List Stamped)) (ports : TrunkId → Option Port) (outlets' : List Outlet) → IsMet now first
      → bare_took took ≡ taken_in now first due → TakesEarlier new.last took
      → ((t : TrunkId) → Leaves own sent took new.last t s.book.node next_node (meets now first) (s.book.ports t) (ports t))
      → ((t : TrunkId) (peer : Name) → Dials s.book.node (meets now first) t peer → Towards next_node t peer → IsTowards (ports t) peer)
      → ((t : TrunkId) → FeedsAt t (old.entries.items ++ entry ∷ []) (outlet_of t outlets') (ports t))
      → HasBook place new outlets' nodes
  entered took ports outlets' is_met takes earlier leaves opened feeds = record {
    book = next ports;
    is = record {
      node = sym (becomes due s.book.node (model_of new.node) e.answer ends);
      last = refl;
      entries = subst (λ es. TellEntries own es (next ports).history) (sym e.entries)
          (tell_snoc own old.entries.items s.book.history entry
          (record { stamp = new.last; event = now; answer = report_of due }) s.is.entries
          (record { stamp = refl; event = refl; answer = tells due s.book.node (model_of new.node) e.answer ends }));
      ports = λ t. subst (λ es. FeedsAt t es (outlet_of t outlets') (ports t)) (sym e.entries) (feeds t);
    };
    follows = grow nodes place now first s.book took new.last (next ports) below (event_named own what) is_met
        (subst CountsOwn (sym s.is.node) (counts_of old.node)) s.follows
        (record {
          takes = takes;
          earlier = earlier;
          rises = omega (arith, e.stamp, s.is.last);
          last = refl;
          node = refl;
          history = refl;
          ports = leaves;
          opened = opened;
        });
  }

  -- ---- what each port has for it, whose slot stays

  abbrev pub grown : TrunkId → Option Port → Option Port
  grown t None = None
  grown t (Some p) = Some (record p { outbox = p.outbox ++ stamped new.last (on same_way (t, p.peer) sent) })

  pub grown_towards : (t : TrunkId) (o : Option Port) (peer : Name) → IsTowards o peer → IsTowards (grown t o) peer
  grown_towards t None peer h = h
  grown_towards t (Some p) peer h = h

  pub leaves_grown : (t : TrunkId) (o : Option Port)
      → Leaves own sent None new.last t s.book.node next_node (meets now first) o (grown t o)
  leaves_grown t None = refl
  leaves_grown t (Some p) = record {
    peer = refl;
    out = sym (append_assoc p.put p.outbox (stamped new.last (on same_way (t, p.peer) sent)));
    taken = refl;
    slot = refl;
  }

  pub feeds_grown : (t : TrunkId) (o : Option Outlet) (p : Option Port) → FeedsAt t old.entries.items o p
      → FeedsAt t (old.entries.items ++ entry ∷ []) o (grown t p)
  feeds_grown t None None h = tt
  feeds_grown t None (Some p) h = absurd h
  feeds_grown t (Some o) None h = absurd h
  feeds_grown t (Some o) (Some p) h =
      feeds_more t old.entries.items entry o p (stamped new.last (on same_way (t, p.peer) sent)) h (more t p.peer)

  -- ---- an event at which nothing is taken and no port is opened

  pub entered_plainly : IsMet now first → taken_in now first due ≡ None
      → ((t : TrunkId) (peer : Name) → Dials s.book.node (meets now first) t peer → Towards next_node t peer
      → IsTowards (s.book.ports t) peer)
      → HasBook place new outlets nodes
  entered_plainly is_met none opened =
      entered None (λ t. grown t (s.book.ports t)) outlets is_met (sym none) tt (λ t. leaves_grown t (s.book.ports t))
      (λ t peer d h. grown_towards t (s.book.ports t) peer (opened t peer d h))
      (λ t. feeds_grown t (outlet_of t outlets) (s.book.ports t) (s.is.ports t))

  -- it is refused, so nothing is taken, and the sides are as they were
  pub entered_refused : IsMet now first → (why : _) → due ≡ Refuses why → HasBook place new outlets nodes
  entered_refused is_met why refuses =
      entered_plainly is_met (ap (λ o. taken_in now first o) refuses)
      (λ t peer d h.
      s.follows.ports.there t peer (subst (λ (m : model.Node). Towards m t peer) (ap (λ o. next_of s.book.node o) refuses) h))
