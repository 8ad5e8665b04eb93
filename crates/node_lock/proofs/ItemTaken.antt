-- An item has come that was taken off the wire: the entry of its event, and the slot without it.
use Rattle.std.proofs.Common.{◌≡◌, ℕ, ◌<◌, All, Bool, true, false, cond, Option, None, Some, List, [], ◌∷◌, ◌++◌}
use Rattle.std.proofs.Common.{if◌then◌else◌, get_or, length, set, ◌&&◌, refl, sym, ap, ◌∙◌, subst, append_assoc, arith}
use Rattle.dist_books.proofs.Steps.{same_way_self}
use Rattle.dist_books.specs.Acting as acting
use Rattle.dist_books.specs.Acting.{Nodes, Way, meets, name_at, names_of, same_way, taken_in}
use Rattle.dist_books.specs.Books.{Port, Stamped}
use Rattle.dist_books.specs.Growing.{BooksGrow, Leaves}
use Rattle.dist_model.proofs.Keys.{same_place, same_trunk, same_trunk_true}
use Rattle.dist_model.specs.Commands.{Accepts, Outcome}
use Rattle.dist_model.specs.Items.{Item}
use Rattle.dist_model.specs.Names.{Name, same_name}
use Rattle.dist_model.specs.NodeEvents as met
use Rattle.dist_model.specs.NodeEvents.{at_node}
use Rattle.dist_model.specs.Work.{Work}
use Rattle.dist_model.specs.declared.report.Answer.{Answer}
use Rattle.erl_names.specs.declared.trunk.TrunkId.{TrunkId}
use Rattle.dist_books.specs.Logs.{off, on, stamped}
use Rattle.node_core.specs.Model.{model_of}
use Rattle.node_history.specs.Entering.{Enters}
use Rattle.node_history.specs.declared.entry.Entry.{Entry}
use Rattle.node_history.specs.declared.history.History.{History}
use Rattle.node_lock.proofs.OneEntryMore as one_more
use Rattle.node_lock.proofs.OneEntryMore.{entered, feeds_grown}
use Rattle.node_lock.proofs.Places.{IsFirst, outlet_set}
use Rattle.node_lock.specs.Applying.{without_next}
use Rattle.node_lock.specs.Standing.{Feeds, FeedsAt, HasBook, outlet_of}
use Rattle.node_lock.specs.declared.outlet.Outlet.{Outlet}
use Rattle.wire_core.specs.Ports.{behind_first}
use Rattle.wire_core.specs.Standing.{Carries, CarryAll}
use Rattle.wire_core.specs.declared.parcel.Parcel.{Parcel}
use Rattle.node_core.specs.NodeEvents.{met as met_by}
use Rattle.node_core.specs.declared.node_event.NodeEvent.TheVariants as event

abbrev pub behind : List Stamped → List Stamped
behind [] = []
behind (x ∷ xs) = xs

abbrev pub emptied : Option Port → Option Port
emptied None = None
emptied (Some p) = Some (record p { slot = behind p.slot })

-- ---- what is in the slot

pub record Waits (t : TrunkId) (es : List Entry) (o : Outlet) (q : Option Port) (parcel : Parcel) : Type 0 where
  pub port : Port
  pub is : q ≡ Some port
  pub feeds : Feeds t es o port
  pub x : Stamped
  pub xs : List Stamped
  pub slot : port.slot ≡ x ∷ xs
  pub carries : Carries parcel x

carried : (parcel : Parcel) (rest : List Parcel) (slot : List Stamped) → CarryAll (parcel ∷ rest) slot
    → (x : Stamped) × (xs : List Stamped) × (slot ≡ x ∷ xs) × Carries parcel x
carried parcel rest [] h = absurd h
carried parcel rest (x ∷ xs) h = (x, xs, refl, h.0)

pub waits : (t : TrunkId) (es : List Entry) (o : Outlet) (q : Option Port) (parcel : Parcel) (rest : List Parcel) → FeedsAt t es (Some o) q
    → o.port.slot ≡ parcel ∷ rest → Waits t es o q parcel
waits t es o None parcel rest f h = absurd f
waits t es o (Some p) parcel rest f h =
    let c = carried parcel rest f.staged.slot (subst (λ s. CarryAll s f.staged.slot) h f.stands.slot) in
    record { port = p; is = refl; feeds = f; x = c.0; xs = c.1; slot = ap (λ (q : Port). q.slot) f.port_is ∙ c.2; carries = c.3 }

carry_behind : (parcels : List Parcel) (items : List Stamped) → CarryAll parcels items → CarryAll (behind_first parcels) (behind items)
carry_behind [] [] h = tt
carry_behind [] (x ∷ xs) h = absurd h
carry_behind (p ∷ ps) [] h = absurd h
carry_behind (p ∷ ps) (x ∷ xs) h = h.1

feeds_taken : (t : TrunkId) (es : List Entry) (o : Outlet) (p : Port) → Feeds t es o p
    → Feeds t es (without_next o) (record p { slot = behind p.slot })
feeds_taken t es o p f = record {
  staged = record (f.staged) { slot = behind f.staged.slot };
  rest = f.rest;
  port_is = ap (λ (q : Port). record q { slot = behind q.slot }) f.port_is;
  stands = record {
    peer = f.stands.peer;
    put = f.stands.put;
    outbox = f.stands.outbox;
    taken = f.stands.taken;
    slot = carry_behind o.port.slot f.staged.slot f.stands.slot;
  };
  trunk_is = f.trunk_is;
  to_come = f.to_come;
  place = f.place;
}

one : (P : Stamped → Type 0) (x : Stamped) → P x → All P (x ∷ [])
one P x h k d lt = let z : 0 ≡ k = omega arith in subst (λ n. P (get_or (x ∷ []) n d)) z h

pub some_not_none : (item : Item) → ◌≡◌ {A = Option Item} (Some item) None → ⊥
some_not_none item h = cc

arrival_no_dial : (trunk : TrunkId) (first : Option Item) (word : ℕ) (peer : Name)
    → ((w : ℕ) × (met.Arrive trunk first word ≡ met.Dial peer w)) → ⊥
arrival_no_dial trunk first word peer h = let no : met.Arrive trunk first word ≡ met.Dial peer h.0 = h.1 in cc

module _ (grow : BooksGrow) (place : ℕ) (nodes : Nodes) (old new : History) (trunk : TrunkId) (word : ℕ) (x : Stamped)
    (outlets : List Outlet)
    (below : place < length nodes) (s : HasBook place old outlets nodes)
    (e : Enters (at_node (names_of nodes) (model_of old.node) (met_by (event.Arrive trunk word) (Some x.1)))
    (event.Arrive trunk word) x.0 old new) where
  abbrev own : Name
  own = name_at nodes place

  abbrev due : Outcome
  due = one_more.due grow place nodes old new (event.Arrive trunk word) (Some x.1) x.0 outlets below s e

  abbrev took : Option (Way × List Stamped)
  took = Some ((trunk, own), x ∷ [])

  abbrev grown : TrunkId → Option Port → Option Port
  grown = one_more.grown grow place nodes old new (event.Arrive trunk word) (Some x.1) x.0 outlets below s e

  abbrev entry : Entry
  entry = one_more.entry grow place nodes old new (event.Arrive trunk word) (Some x.1) x.0 outlets below s e

  abbrev es : List Entry
  es = old.entries.items ++ entry ∷ []

  module _ (said : Answer) (work : Work) (accepted : due ≡ Accepts said work) (k : ℕ) (o : Outlet) (first : IsFirst trunk k outlets)
      (there : outlet_of trunk outlets ≡ Some o) (trunk_is : o.port.trunk ≡ trunk) (p : Port) (port_is : s.book.ports trunk ≡ Some p)
      (feeds : Feeds trunk old.entries.items o p) (xs : List Stamped) (slot : p.slot ≡ x ∷ xs) where
    abbrev ports : TrunkId → Option Port
    ports t = cond (same_trunk t trunk) (emptied (grown t (s.book.ports t))) (grown t (s.book.ports t))

    abbrev LeavesAt : TrunkId → Option Port → Option Port → Type 0
    LeavesAt t =
        Leaves own (acting.sent_in due) took new.last t s.book.node
        (one_more.next_node grow place nodes old new (event.Arrive trunk word) (Some x.1) x.0 outlets below s e)
        (meets (one_more.now grow place nodes old new (event.Arrive trunk word) (Some x.1) x.0 outlets below s e) (Some x.1))

    off_here : off same_way (trunk, own) took ≡ x ∷ []
    off_here = ap (λ b. if b then x ∷ [] else []) (same_way_self (trunk, own))

    off_there : (t : TrunkId) → same_trunk t trunk ≡ false → off same_way (t, own) took ≡ []
    off_there t is = ap (λ b. if b then x ∷ [] else []) (same_place t trunk own own ∙ ap (λ b. b && same_name own own) is)

    leaves_here : LeavesAt trunk (Some p) (emptied (grown trunk (Some p)))
    leaves_here = record {
      peer = refl;
      out = sym (append_assoc p.put p.outbox (stamped new.last (on same_way (trunk, p.peer) (acting.sent_in due))));
      taken = refl;
      slot = slot ∙ ap (λ l. l ++ xs) (sym off_here) ∙ ap (λ l. off same_way (trunk, own) took ++ behind l) (sym slot);
    }

    leaves_there : (t : TrunkId) (q : Option Port) → same_trunk t trunk ≡ false → LeavesAt t q (grown t q)
    leaves_there t None is = off_there t is
    leaves_there t (Some q) is = record {
      peer = refl;
      out = sym (append_assoc q.put q.outbox (stamped new.last (on same_way (t, q.peer) (acting.sent_in due))));
      taken = refl;
      slot = ap (λ l. l ++ q.slot) (sym (off_there t is));
    }

    leaves : (t : TrunkId) (b : Bool) → same_trunk t trunk ≡ b
        → LeavesAt t (s.book.ports t) (cond b (emptied (grown t (s.book.ports t))) (grown t (s.book.ports t)))
    leaves t true is =
        subst (λ u. LeavesAt u (s.book.ports u) (emptied (grown u (s.book.ports u)))) (sym (same_trunk_true t trunk is))
        (subst (λ q. LeavesAt trunk q (emptied (grown trunk q))) (sym port_is) leaves_here)
    leaves t false is = leaves_there t (s.book.ports t) is

    fed_here : FeedsAt trunk es (Some (without_next o)) (emptied (grown trunk (Some p)))
    fed_here =
        feeds_taken trunk es o (record p { outbox = p.outbox ++ stamped new.last (on same_way (trunk, p.peer) (acting.sent_in due)) })
        (feeds_grown grow place nodes old new (event.Arrive trunk word) (Some x.1) x.0 outlets below s e trunk (Some o) (Some p) feeds)

    fed : (t : TrunkId) (b : Bool) → same_trunk t trunk ≡ b
        → FeedsAt t es (cond b (Some (without_next o)) (outlet_of t outlets))
        (cond b (emptied (grown t (s.book.ports t))) (grown t (s.book.ports t)))
    fed t true is =
        subst (λ u. FeedsAt u es (Some (without_next o)) (emptied (grown u (s.book.ports u)))) (sym (same_trunk_true t trunk is))
        (subst (λ q. FeedsAt trunk es (Some (without_next o)) (emptied (grown trunk q))) (sym port_is) fed_here)
    fed t false is =
        feeds_grown grow place nodes old new (event.Arrive trunk word) (Some x.1) x.0 outlets below s e t
        (outlet_of t outlets) (s.book.ports t) (s.is.ports t)

    pub entered_taking : HasBook place new (set outlets k (without_next o)) nodes
    entered_taking =
        entered grow place nodes old new (event.Arrive trunk word) (Some x.1) x.0 outlets below s e took ports
        (set outlets k (without_next o))
        (λ h. some_not_none x.1 h)
        (sym (ap
        (λ d. taken_in (one_more.now grow place nodes old new (event.Arrive trunk word) (Some x.1) x.0 outlets below s e) (Some x.1) d)
        accepted))
        (one (λ y. y.0 < new.last) x (omega (arith, e.stamp)))
        (λ t. leaves t (same_trunk t trunk) refl)
        (λ t peer d h. absurd (arrival_no_dial trunk (Some x.1) word peer d.0))
        (λ t. subst (λ q. FeedsAt t es q (ports t)) (sym (outlet_set t trunk k outlets (without_next o) first trunk_is))
        (fed t (same_trunk t trunk) refl))
