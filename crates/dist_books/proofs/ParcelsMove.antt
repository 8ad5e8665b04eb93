-- A book in which parcels have moved is kept, and so is a new one.
use Rattle.std.proofs.Common.{◌≡◌, ℕ, Bool, true, false, Option, None, Some, List, [], ◌++◌, inl}
use Rattle.std.proofs.Common.{inr, if◌then◌else◌, refl, sym, ap, ◌∙◌, subst, append_assoc, arith}
use Rattle.std.specs.FinMap as fm
use Rattle.dist_books.proofs.Numbers.{new_books_are_kept}
use Rattle.dist_books.specs.Acting.{Acts, Nodes, name_at, opened_at, same_way}
use Rattle.dist_books.specs.Books.{Book, IsPort, Port, Rise, Stamped, new_book, outbox_to, put_to, slot_of, taken_by}
use Rattle.dist_books.specs.Growing.{BooksRest, Follows, IsTowards, Moves, NewBooksFollow, Rests}
use Rattle.dist_model.specs.Dialing.{next_trunk}
use Rattle.dist_model.specs.Keeping.{CountsOwn, Towards}
use Rattle.dist_model.specs.Names.{Name, same_name}
use Rattle.dist_model.specs.Sides.{TrunkSide}
use Rattle.erl_names.specs.Order.{trunk_cmp}
use Rattle.erl_names.specs.declared.trunk.TrunkId.{TrunkId}
use Rattle.dist_books.specs.Logs.{took_on}

-- ---- parcels move

module _ (nodes : Nodes) (k : ℕ) (book next : Book) (f : Follows nodes k book) (r : Rests (name_at nodes k) book next) where
  abbrev here : Name
  here = name_at nodes k

  moved_towards : (trunk : TrunkId) (peer : Name) (old new : Option Port) → Moves here trunk old new → IsTowards old peer
      → IsTowards new peer
  moved_towards trunk peer None new m is = absurd is
  moved_towards trunk peer (Some old) None m is = m
  moved_towards trunk peer (Some old) (Some new) m is = m.peer ∙ is

  moved_dialed : (trunk : TrunkId) (port : Port) → trunk.dialer ≡ here → (old new : Option Port) → book.ports trunk ≡ old → new ≡ Some port
      → Moves here trunk old new → Towards book.node trunk port.peer
  moved_dialed trunk port by None None was is m = absurd (let no : None ≡ Some port = is in cc)
  moved_dialed trunk port by None (Some new) was is m = absurd (m.other by)
  moved_dialed trunk port by (Some old) None was is m = absurd m
  moved_dialed trunk port by (Some old) (Some new) was is m =
      let same : new ≡ port = cc in
      subst (λ p. Towards book.node trunk p) (sym m.peer ∙ ap (λ (p : Port). p.peer) same) (f.ports.dialed trunk old by was)

  by_peer : (old new : Port) (b c : Bool) → b ≡ c → new.put ++ new.outbox ≡ old.put ++ old.outbox
      → (if b then old.put else []) ++ (if b then old.outbox else []) ≡ (if c then new.put else []) ++ (if c then new.outbox else [])
  by_peer old new true true is same = sym same
  by_peer old new false false is same = refl
  by_peer old new true false is same = absurd (cc)
  by_peer old new false true is same = absurd (cc)

  fresh : (new : Port) (b : Bool) → new.put ++ new.outbox ≡ [] → [] ≡ (if b then new.put else []) ++ (if b then new.outbox else [])
  fresh new true none = sym none
  fresh new false none = refl

  moved_out : (trunk : TrunkId) (peer : Name) (old new : Option Port) → Moves here trunk old new
      → put_to peer old ++ outbox_to peer old ≡ put_to peer new ++ outbox_to peer new
  moved_out trunk peer None None m = refl
  moved_out trunk peer None (Some new) m = fresh new (same_name new.peer peer) m.out
  moved_out trunk peer (Some old) None m = absurd m
  moved_out trunk peer (Some old) (Some new) m =
      by_peer old new (same_name old.peer peer) (same_name new.peer peer) (ap (λ p. same_name p peer) (sym m.peer)) m.out

  moved_in : (trunk : TrunkId) (old new : Option Port) (taken : List Stamped) → Moves here trunk old new
      → taken_by old ≡ taken ++ slot_of old → taken_by new ≡ taken ++ slot_of new
  moved_in trunk None None taken m is = is
  moved_in trunk None (Some new) taken m is = m.taken ∙ is ∙ ap (λ l. taken ++ l) (sym m.slot)
  moved_in trunk (Some old) None taken m is = absurd m
  moved_in trunk (Some old) (Some new) taken m is =
      m.taken ∙ ap (λ l. l ++ m.more) is ∙ append_assoc taken old.slot m.more ∙ ap (λ l. taken ++ l) (sym m.slot)

  moved_port : (trunk : TrunkId) (old new : Option Port) → Moves here trunk old new
      → IsPort here trunk old (took_on same_way (trunk, here) f.log)
      → IsPort here trunk new (took_on same_way (trunk, here) f.log)
  moved_port trunk None None m is = tt
  moved_port trunk None (Some new) m is = inr (m.other, m.peer, λ none. m.out)
  moved_port trunk (Some old) None m is = absurd m
  moved_port trunk (Some old) (Some new) m is = elim is [
    | inl d ↦ inl (d.0, λ h. d.1 (sym m.peer ∙ h))
    | inr d ↦ inr (d.0, m.peer ∙ d.1, λ none. m.out ∙ d.2 none)
  ]

  towards : (trunk : TrunkId) (peer : Name) → Towards next.node trunk peer → Towards book.node trunk peer
  towards trunk peer t = subst (λ n. Towards n trunk peer) r.node t

  rested : Follows nodes k next
  rested = record {
    log = f.log;
    replays = record {
      history = r.history ∙ f.replays.history;
      leads = subst (λ n. Rattle.dist_books.specs.Logs.Leads (Acts nodes) k (opened_at nodes k) f.log n) (sym r.node) f.replays.leads;
      rise = subst (λ h. Rise 0 h next.last) (sym r.history) (subst (λ n. Rise 0 book.history n) (sym r.last) f.replays.rise);
      earlier = f.replays.earlier;
      out = λ trunk peer. f.replays.out trunk peer ∙ moved_out trunk peer (book.ports trunk) (next.ports trunk) (r.ports trunk);
      into = λ trunk. moved_in trunk (book.ports trunk) (next.ports trunk) (took_on same_way (trunk, here) f.log)
          (r.ports trunk) (f.replays.into trunk);
      port = λ trunk. moved_port trunk (book.ports trunk) (next.ports trunk) (r.ports trunk) (f.replays.port trunk);
    };
    ports = record {
      name = ap (λ n. n.mint.name) r.node ∙ f.ports.name;
      there = λ trunk peer t.
          moved_towards trunk peer (book.ports trunk) (next.ports trunk) (r.ports trunk) (f.ports.there trunk peer (towards trunk peer t));
      heard = λ trunk peer t. f.ports.heard trunk peer (towards trunk peer t);
      dialed = λ trunk port by is. subst (λ n. Towards n trunk port.peer) (sym r.node)
          (moved_dialed trunk port by (book.ports trunk) (next.ports trunk) refl is (r.ports trunk));
    };
  }

pub books_rest : BooksRest
books_rest nodes k book next f r = rested nodes k book next f r

-- ---- a new book

pub new_books_follow : NewBooksFollow
new_books_follow nodes k = record {
  log = (new_books_are_kept nodes k).0;
  replays = (new_books_are_kept nodes k).1;
  ports = record {
    name = refl;
    there = λ trunk peer t. absurd (no_side trunk t.side t.there);
    heard = λ trunk peer t others none. no_side trunk t.side t.there;
    dialed = λ trunk port by is. absurd (let no : ◌≡◌ {A = Option Port} None (Some port) = is in cc);
  };
}
  where
    no_side : (trunk : TrunkId) (side : TrunkSide) → fm.get (new_book (opened_at nodes k)).node.sides trunk ≡ Some side → ⊥
    no_side trunk side h = let no : ◌≡◌ {A = Option TrunkSide} None (Some side) = sym (fm.get-empty trunk_cmp trunk) ∙ h in cc

-- what the node dials next has no port yet
pub next_is_new : (nodes : Nodes) (k : ℕ) (book : Book) → Follows nodes k book → CountsOwn book.node
    → book.ports (next_trunk book.node) ≡ None
next_is_new nodes k book f counts = go (book.ports (next_trunk book.node)) refl
  where
    go : (o : Option Port) → book.ports (next_trunk book.node) ≡ o → book.ports (next_trunk book.node) ≡ None
    go None is = is
    go (Some port) is =
        let t = f.ports.dialed (next_trunk book.node) port f.ports.name is in
        let most = counts (next_trunk book.node) t.side t.there refl in
        absurd (omega (arith, most))
