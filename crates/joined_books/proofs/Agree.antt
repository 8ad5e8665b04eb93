-- Where what each book took begins what was put to it, the wires of the model's books agree.
use Rattle.std.proofs.Common.{◌≡◌, ℕ, suc, ◌<◌, Bool, true, false, Option, Some, None, List, [], ◌∷◌}
use Rattle.std.proofs.Common.{get_or, inl, inr, if◌then◌else◌, length, refl, sym, ap, ◌∙◌, subst, arith}
use Rattle.std.proofs.lemmas.Option.{same_Some}
use Rattle.std.specs.List.{All}
use Rattle.std.specs.Ordering.{eq_by_cmp}
use Rattle.dist_books.proofs.Numbers.{in_or_out}
use Rattle.dist_books.specs.Acting.{Nodes, name_at}
use Rattle.dist_books.specs.Books as model
use Rattle.dist_books.specs.Books.{Book, Port, Stamped, WiresAgree, book_at, no_book, number_of}
use Rattle.dist_books.specs.Growing.{Follows}
use Rattle.dist_model.specs.Names.{Name, same_name}
use Rattle.erl_names.specs.Order.{trunk_cmp}
use Rattle.erl_names.specs.declared.trunk.TrunkId.{TrunkId}
use Rattle.joined_books.proofs.Carried.{BytesTell, carried, carry_one, items_begin}
use Rattle.joined_books.proofs.NodeNames.{some_of}
use Rattle.joined_books.proofs.Zipped.{Chosen, part_beyond, part_of, past}
use Rattle.joined_books.specs.Parts.{part_at}
use Rattle.joined_books.specs.Parcels.{Begins, said}
use Rattle.joined_books.specs.Wires.{AreWhole, IsWhole, outlets_named, own, put_to}
use Rattle.node_lock.specs.Seen.{BookSeen}
use Rattle.node_lock.specs.Standing.{Feeds, FeedsAt, IsBookOf, outlet_of}
use Rattle.node_lock.specs.declared.outlet.Outlet.{Outlet}
use Rattle.node_history.specs.declared.entry.Entry.{Entry}
use Rattle.wire_core.specs.Standing.{Carries, CarryAll}
use Rattle.wire_core.specs.declared.parcel.Parcel.{Parcel}

-- the model's book of a book
pub record IsModelOf (nodes : Nodes) (k : ℕ) (book : BookSeen) (of : Book) : Type 0 where
  pub is : IsBookOf (name_at nodes k) book.history book.outlets of
  pub follows : Follows nodes k of

abbrev pub outlets_at : List BookSeen → ℕ → List Outlet
outlets_at books k = part_at (λ book. book.outlets) books k

-- ---- the book of a name

by_name : (c : Bool) (mine : List Outlet) (rest : List BookSeen) (book : BookSeen) (n : ℕ) → mine ≡ book.outlets
    → (if c then mine else outlets_at rest n) ≡ outlets_at (book ∷ rest) (if c then 0 else suc n)
by_name true mine rest book n e = e
by_name false mine rest book n e = refl

pub named_at : (nodes : Nodes) (books : List BookSeen) (name : Name) → length nodes ≡ length books
    → ((k : ℕ) (d : BookSeen) → k < length books → own (get_or books k d) ≡ name_at nodes k)
    → outlets_named books name ≡ outlets_at books (number_of nodes name)
named_at [] [] name e owns = refl
named_at [] (book ∷ books) name e owns = absurd (omega arith)
named_at (node ∷ nodes) [] name e owns = absurd (omega arith)
named_at (node ∷ nodes) (book ∷ books) name e owns =
    let first : own book ≡ node.0 = owns 0 book (omega arith) in
    let rest = named_at nodes books name (omega arith) (λ k d below. owns (suc k) d (omega arith)) in
    ap (λ n. if same_name n name then book.outlets else outlets_named books name) first
    ∙ ap (λ l. if same_name node.0 name then book.outlets else l) rest
    ∙ by_name (same_name node.0 name) book.outlets books book (number_of nodes name) refl

-- ---- one end

record Fed (trunk : TrunkId) (entries : List Entry) (outlet : Option Outlet) (port : Port) : Type 0 where
  end : Outlet
  is : outlet ≡ Some end
  feeds : Feeds trunk entries end port

fed : (trunk : TrunkId) (entries : List Entry) (outlet : Option Outlet) (there : Option Port) (port : Port)
    → FeedsAt trunk entries outlet there → there ≡ Some port
    → Fed trunk entries outlet port
fed trunk entries None None port h e = absurd (cc)
fed trunk entries None (Some p) port h e = absurd h
fed trunk entries (Some o) None port h e = absurd h
fed trunk entries (Some o) (Some p) port h e =
    let same : p ≡ port = same_Some p port e in record { end = o; is = refl; feeds = subst (λ q. Feeds trunk entries o q) same h }

port_peer : (trunk : TrunkId) (entries : List Entry) (outlet : Outlet) (port : Port) → Feeds trunk entries outlet port
    → port.peer ≡ outlet.port.peer
port_peer trunk entries outlet port h = ap (λ (p : Port). p.peer) h.port_is ∙ h.stands.peer

port_taken : (trunk : TrunkId) (entries : List Entry) (outlet : Outlet) (port : Port) → Feeds trunk entries outlet port
    → CarryAll outlet.port.taken port.taken
port_taken trunk entries outlet port h = subst (λ (p : Port). CarryAll outlet.port.taken p.taken) (sym h.port_is) h.stands.taken

port_put : (trunk : TrunkId) (entries : List Entry) (outlet : Outlet) (port : Port) → Feeds trunk entries outlet port
    → CarryAll outlet.port.put port.put
port_put trunk entries outlet port h = subst (λ (p : Port). CarryAll outlet.port.put p.put) (sym h.port_is) h.stands.put

by_peer : (c : Bool) (parcels : List Parcel) (items : List Stamped) → CarryAll parcels items
    → CarryAll (if c then parcels else []) (if c then items else [])
by_peer true parcels items h = h
by_peer false parcels items h = tt

put_carried : (trunk : TrunkId) (entries : List Entry) (name : Name) (outlet : Option Outlet) (port : Option Port)
    → FeedsAt trunk entries outlet port
    → CarryAll (put_to name outlet) (model.put_to name port)
put_carried trunk entries name None None h = tt
put_carried trunk entries name None (Some p) h = absurd h
put_carried trunk entries name (Some o) None h = absurd h
put_carried trunk entries name (Some o) (Some p) h =
    let P : Name → Type 0 = λ peer. CarryAll (if same_name o.port.peer name then o.port.put else [])
    (if same_name peer name then p.put else []) in
    subst P (sym (port_peer trunk entries o p h)) (by_peer (same_name o.port.peer name) o.port.put p.put (port_put trunk entries o p h))

-- the outlet of a connection is one of them
outlet_there : (trunk : TrunkId) (P : Outlet → Type 0) (outlets : List Outlet) (outlet : Outlet) → All P outlets
    → outlet_of trunk outlets ≡ Some outlet → P outlet
outlet_there trunk P [] outlet all e = absurd (let no : ◌≡◌ {A = Option Outlet} None (Some outlet) = e in cc)
outlet_there trunk P (o ∷ os) outlet all e =
    by_test (eq_by_cmp trunk_cmp trunk o.port.trunk) (outlet_there trunk P os outlet (λ k d below. all (suc k) d (omega arith))) e
  where
    by_test : (c : Bool) → (outlet_of trunk os ≡ Some outlet → P outlet) → (if c then Some o else outlet_of trunk os) ≡ Some outlet
        → P outlet
    by_test true later e = subst P (same_Some o outlet e) (all 0 o (omega arith))
    by_test false later e = later e

-- ---- all wires

module _ (nodes : Nodes) (books : List BookSeen) (models : Chosen (IsModelOf nodes) books) (one_each : length nodes ≡ length books)
    (owns : (k : ℕ) (d : BookSeen) → k < length books → own (get_or books k d) ≡ name_at nodes k) where
  -- what is at a number, of books and of the model's
  put_at : (name : Name) (trunk : TrunkId) (j : ℕ)
      → CarryAll (put_to name (outlet_of trunk (outlets_at books j))) (model.put_to name ((book_at models.ys j).ports trunk))
  put_at name trunk j = elim (in_or_out j (length books)) [
    | inl within ↦ (
        let d = some_of books j within in
        let m = models.each j d no_book within in
        let same : outlets_at books j ≡ (get_or books j d).outlets = part_of (λ (b : BookSeen). b.outlets) books j d [] within in
        let P : List Outlet → Type 0 = λ l. CarryAll (put_to name (outlet_of trunk l))
        (model.put_to name ((book_at models.ys j).ports trunk)) in
        subst P (sym same) (put_carried trunk (get_or books j d).history.entries.items name (outlet_of trunk (get_or books j d).outlets)
        ((book_at models.ys j).ports trunk) (m.is.ports trunk)))
    | inr beyond ↦ (
        let none : outlets_at books j ≡ [] = part_beyond (λ (b : BookSeen). b.outlets) books j [] (omega arith) in
        let nobody : book_at models.ys j ≡ no_book = past models.ys j no_book (let l = models.lens in omega arith) in
        let P : List Outlet → Type 0 = λ l. CarryAll (put_to name (outlet_of trunk l))
        (model.put_to name ((book_at models.ys j).ports trunk)) in
        let Q : Book → Type 0 = λ b. CarryAll [] (model.put_to name (b.ports trunk)) in
        subst P (sym none) (subst Q (sym nobody) tt))
  ]

  pub agree : BytesTell → AreWhole books → WiresAgree nodes models.ys
  agree tell whole k trunk port within is =
      let here : k < length books = omega arith in
      let d = some_of books k here in
      let book = get_or books k d in
      let m = models.each k d no_book here in
      let end = fed trunk book.history.entries.items (outlet_of trunk book.outlets) ((book_at models.ys k).ports trunk) port
      (m.is.ports trunk) is in
      let outlet = end.end in
      let peer = port_peer trunk book.history.entries.items outlet port end.feeds in
      let begins : IsWhole books (own book) outlet =
      outlet_there trunk (IsWhole books (own book)) book.outlets outlet (whole k d here) end.is in
      let P : Name → Type 0 = λ n. Begins outlet.port.taken
      (put_to n (outlet_of outlet.port.trunk (outlets_named books outlet.port.peer))) in
      let Q : TrunkId → Type 0 = λ t. Begins outlet.port.taken
      (put_to (name_at nodes k) (outlet_of t (outlets_named books outlet.port.peer))) in
      let R : List Outlet → Type 0 = λ l. Begins outlet.port.taken (put_to (name_at nodes k) (outlet_of trunk l)) in
      let S : Name → Type 0 = λ n. Begins outlet.port.taken
      (put_to (name_at nodes k) (outlet_of trunk (outlets_at books (number_of nodes n)))) in
      let all : Begins outlet.port.taken (put_to (name_at nodes k) (outlet_of trunk (outlets_at books (number_of nodes port.peer)))) =
      subst S (sym peer) (subst R (named_at nodes books outlet.port.peer one_each owns)
      (subst Q end.feeds.trunk_is (subst P (owns k d here) begins))) in
      let put = put_to (name_at nodes k) (outlet_of trunk (outlets_at books (number_of nodes port.peer))) in
      items_begin said Carries (carry_one tell) outlet.port.taken put port.taken
      (model.put_to (name_at nodes k) (model.port_of nodes models.ys port.peer trunk))
      (carried outlet.port.taken port.taken (port_taken trunk book.history.entries.items outlet port end.feeds))
      (carried put (model.put_to (name_at nodes k) (model.port_of nodes models.ys port.peer trunk))
      (put_at (name_at nodes k) trunk (number_of nodes port.peer)))
      all
