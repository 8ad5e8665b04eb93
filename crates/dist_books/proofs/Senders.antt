-- Who sends and who takes on a way, by the logs of the books.
use Rattle.std.proofs.Common.{◌≡◌, ◌≢◌, ℕ, ◌<◌, Bool, true, false, Option, None, Some, List, []}
use Rattle.std.proofs.Common.{◌∷◌, ◌++◌, inl, inr, if◌then◌else◌, length, refl, sym, ap, ◌∙◌, subst}
use Rattle.dist_books.proofs.Numbers.{book_beyond, in_or_out, number_there}
use Rattle.dist_books.proofs.Steps.{same_way_is}
use Rattle.dist_books.specs.Acting.{Acts, Nodes, Way, name_at, same_way, takes}
use Rattle.dist_books.specs.Books.{Book, IsPort, Log, Port, Replays, Stamped, book_at, number_of}
use Rattle.dist_books.specs.Books.{outbox_to, peer_in, port_of, put_to, sender, slot_of, taken_by}
use Rattle.dist_books.specs.Merged.{AreBooks}
use Rattle.dist_model.proofs.Keys.{same_name_is, same_name_true}
use Rattle.dist_model.specs.Items.{Item}
use Rattle.dist_model.specs.Names.{Name, same_name}
use Rattle.dist_model.specs.Node.{Node}
use Rattle.dist_model.specs.World.{Arrive, Event, Report, node_name}
use Rattle.erl_names.specs.declared.trunk.TrunkId.{TrunkId}
use Rattle.dist_books.specs.Logs.{Leads, Line, bare, bare_took, off, took_on}

pub no_front : (xs ys : List Stamped) → xs ++ ys ≡ [] → xs ≡ []
no_front [] ys h = refl
no_front (x ∷ xs) ys h = absurd (cc)

-- ---- who takes: the node that the way leads to

-- an event takes off a way to its own node
takes_own : (event : Event) (first : Option Item) (way : Way) (items : List Item) → Some (way, items) ≡ takes event first
    → way.1 ≡ node_name event
takes_own (Arrive trunk name word) None way items is = absurd (cc)
takes_own (Arrive trunk name word) (Some item) way items is =
    let same : ◌≡◌ {A = Way × List Item} (way, items) ((trunk, name), item ∷ []) = cc in ap (λ (taken : Way × List Item). taken.0.1) same
takes_own event first way items is = absurd (cc)

module _ (nodes : Nodes) (k : ℕ) (c : Way) (elsewhere : k < length nodes → c.1 ≢ name_at nodes k) where
  none_off : (node next : Node) (line : Line Event Report Way Item) (took : Option (Way × List Stamped)) → line.took ≡ took
      → Acts nodes k node line.entry.event (bare_took took) line.entry.answer next line.sent → off same_way c took ≡ []
  none_off node next line None is acts = refl
  none_off node next line (Some taken) is acts = elim acts.2 [
    | inl r ↦ absurd (let no : Some (taken.0, bare taken.1) ≡ None = r.nothing_taken in cc)
    | inr a ↦ (
        let own : taken.0.1 ≡ name_at nodes k = takes_own line.entry.event a.first taken.0 (bare taken.1) a.taken ∙ acts.1 in
        other own (same_way c taken.0) refl)
  ]
    where
      other : taken.0.1 ≡ name_at nodes k → (b : Bool) → same_way c taken.0 ≡ b → (if b then taken.1 else []) ≡ []
      other own true same = absurd (elsewhere acts.0 (ap (λ way. way.1) (same_way_is c taken.0 same) ∙ own))
      other own false same = refl

  pub took_elsewhere : (from to : Node) (log : Log) → Leads (Acts nodes) k from log to → took_on same_way c log ≡ []
  took_elsewhere from to [] leads = refl
  took_elsewhere from to (line ∷ log) leads =
      ap (λ l. l ++ took_on same_way c log) (none_off from leads.0 line line.took refl leads.1) ∙ took_elsewhere leads.0 to log leads.2

-- ---- who sends

-- what a port sends to y, by whether y is its peer
port_sends : (port : Port) (y : Name) (b : Bool) → same_name port.peer y ≡ b → (port.peer ≡ y → port.put ++ port.outbox ≡ [])
    → (if b then port.put else []) ++ (if b then port.outbox else []) ≡ []
port_sends port y true is none = none (same_name_true port.peer y is)
port_sends port y false is none = refl

module _ (nodes : Nodes) (books : List Book) (are : AreBooks nodes books) where
  -- what one that isn't the peer has put to this node is nothing
  not_put : (k : ℕ) (o : Option Port) → k < length nodes → k ≢ peer_in nodes books o → put_to (name_at nodes k) o ≡ []
  not_put k None below apart = refl
  not_put k (Some port) below apart = pick (same_name port.peer (name_at nodes k)) refl
    where
      pick : (b : Bool) → same_name port.peer (name_at nodes k) ≡ b → (if b then port.put else []) ≡ []
      pick true is = absurd (apart
          (sym (ap (λ name. number_of nodes name) (same_name_true port.peer (name_at nodes k) is)
          ∙ number_there nodes are.distinct k below)))
      pick false is = refl

  module _ (t : TrunkId) (y : Name) (k : ℕ) (log : Log) (replays : Replays nodes k (book_at books k) log) (below : k < length nodes) where
    abbrev own : Name
    own = name_at nodes k

    -- a port of a node that isn't the sender sends nothing to y
    sends_none : (port : Port) → (book_at books k).ports t ≡ Some port → (b : Bool) → same_name t.dialer y ≡ b
        → k ≢ (if b then peer_in nodes books (port_of nodes books y t) else number_of nodes t.dialer) → port.peer ≡ y
        → IsPort own t (Some port) (took_on same_way (t, own) log) → port.put ++ port.outbox ≡ []
    sends_none port at false dials apart to is = elim is [
      | inl d ↦ absurd (apart (sym (ap (λ name. number_of nodes name) d.0 ∙ number_there nodes are.distinct k below)))
      | inr d ↦ absurd (let no : true ≡ false = sym (same_name_is t.dialer y (sym d.1 ∙ to)) ∙ dials in cc)
    ]
    sends_none port at true dials apart to is = elim is [
      | inl d ↦ absurd (d.1 (to ∙ sym (same_name_true t.dialer y dials) ∙ d.0))
      | inr d ↦ d.2 (no_front (took_on same_way (t, own) log) (slot_of ((book_at books k).ports t))
          (sym (replays.into t) ∙ ap taken_by at ∙ nothing_taken))
    ]
      where
        nothing_taken : port.taken ≡ []
        nothing_taken =
            let agree = subst (λ name. (rest : List Stamped) × (put_to own (port_of nodes books name t) ≡ port.taken ++ rest)) to
            (are.agree k t port below at) in
            no_front port.taken agree.0 (sym agree.1 ∙ not_put k (port_of nodes books y t) below apart)

    sent_none : (o : Option Port) → (book_at books k).ports t ≡ o → k ≢ sender nodes books (t, y)
        → IsPort own t o (took_on same_way (t, own) log)
        → put_to y o ++ outbox_to y o ≡ []
    sent_none None at apart is = refl
    sent_none (Some port) at apart is =
        port_sends port y (same_name port.peer y) refl (λ to. sends_none port at (same_name t.dialer y) refl apart to is)

  pub none_sent : (t : TrunkId) (y : Name) (k : ℕ) (log : Log) → Replays nodes k (book_at books k) log → k ≢ sender nodes books (t, y)
      → put_to y ((book_at books k).ports t) ++ outbox_to y ((book_at books k).ports t) ≡ []
  none_sent t y k log replays apart = elim (in_or_out k (length nodes)) [
    | inl h ↦ sent_none t y k log replays h ((book_at books k).ports t) refl apart (replays.port t)
    | inr h ↦ ap (λ book. put_to y (book.ports t) ++ outbox_to y (book.ports t)) (book_beyond nodes books are.one_each k h)
  ]

  -- the peer of a port is who sends on its way in
  pub peer_sends : (t : TrunkId) (y : Name) (port : Port) (log : Log) → number_of nodes y < length nodes
      → name_at nodes (number_of nodes y) ≡ y
      → port_of nodes books y t ≡ Some port → Replays nodes (number_of nodes y) (book_at books (number_of nodes y)) log
      → sender nodes books (t, y) ≡ number_of nodes port.peer
  peer_sends t y port log below named at replays = by_dialer (same_name t.dialer y) refl
    where
      by_dialer : (b : Bool) → same_name t.dialer y ≡ b
          → (if b then peer_in nodes books (port_of nodes books y t) else number_of nodes t.dialer) ≡ number_of nodes port.peer
      by_dialer true is = ap (λ o. peer_in nodes books o) at
      by_dialer false is =
          let own = name_at nodes (number_of nodes y) in
          elim (subst (λ o. IsPort own t o (took_on same_way (t, own) log)) at (replays.port t)) [
            | inl d ↦ absurd (let no : true ≡ false = sym (same_name_is t.dialer y (d.0 ∙ named)) ∙ is in cc)
            | inr d ↦ ap (λ name. number_of nodes name) (sym d.1)
          ]
