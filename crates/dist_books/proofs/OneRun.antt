-- Books are one run of the world.
use Rattle.std.proofs.Common.{◌≡◌, ◌≢◌, ℕ, ◌<◌, ◌≤◌, Option, None, Some, List, [], ◌∷◌, ◌++◌, inl, inr}
use Rattle.std.proofs.Common.{length, drop, slice_index_or, refl, sym, ap, ◌∙◌, subst, append_assoc, arith}
use Rattle.std.proofs.Math.Seq.{drop-append_seam}
use Rattle.dist_books.proofs.Numbers.{book_beyond, each_kept, known_or_not, number_there}
use Rattle.dist_books.proofs.Senders.{none_sent, peer_sends, took_elsewhere}
use Rattle.dist_books.proofs.Steps.{IsLocal, KeepsBearings, opened, runs}
use Rattle.dist_books.specs.Acting.{Acts, Nodes, Way, name_at, opened_at, same_way}
use Rattle.dist_books.specs.Books.{Book, Kept, Log, Port, Stamped, book_at, number_of, on_the_way}
use Rattle.dist_books.specs.Books.{outbox_to, port_of, put_to, sender, slot_of, taken_by}
use Rattle.dist_books.specs.Merged.{AreBooks, BooksAreARun, BooksAreSafe, IsMerged, Placed, Precedes, events_of, reports_of}
use Rattle.dist_model.specs.Items.{Item}
use Rattle.dist_model.specs.Runs.{Runs, opening}
use Rattle.dist_model.specs.Safety.{Safe}
use Rattle.dist_model.specs.Traces.{ThroughoutTraced}
use Rattle.dist_model.specs.World.{World}
use Rattle.dist_books.proofs.LogsAreOneRun.{logs_are_a_run}
use Rattle.dist_books.specs.Logs.{sent_on, took_on}
use Rattle.dist_books.specs.Runs as merging
use Rattle.dist_books.specs.Runs.{AreLogs}

balance : (put outbox taken took slot rest sent : List Stamped) → sent ≡ put ++ outbox → taken ≡ took ++ slot → put ≡ taken ++ rest
    → sent ≡ took ++ (slot ++ (drop (length taken) put ++ outbox))
balance put outbox taken took slot rest sent a b c =
    let left : drop (length taken) put ≡ rest = ap (λ l. drop (length taken) l) c ∙ drop-append_seam taken rest in
    a ∙ ap (λ l. l ++ outbox) c ∙ ap (λ l. (l ++ rest) ++ outbox) b
    ∙ simp append_assoc (ap (λ l. took ++ (slot ++ (l ++ outbox))) (sym left))

module _ (nodes : Nodes) (books : List Book) (are : AreBooks nodes books) where
  kept : (k : ℕ) → Kept nodes k (book_at books k)
  kept k = each_kept nodes books are.one_each are.kept k

  abbrev log : ℕ → Log
  log k = (kept k).0

  abbrev receiver : Way → ℕ
  receiver c = number_of nodes c.1

  took_by : (c : Way) (k : ℕ) → (k < length nodes → c.1 ≢ name_at nodes k) → took_on same_way c (log k) ≡ []
  took_by c k elsewhere = took_elsewhere nodes k c elsewhere (opened_at nodes k) (book_at books k).node (log k) (kept k).1.leads

  takes : (c : Way) (k : ℕ) → k ≢ receiver c → took_on same_way c (log k) ≡ []
  takes c k apart = took_by c k
      (λ below same. apart (sym (ap (λ name. number_of nodes name) same ∙ number_there nodes are.distinct k below)))

  taken_is : (c : Way) → taken_by (port_of nodes books c.1 c.0) ≡ took_on same_way c (log (receiver c)) ++ slot_of
      (port_of nodes books c.1 c.0)
  taken_is c = elim (known_or_not nodes c.1) [
    | inl h ↦ (kept (receiver c)).1.into c.0
        ∙ ap (λ name. took_on same_way (c.0, name) (log (receiver c)) ++ slot_of (port_of nodes books c.1 c.0)) h.1
    | inr h ↦ (
        let nobody = book_beyond nodes books are.one_each (receiver c) h in
        ap (λ (book : Book). taken_by (book.ports c.0)) nobody
        ∙ ap (λ l. l ++ []) (sym (took_by c (receiver c) (λ below. absurd (omega arith))))
        ∙ ap (λ (book : Book). took_on same_way c (log (receiver c)) ++ slot_of (book.ports c.0)) (sym nobody))
  ]

  -- what was taken begins what the sender has put
  begins : (c : Way) (o : Option Port) → port_of nodes books c.1 c.0 ≡ o → (rest : List Stamped)
      × (put_to c.1 ((book_at books (sender nodes books c)).ports c.0) ≡ taken_by o ++ rest)
  begins c None at = (put_to c.1 ((book_at books (sender nodes books c)).ports c.0), refl)
  begins c (Some port) at = elim (known_or_not nodes c.1) [
    | inl h ↦ (
        let agree = are.agree (receiver c) c.0 port h.0 at in
        let sends = peer_sends nodes books are c.0 c.1 port (log (receiver c)) h.0 h.1 at (kept (receiver c)).1 in (
          agree.0,
          ap (λ s. put_to c.1 ((book_at books s).ports c.0)) sends
              ∙ ap (λ name. put_to name (port_of nodes books port.peer c.0)) (sym h.1) ∙ agree.1,
        ))
    | inr h ↦ absurd (let no : None ≡ Some port = sym
        (ap (λ (book : Book). book.ports c.0) (book_beyond nodes books are.one_each (receiver c) h)) ∙ at in cc)
  ]

  logs : AreLogs same_way (Acts nodes) (opened_at nodes) (λ k. (book_at books k).node) (sender nodes books) receiver
      (on_the_way nodes books) log
  logs = record {
    leads = λ k. (kept k).1.leads;
    earlier = λ k. (kept k).1.earlier;
    sends = λ c k apart. (kept k).1.out c.0 c.1 ∙ none_sent nodes books are c.0 c.1 k (log k) (kept k).1 apart;
    takes = takes;
    agree = λ c.
        let into = port_of nodes books c.1 c.0 in
        let out = (book_at books (sender nodes books c)).ports c.0 in
        let b = begins c into refl in
        balance (put_to c.1 out) (outbox_to c.1 out) (taken_by into) (took_on same_way c (log (receiver c))) (slot_of into) b.0
        (sent_on same_way c (log (sender nodes books c)))
        ((kept (sender nodes books c)).1.out c.0 c.1) (taken_is c) b.1;
  }

  not_after : (x y : Placed) → Precedes x y → x.1.stamp ≤ y.1.stamp
  not_after x y h = elim h [ inl e ↦ omega (arith, e) | inr e ↦ omega (arith, e.0) ]

  merge_of : (merged : List Placed) → IsMerged books merged → merging.IsMerge same_way (Acts nodes) log merged
  merge_of merged is = record {
    each = λ k. is.each k ∙ (kept k).1.history;
    ordered = λ i j d before within. not_after (slice_index_or merged i d) (slice_index_or merged j d) (is.sorted i j d before within);
  }

pub books_are_a_run : IsLocal → KeepsBearings → BooksAreARun
books_are_a_run local bearings nodes books merged are is =
    let run = logs_are_a_run same_way (Acts nodes) (opened_at nodes) (λ k. (book_at books k).node) (sender nodes books)
    (λ c. number_of nodes c.1)
    (on_the_way nodes books) (log nodes books are) merged (logs nodes books are) (merge_of nodes books are merged is) in
    let moved = runs local bearings nodes are.distinct merged (opening nodes) (merging.opening Way Item (opened_at nodes)) run.0
    (opened local bearings nodes are.distinct) run.1 in
    record {
      world = moved.0;
      runs = moved.1;
      nodes_are = λ k below. moved.2.nodes_are k below ∙ ap (λ node. Some node) (run.2 k);
      lists_are = λ way. moved.2.lists_are way ∙ run.3 way;
    }

-- the beginning of a run is a run
beginning : (before behind : List Placed) (world last : World)
    → Runs world (events_of (before ++ behind)) (reports_of (before ++ behind)) last
    → (now : World) × Runs world (events_of before) (reports_of before) now
beginning [] behind world last runs = (world, refl)
beginning (x ∷ before) behind world last runs =
    let rest = beginning before behind runs.0 last runs.2 in
    (rest.0, (runs.0, runs.1, rest.1))

pub books_are_safe : IsLocal → KeepsBearings → ThroughoutTraced Safe → BooksAreSafe
books_are_safe local bearings safe nodes books merged are is before behind parts =
    let run = books_are_a_run local bearings nodes books merged are is in
    let first = beginning before behind (opening nodes) run.world
    (subst (λ l. Runs (opening nodes) (events_of l) (reports_of l) run.world) parts run.runs) in
    record {
      world = first.0;
      runs = first.1;
      safe = safe nodes (events_of before) (reports_of before) first.0 first.1;
    }
