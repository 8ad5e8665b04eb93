-- Logs in the order of their stamps are one run: by induction over the merged entries, with what is left of each log.
use Rattle.std.proofs.Common.{◌≡◌, ◌≢◌, ℕ, suc, ◌<◌, ◌≤◌, Bool, true, false, Option, None, Some, List, [], ◌∷◌, ◌++◌}
use Rattle.std.proofs.Common.{◌==◌, inl, inr, if◌then◌else◌, refl, sym, ap, ◌∙◌, subst, append_assoc, arith, append-nil}
use Rattle.std.specs.List.{All, AllPairs}
use Rattle.std.proofs.lemmas.List.{map-append}
use Rattle.std.proofs.lemmas.List.Elements.{All-append, All-head, All-map, All-nil, All-cons, All-tail}
use Rattle.std.proofs.lemmas.Bool.Decides.{eqb_tells}
use Rattle.dist_books.specs.Logs.{AllTakeEarlier, Entry, Leads, Line, TakesEarlier, bare}
use Rattle.dist_books.specs.Logs.{bare_took, entries_of, off, on, sent_on, stamped, took_on}
use Rattle.dist_books.specs.Runs.{LogsAreARun, Moves, Runs, World, of_node}

-- ---- the value at one number is another

abbrev put : {X : Type 0} → (ℕ → X) → ℕ → X → ℕ → X
put f k x j = if j == k then x else f j

put_same : {X : Type 0} (f : ℕ → X) (k : ℕ) (x : X) → put f k x k ≡ x
put_same f k x = elim (eqb_tells k k) [ inl h ↦ ap (λ b. if b then x else f k) h.0 | inr h ↦ absurd (h.1 refl) ]

put_other : {X : Type 0} (f : ℕ → X) (k : ℕ) (x : X) (j : ℕ) → j ≢ k → put f k x j ≡ f j
put_other f k x j apart = elim (eqb_tells j k) [ inl h ↦ absurd (apart h.1) | inr h ↦ ap (λ b. if b then x else f j) h.0 ]

-- what holds of the new value, and of each old one, holds of all
put_all : {X : Type 0} (P : ℕ → X → Type 0) (f : ℕ → X) (k : ℕ) (x : X) → P k x → ((j : ℕ) → j ≢ k → P j (f j)) → (j : ℕ)
    → P j (put f k x j)
put_all P f k x new old j = elim (eqb_tells j k) [
  | inl h ↦ subst (P j) (sym (ap (λ b. if b then x else f j) h.0)) (subst (λ i. P i x) (sym h.1) new)
  | inr h ↦ subst (P j) (sym (put_other f k x j h.1)) (old j h.1)
]

-- ---- symbols

abbrev Since : {I : Type 0} → ℕ → List (ℕ × I) → Type 0
Since n symbols = All (λ symbol. n ≤ symbol.0) symbols

since_stamped : {I : Type 0} (n stamp : ℕ) (xs : List I) → n ≤ stamp → Since n (stamped stamp xs)
since_stamped n stamp xs h = All-map (λ symbol. n ≤ symbol.0) (λ x. (stamp, x)) xs (λ k d below. h)

bare_stamped : {I : Type 0} (stamp : ℕ) (xs : List I) → bare (stamped stamp xs) ≡ xs
bare_stamped stamp [] = refl
bare_stamped stamp (x ∷ xs) = ap (λ l. x ∷ l) (bare_stamped stamp xs)

-- What is taken begins what was sent. It can't be among what is still to be sent, since that has later stamps.
begins : {I : Type 0} (n : ℕ) (front more taken took rest : List (ℕ × I)) → Since n more → All (λ symbol. symbol.0 < n) taken
    → front ++ more ≡ (taken ++ took) ++ rest
    → (left : List (ℕ × I)) × (front ≡ taken ++ left) × (left ++ more ≡ took ++ rest)
begins n front more [] took rest since before is = (front, refl, is)
begins n [] [] (y ∷ taken) took rest since before is = absurd (cc)
begins n [] (x ∷ more) (y ∷ taken) took rest since before is =
    let same : x ≡ y = cc in
    let stamp : x.0 ≡ y.0 = ap (λ z. z.0) same in
    absurd (omega (arith, All-head (λ z. n ≤ z.0) x more since, All-head (λ z. z.0 < n) y taken before))
begins n (x ∷ front) more (y ∷ taken) took rest since before is =
    let same : x ≡ y = cc in
    let rest_is : front ++ more ≡ (taken ++ took) ++ rest = cc in
    let h = begins n front more taken took rest since (All-tail (λ z. z.0 < n) y taken before) rest_is in
    (h.0, (λ i. same i ∷ h.1 i), h.2)

nothing_before : {X : Type 0} (xs ys : List X) → xs ++ ys ≡ [] → xs ≡ []
nothing_before [] ys h = refl
nothing_before (x ∷ xs) ys h = absurd (cc)

nothing_behind : {X : Type 0} (xs ys : List X) → xs ++ ys ≡ [] → ys ≡ []
nothing_behind [] ys h = h
nothing_behind (x ∷ xs) ys h = absurd (cc)

-- ---- what one node's log says on a channel, once its first line is gone

module _ {E A C I : Type 0} (f : List (Line E A C I) → List (ℕ × I)) (g : List (ℕ × I)) (log : ℕ → List (Line E A C I)) (k p : ℕ)
    (y : Line E A C I) (ys : List (Line E A C I))
    (more : f (y ∷ ys) ≡ g ++ f ys) (at : log k ≡ y ∷ ys) (only : (j : ℕ) → j ≢ p → f (log j) ≡ []) where
  first_of_log : f (log p) ≡ g ++ f (put log k ys p)
  first_of_log = elim (eqb_tells p k) [
    | inl h ↦ ap (λ j. f (log j)) h.1 ∙ ap f at ∙ more ∙ ap (λ l. g ++ f l) (sym (put_same log k ys))
        ∙ ap (λ j. g ++ f (put log k ys j)) (sym h.1)
    | inr h ↦ (
        let none : g ++ f ys ≡ [] = sym more ∙ ap f (sym at) ∙ only k (λ e. h.1 (sym e)) in
        ap (λ l. f l) (sym (put_other log k ys p h.1)) ∙ ap (λ l. l ++ f (put log k ys p)) (sym (nothing_before g (f ys) none)))
  ]

  only_rest : (j : ℕ) → j ≢ p → f (put log k ys j) ≡ []
  only_rest j apart = elim (eqb_tells j k) [
    | inl h ↦ (
        let none : g ++ f ys ≡ [] = sym more ∙ ap f (sym at) ∙ only k (λ e. apart (h.1 ∙ e)) in
        ap (λ b. f (if b then ys else log j)) h.0 ∙ nothing_behind g (f ys) none)
    | inr h ↦ ap f (put_other log k ys j h.1) ∙ only j apart
  ]

-- ---- entries

pub own_first : {X : Type 0} (x : ℕ × X) (merged : List (ℕ × X)) → of_node x.0 (x ∷ merged) ≡ x.1 ∷ of_node x.0 merged
own_first x merged = elim (eqb_tells x.0 x.0) [
  | inl h ↦ ap (λ b. if b then x.1 ∷ of_node x.0 merged else of_node x.0 merged) h.0
  | inr h ↦ absurd (h.1 refl)
]

other_first : {X : Type 0} (j : ℕ) (x : ℕ × X) (merged : List (ℕ × X)) → j ≢ x.0 → of_node j (x ∷ merged) ≡ of_node j merged
other_first j x merged apart = elim (eqb_tells j x.0) [
  | inl h ↦ absurd (apart h.1)
  | inr h ↦ ap (λ b. if b then x.1 ∷ of_node j merged else of_node j merged) h.0
]

none_of : {E A C I : Type 0} (log : List (Line E A C I)) → [] ≡ entries_of log → log ≡ []
none_of [] is = refl
none_of (x ∷ xs) is = absurd (cc)

abbrev NotAfter : {E A : Type 0} → ℕ × Entry E A → ℕ × Entry E A → Type 0
NotAfter x y = x.1.stamp ≤ y.1.stamp

head_first : {E A : Type 0} (x : ℕ × Entry E A) (merged : List (ℕ × Entry E A)) → AllPairs NotAfter (x ∷ merged) → All (NotAfter x) merged
head_first x merged h k d below = h 0 (suc k) d (omega arith) (omega arith)

tail_ordered : {E A : Type 0} (x : ℕ × Entry E A) (merged : List (ℕ × Entry E A)) → AllPairs NotAfter (x ∷ merged)
    → AllPairs NotAfter merged
tail_ordered x merged h i j d before below = h (suc i) (suc j) d (omega arith) (omega arith)

from_all : {E A : Type 0} (n j : ℕ) (merged : List (ℕ × Entry E A)) → All (λ x. n ≤ x.1.stamp) merged
    → All (λ e. n ≤ e.stamp) (of_node j merged)
from_all n j [] h = All-nil (λ e. n ≤ e.stamp)
from_all n j (x ∷ xs) h =
    let rest = from_all n j xs (All-tail (λ z. n ≤ z.1.stamp) x xs h) in
    let P : Bool → Type 0 = λ b. All (λ e. n ≤ e.stamp) (if b then x.1 ∷ of_node j xs else of_node j xs) in
    elim (j == x.0) as P [
      | true ↦ All-cons (λ e. n ≤ e.stamp) x.1 (of_node j xs)
          (All-head (λ z. n ≤ z.1.stamp) x xs h) rest
      | false ↦ rest
    ]

since_sent : {E A C I : Type 0} (same : C → C → Bool) (n : ℕ) (c : C) (log : List (Line E A C I))
    → All (λ e. n ≤ e.stamp) (entries_of log) → Since n (sent_on same c log)
since_sent same n c [] h = All-nil (λ z. n ≤ z.0)
since_sent same n c (x ∷ xs) h =
    All-append (λ z. n ≤ z.0) (stamped x.entry.stamp (on same c x.sent)) (sent_on same c xs)
    (since_stamped n x.entry.stamp (on same c x.sent) (All-head (λ e. n ≤ e.stamp) x.entry (entries_of xs) h))
    (since_sent same n c xs (All-tail (λ e. n ≤ e.stamp) x.entry (entries_of xs) h))

module _ {S E A C I : Type 0} (same : C → C → Bool) (acts : ℕ → S → E → Option (C × List I) → A → S → List (C × List I) → Type 0)
    (finals : ℕ → S) (sender receiver : C → ℕ) (rests : C → List (ℕ × I)) where
  -- what is left of the logs goes on from these states and lists
  record GoOn (nodes : ℕ → S) (lists : C → List (ℕ × I)) (log : ℕ → List (Line E A C I)) (merged : List (ℕ × Entry E A)) : Type 0 where
    leads : (k : ℕ) → Leads acts k (nodes k) (log k) (finals k)
    earlier : (k : ℕ) → AllTakeEarlier (log k)
    sends : (c : C) (k : ℕ) → k ≢ sender c → sent_on same c (log k) ≡ []
    takes : (c : C) (k : ℕ) → k ≢ receiver c → took_on same c (log k) ≡ []
    agree : (c : C) → lists c ++ sent_on same c (log (sender c)) ≡ took_on same c (log (receiver c)) ++ rests c
    each : (k : ℕ) → of_node k merged ≡ entries_of (log k)
    ordered : AllPairs (λ x y. x.1.stamp ≤ y.1.stamp) merged

  abbrev world_of : (ℕ → S) → (C → List (ℕ × I)) → World S C I
  world_of nodes lists = record { nodes = nodes; lists = λ c. bare (lists c) }

  abbrev Ends : World S C I → List (ℕ × Entry E A) → Type 0
  Ends world merged = (new : World S C I) × Runs same acts world merged new × ((k : ℕ) → new.nodes k ≡ finals k)
      × ((c : C) → new.lists c ≡ bare (rests c))

  bare_off : (c : C) (took : Option (C × List (ℕ × I))) → bare (off same c took) ≡ off same c (bare_took took)
  bare_off c None = refl
  bare_off c (Some took) =
      let P : Bool → Type 0 = λ b. bare (if b then took.1 else []) ≡ (if b then bare took.1 else []) in
      elim (same c took.0) as P [ true ↦ refl | false ↦ refl ]

  earlier_off : (n : ℕ) (c : C) (took : Option (C × List (ℕ × I))) → TakesEarlier n took → All (λ symbol. symbol.0 < n) (off same c took)
  earlier_off n c None h = All-nil (λ symbol. symbol.0 < n)
  earlier_off n c (Some took) h =
      let P : Bool → Type 0 = λ b. All (λ symbol. symbol.0 < n) (if b then took.1 else []) in
      elim (same c took.0) as P [ true ↦ h | false ↦ All-nil (λ symbol. symbol.0 < n) ]

  -- the first entry, whose line is the first of its node's log
  module _ (x : ℕ × Entry E A) (merged : List (ℕ × Entry E A)) (nodes : ℕ → S) (lists : C → List (ℕ × I)) (log : ℕ → List (Line E A C I))
      (y : Line E A C I) (ys : List (Line E A C I)) (at : log x.0 ≡ y ∷ ys) (go : GoOn nodes lists log (x ∷ merged)) where
    abbrev k : ℕ
    k = x.0

    abbrev n : ℕ
    n = y.entry.stamp

    abbrev log' : ℕ → List (Line E A C I)
    log' = put log k ys

    own : x.1 ∷ of_node k merged ≡ y.entry ∷ entries_of ys
    own = sym (own_first x merged) ∙ go.each k ∙ ap (λ l. entries_of l) at

    is_first : y.entry ≡ x.1
    is_first = let h = own in cc

    head : Leads acts k (nodes k) (y ∷ ys) (finals k)
    head = subst (λ l. Leads acts k (nodes k) l (finals k)) at (go.leads k)

    early : AllTakeEarlier (y ∷ ys)
    early = subst (λ l. AllTakeEarlier l) at (go.earlier k)

    each' : (j : ℕ) → of_node j merged ≡ entries_of (log' j)
    each' = put_all (λ j l. of_node j merged ≡ entries_of l) log k ys (let h = own in cc)
        (λ j apart. sym (other_first j x merged apart) ∙ go.each j)

    later : All (λ z. n ≤ z.1.stamp) merged
    later = subst (λ (e : Entry E A). All (λ z. e.stamp ≤ z.1.stamp) merged) (sym is_first) (head_first x merged go.ordered)

    abbrev to_send : C → List (ℕ × I)
    to_send c = stamped n (on same c y.sent) ++ sent_on same c (log' (sender c))

    split : (c : C) → (left : List (ℕ × I)) × (lists c ≡ off same c y.took ++ left)
        × (left ++ to_send c ≡ took_on same c (log' (receiver c)) ++ rests c)
    split c =
        let sent = first_of_log (sent_on same c) (stamped n (on same c y.sent)) log k (sender c) y ys refl at (go.sends c) in
        let taken = first_of_log (took_on same c) (off same c y.took) log k (receiver c) y ys refl at (go.takes c) in
        let since = subst (λ l. All (λ e. n ≤ e.stamp) l) (each' (sender c)) (from_all n (sender c) merged later) in
        begins n (lists c) (to_send c) (off same c y.took) (took_on same c (log' (receiver c))) (rests c)
        (since_both c since)
        (earlier_off n c y.took (All-head (λ line. TakesEarlier line.entry.stamp line.took) y ys early))
        (ap (λ l. lists c ++ l) (sym sent) ∙ go.agree c ∙ ap (λ l. l ++ rests c) taken)
      where
        since_both : (c : C) → All (λ e. n ≤ e.stamp) (entries_of (log' (sender c))) → Since n (to_send c)
        since_both c h =
            All-append (λ z. n ≤ z.0) (stamped n (on same c y.sent)) (sent_on same c (log' (sender c)))
            (since_stamped n n (on same c y.sent) (omega arith)) (since_sent same n c (log' (sender c)) h)

    abbrev nodes' : ℕ → S
    nodes' = put nodes k head.0

    abbrev lists' : C → List (ℕ × I)
    lists' c = (split c).0 ++ stamped n (on same c y.sent)

    moves : Moves same acts (world_of nodes lists) k x.1.event x.1.answer (world_of nodes' lists')
    moves =
        let P : Entry E A → Type 0 = λ e. Moves same acts (world_of nodes lists) k e.event e.answer (world_of nodes' lists') in
        subst P is_first (record {
          took = bare_took y.took;
          sent = y.sent;
          left = λ c. bare (split c).0;
          acted = subst (λ s. acts k (nodes k) y.entry.event (bare_took y.took) y.entry.answer s y.sent)
              (sym (put_same nodes k head.0)) head.1;
          others = λ j apart. put_other nodes k head.0 j apart;
          first = λ c. ap (λ l. bare l) (split c).1 ∙ map-append (λ symbol. symbol.1) (off same c y.took) (split c).0
              ∙ ap (λ l. l ++ bare (split c).0) (bare_off c y.took);
          behind = λ c. map-append (λ symbol. symbol.1) (split c).0 (stamped n (on same c y.sent))
              ∙ ap (λ l. bare (split c).0 ++ l) (bare_stamped n (on same c y.sent));
        })

    goes_on : GoOn nodes' lists' log' merged
    goes_on = record {
      leads = put_all (λ j s. Leads acts j s (log' j) (finals j)) nodes k head.0
          (subst (λ l. Leads acts k head.0 l (finals k)) (sym (put_same log k ys)) head.2)
          (λ j apart. subst (λ l. Leads acts j (nodes j) l (finals j)) (sym (put_other log k ys j apart)) (go.leads j));
      earlier = put_all (λ j l. AllTakeEarlier l) log k ys (All-tail (λ line. TakesEarlier line.entry.stamp line.took) y ys early)
          (λ j apart. go.earlier j);
      sends = λ c. only_rest (sent_on same c) (stamped n (on same c y.sent)) log k (sender c) y ys refl at (go.sends c);
      takes = λ c. only_rest (took_on same c) (off same c y.took) log k (receiver c) y ys refl at (go.takes c);
      agree = λ c. append_assoc (split c).0 (stamped n (on same c y.sent)) (sent_on same c (log' (sender c))) ∙ (split c).2;
      each = each';
      ordered = tail_ordered x merged go.ordered;
    }

  run_from : (merged : List (ℕ × Entry E A)) (nodes : ℕ → S) (lists : C → List (ℕ × I)) (log : ℕ → List (Line E A C I))
      → GoOn nodes lists log merged → Ends (world_of nodes lists) merged
  run_from [] nodes lists log go = (
    world_of nodes lists,
    refl,
    (λ k. sym (let over = none_of (log k) (go.each k) in subst (λ l. Leads acts k (nodes k) l (finals k)) over (go.leads k))),
    (λ c. ap (λ l. bare l) (
        sym (append-nil (lists c)) ∙ ap (λ l. lists c ++ sent_on same c l) (sym (none_of (log (sender c)) (go.each (sender c))))
        ∙ go.agree c ∙ ap (λ l. took_on same c l ++ rests c) (none_of (log (receiver c)) (go.each (receiver c))))),
  )
  run_from (x ∷ merged) nodes lists log go = first_line (run_from merged) (log x.0) refl
    where
      first_line : ((nodes : ℕ → S) (lists : C → List (ℕ × I)) (log : ℕ → List (Line E A C I)) → GoOn nodes lists log merged
          → Ends (world_of nodes lists) merged)
          → (own : List (Line E A C I)) → log x.0 ≡ own → Ends (world_of nodes lists) (x ∷ merged)
      first_line further [] at =
          absurd (let own : x.1 ∷ of_node x.0 merged ≡ [] = sym (own_first x merged) ∙ go.each x.0 ∙ ap (λ l. entries_of l) at in cc)
      first_line further (y ∷ ys) at =
          let rest = further (nodes' x merged nodes lists log y ys at go) (lists' x merged nodes lists log y ys at go) (put log x.0 ys)
          (goes_on x merged nodes lists log y ys at go) in (
            rest.0,
            (
              world_of (nodes' x merged nodes lists log y ys at go) (lists' x merged nodes lists log y ys at go),
              moves x merged nodes lists log y ys at go,
              rest.1,
            ),
            rest.2,
            rest.3,
          )

pub logs_are_a_run : {S E A C I : Type 0} (same : C → C → Bool)
    (acts : ℕ → S → E → Option (C × List I) → A → S → List (C × List I) → Type 0) → LogsAreARun same acts
logs_are_a_run same acts opened finals sender receiver rests log merged logs merge =
    run_from same acts finals sender receiver rests merged opened (λ c. []) log
    (record {
      leads = logs.leads;
      earlier = logs.earlier;
      sends = logs.sends;
      takes = logs.takes;
      agree = logs.agree;
      each = merge.each;
      ordered = merge.ordered;
    })
