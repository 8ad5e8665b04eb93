-- A run of all nodes, and the logs that make one.
use Rattle.std.specs.Prelude.{◌≡◌, ◌≢◌, ℕ, ◌≤◌, Bool, Option, List, [], ◌∷◌, ◌++◌, ◌==◌, AllPairs, if◌then◌else◌}
use Rattle.dist_books.specs.Logs.{AllTakeEarlier, Entry, Leads, Line, bare, entries_of, off, on, sent_on, took_on}

-- all nodes, by their numbers, and what is on each channel, the first to come first
pub record World (S C I : Type 0) : Type 0 where
  pub nodes : ℕ → S
  pub lists : C → List I

abbrev pub opening : {S : Type 0} → (C I : Type 0) → (ℕ → S) → World S C I
opening C I nodes = record { nodes = nodes; lists = λ c. [] }

-- all entries, each with the number of its node: those of one node
abbrev pub of_node : {X : Type 0} → ℕ → List (ℕ × X) → List X
of_node k [] = []
of_node k (placed ∷ rest) = if k == placed.0 then placed.1 ∷ of_node k rest else of_node k rest

module _ {S E A C I : Type 0} (same : C → C → Bool) (acts : ℕ → S → E → Option (C × List I) → A → S → List (C × List I) → Type 0) where
  -- an event of a node: it takes the first symbols of a channel, or none, and what it sends comes behind those that are on their way
  pub record Moves (world : World S C I) (k : ℕ) (event : E) (answer : A) (new : World S C I) : Type 0 where
    pub took : Option (C × List I)
    pub sent : List (C × List I)
    pub left : C → List I
    pub acted : acts k (world.nodes k) event took answer (new.nodes k) sent
    pub others : (j : ℕ) → j ≢ k → new.nodes j ≡ world.nodes j
    pub first : (c : C) → world.lists c ≡ off same c took ++ left c
    pub behind : (c : C) → new.lists c ≡ left c ++ on same c sent

  -- one event after another
  abbrev pub Runs : World S C I → List (ℕ × Entry E A) → World S C I → Type 0
  Runs world [] new = new ≡ world
  Runs world (placed ∷ rest) new =
      (next : World S C I) × Moves world placed.0 placed.1.event placed.1.answer next × Runs next rest new

  -- The logs of all nodes. On each channel one node sends and one takes, and what was sent is what was taken, and a rest.
  pub record AreLogs (opened finals : ℕ → S) (sender receiver : C → ℕ) (rests : C → List (ℕ × I))
      (log : ℕ → List (Line E A C I)) : Type 0 where
    pub leads : (k : ℕ) → Leads acts k (opened k) (log k) (finals k)
    pub earlier : (k : ℕ) → AllTakeEarlier (log k)
    pub sends : (c : C) (k : ℕ) → k ≢ sender c → sent_on same c (log k) ≡ []
    pub takes : (c : C) (k : ℕ) → k ≢ receiver c → took_on same c (log k) ≡ []
    pub agree : (c : C) → sent_on same c (log (sender c)) ≡ took_on same c (log (receiver c)) ++ rests c

  -- all entries of the logs, each log's in its order, and no stamp before a lower one
  pub record IsMerge (log : ℕ → List (Line E A C I)) (merged : List (ℕ × Entry E A)) : Type 0 where
    pub each : (k : ℕ) → of_node k merged ≡ entries_of (log k)
    pub ordered : AllPairs (λ x y. x.1.stamp ≤ y.1.stamp) merged

  abbrev pub LogsAreARun : Type 0
  LogsAreARun = (opened finals : ℕ → S) (sender receiver : C → ℕ) (rests : C → List (ℕ × I)) (log : ℕ → List (Line E A C I))
      (merged : List (ℕ × Entry E A)) → AreLogs opened finals sender receiver rests log → IsMerge log merged
      → (new : World S C I) × Runs (opening C I opened) merged new
      × ((k : ℕ) → new.nodes k ≡ finals k) × ((c : C) → new.lists c ≡ bare (rests c))
