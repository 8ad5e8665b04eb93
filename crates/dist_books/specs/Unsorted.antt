-- That the order of the stamps is needed: the entries of two nodes, by their stamps and by the numbers of their nodes.
use Rattle.std.specs.Prelude.{◌≡◌, ℕ, ◌==◌, Option, None, Some, List, [], ◌∷◌}
use Rattle.dist_books.specs.Logs.{Entry}
use Rattle.dist_books.specs.Runs.{Runs, World, opening}

-- an event that says what it takes off a channel, and what it sends
pub record Deed : Type 0 where
  pub takes : Option (ℕ × List ℕ)
  pub sends : List (ℕ × List ℕ)

abbrev pub does : ℕ → ℕ → Deed → Option (ℕ × List ℕ) → ℕ → ℕ → List (ℕ × List ℕ) → Type 0
does k state deed took answer next sent = (next ≡ state) × (took ≡ deed.takes) × (sent ≡ deed.sends)

-- the node 1 sends a symbol on the channel 5, which the node 0 takes later
abbrev pub sends : ℕ × Entry Deed ℕ
sends = (1, record { stamp = 1; event = record { takes = None; sends = (5, 7 ∷ []) ∷ [] }; answer = 0 })

abbrev pub takes : ℕ × Entry Deed ℕ
takes = (0, record { stamp = 2; event = record { takes = Some (5, 7 ∷ []); sends = [] }; answer = 0 })

abbrev pub LeadTo : List (ℕ × Entry Deed ℕ) → World ℕ ℕ ℕ → Type 0
LeadTo entries new = Runs (λ c d. c == d) does (opening ℕ ℕ (λ k. 0)) entries new

-- by their stamps they lead somewhere
abbrev pub LeadByStamp : Type 0
LeadByStamp = (new : World ℕ ℕ ℕ) × LeadTo (sends ∷ takes ∷ []) new

-- by the numbers of their nodes nowhere
abbrev pub LeadNowhereByNode : Type 0
LeadNowhereByNode = (new : World ℕ ℕ ℕ) → LeadTo (takes ∷ sends ∷ []) new → ⊥
