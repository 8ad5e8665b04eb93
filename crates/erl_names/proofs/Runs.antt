-- A run of draws gives no number of a kind twice.
use Rattle.std.proofs.Common.{◌≡◌, ℕ, ◌+◌, ◌<◌, ◌≤◌, Bool, true, false, nat_lt, if◌then◌else◌, List}
use Rattle.std.proofs.Common.{[], ◌∷◌, ◌++◌, Option, None, Some, All, AllPairs, get_or, refl, arith}
use Rattle.std.proofs.lemmas.List.Elements.{All-cons}
use Rattle.std.proofs.lemmas.List.Kept.{AllPairs-cons}
use Rattle.erl_names.specs.Draw.{Draw}
use Rattle.erl_names.specs.Draw as draw
use Rattle.erl_names.specs.Minted.{Minted, count, last, risen, drawn, id_of, under, ids}

-- the number is above those that were drawn of its kind
abbrev pub IsAbove : Minted → Draw × ℕ → Type 0
IsAbove m id = count m id.0 < id.1

pub risen-le : (n highest : ℕ) → n ≤ risen n highest
risen-le n highest = elim (nat_lt n highest) as (λ b. n ≤ (if b then n + 1 else n)) [ true ↦ omega arith | false ↦ omega arith ]

count-drawn : (m : Minted) (kind other : Draw) → count m other ≤ count (drawn m kind) other
count-drawn m draw.Pid draw.Pid = risen-le m.pids (last draw.Pid)
count-drawn m draw.Pid draw.Reference = omega arith
count-drawn m draw.Pid draw.UnlinkId = omega arith
count-drawn m draw.Reference draw.Pid = omega arith
count-drawn m draw.Reference draw.Reference = risen-le m.references (last draw.Reference)
count-drawn m draw.Reference draw.UnlinkId = omega arith
count-drawn m draw.UnlinkId draw.Pid = omega arith
count-drawn m draw.UnlinkId draw.Reference = omega arith
count-drawn m draw.UnlinkId draw.UnlinkId = risen-le m.unlink_ids (last draw.UnlinkId)

-- the number that was given is the count behind the draw
record IsGiven (before behind id : ℕ) : Type 0 where
  above : before < id
  reached : id ≤ behind

given_at : (b : Bool) (n id : ℕ) → (if b then Some (n + 1) else None) ≡ Some id → IsGiven n (if b then n + 1 else n) id
given_at true n id e = let same : n + 1 ≡ id = cc in record { above = omega arith; reached = omega arith }
given_at false n id e = cc

given : (m : Minted) (kind : Draw) (id : ℕ) → id_of m kind ≡ Some id → IsGiven (count m kind) (count (drawn m kind) kind) id
given m draw.Pid id e = given_at (nat_lt m.pids (last draw.Pid)) m.pids id e
given m draw.Reference id e = given_at (nat_lt m.references (last draw.Reference)) m.references id e
given m draw.UnlinkId id e = given_at (nat_lt m.unlink_ids (last draw.UnlinkId)) m.unlink_ids id e

above_before : (m : Minted) (kind : Draw) (rest : List (Draw × ℕ)) → All (IsAbove (drawn m kind)) rest → All (IsAbove m) rest
above_before m kind rest h i d lt = omega (arith, count-drawn m kind (get_or rest i d).0, h i d lt)

above_given : (m : Minted) (kind : Draw) (o : Option ℕ) (rest : List (Draw × ℕ)) → id_of m kind ≡ o → All (IsAbove m) rest
    → All (IsAbove m) (under kind o ++ rest)
above_given m kind None rest e h = h
above_given m kind (Some id) rest e h = All-cons (IsAbove m) (kind, id) rest (given m kind id e).above h

all_above : (draws : List Draw) (m : Minted) → All (IsAbove m) (ids draws m)
all_above [] m = λ i d lt. absurd (omega arith)
all_above (kind ∷ draws) m =
    above_given m kind (id_of m kind) (ids draws (drawn m kind)) refl (above_before m kind _ (all_above draws (drawn m kind)))

-- what is above its kind's count isn't what the last draw gave
other_than : (m : Minted) (kind : Draw) (id : ℕ) (rest : List (Draw × ℕ)) → id ≤ count m kind → All (IsAbove m) rest
    → All (λ later. (kind, id) ≡ later → ⊥) rest
other_than m kind id rest le h i d lt e =
    let above = h i d lt in
    let here : count m kind < id = rw (← e) at above in
    absurd (omega arith)

pairs_given : (m : Minted) (kind : Draw) (o : Option ℕ) (rest : List (Draw × ℕ)) → id_of m kind ≡ o → All (IsAbove (drawn m kind)) rest →
    AllPairs (λ id later. id ≡ later → ⊥) rest → AllPairs (λ id later. id ≡ later → ⊥) (under kind o ++ rest)
pairs_given m kind None rest e above h = h
pairs_given m kind (Some id) rest e above h =
    AllPairs-cons (λ id later. id ≡ later → ⊥) (kind, id) rest (other_than (drawn m kind) kind id rest (given m kind id e).reached above) h

pub ids_differ : (draws : List Draw) (m : Minted) → AllPairs (λ id later. id ≡ later → ⊥) (ids draws m)
ids_differ [] m = λ i j d lt le. absurd (omega arith)
ids_differ (kind ∷ draws) m =
    pairs_given m kind (id_of m kind) (ids draws (drawn m kind)) refl (all_above draws (drawn m kind)) (ids_differ draws (drawn m kind))
