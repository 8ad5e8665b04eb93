-- What is given of a stream that is fed in pieces, and of the whole, and that it is one thing only.
use Rattle.std.proofs.Common.{◌≡◌, inl, inr, true, ℕ, ◌≤◌, List, [], ◌∷◌, ◌++◌, Option, Some, None, length, drop, take}
use Rattle.std.proofs.Common.{refl, ap, sym, subst, ◌∙◌, append_assoc}
use Rattle.std.specs.List.{concat}
use Rattle.std.proofs.lemmas.List.{append-nil, drop-append-le, take-append-drop}
use Rattle.readers.specs.Reading.{AreBytes}
use Rattle.readers.proofs.Sequence.{AreBytes-split}
use Rattle.erl_handshake.specs.declared.acceptor.AcceptorState.{AcceptorState}
use Rattle.erl_handshake.specs.declared.acceptor.AcceptorState.TheVariants.{AwaitsName}
use Rattle.erl_handshake.specs.declared.identity.Identity.{Identity}
use Rattle.conn_core.specs.declared.standing.Standing.{Standing}
use Rattle.conn_core.specs.declared.standing.Standing.TheVariants.{Dialing, Accepting, Up, Losing, Gone}
use Rattle.conn_core.specs.declared.side.Side.{Side}
use Rattle.conn_core.specs.declared.arrival.Arrival.{Arrival}
use Rattle.conn_core.specs.Side.{acceptor_state, listens, state_of}
use Rattle.conn_core.specs.Arrivals.{ArrivalDue, DueAt}
use Rattle.conn_pieces.specs.Streams.{standing_as, Gives, GivesAll, GivesInPieces, IsAtRest}
use Rattle.conn_pieces.proofs.Fronts.{more_due}
use Rattle.conn_pieces.proofs.Whole.{due_within}

-- ---- a piece more

module _ (own : Identity) (word : ℕ) (more : List ℕ) (later : List Arrival) (end : Side) (rest : List ℕ) where
  joined : (side : Side) (front : List ℕ) (first : List Arrival) (between : Side) (left : List ℕ)
      → Gives own word side front first between left → Gives own word between (left ++ more) later end rest
      → Gives own word side (front ++ more) (first ++ later) end rest
  joined side front [] between left g h =
      subst (λ s. Gives own word s (front ++ more) later end rest) g.0
      (subst (λ l. Gives own word between (l ++ more) later end rest) g.1 h)
  joined side front (a ∷ first) between left g h =
      let n : a.len ≤ length front = due_within own side front word a g.0 in (
        more_due own side front more word a g.0,
        subst (λ l. Gives own word (standing_as (Some a) side) l (first ++ later) end rest) (sym (drop-append-le a.len front more n))
            (joined (standing_as (Some a) side) (drop a.len front) first between left g.1 h),
      )

pub whole : (own : Identity) (word : ℕ) (side : Side) (kept : List ℕ) (pieces : List (List ℕ)) (arrivals : List Arrival) (end : Side) (rest : List ℕ)
    → GivesInPieces own word side kept pieces arrivals end rest → GivesAll own word side (kept ++ concat pieces) arrivals end rest
whole own word side kept [] arrivals end rest h = subst (λ l. GivesAll own word side l arrivals end rest) (sym (append-nil kept)) h
whole own word side kept (piece ∷ pieces) arrivals end rest (first, later, between, left, given, then, e) =
    let behind_it = whole own word between (left ++ piece) pieces later end rest then in
    let all : Gives own word between (left ++ (piece ++ concat pieces)) later end rest =
    subst (λ l. Gives own word between l later end rest) (append_assoc left piece (concat pieces)) behind_it.0 in (
      subst (λ l. Gives own word side (kept ++ concat (piece ∷ pieces)) l end rest) (sym e)
          (joined own word (piece ++ concat pieces) later end rest side kept first between left given.0 all),
      behind_it.1,
    )

-- ---- one thing only

abbrev pub OneArrival : Type 0
OneArrival = (own : Identity) (side : Side) (bytes : List ℕ) (word : ℕ) → AreBytes bytes → listens (state_of side.standing) ≡ true →
    (due : Option Arrival) × ArrivalDue own side bytes word due × ((other : Option Arrival) → ArrivalDue own side bytes word other → other ≡ due)

acceptor_listens : (a : AcceptorState) → listens (acceptor_state a) ≡ true
acceptor_listens AwaitsName = refl
acceptor_listens _ = refl

pub listens_at : (standing : Standing) (own : Identity) (side : Side) (bytes : List ℕ) (word : ℕ) (due : Option Arrival)
    → DueAt standing own side bytes word due → listens (state_of standing) ≡ true
listens_at (Dialing d) own side bytes word due h = refl
listens_at (Accepting a) own side bytes word due h = acceptor_listens a
listens_at (Up introduction) own side bytes word due h = refl
listens_at (Losing introduction) own side bytes word due h = absurd h
listens_at Gone own side bytes word due h = absurd h

bytes_behind : (bytes : List ℕ) (n : ℕ) → AreBytes bytes → AreBytes (drop n bytes)
bytes_behind bytes n h = AreBytes-split bytes (take n bytes) (drop n bytes) h (sym (take-append-drop n bytes))

module _ (one : OneArrival) (own : Identity) (word : ℕ) where
  same : (side : Side) (bytes : List ℕ) (a b : Option Arrival) → AreBytes bytes → ArrivalDue own side bytes word a
      → ArrivalDue own side bytes word b → b ≡ a
  same side bytes a b h x y =
      let d = one own side bytes word h (listens_at side.standing own side bytes word a x) in
      d.2 b y ∙ sym (d.2 a x)

  at_rest : (side : Side) (bytes : List ℕ) (a : Arrival) → AreBytes bytes → IsAtRest own word side bytes
      → ArrivalDue own side bytes word (Some a) → ⊥
  at_rest side bytes a h (inl none) d = let e : Some a ≡ None = same side bytes None (Some a) h none d in cc
  at_rest side bytes a h (inr deaf) d = let l = listens_at side.standing own side bytes word (Some a) d in cc

  pub once : (side : Side) (stream : List ℕ) (arrivals others : List Arrival) (end last : Side) (rest left : List ℕ) → AreBytes stream
      → GivesAll own word side stream arrivals end rest → GivesAll own word side stream others last left
      → (others ≡ arrivals) × (last ≡ end) × (left ≡ rest)
  once side stream [] [] end last rest left b g h = (refl, h.0.0 ∙ sym g.0.0, h.0.1 ∙ sym g.0.1)
  once side stream [] (x ∷ xs) end last rest left b g h =
      absurd (at_rest side stream x b (subst (λ s. IsAtRest own word s stream) g.0.0 (subst (λ l. IsAtRest own word end l) g.0.1 g.1)) h.0.0)
  once side stream (x ∷ xs) [] end last rest left b g h =
      absurd (at_rest side stream x b (subst (λ s. IsAtRest own word s stream) h.0.0 (subst (λ l. IsAtRest own word last l) h.0.1 h.1)) g.0.0)
  once side stream (x ∷ xs) (y ∷ ys) end last rest left b g h =
      let e : Some y ≡ Some x = same side stream (Some x) (Some y) b g.0.0 h.0.0 in
      let f : y ≡ x = cc in
      let tail : GivesAll own word (standing_as (Some x) side) (drop x.len stream) ys last left =
      (subst (λ z. Gives own word (standing_as (Some z) side) (drop z.len stream) ys last left) f h.0.1, h.1) in
      let r = once (standing_as (Some x) side) (drop x.len stream) xs ys end last rest left (bytes_behind stream x.len b) (g.0.1, g.1) tail in
      (ap (λ z. z ∷ ys) f ∙ ap (λ zs. x ∷ zs) r.0, r.1, r.2)
