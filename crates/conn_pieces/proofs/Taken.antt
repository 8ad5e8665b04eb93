-- What is taken of a beginning of a stream, and of the whole.
use Rattle.std.proofs.Common.{◌≡◌, ℕ, suc, ◌<◌, ◌≤◌, List, [], ◌∷◌, ◌++◌, length, drop, ap, sym, subst, arith}
use Rattle.std.proofs.lemmas.List.{append_cancel_right, drop-append-le, length-append, length-drop}
use Rattle.erl_handshake.specs.declared.identity.Identity.{Identity}
use Rattle.conn_pieces.specs.Streams.{AreWhole, Taking, Takes}
use Rattle.conn_pieces.proofs.Fronts.{more_due}
use Rattle.conn_pieces.proofs.Whole.{due_within, whole_due}

module _ (own : Identity) (more : List ℕ) where
  pub given : (front rest : List ℕ) (takings : List Taking) → Takes own front takings rest
      → Takes own (front ++ more) takings (rest ++ more)
  given front rest [] h = ap (λ l. l ++ more) h
  given front rest (t ∷ ts) h =
      let n : t.arrival.len ≤ length front = due_within own t.side front t.word t.arrival h.0 in (
        more_due own t.side front more t.word t.arrival h.0,
        subst (λ l. Takes own l ts (rest ++ more)) (sym (drop-append-le t.arrival.len front more n))
            (given (drop t.arrival.len front) rest ts h.1),
      )

-- ---- back

-- what is left is no longer than the stream
shorter : (own : Identity) (stream rest : List ℕ) (takings : List Taking) → Takes own stream takings rest → length rest ≤ length stream
shorter own stream rest [] h = let e : length rest ≡ length stream = ap length h in omega arith
shorter own stream rest (t ∷ ts) h =
    let n = shorter own (drop t.arrival.len stream) rest ts h.1 in
    let d = length-drop t.arrival.len stream in
    omega arith

module _ (own : Identity) (more : List ℕ) where
  pub taken : (front rest : List ℕ) (takings : List Taking) → AreWhole takings
      → Takes own (front ++ more) takings (rest ++ more) → Takes own front takings rest
  taken front rest [] w h = append_cancel_right rest front more h
  taken front rest (t ∷ ts) w h =
      let some : 0 < t.arrival.len = w 0 t (omega arith) in
      let inside = due_within own t.side (front ++ more) t.word t.arrival h.0 in
      let left = shorter own (drop t.arrival.len (front ++ more)) (rest ++ more) ts h.1 in
      let n : t.arrival.len ≤ length front =
      let d = length-drop t.arrival.len (front ++ more) in
      let e = length-append front more in
      let f = length-append rest more in
      omega arith in (
        whole_due own t.side front more t.word t.arrival some n h.0,
        taken (drop t.arrival.len front) rest ts (λ k d below. w (suc k) d (omega arith))
            (subst (λ l. Takes own l ts (rest ++ more)) (drop-append-le t.arrival.len front more n) h.1),
      )
