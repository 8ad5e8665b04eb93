-- A list of breaks with one more, which stands in place of an earlier one of the same node and peer.
use Rattle.std.proofs.Common.{◌≡◌, ℕ, suc, ◌+◌, ◌<◌, ◌≤◌, Bool, true, false, cond, not, nat_lt, List, [], ◌∷◌, ◌++◌, get_or, length, slice_set, position}
use Rattle.std.proofs.Common.{Option, None, Some, unwrap_or, refl, sym, ap, ◌∙◌, ◌&&◌, arith}
use Rattle.std.proofs.lemmas.Bool.{and_parts, ltb-false, ltb-true}
use Rattle.std.specs.List.{find, position_or_len}
use Rattle.std.specs.Option.{option_map}
use Rattle.conn_core.specs.declared.arrival.Fault.{Fault}
use Rattle.dist_model.proofs.Keys.{same_name_true}
use Rattle.dist_model.specs.Names.{Name, same_name}
use Rattle.run_traces.specs.Breaks.{broken_in, is_of, with_break}
use Rattle.run_traces.specs.declared.breaks.Break.{Break}

abbrev pub put_fault : (node peer : Name) → Fault → List Break → List Break
put_fault node peer fault [] = record { node = node; peer = peer; fault = fault } ∷ []
put_fault node peer fault (b ∷ rest) =
    cond (is_of node peer b) (record b { fault = fault } ∷ rest) (b ∷ put_fault node peer fault rest)

clash : {A : Type 0} (b : Bool) → b ≡ true → b ≡ false → A
clash b h k = cc

-- a break of the node and the peer is asked for by their names
same_pair : (node peer : Name) (b : Break) (n p : Name) → is_of node peer b ≡ true → is_of n p b ≡ (same_name node n && same_name peer p)
same_pair node peer b n p h =
    let parts = and_parts (same_name b.node node) (same_name b.peer peer) h in
    λ i. same_name (same_name_true b.node node parts.0 i) n && same_name (same_name_true b.peer peer parts.1 i) p

-- any other isn't
other_pair : (node peer : Name) (b : Break) (n p : Name) → (same_name node n && same_name peer p) ≡ true → is_of node peer b ≡ false
    → is_of n p b ≡ false
other_pair node peer b n p w f =
    let parts = and_parts (same_name node n) (same_name peer p) w in
    (λ i. same_name b.node (sym (same_name_true node n parts.0) i) && same_name b.peer (sym (same_name_true peer p parts.1) i)) ∙ f

abbrev told : Option Break → Option Fault
told found = option_map (λ (it : Break). it.fault) found

pub put_breaks : (node peer : Name) (fault : Fault) (l : List Break) (n p : Name)
    → broken_in (put_fault node peer fault l) n p ≡ with_break node peer fault (broken_in l) n p
put_breaks node peer fault [] n p = go (same_name node n && same_name peer p)
  where
    go : (w : Bool) → told (cond w (Some (record { node = node; peer = peer; fault = fault })) None) ≡ cond w (Some fault) None
    go true = refl
    go false = refl
put_breaks node peer fault (b ∷ rest) n p = at (put_breaks node peer fault rest n p) (is_of node peer b) refl
  where
    asked : Bool
    asked = same_name node n && same_name peer p

    before : Option Break
    before = find (is_of n p) rest

    now : Option Break
    now = find (is_of n p) (put_fault node peer fault rest)

    first : (q w : Bool) → q ≡ w → told (cond q (Some (record b { fault = fault })) before) ≡ cond w (Some fault) (told (cond q (Some b) before))
    first true true e = refl
    first false false e = refl
    first true false e = cc
    first false true e = cc

    later : told now ≡ cond asked (Some fault) (told before) → (w : Bool) → asked ≡ w → is_of node peer b ≡ false → (q : Bool) → is_of n p b ≡ q
        → told (cond q (Some b) now) ≡ cond w (Some fault) (told (cond q (Some b) before))
    later k true h f true e = clash (is_of n p b) e (other_pair node peer b n p h f)
    later k true h f false e = k ∙ ap (λ w. cond w (Some fault) (told before)) h
    later k false h f true e = refl
    later k false h f false e = k ∙ ap (λ w. cond w (Some fault) (told before)) h

    at : told now ≡ cond asked (Some fault) (told before) → (t : Bool) → is_of node peer b ≡ t
        → told (find (is_of n p) (cond t (record b { fault = fault } ∷ rest) (b ∷ put_fault node peer fault rest)))
        ≡ cond asked (Some fault) (told (cond (is_of n p b) (Some b) before))
    at k true h = first (is_of n p b) asked (same_pair node peer b n p h)
    at k false h = later k asked refl h (is_of n p b) refl

pub put_all : (node peer : Name) (fault : Fault) (l : List Break)
    → broken_in (put_fault node peer fault l) ≡ with_break node peer fault (broken_in l)
put_all node peer fault l = λ i n p. put_breaks node peer fault l n p i

-- ---- the place of the first

placed : (b : Bool) (n k : ℕ) → cond b (Some n) None ≡ Some k → (b ≡ true) × (n ≡ k)
placed true n k h = (refl, ap (λ o. unwrap_or o 0) h)
placed false n k h = cc

unplaced : (b : Bool) (n : ℕ) → cond b (Some n) None ≡ None → b ≡ false
unplaced true n h = cc
unplaced false n h = refl

set_first : (node peer : Name) (fault : Fault) (l : List Break) (d : Break) → position_or_len (is_of node peer) l < length l
    → slice_set l (position_or_len (is_of node peer) l) (record (get_or l (position_or_len (is_of node peer) l) d) { fault = fault })
    ≡ put_fault node peer fault l
set_first node peer fault [] d h = absurd (omega (arith, h))
set_first node peer fault (b ∷ rest) d h = go (λ k. set_first node peer fault rest d k) (is_of node peer b) h
  where
    next : ℕ
    next = position_or_len (is_of node peer) rest

    go : (next < length rest → slice_set rest next (record (get_or rest next d) { fault = fault }) ≡ put_fault node peer fault rest)
        → (t : Bool) → cond (not t) (1 + next) 0 < suc (length rest)
        → slice_set (b ∷ rest) (cond (not t) (1 + next) 0) (record (get_or (b ∷ rest) (cond (not t) (1 + next) 0) d) { fault = fault })
        ≡ cond t (record b { fault = fault } ∷ rest) (b ∷ put_fault node peer fault rest)
    go f true k = refl
    go f false k =
        let one : 1 + next ≡ suc next = omega arith in
        ap (λ (n : ℕ). slice_set (b ∷ rest) n (record (get_or (b ∷ rest) n d) { fault = fault })) one
        ∙ ap (λ (xs : List Break). b ∷ xs) (f (omega (arith, k)))

pub set_place : (node peer : Name) (fault : Fault) (l : List Break) (d : Break) (k : ℕ) → position (is_of node peer) l ≡ Some k
    → slice_set l k (record (get_or l k d) { fault = fault }) ≡ put_fault node peer fault l
set_place node peer fault l d k h =
    let at = placed (nat_lt (position_or_len (is_of node peer) l) (length l)) (position_or_len (is_of node peer) l) k h in
    ap (λ (place : ℕ). slice_set l place (record (get_or l place d) { fault = fault })) (sym at.1) ∙ set_first node peer fault l d (ltb-true (position_or_len (is_of node peer) l) (length l) at.0)

add_last : (node peer : Name) (fault : Fault) (l : List Break) → length l ≤ position_or_len (is_of node peer) l
    → l ++ record { node = node; peer = peer; fault = fault } ∷ [] ≡ put_fault node peer fault l
add_last node peer fault [] h = refl
add_last node peer fault (b ∷ rest) h = go (λ k. add_last node peer fault rest k) (is_of node peer b) h
  where
    next : ℕ
    next = position_or_len (is_of node peer) rest

    go : (length rest ≤ next → rest ++ record { node = node; peer = peer; fault = fault } ∷ [] ≡ put_fault node peer fault rest)
        → (t : Bool) → suc (length rest) ≤ cond (not t) (1 + next) 0
        → b ∷ (rest ++ record { node = node; peer = peer; fault = fault } ∷ [])
        ≡ cond t (record b { fault = fault } ∷ rest) (b ∷ put_fault node peer fault rest)
    go f true k = absurd (omega (arith, k))
    go f false k = ap (λ (xs : List Break). b ∷ xs) (f (omega (arith, k)))

pub add_place : (node peer : Name) (fault : Fault) (l : List Break) → position (is_of node peer) l ≡ None
    → l ++ record { node = node; peer = peer; fault = fault } ∷ [] ≡ put_fault node peer fault l
add_place node peer fault l h =
    add_last node peer fault l
    (ltb-false (position_or_len (is_of node peer) l) (length l)
    (unplaced (nat_lt (position_or_len (is_of node peer) l) (length l)) (position_or_len (is_of node peer) l) h))
