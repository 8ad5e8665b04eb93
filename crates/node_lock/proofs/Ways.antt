-- What the history has sent on a way, from a place on.
use Rattle.std.proofs.Common.{◌≡◌, ℕ, zero, suc, ◌+◌, ◌<◌, ◌≤◌, Bool, true, false, None, Some, List, [], ◌∷◌, ◌++◌, inl, inr, if◌then◌else◌}
use Rattle.std.proofs.Common.{drop, length, map, get_or, refl, sym, ap, ◌∙◌, subst, append_assoc, append-nil, arith, length-append}
use Rattle.dist_books.specs.Acting.{Way, on_ways, same_way}
use Rattle.dist_books.specs.Books.{Stamped}
use Rattle.dist_model.specs.Items.{Item}
use Rattle.dist_model.specs.Names.{Name}
use Rattle.dist_model.specs.declared.report.Effect.{Effect}
use Rattle.erl_names.specs.declared.trunk.TrunkId.{TrunkId}
use Rattle.dist_books.specs.Logs.{on, stamped}
use Rattle.node_history.specs.declared.entry.Entry.{Entry}
use Rattle.node_lock.specs.Waiting.{AreFramesOf, IsPlace, all_sent, effects_of, sent_behind, sent_in, waiting}
use Rattle.node_frames.specs.Frames.{AllSpelled, Framed, framed, shown}
use Rattle.node_core.specs.SentAt.{sent_at}

-- ---- one entry more

all_sent_snoc : (way : Way) (es : List Entry) (e : Entry) → all_sent way (es ++ e ∷ []) ≡ all_sent way es ++ sent_in way e
all_sent_snoc way [] e = append-nil (sent_in way e)
all_sent_snoc way (x ∷ es) e =
    ap (λ l. sent_in way x ++ l) (all_sent_snoc way es e) ∙ sym (append_assoc (sent_in way x) (all_sent way es) (sent_in way e))

behind_snoc : (way : Way) (n : ℕ) (x : Entry) (es : List Entry) (e : Entry)
    → sent_behind way n (x ∷ (es ++ e ∷ [])) ≡ sent_behind way n (x ∷ es) ++ sent_in way e
behind_snoc way n x es e =
    let front = stamped x.stamp (sent_at way.0 way.1 (drop n (effects_of x.answer))) in
    ap (λ l. front ++ l) (all_sent_snoc way es e) ∙ sym (append_assoc front (all_sent way es) (sent_in way e))

earlier : (i j : ℕ) (x : Entry) (es : List Entry) → IsPlace (suc i) j (x ∷ es) → IsPlace i j es
earlier i j x es (inl h) = inl (omega arith)
earlier i j x es (inr h) = inr (omega (arith, h.0), h.1)

pub waiting_snoc : (way : Way) (i j : ℕ) (es : List Entry) (e : Entry) → IsPlace i j es
    → waiting way i j (es ++ e ∷ []) ≡ waiting way i j es ++ sent_in way e
waiting_snoc way i j [] e (inl h) = absurd (omega arith)
waiting_snoc way i j [] e (inr h) =
    let P : ℕ → ℕ → Type 0 = λ a b. waiting way a b (e ∷ []) ≡ waiting way a b [] ++ sent_in way e in
    subst (λ a. P a j) (sym h.0) (subst (λ b. P 0 b) (sym h.1) (append-nil (sent_in way e)))
waiting_snoc way zero j (x ∷ es) e p = behind_snoc way j x es e
waiting_snoc way (suc i) j (x ∷ es) e p = waiting_snoc way i j es e (earlier i j x es p)

pub place_snoc : (i j : ℕ) (es : List Entry) (e : Entry) → IsPlace i j es → IsPlace i j (es ++ e ∷ [])
place_snoc i j es e (inl h) = inl (omega (arith, length-append es (e ∷ [])))
place_snoc i j es e (inr h) = inl (omega (arith, h.0, length-append es (e ∷ [])))

-- ---- from a place on

pub none_behind : (way : Way) (es : List Entry) → waiting way (length es) 0 es ≡ []
none_behind way [] = refl
none_behind way (x ∷ es) = none_behind way es

whole_entries : (way : Way) (es : List Entry) → sent_behind way 0 es ≡ all_sent way es
whole_entries way [] = refl
whole_entries way (x ∷ es) = refl

pub waiting_here : (way : Way) (i j : ℕ) (es : List Entry) (d : Entry) → i < length es
    → waiting way i j es ≡ stamped (get_or es i d).stamp (sent_at way.0 way.1 (drop j (effects_of (get_or es i d).answer)))
    ++ waiting way (i + 1) 0 es
waiting_here way i j [] d h = absurd (omega arith)
waiting_here way zero j (x ∷ es) d h =
    ap (λ l. stamped x.stamp (sent_at way.0 way.1 (drop j (effects_of x.answer))) ++ l) (sym (whole_entries way es))
waiting_here way (suc i) j (x ∷ es) d h =
    let e : suc i + 1 ≡ suc (i + 1) = omega arith in
    waiting_here way i j es d (omega arith)
    ∙ ap
    (λ n. stamped (get_or es i d).stamp (sent_at way.0 way.1 (drop j (effects_of (get_or es i d).answer))) ++ waiting way n 0 (x ∷ es))
    (sym e)

-- ---- what effects send

pub sent_cons : (t : TrunkId) (x : Name) (e : Effect Framed) (es : List (Effect Framed))
    → sent_at t x (e ∷ es) ≡ sent_at t x (e ∷ []) ++ sent_at t x es
sent_cons t x (Effect.Sent (Some on) peer frame) es =
    ap (λ l. l ++ sent_at t x es) (sym (append-nil (if same_way (t, x) (on, peer) then frame ∷ [] else [])))
sent_cons t x effect es = refl

-- ---- frames of items

pub frames_append : (fs gs : List (ℕ × Framed)) (xs ys : List Stamped) → AreFramesOf fs xs → AreFramesOf gs ys
    → AreFramesOf (fs ++ gs) (xs ++ ys)
frames_append [] gs [] ys h k = k
frames_append [] gs (x ∷ xs) ys h k = absurd h
frames_append (f ∷ fs) gs [] ys h k = absurd h
frames_append (f ∷ fs) gs (x ∷ xs) ys h k = (h.0, frames_append fs gs xs ys h.1 k)

one_more : (stamp : ℕ) (b : Bool) (item : Item) (fs : List Framed) (items : List Item) → AllSpelled (Effect.Sent None [] item ∷ [])
    → AreFramesOf (stamped stamp fs) (stamped stamp items)
    → AreFramesOf (stamped stamp ((if b then framed item ∷ [] else []) ++ fs)) (stamped stamp ((if b then item ∷ [] else []) ++ items))
one_more stamp true item fs items s h = (record { stamp = refl; frame_is = refl; spelled = s.0 }, h)
one_more stamp false item fs items s h = h

pub frames_of_sent : (stamp : ℕ) (way : Way) (effects : List (Effect Item)) → AllSpelled effects
    → AreFramesOf (stamped stamp (sent_at way.0 way.1 (map shown effects))) (stamped stamp (on same_way way (on_ways effects)))
frames_of_sent stamp way [] s = tt
frames_of_sent stamp way (Effect.Sent (Some trunk) peer item ∷ rest) s =
    one_more stamp (same_way way (trunk, peer)) item (sent_at way.0 way.1 (map shown rest)) (on same_way way (on_ways rest))
    (s.0, tt) (frames_of_sent stamp way rest s.1)
frames_of_sent stamp way (effect ∷ rest) s = frames_of_sent stamp way rest s.1

-- ---- effect by effect, and entry by entry

pub drop_past : {A : Type 0} (n : ℕ) (xs : List A) → length xs ≤ n → drop n xs ≡ []
drop_past zero [] h = refl
drop_past zero (x ∷ xs) h = absurd (omega arith)
drop_past (suc n) [] h = refl
drop_past (suc n) (x ∷ xs) h = drop_past n xs (omega arith)

drop_here : {A : Type 0} (n : ℕ) (xs : List A) (d : A) → n < length xs → drop n xs ≡ get_or xs n d ∷ drop (n + 1) xs
drop_here n [] d h = absurd (omega arith)
drop_here zero (x ∷ xs) d h = refl
drop_here (suc n) (x ∷ xs) d h =
    let e : suc n + 1 ≡ suc (n + 1) = omega arith in
    drop_here n xs d (omega arith) ∙ ap (λ k. get_or xs n d ∷ drop k (x ∷ xs)) (sym e)

pub sent_here : (t : TrunkId) (x : Name) (n : ℕ) (es : List (Effect Framed)) (d : Effect Framed) → n < length es
    → sent_at t x (drop n es) ≡ sent_at t x (get_or es n d ∷ []) ++ sent_at t x (drop (n + 1) es)
sent_here t x n es d h = ap (λ l. sent_at t x l) (drop_here n es d h) ∙ sent_cons t x (get_or es n d) (drop (n + 1) es)

-- an entry that sends nothing more is passed
pub waiting_passed : (way : Way) (i j : ℕ) (es : List Entry) (d : Entry) → i < length es
    → sent_at way.0 way.1 (drop j (effects_of (get_or es i d).answer)) ≡ [] → waiting way (i + 1) 0 es ≡ waiting way i j es
waiting_passed way i j es d h none =
    sym (waiting_here way i j es d h ∙ ap (λ l. stamped (get_or es i d).stamp l ++ waiting way (i + 1) 0 es) none)

-- one that sends something more
pub waiting_found : (way : Way) (i j k : ℕ) (es : List Entry) (d : Entry) (frame : Framed) → i < length es
    → sent_at way.0 way.1 (drop j (effects_of (get_or es i d).answer)) ≡ frame
    ∷ sent_at way.0 way.1 (drop k (effects_of (get_or es i d).answer))
    → waiting way i j es ≡ ((get_or es i d).stamp, frame) ∷ waiting way i k es
waiting_found way i j k es d frame h some =
    waiting_here way i j es d h ∙ ap (λ l. stamped (get_or es i d).stamp l ++ waiting way (i + 1) 0 es) some
    ∙ ap (λ l. ((get_or es i d).stamp, frame) ∷ l) (sym (waiting_here way i k es d h))

pub waiting_past : (way : Way) (i j : ℕ) (es : List Entry) → length es ≤ i → waiting way i j es ≡ []
waiting_past way i j es h = ap (λ l. sent_behind way j l) (drop_past i es h)
