-- Where a side lies, and what an edit there makes of the map.
use Rattle.std.proofs.Common.{◌≡◌, ℕ, zero, suc, ◌<◌, ◌≤◌, Bool, true, false, cond, not, T, List, [], ◌∷◌, length, get_or, set}
use Rattle.std.proofs.Common.{None, Some, Result, Ok, Err, IfOk, IfErr, OnOk, IsOk, refl, sym, ap, subst, ◌∙◌, arith}
use Rattle.std.specs.List.{insert, remove}
use Rattle.std.proofs.lemmas.Option.{same_Some}
use Rattle.std.proofs.lemmas.List.{map-set}
use Rattle.std.proofs.lemmas.Bool.{and_parts}
use Rattle.std.specs.List.Sorted.{IsSearchInRange, IsBinarySearchResult}
use Rattle.std.specs.declared.cmp.Ordering.TheVariants.{Less, Equal, Greater}
use Rattle.std.specs.Ordering.{eq_by_cmp, ordering_index}
use Rattle.std.specs.Result.{is_ok}
use Rattle.std.specs.FinMap as fm
use Rattle.std.specs.FinMap.{FinMap, find, put, is_sorted}
use Rattle.conn_core.specs.declared.standing.Standing.{Standing}
use Rattle.conn_core.specs.declared.standing.Standing.TheVariants as standing
use Rattle.erl_handshake.specs.declared.acceptor.AcceptorState.TheVariants as acceptor
use Rattle.erl_handshake.specs.declared.dialer.DialerState.TheVariants as dialer
use Rattle.node_tables.specs.Changes.{stood, stood_at}
use Rattle.std.specs.Cmp.Derive.{both_true}
use Rattle.conn_core.specs.declared.side.Side.{Side}
use Rattle.dist_model.proofs.Keys.{trunk_exact, trunk_total}
use Rattle.dist_model.specs.Sides.{TrunkSide, is_gone}
use Rattle.erl_names.specs.Order.{trunk_cmp}
use Rattle.erl_names.specs.declared.trunk.TrunkId.{TrunkId}
use Rattle.sorted_map.proofs.Orderings.{is_true}
use Rattle.sorted_map.proofs.Places.{found_in_range, finds, finds_none, gap_in_range, put_found, put_gap, searched, without_found}
use Rattle.sorted_map.specs.Entries.{without, IsFoundAt, IsGapAt}
use Rattle.sorted_map.specs.Maps.{sorted_put, sorted_without}
use Rattle.node_tables.specs.Standings.{all_open, entries_of, entry_of, is_open, is_settled, side_of, standing_side, state_of}

abbrev pub Entry : Type 0
Entry = TrunkId × TrunkSide

abbrev pub IsSorted : List Side → Type 0
IsSorted held = is_sorted trunk_cmp (entries_of held) ≡ true

pub holds : (b : Bool) → b ≡ true → T b
holds true h = tt
holds false h = cc

-- ---- the entry of a side at a place

pub entries_length : (held : List Side) → length (entries_of held) ≡ length held
entries_length [] = refl
entries_length (x ∷ xs) = ap suc (entries_length xs)

pub entry_at : (held : List Side) (i : ℕ) (d : Side) → get_or (entries_of held) i (entry_of d) ≡ entry_of (get_or held i d)
entry_at [] i d = refl
entry_at (x ∷ xs) zero d = refl
entry_at (x ∷ xs) (suc i) d = entry_at xs i d

at_entry : (P : Entry → Type 0) (held : List Side) (i : ℕ) (d : Entry) → i < length held
    → ((e : Side) → P (entry_of (get_or held i e))) → P (get_or (entries_of held) i d)
at_entry P [] i d l h = absurd (omega arith)
at_entry P (x ∷ xs) zero d l h = h x
at_entry P (x ∷ xs) (suc i) d l h = at_entry P xs i d (omega arith) h

pub searched_sides : (held : List Side) (q : TrunkId) (r : Result ℕ ℕ) → IsSorted held → IsSearchInRange r (length held)
    → IsBinarySearchResult (λ s. trunk_cmp s.trunk q) held r
    → record { found : IfOk r (IsFoundAt trunk_cmp (entries_of held) q); gap : IfErr r (IsGapAt trunk_cmp (entries_of held) q) }
searched_sides held q (Ok at) s bound h =
    searched trunk_total (entries_of held) q (Ok at) (holds _ s) (subst (λ n. at < n) (sym (entries_length held)) bound)
    (λ d. at_entry (λ e. trunk_cmp e.0 q ≡ Equal) held at d bound h)
searched_sides held q (Err at) s bound h =
    searched trunk_total (entries_of held) q (Err at) (holds _ s) (subst (λ n. at ≤ n) (sym (entries_length held)) bound)
    (λ rise.
    let parted = h (λ i j d le l.
    subst (λ (b : Entry). ordering_index (trunk_cmp (get_or held i d).trunk q) ≤ ordering_index (trunk_cmp b.0 q)) (entry_at held j d)
    (subst
    (λ (a : Entry). ordering_index (trunk_cmp a.0 q) ≤ ordering_index (trunk_cmp (get_or (entries_of held) j (entry_of d)).0 q))
    (entry_at held i d)
    (rise i j (entry_of d) le (subst (λ n. j < n) (sym (entries_length held)) l)))) in (
      λ k d le lt. at_entry (λ e. trunk_cmp e.0 q ≡ Less) held k d (omega (arith, bound)) (λ e. parted.0 k e le lt),
      λ k d le lt. let l : k < length held = subst (λ n. k < n) (entries_length held) lt in
          at_entry (λ e. trunk_cmp e.0 q ≡ Greater) held k d l (λ e. parted.1 k e le l),
    ))

-- ---- what a place holds

found_trunk : (es : List Entry) (q : TrunkId) (at : ℕ) (d : Entry) → IsFoundAt trunk_cmp es q at → (get_or es at d).0 ≡ q
found_trunk [] q at d h = absurd h
found_trunk (e ∷ rest) q zero d h = trunk_exact e.0 q h
found_trunk (e ∷ rest) q (suc at) d h = found_trunk rest q at d h.1

pub place_found : (held : List Side) (q : TrunkId) (at : ℕ) → IsFoundAt trunk_cmp (entries_of held) q at → at < length held
place_found held q at h = subst (λ n. at < n) (entries_length held) (found_in_range trunk_total (entries_of held) q at h)

pub place_gap : (held : List Side) (q : TrunkId) (at : ℕ) → IsGapAt trunk_cmp (entries_of held) q at → at ≤ length held
place_gap held q at h = subst (λ n. at ≤ n) (entries_length held) (gap_in_range trunk_total (entries_of held) q at h)

module _ (held : List Side) (q : TrunkId) (at : ℕ) (x : Side) (is : x ≡ get_or held at x)
    (h : IsFoundAt trunk_cmp (entries_of held) q at) where
  here : get_or (entries_of held) at (entry_of x) ≡ entry_of x
  here = entry_at held at x ∙ ap entry_of (sym is)

  pub there_trunk : x.trunk ≡ q
  there_trunk = sym (ap (λ (e : Entry). e.0) here) ∙ found_trunk (entries_of held) q at (entry_of x) h

  pub there_found : find trunk_cmp q (entries_of held) ≡ Some (side_of x)
  there_found = finds trunk_total (entries_of held) q at (entry_of x) h ∙ ap (λ (e : Entry). Some e.1) here

  pub set_puts : (y : Side) → y.trunk ≡ x.trunk → entries_of (set held at y) ≡ put trunk_cmp q (side_of y) (entries_of held)
  set_puts y e =
      map-set entry_of held at y ∙ ap (λ (t : TrunkId). set (entries_of held) at (t, side_of y)) (e ∙ sym (ap (λ (d : Entry). d.0) here))
      ∙ sym (put_found trunk_total (entries_of held) q (side_of y) at (entry_of x) h)

entries_insert : (held : List Side) (at : ℕ) (y : Side) → entries_of (insert held at y) ≡ insert (entries_of held) at (entry_of y)
entries_insert held zero y = refl
entries_insert [] (suc at) y = refl
entries_insert (x ∷ xs) (suc at) y = ap (λ l. entry_of x ∷ l) (entries_insert xs at y)

pub insert_puts : (held : List Side) (at : ℕ) (y : Side) → IsGapAt trunk_cmp (entries_of held) y.trunk at
    → entries_of (insert held at y) ≡ put trunk_cmp y.trunk (side_of y) (entries_of held)
insert_puts held at y h = entries_insert held at y ∙ sym (put_gap trunk_total (entries_of held) y.trunk (side_of y) at h)

pub put_sorted : (held fs : List Side) (q : TrunkId) (v : TrunkSide) → IsSorted held
    → entries_of fs ≡ put trunk_cmp q v (entries_of held) → IsSorted fs
put_sorted held fs q v s e = ap (is_sorted trunk_cmp) e ∙ is_true _ (sorted_put trunk_total q v (entries_of held) (holds _ s))

entries_remove : (held : List Side) (at : ℕ) → entries_of (remove held at) ≡ remove (entries_of held) at
entries_remove [] zero = refl
entries_remove [] (suc at) = refl
entries_remove (x ∷ xs) zero = refl
entries_remove (x ∷ xs) (suc at) = ap (λ l. entry_of x ∷ l) (entries_remove xs at)

module _ (held : List Side) (q : TrunkId) (at : ℕ) (s : IsSorted held) where
  pub remove_takes : IsFoundAt trunk_cmp (entries_of held) q at → entries_of (remove held at) ≡ without trunk_cmp q (entries_of held)
  remove_takes h = entries_remove held at ∙ sym (without_found trunk_total (entries_of held) q at (holds _ s) h)

  pub remove_sorted : IsFoundAt trunk_cmp (entries_of held) q at → IsSorted (remove held at)
  remove_sorted h =
      ap (is_sorted trunk_cmp) (remove_takes h)
      ∙ is_true _ (sorted_without trunk_total trunk_exact q (entries_of held) (holds _ s))

-- ---- none is gone

pub open_read : (held : List Side) (at : ℕ) (x : Side) → at < length held → x ≡ get_or held at x → all_open held ≡ true
    → is_open x ≡ true
open_read held at x l is h = ap (λ (s : Side). is_open s) is ∙ go held at x l h
  where
    go : (held : List Side) (at : ℕ) (x : Side) → at < length held → all_open held ≡ true → is_open (get_or held at x) ≡ true
    go [] at x l h = absurd (omega arith)
    go (y ∷ ys) zero x l h = (and_parts (is_open y) _ h).0
    go (y ∷ ys) (suc at) x l h = go ys at x (omega arith) (and_parts (is_open y) _ h).1

pub open_set : (held : List Side) (at : ℕ) (x : Side) → is_open x ≡ true → all_open held ≡ true → all_open (set held at x) ≡ true
open_set [] at x s h = refl
open_set (y ∷ ys) zero x s h = both_true s (and_parts (is_open y) _ h).1
open_set (y ∷ ys) (suc at) x s h = let t = and_parts (is_open y) _ h in both_true t.0 (open_set ys at x s t.1)

pub open_insert : (held : List Side) (at : ℕ) (x : Side) → is_open x ≡ true → all_open held ≡ true → all_open (insert held at x) ≡ true
open_insert held zero x s h = both_true s h
open_insert [] (suc at) x s h = both_true s refl
open_insert (y ∷ ys) (suc at) x s h = let t = and_parts (is_open y) _ h in both_true t.0 (open_insert ys at x s t.1)

pub open_remove : (held : List Side) (at : ℕ) → all_open held ≡ true → all_open (remove held at) ≡ true
open_remove [] zero h = refl
open_remove [] (suc at) h = refl
open_remove (y ∷ ys) zero h = (and_parts (is_open y) _ h).1
open_remove (y ∷ ys) (suc at) h = let t = and_parts (is_open y) _ h in both_true t.0 (open_remove ys at t.1)

pub open_find : (held : List Side) (q : TrunkId) (s : TrunkSide) → all_open held ≡ true → find trunk_cmp q (entries_of held) ≡ Some s
    → is_gone s.state ≡ false
open_find [] q s h f = cc
open_find (x ∷ xs) q s h f = go (eq_by_cmp trunk_cmp q x.trunk) f (open_find xs q s (and_parts (is_open x) _ h).1)
  where
    shut : (b : Bool) → not b ≡ true → b ≡ false
    shut true k = cc
    shut false k = refl

    go : (b : Bool) → cond b (Some (side_of x)) (find trunk_cmp q (entries_of xs)) ≡ Some s
        → (find trunk_cmp q (entries_of xs) ≡ Some s → is_gone s.state ≡ false) → is_gone s.state ≡ false
    go true k more = ap (λ (v : TrunkSide). is_gone v.state) (sym (same_Some (side_of x) s k)) ∙ shut _ (and_parts (is_open x) _ h).0
    go false k more = more k

pub open_settled : (st : Standing) → not (is_gone (state_of st)) ≡ true → is_settled st ≡ true
open_settled (standing.Dialing (dialer.Done introduction)) h = cc
open_settled (standing.Dialing dialer.Over) h = cc
open_settled (standing.Accepting acceptor.AwaitsName) h = cc
open_settled (standing.Accepting (acceptor.AwaitsAdmission w introduction)) h = cc
open_settled (standing.Accepting (acceptor.Done introduction)) h = cc
open_settled (standing.Accepting acceptor.Over) h = cc
open_settled standing.Gone h = cc
open_settled st h = refl

pub gone_settled : (st : Standing) → is_settled st ≡ true → is_gone (state_of st) ≡ true → st ≡ standing.Gone
gone_settled (standing.Dialing (dialer.AwaitsStatus w)) h g = cc
gone_settled (standing.Dialing (dialer.AwaitsChallenge w)) h g = cc
gone_settled (standing.Dialing (dialer.AwaitsAck w introduction)) h g = cc
gone_settled (standing.Accepting (acceptor.AwaitsAnswer w introduction)) h g = cc
gone_settled (standing.Accepting (acceptor.AwaitsTurn w introduction)) h g = cc
gone_settled (standing.Accepting (acceptor.AwaitsReply w introduction)) h g = cc
gone_settled (standing.Up introduction) h g = cc
gone_settled (standing.Losing introduction) h g = cc
gone_settled standing.Gone h g = refl
gone_settled st h g = cc

pub none_found : (held : List Side) (q : TrunkId) (at : ℕ) → IsSorted held → IsGapAt trunk_cmp (entries_of held) q at
    → find trunk_cmp q (entries_of held) ≡ None
none_found held q at s h = finds_none trunk_total (entries_of held) q at (holds _ s) h

pub no_some : {A : Type 0} (x : A) → Some x ≡ None → ⊥
no_some x h = cc

pub not_there : (held : List Side) (q : TrunkId) (at : ℕ) → IsFoundAt trunk_cmp (entries_of held) q at
    → find trunk_cmp q (entries_of held) ≡ None → ⊥
not_there [] q at h n = absurd h
not_there (x ∷ xs) q at h n = no_some _ (sym (finds trunk_total (entries_of (x ∷ xs)) q at (entry_of x) h) ∙ n)

-- ---- what a call that has room did

pub taken : {A E B : Type 0} (r : Result A E) (x y : B) → IsOk r → cond (is_ok r) x y ≡ x
taken (Ok v) x y h = refl
taken (Err v) x y h = cc

pub done : {A E : Type 0} (r : Result A E) (P : Type 0) → IsOk r → OnOk r P → P
done (Ok v) P h p = p
done (Err v) P h p = cc

-- ---- a side stands otherwise

pub stood_there : (m : FinMap trunk_cmp TrunkSide) (q : TrunkId) (standing : Standing) (x : TrunkSide) → fm.get m q ≡ Some x
    → stood m q standing ≡ fm.insert m q (standing_side x.peer standing)
stood_there m q standing x h = ap (stood_at m q standing) h

pub stood_none : (m : FinMap trunk_cmp TrunkSide) (q : TrunkId) (standing : Standing) → fm.get m q ≡ None → stood m q standing ≡ m
stood_none m q standing h = ap (stood_at m q standing) h
