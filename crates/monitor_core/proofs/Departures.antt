-- What a call does at a reference, and that a reference leaves no more often than it comes.
use Rattle.std.proofs.Common.{◌≡◌, ◌≢◌, ◌↔◌, IsTrue, ℕ, ◌+◌, ◌≤◌, Bool, true, false, cond, ◌&&◌}
use Rattle.std.proofs.Common.{List, [], ◌∷◌, Option, None, Some, is_some, refl, sym, ap, ◌∙◌, arith}
use Rattle.std.specs.declared.cmp.Ordering.{Ordering}
use Rattle.std.specs.declared.cmp.Ordering.TheVariants.{Less, Equal, Greater}
use Rattle.std.specs.Ordering.{is_eq, eq_by_cmp}
use Rattle.std.proofs.lemmas.Cmp.{tied_itself}
use Rattle.std.specs.FinMap as map
use Rattle.std.specs.Option.{option_map}
use Rattle.erl_term.specs.declared.term.Reference.{Reference}
use Rattle.monitor_core.specs.declared.monitor.Watch.{Watch}
use Rattle.erl_term.specs.Order.{reference_cmp}
use Rattle.monitor_core.specs.Monitors.{MonitorMap, added, is_held}
use Rattle.monitor_core.specs.Runs.{Call, Adds, Removes, Ends, takes, called, reference_of, is_add, additions, departures}
use Rattle.erl_term.proofs.Order.{reference_cmp_total, reference_cmp_exact}
use Rattle.monitor_core.proofs.Maps.{equal_reference, is_some_mapped}
use Rattle.monitor_core.proofs.Held.{this_held, held_this}

same_reference : (r : Reference) → eq_by_cmp reference_cmp r r ≡ true
same_reference r = ap is_eq (tied_itself reference_cmp_total r)

other_reference : (q r : Reference) → q ≢ r → eq_by_cmp reference_cmp q r ≡ false
other_reference q r n = go (reference_cmp q r) refl
  where
    go : (o : Ordering) → reference_cmp q r ≡ o → is_eq o ≡ false
    go Less e = refl
    go Equal e = absurd (n (reference_cmp_exact q r e))
    go Greater e = refl

-- what a call leaves at a reference
pub get_removed : {M : Type 0} (m : MonitorMap M) (r : Reference) → map.get (map.remove m r) r ≡ None
get_removed m r = map.get-remove reference_cmp_total m r r ∙ ap (λ b. cond b None (map.get m r)) (same_reference r)

pub get_added : {M : Type 0} (m : MonitorMap M) (r : Reference) (e : M) → map.get m r ≡ None → map.get (added m r e) r ≡ Some e
get_added m r e none =
    ap (λ o. map.get (cond (is_some o) m (map.insert m r e)) r) none
    ∙ map.get-insert reference_cmp_total m r e r ∙ ap (λ b. cond b (Some e) (map.get m r)) (same_reference r)

pub added_held : {M : Type 0} (m : MonitorMap M) (r : Reference) (e held : M) → map.get m r ≡ Some held → added m r e ≡ m
added_held m r e held h = ap (λ o. cond (is_some o) m (map.insert m r e)) h

-- other references keep what they have
kept_if : {M : Type 0} (b : Bool) (m n : MonitorMap M) (q : Reference) → map.get n q ≡ map.get m q → map.get (cond b n m) q ≡ map.get m q
kept_if true m n q e = e
kept_if false m n q e = refl

kept_unless : {M : Type 0} (b : Bool) (m n : MonitorMap M) (q : Reference) → map.get n q ≡ map.get m q → map.get (cond b m n) q ≡ map.get m q
kept_unless true m n q e = refl
kept_unless false m n q e = e

other_removed : {M : Type 0} (m : MonitorMap M) (r q : Reference) → q ≢ r → map.get (map.remove m r) q ≡ map.get m q
other_removed m r q n = map.get-remove reference_cmp_total m r q ∙ ap (λ b. cond b None (map.get m q)) (other_reference q r n)

other_inserted : {M : Type 0} (m : MonitorMap M) (r : Reference) (e : M) (q : Reference) → q ≢ r → map.get (map.insert m r e) q ≡ map.get m q
other_inserted m r e q n = map.get-insert reference_cmp_total m r e q ∙ ap (λ b. cond b (Some e) (map.get m q)) (other_reference q r n)

-- a reference is in once, or not at all: what a call takes out of it and leaves is no more than what was there and what the call adds
abbrev times : {M : Type 0} → Option M → ℕ
times o = cond (is_some o) 1 0

take_out : {M : Type 0} (b : Bool) (x y : Option M) → (b ≡ true → x ≡ y) → cond (is_some x && b) 1 0 + times (cond b None y) ≤ times y
take_out true (Some v) y h = let e : times y ≡ 1 = ap times (sym (h refl)) in omega (arith, e)
take_out false None y h = omega arith
take_out _ _ y h = omega arith

put_in : {M : Type 0} (b c : Bool) (v : M) (y : Option M) → times (cond c y (cond b (Some v) y)) ≤ times y + cond b 1 0
put_in b true v y = omega arith
put_in true false v y = omega arith
put_in false false v y = omega arith

same_if : {M : Type 0} (c : Bool) (m n : MonitorMap M) (r : Reference) (o : Option M) → map.get n r ≡ o
    → map.get (cond c m n) r ≡ cond c (map.get m r) o
same_if true m n r o e = refl
same_if false m n r o e = e

end_out : {M : Type 0} (t b : Bool) (x y : Option M) (o : ℕ) → (t ≡ true → is_some x ≡ true) → (b ≡ true → x ≡ y)
    → (t ≡ true → o ≡ times (cond b None y)) → (t ≡ false → o ≡ times y) → cond (t && b) 1 0 + o ≤ times y
end_out true b x y o h e p q =
    let s : cond (is_some x && b) 1 0 ≡ cond b 1 0 = ap (λ (c : Bool). cond {A = ℕ} (c && b) 1 0) (h refl) in
    omega (arith, s, p refl, take_out b x y e)
end_out false b x y o h e p q = omega (arith, q refl)

-- ---- the calls

module _ {M : Type 0} (seen_as : M → Watch) where
  pub ended_held : (m : MonitorMap M) (r : Reference) (e : Watch) → option_map seen_as (map.get m r) ≡ Some e → called seen_as m (Ends r e) ≡ called seen_as m (Removes r)
  ended_held m r e h = ap (λ b. cond b (map.remove m r) m) (held_this _ e h)

  pub not_ended : (m : MonitorMap M) (r : Reference) (e : Watch) → option_map seen_as (map.get m r) ≢ Some e → called seen_as m (Ends r e) ≡ m
  not_ended m r e n = go (is_held seen_as m r e) refl
    where
      go : (b : Bool) → is_held seen_as m r e ≡ b → cond b (map.remove m r) m ≡ m
      go true t = absurd (n (this_held _ e t))
      go false t = refl

  pub taken_by_end : (m : MonitorMap M) (r : Reference) (e : Watch) → IsTrue (takes seen_as m (Ends r e)) ↔ (option_map seen_as (map.get m r) ≡ Some e)
  taken_by_end m r e = (this_held _ e, held_this _ e)

  pub others_kept : (m : MonitorMap M) (call : Call M) (q : Reference) → q ≢ reference_of call → map.get (called seen_as m call) q ≡ map.get m q
  others_kept m (Adds r e) q n = kept_unless (map.contains_key m r) m _ q (other_inserted m r e q n)
  others_kept m (Removes r) q n = other_removed m r q n
  others_kept m (Ends r e) q n = kept_if (is_held seen_as m r e) m _ q (other_removed m r q n)

  step : (r : Reference) (m : MonitorMap M) (call : Call M)
      → cond (takes seen_as m call && eq_by_cmp reference_cmp r (reference_of call)) 1 0 + times (map.get (called seen_as m call) r)
      ≤ times (map.get m r) + cond (is_add call && eq_by_cmp reference_cmp r (reference_of call)) 1 0
  step r m (Adds q e) =
      let l = same_if (map.contains_key m q) m (map.insert m q e) r _ (map.get-insert reference_cmp_total m q e r) in
      omega (arith, ap times l, put_in (eq_by_cmp reference_cmp r q) (map.contains_key m q) e (map.get m r))
  step r m (Removes q) =
      let l = map.get-remove reference_cmp_total m q r in
      let same : eq_by_cmp reference_cmp r q ≡ true → map.get m q ≡ map.get m r = λ t. ap (map.get m) (sym (equal_reference r q t)) in
      omega (arith, ap times l, take_out (eq_by_cmp reference_cmp r q) (map.get m q) (map.get m r) same)
  step r m (Ends q e) =
      let same : eq_by_cmp reference_cmp r q ≡ true → map.get m q ≡ map.get m r = λ t. ap (map.get m) (sym (equal_reference r q t)) in
      let out = end_out (is_held seen_as m q e) (eq_by_cmp reference_cmp r q) (map.get m q) (map.get m r) (times (map.get (called seen_as m (Ends q e)) r))
      (λ t. sym (is_some_mapped seen_as (map.get m q)) ∙ ap is_some (this_held _ e t)) same
      (λ t. ap (λ b. times (map.get (cond b (map.remove m q) m) r)) t ∙ ap times (map.get-remove reference_cmp_total m q r))
      (λ t. ap (λ b. times (map.get (cond b (map.remove m q) m) r)) t) in
      omega (arith, out)

  pub no_more_than_added : (r : Reference) (calls : List (Call M)) (m : MonitorMap M)
      → departures seen_as r calls m ≤ times (map.get m r) + additions r calls
  no_more_than_added r [] m = omega arith
  no_more_than_added r (call ∷ calls) m = omega (arith, step r m call, no_more_than_added r calls (called seen_as m call))

  pub gone : (r : Reference) (calls : List (Call M)) (m : MonitorMap M) → map.get m r ≡ None → additions r calls ≡ 0 → departures seen_as r calls m ≡ 0
  gone r calls m none h = omega (arith, no_more_than_added r calls m, ap times none)

  pub from_nothing : (calls : List (Call M)) (r : Reference) → departures seen_as r calls map.empty ≤ additions r calls
  from_nothing calls r = omega (arith, no_more_than_added r calls map.empty, ap (times {M = M}) (map.get-empty reference_cmp r))

  pub gone_by_end : (r : Reference) (e : Watch) (calls : List (Call M)) (m : MonitorMap M) → IsTrue (takes seen_as m (Ends r e))
      → additions r calls ≡ 0 → departures seen_as r calls (called seen_as m (Ends r e)) ≡ 0
  gone_by_end r e calls m t h =
      gone r calls _ (ap (λ b. map.get (cond b (map.remove m r) m) r) t ∙ get_removed m r) h
