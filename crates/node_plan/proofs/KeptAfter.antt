-- What a node keeps, once a plan is carried out.
use Rattle.std.proofs.Common.{◌≡◌, ℕ, ◌<◌, ◌+◌, ◌-◌, ◌^◌, Bool, true, false, cond, not, rules, nat_lt}
use Rattle.std.proofs.Common.{List, [], ◌∷◌, ◌++◌, map, Option, None, Some, refl, sym, ap, ◌∙◌, arith}
use Rattle.std.proofs.lemmas.List.{map-append}
use Rattle.std.proofs.lemmas.Bool.{and_parts}
use Rattle.std.specs.FinMap as fm
use Rattle.std.specs.Cmp.Derive.{both_true}
use Rattle.erl_control.specs.declared.signal.Signal.{Signal}
use Rattle.erl_names.proofs.Runs.{risen-le}
use Rattle.erl_names.specs.Ids.{reference_of}
use Rattle.erl_names.specs.Minted.{Minted, risen}
use Rattle.erl_term.specs.declared.term.Reference.{Reference}
use Rattle.dist_model.proofs.Entries.{same_reference_true}
use Rattle.dist_model.specs.Downs.{same_reference}
use Rattle.erl_term.proofs.Order.{reference_cmp_exact, reference_cmp_total}
use Rattle.monitor_core.specs.Left.{is_owned}
use Rattle.monitor_core.specs.Monitors.{WatchMap}
use Rattle.monitor_core.specs.declared.monitor.Watch.{Watch}
use Rattle.node_plan.specs.Suits.{IsNext}
use Rattle.node_plan.specs.Fresh.{IsFresh}
use Rattle.node_plan.specs.Keeps.{AreDrawn}
use Rattle.node_frames.specs.Sendable.{are_sendable, is_sendable}
use Rattle.node_plan.specs.Changed.{drawn_by, popped, spawned_by, watched, watches_left}
use Rattle.node_plan.specs.declared.change.Change.{Change}
use Rattle.node_plan.specs.declared.change.Change.TheVariants as change
use Rattle.node_plan.specs.declared.change.Draws.{Draws}
use Rattle.node_plan.specs.declared.change.Draws.TheVariants as draws
use Rattle.node_plan.specs.declared.change.LifeChange.TheVariants as life
use Rattle.node_plan.specs.declared.change.MonitorChange.{MonitorChange}
use Rattle.node_plan.specs.declared.change.MonitorChange.TheVariants as monitor

pub map_popped : {A B : Type 0} (f : A → B) (pops : Bool) (xs ys : List A)
    → map f (popped pops xs ++ ys) ≡ popped pops (map f xs) ++ map f ys
map_popped f false xs ys = map-append f xs ys
map_popped f true [] ys = refl
map_popped f true (x ∷ xs) ys = map-append f xs ys

-- ---- what travels to the node itself

pub sendable_both : (xs ys : List Signal) → are_sendable xs ≡ true → are_sendable ys ≡ true → are_sendable (xs ++ ys) ≡ true
sendable_both [] ys h k = k
sendable_both (x ∷ xs) ys h k = let t = and_parts (is_sendable x) _ h in both_true t.0 (sendable_both xs ys t.1 k)

pub sendable_after : (pops : Bool) (xs ys : List Signal) → are_sendable xs ≡ true → are_sendable ys ≡ true
    → are_sendable (popped pops xs ++ ys) ≡ true
sendable_after false xs ys h k = sendable_both xs ys h k
sendable_after true [] ys h k = k
sendable_after true (x ∷ xs) ys h k = sendable_both xs ys (and_parts (is_sendable x) _ h).1 k

-- ---- what is drawn

same_references : (c : Change) (m : Minted) → (spawned_by c m).references ≡ m.references
same_references change.None m = refl
same_references _ m = refl

pub named_after : (c : Change) (d : Draws) (m : Minted) → ((drawn_by d (spawned_by c m)).name ≡ m.name)
    × ((drawn_by d (spawned_by c m)).creation ≡ m.creation)
named_after change.None draws.Nothing m = (refl, refl)
named_after change.Spawns draws.Nothing m = (refl, refl)
named_after (change.TakesName naming) draws.Nothing m = (refl, refl)
named_after (change.GivesName p) draws.Nothing m = (refl, refl)
named_after (change.Of p e l) draws.Nothing m = (refl, refl)
named_after c d m = (refl, refl)

behind : (d : Draws) (c : Change) (m : Minted) (count : ℕ) → (drawn_by d (spawned_by c m)).references < count → m.references < count
behind draws.Nothing c m count l = let e = same_references c m in omega (arith, e, l)
behind draws.UnlinkId c m count l = let e = same_references c m in omega (arith, e, l)
behind draws.Reference c m count l =
    let e = same_references c m in let k = risen-le (spawned_by c m).references (2 ^ 18 - 1) in omega (arith, e, k, l)

-- nothing drawn later has a monitor
left_none : (c : Change) (watches : WatchMap) (r : Reference) → fm.get watches r ≡ None → fm.get (watches_left c watches) r ≡ None
left_none (change.Of p e (life.Ends reason)) watches r h =
    fm.get-retain_keys watches (λ k. not (is_owned p (fm.get watches k))) r
    (λ k t. ap (λ x. not (is_owned p (fm.get watches x))) (sym (reference_cmp_exact r k t)))
    ∙ ap (λ o. cond (not (is_owned p (fm.get watches r))) o None) h ∙ go (not (is_owned p (fm.get watches r)))
  where
    go : (b : Bool) → ◌≡◌ {A = Option Watch} (cond b None None) None
    go true = refl
    go false = refl
left_none c watches r h = h

word_of : Reference → ℕ
word_of r = head_of r.words
  where
    head_of : List ℕ → ℕ
    head_of [] = 0
    head_of (x ∷ xs) = x

watched_none : (own : MonitorChange Watch) (d : Draws) (c : Change) (m : Minted) (watches : WatchMap) → IsNext own d m
    → AreDrawn watches m → (count : ℕ)
    → (drawn_by d (spawned_by c m)).references < count → fm.get (watched own watches) (reference_of m count) ≡ None
unfolding word_of
watched_none monitor.Stays d c m watches n h count l = h count (behind d c m count l)
watched_none (monitor.Removes r) d c m watches n h count l =
    fm.get-remove reference_cmp_total watches r (reference_of m count)
    ∙ ap (cond (same_reference (reference_of m count) r) None) (h count (behind d c m count l))
    ∙ go (same_reference (reference_of m count) r)
  where
    go : (b : Bool) → ◌≡◌ {A = Option Watch} (cond b None None) None
    go true = refl
    go false = refl
watched_none (monitor.Adds r owned) d c m watches n h count l =
    fm.get-insert reference_cmp_total watches r owned (reference_of m count)
    ∙ ap (cond (same_reference (reference_of m count) r) (Some owned)) (h count (behind d c m count l))
    ∙ ap (λ b. cond b (Some owned) None) other
  where
    rises : (d : Draws) → d ≡ draws.Reference → m.references < 2 ^ 18 - 1 → (drawn_by d (spawned_by c m)).references ≡ m.references + 1
    rises draws.Reference e b =
        ap (λ k. risen k (2 ^ 18 - 1)) (same_references c m) ∙ ap (λ t. cond t (m.references + 1) m.references) (below b)
      where
        below : m.references < 2 ^ 18 - 1 → nat_lt m.references (2 ^ 18 - 1) ≡ true
        below b = search rules
    rises draws.Nothing e b = cc
    rises draws.UnlinkId e b = cc

    differs : (b : Bool) → same_reference (reference_of m count) r ≡ b → b ≡ false
    differs true t = let e : count ≡ m.references + 1 = ap word_of (same_reference_true (reference_of m count) r t ∙ n.1) in
        let k = rises d n.0 n.2 in absurd (omega (arith, e, k, l))
    differs false t = refl

    other : same_reference (reference_of m count) r ≡ false
    other = differs (same_reference (reference_of m count) r) refl

pub drawn_after : (own : MonitorChange Watch) (d : Draws) (c : Change) (m : Minted) (watches : WatchMap) → IsNext own d m → AreDrawn watches m
    → AreDrawn (watches_left c (watched own watches)) (drawn_by d (spawned_by c m))
drawn_after own d c m watches n h count l =
    let names = named_after c d m in
    let same : reference_of (drawn_by d (spawned_by c m)) count ≡ reference_of m count =
    (λ i. record { node = names.0 i; creation = names.1 i; words = count ∷ 0 ∷ 0 ∷ [] }) in
    ap (fm.get (watches_left c (watched own watches))) same
    ∙ left_none c (watched own watches) (reference_of m count) (watched_none own d c m watches n h count l)

-- so what comes is fresh
pub fresh_next : (own : MonitorChange Watch) (d : Draws) (m : Minted) (watches : WatchMap) → IsNext own d m → AreDrawn watches m
    → IsFresh own watches
fresh_next monitor.Stays d m watches n h = tt
fresh_next (monitor.Removes r) d m watches n h = tt
fresh_next (monitor.Adds r owned) d m watches n h = ap (fm.get watches) n.1 ∙ h (m.references + 1) (omega arith)
