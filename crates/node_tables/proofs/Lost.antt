-- The place of the first side that is lost.
use Rattle.std.proofs.Common.{◌≡◌, Bor, ℕ, zero, suc, ◌+◌, ◌<◌, Bool, true, false, cond, List, [], ◌∷◌}
use Rattle.std.proofs.Common.{length, get_or, Option, None, Some, refl, sym, ap, ◌∙◌, arith}
use Rattle.std.specs.List.{position_from}
use Rattle.std.specs.Option.{option_copied, option_map}
use Rattle.std.specs.Slice.{IsItemAt}
use Rattle.std.proofs.lemmas.Iterator.Adapters.{position_from-zero}
use Rattle.std.proofs.lemmas.List.Quantifiers.{position-Some}
use Rattle.std.proofs.lemmas.Bool.{both_ways, lt-ltb}
use Rattle.std.proofs.lemmas.Option.{same_Some}
use Rattle.conn_core.specs.declared.side.Side.{Side}
use Rattle.dist_model.specs.Losses.{any_side}
use Rattle.dist_model.specs.Sides.{is_losing}
use Rattle.node_tables.proofs.Placed.{no_some}
use Rattle.node_tables.specs.Standings.{entries_of, entry_of, is_lost, lost_place}

-- ---- it is within, and its side is the first that the model finds

within_from : (held : List Side) (i at : ℕ) → position_from is_lost i held ≡ Some at → at < i + length held
within_from [] i at h = absurd (no_some at (sym h))
within_from (x ∷ xs) i at h = go (is_lost x) refl (within_from xs (i + 1) at)
  where
    go : (b : Bool) → is_lost x ≡ b → (position_from is_lost (i + 1) xs ≡ Some at → at < (i + 1) + length xs) → at < i + suc (length xs)
    go true t k = let e = same_Some i at (sym (ap (λ b. cond b (Some i) (position_from is_lost (i + 1) xs)) t) ∙ h) in omega (arith, e)
    go false t k = let l = k (sym (ap (λ b. cond b (Some i) (position_from is_lost (i + 1) xs)) t) ∙ h) in omega (arith, l)

pub lost_within : (held : List Side) (at : ℕ) → lost_place held ≡ Some at → at < length held
lost_within held at h = let l = within_from held 0 at (sym (position_from-zero is_lost held) ∙ h) in omega (arith, l)

first_at : (held : List Side) (at : ℕ) (x : Side) → at < length held → x ≡ get_or held at x → is_lost (get_or held at x) ≡ true
    → ((k : ℕ) → k < at → is_lost (get_or held k x) ≡ false) → any_side is_losing (entries_of held) ≡ Some (entry_of x)
first_at [] at x l is t before = absurd (omega arith)
first_at (y ∷ ys) zero x l is t before =
    ap (λ b. cond b (Some (entry_of y)) (any_side is_losing (entries_of ys))) t ∙ ap (λ (s : Side). Some (entry_of s)) (sym is)
first_at (y ∷ ys) (suc at) x l is t before =
    ap (λ b. cond b (Some (entry_of y)) (any_side is_losing (entries_of ys))) (before 0 (omega arith))
    ∙ first_at ys at x (omega arith) is t (λ k lt. before (suc k) (omega arith))

pub lost_entry : (held : List Side) (at : ℕ) (x : Side) → lost_place held ≡ Some at → x ≡ get_or held at x
    → any_side is_losing (entries_of held) ≡ Some (entry_of x)
lost_entry held at x h is = let f = position-Some is_lost held at x h in first_at held at x f.0 is f.1 f.2

-- ---- none is lost

none_from : (held : List Side) (i : ℕ) → position_from is_lost i held ≡ None → any_side is_losing (entries_of held) ≡ None
none_from [] i h = refl
none_from (x ∷ xs) i h = go (is_lost x) refl (none_from xs (i + 1))
  where
    go : (b : Bool) → is_lost x ≡ b → (position_from is_lost (i + 1) xs ≡ None → any_side is_losing (entries_of xs) ≡ None)
        → any_side is_losing (entries_of (x ∷ xs)) ≡ None
    go true t k = absurd (no_some i (sym (ap (λ b. cond b (Some i) (position_from is_lost (i + 1) xs)) t) ∙ h))
    go false t k =
        ap (λ b. cond b (Some (entry_of x)) (any_side is_losing (entries_of xs))) t
        ∙ k (sym (ap (λ b. cond b (Some i) (position_from is_lost (i + 1) xs)) t) ∙ h)

pub none_lost : (held : List Side) → lost_place held ≡ None → any_side is_losing (entries_of held) ≡ None
none_lost held h = none_from held 0 (sym (position_from-zero is_lost held) ∙ h)

-- ---- what is read there

pub lost_read : (held : List Side) (at : ℕ) (o : Option (Bor Side)) → lost_place held ≡ Some at → IsItemAt held at o
    → option_map entry_of (option_copied o) ≡ any_side is_losing (entries_of held)
lost_read held at None h item = absurd (both_ways _ (sym item.0) (lt-ltb _ _ (lost_within held at h)))
lost_read held at (Some x) h item = sym (lost_entry held at x.now h item.1)
