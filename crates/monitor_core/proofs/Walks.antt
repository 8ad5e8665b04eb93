-- A walk over the entries that pass, each behind the one before.
use Rattle.std.proofs.Common.{◌≡◌, ◌<◌, ◌≤◌, ℕ, Bool, true, false, cond, not, ◌&&◌, T, List, [], ◌∷◌, ◌++◌, length, filter}
use Rattle.std.proofs.Common.{Option, None, Some, refl, sym, ap, subst, ◌∙◌, arith}
use Rattle.std.specs.declared.cmp.Ordering.TheVariants.{Less}
use Rattle.std.specs.Ordering.{is_lt, ordering_reverse}
use Rattle.std.proofs.lemmas.Cmp.{tied_itself}
use Rattle.std.specs.FinMap.{is_sorted}
use Rattle.std.specs.FinMap.Entries.{below_all}
use Rattle.sorted_map.specs.Entries.{first_where}
use Rattle.sorted_map.specs.Facts.{both_pass, less}
use Rattle.sorted_map.proofs.Orderings.{less_of}
use Rattle.sorted_map.specs.First.{first_held, first_passes}
use Rattle.erl_term.specs.declared.term.Reference.{Reference}
use Rattle.erl_term.specs.Order.{reference_cmp}
use Rattle.erl_term.proofs.Order.{reference_cmp_total, reference_cmp_exact}
use Rattle.monitor_core.specs.Slots.{Entry}
use Rattle.monitor_core.specs.Sought.{is_behind}
use Rattle.monitor_core.proofs.Present.{below_find}
use Rattle.monitor_core.proofs.Ranks.{still_behind}

-- the next one that passes, those up to a reference that pass, and how many are behind it
abbrev pub next : {M : Type 0} → (M → Bool) → Option Reference → List (Entry M) → Option (Entry M)
next passes behind entries = first_where (λ reference monitor. is_behind behind reference && passes monitor) entries

abbrev pub walked : {M : Type 0} → (M → Bool) → Option Reference → List (Entry M) → List (Entry M)
walked passes behind entries = filter (λ entry. not (is_behind behind entry.0) && passes entry.1) entries

abbrev pub ahead : {M : Type 0} → Option Reference → List (Entry M) → ℕ
ahead behind entries = length (filter (λ entry. is_behind behind entry.0) entries)

both : (a b : Bool) → a && b ≡ true → (a ≡ true) × (b ≡ true)
both true b h = (refl, h)
both false b h = cc

one : {A : Type 0} (a b : A) → Some a ≡ Some b → a ≡ b
one a b h = cc

not_itself : (r : Reference) → is_behind (Some r) r ≡ false
not_itself r = ap is_lt (tied_itself reference_cmp_total r)

module _ {M : Type 0} (passes : M → Bool) where
  abbrev test : Option Reference → Reference → M → Bool
  test behind reference monitor = is_behind behind reference && passes monitor

  pub walked_none : (entries : List (Entry M)) → walked passes None entries ≡ []
  walked_none [] = refl
  walked_none (x ∷ rest) = walked_none rest

  walked_above : (behind : Option Reference) (r : Reference) (entries : List (Entry M))
      → ((s : Reference) → reference_cmp r s ≡ Less → is_behind behind s ≡ true) → T (below_all reference_cmp r entries)
      → walked passes behind entries ≡ []
  walked_above behind r [] f b = refl
  walked_above behind r (x ∷ rest) f b =
      let t = both_pass (is_lt (reference_cmp r x.0)) (below_all reference_cmp r rest) b in
      ap (λ c. cond (not c && passes x.1) (x ∷ walked passes behind rest) (walked passes behind rest)) (f x.0 (less _ t.0))
      ∙ walked_above behind r rest f t.1

  -- the next one is the next that is walked
  pub walked_more : (behind : Option Reference) (entries : List (Entry M)) (e : Entry M) → T (is_sorted reference_cmp entries)
      → next passes behind entries ≡ Some e → walked passes (Some e.0) entries ≡ walked passes behind entries ++ e ∷ []
  walked_more behind [] e s h = cc
  walked_more behind (x ∷ rest) e s h =
      let t = both_pass (below_all reference_cmp x.0 rest) (is_sorted reference_cmp rest) s in
      go t.0 t.1 (is_behind behind x.0) refl (passes x.1) refl h (walked_more behind rest e t.1)
    where
      go : T (below_all reference_cmp x.0 rest) → T (is_sorted reference_cmp rest)
          → (p : Bool) → is_behind behind x.0 ≡ p → (q : Bool) → passes x.1 ≡ q → cond (p && q) (Some x) (next passes behind rest) ≡ Some e
          → (next passes behind rest ≡ Some e → walked passes (Some e.0) rest ≡ walked passes behind rest ++ e ∷ [])
          → cond (not (is_behind (Some e.0) x.0) && q) (x ∷ walked passes (Some e.0) rest) (walked passes (Some e.0) rest)
          ≡ cond (not p && q) (x ∷ walked passes behind rest) (walked passes behind rest) ++ e ∷ []
      go b r true u true v k more =
          let here : cond (not (is_behind (Some x.0) x.0) && true) (x ∷ walked passes (Some x.0) rest) (walked passes (Some x.0) rest)
          ≡ walked passes behind rest ++ x ∷ [] =
          ap (λ c. cond (not c && true) (x ∷ walked passes (Some x.0) rest) (walked passes (Some x.0) rest)) (not_itself x.0)
          ∙ ap (λ l. x ∷ l) (walked_above (Some x.0) x.0 rest (λ s l. ap is_lt l) b)
          ∙ sym (ap (λ l. l ++ x ∷ []) (walked_above behind x.0 rest (λ s l. still_behind behind x.0 s l u) b)) in
          subst (λ (z : Entry M). cond (not (is_behind (Some z.0) x.0) && true) (x ∷ walked passes (Some z.0) rest) (walked passes (Some z.0) rest)
          ≡ walked passes behind rest ++ z ∷ []) (one x e k) here
      go b r true u false v k more = drop_both (is_behind (Some e.0) x.0) (more k)
        where
          drop_both : (c : Bool) → walked passes (Some e.0) rest ≡ walked passes behind rest ++ e ∷ []
              → cond (not c && false) (x ∷ walked passes (Some e.0) rest) (walked passes (Some e.0) rest) ≡ walked passes behind rest ++ e ∷ []
          drop_both true m = m
          drop_both false m = m
      go b r false u q v k more =
          let found = first_held reference_cmp_total reference_cmp_exact (test behind) rest e r k in
          let below = below_find x.0 e.0 e.1 rest b found in
          let above : is_behind (Some e.0) x.0 ≡ false = ap is_lt (reference_cmp_total.antisymm e.0 x.0 ∙ ap ordering_reverse below) in
          ap (λ c. cond (not c && q) (x ∷ walked passes (Some e.0) rest) (walked passes (Some e.0) rest)) above ∙ keep q (more k)
        where
          keep : (q : Bool) → walked passes (Some e.0) rest ≡ walked passes behind rest ++ e ∷ []
              → cond q (x ∷ walked passes (Some e.0) rest) (walked passes (Some e.0) rest)
              ≡ cond q (x ∷ walked passes behind rest) (walked passes behind rest) ++ e ∷ []
          keep true m = ap (λ l. x ∷ l) m
          keep false m = m

  -- where there is none, all that pass are walked
  pub walked_all : (behind : Option Reference) (entries : List (Entry M)) → next passes behind entries ≡ None
      → walked passes behind entries ≡ filter (λ entry. passes entry.1) entries
  walked_all behind [] h = refl
  walked_all behind (x ∷ rest) h = go (is_behind behind x.0) (passes x.1) h (walked_all behind rest)
    where
      go : (p q : Bool) → cond (p && q) (Some x) (next passes behind rest) ≡ None
          → (next passes behind rest ≡ None → walked passes behind rest ≡ filter (λ entry. passes entry.1) rest)
          → cond (not p && q) (x ∷ walked passes behind rest) (walked passes behind rest)
          ≡ cond q (x ∷ filter (λ entry. passes entry.1) rest) (filter (λ entry. passes entry.1) rest)
      go true true k more = cc
      go true false k more = more k
      go false true k more = ap (λ l. x ∷ l) (more k)
      go false false k more = more k

  no_more : (behind : Option Reference) (r : Reference) (entries : List (Entry M)) → is_behind behind r ≡ true
      → ahead (Some r) entries ≤ ahead behind entries
  no_more behind r [] u = omega arith
  no_more behind r (x ∷ rest) u =
      go (is_behind (Some r) x.0) refl (is_behind behind x.0) refl (no_more behind r rest u)
    where
      go : (p : Bool) → is_behind (Some r) x.0 ≡ p → (q : Bool) → is_behind behind x.0 ≡ q → ahead (Some r) rest ≤ ahead behind rest
          → length (cond p (x ∷ filter (λ entry. is_behind (Some r) entry.0) rest) (filter (λ entry. is_behind (Some r) entry.0) rest))
          ≤ length (cond q (x ∷ filter (λ entry. is_behind behind entry.0) rest) (filter (λ entry. is_behind behind entry.0) rest))
      go true v true w more = omega (arith, more)
      go true v false w more =
          let k = still_behind behind r x.0 (less_of (reference_cmp r x.0) v) u in let c : true ≡ false = sym k ∙ w in cc
      go false v true w more = omega (arith, more)
      go false v false w more = more

  -- and fewer are behind it
  pub fewer_ahead : (behind : Option Reference) (entries : List (Entry M)) (e : Entry M) → next passes behind entries ≡ Some e
      → ahead (Some e.0) entries < ahead behind entries
  fewer_ahead behind [] e h = cc
  fewer_ahead behind (x ∷ rest) e h =
      let u = (both (is_behind behind e.0) (passes e.1) (first_passes reference_cmp_total reference_cmp_exact (test behind) (x ∷ rest) e h)).0 in
      go u (is_behind behind x.0) refl (passes x.1) refl (is_behind (Some e.0) x.0) refl h (no_more behind e.0 rest u)
      (fewer_ahead behind rest e)
    where
      go : is_behind behind e.0 ≡ true → (p : Bool) → is_behind behind x.0 ≡ p → (q : Bool) → passes x.1 ≡ q
          → (o : Bool) → is_behind (Some e.0) x.0 ≡ o
          → cond (p && q) (Some x) (next passes behind rest) ≡ Some e
          → ahead (Some e.0) rest ≤ ahead behind rest
          → (next passes behind rest ≡ Some e → ahead (Some e.0) rest < ahead behind rest)
          → length (cond o (x ∷ filter (λ entry. is_behind (Some e.0) entry.0) rest) (filter (λ entry. is_behind (Some e.0) entry.0) rest))
          < length (cond p (x ∷ filter (λ entry. is_behind behind entry.0) rest) (filter (λ entry. is_behind behind entry.0) rest))
      go u true v true w true y k most more =
          let i = one x e k in
          let c : true ≡ false = sym y ∙ ap (λ (z : Entry M). is_behind (Some e.0) z.0) i ∙ not_itself e.0 in cc
      go u true v true w false y k most more = omega (arith, most)
      go u true v false w true y k most more = omega (arith, more k)
      go u true v false w false y k most more = omega (arith, more k)
      go u false v q w true y k most more =
          let l = still_behind behind e.0 x.0 (less_of (reference_cmp e.0 x.0) y) u in let c : true ≡ false = sym l ∙ v in cc
      go u false v q w false y k most more = more k
