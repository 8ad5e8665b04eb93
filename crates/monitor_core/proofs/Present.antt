-- The entries that slots hold, as a finite map.
use Rattle.std.proofs.Common.{◌≡◌, ◌≢◌, ℕ, zero, suc, ◌==◌, Bool, true, false, cond, T, List, [], ◌∷◌, Option, None, Some, is_some}
use Rattle.std.proofs.Common.{Bor, ◌⊎◌, inl, inr, refl, sym, ap, subst, ◌∙◌, arith}
use Rattle.std.proofs.lemmas.Bool.{eqb-true, eqb-false}
use Rattle.std.specs.declared.cmp.Ordering.{Ordering}
use Rattle.std.specs.declared.cmp.Ordering.TheVariants.{Less, Equal, Greater}
use Rattle.std.specs.Ordering.{is_lt, is_eq, eq_by_cmp, ordering_reverse}
use Rattle.std.specs.List.{last_or}
use Rattle.std.specs.Cmp.{alike_right, tied_back}
use Rattle.std.proofs.lemmas.Cmp.{tied_itself}
use Rattle.std.specs.FinMap as map
use Rattle.std.specs.FinMap.{find, is_sorted}
use Rattle.std.specs.FinMap.Entries.{below_all}
use Rattle.sorted_map.specs.Entries.{first_where}
use Rattle.sorted_map.specs.Facts.{both_pass, less}
use Rattle.sorted_map.specs.First.{first_held, first_passes, first_least, first_none}
use Rattle.erl_term.specs.declared.term.Pid.{Pid}
use Rattle.erl_term.specs.declared.term.Reference.{Reference}
use Rattle.erl_term.specs.Order.{reference_cmp}
use Rattle.erl_term.proofs.Order.{reference_cmp_total, reference_cmp_exact}
use Rattle.monitor_core.specs.Monitors.{added}
use Rattle.monitor_core.specs.Slots.{Entry, held_at, holds, Becomes, IsAlone, IsFresh, WasPut, present, map_of, has}
use Rattle.std.specs.Option.{option_cmp}
use Rattle.monitor_core.specs.declared.orders.By.TheVariants.{References}
use Rattle.monitor_core.specs.Orders.{entry_cmp, slot_cmp}
use Rattle.monitor_core.specs.Sought.{IsNext, IsLeastAt}
use Rattle.monitor_core.specs.Trees.{IsTree}
use Rattle.monitor_core.proofs.Maps.{equal_reference}
use Rattle.monitor_core.proofs.Among.{at_other, at_slot, holding}
use Rattle.monitor_core.proofs.Members.{has_each, IsLastIn, last_in}

abbrev Held : Type 0 → Type 0
Held M = List (Option (Entry M))

-- ---- what the map has is what a slot holds

alone_rest : {M : Type 0} (x : Option (Entry M)) (rest : Held M) → IsAlone (x ∷ rest) → IsAlone rest
alone_rest x rest h i j e f p q t = let k : suc i ≡ suc j = h (suc i) (suc j) e f p q t in omega (arith, k)

here : {M : Type 0} (e : Entry M) (rest : List (Entry M)) → find reference_cmp e.0 (e ∷ rest) ≡ Some e.1
here e rest = ap (λ o. cond (is_eq o) (Some e.1) (find reference_cmp e.0 rest)) (tied_itself reference_cmp_total e.0)

find_slot : {M : Type 0} (slots : Held M) (slot : ℕ) (e : Entry M) → IsAlone slots → held_at slots slot ≡ Some e
    → find reference_cmp e.0 (present slots) ≡ Some e.1
find_slot [] slot e alone h = cc
find_slot (None ∷ rest) zero e alone h = cc
find_slot (None ∷ rest) (suc slot) e alone h = find_slot rest slot e (alone_rest None rest alone) h
find_slot {M} (Some f ∷ rest) zero e alone h =
    let same : e ≡ f = cc in
    subst (λ (x : Entry M). find reference_cmp x.0 (f ∷ present rest) ≡ Some x.1) (sym same) (here f (present rest))
find_slot (Some f ∷ rest) (suc slot) e alone h = go (reference_cmp e.0 f.0) refl (find_slot rest slot e (alone_rest (Some f) rest alone) h)
  where
    go : (o : Ordering) → reference_cmp e.0 f.0 ≡ o → find reference_cmp e.0 (present rest) ≡ Some e.1
        → cond (is_eq o) (Some f.1) (find reference_cmp e.0 (present rest)) ≡ Some e.1
    go Less t k = k
    go Equal t k = let c : suc slot ≡ 0 = alone (suc slot) 0 e f h refl t in absurd (omega (arith, c))
    go Greater t k = k

slot_find : {M : Type 0} (slots : Held M) (r : Reference) (m : M) → find reference_cmp r (present slots) ≡ Some m
    → (slot : ℕ) × (held_at slots slot ≡ Some (r, m))
slot_find [] r m h = cc
slot_find (None ∷ rest) r m h = let k = slot_find rest r m h in (suc k.0, k.1)
slot_find (Some f ∷ rest) r m h = go (reference_cmp r f.0) refl h (slot_find rest r m)
  where
    go : (o : Ordering) → reference_cmp r f.0 ≡ o → cond (is_eq o) (Some f.1) (find reference_cmp r (present rest)) ≡ Some m
        → (find reference_cmp r (present rest) ≡ Some m → (slot : ℕ) × (held_at rest slot ≡ Some (r, m)))
        → (slot : ℕ) × (held_at (Some f ∷ rest) slot ≡ Some (r, m))
    go Less t k more = let l = more k in (suc l.0, l.1)
    go Equal t k more =
        let same : f.0 ≡ r = sym (reference_cmp_exact r f.0 t) in let value : f.1 ≡ m = cc in
        (0, λ i. Some (same i, value i))
    go Greater t k more = let l = more k in (suc l.0, l.1)

pub get_slot : {M : Type 0} (slots : Held M) (slot : ℕ) (e : Entry M) → IsAlone slots → held_at slots slot ≡ Some e → map.get (map_of slots) e.0 ≡ Some e.1
get_slot slots slot e alone h = map.get-from_entries reference_cmp_total (present slots) e.0 ∙ find_slot slots slot e alone h

pub slot_get : {M : Type 0} (slots : Held M) (r : Reference) (m : M) → map.get (map_of slots) r ≡ Some m
    → (slot : ℕ) × (held_at slots slot ≡ Some (r, m))
slot_get slots r m h = slot_find slots r m (sym (map.get-from_entries reference_cmp_total (present slots) r) ∙ h)

-- ---- an entry comes, or goes

same_option : {A : Type 0} (x y : Option A) → ((a : A) → x ≡ Some a → y ≡ Some a) → ((a : A) → y ≡ Some a → x ≡ Some a) → x ≡ y
same_option None None f g = refl
same_option None (Some a) f g = g a refl
same_option (Some a) y f g = sym (f a refl)

clash : {A : Type 0} (a : A) → None ≡ Some a → ⊥
clash a h = cc

one : {A : Type 0} (a b : A) → Some a ≡ Some b → a ≡ b
one a b h = cc

none_unless : {A : Type 0} (x : Option A) → ((a : A) → x ≡ Some a → ⊥) → x ≡ None
none_unless None f = refl
none_unless (Some a) f = absurd (f a refl)

pub fresh_none : {M : Type 0} (slots : Held M) (r : Reference) → IsFresh slots r → map.get (map_of slots) r ≡ None
fresh_none slots r fresh = none_unless _ (λ m h. let k = slot_get slots r m h in fresh k.0 (r, m) k.1 (tied_itself reference_cmp_total r))

pub none_fresh : {M : Type 0} (slots : Held M) (r : Reference) → IsAlone slots → map.get (map_of slots) r ≡ None → IsFresh slots r
none_fresh slots r alone none slot e h t =
    let is : e.0 ≡ r = reference_cmp_exact e.0 r t in
    let k : map.get (map_of slots) r ≡ Some e.1 = ap (map.get (map_of slots)) (sym is) ∙ get_slot slots slot e alone h in cc

untied : (q r : Reference) → eq_by_cmp reference_cmp q r ≡ false → q ≢ r
untied q r h e =
    let k : eq_by_cmp reference_cmp q r ≡ true = ap (λ x. is_eq (reference_cmp q x)) (sym e) ∙ ap is_eq (tied_itself reference_cmp_total q) in
    let c : false ≡ true = sym h ∙ k in cc

put_get : {M : Type 0} (old new : Held M) (entry : Entry M) → IsAlone old → IsAlone new → WasPut old new entry → (q : Reference) (b : Bool)
    → eq_by_cmp reference_cmp q entry.0 ≡ b → map.get (map_of new) q ≡ cond b (Some entry.1) (map.get (map_of old) q)
put_get old new entry alone alone' w q true e =
    ap (map.get (map_of new)) (equal_reference q entry.0 e)
    ∙ get_slot new w.slot entry alone' (at_slot old new w.slot (Some entry) w.put)
put_get {M} old new entry alone alone' w q false e = same_option _ _ to from
  where
    to : (m : M) → map.get (map_of new) q ≡ Some m → map.get (map_of old) q ≡ Some m
    to m h = let k = slot_get new q m h in go k.0 k.1 (k.0 == w.slot) refl
      where
        go : (slot : ℕ) → held_at new slot ≡ Some (q, m) → (c : Bool) → (slot == w.slot) ≡ c → map.get (map_of old) q ≡ Some m
        go slot k true t =
            let is = one entry (q, m) (sym (at_slot old new w.slot (Some entry) w.put) ∙ ap (held_at new) (sym (eqb-true slot w.slot t)) ∙ k) in
            absurd (untied q entry.0 e (ap (λ (x : Entry M). x.0) (sym is)))
        go slot k false t = get_slot old slot (q, m) alone (sym (at_other old new w.slot (Some entry) w.put slot t) ∙ k)

    from : (m : M) → map.get (map_of old) q ≡ Some m → map.get (map_of new) q ≡ Some m
    from m h = let k = slot_get old q m h in go k.0 k.1 (k.0 == w.slot) refl
      where
        go : (slot : ℕ) → held_at old slot ≡ Some (q, m) → (c : Bool) → (slot == w.slot) ≡ c → map.get (map_of new) q ≡ Some m
        go slot k true t = absurd (clash (q, m) (sym w.empty ∙ ap (held_at old) (sym (eqb-true slot w.slot t)) ∙ k))
        go slot k false t = get_slot new slot (q, m) alone' (at_other old new w.slot (Some entry) w.put slot t ∙ k)

pub put_map : {M : Type 0} (old new : Held M) (entry : Entry M) → IsAlone old → IsAlone new → IsFresh old entry.0 → WasPut old new entry
    → map_of new ≡ added (map_of old) entry.0 entry.1
put_map old new entry alone alone' fresh w =
    map.same_map reference_cmp_total reference_cmp_exact _ _ (λ q.
    put_get old new entry alone alone' w q (eq_by_cmp reference_cmp q entry.0) refl
    ∙ sym (map.get-insert reference_cmp_total (map_of old) entry.0 entry.1 q))
    ∙ sym (ap (λ o. cond (is_some o) (map_of old) (map.insert (map_of old) entry.0 entry.1)) (fresh_none old entry.0 fresh))

take_get : {M : Type 0} (old new : Held M) (slot : ℕ) (entry : Entry M) → IsAlone old → IsAlone new → held_at old slot ≡ Some entry
    → Becomes old new slot None → (q : Reference) (b : Bool) → eq_by_cmp reference_cmp q entry.0 ≡ b
    → map.get (map_of new) q ≡ cond b None (map.get (map_of old) q)
take_get {M} old new slot entry alone alone' held w q true e = none_unless _ (λ m h. let k = slot_get new q m h in go m k.0 k.1 (k.0 == slot) refl)
  where
    go : (m : M) (i : ℕ) → held_at new i ≡ Some (q, m) → (c : Bool) → (i == slot) ≡ c → ⊥
    go m i k true t = absurd (clash (q, m) (sym (at_slot old new slot None w) ∙ ap (held_at new) (sym (eqb-true i slot t)) ∙ k))
    go m i k false t =
        let l = sym (at_other old new slot None w i t) ∙ k in
        eqb-false i slot t (alone i slot (q, m) entry l held
        (ap (λ x. reference_cmp x entry.0) (equal_reference q entry.0 e) ∙ tied_itself reference_cmp_total entry.0))
take_get {M} old new slot entry alone alone' held w q false e = same_option _ _ to from
  where
    to : (m : M) → map.get (map_of new) q ≡ Some m → map.get (map_of old) q ≡ Some m
    to m h = let k = slot_get new q m h in go k.0 k.1 (k.0 == slot) refl
      where
        go : (i : ℕ) → held_at new i ≡ Some (q, m) → (c : Bool) → (i == slot) ≡ c → map.get (map_of old) q ≡ Some m
        go i k true t = absurd (clash (q, m) (sym (at_slot old new slot None w) ∙ ap (held_at new) (sym (eqb-true i slot t)) ∙ k))
        go i k false t = get_slot old i (q, m) alone (sym (at_other old new slot None w i t) ∙ k)

    from : (m : M) → map.get (map_of old) q ≡ Some m → map.get (map_of new) q ≡ Some m
    from m h = let k = slot_get old q m h in go k.0 k.1 (k.0 == slot) refl
      where
        go : (i : ℕ) → held_at old i ≡ Some (q, m) → (c : Bool) → (i == slot) ≡ c → map.get (map_of new) q ≡ Some m
        go i k true t =
            let is = one entry (q, m) (sym held ∙ ap (held_at old) (sym (eqb-true i slot t)) ∙ k) in
            absurd (untied q entry.0 e (ap (λ (x : Entry M). x.0) (sym is)))
        go i k false t = get_slot new i (q, m) alone' (at_other old new slot None w i t ∙ k)

pub take_map : {M : Type 0} (old new : Held M) (slot : ℕ) (entry : Entry M) → IsAlone old → IsAlone new → held_at old slot ≡ Some entry
    → Becomes old new slot None → map_of new ≡ map.remove (map_of old) entry.0
take_map old new slot entry alone alone' held w =
    map.same_map reference_cmp_total reference_cmp_exact _ _ (λ q.
    take_get old new slot entry alone alone' held w q (eq_by_cmp reference_cmp q entry.0) refl
    ∙ sym (map.get-remove reference_cmp_total (map_of old) entry.0 q))

-- ---- the first entry that passes

abbrev pub held_in : {M : Type 0} → Held M → Option ℕ → Option (Entry M)
held_in slots None = None
held_in slots (Some slot) = held_at slots slot

module _ {M : Type 0} (slots : Held M) (alone : IsAlone slots) (passes : Entry M → Bool) where
  abbrev entries : List (Entry M)
  entries = map.entries (map_of slots)

  abbrev by_parts : Reference → M → Bool
  by_parts reference monitor = passes (reference, monitor)

  -- an entry of the map is in a slot, and the other way round
  entry_slot : (e : Entry M) → first_where by_parts entries ≡ Some e → (slot : ℕ) × (held_at slots slot ≡ Some e)
  entry_slot e h =
      slot_get slots e.0 e.1 (map.get-entries (map_of slots) e.0
      ∙ first_held reference_cmp_total reference_cmp_exact by_parts entries e (map.entries_sorted (map_of slots)) h)

  slot_entry : (slot : ℕ) (e : Entry M) → held_at slots slot ≡ Some e → find reference_cmp e.0 entries ≡ Some e.1
  slot_entry slot e h = sym (map.get-entries (map_of slots) e.0) ∙ get_slot slots slot e alone h

  equal : (a b : Reference) → reference_cmp a b ≢ Less → reference_cmp b a ≢ Less → a ≡ b
  equal a b f g = go (reference_cmp a b) refl
    where
      go : (o : Ordering) → reference_cmp a b ≡ o → a ≡ b
      go Less e = absurd (f e)
      go Equal e = reference_cmp_exact a b e
      go Greater e = absurd (g (reference_cmp_total.antisymm b a ∙ ap ordering_reverse e))

  pub next_first : (found : Option ℕ) → IsNext passes slots found → held_in slots found ≡ first_where by_parts entries
  next_first None n = go (first_where by_parts entries) refl
    where
      go : (o : Option (Entry M)) → first_where by_parts entries ≡ o → None ≡ o
      go None h = refl
      go (Some e) h =
          let k = entry_slot e h in
          let t = first_passes reference_cmp_total reference_cmp_exact by_parts entries e h in
          let c : false ≡ true = sym (n k.0 e k.1) ∙ t in cc
  next_first (Some found) n = go (first_where by_parts entries) refl
    where
      go : (o : Option (Entry M)) → first_where by_parts entries ≡ o → held_at slots found ≡ o
      go None h =
          let t = first_none reference_cmp_total reference_cmp_exact by_parts entries n.entry.0 n.entry.1 h (slot_entry found n.entry n.held) in
          let c : false ≡ true = sym t ∙ n.passing in cc
      go (Some e) h =
          let k = entry_slot e h in
          let p = first_passes reference_cmp_total reference_cmp_exact by_parts entries e h in
          let l = n.least k.0 e k.1 p in
          let m = first_least reference_cmp_total reference_cmp_exact by_parts entries e n.entry.0 n.entry.1
          (map.entries_sorted (map_of slots)) h (slot_entry found n.entry n.held) n.passing in
          let is : n.entry.0 ≡ e.0 = equal n.entry.0 e.0 m l in
          let same = alone found k.0 n.entry e n.held k.1
          (ap (λ x. reference_cmp x e.0) is ∙ tied_itself reference_cmp_total e.0) in
          ap (held_at slots) same ∙ k.1

-- ---- the entry of a reference

abbrev pub of_reference : {M : Type 0} → Bor Reference → Entry M → Bool
of_reference reference entry = is_eq (reference_cmp entry.0 reference.now)

pub named_none : {M : Type 0} (slots : Held M) (reference : Bor Reference) → IsNext (of_reference reference) slots None → IsFresh slots reference.now
named_none slots reference n slot e h t =
    let k : is_eq (reference_cmp e.0 reference.now) ≡ false = n slot e h in
    let c : true ≡ false = sym (ap is_eq t) ∙ k in cc

pub named_slot : {M : Type 0} (slots : Held M) (reference : Bor Reference) (found : ℕ) → IsLeastAt (of_reference reference) slots found
    → (e : Entry M) × (held_at slots found ≡ Some e) × (e.0 ≡ reference.now)
named_slot slots reference found n = (n.entry, n.held, equal_reference n.entry.0 reference.now n.passing)

-- ---- the entry of the greatest reference

pub below_find : {M : Type 0} (r k : Reference) (v : M) (xs : List (Entry M)) → T (below_all reference_cmp r xs) → find reference_cmp k xs ≡ Some v
    → reference_cmp r k ≡ Less
below_find r k v [] b h = cc
below_find r k v (x ∷ xs) b h = let t = both_pass (is_lt (reference_cmp r x.0)) (below_all reference_cmp r xs) b in
    go (reference_cmp k x.0) refl h (less _ t.0) (below_find r k v xs t.1)
  where
    go : (o : Ordering) → reference_cmp k x.0 ≡ o → cond (is_eq o) (Some x.1) (find reference_cmp k xs) ≡ Some v
        → reference_cmp r x.0 ≡ Less → (find reference_cmp k xs ≡ Some v → reference_cmp r k ≡ Less) → reference_cmp r k ≡ Less
    go Less e f l more = more f
    go Equal e f l more = alike_right reference_cmp_total k x.0 r e ∙ l
    go Greater e f l more = more f

abbrev IsLastEntry : {M : Type 0} → List (Entry M) → Option (Entry M) → Type 0
IsLastEntry xs None = xs ≡ []
IsLastEntry {M} xs (Some e) = (find reference_cmp e.0 xs ≡ Some e.1)
    × ((k : Reference) (v : M) → find reference_cmp k xs ≡ Some v → reference_cmp e.0 k ≢ Less)

abbrev last_of : {M : Type 0} → Entry M → List (Entry M) → Entry M
last_of x [] = x
last_of x (y ∷ ys) = last_of y ys

last_is : {M : Type 0} (x : Entry M) (xs : List (Entry M)) → last_or (Some x) xs ≡ Some (last_of x xs)
last_is x [] = refl
last_is x (y ∷ ys) = last_is y ys

not_itself : (k r : Reference) → reference_cmp k r ≡ Equal → reference_cmp r k ≢ Less
not_itself k r t l = let c = tied_back reference_cmp_total k r t in let d : Less ≡ Equal = sym l ∙ c in cc

not_after : (k x e : Reference) → reference_cmp k x ≡ Equal → reference_cmp x e ≡ Less → reference_cmp e k ≢ Less
not_after k x e t l h =
    let m : reference_cmp e x ≡ Less = sym (alike_right reference_cmp_total k x e t) ∙ h in
    let n : reference_cmp e x ≡ Greater = reference_cmp_total.antisymm e x ∙ ap ordering_reverse l in
    let d : Less ≡ Greater = sym m ∙ n in cc

last_entry : {M : Type 0} (x : Entry M) (xs : List (Entry M)) → T (is_sorted reference_cmp (x ∷ xs)) → IsLastEntry (x ∷ xs) (Some (last_of x xs))
last_entry {M} x [] s = (here x [], λ k v h. go k v (reference_cmp k x.0) refl h)
  where
    go : (k : Reference) (v : M) (o : Ordering) → reference_cmp k x.0 ≡ o → cond (is_eq o) (Some x.1) None ≡ Some v
        → reference_cmp x.0 k ≢ Less
    go k v Less e h = cc
    go k v Equal e h = not_itself k x.0 e
    go k v Greater e h = cc
last_entry {M} x (y ∷ ys) s = let t = both_pass (below_all reference_cmp x.0 (y ∷ ys)) (is_sorted reference_cmp (y ∷ ys)) s in step t.0 (last_entry y ys t.1)
  where
    step : T (below_all reference_cmp x.0 (y ∷ ys)) → IsLastEntry (y ∷ ys) (Some (last_of y ys)) → IsLastEntry (x ∷ y ∷ ys) (Some (last_of y ys))
    step b more =
        let e = last_of y ys in
        let l = below_find x.0 e.0 e.1 (y ∷ ys) b more.0 in
        let g : reference_cmp e.0 x.0 ≡ Greater = reference_cmp_total.antisymm e.0 x.0 ∙ ap ordering_reverse l in (
          ap (λ o. cond (is_eq o) (Some x.1) (find reference_cmp e.0 (y ∷ ys))) g ∙ more.0,
          λ k v h. go e l more.1 k v (reference_cmp k x.0) refl h,
        )
      where
        go : (e : Entry M) → reference_cmp x.0 e.0 ≡ Less
            → ((k : Reference) (v : M) → find reference_cmp k (y ∷ ys) ≡ Some v → reference_cmp e.0 k ≢ Less)
            → (k : Reference) (v : M) (o : Ordering) → reference_cmp k x.0 ≡ o
            → cond (is_eq o) (Some x.1) (find reference_cmp k (y ∷ ys)) ≡ Some v → reference_cmp e.0 k ≢ Less
        go e l more k v Less t h = more k v h
        go e l more k v Equal t h = not_after k x.0 e.0 t l
        go e l more k v Greater t h = more k v h

ends : {M : Type 0} (xs : List (Entry M)) → T (is_sorted reference_cmp xs) → IsLastEntry xs (last_or None xs)
ends [] s = refl
ends (x ∷ xs) s = subst (IsLastEntry (x ∷ xs)) (sym (last_is x xs)) (last_entry x xs s)

module _ {M : Type 0} (process_of : M → Pid) (node_of : M → List ℕ) (slots : Held M) (tree : List ℕ) (alone : IsAlone slots)
    (h : IsTree process_of node_of References slots (holds slots) tree) where
  abbrev Before : ℕ → ℕ → Type 0
  Before i j = slot_cmp process_of node_of References slots i j ≡ Less

  abbrev all : List (Entry M)
  all = map.entries (map_of slots)

  in_slot : (e : Entry M) → find reference_cmp e.0 all ≡ Some e.1 → (slot : ℕ) × (held_at slots slot ≡ Some e)
  in_slot e f = slot_get slots e.0 e.1 (map.get-entries (map_of slots) e.0 ∙ f)

  in_map : (slot : ℕ) (e : Entry M) → held_at slots slot ≡ Some e → find reference_cmp e.0 all ≡ Some e.1
  in_map slot e f = sym (map.get-entries (map_of slots) e.0) ∙ get_slot slots slot e alone f

  in_tree : (slot : ℕ) (e : Entry M) → held_at slots slot ≡ Some e → has slot tree ≡ true
  in_tree slot e f = h.all slot ∙ ap is_some f

  same_slot : (slot i : ℕ) (entry x : Entry M) → held_at slots i ≡ Some entry → held_at slots slot ≡ Some x → (i ≡ slot) ⊎ Before i slot
      → reference_cmp entry.0 x.0 ≢ Less → held_at slots slot ≡ Some entry
  same_slot slot i entry x f g (inl is) n = ap (held_at slots) (sym is) ∙ f
  same_slot slot i entry x f g (inr b) n = absurd (n (sym (λ j. option_cmp (entry_cmp process_of node_of References) (f j) (g j)) ∙ b))

  last_at : (last : Option ℕ) → IsLastIn Before tree last → (entry : Option (Entry M)) → IsLastEntry all entry → held_in slots last ≡ entry
  last_at None l None e = refl
  last_at None l (Some entry) e =
      let k = in_slot entry e.0 in let c : false ≡ true = sym (ap (has k.0) l) ∙ in_tree k.0 entry k.1 in cc
  last_at (Some slot) l None e =
      let x = holding (held_at slots slot) (sym (h.all slot) ∙ l.0) in
      let t : None ≡ Some (x.0).1 = sym (ap (find reference_cmp (x.0).0) e) ∙ in_map slot x.0 x.1 in cc
  last_at (Some slot) l (Some entry) e =
      let x = holding (held_at slots slot) (sym (h.all slot) ∙ l.0) in let k = in_slot entry e.0 in
      same_slot slot k.0 entry x.0 k.1 x.1 (has_each (λ i. (i ≡ slot) ⊎ Before i slot) tree k.0 l.1 (in_tree k.0 entry k.1))
      (e.1 (x.0).0 (x.0).1 (in_map slot x.0 x.1))

  pub last_slot : held_in slots (last_or None tree) ≡ last_or None (map.entries (map_of slots))
  last_slot = last_at (last_or None tree) (last_in Before tree h.rising) (last_or None all) (ends all (map.entries_sorted (map_of slots)))
