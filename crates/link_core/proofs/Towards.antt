-- The partners at one node lie beside one another, in the order of pids.
use Rattle.std.proofs.Common.{◌≡◌, ℕ, ◌≤◌, Bool, true, false, cond, not, ◌&&◌, ◌||◌, T, List}
use Rattle.std.proofs.Common.{[], ◌∷◌, Option, None, Some, refl, sym, ap, subst, ◌∙◌, arith}
use Rattle.std.specs.declared.cmp.Ordering.{Ordering}
use Rattle.std.specs.declared.cmp.Ordering.TheVariants.{Less, Equal, Greater}
use Rattle.std.specs.Ordering.{is_eq, is_le, is_lt, ordering_index, ordering_reverse}
use Rattle.std.specs.FinMap.Entries.{below_all}
use Rattle.std.proofs.lemmas.Bool.{or_left, or_parts, or_right}
use Rattle.sorted_map.proofs.Orderings.{greater_of, less_of}
use Rattle.sorted_map.specs.Entries.{first_where}
use Rattle.sorted_map.specs.Facts.{both_pass, less}
use Rattle.erl_term.specs.declared.term.Pid.{Pid}
use Rattle.erl_term.specs.Order.{pid_cmp}
use Rattle.erl_term.proofs.Order.{name_cmp, node_before, node_behind, pid_cmp_exact, pid_cmp_total}
use Rattle.link_core.specs.declared.end.End.{End}
use Rattle.link_core.specs.Records.{Records, AreSorted}

-- ---- the partners of lesser nodes come first

module _ (n : List ℕ) where
  abbrev pub is_before : Pid × End → Bool
  is_before r = is_lt (name_cmp r.0.node n)

  abbrev pub first_at : Records → Option (Pid × End)
  first_at = first_where (λ partner end. is_eq (name_cmp partner.node n))

  pub nodes_rise : (p q : Pid) → pid_cmp p q ≡ Less → ordering_index (name_cmp p.node n) ≤ ordering_index (name_cmp q.node n)
  nodes_rise p q l = go (name_cmp p.node n) refl (name_cmp q.node n) refl
    where
      go : (a : Ordering) → name_cmp p.node n ≡ a → (b : Ordering) → name_cmp q.node n ≡ b → ordering_index a ≤ ordering_index b
      go Less e b f = omega arith
      go Equal e Less f = let c : Equal ≡ Less = sym e ∙ node_before p q n l f in cc
      go Equal e Equal f = omega arith
      go Equal e Greater f = omega arith
      go Greater e b f = let c : Greater ≡ b = sym (node_behind p q n l e) ∙ f in rw (sym c) (omega arith)

  -- ---- the first that isn't of a lesser node is of this one, or none is

  abbrev pub this_node : Option (Pid × End) → Option (Pid × End)
  this_node None = None
  this_node (Some r) = cond (is_eq (name_cmp r.0.node n)) (Some r) None

  none_greater : (p : Pid) (rs : Records) → name_cmp p.node n ≡ Greater → T (below_all pid_cmp p rs) → first_at rs ≡ None
  none_greater p [] g s = refl
  none_greater p (r ∷ rest) g s =
      ap (λ o. cond (is_eq o) (Some r) (first_at rest)) (node_behind p r.0 n (less _ (both_pass _ _ s).0) g)
      ∙ none_greater p rest g (both_pass _ _ s).1

  here : (r : Pid × End) (rest : Records) → T (below_all pid_cmp r.0 rest) → is_before r ≡ false → first_at (r ∷ rest) ≡ this_node (Some r)
  here r rest s h = go (name_cmp r.0.node n) refl
    where
      go : (o : Ordering) → name_cmp r.0.node n ≡ o → first_at (r ∷ rest) ≡ this_node (Some r)
      go Less e = let c : true ≡ false = sym (ap is_lt e) ∙ h in cc
      go Equal e = ap (λ o. cond (is_eq o) (Some r) (first_at rest)) e ∙ sym (ap (λ o. cond (is_eq o) (Some r) None) e)
      go Greater e =
          ap (λ o. cond (is_eq o) (Some r) (first_at rest)) e ∙ none_greater r.0 rest e s
          ∙ sym (ap (λ o. cond (is_eq o) (Some r) None) e)

  skipped : (r : Pid × End) (rest : Records) → is_before r ≡ true → first_at (r ∷ rest) ≡ first_at rest
  skipped r rest h = ap (λ o. cond (is_eq o) (Some r) (first_at rest)) (less_of _ h)

  -- the first that isn't of a lesser node
  abbrev pub first_not_before : Records → Option (Pid × End)
  first_not_before = first_where (λ partner end. not (is_lt (name_cmp partner.node n)))

  pub first_is : (rs : Records) → AreSorted rs → this_node (first_not_before rs) ≡ first_at rs
  first_is [] s = refl
  first_is (r ∷ rest) s = go (is_before r) refl (first_is rest (both_pass _ _ s).1)
    where
      either : Bool → Option (Pid × End)
      either b = this_node (cond (not b) (Some r) (first_not_before rest))

      go : (b : Bool) → is_before r ≡ b → this_node (first_not_before rest) ≡ first_at rest
          → this_node (first_not_before (r ∷ rest)) ≡ first_at (r ∷ rest)
      go true h k = ap either h ∙ k ∙ sym (skipped r rest h)
      go false h k = ap either h ∙ sym (here r rest (both_pass _ _ s).0 h)

-- ---- the first partner at a node, of those behind a partner

and_false : (a : Bool) → (a && false) ≡ false
and_false true = refl
and_false false = refl

either : {A : Type 0} (a b : Bool) → (a || b) ≡ true → (a ≡ true → A) → (b ≡ true → A) → A
either true b h f g = f refl
either false b h f g = g h

no_tie : (o : Ordering) → is_lt o ≡ true → is_eq o ≡ false
no_tie Less h = refl
no_tie _ h = cc

module _ (p : Pid) (n : List ℕ) where
  -- up to the partner, or of a lesser node
  abbrev pub passed : Pid → Bool
  passed q = is_le (pid_cmp q p) || is_lt (name_cmp q.node n)

  abbrev pub stands : Pid → Ordering
  stands q = cond (passed q) Less Equal

  abbrev pub next_at : Records → Option (Pid × End)
  next_at = first_where (λ held end. is_lt (pid_cmp p held) && is_eq (name_cmp held.node n))

  up_to : (q r : Pid) → pid_cmp q r ≡ Less → is_le (pid_cmp r p) ≡ true → is_le (pid_cmp q p) ≡ true
  up_to q r h l = go (pid_cmp r p) refl l
    where
      go : (o : Ordering) → pid_cmp r p ≡ o → is_le o ≡ true → is_le (pid_cmp q p) ≡ true
      go Less e k = ap is_le (pid_cmp_total.trans q r p h e)
      go Equal e k = ap is_le (ap (pid_cmp q) (sym (pid_cmp_exact r p e)) ∙ h)
      go Greater e k = cc

  passed_before : (q r : Pid) → pid_cmp q r ≡ Less → passed r ≡ true → passed q ≡ true
  passed_before q r h k = either (is_le (pid_cmp r p)) (is_lt (name_cmp r.node n)) k
      (λ l. or_left _ _ (up_to q r h l))
      (λ l. or_right (is_le (pid_cmp q p)) _ (ap is_lt (node_before q r n h (less_of _ l))))

  pub stands_rise : (q r : Pid) → pid_cmp q r ≡ Less → ordering_index (stands q) ≤ ordering_index (stands r)
  stands_rise q r h = go (passed r) refl
    where
      least : (b : Bool) → ordering_index (cond b Less Equal) ≤ 1
      least true = omega arith
      least false = omega arith

      go : (b : Bool) → passed r ≡ b → ordering_index (stands q) ≤ ordering_index (cond b Less Equal)
      go true k = subst (λ b. ordering_index (cond b Less Equal) ≤ 0) (sym (passed_before q r h k)) (omega arith)
      go false k = least (passed q)

  -- one that was passed isn't it
  isnt : (q : Pid) → passed q ≡ true → (is_lt (pid_cmp p q) && is_eq (name_cmp q.node n)) ≡ false
  isnt q h = either (is_le (pid_cmp q p)) (is_lt (name_cmp q.node n)) h
      (λ l. ap (λ b. b && is_eq (name_cmp q.node n)) (ap is_lt (pid_cmp_total.antisymm p q) ∙ turned (pid_cmp q p) l))
      (λ l. ap (λ b. is_lt (pid_cmp p q) && b) (no_tie _ l) ∙ and_false (is_lt (pid_cmp p q)))
    where
      turned : (o : Ordering) → is_le o ≡ true → is_lt (ordering_reverse o) ≡ false
      turned Less h = refl
      turned Equal h = refl
      turned Greater h = cc

  none_after : (q : Pid) (rs : Records) → name_cmp q.node n ≡ Greater → T (below_all pid_cmp q rs) → next_at rs ≡ None
  none_after q [] g s = refl
  none_after q (r ∷ rest) g s =
      let t = both_pass _ _ s in
      let other = ap is_eq (node_behind q r.0 n (less _ t.0) g) in
      ap (λ b. cond b (Some r) (next_at rest)) (ap (λ b. is_lt (pid_cmp p r.0) && b) other ∙ and_false (is_lt (pid_cmp p r.0)))
      ∙ none_after q rest g t.1

  -- the first that wasn't passed is it, or none is
  pub next_is : (rs : Records) → AreSorted rs → this_node n (first_where (λ held end. not (is_lt (stands held))) rs) ≡ next_at rs
  next_is [] s = refl
  next_is (r ∷ rest) s = go (passed r.0) refl (next_is rest (both_pass _ _ s).1)
    where
      later : Option (Pid × End)
      later = first_where (λ held end. not (is_lt (stands held))) rest

      found : Bool → Option (Pid × End)
      found b = this_node n (cond (not (is_lt (cond b Less Equal))) (Some r) later)

      here : (o : Ordering) → name_cmp r.0.node n ≡ o → passed r.0 ≡ false
          → cond (is_eq o) (Some r) None ≡ cond (is_lt (pid_cmp p r.0) && is_eq o) (Some r) (next_at rest)
      here o e h = cases o e
        where
          away : is_lt (pid_cmp p r.0) ≡ true
          away = ap is_lt (pid_cmp_total.antisymm p r.0 ∙ ap ordering_reverse (greater_of _ (or_parts _ _ h).0))

          cases : (o : Ordering) → name_cmp r.0.node n ≡ o
              → cond (is_eq o) (Some r) None ≡ cond (is_lt (pid_cmp p r.0) && is_eq o) (Some r) (next_at rest)
          cases Less e = let c : true ≡ false = sym (ap is_lt e) ∙ (or_parts (is_le (pid_cmp r.0 p)) _ h).1 in cc
          cases Equal e = sym (ap (λ b. cond (b && true) (Some r) (next_at rest)) away)
          cases Greater e =
              sym (ap (λ b. cond b (Some r) (next_at rest)) (and_false (is_lt (pid_cmp p r.0)))
              ∙ none_after r.0 rest e (both_pass _ _ s).0)

      go : (b : Bool) → passed r.0 ≡ b → this_node n later ≡ next_at rest → found (passed r.0) ≡ next_at (r ∷ rest)
      go true h k = ap found h ∙ k ∙ sym (ap (λ b. cond b (Some r) (next_at rest)) (isnt r.0 h))
      go false h k = ap found h ∙ here (name_cmp r.0.node n) refl h
