-- The first link to a process at a node, by look-ups.
use Rattle.std.proofs.Common.{◌≡◌, ◌≢◌, ℕ, zero, suc, ◌+◌, ◌-◌, ◌<◌, ◌≤◌, ◌⊎◌, inl, inr, Bool, true, false, cond}
use Rattle.std.proofs.Common.{List, length, drop, Option, None, Some, refl, sym, ap, subst, ◌∙◌, arith}
use Rattle.std.proofs.lemmas.List.{length-drop}
use Rattle.std.proofs.lemmas.Option.{none-some, same_Some, slice_get_within}
use Rattle.std.proofs.Math.Seq.{take-length}
use Rattle.std.proofs.lemmas.Bool.{and_parts, both_ways, cases_order, eq-eqb}
use Rattle.std.specs.List.{slice_get, slice_range}
use Rattle.std.specs.Option.{option_and_then}
use Rattle.std.specs.declared.cmp.Ordering.TheVariants.{Less, Greater}
use Rattle.std.specs.Ordering.{is_lt, ordering_reverse, ordering_then}
use Rattle.std.specs.Cmp.{tied_itself}
use Rattle.std.specs.FinMap as fm
use Rattle.sorted_map.specs.First.{first_held, first_least, first_none, first_passes}
use Rattle.dist_model.proofs.Keys.{pid_exact, pid_total, same_pid_true}
use Rattle.dist_model.specs.Names.{Name, pair_cmp, same_name}
use Rattle.erl_names.specs.Ids.{pid_of}
use Rattle.erl_names.specs.Minted.{Minted}
use Rattle.erl_term.specs.Order.{pid_cmp}
use Rattle.erl_term.specs.declared.term.Pid.{Pid}
use Rattle.link_core.specs.declared.end.End.{End}
use Rattle.node_tables.proofs.Lookups.{at_id, get_end, less_id}
use Rattle.sorted_map.proofs.Orderings.{not_less}
use Rattle.sorted_map.proofs.Slices.{slice_get_behind}
use Rattle.node_tables.specs.Linked.{IsFirstLinked, NoneLinked, link_at}
use Rattle.node_tables.specs.Lives.{by_id, end_at, ends_in, is_own, life_in, links_of}
use Rattle.node_tables.specs.declared.life.Life.{Life}

-- ---- a search from a place on

rest_at : (from k : ℕ) → from ≤ k → k ≡ from + (k - from)
rest_at from k l = omega (arith, l)

module _ (node : Name) where
  behind_none : (lives rest : List Life) (from to at : ℕ) → rest ≡ drop from lives
      → ((k : ℕ) → from ≤ k → k < to → k - from < at) → NoneLinked node rest 0 at → NoneLinked node lives from to
  behind_none lives rest from to at is bound h k life le lt there =
      h (k - from) life (omega arith) (bound k le lt)
      (ap (λ l. slice_get l (k - from)) is ∙ slice_get_behind from lives (k - from)
      ∙ ap (slice_get lives) (sym (rest_at from k le)) ∙ there)

  pub linked_behind : (lives rest : List Life) (from at : ℕ) → rest ≡ drop from lives → IsFirstLinked node rest 0 at
      → IsFirstLinked node lives from (from + at)
  linked_behind lives rest from at is h = record {
    life = h.life;
    link = h.link;
    there = sym (slice_get_behind from lives at) ∙ ap (λ l. slice_get l at) (sym is) ∙ h.there;
    linked = h.linked;
    behind = omega arith;
    before = behind_none lives rest from (from + at) at is (λ k le lt. omega (arith, le, lt)) h.before;
  }

  pub none_behind : (lives rest : List Life) (from : ℕ) → rest ≡ drop from lives → NoneLinked node rest 0 (length rest)
      → NoneLinked node lives from (length lives)
  none_behind lives rest from is h =
      behind_none lives rest from (length lives) (length rest) is
      (λ k le lt. let n : length rest ≡ length lives - from = ap length is ∙ length-drop from lives in omega (arith, le, lt, n)) h

  pub linked_within : (lives : List Life) (from place : ℕ) → IsFirstLinked node lives from place → place < length lives
  linked_within lives from place h = slice_get_within lives place h.life h.there

-- what a part up to the end is
pub is_rest : {A : Type 0} (from : ℕ) (xs rest : List A) → rest ≡ slice_range xs from (length xs) → rest ≡ drop from xs
is_rest from xs rest h =
    h ∙ ap (λ n. Rattle.std.proofs.Common.take n (drop from xs)) (sym (length-drop from xs)) ∙ take-length (drop from xs)

-- ---- the process of a link

record Held (m : Minted) (es : List Life) (p q : Pid) (e : End) : Type 0 where
  pub place : ℕ
  pub life : Life
  pub id : p.id ≡ suc place
  pub pid : p ≡ pid_of m (suc place)
  pub there : slice_get es place ≡ Some life
  pub end : fm.get (links_of life) q ≡ Some e

held_by : (m : Minted) (es : List Life) (p q : Pid) (e : End) → fm.get (ends_in m es) (p, q) ≡ Some e → Held m es p q e
held_by m es p q e h = go (is_own m p) refl p.id refl (sym (get_end m es p q) ∙ h)
  where
    whole : is_own m p ≡ true → p ≡ pid_of m p.id
    whole own =
        same_pid_true p (pid_of m p.id)
        (at_id m p.id p ∙ ap (λ b. Rattle.std.proofs.Common.◌&&◌ b (Rattle.std.proofs.Common.nat_eq p.id p.id)) own ∙ eq-eqb p.id p.id refl)

    of_life : (place : ℕ) (o : Option Life) → is_own m p ≡ true → p.id ≡ suc place → slice_get es place ≡ o
        → option_and_then (end_at q) o ≡ Some e → Held m es p q e
    of_life place None own is there k = absurd (none-some e k)
    of_life place (Some life) own is there k = record {
      place = place;
      life = life;
      id = is;
      pid = whole own ∙ ap (pid_of m) is;
      there = there;
      end = k;
    }

    go : (b : Bool) → is_own m p ≡ b → (id : ℕ) → p.id ≡ id
        → option_and_then (end_at q) (cond (is_own m p) (by_id es p.id) None) ≡ Some e → Held m es p q e
    go false own id is k = absurd (none-some e (sym (ap (λ b. option_and_then (end_at q) (cond b (by_id es p.id) None)) own) ∙ k))
    go true own zero is k =
        absurd (none-some e (sym
        (ap (λ b. option_and_then (end_at q) (cond b (by_id es p.id) None)) own ∙ ap (λ n. option_and_then (end_at q) (by_id es n)) is)
        ∙ k))
    go true own (suc place) is k =
        of_life place (slice_get es place) own is refl (sym
        (ap (λ b. option_and_then (end_at q) (cond b (by_id es p.id) None)) own ∙ ap (λ n. option_and_then (end_at q) (by_id es n)) is)
        ∙ k)

-- ---- the link that was found

module _ (m : Minted) (es : List Life) (node : Name) where
  own_life : (place : ℕ) (life : Life) → slice_get es place ≡ Some life → life_in m es (pid_of m (suc place)) ≡ Some life
  own_life place life h = ap (λ b. cond b (slice_get es place) None) own ∙ h
    where
      own : is_own m (pid_of m (suc place)) ≡ true
      own = (and_parts _ _
          (sym (at_id m (suc place) (pid_of m (suc place))) ∙ Rattle.dist_model.proofs.Keys.same_pid_refl (pid_of m (suc place)))).0

  -- no record of the process is to one at the node
  none_of : (life : Life) (q : Pid) (e : End) → link_at node life ≡ None → fm.get (links_of life) q ≡ Some e → same_name q.node node ≡ false
  none_of life q e none h =
      first_none pid_total pid_exact (λ partner end. same_name partner.node node) (fm.entries (links_of life)) q e none
      (sym (fm.get-entries (links_of life) q) ∙ h)

  module _ (place : ℕ) (life : Life) (link : Pid × End) (there : slice_get es place ≡ Some life)
      (linked : link_at node life ≡ Some link) where
    pub found : fm.get (ends_in m es) (pid_of m (suc place), link.0) ≡ Some link.1
    found =
        get_end m es (pid_of m (suc place)) link.0 ∙ ap (option_and_then (end_at link.0)) (own_life place life there)
        ∙ fm.get-entries (links_of life) link.0
        ∙ first_held pid_total pid_exact (λ partner end. same_name partner.node node) (fm.entries (links_of life)) link
        (fm.entries_sorted (links_of life)) linked

    pub towards : same_name link.0.node node ≡ true
    towards = first_passes pid_total pid_exact (λ partner end. same_name partner.node node) (fm.entries (links_of life)) link linked

    least_here : (q : Pid) (e : End) → fm.get (links_of life) q ≡ Some e → same_name q.node node ≡ true → pid_cmp q link.0 ≢ Less
    least_here q e h t =
        first_least pid_total pid_exact (λ partner end. same_name partner.node node) (fm.entries (links_of life)) link q e
        (fm.entries_sorted (links_of life)) linked (sym (fm.get-entries (links_of life) q) ∙ h) t

    of_same : (q : Pid) → pid_cmp q link.0 ≢ Less → is_lt (pair_cmp (pid_of m (suc place), q) (pid_of m (suc place), link.0)) ≡ false
    of_same q h =
        ap (λ o. is_lt (ordering_then o (pid_cmp q link.0))) (tied_itself pid_total (pid_of m (suc place))) ∙ not_less (pid_cmp q link.0) h

    of_later : (k : ℕ) (q : Pid) → place < k → is_lt (pair_cmp (pid_of m (suc k), q) (pid_of m (suc place), link.0)) ≡ false
    of_later k q l =
        let less : pid_cmp (pid_of m (suc place)) (pid_of m (suc k)) ≡ Less = less_id m (suc place) (suc k) (omega (arith, l)) in
        let greater : pid_cmp (pid_of m (suc k)) (pid_of m (suc place)) ≡ Greater =
        pid_total.antisymm (pid_of m (suc k)) (pid_of m (suc place)) ∙ ap ordering_reverse less in
        ap (λ o. is_lt (ordering_then o (pid_cmp q link.0))) greater

    pub least : (after : ℕ) → NoneLinked node es after place → (p q : Pid) (e : End) → fm.get (ends_in m es) (p, q) ≡ Some e
        → after < p.id → same_name q.node node ≡ true
        → is_lt (pair_cmp (p, q) (pid_of m (suc place), link.0)) ≡ false
    least after before p q e h l t =
        let x = held_by m es p q e h in
        subst (λ (y : Pid). is_lt (pair_cmp (y, q) (pid_of m (suc place), link.0)) ≡ false) (sym x.pid) (go x (cases_order x.place place))
      where
        go : (x : Held m es p q e) → (x.place ≡ place) ⊎ ((x.place < place) ⊎ (place < x.place))
            → is_lt (pair_cmp (pid_of m (suc x.place), q) (pid_of m (suc place), link.0)) ≡ false
        go x (inr (inl lt)) =
            absurd
            (both_ways (same_name q.node node) (none_of x.life q e (before x.place x.life (omega (arith, l, x.id)) lt x.there) x.end) t)
        go x (inl same) =
            let life_is : x.life ≡ life = same_Some x.life life (sym x.there ∙ ap (slice_get es) same ∙ there) in
            let end : fm.get (links_of life) q ≡ Some e = subst (λ y. fm.get (links_of y) q ≡ Some e) life_is x.end in
            subst (λ k. is_lt (pair_cmp (pid_of m (suc k), q) (pid_of m (suc place), link.0)) ≡ false) (sym same)
            (of_same q (least_here q e end t))
        go x (inr (inr lt)) = of_later x.place q lt

  pub none_found : (after : ℕ) → NoneLinked node es after (length es) → (p q : Pid) (e : End)
      → fm.get (ends_in m es) (p, q) ≡ Some e → after < p.id → same_name q.node node ≡ false
  none_found after none p q e h l =
      let x = held_by m es p q e h in
      none_of x.life q e (none x.place x.life (omega (arith, l, x.id)) (slice_get_within es x.place x.life x.there) x.there) x.end
