-- A slot comes into a tree, or goes, and the first one in it that is sought.
use Rattle.std.proofs.Common.{◌≡◌, ◌≢◌, ℕ, ◌==◌, Bool, true, false, cond, not, ◌&&◌, ◌||◌, List, Option, None, Some, is_some}
use Rattle.std.proofs.Common.{◌⊎◌, inl, inr, refl, sym, ap, subst, ◌∙◌}
use Rattle.std.proofs.lemmas.Bool.{eqb-true, eqb-false, eq-eqb}
use Rattle.std.specs.declared.cmp.Ordering.{Ordering}
use Rattle.std.specs.declared.cmp.Ordering.TheVariants.{Less, Equal}
use Rattle.std.specs.Ordering.{is_lt}
use Rattle.std.specs.Option.{option_cmp}
use Rattle.std.proofs.lemmas.Cmp.{tied_itself}
use Rattle.std.specs.Cmp.{tied_back}
use Rattle.sorted_map.specs.Indexed.{IsParted, first_not_less, with_slot, without_tied}
use Rattle.erl_term.specs.declared.term.Pid.{Pid}
use Rattle.erl_term.specs.declared.term.Reference.{Reference}
use Rattle.erl_term.specs.Order.{reference_cmp}
use Rattle.erl_term.proofs.Order.{reference_cmp_total}
use Rattle.monitor_core.specs.declared.orders.By.{By}
use Rattle.monitor_core.specs.declared.orders.Sought.{Sought}
use Rattle.monitor_core.specs.Slots.{Entry, has, held_at, holds, holds_but, Becomes, IsAlone}
use Rattle.monitor_core.specs.declared.orders.By.TheVariants.{References, Processes, Nodes}
use Rattle.monitor_core.specs.Orders.{entry_cmp, slot_cmp}
use Rattle.monitor_core.specs.Sought.{by_of, meets, entry_place, slot_place, IsNext}
use Rattle.monitor_core.specs.declared.orders.Sought.TheVariants.{Named, OfProcess, OnNode}
use Rattle.monitor_core.specs.declared.trees.Trees.{Trees}
use Rattle.monitor_core.specs.Trees.{IsTree, AreTrees, tree_of}
use Rattle.monitor_core.proofs.Lists.{rises_weaker}
use Rattle.monitor_core.proofs.Members.{each_has, has_each, parted, IsFirstIn, first_in, rises_with, has_with, rises_without, has_without}
use Rattle.monitor_core.proofs.Ranks.{slot_total, index_rises, tied_references, places_rise, met_place, met_in_order, not_met, not_less_back}

abbrev Held : Type 0 → Type 0
Held M = List (Option (Entry M))

-- ---- what a slot holds

pub holding : {M : Type 0} (entry : Option (Entry M)) → is_some entry ≡ true → (e : Entry M) × (entry ≡ Some e)
holding None h = cc
holding (Some e) h = (e, refl)

pub never_holds : {M : Type 0} (entry : Option (Entry M)) → entry ≡ None → is_some entry ≡ true → ⊥
never_holds None h k = cc
never_holds (Some e) h k = cc

same_entry : {M : Type 0} (slots : Held M) (i j : ℕ) (e f : Entry M) → i ≡ j → held_at slots i ≡ Some e → held_at slots j ≡ Some f → e ≡ f
same_entry slots i j e f is p q = let k = ap (held_at slots) is in cc

both : (a b : Bool) → a && b ≡ true → (a ≡ true) × (b ≡ true)
both true b h = (refl, h)
both false b h = cc

or_and : (a b : Bool) → (b ≡ true → a ≡ true) → b || (a && not b) ≡ a
or_and a true h = sym (h refl)
or_and true false h = refl
or_and false false h = refl

not_true : (b : Bool) → not b ≡ true → b ≡ false
not_true true h = cc
not_true false h = refl

unlike_but : {M : Type 0} (slots : Held M) (slot y : ℕ) → held_at slots slot ≡ None → holds slots y ≡ holds_but slots slot y
unlike_but slots slot y none = go (y == slot) refl
  where
    go : (b : Bool) → (y == slot) ≡ b → holds slots y ≡ holds slots y && not (y == slot)
    go true e = let k : holds slots y ≡ false = ap (holds slots) (eqb-true y slot e) ∙ ap is_some none in k ∙ sym (ap (λ b. b && not (y == slot)) k)
    go false e = sym (ap (λ b. holds slots y && not b) e ∙ and_true (holds slots y))
      where
        and_true : (b : Bool) → b && true ≡ b
        and_true true = refl
        and_true false = refl

pub at_other : {M : Type 0} (old new : Held M) (slot : ℕ) (entry : Option (Entry M)) → Becomes old new slot entry → (y : ℕ) → (y == slot) ≡ false
    → held_at new y ≡ held_at old y
at_other old new slot entry h y e = h y ∙ ap (λ b. cond b entry (held_at old y)) e

pub at_slot : {M : Type 0} (old new : Held M) (slot : ℕ) (entry : Option (Entry M)) → Becomes old new slot entry → held_at new slot ≡ entry
at_slot old new slot entry h = h slot ∙ ap (λ b. cond b entry (held_at old slot)) (eq-eqb slot slot refl)

-- no two are of one reference still
pub still_alone : {M : Type 0} (old new : Held M) (slot : ℕ) → IsAlone old → Becomes old new slot None → IsAlone new
still_alone old new slot alone b i j e f p q t =
    go (i == slot) refl (j == slot) refl
  where
    go : (c : Bool) → (i == slot) ≡ c → (d : Bool) → (j == slot) ≡ d → i ≡ j
    go true u d v = let k : None ≡ Some e = sym (at_slot old new slot None b) ∙ ap (held_at new) (sym (eqb-true i slot u)) ∙ p in cc
    go false u true v = let k : None ≡ Some f = sym (at_slot old new slot None b) ∙ ap (held_at new) (sym (eqb-true j slot v)) ∙ q in cc
    go false u false v = alone i j e f (sym (at_other old new slot None b i u) ∙ p) (sym (at_other old new slot None b j v) ∙ q) t

pub alone_with : {M : Type 0} (old new : Held M) (slot : ℕ) (new_one : Entry M) → IsAlone old
    → ((i : ℕ) (e : Entry M) → held_at old i ≡ Some e → reference_cmp e.0 new_one.0 ≢ Equal) → Becomes old new slot (Some new_one) → IsAlone new
alone_with {M} old new slot new_one alone fresh b i j e f p q t =
    go (i == slot) refl (j == slot) refl
  where
    here : (k : ℕ) (g : Entry M) → (k == slot) ≡ true → held_at new k ≡ Some g → new_one ≡ g
    here k g u r = let l : Some new_one ≡ Some g = sym (at_slot old new slot (Some new_one) b) ∙ ap (held_at new) (sym (eqb-true k slot u)) ∙ r in cc

    go : (c : Bool) → (i == slot) ≡ c → (d : Bool) → (j == slot) ≡ d → i ≡ j
    go true u true v = eqb-true i slot u ∙ sym (eqb-true j slot v)
    go true u false v =
        absurd (fresh j f (sym (at_other old new slot (Some new_one) b j v) ∙ q)
        (tied_back reference_cmp_total new_one.0 f.0 (ap (λ (x : Entry M). reference_cmp x.0 f.0) (here i e u p) ∙ t)))
    go false u true v =
        absurd (fresh i e (sym (at_other old new slot (Some new_one) b i u) ∙ p)
        (ap (λ (x : Entry M). reference_cmp e.0 x.0) (here j f v q) ∙ t))
    go false u false v =
        alone i j e f (sym (at_other old new slot (Some new_one) b i u) ∙ p) (sym (at_other old new slot (Some new_one) b j v) ∙ q) t

-- ---- the trees, in the orders by a process and by the name of a node

module _ {M : Type 0} (process_of : M → Pid) (node_of : M → List ℕ) where
  -- slots that tie in an order are one
  pub tied_slots : (by : By) (slots : Held M) (i j : ℕ) → IsAlone slots → is_some (held_at slots i) ≡ true → is_some (held_at slots j) ≡ true
      → slot_cmp process_of node_of by slots i j ≡ Equal → i ≡ j
  tied_slots by slots i j alone p q h =
      let x = holding (held_at slots i) p in let y = holding (held_at slots j) q in
      alone i j x.0 y.0 x.1 y.1 (tied_references process_of node_of by x.0 y.0 (sym (λ k. option_cmp (entry_cmp process_of node_of by) (x.1 k) (y.1 k)) ∙ h))

  -- ---- in parts

  pub slots_parted : (by : By) (slots : Held M) (is_in : ℕ → Bool) (tree : List ℕ) (slot : ℕ) → IsTree process_of node_of by slots is_in tree
      → IsParted (λ other. slot_cmp process_of node_of by slots other slot) tree
  slots_parted by slots is_in tree slot h =
      parted (λ i j. slot_cmp process_of node_of by slots i j ≡ Less) (λ other. slot_cmp process_of node_of by slots other slot)
      (λ i j l. index_rises (slot_total process_of node_of by slots) i j slot l) tree h.rising

  pub sought_parted : (sought : Sought) (behind : Option Reference) (slots : Held M) (is_in : ℕ → Bool) (tree : List ℕ)
      → IsTree process_of node_of (by_of sought) slots is_in tree → IsParted (slot_place process_of node_of sought behind slots) tree
  sought_parted sought behind slots is_in tree h =
      parted (λ i j. slot_cmp process_of node_of (by_of sought) slots i j ≡ Less) (slot_place process_of node_of sought behind slots)
      (λ i j l. places_rise process_of node_of sought behind (held_at slots i) (held_at slots j) l) tree h.rising

  -- ---- a slot comes, or goes

  pub inserted : (by : By) (slots : Held M) (tree : List ℕ) (slot : ℕ) → IsAlone slots → is_some (held_at slots slot) ≡ true
      → IsTree process_of node_of by slots (holds_but slots slot) tree
      → IsTree process_of node_of by slots (holds slots) (with_slot (λ other. slot_cmp process_of node_of by slots other slot) slot tree)
  inserted by slots tree slot alone held h =
      let total = slot_total process_of node_of by slots in
      record {
        rising = rises_with total slot tree h.rising (each_has (λ x. slot_cmp process_of node_of by slots x slot ≢ Equal) tree (λ x k e.
            let t = both (holds slots x) (not (x == slot)) (sym (h.all x) ∙ k) in
            eqb-false x slot (not_true (x == slot) t.1) (tied_slots by slots x slot alone t.0 held e)));
        all = λ y. has_with total slot tree y ∙ ap (λ b. (y == slot) || b) (h.all y)
            ∙ or_and (holds slots y) (y == slot) (λ e. ap (holds slots) (eqb-true y slot e) ∙ held);
      }

  pub removed : (by : By) (slots : Held M) (tree : List ℕ) (slot : ℕ) → IsAlone slots → is_some (held_at slots slot) ≡ true
      → IsTree process_of node_of by slots (holds slots) tree
      → IsTree process_of node_of by slots (holds_but slots slot) (without_tied (λ other. slot_cmp process_of node_of by slots other slot) tree)
  removed by slots tree slot alone held h =
      let total = slot_total process_of node_of by slots in
      let ties = each_has (λ x. slot_cmp process_of node_of by slots x slot ≡ Equal → x ≡ slot) tree
      (λ x k e. tied_slots by slots x slot alone (sym (h.all x) ∙ k) held e) in
      record {
        rising = rises_without total slot tree h.rising;
        all = λ y. has_without total slot tree h.rising ties y ∙ ap (λ b. b && not (y == slot)) (h.all y);
      }

  -- ---- an entry comes, or goes

  -- an empty slot is in no tree
  pub in_but : (by : By) (slots : Held M) (tree : List ℕ) (slot : ℕ) → held_at slots slot ≡ None → IsTree process_of node_of by slots (holds slots) tree
      → IsTree process_of node_of by slots (holds_but slots slot) tree
  in_but by slots tree slot none h = record { rising = h.rising; all = λ y. h.all y ∙ unlike_but slots slot y none }

  pub in_all : (by : By) (slots : Held M) (tree : List ℕ) (slot : ℕ) → held_at slots slot ≡ None → IsTree process_of node_of by slots (holds_but slots slot) tree
      → IsTree process_of node_of by slots (holds slots) tree
  in_all by slots tree slot none h = record { rising = h.rising; all = λ y. h.all y ∙ sym (unlike_but slots slot y none) }

  -- the others stand in one another's order as they did
  pub in_others : (by : By) (old new : Held M) (tree : List ℕ) (slot : ℕ) (entry : Option (Entry M)) → Becomes old new slot entry
      → IsTree process_of node_of by old (holds_but old slot) tree → IsTree process_of node_of by new (holds_but new slot) tree
  in_others by old new tree slot entry b h = record {
    rising = rises_weaker (λ x. (x == slot) ≡ false) (λ i j. slot_cmp process_of node_of by old i j ≡ Less) (λ i j. slot_cmp process_of node_of by new i j ≡ Less)
        (λ i j p q l. (λ k. option_cmp (entry_cmp process_of node_of by) (at_other old new slot entry b i p k) (at_other old new slot entry b j q k)) ∙ l)
        tree (each_has (λ x. (x == slot) ≡ false) tree (λ x k. not_true (x == slot) (both (holds old x) (not (x == slot)) (sym (h.all x) ∙ k)).1))
        h.rising;
    all = λ y. h.all y ∙ go y (y == slot) refl;
  }
    where
      go : (y : ℕ) (c : Bool) → (y == slot) ≡ c → holds old y && not (y == slot) ≡ holds new y && not (y == slot)
      go y true e = ap (λ c. holds old y && not c) e ∙ and_false (holds old y) ∙ sym (ap (λ c. holds new y && not c) e ∙ and_false (holds new y))
        where
          and_false : (c : Bool) → c && false ≡ false
          and_false true = refl
          and_false false = refl
      go y false e = ap (λ c. is_some c && not (y == slot)) (sym (at_other old new slot entry b y e))

  -- ---- the first that is sought

  module _ (sought : Sought) (behind : Option Reference) (slots : Held M) (tree : List ℕ) where
    abbrev Before : ℕ → ℕ → Type 0
    Before i j = slot_cmp process_of node_of (by_of sought) slots i j ≡ Less

    abbrev place : ℕ → Ordering
    place = slot_place process_of node_of sought behind slots

    abbrev met : Entry M → Bool
    met = meets process_of node_of sought behind

    -- an entry that is sought isn't less
    met_at : (slot : ℕ) (e : Entry M) → held_at slots slot ≡ Some e → met e ≡ true → is_lt (place slot) ≡ false
    met_at slot e p m = ap (λ x. is_lt (entry_place process_of node_of sought behind x)) p ∙ met_place process_of node_of sought behind e m

    entries_before : (i j : ℕ) (e f : Entry M) → held_at slots i ≡ Some e → held_at slots j ≡ Some f → Before i j
        → entry_cmp process_of node_of (by_of sought) e f ≡ Less
    entries_before i j e f p q l = sym (λ k. option_cmp (entry_cmp process_of node_of (by_of sought)) (p k) (q k)) ∙ l

    never : (b : Bool) → (b ≡ true → ⊥) → b ≡ false
    never true n = absurd (n refl)
    never false n = refl

    module _ (h : IsTree process_of node_of (by_of sought) slots (holds slots) tree) where
      in_tree : (slot : ℕ) (e : Entry M) → held_at slots slot ≡ Some e → has slot tree ≡ true
      in_tree slot e p = h.all slot ∙ ap is_some p

      none_is : first_not_less place tree ≡ None → IsNext met slots None
      none_is n slot e p =
          let each = subst (IsFirstIn Before place tree) n (first_in Before place tree h.rising) in
          let l = has_each (λ x. is_lt (place x) ≡ true) tree slot each (in_tree slot e p) in
          never (met e) (λ m. let k = met_at slot e p m in let c : true ≡ false = sym l ∙ k in cc)

      -- where it is among those that aren't less
      stands_behind : (found slot : ℕ) (e : Entry M) → first_not_less place tree ≡ Some found → held_at slots slot ≡ Some e → met e ≡ true
          → (slot ≡ found) ⊎ Before found slot
      stands_behind found slot e n p m =
          let first = subst (IsFirstIn Before place tree) n (first_in Before place tree h.rising) in
          has_each (λ x. is_lt (place x) ≡ false → (x ≡ found) ⊎ Before found x) tree slot first.2 (in_tree slot e p) (met_at slot e p m)

      pub found_holds : (found : ℕ) → first_not_less place tree ≡ Some found → is_some (held_at slots found) ≡ true
      found_holds found n =
          let first = subst (IsFirstIn Before place tree) n (first_in Before place tree h.rising) in sym (h.all found) ∙ first.0

      pub found_met : (found : ℕ) (e : Entry M) → first_not_less place tree ≡ Some found → held_at slots found ≡ Some e → met e ≡ true
          → IsNext met slots (Some found)
      found_met found e n p m = record {
        entry = e;
        held = p;
        passing = m;
        least = λ slot f q t. go slot f q t (stands_behind found slot f n q t);
      }
        where
          go : (slot : ℕ) (f : Entry M) → held_at slots slot ≡ Some f → met f ≡ true → (slot ≡ found) ⊎ Before found slot → reference_cmp f.0 e.0 ≢ Less
          go slot f q t (inl is) l =
              let same = same_entry slots slot found f e is q p in
              let k : reference_cmp f.0 e.0 ≡ Equal = ap (λ (x : Entry M). reference_cmp x.0 e.0) same ∙ tied_itself reference_cmp_total e.0 in
              let c : Equal ≡ Less = sym k ∙ l in cc
          go slot f q t (inr b) l =
              not_less_back reference_cmp_total e.0 f.0
              (met_in_order process_of node_of sought behind e f (entries_before found slot e f p q b) m t) l

      pub found_not_met : (found : ℕ) (e : Entry M) → first_not_less place tree ≡ Some found → held_at slots found ≡ Some e → met e ≡ false
          → IsNext met slots None
      found_not_met found e n p m slot f q = never (met f) (λ t. go t (stands_behind found slot f n q t))
        where
          go : met f ≡ true → (slot ≡ found) ⊎ Before found slot → ⊥
          go t (inl is) =
              let same = same_entry slots slot found f e is q p in
              let k : met f ≡ false = ap met same ∙ m in let c : true ≡ false = sym t ∙ k in cc
          go t (inr b) =
              let first = subst (IsFirstIn Before place tree) n (first_in Before place tree h.rising) in
              let l = ap (λ x. is_lt (entry_place process_of node_of sought behind x)) (sym p) ∙ first.1 in
              let k = not_met process_of node_of sought behind e f l m (entries_before found slot e f p q b) in let c : true ≡ false = sym t ∙ k in cc

      pub none_found : first_not_less place tree ≡ None → IsNext met slots None
      none_found = none_is

  -- ---- in the tree of those that are sought

  pub tree_is : (slots : Held M) (is_in : ℕ → Bool) (trees : Trees) (sought : Sought) → AreTrees process_of node_of slots is_in trees
      → IsTree process_of node_of (by_of sought) slots is_in (tree_of sought trees).slots
  tree_is slots is_in trees (Named reference) h = h.references
  tree_is slots is_in trees (OfProcess process) h = h.processes
  tree_is slots is_in trees (OnNode node) h = h.nodes

  -- an entry came into a slot that was empty, and the trees are those of the others still
  pub trees_before : (old new : Held M) (slot : ℕ) (entry : Option (Entry M)) (trees : Trees) → held_at old slot ≡ None
      → Becomes old new slot entry → AreTrees process_of node_of old (holds old) trees → AreTrees process_of node_of new (holds_but new slot) trees
  trees_before old new slot entry trees none b h = record {
    references = in_others References old new trees.by_reference.slots slot entry b (in_but References old trees.by_reference.slots slot none h.references);
    processes = in_others Processes old new trees.by_process.slots slot entry b (in_but Processes old trees.by_process.slots slot none h.processes);
    nodes = in_others Nodes old new trees.by_node.slots slot entry b
        (in_but Nodes old trees.by_node.slots slot none h.nodes);
  }

  -- the slot that the trees leave out is emptied
  pub trees_after : (old new : Held M) (slot : ℕ) (trees : Trees) → Becomes old new slot None
      → AreTrees process_of node_of old (holds_but old slot) trees → AreTrees process_of node_of new (holds new) trees
  trees_after old new slot trees b h =
      let none = at_slot old new slot None b in
      record {
        references = in_all References new trees.by_reference.slots slot none (in_others References old new trees.by_reference.slots slot None b h.references);
        processes = in_all Processes new trees.by_process.slots slot none
            (in_others Processes old new trees.by_process.slots slot None b h.processes);
        nodes = in_all Nodes new trees.by_node.slots slot none
            (in_others Nodes old new trees.by_node.slots slot None b h.nodes);
      }
