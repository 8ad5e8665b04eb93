-- The orders of slots are total, and those that are sought lie beside one another.
use Rattle.std.proofs.Common.{◌≡◌, ◌≢◌, ◌≤◌, ℕ, Bool, true, false, cond, ◌&&◌, List, Option, None, Some, refl, sym, ap, ◌∙◌, arith}
use Rattle.std.specs.declared.cmp.Ordering.{Ordering}
use Rattle.std.specs.declared.cmp.Ordering.TheVariants.{Less, Equal, Greater}
use Rattle.std.specs.Ordering.{is_lt, is_eq, ordering_index, ordering_reverse, ordering_then}
use Rattle.std.specs.Option.{option_cmp}
use Rattle.std.specs.Cmp.{IsTotalOrder, alike_right}
use Rattle.std.specs.Cmp.Lexicographic.{nat_list_cmp_total, options_total}
use Rattle.std.proofs.lemmas.Cmp.{on_total, then_total}
use Rattle.sorted_map.proofs.Orderings.{equal_of, less_of, then_equal}
use Rattle.erl_term.specs.declared.term.Pid.{Pid}
use Rattle.erl_term.specs.declared.term.Reference.{Reference}
use Rattle.erl_term.specs.Order.{reference_cmp}
use Rattle.erl_term.proofs.Order.{pid_cmp_total, reference_cmp_total}
use Rattle.monitor_core.specs.declared.orders.By.{By}
use Rattle.monitor_core.specs.declared.orders.By.TheVariants.{References, Processes, Nodes}
use Rattle.monitor_core.specs.declared.orders.Sought.{Sought}
use Rattle.monitor_core.specs.declared.orders.Sought.TheVariants.{Named, OfProcess, OnNode}
use Rattle.monitor_core.specs.Slots.{Entry, held_at}
use Rattle.monitor_core.specs.Orders.{group_cmp, entry_cmp, slot_cmp}
use Rattle.monitor_core.specs.Sought.{is_behind, stand, by_of, meets, entry_place}

-- ---- a total order, and one key of it

module _ {K : Type 0} {R : K → K → Ordering} (o : IsTotalOrder R) where
  lower : (x y k : K) → R x y ≡ Less → R y k ≡ Less → R x k ≡ Less
  lower x y k l h = o.trans x y k l h

  back : (x y : K) → R x y ≡ Greater → R y x ≡ Less
  back x y h = o.antisymm y x ∙ ap ordering_reverse h

  forth : (x y : K) → R x y ≡ Less → R y x ≡ Greater
  forth x y h = o.antisymm y x ∙ ap ordering_reverse h

  higher : (x y k : K) → R x y ≡ Less → R x k ≡ Greater → R y k ≡ Greater
  higher x y k l h = forth k y (o.trans k x y (back x k h) l)

  tied : (x y k : K) → R x k ≡ Equal → R y k ≡ Equal → R x y ≡ Equal
  tied x y k h g = alike_right o y k x g ∙ h

  pub not_less_back : (x y : K) → R x y ≡ Less → R y x ≢ Less
  not_less_back x y h g = let k = forth x y h in let c : Greater ≡ Less = sym k ∙ g in cc

  pub index_rises : (x y k : K) → R x y ≡ Less → ordering_index (R x k) ≤ ordering_index (R y k)
  index_rises x y k l = go (R x k) refl (R y k) refl
    where
      go : (c : Ordering) → R x k ≡ c → (d : Ordering) → R y k ≡ d → ordering_index c ≤ ordering_index d
      go Less e d f = omega arith
      go Equal e Less f = let g = lower x y k l f in cc
      go Equal e Equal f = omega arith
      go Equal e Greater f = omega arith
      go Greater e Less f = let g = higher x y k l e in cc
      go Greater e Equal f = let g = higher x y k l e in cc
      go Greater e Greater f = omega arith

-- ---- the places of those that are sought

pub record Stands {M : Type 0} (R : Entry M → Entry M → Ordering) (place : Entry M → Ordering) : Type 0 where
  pub lesser : (e f : Entry M) → R e f ≡ Less → place f ≡ Less → place e ≡ Less
  pub greater : (e f : Entry M) → R e f ≡ Less → place e ≡ Greater → place f ≡ Greater
  pub among : (e f : Entry M) → R e f ≡ Less → place e ≡ Equal → place f ≡ Equal → reference_cmp e.0 f.0 ≡ Less

grouped : {M K : Type 0} {R : K → K → Ordering} → IsTotalOrder R → (key : M → K) (sought : K)
    → Stands (λ e f. ordering_then (R (key e.1) (key f.1)) (reference_cmp e.0 f.0)) (λ e. R (key e.1) sought)
grouped {M} {K} {R} o key sought = record {
  lesser = λ e f h l. go_lesser (key e.1) (key f.1) (reference_cmp e.0 f.0) (R (key e.1) (key f.1)) refl h l;
  greater = λ e f h g. go_greater (key e.1) (key f.1) (reference_cmp e.0 f.0) (R (key e.1) (key f.1)) refl h g;
  among = λ e f h p q.
      sym (ap (λ c. ordering_then c (reference_cmp e.0 f.0)) (tied o (key e.1) (key f.1) sought p q)) ∙ h;
}
  where
    go_lesser : (x y : K) (then : Ordering) (c : Ordering) → R x y ≡ c → ordering_then c then ≡ Less → R y sought ≡ Less → R x sought ≡ Less
    go_lesser x y then Less e h l = lower o x y sought e l
    go_lesser x y then Equal e h l = o.congr x y sought e ∙ l
    go_lesser x y then Greater e h l = cc

    go_greater : (x y : K) (then : Ordering) (c : Ordering) → R x y ≡ c → ordering_then c then ≡ Less → R x sought ≡ Greater
        → R y sought ≡ Greater
    go_greater x y then Less e h g = higher o x y sought e g
    go_greater x y then Equal e h g = sym (o.congr x y sought e) ∙ g
    go_greater x y then Greater e h g = cc

-- ---- behind a reference

pub still_behind : (behind : Option Reference) (r s : Reference) → reference_cmp r s ≡ Less → is_behind behind r ≡ true → is_behind behind s ≡ true
still_behind None r s l h = refl
still_behind (Some bound) r s l h = ap is_lt (lower reference_cmp_total bound r s (less_of _ h) l)

abbrev start : Bool → Ordering
start b = cond b Equal Less

placed : (a b : Ordering) (p q : Bool) → (b ≡ Less → a ≡ Less) → (a ≡ Greater → b ≡ Greater)
    → (a ≡ Equal → b ≡ Equal → p ≡ true → q ≡ true)
    → ordering_index (ordering_then a (start p)) ≤ ordering_index (ordering_then b (start q))
placed Less b p q f g h = omega arith
placed Equal Less p q f g h = let c = f refl in cc
placed Equal Equal true true f g h = omega arith
placed Equal Equal true false f g h = let c = h refl refl refl in cc
placed Equal Equal false q f g h = omega arith
placed Equal Greater true q f g h = omega arith
placed Equal Greater false q f g h = omega arith
placed Greater Less p q f g h = let c = f refl in cc
placed Greater Equal p q f g h = let c = g refl in cc
placed Greater Greater p q f g h = omega arith

both : (a b : Bool) → a && b ≡ true → (a ≡ true) × (b ≡ true)
both true b h = (refl, h)
both false b h = cc

-- ---- the orders of entries, by a process and by the name of a node

module _ {M : Type 0} (process_of : M → Pid) (node_of : M → List ℕ) where
  all_alike : IsTotalOrder {K = M} (λ m n. Equal)
  all_alike = record { antisymm = λ x y. refl; trans = λ x y z e k. cc; congr = λ x y z e. refl }

  group_total : (by : By) → IsTotalOrder (group_cmp process_of node_of by)
  group_total References = all_alike
  group_total Processes = on_total process_of pid_cmp_total
  group_total Nodes = on_total node_of nat_list_cmp_total

  pub entry_total : (by : By) → IsTotalOrder (entry_cmp process_of node_of by)
  entry_total by = then_total (on_total (λ (e : Entry M). e.1) (group_total by)) (on_total (λ (e : Entry M). e.0) reference_cmp_total)

  pub slot_total : (by : By) (slots : List (Option (Entry M))) → IsTotalOrder (slot_cmp process_of node_of by slots)
  slot_total by slots = on_total (held_at slots) (options_total (entry_total by))

  -- entries that tie are of one reference
  pub tied_references : (by : By) (e f : Entry M) → entry_cmp process_of node_of by e f ≡ Equal → reference_cmp e.0 f.0 ≡ Equal
  tied_references by e f h = (then_equal (group_cmp process_of node_of by e.1 f.1) (reference_cmp e.0 f.0) h).1

  -- ---- those that are sought

  pub stands : (sought : Sought) → Stands (entry_cmp process_of node_of (by_of sought)) (stand process_of node_of sought)
  stands (Named reference) = record {
    lesser = λ e f h l. lower reference_cmp_total e.0 f.0 reference.now h l;
    greater = λ e f h g. higher reference_cmp_total e.0 f.0 reference.now h g;
    among = λ e f h p q. h;
  }
  stands (OfProcess process) = grouped pid_cmp_total process_of process.now
  stands (OnNode node) = grouped nat_list_cmp_total node_of node.now

  pub places_rise : (sought : Sought) (behind : Option Reference) (x y : Option (Entry M))
      → option_cmp (entry_cmp process_of node_of (by_of sought)) x y ≡ Less
      → ordering_index (entry_place process_of node_of sought behind x) ≤ ordering_index (entry_place process_of node_of sought behind y)
  places_rise sought behind None y h = omega arith
  places_rise sought behind (Some e) None h = cc
  places_rise sought behind (Some e) (Some f) h =
      let s = stands sought in
      placed (stand process_of node_of sought e) (stand process_of node_of sought f) (is_behind behind e.0) (is_behind behind f.0)
      (s.lesser e f h) (s.greater e f h) (λ p q b. still_behind behind e.0 f.0 (s.among e f h p q) b)

  -- ---- an entry that is sought

  pub met_place : (sought : Sought) (behind : Option Reference) (e : Entry M) → meets process_of node_of sought behind e ≡ true
      → is_lt (entry_place process_of node_of sought behind (Some e)) ≡ false
  met_place sought behind e h =
      let t = both (is_behind behind e.0) (is_eq (stand process_of node_of sought e)) h in
      ap (λ c. is_lt (ordering_then c (start (is_behind behind e.0)))) (equal_of _ t.1)
      ∙ ap (λ b. is_lt (start b)) t.0

  -- of two that are sought, the lesser has the lesser reference
  pub met_in_order : (sought : Sought) (behind : Option Reference) (e f : Entry M)
      → entry_cmp process_of node_of (by_of sought) e f ≡ Less → meets process_of node_of sought behind e ≡ true
      → meets process_of node_of sought behind f ≡ true
      → reference_cmp e.0 f.0 ≡ Less
  met_in_order sought behind e f h p q =
      (stands sought).among e f h
      (equal_of _ (both (is_behind behind e.0) (is_eq (stand process_of node_of sought e)) p).1)
      (equal_of _ (both (is_behind behind f.0) (is_eq (stand process_of node_of sought f)) q).1)

  -- where the first that isn't less isn't sought, none behind it is
  pub not_met : (sought : Sought) (behind : Option Reference) (e f : Entry M)
      → is_lt (entry_place process_of node_of sought behind (Some e)) ≡ false → meets process_of node_of sought behind e ≡ false
      → entry_cmp process_of node_of (by_of sought) e f ≡ Less → meets process_of node_of sought behind f ≡ false
  not_met sought behind e f n m h = go (stand process_of node_of sought e) refl (is_behind behind e.0) refl (meets process_of node_of sought behind f) refl
    where
      go : (c : Ordering) → stand process_of node_of sought e ≡ c → (b : Bool) → is_behind behind e.0 ≡ b → (r : Bool)
          → meets process_of node_of sought behind f ≡ r → r ≡ false
      go c p b q false t = refl
      go Less p b q true t = let k = ap (λ d. is_lt (ordering_then d (start (is_behind behind e.0)))) p in let d : true ≡ false = sym k ∙ n in cc
      go Equal p true q true t =
          let k : meets process_of node_of sought behind e ≡ true = ap (λ d. d && is_eq (stand process_of node_of sought e)) q ∙ ap is_eq p in
          let d : true ≡ false = sym k ∙ m in cc
      go Equal p false q true t =
          let k = ap (λ d. is_lt (ordering_then d (start (is_behind behind e.0)))) p ∙ ap (λ d. is_lt (start d)) q in
          let d : true ≡ false = sym k ∙ n in cc
      go Greater p b q true t =
          let k = (stands sought).greater e f h p in
          let u = (both (is_behind behind f.0) (is_eq (stand process_of node_of sought f)) t).1 in
          let v : is_eq Greater ≡ true = sym (ap is_eq k) ∙ u in cc
