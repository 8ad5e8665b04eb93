-- The orders of pids and of references: they are total, what compares alike is one, and the pids of one node lie beside one another.
use Rattle.std.proofs.Common.{◌≡◌, ℕ, List, refl, sym, ap, ◌∙◌}
use Rattle.std.specs.declared.cmp.Ordering.{Ordering}
use Rattle.std.specs.declared.cmp.Ordering.TheVariants.{Less, Equal, Greater}
use Rattle.std.specs.Ordering.{nat_cmp, ordering_reverse, ordering_then}
use Rattle.std.specs.Cmp.{IsTotalOrder, nat_cmp_total}
use Rattle.std.specs.Cmp.Lexicographic.{slice_cmp, nat_list_cmp_total}
use Rattle.std.specs.FinMap.{IsAntisymmetric}
use Rattle.std.proofs.lemmas.Cmp.{on_total, then_total}
use Rattle.std.proofs.lemmas.Map.Lookups.{exact_pairs, exact_unsigned, exact_bytes}
use Rattle.erl_term.specs.declared.term.Pid.{Pid}
use Rattle.erl_term.specs.declared.term.Reference.{Reference}
use Rattle.erl_term.specs.Order.{pid_cmp, reference_cmp}

pub pid_cmp_total : IsTotalOrder pid_cmp
pid_cmp_total = then_total (on_total (λ p. p.node) nat_list_cmp_total) (then_total (on_total (λ p. p.creation) nat_cmp_total)
    (then_total (on_total (λ p. p.id) nat_cmp_total) (on_total (λ p. p.serial) nat_cmp_total)))

abbrev pid_of : List ℕ × (ℕ × (ℕ × ℕ)) → Pid
pid_of p = record { node = p.0; creation = p.1.0; id = p.1.1.0; serial = p.1.1.1 }

pub pid_cmp_exact : IsAntisymmetric pid_cmp
pid_cmp_exact a b h =
    ap pid_of (exact_pairs (slice_cmp nat_cmp) _ exact_bytes
    (exact_pairs nat_cmp _ exact_unsigned (exact_pairs nat_cmp nat_cmp exact_unsigned exact_unsigned))
    (a.node, (a.creation, (a.id, a.serial))) (b.node, (b.creation, (b.id, b.serial))) h)

pub reference_cmp_total : IsTotalOrder reference_cmp
reference_cmp_total = then_total (on_total (λ r. r.node) nat_list_cmp_total)
    (then_total (on_total (λ r. r.creation) nat_cmp_total) (on_total (λ r. r.words) nat_list_cmp_total))

abbrev reference_from : List ℕ × (ℕ × List ℕ) → Reference
reference_from r = record { node = r.0; creation = r.1.0; words = r.1.1 }

pub reference_cmp_exact : IsAntisymmetric reference_cmp
reference_cmp_exact a b h =
    ap reference_from (exact_pairs (slice_cmp nat_cmp) _ exact_bytes (exact_pairs nat_cmp _ exact_unsigned exact_bytes)
    (a.node, (a.creation, a.words)) (b.node, (b.creation, b.words)) h)

-- ---- a greater pid isn't of a lesser node

abbrev pub name_cmp : List ℕ → List ℕ → Ordering
name_cmp = slice_cmp nat_cmp

node_first : (p q : Pid) → pid_cmp p q ≡ Less → name_cmp p.node q.node ≡ Greater → ⊥
node_first p q h e =
    let c : Greater ≡ Less =
    sym (ap (λ x. ordering_then x
    (ordering_then (nat_cmp p.creation q.creation) (ordering_then (nat_cmp p.id q.id) (nat_cmp p.serial q.serial)))) e) ∙ h in
    cc

pub node_before : (p q : Pid) (n : List ℕ) → pid_cmp p q ≡ Less → name_cmp q.node n ≡ Less → name_cmp p.node n ≡ Less
node_before p q n h l = go (name_cmp p.node q.node) refl
  where
    go : (o : Ordering) → name_cmp p.node q.node ≡ o → name_cmp p.node n ≡ Less
    go Less e = nat_list_cmp_total.trans p.node q.node n e l
    go Equal e = nat_list_cmp_total.congr p.node q.node n e ∙ l
    go Greater e = absurd (node_first p q h e)

pub node_behind : (p q : Pid) (n : List ℕ) → pid_cmp p q ≡ Less → name_cmp p.node n ≡ Greater → name_cmp q.node n ≡ Greater
node_behind p q n h g = go (name_cmp p.node q.node) refl
  where
    go : (o : Ordering) → name_cmp p.node q.node ≡ o → name_cmp q.node n ≡ Greater
    go Less e =
        let under : name_cmp n p.node ≡ Less = nat_list_cmp_total.antisymm n p.node ∙ ap ordering_reverse g in
        nat_list_cmp_total.antisymm q.node n ∙ ap ordering_reverse (nat_list_cmp_total.trans n p.node q.node under e)
    go Equal e = sym (nat_list_cmp_total.congr p.node q.node n e) ∙ g
    go Greater e = absurd (node_first p q h e)
