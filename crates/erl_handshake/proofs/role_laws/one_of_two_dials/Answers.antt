use Rattle.std.proofs.Common.{◌≡◌, ◌≢◌, ◌⊎◌, ℕ, List, None, Bool, true, false, if◌then◌else◌, inl, inr, refl, ap, ◌∙◌}
use Rattle.std.specs.declared.cmp.Ordering.{Ordering}
use Rattle.std.specs.declared.cmp.Ordering.TheVariants.{Less, Equal, Greater}
use Rattle.std.specs.Ordering.{is_gt, ordering_reverse}
use Rattle.std.specs.Cmp.Lexicographic.{nat_list_cmp_total}
use Rattle.std.specs.FinMap.{nat_cmp-IsAntisymmetric, slice_cmp-IsAntisymmetric}
use Rattle.erl_names.specs.Order.{name_cmp}
use Rattle.erl_handshake.specs.declared.admission.OtherConnections.{OtherConnections}
use Rattle.erl_handshake.specs.declared.status.Status.{Status}
use Rattle.erl_handshake.specs.declared.status.Status.TheVariants as status
use Rattle.erl_handshake.specs.Admission.{is_greater, status_due}
use Rattle.erl_handshake.proofs.role_laws.one_of_two_dials.Goals as goal

abbrev chosen : Bool → Status
chosen greater = if greater then status.OkSimultaneous else status.Nok

-- what is said where both nodes dial, and nothing else is between them
both_dial : (a b : List ℕ) (m : ℕ) (others : OtherConnections) → others.waiting ≡ None → others.connected ≡ false → others.dialing ≡ true →
    status_due a b m others ≡ chosen (is_greater a b)
both_dial a b m others w c d = rw (w, c, d) refl

by_order : (a b : List ℕ) (r : Ordering) → name_cmp a b ≡ r → a ≢ b →
    ((is_greater a b ≡ true) × (is_greater b a ≡ false)) ⊎ ((is_greater a b ≡ false) × (is_greater b a ≡ true))
by_order a b Less e ne = inr (ap is_gt e, ap is_gt (nat_list_cmp_total.antisymm b a ∙ ap ordering_reverse e))
by_order a b Equal e ne = absurd (ne (slice_cmp-IsAntisymmetric nat_cmp-IsAntisymmetric a b e))
by_order a b Greater e ne = inl (ap is_gt e, ap is_gt (nat_list_cmp_total.antisymm b a ∙ ap ordering_reverse e))

pub returns : goal.returns
returns c = λ a b m n others ne w u d.
    let here = both_dial a b m others w u d in
    let there = both_dial b a n others w u d in
    elim (by_order a b (name_cmp a b) refl ne) [
      | inl p ↦ inl (here ∙ ap chosen p.0, there ∙ ap chosen p.1)
      | inr p ↦ inr (here ∙ ap chosen p.0, there ∙ ap chosen p.1)
    ]
