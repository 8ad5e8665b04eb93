-- A log with one line more.
use Rattle.std.proofs.Common.{ℕ, Bool, Option, List, [], ◌∷◌, ◌++◌, refl, sym, ap, ◌∙◌, append_assoc, append-nil, subst}
use Rattle.dist_books.specs.Logs.{LeadGrows, SentGrows, TookGrows, bare_took, off, on, sent_on, stamped, took_on}

module _ {E A C I : Type 0} (same : C → C → Bool) where
  pub sent_grows : SentGrows E A C I same
  sent_grows c [] line = append-nil (stamped line.entry.stamp (on same c line.sent))
  sent_grows c (x ∷ xs) line =
      ap (λ l. stamped x.entry.stamp (on same c x.sent) ++ l) (sent_grows c xs line)
      ∙ sym (append_assoc (stamped x.entry.stamp (on same c x.sent)) (sent_on same c xs) (stamped line.entry.stamp (on same c line.sent)))

  pub took_grows : TookGrows E A C I same
  took_grows c [] line = append-nil (off same c line.took)
  took_grows c (x ∷ xs) line =
      ap (λ l. off same c x.took ++ l) (took_grows c xs line)
      ∙ sym (append_assoc (off same c x.took) (took_on same c xs) (off same c line.took))

pub lead_grows : {S E A C I : Type 0} → (acts : ℕ → S → E → Option (C × List I) → A → S → List (C × List I) → Type 0) → LeadGrows acts
lead_grows {S} acts k from now next [] line leads acted =
    let P : S → Type 0 = λ s. acts k s line.entry.event (bare_took line.took) line.entry.answer next line.sent in
    (next, subst P leads acted, refl)
lead_grows acts k from now next (x ∷ xs) line leads acted = (leads.0, leads.1, lead_grows acts k leads.0 now next xs line leads.2 acted)
