-- Two entries that are a run by their stamps, and none by the numbers of their nodes.
use Rattle.std.proofs.Common.{◌≡◌, ℕ, None, Some, [], ◌∷◌, ◌++◌, ◌==◌, refl, ap, ◌∙◌}
use Rattle.dist_books.specs.Logs.{off, on}
use Rattle.dist_books.specs.Runs.{World, opening}
use Rattle.dist_books.specs.Unsorted.{LeadByStamp, LeadNowhereByNode}

pub lead_nowhere : LeadNowhereByNode
lead_nowhere new run =
    let m = run.1 in
    let nothing : [] ≡ off (λ c d. c == d) 5 m.took ++ m.left 5 = m.first 5 in
    let seven : off (λ c d. c == d) 5 m.took ≡ 7 ∷ [] = ap (λ took. off (λ c d. c == d) 5 took) m.acted.1 in
    let no : [] ≡ 7 ∷ m.left 5 = nothing ∙ ap (λ l. l ++ m.left 5) seven in
    cc

abbrev between : World ℕ ℕ ℕ
between = record { nodes = λ k. 0; lists = λ c. on (λ c d. c == d) c ((5, 7 ∷ []) ∷ []) }

pub lead_somewhere : LeadByStamp
lead_somewhere = (
  opening ℕ ℕ (λ k. 0),
  (
    between,
    record {
      took = None;
      sent = (5, 7 ∷ []) ∷ [];
      left = λ c. [];
      acted = (refl, refl, refl);
      others = λ j apart. refl;
      first = λ c. refl;
      behind = λ c. refl;
    },
    (
      opening ℕ ℕ (λ k. 0),
      record {
        took = Some (5, 7 ∷ []);
        sent = [];
        left = λ c. [];
        acted = (refl, refl, refl);
        others = λ j apart. refl;
        first = λ c. refl;
        behind = λ c. refl;
      },
      refl,
    ),
  ),
)
