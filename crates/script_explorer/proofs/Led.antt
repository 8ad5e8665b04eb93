-- The lines of a script of which some were run.
use Rattle.std.proofs.Common.{◌≡◌, ℕ, ◌+◌, ◌<◌, List, [], ◌∷◌, ◌++◌, Err, Global, Some, Vec, ap, drop, get_or, length, map, refl, sym, take, ◌∙◌}
use Rattle.std.proofs.lemmas.List.{drop_more, map-append, take-append-drop, take_more}
use Rattle.script_explorer.specs.Replays.{Ends}
use Rattle.script_session.specs.Session.{State}
use Rattle.script_session.specs.Stands.{Obeys}
use Rattle.script_session.specs.declared.session.Session.{Session}
use Rattle.script_session.specs.declared.session.Stop.{Stop}
use Rattle.script_session.specs.declared.session.Stop.TheVariants as stop

abbrev pub bytes_of : Vec ℕ Global → List ℕ
bytes_of line = line.items

module _ (lines : List (Vec ℕ Global)) (i : ℕ) (line : Vec ℕ Global) (within : i < length lines) (is : line ≡ get_or lines i line) where
  pub one_more : map bytes_of (take (i + 1) lines) ≡ map bytes_of (take i lines) ++ line.items ∷ []
  one_more =
      ap (λ (l : List (Vec ℕ Global)). map bytes_of l)
      (take_more lines i line within ∙ ap (λ (x : Vec ℕ Global). take i lines ++ x ∷ []) (sym is))
      ∙ map-append bytes_of (take i lines) (line ∷ [])

  pub parted : map bytes_of lines ≡ map bytes_of (take i lines) ++ line.items ∷ map bytes_of (drop (i + 1) lines)
  parted =
      ap (λ (l : List (Vec ℕ Global)). map bytes_of l)
      (sym (take-append-drop i lines)
      ∙ ap (λ (l : List (Vec ℕ Global)). take i lines ++ l) (drop_more lines i line within ∙ ap (λ (x : Vec ℕ Global). x ∷ drop (i + 1) lines) (sym is)))
      ∙ map-append bytes_of (take i lines) (line ∷ drop (i + 1) lines)

-- a line at which a script ends, for another reason than want of memory
pub stopped : (last : State) (line : List ℕ) (rest : List (List ℕ)) (new : Session) (old_text new_text : List ℕ) (why : Stop)
    → (why ≡ stop.OutOfMemory → ⊥) → Obeys last line new old_text new_text (Err why) → Ends last (line ∷ rest) (Some why)
stopped last line rest new old_text new_text (stop.Bad reason) n obeys = obeys.0
stopped last line rest new old_text new_text stop.OutOfMemory n obeys = absurd (n refl)
