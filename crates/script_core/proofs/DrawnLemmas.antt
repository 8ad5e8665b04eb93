-- The answer of a drawing that was written, and of one that wasn't.
use Rattle.std.proofs.Common.{◌≡◌, ℕ, List, Option, None, Some, IfSome, refl}
use Rattle.std.specs.Io.KnownBytes.{Appends}
use Rattle.script_core.specs.Drawn.{Draws, Ends}
use Rattle.script_core.specs.Outcomes.{Answers}
use Rattle.script_core.specs.Script.{Run}
use Rattle.script_core.specs.declared.script.Outcome.{Outcome}
use Rattle.script_core.specs.declared.script.Outcome.TheVariants as outcome
use Rattle.script_core.proofs.ScriptLemmas.{front_whole}
use Rattle.diagram_svg.specs.Markup.{IsDocument}

pub ends_so : (r : Run) (old new : Option (List ℕ)) (o : Outcome) → Answers r old new o → Ends r.verdict o
ends_so r old new outcome.Ran a = a.0
ends_so r old new (outcome.BadLine number reason) a = a.0
ends_so r old new outcome.OutOfMemory a = tt
ends_so r old new outcome.Unmerged a = a
ends_so r old new outcome.Failed a = tt

pub drawn : (drawing : List ℕ) (old new : Option (List ℕ)) (o : Outcome) → (o ≡ outcome.OutOfMemory → ⊥) → IsDocument drawing
    → Appends old new drawing → Draws old new o
drawn drawing old new outcome.OutOfMemory n d a = absurd (n refl)
drawn drawing old new outcome.Failed n d a = record { drawing = drawing; document = d; front = front_whole drawing old new a }
drawn drawing old new _ n d a = record { drawing = drawing; document = d; appended = a }

pub ends_all : (known : Option (List ℕ)) (r : List ℕ → Run) (old new : Option (List ℕ)) (o : Outcome)
    → IfSome known (λ input. Answers (r input) old new o) → IfSome known (λ input. Ends (r input).verdict o)
ends_all None r old new o a = tt
ends_all (Some input) r old new o a = ends_so (r input) old new o a
