-- The answer and the output of the drawing of a script.
use Rattle.std.specs.Prelude.{◌≡◌, ℕ, List, [], Option}
use Rattle.std.specs.Io.KnownBytes.{Appends}
use Rattle.script_core.specs.Outcomes.{AppendsFront}
use Rattle.script_core.specs.Script.{AtBadLine, Verdict, Whole}
use Rattle.script_core.specs.declared.script.Outcome.{Outcome}
use Rattle.script_core.specs.declared.script.Outcome.TheVariants as outcome
use Rattle.diagram_svg.specs.Markup.{IsDocument}

-- how a script ends, unless reading, writing or memory fail
abbrev pub Ends : Verdict → Outcome → Type 0
Ends verdict outcome.Ran = verdict ≡ Whole
Ends verdict (outcome.BadLine number reason) = verdict ≡ AtBadLine number reason
Ends verdict outcome.Unmerged = ⊥
Ends verdict _ = Unit {0}

pub record IsDrawn (old new : Option (List ℕ)) : Type 0 where
  pub drawing : List ℕ
  pub document : IsDocument drawing
  pub appended : Appends old new drawing

pub record IsDrawnInPart (old new : Option (List ℕ)) : Type 0 where
  pub drawing : List ℕ
  pub document : IsDocument drawing
  pub front : AppendsFront drawing old new

-- a whole document, or where reading or writing fails a beginning of one; nothing where memory is wanting
abbrev pub Draws : (old new : Option (List ℕ)) → Outcome → Type 0
Draws old new outcome.OutOfMemory = Appends old new []
Draws old new outcome.Failed = IsDrawnInPart old new
Draws old new _ = IsDrawn old new
