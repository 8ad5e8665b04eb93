-- A drawing behind a text.
use Rattle.std.specs.Prelude.{◌≡◌, ℕ, List, ◌++◌}
use Rattle.diagram_svg.specs.Markup.{IsDocument}

pub record AppendsDocument (old new : List ℕ) : Type 0 where
  pub drawing : List ℕ
  pub document : IsDocument drawing
  pub behind : new ≡ old ++ drawing
