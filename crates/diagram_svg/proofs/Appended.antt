-- Content behind content.
use Rattle.std.proofs.Common.{◌≡◌, ℕ, List, [], ◌++◌, append_assoc, append-nil, ap, sym, ◌∙◌}
use Rattle.diagram_svg.specs.Document.{drawing_end, drawing_start}
use Rattle.diagram_svg.specs.Markup.{Appends, beside, nothing}
use Rattle.diagram_svg.proofs.Content.{document}
use Rattle.diagram_svg.specs.Drawing.{AppendsDocument}

pub appends_nothing : (old : List ℕ) → Appends old old
appends_nothing old = record { content = []; well_formed = nothing; behind = sym (append-nil old) }

pub appends_more : (old mid new : List ℕ) → Appends old mid → Appends mid new → Appends old new
appends_more old mid new first others = record {
  content = first.content ++ others.content;
  well_formed = beside _ _ first.well_formed others.well_formed;
  behind = others.behind ∙ ap (λ (text : List ℕ). text ++ others.content) first.behind ∙ append_assoc old first.content others.content;
}

pub appends_whole : (width height : ℕ) (title style old begun drawn new : List ℕ)
    → begun ≡ old ++ drawing_start width height title style → Appends begun drawn → new ≡ drawn ++ drawing_end
    → AppendsDocument old new
appends_whole width height title style old begun drawn new start figures end =
    let first = drawing_start width height title style in
    record {
      drawing = first ++ figures.content ++ drawing_end;
      document = document width height title style figures.content figures.well_formed;
      behind =
          end ∙ ap (λ (text : List ℕ). text ++ drawing_end)
          (figures.behind ∙ ap (λ (text : List ℕ). text ++ figures.content) start ∙ append_assoc old first figures.content)
          ∙ append_assoc old (first ++ figures.content) drawing_end;
    }
