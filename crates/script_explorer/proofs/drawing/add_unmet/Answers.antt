use Rattle.std.proofs.Common.{[], ◌∷◌, ◌++◌, List, Some, ℕ, ap, map, refl, ◌∙◌}
use Rattle.std.proofs.lemmas.List.{map-append}
use Rattle.diagram_svg.specs.declared.panels.Panel.{Panel}
use Rattle.script_explorer.specs.Drawn.{heading_in}
use Rattle.script_explorer.proofs.drawing.add_unmet.Goals as goal

pub returns : goal.returns
returns c =
    let unmet = c.in_ok-panel.ensures in
    let panel = c.in_ok-panel.panel in
    let old = c.args.panels.now.items in (
      Some unmet.0,
      ap (λ (panels : List Panel). map heading_in panels) c.in_ok-push_panel.ensures
          ∙ map-append heading_in old (panel ∷ [])
          ∙ ap (λ (h : List (List ℕ)). map heading_in old ++ h ∷ []) unmet.1,
      refl,
    )
