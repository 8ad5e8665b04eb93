use Rattle.std.proofs.Common.{[], ◌∷◌, ◌++◌, ◌+◌, List, ℕ, ap, arith, length, map, refl, sym, ◌∙◌}
use Rattle.std.proofs.lemmas.List.{length-append, map-append}
use Rattle.diagram_svg.specs.declared.panels.Panel.{Panel}
use Rattle.script_explorer.proofs.OneMore.{numbered_more}
use Rattle.script_explorer.specs.Drawn.{heading_in, shown_heading}
use Rattle.script_explorer.specs.Printed.{Shown}
use Rattle.script_explorer.proofs.drawing.draw_outcomes.Goals as goal

pub loop-place-init : goal.loop-place-init
loop-place-init c = ([], refl, tt, ap (map heading_in) c.new-panels.ensures.items)

pub loop-place-preserved : goal.loop-place-preserved
loop-place-preserved c =
    let was = c.loop-place.invariant in
    let more = c.in_ok-panel.ensures in
    let panel = c.in_ok-panel.panel in
    let old = c.loop-place.panels.items in
    let one : List (Shown c.args.seed) = more.0 ∷ [] in (
      was.0 ++ one,
      length-append was.0 one ∙ ap (λ (n : ℕ). n + 1) was.1,
      numbered_more c.args.seed 1 (length c.args.scripts.now) was.0 more.0 was.2 (omega (arith, more.1, was.1)) more.2,
      ap (λ (panels : List Panel). map heading_in panels) c.in_ok-push_panel.ensures
          ∙ map-append heading_in old (panel ∷ [])
          ∙ ap (λ (h : List (List (List ℕ))). h ++ heading_in panel ∷ []) was.3
          ∙ ap (λ (h : List (List ℕ)). map shown_heading was.0 ++ h ∷ []) more.3
          ∙ sym (map-append shown_heading was.0 one),
    )

pub returns : goal.returns
returns c = let all = c.loop-place.invariant in (all.0, omega (arith, all.1), all.2, all.3)
