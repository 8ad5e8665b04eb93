-- The effects of an event, and those of the code that show the same.
use Rattle.std.proofs.Common.{◌≡◌, ℕ, zero, suc, ◌<◌, List, [], ◌∷◌, get_or, length, map, None, ap, ◌∙◌, arith}
use Rattle.std.proofs.lemmas.List.{get_or-map, length-map}
use Rattle.dist_model.specs.Items.{Item, Tick}
use Rattle.dist_model.specs.declared.report.Effect.{Effect}
use Rattle.node_frames.specs.Frames.{Framed, shown}
use Rattle.run_traces.specs.Traces.{AreSentSpelled, IsSentSpelled}

-- nothing is sent on a connection
abbrev pub silent : Effect Item
silent = Effect.Sent None [] Tick

-- a silent one stands behind the last one
abbrev pub effect_at : List (Effect Item) → ℕ → Effect Item
effect_at effects n = get_or effects n silent

pub spelled_at : (effects : List (Effect Item)) (n : ℕ) → AreSentSpelled effects → IsSentSpelled (effect_at effects n)
spelled_at [] n h = tt
spelled_at (effect ∷ rest) zero h = h.0
spelled_at (effect ∷ rest) (suc n) h = spelled_at rest n h.1

pub below_both : (effects : List (Effect Item)) (seen : List (Effect Framed)) (n : ℕ) → seen ≡ map shown effects → n < length seen → n < length effects
below_both effects seen n e l = omega (arith, ap length e, length-map effects shown)

-- the effect at a place
pub shown_at : (effects : List (Effect Item)) (seen : List (Effect Framed)) (n : ℕ) (effect : Effect Framed) → seen ≡ map shown effects → n < length seen
    → effect ≡ get_or seen n effect → effect ≡ shown (effect_at effects n)
shown_at effects seen n effect e l is =
    is ∙ ap (λ held. get_or held n effect) e ∙ get_or-map shown effects n silent effect (below_both effects seen n e l)
