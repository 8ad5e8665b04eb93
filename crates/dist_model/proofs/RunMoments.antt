-- A run by its worlds, one after each event.
use Rattle.std.proofs.Common.{◌≡◌, List, [], ◌∷◌, ◌++◌, inl, refl, ap, ◌∙◌}
use Rattle.dist_model.specs.Histories.{History, told}
use Rattle.dist_model.specs.Runs.{Runs, reports_of, run}
use Rattle.dist_model.specs.World.{Event, World, step}

abbrev pub Passes : World → List Event → List World → Type 0
Passes w [] [] = Unit {0}
Passes w (e ∷ es) (v ∷ vs) = ((step w e).world ≡ v) × Passes v es vs
Passes w _ _ = ⊥

abbrev pub last_of : World → List World → World
last_of w [] = w
last_of w (v ∷ vs) = last_of v vs

pub passed : (w : World) (es : List Event) (vs : List World) → Passes w es vs → run es w ≡ last_of w vs
passed w [] [] p = refl
passed w (e ∷ es) (v ∷ vs) p = ap (run es) p.0 ∙ passed v es vs p.1
passed w _ _ p = absurd p

-- a run goes on
pub run_on : (es fs : List Event) (w : World) → run (es ++ fs) w ≡ run fs (run es w)
run_on [] fs w = refl
run_on (e ∷ es) fs w = run_on es fs ((step w e).world)

pub runs_so : (es : List Event) (w : World) → Runs w es (reports_of es w) (run es w)
runs_so [] w = refl
runs_so (e ∷ es) w = ((step w e).world, inl (refl, refl), runs_so es ((step w e).world))

-- what the last event adds to what has happened
pub told_last : (es : List Event) (e : Event) (w : World) (h : History)
    → told (es ++ e ∷ []) (reports_of (es ++ e ∷ []) w) h
    ≡ record { event = e; report = (step (run es w) e).report } ∷ told es (reports_of es w) h
told_last [] e w h = refl
told_last (d ∷ es) e w h = told_last es e ((step w d).world) (record { event = d; report = (step w d).report } ∷ h)
