use Rattle.std.proofs.Common.{◌≡◌, List, [], ◌∷◌, ◌++◌, refl}
use Rattle.link_core.specs.Pair.{Event, Pair, happens, run}
use Rattle.link_core.proofs.laws.run_goes_on.Goals as goal

run-push : (events : List Event) (event : Event) (w : Pair) → run (events ++ event ∷ []) w ≡ happens (run events w) event
run-push [] event w = refl
run-push (first ∷ events) event w = run-push events event (happens w first)

pub returns : goal.returns
returns c = run-push
