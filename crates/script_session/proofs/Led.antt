-- One line more, behind lines that were run.
use Rattle.std.proofs.Common.{◌≡◌, ℕ, List, [], ◌∷◌, ◌++◌, Ok, ap, refl, subst}
use Rattle.script_session.specs.Running.{LeadsTo}
use Rattle.script_session.specs.Session.{State, Step, line_does}

pub led_more : (from : State) (lines texts : List (List ℕ)) (mid : State) (line : List ℕ) (step : Step)
    → LeadsTo from lines texts mid → line_does mid line ≡ Ok step
    → LeadsTo from (lines ++ line ∷ []) (texts ++ step.text ∷ []) step.state
led_more from [] texts mid line step led does =
    (step, [], subst (λ (state : State). line_does state line ≡ Ok step) led.1 does, ap (λ (t : List (List ℕ)). t ++ step.text ∷ []) led.0, (refl, refl))
led_more from (first ∷ lines) texts mid line step led does =
    (led.0, led.1 ++ step.text ∷ [], led.2, ap (λ (t : List (List ℕ)). t ++ step.text ∷ []) led.3, led_more led.0.state lines led.1 mid line step led.4 does)
