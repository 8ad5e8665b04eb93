-- What an event's plan begins with.
use Rattle.std.specs.Prelude.{◌≡◌, None, List, ◌∷◌}
use Rattle.dist_model.specs.Items.{Item}
use Rattle.dist_model.specs.Node as model
use Rattle.dist_model.specs.Work.{at_work}
use Rattle.dist_model.specs.declared.report.Answer.TheVariants as answer
use Rattle.node_core.specs.declared.planned.Planned.{Planned}
use Rattle.node_plan.specs.Carried.{CarriesOut, IsBlank}
use Rattle.node_plan.specs.Plans.{told}

-- nothing is planned yet
pub record IsNew (planned : Planned) : Type 0 where
  pub blank : IsBlank planned.plan
  pub told : (m : model.Node) → told planned.plan m ≡ answer.Done
  pub carries : (m : model.Node) → CarriesOut planned.plan m (at_work m)
  pub begins : planned.sweeping ≡ None

-- nothing but that the first item of the own list is taken
pub record IsTaking (planned : Planned) : Type 0 where
  pub blank : IsBlank planned.plan
  pub taken : (m : model.Node) (first : Item) (rest : List Item) → m.local ≡ first ∷ rest → CarriesOut planned.plan m (at_work (record m { local = rest }))
  pub begins : planned.sweeping ≡ None
