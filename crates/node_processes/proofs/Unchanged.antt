-- Where nothing is planned of the processes yet, they are as they were.
use Rattle.std.proofs.Common.{◌≡◌, ap, ◌∙◌}
use Rattle.std.specs.FinMap as fm
use Rattle.std.specs.Prelude.{unwrap_or}
use Rattle.dist_model.specs.Node.{Node, end_of, is_living_life, living}
use Rattle.dist_model.specs.Work.{Work}
use Rattle.erl_term.specs.declared.term.Pid.{Pid}
use Rattle.link_core.specs.declared.end.End.{End}
use Rattle.node_plan.specs.Carried.{CarriesOut}
use Rattle.node_plan.specs.Changed.{drawn_by, ends_after, lives_after, names_after, spawned_by}
use Rattle.node_plan.specs.declared.change.Change.TheVariants as change
use Rattle.node_plan.specs.declared.change.Draws.TheVariants as draws
use Rattle.node_plan.specs.declared.plan.Plan.{Plan}

module _ (plan : Plan) (m : Node) (work : Work) (h : CarriesOut plan m work) (none : plan.change ≡ change.None) where
  pub same_living : (p : Pid) → living work.node p ≡ living m p
  same_living p = ap (λ (n : Node). living n p) h.node ∙ ap (λ c. is_living_life (fm.get (lives_after c m.mint m.lives) p)) none

  pub same_names : work.node.names ≡ m.names
  same_names = ap (λ (n : Node). n.names) h.node ∙ ap (λ c. names_after c m.names) none

  pub same_own : plan.draws ≡ draws.Nothing → work.node.mint.name ≡ m.mint.name
  same_own idle =
      ap (λ (n : Node). n.mint.name) h.node ∙ ap (λ c. (drawn_by plan.draws (spawned_by c m.mint)).name) none
      ∙ ap (λ d. (drawn_by d m.mint).name) idle

  pub same_end : (p q : Pid) → end_of work.node p q ≡ end_of m p q
  same_end p q = ap (λ (n : Node). end_of n p q) h.node ∙ ap (λ c. unwrap_or (fm.get (ends_after c m.ends) (p, q)) End.None) none
