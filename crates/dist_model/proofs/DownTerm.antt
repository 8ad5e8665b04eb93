-- The form of DOWN.
use Rattle.std.proofs.Common.{◌≡◌, true, cond, [], ◌∷◌, ap, ◌&&◌}
use Rattle.std.specs.Ordering.{is_eq}
use Rattle.std.specs.Cmp.{tied_itself}
use Rattle.erl_term.specs.Data.{Data}
use Rattle.erl_term.specs.declared.term.Pid.{Pid}
use Rattle.erl_term.specs.declared.term.Reference.{Reference}
use Rattle.exit_core.specs.Messages.{down_term}
use Rattle.erl_term.proofs.Order.{reference_cmp_total}
use Rattle.dist_model.specs.Downs.{down_in}
use Rattle.dist_model.specs.Telling.{object}
use Rattle.monitor_core.specs.declared.monitor.Target.{Target}

pub told : (r : Reference) (owner : Pid) (target : Target) (info : Data)
    → down_in r owner (down_term r (object target) info) ≡ (record { owner = owner; target = target; info = info }) ∷ []
told r owner (Target.Pid q) info =
    ap (λ b. cond (b && true) ((record { owner = owner; target = Target.Pid q; info = info }) ∷ []) [])
    (ap is_eq (tied_itself reference_cmp_total r))
told r owner (Target.Name name node) info =
    ap (λ b. cond (b && true) ((record { owner = owner; target = Target.Name name node; info = info }) ∷ []) [])
    (ap is_eq (tied_itself reference_cmp_total r))
