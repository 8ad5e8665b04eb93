-- Whether anything in a node's own list is between two processes.
use Rattle.std.proofs.Common.{◌≡◌, not, ◌&&◌, ◌||◌, List, [], ◌∷◌, map, refl, ap}
use Rattle.std.specs.List.{list_all}
use Rattle.dist_model.specs.Quiet.{is_signal_of, nothing_between}
use Rattle.erl_control.specs.declared.signal.Signal.{Signal}
use Rattle.erl_term.specs.declared.term.Pid.{Pid}
use Rattle.node_plan.specs.OwnList.{own_item}

pub all_pass : (p q : Pid) (signals : List Signal)
    → list_all (λ s. not (is_signal_of p q (own_item s) || is_signal_of q p (own_item s))) signals
    ≡ nothing_between p q (map own_item signals)
all_pass p q [] = refl
all_pass p q (signal ∷ rest) =
    ap (λ b. not (is_signal_of p q (own_item signal) || is_signal_of q p (own_item signal)) && b) (all_pass p q rest)
