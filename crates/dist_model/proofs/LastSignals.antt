-- What a process that ends sends to its partners, read off the ends of all processes.
use Rattle.std.proofs.Common.{◌≡◌, Bool, true, false, cond, List, [], ◌∷◌, ◌++◌, refl}
use Rattle.dist_model.specs.Work.{Addressed}
use Rattle.dist_model.specs.Exits.{exit_for, exits}
use Rattle.dist_model.specs.Names.{same_pid}
use Rattle.dist_model.specs.Node.{links_in}
use Rattle.erl_term.specs.Data.{Data}
use Rattle.erl_term.specs.declared.term.Pid.{Pid}
use Rattle.link_core.specs.declared.end.End.{End}

abbrev pub exits_in : Pid → Data → List ((Pid × Pid) × End) → List Addressed
exits_in p r es = exits p r (links_in es p)

pub exits_cons : (p : Pid) (r : Data) (e : (Pid × Pid) × End) (es : List ((Pid × Pid) × End))
    → exits_in p r (e ∷ es) ≡ cond (same_pid e.0.0 p) (exit_for p r e.0.1 e.1) [] ++ exits_in p r es
exits_cons p r e es = go (same_pid e.0.0 p)
  where
    go : (b : Bool) → exits p r (cond b ((e.0.1, e.1) ∷ []) [] ++ links_in es p) ≡ cond b (exit_for p r e.0.1 e.1) [] ++ exits_in p r es
    go true = refl
    go false = refl
