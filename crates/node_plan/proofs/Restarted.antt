-- A node that stops, or starts again, is what a node is.
use Rattle.std.proofs.Common.{◌≡◌, ◌≢◌, ℕ, true, Some, None, [], refl}
use Rattle.std.specs.FinMap as fm
use Rattle.dist_model.proofs.KeepCounted.{counted_kept}
use Rattle.dist_model.proofs.KeepSteady.{steady_kept}
use Rattle.dist_model.specs.Incarnations.{started, stopped}
use Rattle.dist_model.specs.Items.{Item}
use Rattle.dist_model.specs.Keeping.{ComesOfOthers, CountsOwn, Steady}
use Rattle.dist_model.specs.Node.{Node}
use Rattle.dist_model.specs.NodeEvents as event
use Rattle.dist_model.specs.Work.{at_work}
use Rattle.dist_model.specs.declared.report.Answer.{Answer}
use Rattle.erl_names.specs.declared.trunk.TrunkId.{TrunkId}

-- what it keeps doesn't hang on whether it runs
abbrev running : Node → Node
running m = record m { up = true }

pub steady_stopped : (m : Node) → Steady m → Steady (stopped m)
steady_stopped m s =
    let runs : Steady (running m) = record {
      engaged = s.engaged;
      attempts = s.attempts;
      ends = s.ends;
      owners = s.owners;
      bound = s.bound;
      holders = s.holders;
      one_name = s.one_name;
    } in
    let t : Steady (stopped (running m)) = steady_kept [] (running m) event.Stop Answer.Stopped (at_work (stopped (running m))) runs refl in
    record {
      engaged = t.engaged;
      attempts = t.attempts;
      ends = t.ends;
      owners = t.owners;
      bound = t.bound;
      holders = t.holders;
      one_name = t.one_name;
    }

pub steady_started : (m : Node) → Steady m → Steady (started m)
steady_started m s =
    let t = steady_stopped m s in
    record {
      engaged = t.engaged;
      attempts = t.attempts;
      ends = t.ends;
      owners = t.owners;
      bound = t.bound;
      holders = t.holders;
      one_name = t.one_name;
    }

comes_of_none : (m : Node) → ComesOfOthers m event.Stop
comes_of_none m t c d = no_item t c.0 c.1 c.2
  where
    no_item : (t : TrunkId) (item : Item) (word : ℕ) → event.Stop ≡ event.Arrive t (Some item) word → fm.get m.sides t ≢ None
    no_item t item word h = cc

pub counted_stopped : (m : Node) → CountsOwn m → CountsOwn (stopped m)
counted_stopped m k =
    counted_kept [] (running m) event.Stop Answer.Stopped (at_work (stopped (running m))) refl k (comes_of_none (running m))

pub counted_started : (m : Node) → CountsOwn m → CountsOwn (started m)
counted_started m k = counted_stopped m k
