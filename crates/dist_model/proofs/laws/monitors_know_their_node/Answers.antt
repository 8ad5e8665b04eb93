use Rattle.dist_model.proofs.laws.monitors_know_their_node.Goals as goal
use Rattle.dist_model.proofs.AskedIn.{monitors_know, monitors_taken, own_monitors_know}
use Rattle.dist_model.proofs.NamedEnds.{full, monitors_come_once}
use Rattle.dist_model.specs.Traces.{MonitorsComeOnce}

pub returns : goal.returns
returns c = record {
  travelling = monitors_know;
  within = own_monitors_know;
  taken = monitors_taken;
  once = full MonitorsComeOnce monitors_come_once;
}
