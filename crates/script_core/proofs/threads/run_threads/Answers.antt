use Rattle.script_core.proofs.Merging.{flushed_merged}
use Rattle.script_core.proofs.threads.run_threads.Goals as goal

pub returns-in-Ok : goal.returns-in-Ok
returns-in-Ok g c = flushed_merged _ _ _ _ c.run_to_end-outcome.result c.flush.ensures.bytes c.run_to_end-outcome.ensures
