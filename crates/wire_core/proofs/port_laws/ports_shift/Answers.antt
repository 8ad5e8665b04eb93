use Rattle.wire_core.proofs.SameItems.{fetch_shifts}
use Rattle.wire_core.proofs.port_laws.ports_shift.Goals as goal

pub returns-clause-fetch : goal.returns-clause-fetch
returns-clause-fetch c = fetch_shifts
