use Rattle.std.proofs.Common.{[], refl}
use Rattle.script_session.proofs.EventsLead.{line_led}
use Rattle.script_session.proofs.laws.events_lead_to_every_line.Goals as goal

pub returns-clause-fresh : goal.returns-clause-fresh
returns-clause-fresh c =
    λ trace word. record { reached = record { nodes = []; events = []; reports = []; runs = refl }; opening = λ s. ([], refl) }

pub returns-clause-line : goal.returns-clause-line
returns-clause-line c = line_led
