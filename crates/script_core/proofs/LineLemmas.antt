-- The outcome of a line of a session.
use Rattle.std.proofs.Common.{ℕ, List, Result, Ok, Err}
use Rattle.script_core.specs.Lines.{Heeds}
use Rattle.script_session.specs.Session.{State, line_does}
use Rattle.script_session.specs.Stands.{IsSession, Obeys}
use Rattle.script_session.specs.declared.session.Session.{Session}
use Rattle.script_session.specs.declared.session.Stop.{Stop}
use Rattle.script_session.specs.declared.session.Stop.TheVariants as stop

pub obeys_heeds : (state : State) (line : List ℕ) (session : Session) (old new : List ℕ) (r : Result (Unit {0}) Stop)
    → Obeys state line session old new r → Heeds IsSession (line_does state line) session old new r
obeys_heeds state line session old new (Ok x) o = record { step = o.step; says = o.says; state = o.state; text = o.text }
obeys_heeds state line session old new (Err (stop.Bad reason)) o = o.0
obeys_heeds state line session old new (Err stop.OutOfMemory) o = tt
