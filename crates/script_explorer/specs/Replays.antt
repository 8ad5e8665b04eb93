-- A plain script that is run from its first line.
use Rattle.std.specs.Prelude.{◌≡◌, ℕ, List, [], ◌∷◌, ◌++◌, Option, None, Some, Err, map, string_bytes}
use Rattle.script_explorer.specs.declared.replaying.Replayed.{Replayed}
use Rattle.script_lines.specs.declared.reason.Reason.{Reason}
use Rattle.script_session.specs.Running.{LeadsTo}
use Rattle.script_session.specs.Session.{State, line_does}
use Rattle.script_session.specs.Stands.{IsSession}
use Rattle.script_session.specs.declared.session.Stop.{Stop}
use Rattle.script_session.specs.declared.session.Stop.TheVariants as stop

-- all lines were run, or the next is a bad one
abbrev pub Ends : State → (rest : List (List ℕ)) → Option Stop → Type 0
Ends last [] None = Unit {0}
Ends last (line ∷ rest) (Some (stop.Bad reason)) = line_does last line ≡ Err reason
Ends last rest it = ⊥

-- the lines that were run, and the output of each
pub record Replays (from : State) (lines : List (List ℕ)) (it : Replayed) : Type 0 where
  pub ran : List (List ℕ)
  pub rest : List (List ℕ)
  pub parts : lines ≡ ran ++ rest
  pub last : State
  pub led : LeadsTo from ran (map string_bytes it.texts.items) last
  pub ends : Ends last rest it.stop
  pub session : it.stop ≡ None → IsSession it.session last

-- all lines were run
pub record RunsThrough (from : State) (lines : List (List ℕ)) (it : Replayed) : Type 0 where
  pub last : State
  pub led : LeadsTo from lines (map string_bytes it.texts.items) last
  pub session : IsSession it.session last

-- all lines were run but the last, which expects another reply than the last one
pub record RunsToUnmet (from : State) (lines : List (List ℕ)) : Type 0 where
  pub before : List (List ℕ)
  pub line : List ℕ
  pub parts : lines ≡ before ++ line ∷ []
  pub texts : List (List ℕ)
  pub last : State
  pub led : LeadsTo from before texts last
  pub unmet : line_does last line ≡ Err Reason.Unmet
