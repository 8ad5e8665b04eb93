-- What an exit signal does to a process: the first line that fits.
-- (Reference Manual, Processes, Receiving Exit Signals.)
use Rattle.std.specs.Prelude.{Bool, false, not, ◌&&◌, if◌then◌else◌, List, ℕ, nat_eq, codes}
use Rattle.std.specs.Cmp.Lexicographic.{pointwise}
use Rattle.erl_term.specs.Data.{Data, atom}
use Rattle.exit_core.specs.declared.reaction.ExitSignal.{ExitSignal}
use Rattle.exit_core.specs.declared.reaction.Reaction.{Reaction}
use Rattle.exit_core.specs.declared.reaction.Reaction.TheVariants.{Ignore, Put, End}
use Rattle.exit_core.specs.Messages.{exit_term}

abbrev pub is_atom : List ℕ → Data → Bool
is_atom name (atom text) = pointwise nat_eq text name
is_atom name t = false

abbrev pub reaction : Bool → ExitSignal → Reaction
reaction trap signal =
    -- of a link that isn't active
    if signal.link && not signal.is_active then Ignore else
    -- kill, unless it came of a link
    (if not signal.link && is_atom (codes "kill") signal.reason then End (atom (codes "killed")) else
    -- a process that traps exits gets a message
    (if trap then Put (exit_term signal.sender signal.reason) else
    -- normal, from another process
    (if is_atom (codes "normal") signal.reason && not signal.is_own then Ignore else
    End signal.reason)))
