-- What one process tells another of their link, and what that makes of the other's end.
-- (ERTS User's Guide, Distribution Protocol, New Link Protocol; Reference Manual, Processes, Links.)
use Rattle.std.specs.Prelude.{if◌then◌else◌, Bool, List, [], ◌∷◌, Option, None, Some, codes}
use Rattle.std.specs.Option.{option_or}
use Rattle.erl_term.specs.Data.{Data, atom}
use Rattle.link_core.specs.Table.{exited, received}
use Rattle.link_core.specs.declared.end.End.{End}
use Rattle.link_core.specs.declared.end.LinkSignal.{LinkSignal}

abbrev pub noproc : Data
noproc = atom (codes "noproc")

abbrev pub noconnection : Data
noconnection = atom (codes "noconnection")

-- a signal of the New Link Protocol, or EXIT
pub data LinkNews : Type 0 where
  Signals : (signal : LinkSignal) → LinkNews
  Exited : (reason : Data) → LinkNews

-- an end once its process has heard the partner's news
abbrev pub heard : End → LinkNews → End
heard end (Signals signal) = received end signal
heard end (Exited reason) = exited end

-- and once it has heard all that travels to it
abbrev pub drained : End → List LinkNews → End
drained end [] = end
drained end (first ∷ rest) = drained (heard end first) rest

-- what goes back at once: a process that isn't living answers LINK by EXIT with noproc, and UNLINK_ID is acknowledged in any case
abbrev pub reply : (gone : Bool) → LinkNews → List LinkNews
reply gone (Signals LinkSignal.Link) = if gone then Exited noproc ∷ [] else []
reply gone (Signals (LinkSignal.Unlink id)) = Signals (LinkSignal.Ack id) ∷ []
reply gone (Signals (LinkSignal.Ack id)) = []
reply gone (Exited reason) = []

-- the last LINK or UNLINK_ID, if there is one
abbrev pub last_said : List LinkNews → Option LinkSignal
last_said [] = None
last_said (Signals LinkSignal.Link ∷ rest) = option_or (last_said rest) (Some LinkSignal.Link)
last_said (Signals (LinkSignal.Unlink id) ∷ rest) = option_or (last_said rest) (Some (LinkSignal.Unlink id))
last_said (Signals (LinkSignal.Ack id) ∷ rest) = last_said rest
last_said (Exited reason ∷ rest) = last_said rest
