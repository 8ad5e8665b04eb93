-- What becomes of one end of a link, and what is sent, by the rules of the New Link Protocol.
-- (ERTS User's Guide, Distribution Protocol, New Link Protocol; a cell for each end and cause.)
use Rattle.std.specs.Prelude.{ℕ, ◌==◌, if◌then◌else◌, Bool, true, false, Option, None, Some}
use Rattle.link_core.specs.declared.end.End.{End}
use Rattle.link_core.specs.declared.end.LinkSignal.{LinkSignal}
use Rattle.link_core.specs.declared.end.LinkSignal.TheVariants.{Link, Unlink, Ack}

-- the process links itself to its partner
abbrev pub linked : End → End
linked End.None = End.Active
linked End.Active = End.Active
linked (End.Pending i) = End.Active

abbrev pub link_sent : End → Option LinkSignal
link_sent End.None = Some Link
link_sent End.Active = None
link_sent (End.Pending i) = Some Link

-- the process takes its link back, under a new unlink id
abbrev pub unlinked : End → ℕ → End
unlinked End.None id = End.None
unlinked End.Active id = End.Pending id
unlinked (End.Pending i) id = End.Pending i

abbrev pub unlink_sent : End → ℕ → Option LinkSignal
unlink_sent End.None id = None
unlink_sent End.Active id = Some (Unlink id)
unlink_sent (End.Pending i) id = None

-- a signal of the partner comes: only the acknowledgement that a pending end waits for ends its wait
abbrev pub received : End → LinkSignal → End
received End.None Link = End.Active
received End.None (Unlink id) = End.None
received End.None (Ack id) = End.None
received End.Active Link = End.Active
received End.Active (Unlink id) = End.None
received End.Active (Ack id) = End.Active
received (End.Pending i) Link = End.Pending i
received (End.Pending i) (Unlink id) = End.Pending i
received (End.Pending i) (Ack id) = if i == id then End.None else End.Pending i

-- the partner's exit comes: the process reacts to it only where the end was active
abbrev pub exited : End → End
exited end = End.None

abbrev pub is_active : End → Bool
is_active End.None = false
is_active End.Active = true
is_active (End.Pending i) = false

-- what goes back to the partner at once, whatever the end
abbrev pub answered : LinkSignal → Option LinkSignal
answered Link = None
answered (Unlink id) = Some (Ack id)
answered (Ack id) = None
