-- What holds of two processes at every moment of every schedule.
-- (ERTS User's Guide, Distribution Protocol, New Link Protocol; Reference Manual, Processes, Links.)
use Rattle.std.specs.Prelude.{◌≡◌, ◌↔◌, ◌⊎◌, ℕ, true, false, [], Contains, Some}
use Rattle.erl_term.specs.Data.{Data}
use Rattle.link_core.specs.declared.end.End.{End}
use Rattle.link_core.specs.declared.end.LinkSignal.TheVariants.{Link, Unlink, Ack}
use Rattle.link_core.specs.News.{Exited, Signals, drained, last_said}
use Rattle.link_core.specs.Pair.{Side, Pair}

-- where neither has ended, both are linked once all has come, or neither is
abbrev pub Agree : Side → Side → Type 0
Agree a b = a.gone ≡ false → b.gone ≡ false → (drained a.end b.sent ≡ End.Active) ↔ (drained b.end a.sent ≡ End.Active)

-- a pending end's UNLINK_ID is the last word on its way, or its acknowledgement is on its way back
abbrev pub PendingTravels : Side → Side → Type 0
PendingTravels a b = (id : ℕ) → a.end ≡ End.Pending id → (last_said a.sent ≡ Some (Unlink id)) ⊎ Contains b.sent (Signals (Ack id))

-- where the partner has ended, a process that is linked once all has come has a LINK on its way, which EXIT will answer
abbrev pub LinkTravels : Side → Side → Type 0
LinkTravels a b = a.gone ≡ false → b.gone ≡ true → drained a.end b.sent ≡ End.Active → Contains a.sent (Signals Link)

-- one that has ended has no link, and only from such a one EXIT travels
abbrev pub NoLink : Side → Type 0
NoLink a = a.gone ≡ true → a.end ≡ End.None

abbrev pub ExitOfEnded : Side → Type 0
ExitOfEnded a = (reason : Data) → Contains a.sent (Exited reason) → a.gone ≡ true

-- nothing travels
abbrev pub IsAtRest : Pair → Type 0
IsAtRest w = (w.here.sent ≡ []) × (w.there.sent ≡ [])
