-- What can be changed without memory.
use Rattle.std.specs.Prelude.{◌≤◌, Option, None, Some}
use Rattle.link_core.specs.Ends.{Held}
use Rattle.link_core.specs.declared.end.LinkSignal.{LinkSignal}
use Rattle.node_tables.specs.declared.end_change.EndChange.{EndChange}
use Rattle.node_tables.specs.declared.end_change.EndChange.TheVariants.{Links, Unlinks, Receives, Exits}
use Rattle.node_tables.specs.declared.life.Life.{Life}
use Rattle.node_tables.specs.declared.life.Life.TheVariants.{Living, Ended}

-- a message can come to a living process
abbrev pub MessageFits : Option Life → Type 0
MessageFits None = ⊥
MessageFits (Some (Living process ends)) = 1 ≤ process.mailbox.room
MessageFits (Some (Ended reason)) = ⊥

-- an end can change: a new partner takes room
abbrev pub EndFits : EndChange → Held → Type 0
EndFits Links ends = 1 ≤ ends.room
EndFits (Unlinks id) ends = Unit {0}
EndFits (Receives LinkSignal.Link) ends = 1 ≤ ends.room
EndFits (Receives (LinkSignal.Unlink id)) ends = Unit {0}
EndFits (Receives (LinkSignal.Ack id)) ends = Unit {0}
EndFits Exits ends = Unit {0}

-- of a living process
abbrev pub LinkFits : EndChange → Option Life → Type 0
LinkFits change None = ⊥
LinkFits change (Some (Living process ends)) = EndFits change ends
LinkFits change (Some (Ended reason)) = ⊥
