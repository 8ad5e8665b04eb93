-- Two processes, and what each tells the other of their link. Each direction keeps its order.
-- (ERTS User's Guide, Distribution Protocol, New Link Protocol; Reference Manual, Processes, Links.)
use Rattle.std.specs.Prelude.{ℕ, nat_lt, if◌then◌else◌, Bool, false, true, List, [], ◌∷◌, ◌++◌, Option, None, Some, is_some}
use Rattle.erl_term.specs.Data.{Data}
use Rattle.link_core.specs.declared.end.End.{End}
use Rattle.link_core.specs.declared.end.LinkSignal.{LinkSignal}
use Rattle.link_core.specs.News.{Exited, LinkNews, Signals, heard, reply}
use Rattle.link_core.specs.Table.{is_active, link_sent, linked, unlink_sent, unlinked}

-- one of the two: its end, whether it has ended, the highest unlink id drawn, and what travels from it to the other,
-- the first to come first
pub record Side : Type 0 where
  pub end : End
  pub gone : Bool
  pub drawn : ℕ
  pub sent : List LinkNews

pub record Pair : Type 0 where
  pub here : Side
  pub there : Side

-- what may happen at a side: the process links, it unlinks under an id, it ends, the first news on its way to it comes
pub data Act : Type 0 where
  Links : Act
  Unlinks : (id : ℕ) → Act
  Exits : (reason : Data) → Act
  Takes : Act

pub data Event : Type 0 where
  Here : Act → Event
  There : Act → Event

-- a signal, if there is one, goes on its way behind the others
abbrev pub followed_by : List LinkNews → Option LinkSignal → List LinkNews
followed_by news None = news
followed_by news (Some signal) = news ++ Signals signal ∷ []

-- a process that has ended does nothing any more
abbrev pub links : Side → Side
links a = if a.gone then a else record a { end = linked a.end; sent = followed_by a.sent (link_sent a.end) }

-- an id is drawn only where it is sent
abbrev pub unlinks : ℕ → Side → Side
unlinks id a =
    if a.gone then a else record a {
      end = unlinked a.end id;
      drawn = if is_some (unlink_sent a.end id) then id else a.drawn;
      sent = followed_by a.sent (unlink_sent a.end id);
    }

-- unlink ids only rise. Other links of the node may draw ids between
abbrev pub unlinks_above : ℕ → Side → Side
unlinks_above id a = if nat_lt a.drawn id then unlinks id a else a

-- EXIT goes to the partner where the link is active
abbrev pub farewell : End → Data → List LinkNews
farewell end reason = if is_active end then Exited reason ∷ [] else []

abbrev pub ended : Data → Side → Side
ended reason a = record a { end = End.None; gone = true; sent = a.sent ++ farewell a.end reason }

abbrev pub exits : Data → Side → Side
exits reason a = if a.gone then a else ended reason a

-- one that has ended hears nothing, but what it is told is answered
abbrev pub takes : LinkNews → Side → Side
takes news a = record a { end = if a.gone then a.end else heard a.end news; sent = a.sent ++ reply a.gone news }

-- the first news that travels from there comes here
abbrev pub first_comes : Pair → List LinkNews → Pair
first_comes w [] = w
first_comes w (news ∷ rest) = record { here = takes news w.here; there = record w.there { sent = rest } }

abbrev pub acts : Pair → Act → Pair
acts w Links = record w { here = links w.here }
acts w (Unlinks id) = record w { here = unlinks_above id w.here }
acts w (Exits reason) = record w { here = exits reason w.here }
acts w Takes = first_comes w w.there.sent

abbrev pub swap : Pair → Pair
swap w = record { here = w.there; there = w.here }

abbrev pub happens : Pair → Event → Pair
happens w (Here act) = acts w act
happens w (There act) = swap (acts (swap w) act)

-- a whole schedule
abbrev pub run : List Event → Pair → Pair
run [] w = w
run (event ∷ events) w = run events (happens w event)

-- whether an act ends its process, and an event the one here, or the one there
abbrev pub is_end : Act → Bool
is_end Links = false
is_end (Unlinks id) = false
is_end (Exits reason) = true
is_end Takes = false

abbrev pub ends_here : Event → Bool
ends_here (Here act) = is_end act
ends_here (There act) = false

abbrev pub ends_there : Event → Bool
ends_there (Here act) = false
ends_there (There act) = is_end act

-- living, no link, no id drawn, nothing on its way
abbrev pub fresh : Side
fresh = record { end = End.None; gone = false; drawn = 0; sent = [] }

abbrev pub start : Pair
start = record { here = fresh; there = fresh }
