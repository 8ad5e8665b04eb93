-- Which of several attempts at a connection goes on: the status that the acceptor sends, once the
-- dialer's name and flags are right.
-- (ERTS User's Guide, Distribution Protocol, Distribution Handshake, the status message.)
use Rattle.std.specs.Prelude.{ℕ, Bool, true, false, not, ◌&&◌, nat_lt, if◌then◌else◌, List, Option, Some, None, is_some}
use Rattle.std.specs.Ordering.{is_gt}
use Rattle.erl_handshake.specs.declared.fault.ShakeFault.TheVariants.{Nok, Superseded}
use Rattle.erl_names.specs.Order.{name_cmp}
use Rattle.erl_handshake.specs.declared.status.Status.{Status as TheStatus}
use Rattle.erl_handshake.specs.declared.status.Status.TheVariants as status
use Rattle.erl_handshake.specs.declared.turn.Progress.{Progress}
use Rattle.erl_handshake.specs.declared.turn.Progress.TheVariants.{Go, Ended}
use Rattle.erl_handshake.specs.declared.admission.OtherConnections.{OtherConnections}
use Rattle.erl_handshake.specs.declared.admission.Admission.{Admission}

-- of two nodes that dial each other, the one with the greater name, by bytes, keeps its attempt
abbrev pub is_greater : (dialer own : List ℕ) → Bool
is_greater dialer own = is_gt (name_cmp dialer own)

-- of two attempts of one dialer the later goes on, which has the greater count
abbrev pub is_superseded : (count : ℕ) → (waiting : Option ℕ) → Bool
is_superseded count None = false
is_superseded count (Some other) = not (nat_lt other count)

-- the status that is sent to this dialer: the first line that fits
abbrev pub status_due : (dialer own : List ℕ) → (count : ℕ) → OtherConnections → TheStatus
status_due dialer own count others =
    -- a later attempt of the dialer goes on here
    if is_superseded count others.waiting then status.Nok else
    -- there is a connection: the dialer is asked whether to go on
    (if others.connected then status.Alive else
    -- the acceptor's node dials the dialer
    (if others.dialing then (if is_greater dialer own then status.OkSimultaneous else status.Nok) else
    status.Ok))

-- whether an attempt to which this was said goes on
abbrev pub progress_of : TheStatus → Progress
progress_of status.Ok = Go
progress_of status.OkSimultaneous = Go
progress_of status.Nok = Ended Nok
progress_of status.NotAllowed = Ended Nok
progress_of status.Alive = Go
progress_of status.True = Go
progress_of status.False = Go

abbrev pub is_simultaneous : TheStatus → Bool
is_simultaneous status.Ok = false
is_simultaneous status.OkSimultaneous = true
is_simultaneous status.Nok = false
is_simultaneous status.NotAllowed = false
is_simultaneous status.Alive = false
is_simultaneous status.True = false
is_simultaneous status.False = false

-- what becomes of an attempt of this count to which this was said, and which others it ends
abbrev pub admission_with : (said : TheStatus) → (count : ℕ) → OtherConnections → Admission
admission_with said count others =
    let is_late = is_superseded count others.waiting in
    record {
      status = said;
      progress = if is_late then Ended Superseded else progress_of said;
      ends_waiting = is_some others.waiting && not is_late;
      ends_dialing = is_simultaneous said;
    }

abbrev pub admission : (dialer own : List ℕ) → (count : ℕ) → OtherConnections → Admission
admission dialer own count others = admission_with (status_due dialer own count others) count others
