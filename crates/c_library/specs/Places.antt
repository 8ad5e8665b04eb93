-- The places of the parts behind each tag of a control term.
use Rattle.std.specs.Prelude.{ℕ, ◌+◌, ◌-◌, ◌==◌, ◌||◌, if◌then◌else◌}
use Rattle.c_library.specs.declared.elements.Ends.{Ends}
use Rattle.c_library.specs.declared.parts.ErldistPlace.{ErldistPlace}
use Rattle.c_library.specs.declared.parts.Parts.{Parts}
use Rattle.c_library.specs.Parts.{no_place}

abbrev pub from_to : ℕ → ℕ → ErldistPlace
from_to start stop = record { offset = start; length = stop - start }

-- behind a version byte
abbrev pub message_at : ℕ → ℕ → ErldistPlace
message_at start length = from_to (start + 1) length

abbrev pub of_two : Ends → Parts
of_two e = record { from = from_to e.start e.first; to = from_to e.first e.second; reference = no_place; payload = no_place }

abbrev pub of_send : Ends → ℕ → Parts
of_send e length = record { from = no_place; to = from_to e.first e.second; reference = no_place; payload = message_at e.second length }

abbrev pub of_reg_send : Ends → ℕ → Parts
of_reg_send e length =
    record { from = from_to e.start e.first; to = from_to e.second e.third; reference = no_place; payload = message_at e.third length }

abbrev pub of_unlink : Ends → Parts
of_unlink e = record { from = from_to e.first e.second; to = from_to e.second e.third; reference = no_place; payload = no_place }

-- the parts of a control term with this tag, in a frame of this length
abbrev pub parts_by : ℕ → Ends → ℕ → Parts
parts_by tag e length =
    if tag == 1 then of_two e
    else (if tag == 2 then of_send e length
    else (if tag == 6 then of_reg_send e length
    else (if tag == 3 || tag == 8 then record (of_two e) { payload = from_to e.second e.third }
    else (if tag == 24 || tag == 26 then record (of_two e) { payload = message_at e.second length }
    else (if tag == 19 || tag == 20 then record (of_two e) { reference = from_to e.second e.third }
    else (if tag == 21 then record (of_two e) { reference = from_to e.second e.third; payload = from_to e.third e.fourth }
    else (if tag == 28 then record (of_two e) { reference = from_to e.second e.third; payload = message_at e.third length }
    else (if tag == 35 || tag == 36 then of_unlink e
    else record { from = no_place; to = no_place; reference = no_place; payload = no_place }))))))))
