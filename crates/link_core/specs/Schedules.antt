-- Schedules of two processes that are told by name.
use Rattle.std.specs.Prelude.{List, [], ◌∷◌, ◌++◌}
use Rattle.erl_term.specs.Data.{Data}
use Rattle.link_core.specs.Pair.{Event, Here, There, Links, Unlinks, Exits, Takes}

-- here a link is made, and its signal comes
abbrev pub made_link : List Event
made_link = Here Links ∷ There Takes ∷ []

-- here it is taken back, made again and taken back; there it is made between, and all comes in the end.
-- The acknowledgement of the first UNLINK_ID comes while that of the second is awaited
abbrev pub old_acknowledgement : List Event
old_acknowledgement = made_link ++
    (Here (Unlinks 7) ∷ Here Links ∷ Here (Unlinks 8) ∷ There Takes ∷ There Links ∷ There Takes ∷ There Takes
    ∷ Here Takes ∷ Here Takes ∷ Here Takes ∷ [])

-- both take it back, here it is made again, and all comes in the end
abbrev pub crossed_unlinks : List Event
crossed_unlinks = made_link ++
    (Here (Unlinks 1) ∷ There (Unlinks 1) ∷ Here Links ∷ There Takes ∷ There Takes
    ∷ Here Takes ∷ Here Takes ∷ There Takes ∷ [])

-- of two that are linked the one here ends
abbrev pub ended_partner : Data → List Event
ended_partner reason = made_link ++ Here (Exits reason) ∷ []

-- the one there has ended, a link to it is made, and its signal comes
abbrev pub late_link : Data → List Event
late_link reason = There (Exits reason) ∷ Here Links ∷ There Takes ∷ []
