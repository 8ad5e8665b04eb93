-- The frames of the signals of links, byte by byte.
use Rattle.std.specs.Prelude.{Bool, false, true, ℕ, suc, pos, List, ◌∷◌, ◌++◌, length}
use Rattle.byteorder.specs.Endian.{big_bytes}
use Rattle.erl_term.specs.declared.term.Pid.{Pid}
use Rattle.erl_term.specs.Canonical.{canonical_int, canonical_pid}
use Rattle.erl_control.specs.declared.signal.Signal.{Signal}
use Rattle.erl_control.specs.declared.signal.Signal.TheVariants.{UnlinkId, UnlinkIdAck}
use Rattle.c_library.specs.declared.writing.Pids.{Pids}
use Rattle.c_library.specs.Pids.{pid_on}

abbrev pub sender : Pids → Pid
sender pids = pid_on pids.from_node.now pids.from

abbrev pub receiver : Pids → Pid
receiver pids = pid_on pids.to_node.now pids.to

abbrev pub link_text : Pids → List ℕ
link_text pids = 131 ∷ 104 ∷ 3 ∷ 97 ∷ 1 ∷ (canonical_pid (sender pids) ++ canonical_pid (receiver pids))

-- of UNLINK_ID and of UNLINK_ID_ACK, by the tag
abbrev pub unlink_text : ℕ → ℕ → Pids → List ℕ
unlink_text tag id pids =
    131 ∷ 104 ∷ 4 ∷ 97 ∷ tag ∷ (canonical_int (pos id) ++ (canonical_pid (sender pids) ++ canonical_pid (receiver pids)))

-- UNLINK_ID, or its acknowledgement
abbrev pub unlink_of : Bool → ℕ → Pid → Pid → Signal
unlink_of false id p q = UnlinkId id p q
unlink_of true id p q = UnlinkIdAck id p q

abbrev pub unlink_tag : Bool → ℕ
unlink_tag false = 35
unlink_tag true = 36

abbrev pub row_frame : List ℕ → List ℕ
row_frame text = big_bytes 4 (suc (length text)) ++ 112 ∷ text
