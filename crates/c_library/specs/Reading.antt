-- A pid as numbers and the place of its node's name.
-- (ERTS User's Guide, External Term Format, NEW_PID_EXT.)
use Rattle.std.specs.Prelude.{◌≡◌, ℕ, ◌+◌, ◌≤◌, ◌==◌, if◌then◌else◌, List, length}
use Rattle.std.specs.Str.{chars}
use Rattle.erl_term.specs.declared.term.Pid.{Pid}
use Rattle.c_library.specs.declared.reading.ErldistSeenPid.{ErldistSeenPid}
use Rattle.c_library.specs.Parts.{bytes_at}

-- 1 for the tags of atoms in Latin-1
abbrev pub latin_of : ℕ → ℕ
latin_of tag = if tag == 115 then 1 else (if tag == 100 then 1 else 0)

-- the bytes of an atom before its text, by its tag
abbrev pub head_len : ℕ → ℕ
head_len tag = if tag == 118 then 3 else (if tag == 100 then 3 else 2)

-- the pid of these bytes, as numbers and the place of its node: UTF-8, or letters of Latin-1
pub record IsSeen (bytes : List ℕ) (p : Pid) (seen : ErldistSeenPid) : Type 0 where
  pub id : seen.id ≡ p.id
  pub serial : seen.serial ≡ p.serial
  pub creation : seen.creation ≡ p.creation
  pub within : seen.node.offset + seen.node.length ≤ length bytes
  pub text : bytes_at seen.node bytes ≡ (if seen.latin1 == 0 then p.node else chars p.node)
