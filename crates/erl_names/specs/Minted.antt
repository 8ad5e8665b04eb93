-- What one incarnation of a node has drawn, and what its next draws give. (ERTS User's Guide, External
-- Term Format, NEW_PID_EXT and NEWER_REFERENCE_EXT; Distribution Protocol, New Link Protocol.)
use Rattle.std.specs.Prelude.{ℕ, ◌+◌, ◌-◌, ◌^◌, nat_lt, if◌then◌else◌, List, [], ◌∷◌, ◌++◌, Option, None, Some}
use Rattle.erl_names.specs.Draw.{Draw}
use Rattle.erl_names.specs.Draw as draw

-- the node's name and creation, and how many of each kind it has drawn
pub record Minted : Type 0 where
  pub name : List ℕ
  pub creation : ℕ
  pub pids : ℕ
  pub references : ℕ
  pub unlink_ids : ℕ

abbrev pub nothing_drawn : List ℕ → ℕ → Minted
nothing_drawn name creation = record { name = name; creation = creation; pids = 0; references = 0; unlink_ids = 0 }

abbrev pub count : Minted → Draw → ℕ
count m draw.Pid = m.pids
count m draw.Reference = m.references
count m draw.UnlinkId = m.unlink_ids

-- the highest number of a kind: 32 bits of a pid, 18 of the first word of a reference, 64 of an unlink
abbrev pub last : Draw → ℕ
last draw.Pid = 2 ^ 32 - 1
last draw.Reference = 2 ^ 18 - 1
last draw.UnlinkId = 2 ^ 64 - 1

-- one more, up to the highest
abbrev pub risen : ℕ → ℕ → ℕ
risen n highest = if nat_lt n highest then n + 1 else n

-- a draw raises its own counter
abbrev pub drawn : Minted → Draw → Minted
drawn m draw.Pid = record m { pids = risen m.pids (last draw.Pid) }
drawn m draw.Reference = record m { references = risen m.references (last draw.Reference) }
drawn m draw.UnlinkId = record m { unlink_ids = risen m.unlink_ids (last draw.UnlinkId) }

-- the number that a draw gives: 1, 2 and so on up to the highest, and none from then on
abbrev pub id_of : Minted → Draw → Option ℕ
id_of m kind = if nat_lt (count m kind) (last kind) then Some (count m kind + 1) else None

-- a number, if there is one, under its kind
abbrev pub under : Draw → Option ℕ → List (Draw × ℕ)
under kind None = []
under kind (Some id) = (kind, id) ∷ []

-- the numbers that a run of draws gives, each under its kind
abbrev pub ids : List Draw → Minted → List (Draw × ℕ)
ids [] m = []
ids (kind ∷ draws) m = under kind (id_of m kind) ++ ids draws (drawn m kind)
