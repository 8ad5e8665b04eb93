-- The flags by which a node tells its abilities: a word in which each flag has a bit.
-- (ERTS User's Guide, Distribution Protocol, Distribution Flags.)
use Rattle.std.specs.Prelude.{ℕ, Bool, not, ◌==◌, List, [], ◌∷◌, bit_and}
use Rattle.erl_handshake.specs.declared.profile.Profile.{Profile}
use Rattle.erl_handshake.specs.declared.profile.Profile.TheVariants as profile
use Rattle.erl_handshake.specs.declared.flags.Flag.{Flag}
use Rattle.erl_handshake.specs.declared.flags.Flag.TheVariants.{ExtendedReferences, DistMonitor, DistMonitorName, ExtendedPidsPorts}
use Rattle.erl_handshake.specs.declared.flags.Flag.TheVariants.{Utf8Atoms, BigCreation, ExitPayload, Handshake23, UnlinkId, V4Nc}

abbrev pub flag_value : Flag → ℕ
flag_value ExtendedReferences = 0x4
flag_value DistMonitor = 0x8
flag_value DistMonitorName = 0x20
flag_value ExtendedPidsPorts = 0x100
flag_value Utf8Atoms = 0x10000
flag_value BigCreation = 0x40000
flag_value ExitPayload = 0x400000
flag_value Handshake23 = 0x1000000
flag_value UnlinkId = 0x2000000
flag_value V4Nc = 0x400000000

-- the flag's bit is set
abbrev pub offers : ℕ → Flag → Bool
offers word flag = not (bit_and word (flag_value flag) == 0)

-- each bit that is required is set
abbrev pub has_all_of : ℕ → ℕ → Bool
has_all_of word required = bit_and word required == required

-- what each node offers, and its peer must offer
abbrev pub mandatory_flags : List Flag
mandatory_flags = ExtendedReferences ∷ DistMonitor ∷ ExtendedPidsPorts ∷ Utf8Atoms ∷ BigCreation ∷ Handshake23 ∷ UnlinkId ∷ V4Nc ∷ []

-- the same as a word
abbrev pub mandatory : ℕ
mandatory = 0x40305010C

-- what a node of a profile offers: the mandatory flags, from the second on EXIT_PAYLOAD, and in the third DIST_MONITOR_NAME too
abbrev pub flags_of : Profile → ℕ
flags_of profile.One = mandatory
flags_of profile.Two = 0x40345010C
flags_of profile.Three = 0x40345012C
