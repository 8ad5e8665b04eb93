-- Why a handshake ended, as the refusal of the same name.
use Rattle.erl_term.specs.declared.refusal.Refusal.{Refusal}
use Rattle.erl_term.specs.declared.refusal.Refusal.TheVariants as refusal
use Rattle.erl_handshake.specs.declared.fault.ShakeFault.{ShakeFault}
use Rattle.erl_handshake.specs.declared.fault.ShakeFault.TheVariants.{BadMessage, FlagsMissing, BadDigest, Nok, Superseded, Forged}

abbrev pub refusal_of : ShakeFault → Refusal
refusal_of BadMessage = refusal.BadMessage
refusal_of FlagsMissing = refusal.FlagsMissing
refusal_of BadDigest = refusal.BadDigest
refusal_of Nok = refusal.Nok
refusal_of Superseded = refusal.Superseded
refusal_of Forged = refusal.Forged
