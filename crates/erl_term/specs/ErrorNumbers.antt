-- The number and the name of each error and of each refusal, as scripts print them.
use Rattle.std.specs.Prelude.{ℕ, List, codes}
use Rattle.erl_term.specs.declared.error.TermError.{TermError}
use Rattle.erl_term.specs.declared.error.TermError.TheVariants as error
use Rattle.erl_term.specs.declared.refusal.Refusal.{Refusal}
use Rattle.erl_term.specs.declared.refusal.Refusal.TheVariants as refusal

-- why a term can't be read or written
abbrev pub error_number : TermError → ℕ
error_number error.Cut = 1
error_number error.Malformed = 2
error_number (error.OutOfProfile tag) = 3
error_number error.TooDeep = 4
error_number error.TooLong = 5
error_number error.OutOfMemory = 12

abbrev pub error_name : TermError → List ℕ
error_name error.Cut = codes "Cut"
error_name error.Malformed = codes "Malformed"
error_name (error.OutOfProfile tag) = codes "OutOfProfile"
error_name error.TooDeep = codes "TooDeep"
error_name error.TooLong = codes "TooLong"
error_name error.OutOfMemory = codes "OutOfMemory"

-- why a call was refused
abbrev pub refusal_number : Refusal → ℕ
refusal_number refusal.BadName = 1
refusal_number refusal.NodeDown = 2
refusal_number refusal.NoSuchProcess = 3
refusal_number refusal.IdsUsedUp = 4
refusal_number refusal.NotTheOwner = 5
refusal_number refusal.TooLong = 8
refusal_number refusal.BadMessage = 10
refusal_number refusal.FlagsMissing = 11
refusal_number refusal.OutOfMemory = 12
refusal_number refusal.BadDigest = 13
refusal_number refusal.Nok = 14
refusal_number refusal.Superseded = 15
refusal_number refusal.Busy = 16
refusal_number refusal.SelfDial = 17
refusal_number refusal.NotLive = 18
refusal_number refusal.NothingThere = 19
refusal_number refusal.Forged = 20
refusal_number refusal.NodeUp = 23
refusal_number refusal.NameTaken = 25
refusal_number refusal.HasName = 26
refusal_number refusal.NoName = 27
refusal_number refusal.NotOffered = 28
refusal_number refusal.StrangeSeat = 29
refusal_number refusal.NoThread = 30

abbrev pub refusal_name : Refusal → List ℕ
refusal_name refusal.BadName = codes "BadName"
refusal_name refusal.NodeDown = codes "NodeDown"
refusal_name refusal.NoSuchProcess = codes "NoSuchProcess"
refusal_name refusal.IdsUsedUp = codes "IdsUsedUp"
refusal_name refusal.NotTheOwner = codes "NotTheOwner"
refusal_name refusal.TooLong = codes "TooLong"
refusal_name refusal.BadMessage = codes "BadMessage"
refusal_name refusal.FlagsMissing = codes "FlagsMissing"
refusal_name refusal.OutOfMemory = codes "OutOfMemory"
refusal_name refusal.BadDigest = codes "BadDigest"
refusal_name refusal.Nok = codes "Nok"
refusal_name refusal.Superseded = codes "Superseded"
refusal_name refusal.Busy = codes "Busy"
refusal_name refusal.SelfDial = codes "SelfDial"
refusal_name refusal.NotLive = codes "NotLive"
refusal_name refusal.NothingThere = codes "NothingThere"
refusal_name refusal.Forged = codes "Forged"
refusal_name refusal.NodeUp = codes "NodeUp"
refusal_name refusal.NameTaken = codes "NameTaken"
refusal_name refusal.HasName = codes "HasName"
refusal_name refusal.NoName = codes "NoName"
refusal_name refusal.NotOffered = codes "NotOffered"
refusal_name refusal.StrangeSeat = codes "StrangeSeat"
refusal_name refusal.NoThread = codes "NoThread"
