-- How the ends of a process are kept: a list of records in the order of the partners.
use Rattle.std.specs.Prelude.{T, List, [], ◌∷◌}
use Rattle.std.specs.FinMap as map
use Rattle.erl_term.specs.declared.term.Pid.{Pid}
use Rattle.link_core.specs.declared.end.End.{End}
use Rattle.erl_term.specs.Order.{pid_cmp}

abbrev pub Records : Type 0
Records = List (Pid × End)

-- an end that says that there is a link, be it one that waits for its acknowledgement
abbrev pub IsLink : End → Type 0
IsLink End.None = ⊥
IsLink End.Active = Unit {0}
IsLink (End.Pending id) = Unit {0}

abbrev pub AreLinks : Records → Type 0
AreLinks [] = Unit {0}
AreLinks (first ∷ rest) = IsLink first.1 × AreLinks rest

-- the partners strictly rise
abbrev pub AreSorted : Records → Type 0
AreSorted records = T (map.is_sorted pid_cmp records)

pub record AreRecords (records : Records) : Type 0 where
  pub sorted : AreSorted records
  pub links : AreLinks records
