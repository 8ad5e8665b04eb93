-- The ends that one process has, by partner.
use Rattle.std.specs.Prelude.{ℕ, unwrap_or, refl}
use Rattle.std.specs.Coded.{Coded, code_by, coded×, coded_ℕ}
use Rattle.std.specs.FinMap as map
use Rattle.erl_term.specs.declared.term.Pid.{Pid}
use Rattle.link_core.specs.declared.end.End.{End}
use Rattle.erl_term.specs.Order.{pid_cmp}

abbrev pub EndMap : Type 0
EndMap = map.FinMap pid_cmp End

-- a partner that isn't there is one to which there is no link
abbrev pub end_of : EndMap → Pid → End
end_of ends partner = unwrap_or (map.get ends partner) End.None

-- the ends with this one at the partner. All others stay
abbrev pub with_end : EndMap → Pid → End → EndMap
with_end ends partner End.None = map.remove ends partner
with_end ends partner End.Active = map.insert ends partner End.Active
with_end ends partner (End.Pending id) = map.insert ends partner (End.Pending id)

-- the ends, and how many more partners may come without memory
pub record Held : Type 0 where
  pub ends : EndMap
  pub room : ℕ

abbrev pub held_code : Coded Pid → Coded End → Coded Held
held_code pid end =
    code_by (EndMap × ℕ) (coded× (map.code pid end) coded_ℕ) (λ k. (k.ends, k.room)) (λ p. record { ends = p.0; room = p.1 }) (λ _. refl)
