-- The messages that wait for a process, and how many more may come without memory.
use Rattle.std.specs.Prelude.{ℕ, List, refl}
use Rattle.std.specs.Coded.{Coded, code_by, coded×, coded_list, coded_ℕ}
use Rattle.erl_term.specs.Code.{data_code}
use Rattle.erl_term.specs.Data.{Data}

pub record Waiting : Type 0 where
  pub messages : List Data
  pub room : ℕ

abbrev pub waiting_code : Coded Waiting
waiting_code = code_by (List Data × ℕ) (coded× (coded_list data_code) coded_ℕ) (λ w. (w.messages, w.room))
    (λ p. record { messages = p.0; room = p.1 }) (λ _. refl)
