-- What the readers of the parts of a message answer.
use Rattle.std.specs.Prelude.{◌≡◌, ◌⊎◌, ℕ, List, ◌++◌, Option, MatchOption, Result, Ok, Err}
use Rattle.erl_term.specs.declared.refusal.Refusal.{Refusal}
use Rattle.erl_term.specs.declared.refusal.Refusal.TheVariants.{BadMessage, OutOfMemory}
use Rattle.erl_names.specs.Name.{IsNodeName}
use Rattle.erl_handshake.specs.declared.message.Role.{Role}
use Rattle.erl_handshake.specs.declared.message.ShakeMsg.{ShakeMsg}
use Rattle.erl_handshake.specs.Messages.{counted, IsBody}

-- a value of which S holds, or that there is none. Memory is wanting only where there is one
abbrev pub Decides : {A : Type 0} → (A → Type 0) → Result A Refusal → Type 0
Decides S (Ok a) = S a
Decides {A = A} S (Err e) = ((e ≡ BadMessage) × ((a : A) → ¬ S a)) ⊎ ((e ≡ OutOfMemory) × ((a : A) × S a))

-- the message of a body, to a reader of either role, or that the body is of none
abbrev pub ReadsBody : List ℕ → Option ShakeMsg → Type 0
ReadsBody body answer =
    MatchOption answer ((role : Role) (message : ShakeMsg) → ¬ IsBody role message body)
    (λ message. (role : Role) → IsBody role message body)

-- the name stands at the front, behind its length
pub record BeginsWithName (bytes name : List ℕ) : Type 0 where
  pub rest : List ℕ
  pub is_name : IsNodeName name
  pub parts : bytes ≡ counted name ++ rest
