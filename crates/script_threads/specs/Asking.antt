-- The request of a line to a node, and its printed text: the answer that the receipt has.
use Rattle.std.specs.Prelude.{◌≡◌, ◌⊎◌, ℕ, List, ◌++◌, Result, Ok, Err}
use Rattle.dist_model.specs.Names.{Name}
use Rattle.dist_model.specs.declared.report.Answer.{Answer}
use Rattle.dist_model.specs.declared.report.Report.{Report}
use Rattle.erl_term.specs.declared.refusal.Refusal.{Refusal}
use Rattle.node_lock.specs.Acts.{event_of}
use Rattle.node_lock.specs.Calling.{AddsReceipt, IsSameSeat}
use Rattle.node_lock.specs.declared.act.Act.{Act}
use Rattle.node_lock.specs.declared.seat.Asked.{Asked}
use Rattle.node_lock.specs.declared.seat.Seat.{Seat}
use Rattle.node_frames.specs.Frames.{Framed}
use Rattle.script_session.specs.declared.made.Made.{Made}
use Rattle.script_session.specs.declared.made.Made.TheVariants.{Nothing, One}
use Rattle.script_terms.specs.declared.names.Named.TheVariants.{Monitor, Process}
use Rattle.script_texts.specs.Texts.{answer_text, refused_text}

-- ---- the answer of the node of that name

abbrev pub answered_text : Name → Result (Report Framed) Refusal → List ℕ
answered_text name (Ok report) = answer_text name report.answer
answered_text name (Err why) = refused_text why

-- the process or the reference that a name may be bound to
abbrev pub made_of : Answer → Made
made_of (Answer.Pid process) = One (Process process)
made_of (Answer.Reference reference) = One (Monitor reference)
made_of answer = Nothing

abbrev pub made_by : Result (Report Framed) Refusal → Made
made_by (Ok report) = made_of report.answer
made_by (Err why) = Nothing

-- ---- the requests of a seat

-- the act was entered, the seat has its receipt, and the answer that the receipt has was printed
pub record Entered (act : Act) (name : Name) (seat after : Seat) (old_text new_text : List ℕ) (made : Made) : Type 0 where
  pub asked : Asked
  pub event : asked.event ≡ event_of act
  pub adds : AddsReceipt seat after asked
  pub text : new_text ≡ old_text ++ answered_text name asked.receipt.answer
  pub makes : made ≡ made_by asked.receipt.answer

-- nothing was entered
pub record TurnedAway (seat after : Seat) (old_text new_text : List ℕ) (made : Made) : Type 0 where
  pub same : IsSameSeat seat after
  pub why : Refusal
  pub text : new_text ≡ old_text ++ refused_text why
  pub nothing : made ≡ Nothing

abbrev pub Asks : Act → Name → (seat after : Seat) → (old_text new_text : List ℕ) → Made → Type 0
Asks act name seat after old_text new_text made =
    Entered act name seat after old_text new_text made ⊎ TurnedAway seat after old_text new_text made
