-- The number by which a side that broke names its fault.
use Rattle.std.specs.Prelude.{ℕ}
use Rattle.erl_term.specs.declared.refusal.Refusal.{Refusal}
use Rattle.erl_term.specs.ErrorNumbers.{refusal_number}
use Rattle.erl_control.specs.Numbers.{frame_fault_number}
use Rattle.erl_handshake.specs.Faults.{refusal_of}
use Rattle.conn_core.specs.declared.arrival.Fault.{Fault}
use Rattle.conn_core.specs.declared.arrival.Fault.TheVariants.{Shake, Frame, Forged}

abbrev pub fault_number : Fault → ℕ
fault_number (Shake why) = refusal_number (refusal_of why)
fault_number (Frame why) = frame_fault_number why
fault_number Forged = refusal_number Refusal.Forged
