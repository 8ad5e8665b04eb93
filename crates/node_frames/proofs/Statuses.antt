-- The text of a status is short.
use Rattle.std.proofs.Common.{◌≤◌, length, arith}
use Rattle.erl_handshake.specs.Messages.{status_text}
use Rattle.erl_handshake.specs.declared.status.Status.{Status}

pub status_short : (s : Status) → (1 ≤ length (status_text s)) × (length (status_text s) ≤ 20)
status_short Status.Ok = (omega arith, omega arith)
status_short s = (omega arith, omega arith)
