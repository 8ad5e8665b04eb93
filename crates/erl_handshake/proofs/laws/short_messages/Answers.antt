use Rattle.std.proofs.Common.{◌≤◌, length, arith}
use Rattle.erl_handshake.specs.declared.status.Status.{Status as TheStatus}
use Rattle.erl_handshake.specs.declared.status.Status.TheVariants as status
use Rattle.erl_handshake.specs.declared.message.ShakeMsg.{ShakeMsg}
use Rattle.erl_handshake.specs.declared.message.ShakeMsg.TheVariants.{SendName, Status, Challenge, ChallengeReply, ChallengeAck}
use Rattle.erl_handshake.specs.Messages.{HasFields, written, status_text}
use Rattle.erl_handshake.proofs.laws.short_messages.Goals as goal

at_status : (s : TheStatus) → length (status_text s) ≤ 15
at_status status.Ok = omega arith
at_status _ = omega arith

at : (message : ShakeMsg) → HasFields message → length (written message) ≤ 85
at (SendName flags creation name) h = let s = h.2.short in omega arith
at (Status status) h = let s = at_status status in omega arith
at (Challenge flags challenge creation name) h = let s = h.3.short in omega arith
at (ChallengeReply challenge digest) h = let s = h.1 in omega arith
at (ChallengeAck digest) h = omega arith

pub returns : goal.returns
returns c = at
