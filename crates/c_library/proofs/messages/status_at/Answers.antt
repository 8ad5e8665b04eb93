use Rattle.std.proofs.Common.{arith}
use Rattle.erl_handshake.specs.declared.message.ShakeMsg.TheVariants.{Status}
use Rattle.erl_handshake.proofs.Bodies.{status_body}
use Rattle.c_library.proofs.Tells.{status_told}
use Rattle.c_library.proofs.messages.status_at.Goals as goal

pub returns : goal.returns
returns c = (
  Status c.in_ok-status.status,
  λ role. status_body role c.in_ok-status.status c.args.text.now c.in_ok-status.ensures,
  record {
    within = rw c.untold.ensures.name (omega arith);
    says = λ a b. status_told c.in_ok-status.status c.status_number.result c.status_number.ensures;
  },
)
