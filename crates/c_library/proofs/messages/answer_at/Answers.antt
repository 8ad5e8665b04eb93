use Rattle.std.proofs.Common.{◌+◌, length, None, Some, Ok, Err, refl}
use Rattle.erl_term.specs.declared.refusal.Refusal.TheVariants.{BadMessage}
use Rattle.erl_handshake.proofs.Dues.{at_front}
use Rattle.c_library.proofs.Tells.{told_whole, told_only}
use Rattle.c_library.proofs.messages.answer_at.Goals as goal

pub returns-in_default-clause-due : goal.returns-in_default-clause-due
returns-in_default-clause-due c = (Ok None, c.in_default.ensures, (refl, c.untold.ensures.untold))

pub returns-in-Some-message_at-clause-due : goal.returns-in-Some-message_at-clause-due
returns-in-Some-message_at-clause-due c =
    let body = c.in-Some.body.now in
    let read = c.in-Some-message_at.ensures in (
      Ok (Some (read.0, length body + 2)),
      at_front c.args.role read.0 c.args.bytes.now body c.in-Some.ensures read.1,
      (refl, told_whole c.args.bytes.now body read.0 c.in-Some-message_at.message c.in-Some.ensures read.2),
    )

pub returns-in-Some-message_at-clause-only : goal.returns-in-Some-message_at-clause-only
returns-in-Some-message_at-clause-only c due d =
    let body = c.in-Some.body.now in
    let read = c.in-Some-message_at.ensures in
    told_only c.args.role c.args.bytes.now (Ok (Some (read.0, length body + 2))) due _
    (at_front c.args.role read.0 c.args.bytes.now body c.in-Some.ensures read.1)
    (refl, told_whole c.args.bytes.now body read.0 c.in-Some-message_at.message c.in-Some.ensures read.2) d

pub returns-in-None-clause-due : goal.returns-in-None-clause-due
returns-in-None-clause-due c = (
  Err BadMessage,
  (refl, (c.in-Some.body.now, c.in-Some.ensures, c.in-None.ensures)),
  (refl, c.untold-in-None.ensures.untold),
)

pub returns-in-None-clause-only : goal.returns-in-None-clause-only
returns-in-None-clause-only c due d =
    told_only c.args.role c.args.bytes.now (Err BadMessage) due _ (refl, (c.in-Some.body.now, c.in-Some.ensures, c.in-None.ensures))
    (refl, c.untold-in-None.ensures.untold) d
