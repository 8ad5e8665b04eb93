use Rattle.std.proofs.Common.{ℕ, Some, Ok, Err, refl, rules}
use Rattle.dist_model.specs.Items.{Handshake}
use Rattle.dist_model.specs.Work.{at_work}
use Rattle.erl_handshake.specs.Answer.{IsShakeDue}
use Rattle.erl_handshake.specs.declared.message.Role.TheVariants as role
use Rattle.erl_handshake.specs.declared.message.ShakeMsg.{ShakeMsg}
use Rattle.erl_term.specs.declared.refusal.Refusal.{Refusal}
use Rattle.dist_model.proofs.KeepTaken.{fresh_taken}
use Rattle.node_connections.proofs.Accepted.{wants_memory}
use Rattle.node_connections.proofs.Judged.{bad}
use Rattle.node_connections.specs.Fronts.{Holds, Spoils}
use Rattle.node_plan.specs.Seen.{seen}
use Rattle.node_connections.proofs.opening.come_first.Goals as goal

pub returns-in-Ok : goal.returns-in-Ok
returns-in-Ok c =
    let due : IsShakeDue role.Acceptor c.args.bytes.now (Ok (Some (c.in-Ok-Some.message, c.in-Ok-Some.len))) = search rules in
    record { front = Holds (Handshake c.in-Ok-Some.message) c.in-Ok-Some.len; is = due; plans = (c.in-Ok.ensures, refl) }

pub returns-in-Err-hear_first : goal.returns-in-Err-hear_first
returns-in-Err-hear_first c =
    let due : IsShakeDue role.Acceptor c.args.bytes.now (Ok (Some (c.in-Ok-Some.message, c.in-Ok-Some.len))) = search rules in
    record { front = Holds (Handshake c.in-Ok-Some.message) c.in-Ok-Some.len; is = due; plans = c.in-Err-hear_first.ensures }

pub returns-in-Err-OutOfMemory : goal.returns-in-Err-OutOfMemory
returns-in-Err-OutOfMemory c =
    let found : (message : ShakeMsg) × (n : ℕ) × IsShakeDue role.Acceptor c.args.bytes.now (Ok (Some (message, n))) =
    c.read.ensures.memory (search rules) in
    record {
      front = Holds (Handshake found.0) found.1;
      is = found.2;
      plans = wants_memory _ (fresh_taken (Some found.0) c.args.trunk.now c.args.word (at_work (seen c.args.node.now)));
    }

pub returns-in-Ok-spoil_first : goal.returns-in-Ok-spoil_first
returns-in-Ok-spoil_first c =
    let due : IsShakeDue role.Acceptor c.args.bytes.now (Err Refusal.BadMessage) = search rules in
    record { front = Spoils bad; is = due; plans = (c.in-Ok-spoil_first.ensures c.args.word, refl) }

pub returns-in-Err-spoil_first : goal.returns-in-Err-spoil_first
returns-in-Err-spoil_first c =
    let due : IsShakeDue role.Acceptor c.args.bytes.now (Err Refusal.BadMessage) = search rules in
    record { front = Spoils bad; is = due; plans = c.in-Err-spoil_first.ensures c.args.word }
