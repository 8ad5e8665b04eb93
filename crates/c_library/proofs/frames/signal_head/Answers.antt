use Rattle.erl_control.specs.Parts.{signal_in}
use Rattle.c_library.proofs.frames.signal_head.Goals as goal

pub returns-in_default-clause-head : goal.returns-in_default-clause-head
returns-in_default-clause-head c = absurd (c.in_default.ensures (signal_in c.args.signal.now) c.requires)

pub returns-clause-head : goal.returns-clause-head
returns-clause-head c =
    let row = c.in-Some.ensures (signal_in c.args.signal.now) c.requires in
    record {
      operation = row.0;
      id = c.id_of.ensures;
      from = row.1.from;
      to = row.1.to;
      reference = row.1.reference;
      payload = row.1.payload;
    }
