use Rattle.std.proofs.Common.{rules}
use Rattle.erl_names.specs.Name.{IsNodeName}
use Rattle.erl_handshake.proofs.Bodies.{no_name, no_text}
use Rattle.c_library.proofs.messages.name_at.Goals as goal

pub returns-in_default-clause-name : goal.returns-in_default-clause-name
returns-in_default-clause-name c name n =
    no_text c.args.bytes.now c.in_ok-text.text.now name c.in_ok-text.ensures c.in_default.ensures.cases.0 n

pub returns-then-not-fits-clause-name : goal.returns-then-not-fits-clause-name
returns-then-not-fits-clause-name c name n =
    let other : ¬ IsNodeName c.in_ok-text.text.now = search rules in
    no_name c.args.bytes.now c.in_ok-text.text.now name c.in_ok-text.ensures other n
