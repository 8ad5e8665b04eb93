use Rattle.std.proofs.Common.{◌<◌, ◌++◌, length, take, subst, rules}
use Rattle.script_core.specs.Kept.{Came}
use Rattle.script_core.specs.Outcomes.{IsAt, Took}
use Rattle.script_core.proofs.KeptLemmas.{chunk_stopped}
use Rattle.script_core.proofs.ScriptLemmas.{consumed, ends, goes_on, ends_there, read_some, read_none}
use Rattle.script_core.proofs.script.Script.read_on.Goals as goal

pub returns-in-Ok-eq0-clause-goes : goal.returns-in-Ok-eq0-clause-goes
returns-in-Ok-eq0-clause-goes g c = λ from input held q.
    let before = g.R.Read.remaining c.args.reader.now in
    let after = g.R.Read.remaining c.read.new.self in
    let mid = g.W.Write.contents c.args.writer.now in
    let new = g.W.Write.contents c.finish.new.writer in
    let room : 0 < length c.read.new.buf = search rules in
    let none =
    read_none before after c.read.result c.in-Ok-eq0.field-0 c.read.new.buf c.in-Ok-eq0.is c.in-Ok-eq0.field-0-test room
    c.read.ensures.bytes in
    ends from input before after (IsAt g.S.Lines.stands c.args.self.now) held mid new c.finish.result none.0 none.1 q c.finish.ensures.answers

pub returns-in-Ok-take-clause-goes : goal.returns-in-Ok-take-clause-goes
returns-in-Ok-take-clause-goes g c = λ from input held q.
    let before = g.R.Read.remaining c.args.reader.now in
    let after = g.R.Read.remaining c.read.new.self in
    let mid = g.W.Write.contents c.args.writer.now in
    let new = g.W.Write.contents c.take.new.writer in
    let chunk = take c.in-Ok.len c.read.new.buf in
    goes_on from input chunk before after (IsAt g.S.Lines.stands c.args.self.now)
    (IsAt g.S.Lines.stands c.take.new.self) held mid new
    (read_some before after c.read.result c.in-Ok.len c.read.new.buf c.in-Ok.is c.read.ensures.bytes) q
    (λ p at. subst (Took p chunk (IsAt g.S.Lines.stands c.take.new.self) mid new) c.in-Ok-take.is (c.take.ensures.took p at))

pub returns-in-Err-take-clause-goes : goal.returns-in-Err-take-clause-goes
returns-in-Err-take-clause-goes g c = λ from input held q.
    let before = g.R.Read.remaining c.args.reader.now in
    let after = g.R.Read.remaining c.read.new.self in
    let mid = g.W.Write.contents c.args.writer.now in
    let new = g.W.Write.contents c.take.new.writer in
    let chunk = take c.in-Ok.len c.read.new.buf in
    ends_there from input chunk before after (IsAt g.S.Lines.stands c.args.self.now)
    (IsAt g.S.Lines.stands c.take.new.self) held mid new c.in-Err-take.outcome
    (read_some before after c.read.result c.in-Ok.len c.read.new.buf c.in-Ok.is c.read.ensures.bytes) q
    (λ p at. subst (Took p chunk (IsAt g.S.Lines.stands c.take.new.self) mid new) c.in-Err-take.is (c.take.ensures.took p at))

pub returns-in-Err-take-clause-kept : goal.returns-in-Err-take-clause-kept
returns-in-Err-take-clause-kept g c = λ known first bytes left k e.
    let chunk = take c.in-Ok.len c.read.new.buf in
    let after = g.R.Read.remaining c.read.new.self in
    let m =
    consumed (g.R.Read.remaining c.args.reader.now) after chunk left e
    (read_some (g.R.Read.remaining c.args.reader.now) after c.read.result c.in-Ok.len c.read.new.buf c.in-Ok.is c.read.ensures.bytes) in
    chunk_stopped (g.S.Lines.keeps known) c.take.new.self first bytes chunk m.0 left c.in-Err-take.outcome m.2
    (subst (Came (g.S.Lines.keeps known) c.take.new.self first (bytes ++ chunk)) c.in-Err-take.is (c.take.ensures.kept known first bytes k))
