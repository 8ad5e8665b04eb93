use Rattle.world_core.specs.Lists.{at}
use Rattle.world_core.proofs.lists.Lists.send.Goals as goal

pub returns-clause-err : goal.returns-clause-err
returns-clause-err c = c.take_back.ensures (λ t x. at c.args.self.now t x) c.send_some-sent.ensures.sent
