use Rattle.std.proofs.Common.{refl, rules}
use Rattle.world_core.proofs.Opened.{joins, on_err, stays}
use Rattle.world_core.proofs.world.World.join.Goals as goal

pub returns-clause-ok : goal.returns-clause-ok
returns-clause-ok c = λ nodes h.
    joins c.args.self.now _ nodes c.in_ok-new.field-0 c.args.name c.args.setup h
    (search rules) refl c.in_ok-new.ensures c.requires c.text.ensures.form

pub returns-in_err-new-clause-err : goal.returns-in_err-new-clause-err
returns-in_err-new-clause-err c = λ m h. on_err c.from_residual.result h

pub returns-in_err-push-clause-err : goal.returns-in_err-push-clause-err
returns-in_err-push-clause-err c = λ m h. on_err c.from_residual-in_err-push.result (stays c.args.self.now _ m h (search rules) refl)
