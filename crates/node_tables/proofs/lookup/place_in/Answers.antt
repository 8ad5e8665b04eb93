use Rattle.std.proofs.Common.{sym, ◌∙◌, arith}
use Rattle.node_tables.proofs.Own.{none_beyond, own_is}
use Rattle.node_tables.proofs.lookup.place_in.Goals as goal

pub returns-then-place-lives-clause-pid : goal.returns-then-place-lives-clause-pid
returns-then-place-lives-clause-pid c =
    own_is c.args.mint.now c.args.process.now _ (sym c.is_own.ensures ∙ c.if-not-is_own.false) (omega (arith, c.if-process-eq0.false))

pub returns-else-place-lives-clause-none : goal.returns-else-place-lives-clause-none
returns-else-place-lives-clause-none c h =
    none_beyond c.args.mint.now c.args.lives.now c.args.process.now (omega (arith, c.if-process-eq0.false, c.if-place-lives.false))
