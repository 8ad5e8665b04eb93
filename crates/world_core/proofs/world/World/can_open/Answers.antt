use Rattle.std.proofs.Common.{◌∙◌, true, false, arith, sym}
use Rattle.world_core.proofs.Opened.{distinct_from}
use Rattle.world_core.proofs.world.World.can_open.Goals as goal

pub returns-then-has_name : goal.returns-then-has_name
returns-then-has_name c =
    sym (c.loop-at.invariant.distinct
    ∙ distinct_from c.args.nodes.now c.loop-at.at c.index-nodes-at.result true (omega arith) c.index-nodes-at.is
    (sym c.has_name.ensures ∙ c.if-has_name.true))

pub loop-at-preserved : goal.loop-at-preserved
loop-at-preserved c = record {
  some = omega arith;
  distinct = c.loop-at.invariant.distinct
      ∙ distinct_from c.args.nodes.now c.loop-at.at c.index-nodes-at.result false (omega arith) c.index-nodes-at.is
      (sym c.has_name.ensures ∙ c.if-has_name.false);
}
