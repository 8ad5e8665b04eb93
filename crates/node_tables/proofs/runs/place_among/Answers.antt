use Rattle.std.proofs.Common.{rules}
use Rattle.std.proofs.lemmas.List.Sorted.{IsPartitionPoint-from_clause}
use Rattle.node_tables.proofs.Buried.{in_front, parted}
use Rattle.node_tables.proofs.runs.place_among.Goals as goal

pub returns-clause-parts : goal.returns-clause-parts
returns-clause-parts c =
    IsPartitionPoint-from_clause (in_front c.args.trunk.now) c.args.runs.now c.partition_point.result c.partition_point.ensures.partitioned
    (parted c.args.trunk.now c.args.runs.now c.requires) (λ a r f k. search rules)
