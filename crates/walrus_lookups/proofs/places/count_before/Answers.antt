use Rattle.std.specs.Prelude.{nat_lt}
use Rattle.std.proofs.Common.{rules}
use Rattle.std.proofs.lemmas.List.Sorted.{IsPartitionPoint-from_clause, IsPartitionedBy-ltb}
use Rattle.walrus_instr.specs.declared.seq.InstrLocId.{InstrLocId}
use Rattle.walrus_lookups.proofs.places.count_before.Goals as goal

pub returns-clause-point : goal.returns-clause-point
returns-clause-point c = λ rises.
    IsPartitionPoint-from_clause (λ (e : InstrLocId × _). nat_lt e.0.0 c.args.location.0) c.args.map.now c.partition_point.result c.partition_point.ensures.partitioned
    (IsPartitionedBy-ltb (λ (e : InstrLocId × _). e.0.0) c.args.map.now c.args.location.0 rises) (λ a r q k. search rules)
