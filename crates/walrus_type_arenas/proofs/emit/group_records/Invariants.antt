use Rattle.std.proofs.Common.{◌-◌, [], length, map, drop}
use Rattle.walrus_type_index.specs.walrus_items.walrus_forms.Records.{type_group}
use Rattle.walrus_type_arenas.specs.Table.{table_of}
use Rattle.walrus_type_arenas.specs.Emission.{index_at}
use Rattle.walrus_type_arenas.proofs.EmitLemmas.{shown-groups}
use Rattle.walrus_type_arenas.proofs.BlockLemmas.{AreDone}
use Rattle.walrus_type_arenas.proofs.emit.group_records.Given as goal

abbrev pub invariant-loop-start : goal.invariant-loop-start
invariant-loop-start l = AreDone (table_of l.types.slots []) (index_at l.indices) (shown-groups l.groups) (shown-groups (drop l.start l.groups)) l.end (map type_group l.records.items)

abbrev pub decreases-loop-start : goal.decreases-loop-start
decreases-loop-start l = length l.groups - l.start
