use Rattle.std.proofs.Common.{◌≡◌, [], drop, flat_map}
use Rattle.std.specs.List.{filter_map}
use Rattle.walrus_type_index.specs.walrus_items.walrus_forms.Kinds.{kind_names}
use Rattle.walrus_type_index.specs.walrus_items.Items.{group_of}
use Rattle.walrus_type_arenas.specs.Table.{table_of}
use Rattle.walrus_type_arenas.specs.Emission.{fault_at, first_fault, index_at, written_kind, group_names}
use Rattle.walrus_type_arenas.proofs.emit.group_fault.Given as goal

abbrev pub invariant-loop-id : goal.invariant-loop-id
invariant-loop-id l =
    first_fault (fault_at (table_of l.types.slots []) (index_at l.indices) l.end) (flat_map kind_names (filter_map (written_kind (table_of l.types.slots [])) (drop l.id-index l.group.types.items)))
    ≡ first_fault (fault_at (table_of l.types.slots []) (index_at l.indices) l.end) (group_names (table_of l.types.slots []) (group_of l.group))
