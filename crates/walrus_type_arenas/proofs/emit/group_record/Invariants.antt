use Rattle.std.proofs.Common.{◌≡◌, [], map, take}
use Rattle.std.specs.List.{filter_map}
use Rattle.walrus_type_index.specs.walrus_items.walrus_forms.Records.{record_kind}
use Rattle.walrus_type_index.specs.walrus_items.walrus_forms.Renaming.{renamed_kind}
use Rattle.walrus_type_arenas.specs.Table.{table_of}
use Rattle.walrus_type_arenas.specs.Emission.{index_at, written_kind}
use Rattle.walrus_type_arenas.proofs.emit.group_record.Given as goal

abbrev pub invariant-loop-id : goal.invariant-loop-id
invariant-loop-id l = map record_kind l.records.items ≡ map (renamed_kind (index_at l.indices)) (filter_map (written_kind (table_of l.types.slots [])) (take l.id-index l.group.types.items))
