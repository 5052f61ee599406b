use Rattle.std.specs.Prelude.{◌≡◌, ◌++◌, drop}
use Rattle.std.specs.List.{flat_map}
use Rattle.walrus_index_maps.specs.Views.{indices}
use Rattle.walrus_payload_writers.specs.Names.{entries_of}
use Rattle.walrus_emit_customs.specs.Names.{local_entry}
use Rattle.walrus_emit_customs.proofs.names.locals_of.Given as goal

abbrev pub invariant-loop-id : goal.invariant-loop-id
invariant-loop-id l =
    entries_of l.entries.items ++ flat_map (local_entry l.locals (indices l.maps) l.body.function) (drop l.id-index l.id-items)
    ≡ flat_map (local_entry l.locals (indices l.maps) l.body.function) l.id-items
