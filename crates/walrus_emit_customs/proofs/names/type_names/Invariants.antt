use Rattle.std.specs.Prelude.{◌≡◌, ◌++◌, drop}
use Rattle.std.specs.List.{flat_map}
use Rattle.walrus_payload_writers.specs.Names.{entries_of}
use Rattle.walrus_emit_customs.specs.Names.{type_entry}
use Rattle.walrus_emit_customs.proofs.names.type_names.Given as goal

abbrev pub invariant-loop-id : goal.invariant-loop-id
invariant-loop-id l =
    entries_of l.entries.items ++ flat_map (type_entry l.types l.emitted) (drop l.id-index l.id-items) ≡ flat_map (type_entry l.types l.emitted) l.id-items
