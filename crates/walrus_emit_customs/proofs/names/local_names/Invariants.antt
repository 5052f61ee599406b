use Rattle.std.specs.Prelude.{◌≡◌, ◌++◌, drop, slice_get}
use Rattle.std.specs.List.{filter_map, flat_map}
use Rattle.walrus_index_maps.specs.Views.{indices}
use Rattle.walrus_payload_writers.specs.Names.{functions_of}
use Rattle.walrus_emit_customs.specs.Names.{body_names}
use Rattle.walrus_emit_customs.proofs.names.local_names.Given as goal

abbrev pub invariant-loop-at : goal.invariant-loop-at
invariant-loop-at l =
    functions_of l.functions.items ++ flat_map (body_names l.locals (indices l.maps)) (filter_map (slice_get l.facts) (drop l.at-index l.order))
    ≡ flat_map (body_names l.locals (indices l.maps)) (filter_map (slice_get l.facts) l.order)
