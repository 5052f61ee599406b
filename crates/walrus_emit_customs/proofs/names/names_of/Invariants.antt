use Rattle.std.specs.Prelude.{◌≡◌, ◌++◌}
use Rattle.std.specs.List.{flat_map}
use Rattle.walrus_index_maps.specs.Views.{indices}
use Rattle.walrus_module.specs.walrus_collections.LookUps.{items}
use Rattle.walrus_payload_writers.specs.Names.{entries_of}
use Rattle.walrus_emit_customs.specs.Names.{item_entry}
use Rattle.walrus_emit_customs.proofs.names.names_of.Given as goal

abbrev pub invariant-loop-item : goal.invariant-loop-item
invariant-loop-item g l = record {
  can : (goal.iterator-loop-item g).can_next l.item-iterator;
  ends : (goal.iterator-loop-item g).is_finite l.item-iterator;
  made : entries_of l.entries.items ++ flat_map (item_entry (g.T.Named.numbered (indices l.maps)) g.T.Named.named) l.item-iterator ≡ flat_map (item_entry (g.T.Named.numbered (indices l.maps)) g.T.Named.named) (items l.items);
}
