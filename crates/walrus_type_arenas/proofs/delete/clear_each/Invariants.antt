use Rattle.std.proofs.Common.{◌≡◌, map, take, None}
use Rattle.std.specs.Option.{option_map}
use Rattle.walrus_type_index.specs.walrus_items.Items.{item_of}
use Rattle.walrus_type_index.specs.Places.{kinds_in}
use Rattle.walrus_type_index.specs.Ordered.{IsHeld}
use Rattle.walrus_type_arenas.specs.Table.{clear_all}
use Rattle.walrus_type_arenas.proofs.delete.clear_each.Given as goal

abbrev pub invariant-loop-id : goal.invariant-loop-id
invariant-loop-id l = record {
  types : map (option_map item_of) l.types.slots ≡ clear_all (take l.id-index l.ids) (map (option_map item_of) l.fn.types.slots);
  held : IsHeld None l.index (kinds_in l.types.slots);
}
