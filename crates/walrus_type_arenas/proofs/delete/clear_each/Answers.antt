use Rattle.std.proofs.Common.{◌∙◌, None, map, ap}
use Rattle.std.specs.Option.{option_map}
use Rattle.std.proofs.lemmas.List.{map-set}
use Rattle.walrus_type_index.specs.walrus_items.Items.{item_of}
use Rattle.walrus_type_arenas.proofs.DeleteLemmas.{clear_all-more}
use Rattle.walrus_type_arenas.proofs.delete.clear_each.Goals as goal

pub loop-id-preserved : goal.loop-id-preserved
loop-id-preserved c = record {
  types =
      ap (map (option_map item_of)) c.clear.ensures.types
      ∙ map-set (option_map item_of) c.loop-id.types.slots c.id-item.result None
      ∙ clear_all-more c.args.ids.now c.loop-id.id-index c.id-item.result (map (option_map item_of) c.args.types.now.slots) (map (option_map item_of) c.loop-id.types.slots)
      c.loop-id-test.true c.id-item.is c.loop-id.invariant.types;
  held = c.clear.ensures.held;
}
