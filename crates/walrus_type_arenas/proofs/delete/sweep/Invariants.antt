use Rattle.std.proofs.Common.{◌≡◌, map}
use Rattle.std.specs.Option.{option_map, option_and_then}
use Rattle.walrus_type_index.specs.walrus_items.Items.{group_of}
use Rattle.walrus_type_arenas.specs.Table.{without_marked}
use Rattle.walrus_type_arenas.proofs.SweepLemmas.{swept_to}
use Rattle.walrus_type_arenas.proofs.delete.sweep.Given as goal

abbrev pub invariant-loop-index : goal.invariant-loop-index
invariant-loop-index l = map (option_map group_of) l.groups.slots ≡ swept_to (option_and_then (without_marked l.marks)) l.index (map (option_map group_of) l.fn.groups.slots)
