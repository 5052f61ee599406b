use Rattle.std.proofs.Common.{◌≡◌, [], map, take}
use Rattle.std.specs.Option.{option_map}
use Rattle.walrus_type_index.specs.walrus_items.Items.{kind_of, group_of}
use Rattle.walrus_type_arenas.specs.Table.{table_of}
use Rattle.walrus_type_arenas.specs.Emission.{key_of}
use Rattle.walrus_type_arenas.specs.Ranks.{ranked}
use Rattle.walrus_type_arenas.proofs.emit.keys_of.Given as goal

abbrev pub invariant-loop-group : goal.invariant-loop-group
invariant-loop-group l = map (option_map (λ k. (k.0, kind_of k.1.now))) l.keys.items ≡ map (option_map ranked) (map (key_of (table_of l.types.slots [])) (map (λ g. group_of g.now) (take l.group-index l.groups)))
