use Rattle.std.proofs.Common.{◌≡◌, map, take}
use Rattle.walrus_type_arenas.specs.walrus_type_index.walrus_items.walrus_forms.Records.{type_group}
use Rattle.walrus_types.proofs.emit.EmittedTypes.clone.Given as goal

abbrev pub invariant-loop-group : goal.invariant-loop-group
invariant-loop-group l = map type_group l.groups.items ≡ map type_group (take l.group-index l.self.groups.items)
