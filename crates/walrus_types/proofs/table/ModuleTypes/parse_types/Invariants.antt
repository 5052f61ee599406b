use Rattle.std.proofs.Common.{◌≡◌, map, take, drop, length}
use Rattle.walrus_type_arenas.specs.walrus_type_index.walrus_items.walrus_forms.Records.{type_group}
use Rattle.walrus_types.specs.Parsing.{parsed, unparsed, AreBelow}
use Rattle.walrus_types.proofs.table.ModuleTypes.parse_types.Given as goal

abbrev pub invariant-loop-group : goal.invariant-loop-group
invariant-loop-group l = record {
  ids : l.ids.items ≡ (parsed (map type_group (take l.group-index l.groups)) (unparsed l.fn.self)).ids;
  table : l.self ≡ (parsed (map type_group (take l.group-index l.groups)) (unparsed l.fn.self)).table;
  below : AreBelow (length l.ids.items) (map type_group (drop l.group-index l.groups));
}
