use Rattle.std.proofs.Common.{map, length}
use Rattle.walrus_type_arenas.specs.walrus_type_index.walrus_items.walrus_forms.Records.{type_group}
use Rattle.walrus_types.specs.Parsing.{AreBelow}
use Rattle.walrus_types.proofs.ParseLemmas.{IsParsedTo}
use Rattle.walrus_types.proofs.table.ModuleTypes.parse_own_types.Given as goal

abbrev pub invariant-loop-group : goal.invariant-loop-group
invariant-loop-group l = record {
  read : IsParsedTo (map type_group l.fn.groups.items) (map type_group l.left.items) l.fn.self (record { ids = l.ids.items; table = l.self });
  below : AreBelow (length l.ids.items) (map type_group l.left.items);
}

abbrev pub decreases-loop-group : goal.decreases-loop-group
decreases-loop-group l = length l.left.items
