use Rattle.std.proofs.Common.{◌≡◌, ◌++◌, ℕ, map, filter}
use Rattle.std.specs.List.{list_any}
use Rattle.walrus_type_index.specs.walrus_items.declared.subtype.RecGroup.{RecGroup}
use Rattle.walrus_type_index.specs.walrus_items.Items.{group_of}
use Rattle.walrus_type_arenas.specs.Table.{table_of}
use Rattle.walrus_type_arenas.specs.Emission.{is_written, written_groups}
use Rattle.walrus_type_arenas.proofs.emit.groups_of.Given as goal

abbrev pub invariant-loop-group : goal.invariant-loop-group
invariant-loop-group l = record {
  can : (goal.iterator-loop-group).can_next l.group-iterator;
  ends : (goal.iterator-loop-group).is_finite l.group-iterator;
  whole : map (λ g. group_of g.now) l.found.items ++ filter (λ group. list_any (is_written (table_of l.types.slots l.groups.slots)) group.types) (map (λ (e : ℕ × RecGroup). group_of e.1) l.group-iterator)
      ≡ written_groups (table_of l.types.slots l.groups.slots);
}
