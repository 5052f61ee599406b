use Rattle.std.proofs.Common.{◌≡◌, ◌+◌, ◌++◌, map, length, Some}
use Rattle.std.specs.Vec.Iter.{into_iter_items}
use Rattle.walrus_type_arenas.specs.Groups.{new_items, member_kind}
use Rattle.walrus_type_index.specs.walrus_items.Items.{item_of}
use Rattle.walrus_type_arenas.proofs.group.types_of.Given as goal

abbrev pub invariant-loop-member : goal.invariant-loop-member
invariant-loop-member l = record {
  counted : l.next + length (into_iter_items l.member-iterator) ≡ l.fn.first + length l.fn.members.items;
  made : map (λ new. Some (item_of new)) l.types.items ++ new_items l.next (map member_kind (into_iter_items l.member-iterator)) ≡ new_items l.fn.first (map member_kind l.fn.members.items);
}
