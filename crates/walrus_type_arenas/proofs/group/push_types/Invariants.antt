use Rattle.std.proofs.Common.{◌≡◌, ◌+◌, ◌≤◌, ◌++◌, map, length, Some, None, vec_len, vec_capacity}
use Rattle.std.specs.Vec.Iter.{into_iter_items}
use Rattle.walrus_type_index.specs.Places.{kinds_in}
use Rattle.walrus_type_index.specs.Ordered.{IsHeld}
use Rattle.walrus_type_arenas.proofs.group.push_types.Given as goal

abbrev pub invariant-loop-ty : goal.invariant-loop-ty
invariant-loop-ty l = record {
  room : length (into_iter_items l.ty-iterator) ≤ l.types.room;
  fits : vec_len l.homes + length (into_iter_items l.ty-iterator) ≤ vec_capacity l.homes;
  types : l.types.slots ++ map (λ one. Some one) (into_iter_items l.ty-iterator) ≡ l.fn.types.slots ++ map (λ one. Some one) l.fn.new.items;
  homes : l.homes.items ++ map (λ _. l.home) (into_iter_items l.ty-iterator) ≡ l.fn.homes.items ++ map (λ _. l.home) l.fn.new.items;
  index : length l.types.slots + length (into_iter_items l.ty-iterator) ≤ l.index.room;
  held : IsHeld None l.index (kinds_in l.types.slots);
}
