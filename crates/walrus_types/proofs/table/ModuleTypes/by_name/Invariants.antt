use Rattle.std.proofs.Common.{◌≡◌, ℕ, map, find}
use Rattle.walrus_type_arenas.specs.walrus_type_index.walrus_items.declared.subtype.Type.{«Type» as TypeItem}
use Rattle.walrus_type_arenas.specs.walrus_type_index.walrus_items.Items.{Item, item_of, has_name}
use Rattle.walrus_type_arenas.specs.Table.{entries}
use Rattle.walrus_types.proofs.table.ModuleTypes.by_name.Given as goal

abbrev pub invariant-loop-id : goal.invariant-loop-id
invariant-loop-id l = record {
  can : (goal.iterator-loop-id).can_next l.id-iterator;
  ends : (goal.iterator-loop-id).is_finite l.id-iterator;
  first : find (λ (e : ℕ × Item). has_name l.name e.1) (map (λ (e : ℕ × TypeItem). (e.0, item_of e.1)) l.id-iterator)
      ≡ find (λ (e : ℕ × Item). has_name l.name e.1) (entries l.self);
}
