use Rattle.std.proofs.Common.{◌≡◌, ◌+◌, length}
use Rattle.walrus_item_names.specs.walrus_module.walrus_types.Table.{entries}
use Rattle.walrus_named_bodies.proofs.code.count_types.Given as goal

abbrev pub invariant-loop-ty : goal.invariant-loop-ty
invariant-loop-ty l = record {
  can : (goal.iterator-loop-ty).can_next l._ty-iterator;
  ends : (goal.iterator-loop-ty).is_finite l._ty-iterator;
  counted : l.count + length l._ty-iterator ≡ length (entries l.types);
}
