use Rattle.std.proofs.Common.{◌≡◌, ◌++◌, map, filter}
use Rattle.wasm_formats.specs.declared.fault.Space.TheVariants as spaces
use Rattle.walrus_roots.specs.Items.{item}
use Rattle.walrus_types.specs.Items.{Item}
use Rattle.walrus_emit.specs.Listed.{is_written, types_in}
use Rattle.walrus_emit.proofs.checks.list_types.Given as goal

abbrev pub invariant-loop-ty : goal.invariant-loop-ty
invariant-loop-ty l = record {
  can : (goal.iterator-loop-ty).can_next l.ty-iterator;
  ends : (goal.iterator-loop-ty).is_finite l.ty-iterator;
  moved : l.listed.items ++ map (λ (ty : Item). item spaces.Type ty.id) (filter is_written l.ty-iterator) ≡ l.fn.listed.items ++ types_in l.types;
}
