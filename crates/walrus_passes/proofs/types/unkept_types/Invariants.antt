use Rattle.std.proofs.Common.{◌≡◌, ◌<◌, ℕ, Contains, length}
use Rattle.std.specs.Prelude.{◌↔◌}
use Rattle.wasm_formats.specs.declared.fault.Space.TheVariants as spaces
use Rattle.walrus_roots.specs.Items.{item}
use Rattle.walrus_types.specs.Table.{marked}
use Rattle.walrus_passes.specs.Keeping.{IsHeld}
use Rattle.walrus_passes.proofs.types.unkept_types.Given as goal

abbrev pub invariant-loop-index : goal.invariant-loop-index
invariant-loop-index l = record {
  sized : length l.marks.items ≡ l.index;
  listed : (id : ℕ) → Contains (marked l.marks.items) id ↔ ((id < l.index) × (IsHeld l.kept (item spaces.Type id) → ⊥));
}
