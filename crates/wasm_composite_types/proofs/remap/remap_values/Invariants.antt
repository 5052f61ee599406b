use Rattle.std.proofs.Common.{◌≡◌, length}
use Rattle.std.specs.Fn.{CalledAtMut}
use Rattle.wasm_composite_types.specs.Remap.{VisitsValue}
use Rattle.wasm_composite_types.proofs.Visits.{Visited}
use Rattle.wasm_composite_types.proofs.remap.remap_values.Given as goal

abbrev pub invariant-loop-i : goal.invariant-loop-i
invariant-loop-i g l =
    Visited (CalledAtMut g.F.FnMut) (VisitsValue (CalledAtMut g.F.FnMut)) l.fn.map l.fn.types l.map l.types l.i
    × (length l.types ≡ l.i-end)
    × goal.F-IsAlwaysCallable g l.map
