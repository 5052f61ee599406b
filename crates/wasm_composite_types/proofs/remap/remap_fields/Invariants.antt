use Rattle.std.proofs.Common.{◌≡◌, length}
use Rattle.std.specs.Fn.{CalledAtMut}
use Rattle.wasm_composite_types.specs.Remap.{VisitsField}
use Rattle.wasm_composite_types.proofs.Visits.{Visited}
use Rattle.wasm_composite_types.proofs.remap.remap_fields.Given as goal

abbrev pub invariant-loop-i : goal.invariant-loop-i
invariant-loop-i g l =
    Visited (CalledAtMut g.F.FnMut) (VisitsField (CalledAtMut g.F.FnMut)) l.fn.map l.fn.fields l.map l.fields l.i
    × (length l.fields ≡ l.i-end)
    × goal.F-IsAlwaysCallable g l.map
