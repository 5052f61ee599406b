use Rattle.std.proofs.Common.{◌≡◌, length}
use Rattle.std.specs.Fn.{CalledAtMut}
use Rattle.wasm_types.specs.Remap.{VisitsSub}
use Rattle.wasm_composite_types.proofs.Visits.{Visited}
use Rattle.wasm_types.proofs.remap.remap_types.Given as goal

abbrev pub invariant-loop-i : goal.invariant-loop-i
invariant-loop-i g l =
    Visited (CalledAtMut g.F.FnMut) (VisitsSub (CalledAtMut g.F.FnMut)) l.fn.map l.fn.types.items l.map l.types.items l.i
    × (length l.types.items ≡ l.i-end)
    × goal.F-IsAlwaysCallable g l.map
