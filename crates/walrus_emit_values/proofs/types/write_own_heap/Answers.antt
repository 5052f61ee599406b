use Rattle.std.proofs.Common.{subst}
use Rattle.wasm_ref_types.specs.declared.heap.HeapType.{HeapType}
use Rattle.walrus_index_maps.specs.Views.{indices}
use Rattle.walrus_emit_parts.specs.Due.{Writes}
use Rattle.walrus_emit_due.specs.Values.{heap}
use Rattle.walrus_emit_values.proofs.Heaps.{heap_same}
use Rattle.walrus_emit_values.proofs.types.write_own_heap.Goals as goal

pub returns : goal.returns
returns c =
    subst (λ (h : HeapType). Writes (heap (indices c.args.maps.now).types.number h) c.args.out.now.items c.write_heap.new.out.items c.write_heap.result) (heap_same c.args.ty) c.write_heap.ensures
