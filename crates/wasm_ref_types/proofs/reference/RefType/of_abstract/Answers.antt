use Rattle.std.proofs.Common.{◌∙◌, ap}
use Rattle.wasm_ref_types.specs.declared.heap.HeapType.{HeapType}
use Rattle.wasm_ref_types.specs.Reference.{reference}
use Rattle.wasm_ref_types.proofs.Bits.{heap_of-shared, heap_of-unshared}
use Rattle.wasm_ref_types.proofs.reference.RefType.of_abstract.Goals.{then-shared, else-shared}
use Rattle.wasm_ref_types.proofs.reference.RefType.of_abstract.Goals as goal

pub returns : goal.returns
returns c = c.of_form.ensures ∙ rw c.rank.ensures.rank (elim c.if-shared.branch [
  | then-shared w ↦ rw (w.kind-is, w.if-shared.true) (ap (λ (h : HeapType). reference c.args.nullable h) (heap_of-shared c.args.ty))
  | else-shared w ↦ rw (w.kind-is, w.if-shared.false) (ap (λ (h : HeapType). reference c.args.nullable h) (heap_of-unshared c.args.ty))
])
