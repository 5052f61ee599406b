use Rattle.wasm_ref_types.proofs.Bits.{reference_of-null, reference_of-non_null}
use Rattle.wasm_ref_types.proofs.reference.RefType.of_heap.Goals.{then-nullable, else-nullable}
use Rattle.wasm_ref_types.proofs.reference.RefType.of_heap.Goals as goal

pub returns : goal.returns
returns c = elim c.if-nullable.branch [
  | then-nullable w ↦ rw (w.null-is, w.if-nullable.true) (reference_of-null c.args.heap_bits c.requires.below)
  | else-nullable w ↦ rw (w.null-is, w.if-nullable.false) (reference_of-non_null c.args.heap_bits c.requires.below)
]
