use Rattle.std.proofs.Common.{◌∙◌, ap, false}
use Rattle.std.specs.Int.Bits.{and_mask}
use Rattle.wasm_ref_types.specs.declared.heap.HeapType.{HeapType}
use Rattle.wasm_ref_types.specs.Reference.{Reference, reference}
use Rattle.wasm_ref_types.proofs.Bits.{heap_of-below}
use Rattle.wasm_ref_types.proofs.reference.RefType.as_non_null.Goals as goal

pub returns : goal.returns
returns c =
    c.of_heap.ensures ∙ ap (λ (h : HeapType). reference false h) (heap_of-below c.self.inside.bits _ (and_mask c.self.inside.bits 24))
    ∙ ap (λ (r : Reference). reference false r.heap_type) c.self.view_is
