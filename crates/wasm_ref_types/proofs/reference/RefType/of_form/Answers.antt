use Rattle.std.proofs.Common.{◌∙◌, ap, arith}
use Rattle.wasm_ref_types.specs.declared.heap.HeapType.{HeapType}
use Rattle.wasm_ref_types.specs.Reference.{reference}
use Rattle.wasm_ref_types.proofs.Bits.{heap_of-parts}
use Rattle.wasm_ref_types.proofs.reference.RefType.of_form.Goals as goal
use Rattle.std.proofs.Common.{refl}

pub returns : goal.returns
returns c =
    c.of_heap.ensures
    ∙ ap (λ (h : HeapType). reference c.args.nullable h) (heap_of-parts c.args.form c.args.rest _ (omega (arith, c.requires.kind)) refl)
