use Rattle.std.proofs.Common.{◌∙◌, ap, sym}
use Rattle.wasm_ref_types.specs.declared.heap.AbstractHeapType.{AbstractHeapType}
use Rattle.wasm_ref_types.proofs.Below.{has, sound, complete}
use Rattle.wasm_ref_types.proofs.heap.AbstractHeapType.is_subtype_of.Goals as goal
use Rattle.std.proofs.Common.{List}

pub returns : goal.returns
returns c =
    let is = c.contains.ensures.value ∙ ap (λ (types : List AbstractHeapType). has types c.args.other) c.supertypes.ensures in
    (λ h. sound c.args.self.now c.args.other (sym is ∙ h), λ h. is ∙ complete c.args.self.now c.args.other h)
