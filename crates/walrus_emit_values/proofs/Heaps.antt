-- Two words for a heap type that is read are one.
use Rattle.std.specs.Prelude.{◌≡◌, true, false, refl}
use Rattle.std.proofs.Common.{ap}
use Rattle.wasm_ref_types.specs.declared.heap.AbstractHeapType.{AbstractHeapType as Written}
use Rattle.wasm_ref_types.specs.declared.heap.HeapType.TheVariants.{Abstract as WrittenAbstract}
use Rattle.walrus_forms.specs.declared.value.AbstractHeapType.{AbstractHeapType}
use Rattle.walrus_forms.specs.declared.value.AbstractHeapType.TheVariants as kinds
use Rattle.walrus_forms.specs.declared.value.HeapType.{HeapType}
use Rattle.walrus_forms.specs.declared.value.HeapType.TheVariants.{Abstract, Shared, Concrete, Exact}
use Rattle.walrus_pairing.specs.Types.{written_abstract}
use Rattle.wasm_grammar.specs.TypeWords.{abstract_from, heap_from}
use Rattle.walrus_module_items.specs.Words.{own_heap}

abstract_same : (ty : AbstractHeapType) → abstract_from ty ≡ written_abstract ty
abstract_same kinds.Func = refl
abstract_same kinds.Extern = refl
abstract_same kinds.Any = refl
abstract_same kinds.None = refl
abstract_same kinds.NoExtern = refl
abstract_same kinds.NoFunc = refl
abstract_same kinds.Eq = refl
abstract_same kinds.Struct = refl
abstract_same kinds.Array = refl
abstract_same kinds.I31 = refl
abstract_same kinds.Exn = refl
abstract_same kinds.NoExn = refl

pub heap_same : (ty : HeapType) → heap_from ty ≡ own_heap ty
heap_same (Abstract ty) = ap (λ (w : Written). WrittenAbstract false w) (abstract_same ty)
heap_same (Shared ty) = ap (λ (w : Written). WrittenAbstract true w) (abstract_same ty)
heap_same (Concrete id) = refl
heap_same (Exact id) = refl
