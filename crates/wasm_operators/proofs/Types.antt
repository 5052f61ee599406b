-- Types that stand under the features are spelled, and no others.
use Rattle.std.proofs.Common.{◌≡◌, ◌⊎◌, inl, inr, ℕ, Bool, true, false, List, [], ◌∷◌, refl, arith}
use Rattle.wasm_composite_types.specs.wasm_features.declared.WasmFeatures.{WasmFeatures}
use Rattle.wasm_composite_types.specs.wasm_ref_types.declared.heap.AbstractHeapType.{AbstractHeapType}
use Rattle.wasm_composite_types.specs.wasm_ref_types.declared.heap.AbstractHeapType.TheVariants as kinds
use Rattle.wasm_composite_types.specs.wasm_ref_types.declared.heap.HeapType.{HeapType}
use Rattle.wasm_composite_types.specs.wasm_ref_types.declared.heap.HeapType.TheVariants.{Abstract, Concrete, Exact}
use Rattle.wasm_composite_types.specs.wasm_ref_types.declared.value.ValType.{ValType}
use Rattle.wasm_composite_types.specs.wasm_ref_types.declared.value.ValType.TheVariants.{I32, I64, F32, F64, V128, Ref}
use Rattle.wasm_composite_types.specs.wasm_ref_types.declared.index.UnpackedIndex.TheVariants.{Module, RecGroup, Id}
use Rattle.wasm_composite_types.specs.wasm_ref_types.Reference.{Reference, reference}
use Rattle.wasm_composite_types.specs.wasm_ref_types.ReadTypes.{is_basic}
use Rattle.wasm_composite_types.specs.wasm_ref_types.TypeSpellings.{HasGcTypes, IsAbstract, IsWrittenAbstract, SpellsAbstract, SpellsHeap, SpellsReference, SpellsValue}
use Rattle.wasm_operators.specs.declared.block_type.BlockType.{BlockType}
use Rattle.wasm_operators.specs.declared.block_type.BlockType.TheVariants as blocks
use Rattle.wasm_operators.specs.ItemSpellings.{SpellsBlock}
use Rattle.wasm_operators.specs.Bytes.{abstract_code, heap_bytes, reference_parts, value_bytes, block_bytes}
use Rattle.wasm_operators.specs.Ranges.{HeapFits, ReferenceFits, ValueFits, BlockFits}
use Rattle.wasm_operators.specs.RangeLaws.{SpelledIfFits}
use Rattle.wasm_operators.proofs.Numbers.{index_spelled}

module _ (features : WasmFeatures) where
  abbrev Stands : AbstractHeapType → Type 0
  Stands ty = (is_basic ty ≡ true) ⊎ HasGcTypes features

  gc : (let yes : Bool = true in (false ≡ yes) ⊎ HasGcTypes features) → HasGcTypes features
  gc (inl e) = absurd cc
  gc (inr h) = h

  abstract_has : (ty : AbstractHeapType) → IsWrittenAbstract ty → Stands ty → SpellsAbstract features (abstract_code ty ∷ []) ty
  abstract_has kinds.Func w s = refl
  abstract_has kinds.Extern w s = refl
  abstract_has kinds.Any w s = (refl, gc s)
  abstract_has kinds.None w s = (refl, gc s)
  abstract_has kinds.NoExtern w s = (refl, gc s)
  abstract_has kinds.NoFunc w s = (refl, gc s)
  abstract_has kinds.Eq w s = (refl, gc s)
  abstract_has kinds.Struct w s = (refl, gc s)
  abstract_has kinds.Array w s = (refl, gc s)
  abstract_has kinds.I31 w s = (refl, gc s)
  abstract_has kinds.Exn w s = refl
  abstract_has kinds.NoExn w s = (refl, gc s)
  abstract_has kinds.Cont w s = absurd w
  abstract_has kinds.NoCont w s = absurd w

  abstract_only : (bytes : List ℕ) (ty : AbstractHeapType) → SpellsAbstract features bytes ty → IsWrittenAbstract ty × Stands ty
  abstract_only bytes kinds.Func h = (tt, inl refl)
  abstract_only bytes kinds.Extern h = (tt, inl refl)
  abstract_only bytes kinds.Any h = (tt, inr h.1)
  abstract_only bytes kinds.None h = (tt, inr h.1)
  abstract_only bytes kinds.NoExtern h = (tt, inr h.1)
  abstract_only bytes kinds.NoFunc h = (tt, inr h.1)
  abstract_only bytes kinds.Eq h = (tt, inr h.1)
  abstract_only bytes kinds.Struct h = (tt, inr h.1)
  abstract_only bytes kinds.Array h = (tt, inr h.1)
  abstract_only bytes kinds.I31 h = (tt, inr h.1)
  abstract_only bytes kinds.Exn h = (tt, inl refl)
  abstract_only bytes kinds.NoExn h = (tt, inr h.1)
  abstract_only bytes kinds.Cont h = absurd h
  abstract_only bytes kinds.NoCont h = absurd h

  heap_has : (ty : HeapType) → HeapFits features ty → SpellsHeap features (heap_bytes ty) ty
  heap_has (Abstract false ty) h = let w = h.0 in abstract_has ty w.1 h.1
  heap_has (Abstract true ty) h = let w = h.0 in (w.0 refl, (abstract_code ty ∷ [], refl, abstract_has ty w.1 h.1))
  heap_has (Concrete (Module n)) h = let small = h.0 in (small, index_spelled n (omega (arith, small)))
  heap_has (Concrete (RecGroup n)) h = absurd h.0
  heap_has (Concrete (Id id)) h = absurd h.0
  heap_has (Exact index) h = absurd h.0

  heap_only : (bytes : List ℕ) (ty : HeapType) → SpellsHeap features bytes ty → HeapFits features ty
  heap_only bytes (Abstract false ty) h = let a = abstract_only bytes ty h in (((λ e. absurd cc), a.0), a.1)
  heap_only bytes (Abstract true ty) h = let behind = h.1 in let a = abstract_only behind.0 ty behind.2 in (((λ e. h.0), a.0), a.1)
  heap_only bytes (Concrete (Module n)) h = (h.0, tt)
  heap_only bytes (Concrete (RecGroup n)) h = absurd h
  heap_only bytes (Concrete (Id id)) h = absurd h
  heap_only bytes (Exact index) h = absurd h

  pub heap_fits : SpelledIfFits (SpellsHeap features) heap_bytes (HeapFits features)
  heap_fits = record { has = heap_has; only = λ bytes ty small h. heap_only bytes ty h }

  parts_has : (nullable : Bool) (ty : HeapType) → HeapFits features ty → HasGcTypes features ⊎ ((nullable ≡ true) × IsAbstract ty)
      → SpellsReference features (reference_parts nullable ty) (reference nullable ty)
  parts_has true (Abstract shared ty) f g = inr (refl, tt, heap_has (Abstract shared ty) f)
  parts_has true (Concrete index) f (inl h) = inl (h, (heap_bytes (Concrete index), refl, heap_has (Concrete index) f))
  parts_has true (Concrete index) f (inr h) = absurd h.1
  parts_has true (Exact index) f g = absurd f.0
  parts_has false ty f (inl h) = inl (h, (heap_bytes ty, refl, heap_has ty f))
  parts_has false ty f (inr h) = let e = h.0 in absurd cc

  reference_only : (bytes : List ℕ) (r : Reference) → SpellsReference features bytes r → ReferenceFits features r
  reference_only bytes r (inl h) = let behind = h.1 in (heap_only behind.0 r.heap_type behind.2, inl h.0)
  reference_only bytes r (inr h) = (heap_only bytes r.heap_type h.2, inr (h.0, h.1))

  value_has : (ty : ValType) → ValueFits features ty → SpellsValue features (value_bytes ty) ty
  value_has I32 h = refl
  value_has I64 h = refl
  value_has F32 h = refl
  value_has F64 h = refl
  value_has V128 h = refl
  value_has (Ref r) h = parts_has r.nullable r.heap_type h.0 h.1

  value_only : (bytes : List ℕ) (ty : ValType) → SpellsValue features bytes ty → ValueFits features ty
  value_only bytes I32 h = tt
  value_only bytes I64 h = tt
  value_only bytes F32 h = tt
  value_only bytes F64 h = tt
  value_only bytes V128 h = tt
  value_only bytes (Ref r) h = reference_only bytes r h

  pub value_fits : SpelledIfFits (SpellsValue features) value_bytes (ValueFits features)
  value_fits = record { has = value_has; only = λ bytes ty small h. value_only bytes ty h }

  block_has : (ty : BlockType) → BlockFits features ty → SpellsBlock features (block_bytes ty) ty
  block_has blocks.Empty h = refl
  block_has (blocks.Value ty) h = value_has ty h
  block_has (blocks.Type n) h = (h, index_spelled n h)

  block_only : (bytes : List ℕ) (ty : BlockType) → SpellsBlock features bytes ty → BlockFits features ty
  block_only bytes blocks.Empty h = tt
  block_only bytes (blocks.Value ty) h = value_only bytes ty h
  block_only bytes (blocks.Type n) h = h.0

  pub block_fits : SpelledIfFits (SpellsBlock features) block_bytes (BlockFits features)
  block_fits = record { has = block_has; only = λ bytes ty small h. block_only bytes ty h }
