-- Lemmas: the types that are written are the shortest ones.
use Rattle.std.specs.Prelude.{ℕ, ◌<◌, ◌≤◌, ◌≡◌, ◌⊎◌, Bool, true, false, pos, List, [], ◌∷◌, length, All, refl}
use Rattle.std.proofs.Common.{ap, sym, ◌∙◌, subst, arith, inl, inr}
use Rattle.std.proofs.lemmas.List.Elements.{All-tail}
use Rattle.wasm_composite_types.specs.wasm_features.declared.WasmFeatures.{WasmFeatures}
use Rattle.wasm_composite_types.specs.wasm_ref_types.declared.heap.AbstractHeapType.{AbstractHeapType}
use Rattle.wasm_composite_types.specs.wasm_ref_types.declared.heap.AbstractHeapType.TheVariants as kinds
use Rattle.wasm_composite_types.specs.wasm_ref_types.declared.heap.HeapType.{HeapType}
use Rattle.wasm_composite_types.specs.wasm_ref_types.declared.heap.HeapType.TheVariants.{Abstract, Concrete, Exact}
use Rattle.wasm_composite_types.specs.wasm_ref_types.declared.index.UnpackedIndex.TheVariants.{Module, RecGroup, Id}
use Rattle.wasm_composite_types.specs.wasm_ref_types.declared.value.ValType.{ValType}
use Rattle.wasm_composite_types.specs.wasm_ref_types.declared.value.ValType.TheVariants.{I32, I64, F32, F64, V128, Ref}
use Rattle.wasm_composite_types.specs.wasm_ref_types.Reference.{Reference, reference}
use Rattle.wasm_composite_types.specs.wasm_ref_types.TypeSpellings.{SpellsAbstract, SpellsHeap, SpellsReference, SpellsValue, long_byte}
use Rattle.wasm_operators.specs.declared.block_type.BlockType.{BlockType}
use Rattle.wasm_operators.specs.declared.block_type.BlockType.TheVariants as blocks
use Rattle.wasm_operators.specs.ItemSpellings.{SpellsBlock}
use Rattle.wasm_operators.specs.Bytes.{abstract_code, heap_bytes, reference_parts, reference_bytes, value_bytes, block_bytes}
use Rattle.wasm_operators.specs.Laws.{WritesShortest}
use Rattle.wasm_operators.specs.Numbers.{same_short, s33_short}

module _ (features : WasmFeatures) where
  abstract_is : (bytes : List ℕ) (ty : AbstractHeapType) → SpellsAbstract features bytes ty → bytes ≡ abstract_code ty ∷ []
  abstract_is bytes kinds.Func h = h
  abstract_is bytes kinds.Extern h = h
  abstract_is bytes kinds.Any h = h.0
  abstract_is bytes kinds.None h = h.0
  abstract_is bytes kinds.NoExtern h = h.0
  abstract_is bytes kinds.NoFunc h = h.0
  abstract_is bytes kinds.Eq h = h.0
  abstract_is bytes kinds.Struct h = h.0
  abstract_is bytes kinds.Array h = h.0
  abstract_is bytes kinds.I31 h = h.0
  abstract_is bytes kinds.Exn h = h
  abstract_is bytes kinds.NoExn h = h.0
  abstract_is bytes kinds.Cont h = absurd h
  abstract_is bytes kinds.NoCont h = absurd h

  pub heap_short : WritesShortest (SpellsHeap features) heap_bytes
  heap_short bytes (Abstract false ty) small h = same_short (SpellsHeap features) (Abstract false ty) bytes (heap_bytes (Abstract false ty)) (abstract_is bytes ty h) h
  heap_short bytes (Abstract true ty) small h =
      let inner = h.1 in
      same_short (SpellsHeap features) (Abstract true ty) bytes (heap_bytes (Abstract true ty)) (inner.1 ∙ ap (λ (l : List ℕ). 0x65 ∷ l) (abstract_is inner.0 ty inner.2)) h
  heap_short bytes (Concrete (Module n)) small h = let s = s33_short bytes (pos n) small h.1 in ((h.0, s.0), s.1)
  heap_short bytes (Concrete (RecGroup n)) small h = absurd h
  heap_short bytes (Concrete (Id id)) small h = absurd h
  heap_short bytes (Exact index) small h = absurd h

  -- behind its first byte
  long_short : (nullable : Bool) (ty : HeapType) (bytes inner : List ℕ) → All (λ b. b < 256) bytes → bytes ≡ long_byte nullable ∷ inner → SpellsHeap features inner ty
      → SpellsHeap features (heap_bytes ty) ty × (length (long_byte nullable ∷ heap_bytes ty) ≤ length bytes)
  long_short nullable ty bytes inner small e h =
      let all : All (λ b. b < 256) (long_byte nullable ∷ inner) = subst (λ (l : List ℕ). All (λ b. b < 256) l) e small in
      let s = heap_short inner ty (All-tail (λ b. b < 256) (long_byte nullable) inner all) h in
      let size : length bytes ≡ length (long_byte nullable ∷ inner) = ap (λ (l : List ℕ). length l) e in
      (s.0, omega (arith, size, s.1))

  parts_short : (nullable : Bool) (ty : HeapType) (bytes : List ℕ) → All (λ b. b < 256) bytes → SpellsReference features bytes (reference nullable ty)
      → SpellsReference features (reference_parts nullable ty) (reference nullable ty) × (length (reference_parts nullable ty) ≤ length bytes)
  parts_short true (Abstract shared ty) bytes small (inl h) =
      let behind = h.1 in
      let s = long_short true (Abstract shared ty) bytes behind.0 small behind.1 behind.2 in
      (inr (refl, tt, s.0), omega (arith, s.1))
  parts_short true (Abstract shared ty) bytes small (inr h) = let s = heap_short bytes (Abstract shared ty) small h.2 in (inr (refl, tt, s.0), s.1)
  parts_short true (Concrete index) bytes small (inl h) =
      let behind = h.1 in
      let s = long_short true (Concrete index) bytes behind.0 small behind.1 behind.2 in
      (inl (h.0, (heap_bytes (Concrete index), refl, s.0)), s.1)
  parts_short true (Concrete index) bytes small (inr h) = absurd h.1
  parts_short true (Exact index) bytes small (inl h) = let behind = h.1 in absurd behind.2
  parts_short true (Exact index) bytes small (inr h) = absurd h.1
  parts_short false ty bytes small (inl h) =
      let behind = h.1 in
      let s = long_short false ty bytes behind.0 small behind.1 behind.2 in
      (inl (h.0, (heap_bytes ty, refl, s.0)), s.1)
  parts_short false ty bytes small (inr h) = let no : false ≡ true = h.0 in absurd cc

  pub value_short : WritesShortest (SpellsValue features) value_bytes
  value_short bytes I32 small h = same_short (SpellsValue features) I32 bytes (value_bytes I32) h h
  value_short bytes I64 small h = same_short (SpellsValue features) I64 bytes (value_bytes I64) h h
  value_short bytes F32 small h = same_short (SpellsValue features) F32 bytes (value_bytes F32) h h
  value_short bytes F64 small h = same_short (SpellsValue features) F64 bytes (value_bytes F64) h h
  value_short bytes V128 small h = same_short (SpellsValue features) V128 bytes (value_bytes V128) h h
  value_short bytes (Ref r) small h = parts_short r.nullable r.heap_type bytes small h

  pub block_short : WritesShortest (SpellsBlock features) block_bytes
  block_short bytes blocks.Empty small h = same_short (SpellsBlock features) blocks.Empty bytes (block_bytes blocks.Empty) h h
  block_short bytes (blocks.Value ty) small h = value_short bytes ty small h
  block_short bytes (blocks.Type n) small h = let s = s33_short bytes (pos n) small h.1 in ((h.0, s.0), s.1)
