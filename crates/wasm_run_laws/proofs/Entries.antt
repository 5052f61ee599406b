-- What stands in traces, renamed.
use Rattle.std.proofs.Common.{ℕ, ◌≡◌, List, [], ◌∷◌, map, refl, sym, ap, ◌∙◌}
use Rattle.std.specs.List.{AllByRecursion}
use Rattle.wasm_ref_types.specs.declared.heap.HeapType.{HeapType}
use Rattle.wasm_ref_types.specs.declared.heap.HeapType.TheVariants.{Abstract, Concrete, Exact}
use Rattle.wasm_ref_types.specs.declared.index.UnpackedIndex.{UnpackedIndex}
use Rattle.wasm_ref_types.specs.declared.index.UnpackedIndex.TheVariants.{Module, RecGroup, Id}
use Rattle.wasm_ref_types.specs.declared.value.ValType.{ValType}
use Rattle.wasm_ref_types.specs.declared.value.ValType.TheVariants.{I32, I64, F32, F64, V128, Ref}
use Rattle.wasm_ref_types.specs.Reference.{reference}
use Rattle.wasm_operators.specs.declared.block_type.BlockType.{BlockType}
use Rattle.wasm_operators.specs.declared.block_type.BlockType.TheVariants as blocks
use Rattle.wasm_operators.specs.declared.clause.Clause.{Clause}
use Rattle.wasm_operators.specs.declared.clause.Clause.TheVariants as handlers
use Rattle.wasm_operators.specs.Items.{Types, Functions, Tables, Memories, Tags, Globals, ElementSegments, DataSegments, Locals, Labels, Item, Names, Number, S32, S64, Bits, Byte, Bytes, Heap, Block, Access, ManyLabels, ManyValues, ManyClauses}
use Rattle.wasm_operators.specs.Operators.{Seen}
use Rattle.wasm_operators.specs.Names.{Renaming, renamed_index, renamed_heap, renamed_value, renamed_block, renamed_clause, renamed_item, renamed_operator}
use Rattle.wasm_normal_form.specs.Roles.{Placed}
use Rattle.wasm_normal_form.specs.Normal.{with_pick, picked}
use Rattle.wasm_normal_form.specs.Bodies.{renamed_local, with_locals}
use Rattle.wasm_runs.specs.Programs.{Signature, Shown, Typed, shown, executed, operators}
use Rattle.wasm_runs.specs.Renamed.{renamed_signature, renamed_shown, renamed_executed}
use Rattle.wasm_run_laws.specs.Stands.{renamed_code, KeepsSignatures, IsTypedSo, AreTypedSo, PicksKeep}
use Rattle.wasm_run_laws.specs.Laws.{local_numbers}
use Rattle.wasm_run_laws.proofs.Images.{each_is}

module _ (r : Renaming) (s : BlockType → Signature) where
  shown_renamed : (t : BlockType → Signature) (x : Item) → IsTypedSo r s t x → shown t (renamed_item r x) ≡ renamed_shown r (shown s x)
  shown_renamed t (Block ty) h = ap Typed h
  shown_renamed t _ h = refl

  items_renamed : (t : BlockType → Signature) (xs : List Item) → AllByRecursion (IsTypedSo r s t) xs → map (shown t) (map (renamed_item r) xs) ≡ map (renamed_shown r) (map (shown s) xs)
  items_renamed t [] h = refl
  items_renamed t (x ∷ xs) h =
      ap (λ (y : Shown). y ∷ map (shown t) (map (renamed_item r) xs)) (shown_renamed t x h.0) ∙ ap (λ (ys : List Shown). renamed_shown r (shown s x) ∷ ys) (items_renamed t xs h.1)

  -- a renamed operator is executed as the operator, renamed
  pub executed_renamed : (t : BlockType → Signature) (o : Seen) → AreTypedSo r s t o → executed t (renamed_operator r o) ≡ renamed_executed r (executed s o)
  executed_renamed t o h = ap (λ (xs : List Shown). record { code = o.code; items = xs }) (items_renamed t o.items h)

  module _ (pick : BlockType → BlockType) (keeps : PicksKeep r pick s) where
    shown_picked : (x : Item) → renamed_shown r (shown s (with_pick pick x)) ≡ renamed_shown r (shown s x)
    shown_picked (Block ty) = ap Typed (keeps ty)
    shown_picked _ = refl

    items_picked : (xs : List Item) → map (renamed_shown r) (map (shown s) (map (with_pick pick) xs)) ≡ map (renamed_shown r) (map (shown s) xs)
    items_picked [] = refl
    items_picked (x ∷ xs) =
        ap (λ (y : Shown). y ∷ map (renamed_shown r) (map (shown s) (map (with_pick pick) xs))) (shown_picked x) ∙ ap (λ (ys : List Shown). renamed_shown r (shown s x) ∷ ys) (items_picked xs)

    -- one with a pick is executed as it is without
    pub executed_picked : (o : Seen) → renamed_executed r (executed s (picked pick o)) ≡ renamed_executed r (executed s o)
    executed_picked o = ap (λ (xs : List Shown). record { code = o.code; items = xs }) (items_picked o.items)

-- a pick that has the same parameters and results is executed as what it is picked for
module _ (s : BlockType → Signature) (pick : BlockType → BlockType) (keeps : KeepsSignatures pick s) where
  shown_with_pick : (x : Item) → shown s (with_pick pick x) ≡ shown s x
  shown_with_pick (Block ty) = ap Typed (keeps ty)
  shown_with_pick _ = refl

  items_with_pick : (xs : List Item) → map (shown s) (map (with_pick pick) xs) ≡ map (shown s) xs
  items_with_pick [] = refl
  items_with_pick (x ∷ xs) = ap (λ (y : Shown). y ∷ map (shown s) (map (with_pick pick) xs)) (shown_with_pick x) ∙ ap (λ (ys : List Shown). shown s x ∷ ys) (items_with_pick xs)

  pub executed_with_pick : (o : Seen) → executed s (picked pick o) ≡ executed s o
  executed_with_pick o = ap (λ (xs : List Shown). record { code = o.code; items = xs }) (items_with_pick o.items)

-- ---- new numbers of locals alone

module _ (number : ℕ → ℕ) where
  abbrev r : Renaming
  r = local_numbers number

  index_is : (index : UnpackedIndex) → renamed_index r index ≡ index
  index_is (Module n) = refl
  index_is (RecGroup n) = refl
  index_is (Id id) = refl

  heap_is : (ty : HeapType) → renamed_heap r ty ≡ ty
  heap_is (Abstract shared ty) = refl
  heap_is (Concrete index) = ap Concrete (index_is index)
  heap_is (Exact index) = ap Exact (index_is index)

  value_is : (ty : ValType) → renamed_value r ty ≡ ty
  value_is I32 = refl
  value_is I64 = refl
  value_is F32 = refl
  value_is F64 = refl
  value_is V128 = refl
  value_is (Ref ty) = ap (λ (h : HeapType). Ref (reference ty.nullable h)) (heap_is ty.heap_type)

  block_is : (ty : BlockType) → renamed_block r ty ≡ ty
  block_is blocks.Empty = refl
  block_is (blocks.Value ty) = ap blocks.Value (value_is ty)
  block_is (blocks.Type n) = refl

  clause_is : (c : Clause) → renamed_clause r c ≡ c
  clause_is (handlers.Catch tag label) = refl
  clause_is (handlers.CatchRef tag label) = refl
  clause_is (handlers.CatchAll label) = refl
  clause_is (handlers.CatchAllRef label) = refl

  item_is : (x : Item) → renamed_local number x ≡ renamed_item r x
  item_is (Names Locals n) = refl
  item_is (Names Types n) = refl
  item_is (Names Functions n) = refl
  item_is (Names Tables n) = refl
  item_is (Names Memories n) = refl
  item_is (Names Tags n) = refl
  item_is (Names Globals n) = refl
  item_is (Names ElementSegments n) = refl
  item_is (Names DataSegments n) = refl
  item_is (Names Labels n) = refl
  item_is (Number n) = refl
  item_is (S32 z) = refl
  item_is (S64 z) = refl
  item_is (Bits size n) = refl
  item_is (Byte b) = refl
  item_is (Bytes run) = refl
  item_is (Heap ty) = ap Heap (sym (heap_is ty))
  item_is (Block ty) = ap Block (sym (block_is ty))
  item_is (Access a) = refl
  item_is (ManyLabels ns) = ap ManyLabels (sym (each_is (r Labels) (λ n. refl) ns))
  item_is (ManyValues tys) = ap ManyValues (sym (each_is (renamed_value r) value_is tys))
  item_is (ManyClauses cs) = ap ManyClauses (sym (each_is (renamed_clause r) clause_is cs))

  items_are : (xs : List Item) → map (renamed_local number) xs ≡ map (renamed_item r) xs
  items_are [] = refl
  items_are (x ∷ xs) = ap (λ (y : Item). y ∷ map (renamed_local number) xs) (item_is x) ∙ ap (λ (ys : List Item). renamed_item r x ∷ ys) (items_are xs)

  -- the two notions of new numbers are one
  pub locals_renamed : (ops : List Placed) → operators (map (with_locals number) ops) ≡ renamed_code r (operators ops)
  locals_renamed [] = refl
  locals_renamed (o ∷ ops) =
      ap (λ (xs : List Item). (let op : Seen = record { code = o.op.code; items = xs } in op) ∷ operators (map (with_locals number) ops)) (items_are o.op.items)
      ∙ ap (λ (ys : List Seen). renamed_operator r o.op ∷ ys) (locals_renamed ops)

  signature_is : (s : Signature) → renamed_signature r s ≡ s
  signature_is s =
      ap (λ (ps : List ValType). record { params = ps; results = map (renamed_value r) s.results }) (each_is (renamed_value r) value_is s.params)
      ∙ ap (λ (rs : List ValType). record { params = s.params; results = rs }) (each_is (renamed_value r) value_is s.results)

  typed_so : (s : BlockType → Signature) (x : Item) → IsTypedSo r s s x
  typed_so s (Block ty) = ap s (block_is ty) ∙ sym (signature_is (s ty))
  typed_so s _ = tt

  pub typed_all_so : (s : BlockType → Signature) (xs : List Item) → AllByRecursion (IsTypedSo r s s) xs
  typed_all_so s [] = tt
  typed_all_so s (x ∷ xs) = (typed_so s x, typed_all_so s xs)

  pub ops_typed_so : (s : BlockType → Signature) (ops : List Seen) → AllByRecursion (AreTypedSo r s s) ops
  ops_typed_so s [] = tt
  ops_typed_so s (o ∷ ops) = (typed_all_so s o.items, ops_typed_so s ops)
