-- Lemmas: names and renamings, item by item.
use Rattle.std.specs.Prelude.{ℕ, ◌≡◌, List, [], ◌∷◌, ◌++◌, map, refl}
use Rattle.std.proofs.Common.{ap, sym, ◌∙◌}
use Rattle.std.specs.List.{flat_map}
use Rattle.wasm_composite_types.specs.wasm_ref_types.declared.heap.HeapType.{HeapType}
use Rattle.wasm_composite_types.specs.wasm_ref_types.declared.heap.HeapType.TheVariants.{Abstract, Concrete, Exact}
use Rattle.wasm_composite_types.specs.wasm_ref_types.declared.index.UnpackedIndex.{UnpackedIndex}
use Rattle.wasm_composite_types.specs.wasm_ref_types.declared.index.UnpackedIndex.TheVariants.{Module, RecGroup, Id}
use Rattle.wasm_composite_types.specs.wasm_ref_types.declared.value.ValType.{ValType}
use Rattle.wasm_composite_types.specs.wasm_ref_types.declared.value.ValType.TheVariants.{I32, I64, F32, F64, V128, Ref}
use Rattle.wasm_composite_types.specs.wasm_ref_types.Reference.{reference}
use Rattle.wasm_operators.specs.declared.block_type.BlockType.{BlockType}
use Rattle.wasm_operators.specs.declared.block_type.BlockType.TheVariants as blocks
use Rattle.wasm_operators.specs.declared.clause.Clause.{Clause}
use Rattle.wasm_operators.specs.declared.clause.Clause.TheVariants as handlers
use Rattle.wasm_operators.specs.Items.{Space, Labels, Item, Names, Number, S32, S64, Bits, Byte, Bytes, Heap, Block, Access, ManyLabels, ManyValues, ManyClauses}
use Rattle.wasm_operators.specs.Operators.{Seen}
use Rattle.wasm_operators.specs.Names.{Name, Renaming, index_names, renamed_index, heap_names, renamed_heap, value_names, renamed_value, block_names, renamed_block, clause_names, renamed_clause, label_name, item_names, renamed_item, operator_names, renamed_operator}
use Rattle.wasm_operators.specs.NameLaws.{renamed_name, same, after, NamesAreRenamed, SameIsSame, RenamesTwice}

-- ---- lists

map_append : {A B : Type 0} (f : A → B) (xs ys : List A) → map f (xs ++ ys) ≡ map f xs ++ map f ys
map_append f [] ys = refl
map_append {B} f (x ∷ xs) ys = ap (λ (l : List B). f x ∷ l) (map_append f xs ys)

-- what each names, where each is renamed
each_named : {A : Type 0} (r : Renaming) (names : A → List Name) (renamed : A → A) → ((x : A) → names (renamed x) ≡ map (renamed_name r) (names x))
    → (xs : List A) → flat_map names (map renamed xs) ≡ map (renamed_name r) (flat_map names xs)
each_named r names renamed each [] = refl
each_named r names renamed each (x ∷ xs) =
    ap (λ (l : List Name). l ++ flat_map names (map renamed xs)) (each x)
    ∙ ap (λ (l : List Name). map (renamed_name r) (names x) ++ l) (each_named r names renamed each xs)
    ∙ sym (map_append (renamed_name r) (names x) (flat_map names xs))

each_same : {A : Type 0} (renamed : A → A) → ((x : A) → renamed x ≡ x) → (xs : List A) → map renamed xs ≡ xs
each_same renamed each [] = refl
each_same {A} renamed each (x ∷ xs) = ap (λ (y : A). y ∷ map renamed xs) (each x) ∙ ap (λ (l : List A). x ∷ l) (each_same renamed each xs)

each_twice : {A : Type 0} (first second both : A → A) → ((x : A) → second (first x) ≡ both x) → (xs : List A) → map second (map first xs) ≡ map both xs
each_twice first second both each [] = refl
each_twice {A} first second both each (x ∷ xs) = ap (λ (y : A). y ∷ map second (map first xs)) (each x) ∙ ap (λ (l : List A). both x ∷ l) (each_twice first second both each xs)

-- ---- names

index_named : (r : Renaming) (index : UnpackedIndex) → index_names (renamed_index r index) ≡ map (renamed_name r) (index_names index)
index_named r (Module n) = refl
index_named r (RecGroup n) = refl
index_named r (Id id) = refl

heap_named : (r : Renaming) (ty : HeapType) → heap_names (renamed_heap r ty) ≡ map (renamed_name r) (heap_names ty)
heap_named r (Abstract shared ty) = refl
heap_named r (Concrete index) = index_named r index
heap_named r (Exact index) = index_named r index

value_named : (r : Renaming) (ty : ValType) → value_names (renamed_value r ty) ≡ map (renamed_name r) (value_names ty)
value_named r I32 = refl
value_named r I64 = refl
value_named r F32 = refl
value_named r F64 = refl
value_named r V128 = refl
value_named r (Ref ty) = heap_named r ty.heap_type

block_named : (r : Renaming) (ty : BlockType) → block_names (renamed_block r ty) ≡ map (renamed_name r) (block_names ty)
block_named r blocks.Empty = refl
block_named r (blocks.Value ty) = value_named r ty
block_named r (blocks.Type n) = refl

clause_named : (r : Renaming) (c : Clause) → clause_names (renamed_clause r c) ≡ map (renamed_name r) (clause_names c)
clause_named r (handlers.Catch tag label) = refl
clause_named r (handlers.CatchRef tag label) = refl
clause_named r (handlers.CatchAll label) = refl
clause_named r (handlers.CatchAllRef label) = refl

labels_named : (r : Renaming) (ns : List ℕ) → map label_name (map (r Labels) ns) ≡ map (renamed_name r) (map label_name ns)
labels_named r [] = refl
labels_named r (n ∷ ns) = ap (λ (l : List Name). (Labels, r Labels n) ∷ l) (labels_named r ns)

item_named : (r : Renaming) (x : Item) → item_names (renamed_item r x) ≡ map (renamed_name r) (item_names x)
item_named r (Names space n) = refl
item_named r (Number n) = refl
item_named r (S32 z) = refl
item_named r (S64 z) = refl
item_named r (Bits size n) = refl
item_named r (Byte b) = refl
item_named r (Bytes run) = refl
item_named r (Heap ty) = heap_named r ty
item_named r (Block ty) = block_named r ty
item_named r (Access a) = refl
item_named r (ManyLabels ns) = labels_named r ns
item_named r (ManyValues tys) = each_named r value_names (renamed_value r) (value_named r) tys
item_named r (ManyClauses cs) = each_named r clause_names (renamed_clause r) (clause_named r) cs

pub names_are_renamed : NamesAreRenamed
names_are_renamed r op = each_named r item_names (renamed_item r) (item_named r) op.items

-- ---- nothing renamed

index_same : (index : UnpackedIndex) → renamed_index same index ≡ index
index_same (Module n) = refl
index_same (RecGroup n) = refl
index_same (Id id) = refl

heap_same : (ty : HeapType) → renamed_heap same ty ≡ ty
heap_same (Abstract shared ty) = refl
heap_same (Concrete index) = ap Concrete (index_same index)
heap_same (Exact index) = ap Exact (index_same index)

value_same : (ty : ValType) → renamed_value same ty ≡ ty
value_same I32 = refl
value_same I64 = refl
value_same F32 = refl
value_same F64 = refl
value_same V128 = refl
value_same (Ref ty) = ap (λ (h : HeapType). Ref (reference ty.nullable h)) (heap_same ty.heap_type)

block_same : (ty : BlockType) → renamed_block same ty ≡ ty
block_same blocks.Empty = refl
block_same (blocks.Value ty) = ap blocks.Value (value_same ty)
block_same (blocks.Type n) = refl

clause_same : (c : Clause) → renamed_clause same c ≡ c
clause_same (handlers.Catch tag label) = refl
clause_same (handlers.CatchRef tag label) = refl
clause_same (handlers.CatchAll label) = refl
clause_same (handlers.CatchAllRef label) = refl

item_same : (x : Item) → renamed_item same x ≡ x
item_same (Names space n) = refl
item_same (Number n) = refl
item_same (S32 z) = refl
item_same (S64 z) = refl
item_same (Bits size n) = refl
item_same (Byte b) = refl
item_same (Bytes run) = refl
item_same (Heap ty) = ap Heap (heap_same ty)
item_same (Block ty) = ap Block (block_same ty)
item_same (Access a) = refl
item_same (ManyLabels ns) = ap ManyLabels (each_same (same Labels) (λ n. refl) ns)
item_same (ManyValues tys) = ap ManyValues (each_same (renamed_value same) value_same tys)
item_same (ManyClauses cs) = ap ManyClauses (each_same (renamed_clause same) clause_same cs)

pub same_is_same : SameIsSame
same_is_same op = ap (λ (items : List Item). record { code = op.code; items = items }) (each_same (renamed_item same) item_same op.items)

-- ---- renamed twice

module _ (r s : Renaming) where
  index_twice : (index : UnpackedIndex) → renamed_index s (renamed_index r index) ≡ renamed_index (after s r) index
  index_twice (Module n) = refl
  index_twice (RecGroup n) = refl
  index_twice (Id id) = refl

  heap_twice : (ty : HeapType) → renamed_heap s (renamed_heap r ty) ≡ renamed_heap (after s r) ty
  heap_twice (Abstract shared ty) = refl
  heap_twice (Concrete index) = ap Concrete (index_twice index)
  heap_twice (Exact index) = ap Exact (index_twice index)

  value_twice : (ty : ValType) → renamed_value s (renamed_value r ty) ≡ renamed_value (after s r) ty
  value_twice I32 = refl
  value_twice I64 = refl
  value_twice F32 = refl
  value_twice F64 = refl
  value_twice V128 = refl
  value_twice (Ref ty) = ap (λ (h : HeapType). Ref (reference ty.nullable h)) (heap_twice ty.heap_type)

  block_twice : (ty : BlockType) → renamed_block s (renamed_block r ty) ≡ renamed_block (after s r) ty
  block_twice blocks.Empty = refl
  block_twice (blocks.Value ty) = ap blocks.Value (value_twice ty)
  block_twice (blocks.Type n) = refl

  clause_twice : (c : Clause) → renamed_clause s (renamed_clause r c) ≡ renamed_clause (after s r) c
  clause_twice (handlers.Catch tag label) = refl
  clause_twice (handlers.CatchRef tag label) = refl
  clause_twice (handlers.CatchAll label) = refl
  clause_twice (handlers.CatchAllRef label) = refl

  item_twice : (x : Item) → renamed_item s (renamed_item r x) ≡ renamed_item (after s r) x
  item_twice (Names space n) = refl
  item_twice (Number n) = refl
  item_twice (S32 z) = refl
  item_twice (S64 z) = refl
  item_twice (Bits size n) = refl
  item_twice (Byte b) = refl
  item_twice (Bytes run) = refl
  item_twice (Heap ty) = ap Heap (heap_twice ty)
  item_twice (Block ty) = ap Block (block_twice ty)
  item_twice (Access a) = refl
  item_twice (ManyLabels ns) = ap ManyLabels (each_twice (r Labels) (s Labels) (after s r Labels) (λ n. refl) ns)
  item_twice (ManyValues tys) = ap ManyValues (each_twice (renamed_value r) (renamed_value s) (renamed_value (after s r)) value_twice tys)
  item_twice (ManyClauses cs) = ap ManyClauses (each_twice (renamed_clause r) (renamed_clause s) (renamed_clause (after s r)) clause_twice cs)

pub renames_twice : RenamesTwice
renames_twice r s op = ap (λ (items : List Item). record { code = op.code; items = items }) (each_twice (renamed_item r) (renamed_item s) (renamed_item (after s r)) (item_twice r s) op.items)
