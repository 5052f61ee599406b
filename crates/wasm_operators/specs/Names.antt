-- What operators name, and operators renamed: indices, also those inside types, accesses, lists and handlers.
use Rattle.std.specs.Prelude.{ℕ, Bool, List, [], ◌∷◌, map}
use Rattle.std.specs.List.{flat_map}
use Rattle.wasm_composite_types.specs.wasm_ref_types.declared.heap.HeapType.{HeapType}
use Rattle.wasm_composite_types.specs.wasm_ref_types.declared.heap.HeapType.TheVariants.{Abstract, Concrete, Exact}
use Rattle.wasm_composite_types.specs.wasm_ref_types.declared.index.UnpackedIndex.{UnpackedIndex}
use Rattle.wasm_composite_types.specs.wasm_ref_types.declared.index.UnpackedIndex.TheVariants.{Module, RecGroup, Id}
use Rattle.wasm_composite_types.specs.wasm_ref_types.declared.value.ValType.{ValType}
use Rattle.wasm_composite_types.specs.wasm_ref_types.declared.value.ValType.TheVariants.{I32, I64, F32, F64, V128, Ref}
use Rattle.wasm_composite_types.specs.wasm_ref_types.Reference.{reference}
use Rattle.wasm_operators.specs.declared.block_type.BlockType.{BlockType}
use Rattle.wasm_operators.specs.declared.block_type.BlockType.TheVariants as blocks
use Rattle.wasm_operators.specs.declared.clause.Clause.{Clause}
use Rattle.wasm_operators.specs.declared.clause.Clause.TheVariants as handlers
use Rattle.wasm_operators.specs.Items.{Space, Types, Memories, Tags, Labels, Item, Names, Number, S32, S64, Bits, Byte, Bytes, Heap, Block, Access, ManyLabels, ManyValues, ManyClauses}
use Rattle.wasm_operators.specs.Operators.{Seen}

-- a number in a space
abbrev pub Name : Type 0
Name = Space × ℕ

-- a number for each number of each space
abbrev pub Renaming : Type 0
Renaming = Space → ℕ → ℕ

-- ---- types: an index of the module names a type

abbrev pub index_names : UnpackedIndex → List Name
index_names (Module n) = (Types, n) ∷ []
index_names (RecGroup n) = []
index_names (Id id) = []

abbrev pub renamed_index : Renaming → UnpackedIndex → UnpackedIndex
renamed_index r (Module n) = Module (r Types n)
renamed_index r (RecGroup n) = RecGroup n
renamed_index r (Id id) = Id id

abbrev pub heap_names : HeapType → List Name
heap_names (Abstract shared ty) = []
heap_names (Concrete index) = index_names index
heap_names (Exact index) = index_names index

abbrev pub renamed_heap : Renaming → HeapType → HeapType
renamed_heap r (Abstract shared ty) = Abstract shared ty
renamed_heap r (Concrete index) = Concrete (renamed_index r index)
renamed_heap r (Exact index) = Exact (renamed_index r index)

abbrev pub value_names : ValType → List Name
value_names I32 = []
value_names I64 = []
value_names F32 = []
value_names F64 = []
value_names V128 = []
value_names (Ref ty) = heap_names ty.heap_type

abbrev pub renamed_value : Renaming → ValType → ValType
renamed_value r I32 = I32
renamed_value r I64 = I64
renamed_value r F32 = F32
renamed_value r F64 = F64
renamed_value r V128 = V128
renamed_value r (Ref ty) = Ref (reference ty.nullable (renamed_heap r ty.heap_type))

abbrev pub block_names : BlockType → List Name
block_names blocks.Empty = []
block_names (blocks.Value ty) = value_names ty
block_names (blocks.Type n) = (Types, n) ∷ []

abbrev pub renamed_block : Renaming → BlockType → BlockType
renamed_block r blocks.Empty = blocks.Empty
renamed_block r (blocks.Value ty) = blocks.Value (renamed_value r ty)
renamed_block r (blocks.Type n) = blocks.Type (r Types n)

-- ---- handlers: a tag, and the label

abbrev pub clause_names : Clause → List Name
clause_names (handlers.Catch tag label) = (Tags, tag) ∷ (Labels, label) ∷ []
clause_names (handlers.CatchRef tag label) = (Tags, tag) ∷ (Labels, label) ∷ []
clause_names (handlers.CatchAll label) = (Labels, label) ∷ []
clause_names (handlers.CatchAllRef label) = (Labels, label) ∷ []

abbrev pub renamed_clause : Renaming → Clause → Clause
renamed_clause r (handlers.Catch tag label) = handlers.Catch (r Tags tag) (r Labels label)
renamed_clause r (handlers.CatchRef tag label) = handlers.CatchRef (r Tags tag) (r Labels label)
renamed_clause r (handlers.CatchAll label) = handlers.CatchAll (r Labels label)
renamed_clause r (handlers.CatchAllRef label) = handlers.CatchAllRef (r Labels label)

-- ---- items and operators

abbrev pub label_name : ℕ → Name
label_name n = (Labels, n)

abbrev pub item_names : Item → List Name
item_names (Names space n) = (space, n) ∷ []
item_names (Number n) = []
item_names (S32 z) = []
item_names (S64 z) = []
item_names (Bits size n) = []
item_names (Byte b) = []
item_names (Bytes run) = []
item_names (Heap ty) = heap_names ty
item_names (Block ty) = block_names ty
item_names (Access a) = (Memories, a.memory) ∷ []
item_names (ManyLabels ns) = map label_name ns
item_names (ManyValues tys) = flat_map value_names tys
item_names (ManyClauses cs) = flat_map clause_names cs

abbrev pub renamed_item : Renaming → Item → Item
renamed_item r (Names space n) = Names space (r space n)
renamed_item r (Number n) = Number n
renamed_item r (S32 z) = S32 z
renamed_item r (S64 z) = S64 z
renamed_item r (Bits size n) = Bits size n
renamed_item r (Byte b) = Byte b
renamed_item r (Bytes run) = Bytes run
renamed_item r (Heap ty) = Heap (renamed_heap r ty)
renamed_item r (Block ty) = Block (renamed_block r ty)
renamed_item r (Access a) = Access (record a { memory = r Memories a.memory })
renamed_item r (ManyLabels ns) = ManyLabels (map (r Labels) ns)
renamed_item r (ManyValues tys) = ManyValues (map (renamed_value r) tys)
renamed_item r (ManyClauses cs) = ManyClauses (map (renamed_clause r) cs)

-- an operator names what its items name, in the order of the bytes
abbrev pub operator_names : Seen → List Name
operator_names op = flat_map item_names op.items

abbrev pub renamed_operator : Renaming → Seen → Seen
renamed_operator r op = record { code = op.code; items = map (renamed_item r) op.items }
