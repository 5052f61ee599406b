-- Immediates, item by item.
use Rattle.std.specs.Prelude.{ℕ, List, [], ◌∷◌}
use Rattle.wasm_operators.specs.wasm_reader.Floats.{seen_bits32, seen_bits64}
use Rattle.wasm_operators.specs.Items.{Types, Functions, Tables, Memories, Tags, Globals, ElementSegments, DataSegments, Locals, Labels, Item, Names, Number, S32, S64, Bits, Byte, Bytes, Heap, Block, Access, ManyLabels, ManyValues, ManyClauses}
use Rattle.wasm_operators.specs.declared.entry.Kind.{Kind}
use Rattle.wasm_operators.specs.declared.entry.Kind.TheVariants as kinds
use Rattle.walrus_operators.specs.declared.immediates.Immediates.{Immediates}
use Rattle.walrus_operators.specs.declared.immediates.Immediates.TheVariants as imm

-- the items, in the order of the bytes
abbrev pub items_of : Immediates → List Item
items_of imm.Bare = []
items_of (imm.Block ty) = Block ty ∷ []
items_of (imm.TryTable ty clauses) = Block ty ∷ ManyClauses clauses.items ∷ []
items_of (imm.Tag n) = Names Tags n ∷ []
items_of (imm.Label n) = Names Labels n ∷ []
items_of (imm.BrTable ns n) = ManyLabels ns.items ∷ Names Labels n ∷ []
items_of (imm.Function n) = Names Functions n ∷ []
items_of (imm.TypeTable m n) = Names Types m ∷ Names Tables n ∷ []
items_of (imm.Type n) = Names Types n ∷ []
items_of (imm.Select tys) = ManyValues tys.items ∷ []
items_of (imm.Local n) = Names Locals n ∷ []
items_of (imm.Global n) = Names Globals n ∷ []
items_of (imm.Table n) = Names Tables n ∷ []
items_of (imm.Access a) = Access a ∷ []
items_of (imm.Memory n) = Names Memories n ∷ []
items_of (imm.I32 z) = S32 z ∷ []
items_of (imm.I64 z) = S64 z ∷ []
items_of (imm.F32 x) = Bits 4 (seen_bits32 x) ∷ []
items_of (imm.F64 x) = Bits 8 (seen_bits64 x) ∷ []
items_of (imm.Heap ty) = Heap ty ∷ []
items_of (imm.DataMemory m n) = Names DataSegments m ∷ Names Memories n ∷ []
items_of (imm.Data n) = Names DataSegments n ∷ []
items_of (imm.MemoryMemory m n) = Names Memories m ∷ Names Memories n ∷ []
items_of (imm.ElementTable m n) = Names ElementSegments m ∷ Names Tables n ∷ []
items_of (imm.Element n) = Names ElementSegments n ∷ []
items_of (imm.TableTable m n) = Names Tables m ∷ Names Tables n ∷ []
items_of (imm.TypeNumber m n) = Names Types m ∷ Number n ∷ []
items_of (imm.TypeData m n) = Names Types m ∷ Names DataSegments n ∷ []
items_of (imm.TypeElement m n) = Names Types m ∷ Names ElementSegments n ∷ []
items_of (imm.TypeType m n) = Names Types m ∷ Names Types n ∷ []
items_of (imm.Cast b n from to) = Byte b ∷ Names Labels n ∷ Heap from ∷ Heap to ∷ []
items_of (imm.Vector bytes) = Bytes bytes ∷ []
items_of (imm.Lane b) = Byte b ∷ []
items_of (imm.AccessLane a b) = Access a ∷ Byte b ∷ []
items_of imm.Zero = Byte 0 ∷ []

-- their kind
abbrev pub kind_is : Immediates → Kind
kind_is imm.Bare = kinds.Bare
kind_is (imm.Block ty) = kinds.Block
kind_is (imm.TryTable ty clauses) = kinds.TryTable
kind_is (imm.Tag n) = kinds.Tag
kind_is (imm.Label n) = kinds.Label
kind_is (imm.BrTable ns n) = kinds.BrTable
kind_is (imm.Function n) = kinds.Function
kind_is (imm.TypeTable m n) = kinds.TypeTable
kind_is (imm.Type n) = kinds.Type
kind_is (imm.Select tys) = kinds.Select
kind_is (imm.Local n) = kinds.Local
kind_is (imm.Global n) = kinds.Global
kind_is (imm.Table n) = kinds.Table
kind_is (imm.Access a) = kinds.Access
kind_is (imm.Memory n) = kinds.Memory
kind_is (imm.I32 z) = kinds.I32
kind_is (imm.I64 z) = kinds.I64
kind_is (imm.F32 x) = kinds.F32
kind_is (imm.F64 x) = kinds.F64
kind_is (imm.Heap ty) = kinds.Heap
kind_is (imm.DataMemory m n) = kinds.DataMemory
kind_is (imm.Data n) = kinds.Data
kind_is (imm.MemoryMemory m n) = kinds.MemoryMemory
kind_is (imm.ElementTable m n) = kinds.ElementTable
kind_is (imm.Element n) = kinds.Element
kind_is (imm.TableTable m n) = kinds.TableTable
kind_is (imm.TypeNumber m n) = kinds.TypeNumber
kind_is (imm.TypeData m n) = kinds.TypeData
kind_is (imm.TypeElement m n) = kinds.TypeElement
kind_is (imm.TypeType m n) = kinds.TypeType
kind_is (imm.Cast b n from to) = kinds.Cast
kind_is (imm.Vector bytes) = kinds.Vector
kind_is (imm.Lane b) = kinds.Lane
kind_is (imm.AccessLane a b) = kinds.AccessLane
kind_is imm.Zero = kinds.Zero

-- the kinds but for those that most operators have
abbrev pub IsRare : Kind → Type 0
IsRare kinds.Bare = ⊥
IsRare kinds.Block = ⊥
IsRare kinds.Label = ⊥
IsRare kinds.Function = ⊥
IsRare kinds.Local = ⊥
IsRare kinds.Global = ⊥
IsRare kinds.Access = ⊥
IsRare kinds.I32 = ⊥
IsRare kinds.I64 = ⊥
IsRare kinds.F64 = ⊥
IsRare kind = Unit {0}

-- a single index follows, and two numbers
abbrev pub IsOfOne : Kind → Type 0
IsOfOne kinds.Tag = Unit {0}
IsOfOne kinds.Type = Unit {0}
IsOfOne kinds.Table = Unit {0}
IsOfOne kinds.Memory = Unit {0}
IsOfOne kinds.Data = Unit {0}
IsOfOne kinds.Element = Unit {0}
IsOfOne kinds.Label = Unit {0}
IsOfOne kinds.Function = Unit {0}
IsOfOne kinds.Local = Unit {0}
IsOfOne kinds.Global = Unit {0}
IsOfOne kind = ⊥

abbrev pub IsOfTwo : Kind → Type 0
IsOfTwo kinds.TypeTable = Unit {0}
IsOfTwo kinds.DataMemory = Unit {0}
IsOfTwo kinds.MemoryMemory = Unit {0}
IsOfTwo kinds.ElementTable = Unit {0}
IsOfTwo kinds.TableTable = Unit {0}
IsOfTwo kinds.TypeNumber = Unit {0}
IsOfTwo kinds.TypeData = Unit {0}
IsOfTwo kinds.TypeElement = Unit {0}
IsOfTwo kinds.TypeType = Unit {0}
IsOfTwo kind = ⊥

-- the items of these
abbrev pub one_item : Kind → ℕ → List Item
one_item kinds.Tag n = Names Tags n ∷ []
one_item kinds.Type n = Names Types n ∷ []
one_item kinds.Table n = Names Tables n ∷ []
one_item kinds.Memory n = Names Memories n ∷ []
one_item kinds.Data n = Names DataSegments n ∷ []
one_item kinds.Element n = Names ElementSegments n ∷ []
one_item kinds.Label n = Names Labels n ∷ []
one_item kinds.Function n = Names Functions n ∷ []
one_item kinds.Local n = Names Locals n ∷ []
one_item kinds.Global n = Names Globals n ∷ []
one_item kind n = []

abbrev pub two_items : Kind → ℕ → ℕ → List Item
two_items kinds.TypeTable m n = Names Types m ∷ Names Tables n ∷ []
two_items kinds.DataMemory m n = Names DataSegments m ∷ Names Memories n ∷ []
two_items kinds.MemoryMemory m n = Names Memories m ∷ Names Memories n ∷ []
two_items kinds.ElementTable m n = Names ElementSegments m ∷ Names Tables n ∷ []
two_items kinds.TableTable m n = Names Tables m ∷ Names Tables n ∷ []
two_items kinds.TypeNumber m n = Names Types m ∷ Number n ∷ []
two_items kinds.TypeData m n = Names Types m ∷ Names DataSegments n ∷ []
two_items kinds.TypeElement m n = Names Types m ∷ Names ElementSegments n ∷ []
two_items kinds.TypeType m n = Names Types m ∷ Names Types n ∷ []
two_items kind m n = []
