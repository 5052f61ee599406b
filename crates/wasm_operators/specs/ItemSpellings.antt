-- Which bytes spell an immediate (Core Specification, binary format: instructions).
use Rattle.std.specs.Prelude.{ℕ, ◌<◌, ◌^◌, ◌≡◌, Bool, true, false, pos, List, [], ◌∷◌, ◌++◌}
use Rattle.wasm_composite_types.specs.wasm_features.declared.WasmFeatures.{WasmFeatures}
use Rattle.wasm_composite_types.specs.wasm_reader.Reading.{SpellsRun, SpellsLittle}
use Rattle.wasm_composite_types.specs.wasm_reader.Numbers.{unsigned, signed, Spells}
use Rattle.wasm_composite_types.specs.wasm_reader.SmallSpellings.{SpellsByte}
use Rattle.wasm_composite_types.specs.wasm_reader.Items.{SpellsVec}
use Rattle.wasm_composite_types.specs.wasm_ref_types.TypeSpellings.{SpellsHeap, SpellsValue}
use Rattle.wasm_operators.specs.declared.block_type.BlockType.{BlockType}
use Rattle.wasm_operators.specs.declared.block_type.BlockType.TheVariants as blocks
use Rattle.wasm_operators.specs.declared.memory_access.MemoryAccess.{MemoryAccess}
use Rattle.wasm_operators.specs.declared.clause.Clause.{Clause}
use Rattle.wasm_operators.specs.declared.clause.Clause.TheVariants as handlers
use Rattle.wasm_operators.specs.Items.{Item, Names, Number, S32, S64, Bits, Byte, Bytes, Heap, Block, Access, ManyLabels, ManyValues, ManyClauses, Form, index, number, s32, s64, bits, run, any_byte, below, zero_byte, heap, block, access, labels, values, clauses}
use Rattle.wasm_operators.specs.Readings.{has_memory, align_of, most}

-- u32, s32 and s64
abbrev pub SpellsU32 : List ℕ → ℕ → Type 0
SpellsU32 bytes n = Spells unsigned 32 bytes n

-- a byte below a bound
abbrev pub SpellsBelow : ℕ → List ℕ → ℕ → Type 0
SpellsBelow bound bytes b = SpellsByte bytes b × (b < bound)

abbrev pub SpellsZero : List ℕ → Unit {0} → Type 0
SpellsZero bytes _ = bytes ≡ 0x00 ∷ []

-- blocktype: 40, a value type, or a type's index as an s33 that is not negative
abbrev pub SpellsBlock : WasmFeatures → List ℕ → BlockType → Type 0
SpellsBlock features bytes blocks.Empty = bytes ≡ 0x40 ∷ []
SpellsBlock features bytes (blocks.Value ty) = SpellsValue features bytes ty
SpellsBlock features bytes (blocks.Type n) = (n < 2 ^ 32) × Spells signed 33 bytes (pos n)

-- a memory's index where the flags say that there is one, else nothing for memory 0
abbrev pub SpellsMemory : Bool → List ℕ → ℕ → Type 0
SpellsMemory true bytes memory = SpellsU32 bytes memory
SpellsMemory false bytes memory = (bytes ≡ []) × (memory ≡ 0)

-- memarg: flags, a memory's index where they say so, and an offset
pub record SpellsAccess (bytes : List ℕ) (a : MemoryAccess) : Type 0 where
  pub flags : ℕ
  pub first : List ℕ
  pub middle : List ℕ
  pub last : List ℕ
  pub joined : bytes ≡ first ++ (middle ++ last)
  pub flagged : SpellsU32 first flags
  pub align : a.align ≡ align_of flags
  pub memory : SpellsMemory (has_memory flags) middle a.memory
  pub offset : Spells unsigned 64 last a.offset

-- a byte, and behind it a tag and a label, or a label alone
abbrev pub SpellsTagged : ℕ → List ℕ → ℕ → ℕ → Type 0
SpellsTagged b bytes tag label = (first second : List ℕ) × (bytes ≡ b ∷ (first ++ second)) × SpellsU32 first tag × SpellsU32 second label

abbrev pub SpellsUntagged : ℕ → List ℕ → ℕ → Type 0
SpellsUntagged b bytes label = (later : List ℕ) × (bytes ≡ b ∷ later) × SpellsU32 later label

-- catch
abbrev pub SpellsClause : List ℕ → Clause → Type 0
SpellsClause bytes (handlers.Catch tag label) = SpellsTagged 0x00 bytes tag label
SpellsClause bytes (handlers.CatchRef tag label) = SpellsTagged 0x01 bytes tag label
SpellsClause bytes (handlers.CatchAll label) = SpellsUntagged 0x02 bytes label
SpellsClause bytes (handlers.CatchAllRef label) = SpellsUntagged 0x03 bytes label

-- a value made of one that is spelled
abbrev pub Made : {A B : Type 0} → (A → B) → (List ℕ → A → Type 0) → List ℕ → B → Type 0
Made {A} make spells bytes value = (x : A) × (value ≡ make x) × spells bytes x

-- the bytes of a form's item
abbrev pub SpellsItem : WasmFeatures → Form → List ℕ → Item → Type 0
SpellsItem features (index space) = Made (Names space) SpellsU32
SpellsItem features number = Made Number SpellsU32
SpellsItem features s32 = Made S32 (λ bytes z. Spells signed 32 bytes z)
SpellsItem features s64 = Made S64 (λ bytes z. Spells signed 64 bytes z)
SpellsItem features (bits size) = Made (Bits size) (SpellsLittle size)
SpellsItem features (run size) = Made Bytes (SpellsRun size)
SpellsItem features any_byte = Made Byte SpellsByte
SpellsItem features (below bound) = Made Byte (SpellsBelow bound)
SpellsItem features zero_byte = Made (λ _. Byte 0) SpellsZero
SpellsItem features heap = Made Heap (SpellsHeap features)
SpellsItem features block = Made Block (SpellsBlock features)
SpellsItem features access = Made Access SpellsAccess
SpellsItem features labels = Made ManyLabels (SpellsVec most SpellsU32)
SpellsItem features values = Made ManyValues (SpellsVec most (SpellsValue features))
SpellsItem features clauses = Made ManyClauses (SpellsVec most SpellsClause)

-- the bytes of items of these forms, one after another
abbrev pub SpellsForms : WasmFeatures → List Form → List ℕ → List Item → Type 0
SpellsForms features [] bytes items = (bytes ≡ []) × (items ≡ [])
SpellsForms features (form ∷ forms) bytes items =
    (x : Item) × (xs : List Item) × (front later : List ℕ) × (items ≡ x ∷ xs) × (bytes ≡ front ++ later) × SpellsItem features form front x × SpellsForms features forms later xs
