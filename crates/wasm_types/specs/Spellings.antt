-- Which bytes spell a type (Core Specification, binary format, types), under which features.
use Rattle.std.specs.Prelude.{ℕ, ◌<◌, ◌^◌, ◌≡◌, ◌⊎◌, Bool, true, false, List, [], ◌∷◌, length, Option, Some, None}
use Rattle.std.specs.Option.{option_to_list}
use Rattle.wasm_features.specs.declared.WasmFeatures.{WasmFeatures}
use Rattle.wasm_reader.specs.Numbers.{unsigned, Spells}
use Rattle.wasm_reader.specs.Items.{SpellsVec}
use Rattle.wasm_composite_types.specs.wasm_ref_types.declared.index.UnpackedIndex.{UnpackedIndex}
use Rattle.wasm_composite_types.specs.wasm_ref_types.declared.index.UnpackedIndex.TheVariants.{Module, RecGroup, Id}
use Rattle.wasm_composite_types.specs.wasm_ref_types.TypeSpellings.{HasGcTypes, SpellsBehind}
use Rattle.wasm_types.specs.declared.subtype.SubType.{SubType}
use Rattle.wasm_composite_types.specs.Spellings.{SpellsBoth, SpellsComposite, AtMost, IsWrittenComposite}
use Rattle.wasm_types.specs.Readings.{Listed}

-- typeidx: the index of a module's type, below 2^20
abbrev pub SpellsIndex : List ℕ → UnpackedIndex → Type 0
SpellsIndex bytes (Module index) = (index < 2 ^ 20) × Spells unsigned 32 bytes index
SpellsIndex bytes (RecGroup index) = ⊥
SpellsIndex bytes (Id id) = ⊥

-- a vec of at most one supertype
abbrev pub SpellsSupertype : List ℕ → Option UnpackedIndex → Type 0
SpellsSupertype bytes supertype = SpellsVec 1 SpellsIndex bytes (option_to_list supertype)

-- the byte of a subtype that is written with its supertypes
abbrev pub declared_byte : Bool → ℕ
declared_byte false = 0x50
declared_byte true = 0x4f

-- subtype: its byte, the vec of supertypes and a comptype; a comptype alone stands for a final type without supertype
abbrev pub SpellsSub : WasmFeatures → List ℕ → SubType → Type 0
SpellsSub features bytes ty =
    (HasGcTypes features × SpellsBehind (declared_byte ty.is_final) (λ inner. SpellsBoth SpellsSupertype (SpellsComposite features) inner ty.supertype_idx ty.composite_type) bytes)
    ⊎ ((ty.is_final ≡ true) × (ty.supertype_idx ≡ None) × SpellsComposite features bytes ty.composite_type)

-- rectype: the byte 4e and a vec of subtypes, or one subtype alone
abbrev pub SpellsGroup : WasmFeatures → List ℕ → Listed → Type 0
SpellsGroup features bytes group =
    ((group.explicit ≡ true) × HasGcTypes features × SpellsBehind 0x4e (λ inner. SpellsVec 1000000 (SpellsSub features) inner group.types) bytes)
    ⊎ ((group.explicit ≡ false) × ((ty : SubType) × (group.types ≡ ty ∷ []) × SpellsSub features bytes ty))

-- ---- types that files have: within the limits, with indices of the module below 2^20

abbrev pub IsWrittenIndex : Option UnpackedIndex → Type 0
IsWrittenIndex None = Unit {0}
IsWrittenIndex (Some (Module index)) = index < 2 ^ 20
IsWrittenIndex (Some (RecGroup index)) = ⊥
IsWrittenIndex (Some (Id id)) = ⊥

abbrev pub IsWrittenSub : WasmFeatures → SubType → Type 0
IsWrittenSub features ty = IsWrittenIndex ty.supertype_idx × IsWrittenComposite features ty.composite_type

-- a group that wasn't written as one has one type
abbrev pub IsWrittenGroup : WasmFeatures → Listed → Type 0
IsWrittenGroup features group = AtMost 1000000 (IsWrittenSub features) group.types × (group.explicit ≡ false → length group.types ≡ 1)
