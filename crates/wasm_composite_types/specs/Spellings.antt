-- Which bytes spell a type (Core Specification, binary format, types), under which features.
use Rattle.std.specs.Prelude.{ℕ, ◌≤◌, ◌≡◌, Bool, true, false, List, [], ◌∷◌, ◌++◌, length, All}
use Rattle.wasm_ref_types.specs.wasm_features.declared.WasmFeatures.{WasmFeatures}
use Rattle.wasm_ref_types.specs.wasm_reader.Items.{SpellsVec}
use Rattle.wasm_ref_types.specs.TypeSpellings.{HasGcTypes, HasSharedTypes, SpellsBehind, SpellsValue, MayBeShared, IsWrittenValue}
use Rattle.wasm_composite_types.specs.declared.field.StorageType.{StorageType}
use Rattle.wasm_composite_types.specs.declared.field.StorageType.TheVariants.{I8, I16, Val}
use Rattle.wasm_composite_types.specs.declared.field.FieldType.{FieldType}
use Rattle.wasm_composite_types.specs.declared.form.FuncType.{FuncType}
use Rattle.wasm_composite_types.specs.declared.form.ArrayType.{ArrayType}
use Rattle.wasm_composite_types.specs.declared.form.StructType.{StructType}
use Rattle.wasm_composite_types.specs.declared.form.CompositeInnerType.{CompositeInnerType}
use Rattle.wasm_composite_types.specs.declared.form.CompositeInnerType.TheVariants.{Func, Array, Struct, Cont}
use Rattle.wasm_composite_types.specs.declared.form.CompositeType.{CompositeType}

-- bytes that spell the one, and then the other
abbrev pub SpellsBoth : {A B : Type 0} → (List ℕ → A → Type 0) → (List ℕ → B → Type 0) → List ℕ → A → B → Type 0
SpellsBoth First Second bytes a b = (front later : List ℕ) × (bytes ≡ front ++ later) × First front a × Second later b

-- storagetype: a packtype or a valtype
abbrev pub SpellsStorage : WasmFeatures → List ℕ → StorageType → Type 0
SpellsStorage features bytes I8 = bytes ≡ 0x78 ∷ []
SpellsStorage features bytes I16 = bytes ≡ 0x77 ∷ []
SpellsStorage features bytes (Val ty) = SpellsValue features bytes ty

-- mut
abbrev pub SpellsMutable : List ℕ → Bool → Type 0
SpellsMutable bytes false = bytes ≡ 0x00 ∷ []
SpellsMutable bytes true = bytes ≡ 0x01 ∷ []

-- fieldtype: a storagetype, and whether the field can be written
abbrev pub SpellsField : WasmFeatures → List ℕ → FieldType → Type 0
SpellsField features bytes field = SpellsBoth (SpellsStorage features) SpellsMutable bytes field.element_type field.mutable

-- what follows the byte of a function type: the vec of parameters, and that of results
abbrev pub SpellsFunc : WasmFeatures → List ℕ → FuncType → Type 0
SpellsFunc features bytes ty = SpellsBoth (SpellsVec 1000 (SpellsValue features)) (SpellsVec 1000 (SpellsValue features)) bytes ty.params ty.results

-- what follows the byte of an array type: a fieldtype
abbrev pub SpellsArray : WasmFeatures → List ℕ → ArrayType → Type 0
SpellsArray features bytes ty = SpellsField features bytes ty.0

-- what follows the byte of a structure type: a vec of fieldtypes
abbrev pub SpellsStruct : WasmFeatures → List ℕ → StructType → Type 0
SpellsStruct features bytes ty = SpellsVec 10000 (SpellsField features) bytes ty.fields

-- comptype; continuations have no bytes
abbrev pub SpellsForm : WasmFeatures → List ℕ → CompositeInnerType → Type 0
SpellsForm features bytes (Func ty) = SpellsBehind 0x60 (λ inner. SpellsFunc features inner ty) bytes
SpellsForm features bytes (Struct ty) = HasGcTypes features × SpellsBehind 0x5f (λ inner. SpellsStruct features inner ty) bytes
SpellsForm features bytes (Array ty) = HasGcTypes features × SpellsBehind 0x5e (λ inner. SpellsArray features inner ty) bytes
SpellsForm features bytes (Cont ty) = ⊥

-- a comptype, behind the byte 65 if it is shared
abbrev pub SpellsEither : WasmFeatures → Bool → List ℕ → CompositeInnerType → Type 0
SpellsEither features false bytes inner = SpellsForm features bytes inner
SpellsEither features true bytes inner = HasSharedTypes features × SpellsBehind 0x65 (λ later. SpellsForm features later inner) bytes

abbrev pub SpellsComposite : WasmFeatures → List ℕ → CompositeType → Type 0
SpellsComposite features bytes ty = SpellsEither features ty.shared bytes ty.inner

-- ---- types that files have: within the limits, with indices of the module below 2^20

abbrev pub IsWrittenStorage : WasmFeatures → StorageType → Type 0
IsWrittenStorage features I8 = Unit {0}
IsWrittenStorage features I16 = Unit {0}
IsWrittenStorage features (Val ty) = IsWrittenValue features ty

abbrev pub IsWrittenField : WasmFeatures → FieldType → Type 0
IsWrittenField features field = IsWrittenStorage features field.element_type

abbrev pub AtMost : {A : Type 0} → ℕ → (A → Type 0) → List A → Type 0
AtMost limit Written items = (length items ≤ limit) × All Written items

abbrev pub IsWrittenFunc : WasmFeatures → FuncType → Type 0
IsWrittenFunc features ty = AtMost 1000 (IsWrittenValue features) ty.params × AtMost 1000 (IsWrittenValue features) ty.results

abbrev pub IsWrittenStruct : WasmFeatures → StructType → Type 0
IsWrittenStruct features ty = AtMost 10000 (IsWrittenField features) ty.fields

abbrev pub IsWrittenArray : WasmFeatures → ArrayType → Type 0
IsWrittenArray features ty = IsWrittenField features ty.0

abbrev pub IsWrittenForm : WasmFeatures → CompositeInnerType → Type 0
IsWrittenForm features (Func ty) = IsWrittenFunc features ty
IsWrittenForm features (Struct ty) = IsWrittenStruct features ty
IsWrittenForm features (Array ty) = IsWrittenArray features ty
IsWrittenForm features (Cont ty) = ⊥

abbrev pub IsWrittenComposite : WasmFeatures → CompositeType → Type 0
IsWrittenComposite features ty = MayBeShared features ty.shared × IsWrittenForm features ty.inner
