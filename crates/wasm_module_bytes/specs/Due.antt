-- The entries that are due to the items of a module: what stands in its sections for each.
use Rattle.std.specs.Prelude.{ℕ, ◌+◌, ◌≡◌, ◌⊎◌, Bool, true, false, List, [], ◌∷◌, length, map, Some}
use Rattle.std.specs.Option.{is_some, option_map}
use Rattle.std.proofs.Common.{inl, inr}
use Rattle.wasm_ref_types.specs.declared.index.UnpackedIndex.TheVariants.{Module as OfModule}
use Rattle.wasm_composite_types.specs.declared.field.StorageType.{StorageType as ReadStorage}
use Rattle.wasm_composite_types.specs.declared.field.StorageType.TheVariants as storages
use Rattle.wasm_composite_types.specs.declared.field.FieldType.{FieldType as ReadField}
use Rattle.wasm_composite_types.specs.declared.form.CompositeInnerType.{CompositeInnerType}
use Rattle.wasm_composite_types.specs.declared.form.CompositeInnerType.TheVariants.{Func, Array, Struct}
use Rattle.wasm_types.specs.declared.subtype.SubType.{SubType}
use Rattle.walrus_forms.specs.declared.value.FieldType.{FieldType}
use Rattle.walrus_forms.specs.declared.value.StorageType.{StorageType}
use Rattle.walrus_forms.specs.declared.value.StorageType.TheVariants.{Val, I8, I16}
use Rattle.walrus_forms.specs.Forms.{Form, FunctionForm, StructForm, ArrayForm}
use Rattle.walrus_forms.specs.Kinds.{Kind}
use Rattle.walrus_forms.specs.Records.{TypeGroup}
use Rattle.wasm_formats.specs.declared.fault.Space.{Space}
use Rattle.wasm_formats.specs.declared.fault.Space.TheVariants as spaces
use Rattle.wasm_grammar.specs.Modules.{Table, Memory, Global, Export}
use Rattle.wasm_grammar.specs.TypeWords.{value_from}
use Rattle.wasm_sections.specs.TypeNames.{kind_of}
use Rattle.wasm_sections.specs.TypeSection.{Measured, GroupEntry, type_group}
use Rattle.wasm_sections.specs.Entities.{TableType, MemoryType, GlobalType, table_of, memory_of, global_of}
use Rattle.wasm_sections.specs.Exports.{ExportEntry, kind_space}

-- ---- types

abbrev pub storage_from : StorageType → ReadStorage
storage_from I8 = storages.I8
storage_from I16 = storages.I16
storage_from (Val ty) = storages.Val (value_from ty)

abbrev pub field_from : FieldType → ReadField
field_from f = record { element_type = storage_from f.element_type; mutable = f.mutable }

abbrev pub form_from : Form → CompositeInnerType
form_from (FunctionForm params results) = Func (record { params = map value_from params; results = map value_from results })
form_from (StructForm fields) = Struct (record { fields = map field_from fields })
form_from (ArrayForm field) = Array (record { 0 = field_from field })

abbrev pub sub_from : Kind → SubType
sub_from kind = record {
  is_final = kind.final;
  supertype_idx = option_map OfModule kind.supertype;
  composite_type = record { inner = form_from kind.form; shared = false };
}

-- a group that is marked is written as one, and so is any of another length than one
abbrev pub shaped : Bool → List Measured → GroupEntry
shaped false (x ∷ []) = inr x
shaped marked xs = inl ((0, length xs), xs)

abbrev pub group_from : TypeGroup → GroupEntry
group_from g = shaped g.marked (map (λ (kind : Kind). (0, sub_from kind)) g.kinds)

-- no type of a body's own block is written, and a group that isn't marked is one type
abbrev pub AreWritten : List Kind → Type 0
AreWritten [] = Unit {0}
AreWritten (kind ∷ kinds) = (kind.entry ≡ false) × AreWritten kinds

abbrev pub IsWritten : TypeGroup → Type 0
IsWritten g = AreWritten g.kinds × ((g.marked ≡ true) ⊎ (length g.kinds ≡ 1))

-- ---- tables, memories, globals, exports

abbrev pub bit : ℕ → Bool → ℕ
bit n true = n
bit n false = 0

abbrev pub table_from : Table → TableType
table_from t = (t.element, (bit 1 (is_some t.maximum) + bit 4 t.wide, (t.initial, t.maximum)))

abbrev pub memory_from : Memory → MemoryType
memory_from x = ((bit 1 (is_some x.maximum) + bit 2 x.shared + bit 4 x.wide + bit 8 (is_some x.page_size_log2), (x.initial, x.maximum)), x.page_size_log2)

abbrev pub global_from : Global → GlobalType
global_from g = (g.ty, bit 1 g.mutable)

abbrev pub space_kind : Space → ℕ
space_kind spaces.Function = 0
space_kind spaces.Table = 1
space_kind spaces.Memory = 2
space_kind spaces.Global = 3
space_kind _ = 4

abbrev pub export_from : Export → ExportEntry
export_from e = ((e.name, space_kind e.item.space), e.item.number)

abbrev pub IsExported : Space → Type 0
IsExported spaces.Function = Unit {0}
IsExported spaces.Table = Unit {0}
IsExported spaces.Memory = Unit {0}
IsExported spaces.Global = Unit {0}
IsExported spaces.Tag = Unit {0}
IsExported _ = ⊥

-- ---- each item is what its entry says

pub record EntriesTell : Type 0 where
  pub types : (kind : Kind) → kind.entry ≡ false → kind_of (sub_from kind) ≡ Some kind
  pub groups : (g : TypeGroup) → IsWritten g → type_group (group_from g) ≡ g
  pub tables : (t : Table) → table_of (table_from t) t.init t.imported ≡ t
  pub memories : (x : Memory) → memory_of (memory_from x) x.imported ≡ x
  pub globals : (g : Global) → global_of (global_from g) g.origin ≡ g
  pub exports : (e : Export) → IsExported e.item.space → (let x = export_from e in kind_space x.0.1 ≡ e.item.space)
