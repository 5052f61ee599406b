-- What becomes of the names of single types as these are sent through maps of names: from indices to ids,
-- or back.
use Rattle.std.specs.Prelude.{◌≡◌, ℕ, IfSome}
use Rattle.std.specs.Option.{option_map}
use Rattle.walrus_forms.specs.declared.value.HeapType.{HeapType}
use Rattle.walrus_forms.specs.declared.value.RefType.{RefType}
use Rattle.walrus_forms.specs.declared.value.ValType.{ValType}
use Rattle.walrus_forms.specs.declared.value.StorageType.{StorageType}
use Rattle.walrus_forms.specs.declared.value.FieldType.{FieldType}
use Rattle.walrus_forms.specs.declared.record.HeapRecord.{HeapRecord}
use Rattle.walrus_forms.specs.declared.record.RefRecord.{RefRecord}
use Rattle.walrus_forms.specs.declared.record.ValRecord.{ValRecord}
use Rattle.walrus_forms.specs.declared.record.StorageRecord.{StorageRecord}
use Rattle.walrus_forms.specs.declared.record.FieldRecord.{FieldRecord}
use Rattle.walrus_forms.specs.Values.{heap_name, ref_name, value_name, storage_name, field_name}
use Rattle.walrus_forms.specs.Records.{heap_of, ref_of, value_of, storage_of, field_of}
use Rattle.walrus_forms.specs.Renaming.{renamed_heap, renamed_ref, renamed_value, renamed_storage, renamed_field}

-- the name of a renamed type is its name, renamed
pub record NamesAreRenamed : Type 0 where
  pub heap : (r : ℕ → ℕ) (ty : HeapType) → heap_name (renamed_heap r ty) ≡ option_map r (heap_name ty)
  pub reference : (r : ℕ → ℕ) (ty : RefType) → ref_name (renamed_ref r ty) ≡ option_map r (ref_name ty)
  pub value : (r : ℕ → ℕ) (ty : ValType) → value_name (renamed_value r ty) ≡ option_map r (value_name ty)
  pub storage : (r : ℕ → ℕ) (ty : StorageType) → storage_name (renamed_storage r ty) ≡ option_map r (storage_name ty)
  pub field : (r : ℕ → ℕ) (field : FieldType) → field_name (renamed_field r field) ≡ option_map r (field_name field)

-- one map undoes the other on this name
abbrev pub Undoes : (ℕ → ℕ) → (ℕ → ℕ) → ℕ → Type 0
Undoes back there name = back (there name) ≡ name

-- a type that is renamed by a map, and then by one that undoes it on its name, is the same
pub record TypesComeBack : Type 0 where
  pub heap : (back there : ℕ → ℕ) (ty : HeapType) → IfSome (heap_name ty) (Undoes back there) → renamed_heap back (renamed_heap there ty) ≡ ty
  pub reference : (back there : ℕ → ℕ) (ty : RefType) → IfSome (ref_name ty) (Undoes back there) → renamed_ref back (renamed_ref there ty) ≡ ty
  pub value : (back there : ℕ → ℕ) (ty : ValType) → IfSome (value_name ty) (Undoes back there) → renamed_value back (renamed_value there ty) ≡ ty
  pub storage : (back there : ℕ → ℕ) (ty : StorageType) → IfSome (storage_name ty) (Undoes back there) → renamed_storage back (renamed_storage there ty) ≡ ty
  pub field : (back there : ℕ → ℕ) (field : FieldType) → IfSome (field_name field) (Undoes back there) → renamed_field back (renamed_field there field) ≡ field

-- records that describe one type are one
pub record RecordsAreTold : Type 0 where
  pub heap : (a b : HeapRecord) → heap_of a ≡ heap_of b → a ≡ b
  pub reference : (a b : RefRecord) → ref_of a ≡ ref_of b → a ≡ b
  pub value : (a b : ValRecord) → value_of a ≡ value_of b → a ≡ b
  pub storage : (a b : StorageRecord) → storage_of a ≡ storage_of b → a ≡ b
  pub field : (a b : FieldRecord) → field_of a ≡ field_of b → a ≡ b
