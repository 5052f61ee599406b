-- What is written names types below the end of each group, so that it can be parsed.
use Rattle.std.proofs.Common.{◌≡◌, ℕ, ◌+◌, ◌<◌, Bool, true, false, List, [], ◌∷◌, ◌++◌, length, map, filter, flat_map, All, Option, Some, None, refl, sym, ap, subst, ◌∙◌, arith}
use Rattle.std.specs.Prelude.{nat_lt, is_some, IfSome, if◌then◌else◌}
use Rattle.std.specs.List.{filter_map, cons_option}
use Rattle.std.specs.Option.{option_map, option_map_or, option_or, option_to_list}
use Rattle.std.proofs.Math.ListN.{length-map}
use Rattle.std.proofs.lemmas.Bool.Decides.{nat_tests}
use Rattle.std.proofs.lemmas.List.Elements.{All-nil, All-cons}
use Rattle.std.proofs.lemmas.Option.{none-some}
use Rattle.walrus_type_arenas.specs.walrus_type_index.walrus_items.walrus_forms.declared.value.HeapType.{HeapType}
use Rattle.walrus_type_arenas.specs.walrus_type_index.walrus_items.walrus_forms.declared.value.HeapType.TheVariants.{Abstract, Shared, Concrete, Exact}
use Rattle.walrus_type_arenas.specs.walrus_type_index.walrus_items.walrus_forms.declared.value.ValType.{ValType}
use Rattle.walrus_type_arenas.specs.walrus_type_index.walrus_items.walrus_forms.declared.value.ValType.TheVariants.{I32, I64, F32, F64, V128, Ref}
use Rattle.walrus_type_arenas.specs.walrus_type_index.walrus_items.walrus_forms.declared.value.StorageType.{StorageType}
use Rattle.walrus_type_arenas.specs.walrus_type_index.walrus_items.walrus_forms.declared.value.StorageType.TheVariants.{Val, I8, I16}
use Rattle.walrus_type_arenas.specs.walrus_type_index.walrus_items.walrus_forms.declared.value.FieldType.{FieldType}
use Rattle.walrus_type_arenas.specs.walrus_type_index.walrus_items.walrus_forms.Values.{unpacked, heap_name, value_name, field_name}
use Rattle.walrus_type_arenas.specs.walrus_type_index.walrus_items.walrus_forms.Forms.{Form, FunctionForm, StructForm, ArrayForm, form_names}
use Rattle.walrus_type_arenas.specs.walrus_type_index.walrus_items.walrus_forms.Kinds.{Kind, kind_names}
use Rattle.walrus_type_arenas.specs.walrus_type_index.walrus_items.walrus_forms.Renaming.{HeapBelow, ValueBelow, FieldBelow, FormBelow, KindBelow, renamed_heap, renamed_value, renamed_field, renamed_storage, renamed_form, renamed_kind}
use Rattle.walrus_type_arenas.specs.declared.error.IrError.{IrError}
use Rattle.walrus_type_arenas.specs.declared.error.IrError.TheVariants.{Dead, EntryOnly, Later}
use Rattle.walrus_type_arenas.specs.walrus_type_index.walrus_items.Items.{Item, Group}
use Rattle.walrus_type_arenas.specs.Table.{Table, type_at}
use Rattle.walrus_type_arenas.specs.Emission.{written_kind, is_written, written_in, fault_at, first_fault, group_names, groups_fault, described_group}
use Rattle.walrus_types.specs.Parsing.{AreBelow}
use Rattle.walrus_type_arenas.proofs.EmitLemmas.{first-fault-append}

or-none : (a b : Option IrError) → option_or a b ≡ None → (a ≡ None) × (b ≡ None)
or-none None b e = (refl, e)
or-none (Some a) b e = absurd (none-some a (sym e))

module _ (f : ℕ → Option IrError) (r : ℕ → ℕ) (n : ℕ) (below : (name : ℕ) → f name ≡ None → r name < n) where
  -- nothing is wrong with a name, if there is one
  abbrev Sound : Option ℕ → Type 0
  Sound o = IfSome o (λ name. f name ≡ None)

  sound-cons : (o : Option ℕ) (names : List ℕ) → first_fault f (cons_option o names) ≡ None → Sound o × (first_fault f names ≡ None)
  sound-cons None names e = (tt, e)
  sound-cons (Some name) names e = or-none (f name) (first_fault f names) e

  sound-append : (xs ys : List ℕ) → first_fault f (xs ++ ys) ≡ None → (first_fault f xs ≡ None) × (first_fault f ys ≡ None)
  sound-append xs ys e = or-none (first_fault f xs) (first_fault f ys) (sym (first-fault-append f xs ys) ∙ e)

  sound-option : (o : Option ℕ) → first_fault f (option_to_list o) ≡ None → Sound o
  sound-option None e = tt
  sound-option (Some name) e = (or-none (f name) None e).0

  name-below : (o : Option ℕ) → Sound o → IfSome (option_map r o) (λ name. name < n)
  name-below None sound = tt
  name-below (Some name) sound = below name sound

  heap-below : (ty : HeapType) → Sound (heap_name ty) → HeapBelow n (renamed_heap r ty)
  heap-below (Abstract ty) sound = tt
  heap-below (Shared ty) sound = tt
  heap-below (Concrete name) sound = below name sound
  heap-below (Exact name) sound = below name sound

  value-below : (ty : ValType) → Sound (value_name ty) → ValueBelow n (renamed_value r ty)
  value-below I32 sound = tt
  value-below I64 sound = tt
  value-below F32 sound = tt
  value-below F64 sound = tt
  value-below V128 sound = tt
  value-below (Ref ty) sound = heap-below ty.heap_type sound

  storage-below : (ty : StorageType) → Sound (value_name (unpacked ty)) → ValueBelow n (unpacked (renamed_storage r ty))
  storage-below (Val ty) sound = value-below ty sound
  storage-below I8 sound = tt
  storage-below I16 sound = tt

  field-below : (field : FieldType) → Sound (field_name field) → FieldBelow n (renamed_field r field)
  field-below field sound = storage-below field.element_type sound

  values-below : (values : List ValType) → first_fault f (filter_map value_name values) ≡ None → All (ValueBelow n) (map (renamed_value r) values)
  values-below [] e = All-nil (ValueBelow n)
  values-below (value ∷ values) e =
      let sound = sound-cons (value_name value) (filter_map value_name values) e in
      All-cons (ValueBelow n) (renamed_value r value) (map (renamed_value r) values) (value-below value sound.0) (values-below values sound.1)

  fields-below : (fields : List FieldType) → first_fault f (filter_map field_name fields) ≡ None → All (FieldBelow n) (map (renamed_field r) fields)
  fields-below [] e = All-nil (FieldBelow n)
  fields-below (field ∷ fields) e =
      let sound = sound-cons (field_name field) (filter_map field_name fields) e in
      All-cons (FieldBelow n) (renamed_field r field) (map (renamed_field r) fields) (field-below field sound.0) (fields-below fields sound.1)

  form-below : (form : Form) → first_fault f (form_names form) ≡ None → FormBelow n (renamed_form r form)
  form-below (FunctionForm params results) e =
      let sound = sound-append (filter_map value_name params) (filter_map value_name results) e in
      (values-below params sound.0, values-below results sound.1)
  form-below (StructForm fields) e = fields-below fields e
  form-below (ArrayForm field) e = field-below field (sound-option (field_name field) e)

  kind-below : (kind : Kind) → first_fault f (kind_names kind) ≡ None → KindBelow n (renamed_kind r kind)
  kind-below kind e =
      let sound = sound-append (form_names kind.form) (option_to_list kind.supertype) e in
      (form-below kind.form sound.0, name-below kind.supertype (sound-option kind.supertype sound.1))

  kinds-below : (kinds : List Kind) → first_fault f (flat_map kind_names kinds) ≡ None → All (KindBelow n) (map (renamed_kind r) kinds)
  kinds-below [] e = All-nil (KindBelow n)
  kinds-below (kind ∷ kinds) e =
      let sound = sound-append (kind_names kind) (flat_map kind_names kinds) e in
      All-cons (KindBelow n) (renamed_kind r kind) (map (renamed_kind r) kinds) (kind-below kind sound.0) (kinds-below kinds sound.1)

tests-below : (entry below : Bool) → (if entry then Some EntryOnly else if below then None else Some Later) ≡ None → below ≡ true
tests-below true below e = absurd (none-some EntryOnly (sym e))
tests-below false true e = refl
tests-below false false e = absurd (none-some Later (sym e))

item-below : (item : Option Item) (below : Bool) → option_map_or (λ x. if x.kind.entry then Some EntryOnly else if below then None else Some Later) item (Some Dead) ≡ None → below ≡ true
item-below None below e = absurd (none-some Dead (sym e))
item-below (Some item) below e = tests-below item.kind.entry below e

fault-below : (t : Table) (r : ℕ → ℕ) (n name : ℕ) → fault_at t r n name ≡ None → r name < n
fault-below t r n name e =
    let less : nat_lt (r name) n ≡ true = item-below (type_at t name) (nat_lt (r name) n) e in
    grind (arith, nat_tests)

count-cons : (o : Option Kind) (kinds : List Kind) (id : ℕ) (ids : List ℕ) → length kinds ≡ length ids → length (cons_option o kinds) ≡ length (if is_some o then id ∷ ids else ids)
count-cons None kinds id ids e = e
count-cons (Some kind) kinds id ids e = omega (arith, e)

count-same : (t : Table) (ids : List ℕ) → length (filter_map (written_kind t) ids) ≡ length (filter (is_written t) ids)
count-same t [] = refl
count-same t (id ∷ ids) = count-cons (written_kind t id) (filter_map (written_kind t) ids) id (filter (is_written t) ids) (count-same t ids)

pub groups-below : (t : Table) (r : ℕ → ℕ) (start : ℕ) (groups : List Group) → groups_fault t r start groups ≡ None → AreBelow start (map (described_group t r) groups)
groups-below t r start [] e = tt
groups-below t r start (group ∷ groups) e =
    let end = start + length (written_in t group) in
    let sound = or-none (first_fault (fault_at t r end) (group_names t group)) (groups_fault t r end groups) e in
    let kinds = filter_map (written_kind t) group.types in
    let same : end ≡ start + length (map (renamed_kind r) kinds) = ap (λ m. start + m) (sym (length-map kinds (renamed_kind r) ∙ count-same t group.types)) in
    subst (λ m. All (KindBelow m) (map (renamed_kind r) kinds) × AreBelow m (map (described_group t r) groups)) same
    (kinds-below (fault_at t r end) r end (fault-below t r end) kinds sound.0, groups-below t r end groups sound.1)
