-- Lemmas: kinds whose names are sent elsewhere.
use Rattle.std.specs.Prelude.{ℕ, ◌≡◌, ◌<◌, List, [], ◌∷◌, map, All, Option, Some, None, IfSome, refl}
use Rattle.std.specs.Option.{option_map}
use Rattle.std.proofs.Common.{ap, ◌∙◌}
use Rattle.std.proofs.lemmas.List.Elements.{All-cons, All-head, All-nil, All-tail}
use Rattle.walrus_forms.proofs.RenamingLemmas.{kinds-agree, kinds-below}
use Rattle.walrus_forms.specs.Forms.{Form, FunctionForm, StructForm, ArrayForm}
use Rattle.walrus_forms.specs.Kinds.{Kind}
use Rattle.walrus_forms.specs.Renaming.{FieldBelow, FormBelow, HeapBelow, ValueBelow, renamed_field, renamed_form, renamed_heap, renamed_kind, renamed_storage, renamed_value}
use Rattle.walrus_forms.specs.Values.{unpacked}
use Rattle.walrus_forms.specs.declared.value.FieldType.{FieldType}
use Rattle.walrus_forms.specs.declared.value.HeapType.{HeapType}
use Rattle.walrus_forms.specs.declared.value.HeapType.TheVariants.{Abstract, Shared, Concrete, Exact}
use Rattle.walrus_forms.specs.declared.value.StorageType.{StorageType}
use Rattle.walrus_forms.specs.declared.value.StorageType.TheVariants.{Val, I8, I16}
use Rattle.walrus_forms.specs.declared.value.ValType.{ValType}
use Rattle.walrus_forms.specs.declared.value.ValType.TheVariants.{I32, I64, F32, F64, V128, Ref}
use Rattle.wasm_normal_modules.specs.wasm_ruled_renamed.wasm_ruled_normal.wasm_ruled_modules.Rules.{AreBelow}

module _ (r : ℕ → ℕ) (m n : ℕ) (sent : (k : ℕ) → k < m → r k < n) where
  heap_sent : (ty : HeapType) → HeapBelow m ty → HeapBelow n (renamed_heap r ty)
  heap_sent (Abstract ty) h = tt
  heap_sent (Shared ty) h = tt
  heap_sent (Concrete k) h = sent k h
  heap_sent (Exact k) h = sent k h

  value_sent : (ty : ValType) → ValueBelow m ty → ValueBelow n (renamed_value r ty)
  value_sent I32 h = tt
  value_sent I64 h = tt
  value_sent F32 h = tt
  value_sent F64 h = tt
  value_sent V128 h = tt
  value_sent (Ref ty) h = heap_sent ty.heap_type h

  storage_sent : (s : StorageType) → ValueBelow m (unpacked s) → ValueBelow n (unpacked (renamed_storage r s))
  storage_sent (Val ty) h = value_sent ty h
  storage_sent I8 h = tt
  storage_sent I16 h = tt

  field_sent : (x : FieldType) → FieldBelow m x → FieldBelow n (renamed_field r x)
  field_sent x h = storage_sent x.element_type h

  list_sent : {A : Type 0} (P Q : A → Type 0) (f : A → A) → ((x : A) → P x → Q (f x)) → (xs : List A) → All P xs → All Q (map f xs)
  list_sent P Q f one [] h = All-nil Q
  list_sent P Q f one (x ∷ xs) h = All-cons Q (f x) (map f xs) (one x (All-head P x xs h)) (list_sent P Q f one xs (All-tail P x xs h))

  form_sent : (form : Form) → FormBelow m form → FormBelow n (renamed_form r form)
  form_sent (FunctionForm params results) h =
      (list_sent (ValueBelow m) (ValueBelow n) (renamed_value r) value_sent params h.0, list_sent (ValueBelow m) (ValueBelow n) (renamed_value r) value_sent results h.1)
  form_sent (StructForm fields) h = list_sent (FieldBelow m) (FieldBelow n) (renamed_field r) field_sent fields h
  form_sent (ArrayForm field) h = field_sent field h

  option_sent : (o : Option ℕ) → IfSome o (λ name. name < m) → IfSome (option_map r o) (λ name. name < n)
  option_sent None h = tt
  option_sent (Some k) h = sent k h

  pub kinds_sent : (kinds : List Kind) → AreBelow m kinds → AreBelow n (map (renamed_kind r) kinds)
  kinds_sent [] h = tt
  kinds_sent (k ∷ kinds) h = ((form_sent k.form h.0.0, option_sent k.supertype h.0.1), kinds_sent kinds h.1)

-- two that agree below an end do the same there
pub kinds_alike : (f g : ℕ → ℕ) (n : ℕ) → ((k : ℕ) → k < n → f k ≡ g k) → (kinds : List Kind) → AreBelow n kinds → map (renamed_kind f) kinds ≡ map (renamed_kind g) kinds
kinds_alike f g n same [] h = refl
kinds_alike f g n same (k ∷ kinds) h =
    ap (λ (x : Kind). x ∷ map (renamed_kind f) kinds) (kinds-agree f g k (λ m i. same m (kinds-below k n h.0 m i))) ∙ ap (λ (l : List Kind). renamed_kind g k ∷ l) (kinds_alike f g n same kinds h.1)
