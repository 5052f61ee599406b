-- Lemmas: what types of values name, which are those of the file with other numbers of types.
use Rattle.std.specs.Prelude.{ℕ, ◌≡◌, ◌<◌, Bool, IfSome}
use Rattle.std.proofs.Common.{sym, subst}
use Rattle.walrus_named_bodies.specs.walrus_file_bodies.walrus_items_into.walrus_module_bodies.walrus_body_trees.walrus_meaning.walrus_local_function.walrus_body_locals.walrus_body_nesting.wasm_formats.declared.fault.Space.TheVariants as spaces
use Rattle.walrus_walks.specs.walrus_forms.Renaming.{RefBelow, ValueBelow, renamed_heap, renamed_ref, renamed_value}
use Rattle.walrus_walks.specs.walrus_forms.Values.{heap_name}
use Rattle.walrus_walks.specs.walrus_forms.declared.value.HeapType.{HeapType}
use Rattle.walrus_walks.specs.walrus_forms.declared.value.HeapType.TheVariants.{Abstract, Shared, Concrete, Exact}
use Rattle.walrus_walks.specs.walrus_forms.declared.value.RefType.{RefType}
use Rattle.walrus_walks.specs.walrus_forms.declared.value.ValType.{ValType}
use Rattle.walrus_walks.specs.walrus_forms.declared.value.ValType.TheVariants.{I32, I64, F32, F64, V128, Ref}
use Rattle.walrus_marks.specs.Named.{items_of}
use Rattle.walrus_marks.specs.walrus_walks.Events.{ref_names, val_names}
use Rattle.walrus_named_bodies.specs.walrus_file_bodies.walrus_items_into.walrus_tables_into.walrus_sections.walrus_roots.Items.{item}
use Rattle.walrus_named_bodies.specs.walrus_file_bodies.walrus_items_into.walrus_tables_into.walrus_sections.walrus_roots.declared.item.Item.{Item}
use Rattle.walrus_parse_laws.proofs.ListLemmas.{AllOf}

module _ (types : ℕ) (r : ℕ → ℕ) (P : Item → Type 0) (serves : (n : ℕ) → n < types → P (item spaces.«Type» (r n))) where
  heap_served : (nullable : Bool) (heap : HeapType) → IfSome (heap_name heap) (λ n. n < types) → AllOf P (items_of (ref_names (record { nullable = nullable; heap_type = renamed_heap r heap })))
  heap_served nullable (Abstract ty) h = tt
  heap_served nullable (Shared ty) h = tt
  heap_served nullable (Concrete n) h = (serves n h, tt)
  heap_served nullable (Exact n) h = (serves n h, tt)

  pub ref_served : (ty from : RefType) → ty ≡ renamed_ref r from → RefBelow types from → AllOf P (items_of (ref_names ty))
  ref_served ty from e h = subst (λ (t : RefType). AllOf P (items_of (ref_names t))) (sym e) (heap_served from.nullable from.heap_type h)

  renamed_served : (from : ValType) → ValueBelow types from → AllOf P (items_of (val_names (renamed_value r from)))
  renamed_served I32 h = tt
  renamed_served I64 h = tt
  renamed_served F32 h = tt
  renamed_served F64 h = tt
  renamed_served V128 h = tt
  renamed_served (Ref ty) h = heap_served ty.nullable ty.heap_type h

  pub value_served : (ty from : ValType) → ty ≡ renamed_value r from → ValueBelow types from → AllOf P (items_of (val_names ty))
  value_served ty from e h = subst (λ (t : ValType). AllOf P (items_of (val_names t))) (sym e) (renamed_served from h)
