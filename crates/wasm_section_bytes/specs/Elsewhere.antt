-- Lemmas: sections are spelled alike wherever they stand in the file, and leave the same behind.
use Rattle.std.specs.Prelude.{ℕ, ◌≡◌, ◌==◌, Bool, true, false, List, [], ◌∷◌, fold, Option, Some, None, refl}
use Rattle.std.specs.List.{filter_map}
use Rattle.std.proofs.Common.{ap, sym, ◌∙◌, subst, inl, inr}
use Rattle.wasm_features.specs.declared.WasmFeatures.{WasmFeatures}
use Rattle.wasm_formats.specs.Formats.{Format}
use Rattle.wasm_formats.specs.Bytes.{either_type}
use Rattle.wasm_formats.specs.Lists.{SpellsEntries}
use Rattle.walrus_forms.specs.Kinds.{Kind}
use Rattle.walrus_forms.specs.Records.{TypeGroup}
use Rattle.wasm_grammar.specs.States.{Chunk, State}
use Rattle.wasm_sections.specs.TypeNames.{kind_of}
use Rattle.wasm_sections.specs.TypeSection.{Measured, measured, behind, placed, type_group, GroupEntry, group, add_group}
use Rattle.wasm_sections.specs.Entities.{Entity, FunctionOf, TableOf, MemoryOf, GlobalOf, TagOf, ImportEntry, import_entry, add_import, function_entry, add_function, TableEntry, table_entry, add_table, memory_entry, add_memory, tag_entry, add_tag, global_entry, add_global}
use Rattle.wasm_sections.specs.Exports.{export_entry, add_export}
use Rattle.wasm_sections.specs.Segments.{element_entry, add_element, data_entry, add_data}
use Rattle.wasm_sections.specs.Sections.{Section, section, list_of}
use Rattle.wasm_section_bytes.specs.Placed.{member_placed, list_placed, group_at, start_of}

-- one of two forms, each taken to another
pub either_both : {P Q R S : Type 0} (c : Bool) → (P → R) → (Q → S) → either_type c P Q → either_type c R S
either_both true p q h = p h
either_both false p q h = q h

-- the state with other places in it: the bodies that were read, where they began, and how far the file was read
module _ (bodies : Option (List Chunk)) (start offset : ℕ) where
  abbrev pub elsewhere : State → State
  elsewhere s = record s { bodies = bodies; code_start = start; offset = offset }

  -- entries that look at no places
  module _ {A : Type 0} (add : State → A → State) (entry : State → Format A) (steady : (s : State) (x : A) → add (elsewhere s) x ≡ elsewhere (add s x))
      (spelled : (s : State) (bytes : List ℕ) (x : A) → (entry s).spells bytes x → (entry (elsewhere s)).spells bytes x) where
    pub entries_elsewhere : (s : State) (bytes : List ℕ) (xs : List A) → SpellsEntries add entry s bytes xs → SpellsEntries add entry (elsewhere s) bytes xs
    entries_elsewhere s bytes [] h = h
    entries_elsewhere s bytes (x ∷ xs) h =
        (h.0, h.1, h.2, spelled s h.0 x h.3, subst (λ (t : State). SpellsEntries add entry t h.1 xs) (sym (steady s x)) (entries_elsewhere (add s x) h.1 xs h.4))

    pub list_elsewhere : (s : State) (bytes : List ℕ) (xs : List A) → (list_of add entry s).spells bytes xs → (list_of add entry (elsewhere s)).spells bytes xs
    list_elsewhere s bytes xs h = (h.0, h.1, h.2, h.3, (h.4.0, h.4.1, h.4.2, h.4.3, entries_elsewhere s h.4.1 xs h.4.4))

  pub fold_elsewhere : {A : Type 0} (add : State → A → State) (steady : (s : State) (x : A) → add (elsewhere s) x ≡ elsewhere (add s x)) (s : State) (xs : List A)
      → fold add (elsewhere s) xs ≡ elsewhere (fold add s xs)
  fold_elsewhere add steady s [] = refl
  fold_elsewhere add steady s (x ∷ xs) = ap (λ (t : State). fold add t xs) (steady s x) ∙ fold_elsewhere add steady (add s x) xs

  pub import_steady : (s : State) (x : ImportEntry) → add_import (elsewhere s) x ≡ elsewhere (add_import s x)
  import_steady s x = by_entity x.1.1.1
    where
      by_entity : (e : Entity) → add_import (elsewhere s) (x.0, (x.1.0, (x.1.1.0, e))) ≡ elsewhere (add_import s (x.0, (x.1.0, (x.1.1.0, e))))
      by_entity (FunctionOf ty) = refl
      by_entity (TableOf ty) = refl
      by_entity (MemoryOf ty) = refl
      by_entity (GlobalOf ty) = refl
      by_entity (TagOf ty) = refl

  pub table_steady : (s : State) (x : TableEntry) → add_table (elsewhere s) x ≡ elsewhere (add_table s x)
  table_steady s (inl x) = refl
  table_steady s (inr ty) = refl

  -- the contents of a section are spelled there too
  pub section_elsewhere : (features : WasmFeatures) (s : State) (id : ℕ) (bytes : List ℕ) (x : Section) → (section features s id).spells bytes x → (section features (elsewhere s) id).spells bytes x
  section_elsewhere features s id bytes x =
      either_both (id == 0) (λ h. h)
      (either_both (id == 1) (λ h. (h.0, h.1, list_elsewhere add_group (group features) (λ s x. refl) (λ s b x h. h) s bytes h.0 h.2))
      (either_both (id == 2) (λ h. (h.0, h.1, list_elsewhere add_import (import_entry features) import_steady (λ s b x h. h) s bytes h.0 h.2))
      (either_both (id == 3) (λ h. (h.0, h.1, list_elsewhere add_function function_entry (λ s x. refl) (λ s b x h. h) s bytes h.0 h.2))
      (either_both (id == 4) (λ h. (h.0, h.1, list_elsewhere add_table (table_entry features) table_steady (λ s b x h. h) s bytes h.0 h.2))
      (either_both (id == 5) (λ h. (h.0, h.1, list_elsewhere add_memory memory_entry (λ s x. refl) (λ s b x h. h) s bytes h.0 h.2))
      (either_both (id == 13) (λ h. (h.0, h.1, list_elsewhere add_tag tag_entry (λ s x. refl) (λ s b x h. h) s bytes h.0 h.2))
      (either_both (id == 6) (λ h. (h.0, h.1, list_elsewhere add_global (global_entry features) (λ s x. refl) (λ s b x h. h) s bytes h.0 h.2))
      (either_both (id == 7) (λ h. (h.0, h.1, list_elsewhere add_export export_entry (λ s x. refl) (λ s b x h. h) s bytes h.0 h.2))
      (either_both (id == 8) (λ h. h)
      (either_both (id == 9) (λ h. (h.0, h.1, list_elsewhere add_element (element_entry features) (λ s x. refl) (λ s b x h. h) s bytes h.0 h.2))
      (either_both (id == 12) (λ h. h)
      (either_both (id == 10) (λ h. h)
      (either_both (id == 11)
      (λ h. (h.0, h.1, (h.2.0, h.2.1, h.2.2, h.2.3, (h.2.4.0, h.2.4.1, h.2.4.2, h.2.4.3, entries_elsewhere add_data (data_entry features) (λ s x. refl) (λ s b x h. h) s h.2.4.1 h.0 h.2.4.4))))
      (λ h. h))))))))))))))

-- ---- groups with other places are the same types

abbrev pub kind_in : Measured → Option Kind
kind_in x = kind_of x.1

pub kinds_placed : (features : WasmFeatures) (one two three : ℕ) (xs : List Measured)
    → filter_map kind_in (placed one (list_placed behind (measured features) (member_placed features) two xs)) ≡ filter_map kind_in (placed three xs)
kinds_placed features one two three [] = refl
kinds_placed features one two three (x ∷ xs) =
    ap (first_kind (kind_of x.1)) (kinds_placed features ((member_placed features).placed two x).0 ((member_placed features).placed two x).0 x.0 xs)
  where
    first_kind : Option Kind → List Kind → List Kind
    first_kind None ks = ks
    first_kind (Some k) ks = k ∷ ks

pub group_the_same : (features : WasmFeatures) (g : GroupEntry) → type_group (group_at features g) ≡ type_group g
group_the_same features (inl g) = ap (λ (ks : List Kind). explicit_group ks) (kinds_placed features (start_of g) (start_of g) g.0.0 g.1)
  where
    explicit_group : List Kind → TypeGroup
    explicit_group ks = record { marked = true; kinds = ks }
group_the_same features (inr x) = refl
