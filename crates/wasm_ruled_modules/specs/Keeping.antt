-- Lemmas: what each entry keeps true of a module is true of a module whose sections were read.
use Rattle.std.specs.Prelude.{ℕ, ◌<◌, ◌≤◌, ◌≡◌, nat_lt, List, [], ◌∷◌, fold, None, refl}
use Rattle.std.proofs.Common.{sym, subst, arith}
use Rattle.std.proofs.lemmas.Bool.{ltb-true}
use Rattle.wasm_features.specs.declared.WasmFeatures.{WasmFeatures}
use Rattle.wasm_formats.specs.Stops.{SectionOrder}
use Rattle.wasm_formats.specs.Formats.{Format}
use Rattle.wasm_formats.specs.Lists.{SpellsEntries, EntryRules}
use Rattle.wasm_formats.specs.Wholes.{whole, sized}
use Rattle.wasm_file_formats.specs.Counted.{counted}
use Rattle.wasm_module_rules.specs.wasm_modules.wasm_body_grammar.wasm_grammar.Modules.{Module, empty}
use Rattle.wasm_module_rules.specs.wasm_modules.wasm_body_grammar.wasm_grammar.States.{State, nothing_yet}
use Rattle.wasm_module_rules.specs.wasm_modules.wasm_body_grammar.wasm_grammar.Values.{must}
use Rattle.wasm_module_rules.specs.Keeps.{must_holds}
use Rattle.wasm_module_rules.specs.wasm_modules.wasm_sections.TypeSection.{GroupEntry, group, add_group}
use Rattle.wasm_module_rules.specs.wasm_modules.wasm_sections.Entities.{ImportEntry, import_entry, add_import, function_entry, add_function, TableEntry, table_entry, add_table, MemoryType, memory_entry, add_memory, TagType, tag_entry, add_tag, GlobalEntry, global_entry, add_global}
use Rattle.wasm_module_rules.specs.wasm_modules.wasm_sections.Exports.{ExportEntry, export_entry, add_export, start_function, set_start}
use Rattle.wasm_module_rules.specs.wasm_modules.wasm_sections.Segments.{ElementEntry, element_entry, add_element, DataEntry, data_entry, add_data}
use Rattle.wasm_module_rules.specs.wasm_modules.wasm_sections.Sections.{CustomEntry, add_custom, data_test, list_of, Section, CustomSection, TypeSection, ImportSection, FunctionSection, TableSection, MemorySection, TagSection, GlobalSection, ExportSection, StartSection, ElementSection, DataCountSection, CodeSection, DataSection, types_once, imports_once, functions_once, tables_once, memories_once, tags_once, globals_once, exports_once, elements_once, data_once, id_of, section, order_test, SectionEntry, section_entry, put, ends_with, next}
use Rattle.wasm_module_rules.specs.wasm_modules.wasm_sections.Ids.{section_id}
use Rattle.wasm_module_rules.specs.wasm_modules.wasm_sections.Modules.{FileEntry, file, state_of}

-- an entry that is spelled and meets its rules keeps this true
abbrev pub Keeps : {A : Type 0} → (Module → Type 0) → (State → A → State) → (State → Format A) → Type 0
Keeps {A} P add entry = (s : State) (bytes : List ℕ) (x : A) → (entry s).spells bytes x → (entry s).rules x → P s.filled → P (add s x).filled

-- where each section keeps it true for its place in the order, and custom sections for each
pub record EntriesKeepAt (features : WasmFeatures) (P : ℕ → Module → Type 0) : Type 0 where
  pub customs : (place : ℕ) (s : State) (x : CustomEntry) → P place s.filled → P place (add_custom s x).filled
  pub groups : Keeps (P 1) add_group (group features)
  pub imports : Keeps (P 2) add_import (import_entry features)
  pub functions : Keeps (P 3) add_function function_entry
  pub tables : Keeps (P 4) add_table (table_entry features)
  pub memories : Keeps (P 5) add_memory memory_entry
  pub tags : Keeps (P 6) add_tag tag_entry
  pub globals : Keeps (P 7) add_global (global_entry features)
  pub exports : Keeps (P 8) add_export export_entry
  pub start : (s : State) (n : ℕ) → (start_function s).rules n → P 9 s.filled → P 9 (set_start s n).filled
  pub elements : Keeps (P 10) add_element (element_entry features)
  pub segments : Keeps (P 13) add_data (data_entry features)

abbrev pub EntriesKeep : WasmFeatures → (Module → Type 0) → Type 0
EntriesKeep features P = EntriesKeepAt features (λ _ m. P m)

module _ (features : WasmFeatures) (P : ℕ → Module → Type 0) (moves : (a b : ℕ) (m : Module) → a ≤ b → P a m → P b m) (keep : EntriesKeepAt features P) where
  kept : {A : Type 0} (place : ℕ) (add : State → A → State) (entry : State → Format A) → Keeps (P place) add entry → (xs : List A) (s : State) (bytes : List ℕ)
      → SpellsEntries add entry s bytes xs → EntryRules add entry s xs → P place s.filled → P place (fold add s xs).filled
  kept place add entry one [] s bytes h r p = p
  kept place add entry one (x ∷ xs) s bytes h r p = kept place add entry one xs (add s x) h.1 h.4 r.1 (one s h.0 x h.3 r.0 p)

  -- a section that stands behind the last one
  moved_to : (s : State) (place : ℕ) → must (nat_lt s.last place) SectionOrder ≡ None → P s.last s.filled → P place s.filled
  moved_to s place o p = let lt : s.last < place = ltb-true s.last place (must_holds (nat_lt s.last place) SectionOrder o) in moves s.last place s.filled (omega (arith, lt)) p

  list_kept : {A : Type 0} (place : ℕ) (add : State → A → State) (entry : State → Format A) → Keeps (P place) add entry → (xs : List A) (s : State) (bytes : List ℕ)
      → (list_of add entry s).spells bytes xs → (list_of add entry s).rules xs → must (nat_lt s.last place) SectionOrder ≡ None → P s.last s.filled → P place (fold add s xs).filled
  list_kept place add entry one xs s bytes h r o p = let inner = h.4 in kept place add entry one xs s inner.1 inner.4 r (moved_to s place o p)

  data_kept : (xs : List DataEntry) (s : State) (bytes : List ℕ) → (sized (whole (counted add_data (data_entry features) (data_test s.data_count) s))).spells bytes xs
      → (sized (whole (counted add_data (data_entry features) (data_test s.data_count) s))).rules xs → must (nat_lt s.last 13) SectionOrder ≡ None → P s.last s.filled → P 13 (fold add_data s xs).filled
  data_kept xs s bytes h r o p = let inner = h.4 in kept 13 add_data (data_entry features) keep.segments xs s inner.1 inner.4 r.1 (moved_to s 13 o p)

  put_kept : (s : State) (end : ℕ) (bytes : List ℕ) (x : Section) → (section features s (id_of x)).spells bytes x → (section features s (id_of x)).rules x
      → order_test s.last (id_of x) ≡ None → P s.last s.filled → P (ends_with (id_of x) end (put s end x)).last (put s end x).filled
  put_kept s end bytes (CustomSection x) h r o p = keep.customs s.last s x p
  put_kept s end bytes (TypeSection x) h r o p =
      list_kept 1 add_group (group features) keep.groups x s bytes (subst (λ (y : List GroupEntry). (list_of add_group (group features) s).spells bytes y) (types_once h.0 x h.1) h.2) (r x refl) o p
  put_kept s end bytes (ImportSection x) h r o p =
      list_kept 2 add_import (import_entry features) keep.imports x s bytes (subst (λ (y : List ImportEntry). (list_of add_import (import_entry features) s).spells bytes y) (imports_once h.0 x h.1) h.2) (r x refl) o p
  put_kept s end bytes (FunctionSection x) h r o p =
      list_kept 3 add_function function_entry keep.functions x s bytes (subst (λ (y : List ℕ). (list_of add_function function_entry s).spells bytes y) (functions_once h.0 x h.1) h.2) (r x refl) o p
  put_kept s end bytes (TableSection x) h r o p =
      list_kept 4 add_table (table_entry features) keep.tables x s bytes (subst (λ (y : List TableEntry). (list_of add_table (table_entry features) s).spells bytes y) (tables_once h.0 x h.1) h.2) (r x refl) o p
  put_kept s end bytes (MemorySection x) h r o p =
      list_kept 5 add_memory memory_entry keep.memories x s bytes (subst (λ (y : List MemoryType). (list_of add_memory memory_entry s).spells bytes y) (memories_once h.0 x h.1) h.2) (r x refl) o p
  put_kept s end bytes (TagSection x) h r o p =
      list_kept 6 add_tag tag_entry keep.tags x s bytes (subst (λ (y : List TagType). (list_of add_tag tag_entry s).spells bytes y) (tags_once h.0 x h.1) h.2) (r x refl) o p
  put_kept s end bytes (GlobalSection x) h r o p =
      list_kept 7 add_global (global_entry features) keep.globals x s bytes (subst (λ (y : List GlobalEntry). (list_of add_global (global_entry features) s).spells bytes y) (globals_once h.0 x h.1) h.2) (r x refl) o p
  put_kept s end bytes (ExportSection x) h r o p =
      list_kept 8 add_export export_entry keep.exports x s bytes (subst (λ (y : List ExportEntry). (list_of add_export export_entry s).spells bytes y) (exports_once h.0 x h.1) h.2) (r x refl) o p
  put_kept s end bytes (StartSection x) h r o p = keep.start s x (r x refl) (moved_to s 9 o p)
  put_kept s end bytes (ElementSection x) h r o p =
      list_kept 10 add_element (element_entry features) keep.elements x s bytes (subst (λ (y : List ElementEntry). (list_of add_element (element_entry features) s).spells bytes y) (elements_once h.0 x h.1) h.2) (r x refl) o p
  put_kept s end bytes (DataCountSection x) h r o p = moved_to s 11 o p
  put_kept s end bytes (CodeSection x) h r o p = moved_to s 12 o p
  put_kept s end bytes (DataSection x) h r o p =
      data_kept x s bytes (subst (λ (y : List DataEntry). (sized (whole (counted add_data (data_entry features) (data_test s.data_count) s))).spells bytes y) (data_once h.0 x h.1) h.2) (r x refl) o p

  next_kept : (s : State) (bytes : List ℕ) (x : SectionEntry) → (section_entry features s).spells bytes x → (section_entry features s).rules x → P s.last s.filled → P (next s x).last (next s x).filled
  next_kept s bytes x h r p =
      let parts = h.0 in
      let is = section_id features s x.1.0 parts.1 x.1.1 parts.4 in
      let same = sym is in
      let order = r.0 in
      let all = put_kept s x.0 parts.1 x.1.1 (subst (λ (n : ℕ). (section features s n).spells parts.1 x.1.1) same parts.4) (subst (λ (n : ℕ). (section features s n).rules x.1.1) same r.1)
      (subst (λ (n : ℕ). order_test s.last n ≡ None) same order.1) p in
      subst (λ (n : ℕ). P (ends_with n x.0 (put s x.0 x.1.1)).last (put s x.0 x.1.1).filled) is all

  sections_kept : (xs : List SectionEntry) (s : State) (bytes : List ℕ) → SpellsEntries next (section_entry features) s bytes xs → EntryRules next (section_entry features) s xs
      → P s.last s.filled → P (fold next s xs).last (fold next s xs).filled
  sections_kept [] s bytes h r p = p
  sections_kept (x ∷ xs) s bytes h r p = sections_kept xs (next s x) h.1 h.4 r.1 (next_kept s h.0 x h.3 r.0 p)

  -- of the whole file
  pub file_kept_at : P 0 empty → (bytes : List ℕ) (x : FileEntry) → (file features).spells bytes x → (file features).rules x → P (state_of x).last (state_of x).filled
  file_kept_at p bytes x h r = let sections = r.0 in sections_kept x.1 nothing_yet h.1 h.4 sections.1 p

-- what has nothing to do with the order
pub file_kept : (features : WasmFeatures) (P : Module → Type 0) → EntriesKeep features P → P empty → (bytes : List ℕ) (x : FileEntry) → (file features).spells bytes x → (file features).rules x → P (state_of x).filled
file_kept features P keep p bytes x h r = file_kept_at features (λ _ m. P m) (λ a b m le p. p) keep p bytes x h r
