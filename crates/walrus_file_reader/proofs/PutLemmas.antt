-- Lemmas: what is read of the section of each id is the grammar's section, put into the state.
use Rattle.std.specs.Prelude.{ℕ, ◌-◌, ◌≡◌, List, length, fold, Result, Ok, Err, refl}
use Rattle.std.proofs.Common.{ap, sym, ◌∙◌, subst}
use Rattle.wasm_reader.specs.Cursor.{Cursor}
use Rattle.wasm_features.specs.declared.WasmFeatures.{WasmFeatures}
use Rattle.walrus_section_frames.specs.walrus_known_sections.wasm_sections.wasm_grammar.wasm_formats.Stops.{Stop, Parsing, ◌>>=◌}
use Rattle.walrus_section_frames.specs.walrus_known_sections.wasm_sections.wasm_grammar.wasm_formats.Formats.{Format}
use Rattle.walrus_section_frames.specs.walrus_known_sections.wasm_sections.wasm_grammar.wasm_formats.Joined.{built, checked}
use Rattle.walrus_section_frames.specs.walrus_known_sections.wasm_sections.wasm_grammar.wasm_formats.Lists.{vec, parse_entries}
use Rattle.walrus_section_frames.specs.walrus_known_sections.wasm_sections.wasm_grammar.wasm_formats.Wholes.{u32, whole, sized}
use Rattle.walrus_section_frames.specs.walrus_known_sections.wasm_sections.wasm_file_formats.Counted.{counted}
use Rattle.walrus_section_frames.specs.walrus_known_sections.wasm_sections.wasm_grammar.States.{State}
use Rattle.walrus_section_frames.specs.walrus_known_sections.wasm_sections.TypeSection.{GroupEntry, group, add_group, type_group}
use Rattle.walrus_section_frames.specs.walrus_known_sections.wasm_sections.Entities.{import_entry, add_import, function_entry, add_function, table_entry, add_table, memory_entry, add_memory, tag_entry, add_tag, global_entry, add_global}
use Rattle.walrus_section_frames.specs.walrus_known_sections.wasm_sections.Exports.{export_entry, add_export, start_function, set_start}
use Rattle.walrus_section_frames.specs.walrus_known_sections.wasm_sections.Segments.{element_entry, add_element, data_entry, add_data}
use Rattle.walrus_section_frames.specs.walrus_known_sections.wasm_sections.Sections.{Section, CustomSection, TypeSection, ImportSection, FunctionSection, TableSection, MemorySection, TagSection, GlobalSection, ExportSection, StartSection, ElementSection, DataCountSection, CodeSection, DataSection, custom_once, types_once, imports_once, functions_once, tables_once, memories_once, tags_once, globals_once, exports_once, start_once, elements_once, count_once, code_once, data_once, list_of, custom, add_custom, code, set_bodies, set_count, data_test, put}
use Rattle.walrus_section_reader.specs.declared.fault.Fault.{Fault}
use Rattle.walrus_section_reader.specs.Parses.{Parses}
use Rattle.walrus_section_reader.specs.Repeats.{same_parse}
use Rattle.walrus_section_reader.specs.Steps.{put_in, stepped, stepped_whole, whole_by, sized_by, vec_by, step_of, entries_by, whole_steps, sized_steps, vec_steps_are, steps_are}
use Rattle.walrus_type_readers.specs.Groups.{parse_group, put_group}
use Rattle.walrus_section_frames.specs.Customs.{custom_put}
use Rattle.walrus_file_reader.specs.Contents.{code_put, data_put, section_put}

abbrev put_section : State → ℕ → Section × List ℕ → Parsing State
put_section s end y = Ok (put s (end - length y.1) y.0, y.1)

abbrev put_part : {A : Type 0} → (ℕ → A → State) → ℕ → A × List ℕ → Parsing State
put_part put_value end x = Ok (put_value (end - length x.1) x.0, x.1)

-- a section that is put in by what it is built of
built_put : {A : Type 0} (f : Format A) (into : A → Section) (once : (x y : A) → into x ≡ into y → x ≡ y) (s : State) (end : ℕ) (put_value : ℕ → A → State) (bytes : List ℕ)
    → ((n : ℕ) (x : A) → put s n (into x) ≡ put_value n x) → ((built f into once).parse bytes >>= put_section s end) ≡ (f.parse bytes >>= put_part put_value end)
built_put {A} f into once s end put_value bytes same = go (f.parse bytes)
  where
    as_section : A × List ℕ → Parsing Section
    as_section x = Ok (into x.0, x.1)

    ok : State → List ℕ → Parsing State
    ok s later = Ok (s, later)

    go : (r : Parsing A) → ((r >>= as_section) >>= put_section s end) ≡ (r >>= put_part put_value end)
    go (Ok x) = ap (λ (z : State). ok z x.1) (same (end - length x.1) x.0)
    go (Err e) = refl

-- what fills its contents
whole_value : {A : Type 0} (f : Format A) (put_value : A → State) (bytes : List ℕ) → stepped (sized (whole f)) put_value bytes ≡ sized_by (whole_by (stepped f put_value)) bytes
whole_value f put_value bytes =
    let all : stepped_whole (whole f) put_value ≡ whole_by (stepped f put_value) = λ i b. whole_steps f put_value b i in
    sized_steps (whole f) put_value bytes ∙ ap (λ (p : List ℕ → Result State Stop). sized_by p bytes) all

-- a list of entries
list_value : {A : Type 0} (add : State → A → State) (entry : State → Format A) (s : State) (bytes : List ℕ)
    → stepped (list_of add entry s) (λ xs. fold add s xs) bytes ≡ sized_by (whole_by (vec_by (step_of add entry) s)) bytes
list_value add entry s bytes =
    let all : stepped (vec add entry s) (λ xs. fold add s xs) ≡ vec_by (step_of add entry) s = λ i b. sym (vec_steps_are add entry s b) i in
    whole_value (vec add entry s) (λ xs. fold add s xs) bytes ∙ ap (λ (p : List ℕ → Parsing State). sized_by (whole_by p) bytes) all

-- and one whose count is tested
counted_go : (features : WasmFeatures) (s : State) (r : Parsing ℕ)
    → ((r >>= λ n. parse_entries add_data (data_entry features) n.0 s n.1) >>= put_in (λ xs. fold add_data s xs)) ≡ (r >>= λ n. entries_by (step_of add_data (data_entry features)) n.0 s n.1)
counted_go features s (Ok n) = sym (steps_are add_data (data_entry features) n.0 s n.1)
counted_go features s (Err e) = refl

counted_value : (features : WasmFeatures) (s : State) (bytes : List ℕ)
    → stepped (sized (whole (counted add_data (data_entry features) (data_test s.data_count) s))) (λ xs. fold add_data s xs) bytes ≡ sized_by (whole_by (data_put features s)) bytes
counted_value features s bytes =
    let f = counted add_data (data_entry features) (data_test s.data_count) s in
    let all : stepped f (λ xs. fold add_data s xs) ≡ data_put features s = λ i b. counted_go features s ((checked u32 (data_test s.data_count)).parse b) i in
    whole_value f (λ xs. fold add_data s xs) bytes ∙ ap (λ (p : List ℕ → Parsing State). sized_by (whole_by p) bytes) all

-- a group is read as the state has it
group_go : (s : State) (r : Parsing GroupEntry) → ((r >>= put_in type_group) >>= put_in (put_group s)) ≡ (r >>= put_in (add_group s))
group_go s (Ok g) = refl
group_go s (Err e) = refl

abbrev pub group_step : WasmFeatures → State → List ℕ → Parsing State
group_step features s bytes = parse_group features s bytes >>= put_in (put_group s)

group_steps : (features : WasmFeatures) → group_step features ≡ step_of add_group (group features)
group_steps features = λ i s b. group_go s ((group features s).parse b) i

module _ (features : WasmFeatures) (end : ℕ) (s : State) (bytes : List ℕ) where
  pub customs : custom_put s bytes ≡ section_put features end s 0 bytes
  customs = sym (built_put (sized custom) CustomSection custom_once s end (λ _ x. add_custom s x) bytes (λ n x. refl))

  pub types : sized_by (whole_by (vec_by (group_step features) s)) bytes ≡ section_put features end s 1 bytes
  types = ap (λ (step : State → List ℕ → Parsing State). sized_by (whole_by (vec_by step s)) bytes) (group_steps features)
      ∙ sym (built_put (list_of add_group (group features) s) TypeSection types_once s end (λ _ x. fold add_group s x) bytes (λ n x. refl) ∙ list_value add_group (group features) s bytes)

  pub imports : sized_by (whole_by (vec_by (step_of add_import (import_entry features)) s)) bytes ≡ section_put features end s 2 bytes
  imports = sym (built_put (list_of add_import (import_entry features) s) ImportSection imports_once s end (λ _ x. fold add_import s x) bytes (λ n x. refl) ∙ list_value add_import (import_entry features) s bytes)

  pub functions : sized_by (whole_by (vec_by (step_of add_function function_entry) s)) bytes ≡ section_put features end s 3 bytes
  functions = sym (built_put (list_of add_function function_entry s) FunctionSection functions_once s end (λ _ x. fold add_function s x) bytes (λ n x. refl) ∙ list_value add_function function_entry s bytes)

  pub tables : sized_by (whole_by (vec_by (step_of add_table (table_entry features)) s)) bytes ≡ section_put features end s 4 bytes
  tables = sym (built_put (list_of add_table (table_entry features) s) TableSection tables_once s end (λ _ x. fold add_table s x) bytes (λ n x. refl) ∙ list_value add_table (table_entry features) s bytes)

  pub memories : sized_by (whole_by (vec_by (step_of add_memory memory_entry) s)) bytes ≡ section_put features end s 5 bytes
  memories = sym (built_put (list_of add_memory memory_entry s) MemorySection memories_once s end (λ _ x. fold add_memory s x) bytes (λ n x. refl) ∙ list_value add_memory memory_entry s bytes)

  pub tags : sized_by (whole_by (vec_by (step_of add_tag tag_entry) s)) bytes ≡ section_put features end s 13 bytes
  tags = sym (built_put (list_of add_tag tag_entry s) TagSection tags_once s end (λ _ x. fold add_tag s x) bytes (λ n x. refl) ∙ list_value add_tag tag_entry s bytes)

  pub globals : sized_by (whole_by (vec_by (step_of add_global (global_entry features)) s)) bytes ≡ section_put features end s 6 bytes
  globals = sym (built_put (list_of add_global (global_entry features) s) GlobalSection globals_once s end (λ _ x. fold add_global s x) bytes (λ n x. refl) ∙ list_value add_global (global_entry features) s bytes)

  pub exports : sized_by (whole_by (vec_by (step_of add_export export_entry) s)) bytes ≡ section_put features end s 7 bytes
  exports = sym (built_put (list_of add_export export_entry s) ExportSection exports_once s end (λ _ x. fold add_export s x) bytes (λ n x. refl) ∙ list_value add_export export_entry s bytes)

  pub start : sized_by (whole_by (stepped (start_function s) (set_start s))) bytes ≡ section_put features end s 8 bytes
  start = sym (built_put (sized (whole (start_function s))) StartSection start_once s end (λ _ x. set_start s x) bytes (λ n x. refl) ∙ whole_value (start_function s) (set_start s) bytes)

  pub elements : sized_by (whole_by (vec_by (step_of add_element (element_entry features)) s)) bytes ≡ section_put features end s 9 bytes
  elements = sym (built_put (list_of add_element (element_entry features) s) ElementSection elements_once s end (λ _ x. fold add_element s x) bytes (λ n x. refl) ∙ list_value add_element (element_entry features) s bytes)

  pub data_count : sized_by (whole_by (stepped u32 (set_count s))) bytes ≡ section_put features end s 12 bytes
  data_count = sym (built_put (sized (whole u32)) DataCountSection count_once s end (λ _ x. set_count s x) bytes (λ n x. refl) ∙ whole_value u32 (set_count s) bytes)

  pub codes : code_put end s bytes ≡ section_put features end s 10 bytes
  codes = sym (built_put (sized (whole (code s))) CodeSection code_once s end (λ n x. set_bodies s n x) bytes (λ n x. refl))

  pub segments : sized_by (whole_by (data_put features s)) bytes ≡ section_put features end s 11 bytes
  segments = sym (built_put (sized (whole (counted add_data (data_entry features) (data_test s.data_count) s))) DataSection data_once s end (λ _ x. fold add_data s x) bytes (λ n x. refl) ∙ counted_value features s bytes)

-- what an arm reads, where it is taken
pub put_as : (features : WasmFeatures) (end : ℕ) (s : State) (id k : ℕ) (p : List ℕ → Parsing State) (view : Unit {0} → State) (old new : Cursor) (result : Result (Unit {0}) Fault) → id ≡ k
    → ((b : List ℕ) → p b ≡ section_put features end s k b) → Parses p view old new result → Parses (section_put features end s id) view old new result
put_as features end s id k p view old new result e same h =
    subst (λ (n : ℕ). Parses (section_put features end s n) view old new result) (sym e) (same_parse p (section_put features end s k) view old new result same h)
