-- The shortest spellings of the contents of sections whose values hold no places; the others are in `Placed`.
use Rattle.std.specs.Prelude.{ℕ, ◌≡◌, List, true, Option, refl}
use Rattle.std.proofs.Common.{sym}
use Rattle.wasm_features.specs.declared.WasmFeatures.{WasmFeatures}
use Rattle.wasm_formats.specs.Stops.{Trouble, can_end}
use Rattle.wasm_formats.specs.Formats.{Format}
use Rattle.wasm_formats.specs.Wholes.{u32, whole, all_bytes, sized}
use Rattle.wasm_file_formats.specs.Counted.{counted}
use Rattle.wasm_file_formats.specs.Headers.{exactly}
use Rattle.wasm_format_bytes.specs.Writers.{Writer, WholeWriter, u32_writer, same_length}
use Rattle.wasm_format_bytes.specs.Lists.{vec_writer, whole_writer, followed_writer, sized_writer}
use Rattle.wasm_grammar.specs.States.{State}
use Rattle.wasm_grammar_bytes.specs.Values.{name_writer}
use Rattle.wasm_sections.specs.Entities.{import_entry, add_import, function_entry, add_function, table_entry, add_table, memory_entry, add_memory, tag_entry, add_tag, global_entry, add_global}
use Rattle.wasm_sections.specs.Exports.{export_entry, add_export, start_function}
use Rattle.wasm_sections.specs.Segments.{element_entry, add_element, data_entry, add_data}
use Rattle.wasm_sections.specs.Sections.{custom, data_test, list_of}
use Rattle.wasm_section_bytes.specs.Entries.{import_writer, export_writer, start_writer, function_writer, table_writer, memory_writer, tag_writer, global_writer}
use Rattle.wasm_section_bytes.specs.Segments.{element_writer, data_writer}

-- ---- words, counts that are tested, the rest of the bytes

abbrev pub exactly_writer : (word : List ℕ) (t : Trouble) (ends : can_end t ≡ true) → Writer (exactly word t ends)
exactly_writer word t ends = record { fits = λ _. Unit {0}; bytes = λ _. word; written = λ x h. refl; short = λ others x small h. (tt, same_length others word h) }

abbrev pub counted_writer : {A S : Type 0} (next : S → A → S) (entry : S → Format A) (w : (s : S) → Writer (entry s)) (test : ℕ → Option Trouble) (s : S) → Writer (counted next entry test s)
counted_writer next entry w test s = let v = vec_writer next entry w s in record { fits = v.fits; bytes = v.bytes; written = v.written; short = v.short }

abbrev pub rest_writer : WholeWriter all_bytes
rest_writer = record { fits = λ _. Unit {0}; bytes = λ x. x; written = λ x h. refl; short = λ others x small h. (tt, same_length others x (sym h)) }

-- ---- contents

abbrev pub list_writer : {A : Type 0} (add : State → A → State) (entry : State → Format A) (w : (s : State) → Writer (entry s)) (s : State) → Writer (list_of add entry s)
list_writer add entry w s = sized_writer (whole_writer (vec_writer add entry w s))

abbrev pub custom_writer : Writer (sized custom)
custom_writer = sized_writer (followed_writer name_writer (λ _. rest_writer))

abbrev pub imports_writer : (features : WasmFeatures) (s : State) → Writer (list_of add_import (import_entry features) s)
imports_writer features = list_writer add_import (import_entry features) (import_writer features)

abbrev pub functions_writer : (s : State) → Writer (list_of add_function function_entry s)
functions_writer = list_writer add_function function_entry function_writer

abbrev pub tables_writer : (features : WasmFeatures) (s : State) → Writer (list_of add_table (table_entry features) s)
tables_writer features = list_writer add_table (table_entry features) (table_writer features)

abbrev pub memories_writer : (s : State) → Writer (list_of add_memory memory_entry s)
memories_writer = list_writer add_memory memory_entry memory_writer

abbrev pub tags_writer : (s : State) → Writer (list_of add_tag tag_entry s)
tags_writer = list_writer add_tag tag_entry tag_writer

abbrev pub globals_writer : (features : WasmFeatures) (s : State) → Writer (list_of add_global (global_entry features) s)
globals_writer features = list_writer add_global (global_entry features) (global_writer features)

abbrev pub exports_writer : (s : State) → Writer (list_of add_export export_entry s)
exports_writer = list_writer add_export export_entry export_writer

abbrev pub start_section_writer : (s : State) → Writer (sized (whole (start_function s)))
start_section_writer s = sized_writer (whole_writer (start_writer s))

abbrev pub elements_writer : (features : WasmFeatures) (s : State) → Writer (list_of add_element (element_entry features) s)
elements_writer features = list_writer add_element (element_entry features) (element_writer features)

abbrev pub data_count_writer : Writer (sized (whole u32))
data_count_writer = sized_writer (whole_writer u32_writer)

abbrev pub data_section_writer : (features : WasmFeatures) (s : State) → Writer (sized (whole (counted add_data (data_entry features) (data_test s.data_count) s)))
data_section_writer features s = sized_writer (whole_writer (counted_writer add_data (data_entry features) (data_writer features) (data_test s.data_count) s))
