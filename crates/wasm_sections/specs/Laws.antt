-- Laws of the sections of a file: which bytes are a module up to what is in its bodies, and where reading stops before bodies are read.
use Rattle.std.specs.Prelude.{◌≤◌, ◌≡◌, ◌⊎◌, false, List, ◌++◌, ℕ, length}
use Rattle.wasm_features.specs.declared.WasmFeatures.{WasmFeatures}
use Rattle.wasm_types.specs.wasm_composite_types.wasm_reader.Laws.{IsPrefixFree}
use Rattle.wasm_grammar.specs.wasm_formats.Stops.{Stop, can_end}
use Rattle.wasm_grammar.specs.wasm_formats.Formats.{Whole, Small}
use Rattle.wasm_grammar.specs.wasm_formats.Bytes.{byte}
use Rattle.wasm_grammar.specs.wasm_formats.Joined.{Behind, checked}
use Rattle.wasm_grammar.specs.wasm_formats.Lists.{vec}
use Rattle.wasm_grammar.specs.wasm_formats.Wholes.{u32, whole}
use Rattle.wasm_file_formats.specs.Counted.{counted}
use Rattle.wasm_file_formats.specs.Decided.{IsDecided, SizeIsCut, AmongIsCut}
use Rattle.wasm_file_formats.specs.Free.{Ruled}
use Rattle.wasm_grammar.specs.Exprs.{Known, expr}
use Rattle.wasm_grammar.specs.States.{State, nothing_yet}
use Rattle.wasm_sections.specs.TypeSection.{group, add_group}
use Rattle.wasm_sections.specs.Entities.{import_entry, add_import, function_entry, add_function, table_entry, add_table, memory_entry, add_memory, tag_entry, add_tag, global_entry, add_global}
use Rattle.wasm_sections.specs.Exports.{export_entry, add_export, start_function}
use Rattle.wasm_sections.specs.Segments.{element_entry, add_element, data_entry, add_data}
use Rattle.wasm_sections.specs.Sections.{custom, code, data_test, order_test, section_entry, section_takes, next}
use Rattle.wasm_sections.specs.Modules.{magic, header, FileEntry, state_of, has_all, sections_behind, file}

-- the bytes spell a file whose sections meet the rules, and which leaves this state
abbrev pub ReadsSections : WasmFeatures → List ℕ → State → Type 0
ReadsSections features bytes s = (x : FileEntry) × ((file features).spells bytes x × (file features).rules x) × (state_of x ≡ s)

-- all before a place stands there and meets the rules, and there it is refused
abbrev pub StopsSections : WasmFeatures → List ℕ → Stop → Type 0
StopsSections features bytes e = (file features).stops bytes e

-- bytes leave one state at most
abbrev pub SectionsReadOnce : Type 0
SectionsReadOnce = (features : WasmFeatures) (bytes : List ℕ) (s t : State) → ReadsSections features bytes s → ReadsSections features bytes t → s ≡ t

-- what reads doesn't stop
abbrev pub SectionsDontStop : Type 0
SectionsDontStop = (features : WasmFeatures) (bytes : List ℕ) (s : State) (e : Stop) → ReadsSections features bytes s → StopsSections features bytes e → ⊥

-- what doesn't read stops
abbrev pub SectionsReadOrStop : Type 0
SectionsReadOrStop = (features : WasmFeatures) (bytes : List ℕ) → Small bytes → ((s : State) × ReadsSections features bytes s) ⊎ ((e : Stop) × StopsSections features bytes e)

-- with one fault, at one place
abbrev pub SectionsStopOnce : Type 0
SectionsStopOnce = (features : WasmFeatures) (bytes : List ℕ) (e f : Stop) → StopsSections features bytes e → StopsSections features bytes f → e ≡ f

-- which lies in the bytes, or at their end
abbrev pub SectionsStopInside : Type 0
SectionsStopInside = (features : WasmFeatures) (bytes : List ℕ) (e : Stop) → StopsSections features bytes e → e.left ≤ length bytes

-- ---- what stands before a fault decides it

-- the file ends in its header
abbrev pub HeaderIsCut : List ℕ → Type 0
HeaderIsCut bytes = (rest : List ℕ) × (bytes ++ rest ≡ magic)

-- an id that may stand there, and a size that is cut short, or passes the end of the bytes
abbrev pub SectionIsCut : State → List ℕ → Type 0
SectionIsCut s bytes = Behind (checked byte (order_test s.last)) bytes (λ id later. SizeIsCut later)

-- the file ends too early: in its header, or in a section, or counts are missing at its end
abbrev pub FileIsCut : WasmFeatures → List ℕ → Type 0
FileIsCut features bytes =
    HeaderIsCut bytes
    ⊎ (Behind header bytes (λ _ later. AmongIsCut next (section_entry features) (section_takes features) SectionIsCut nothing_yet later)
    ⊎ ((x : FileEntry) × ((sections_behind features).spells bytes x × (sections_behind features).rules x) × (has_all x ≡ false)))

-- bytes behind a fault don't change it, unless the file ends too early: a missing byte inside a section, bytes that are left over there and counts
-- that differ are final, too
abbrev pub SectionsStopForGood : Type 0
SectionsStopForGood = (features : WasmFeatures) (bytes : List ℕ) (e : Stop) → Small bytes → StopsSections features bytes e → FileIsCut features bytes ⊎ IsDecided (StopsSections features) bytes e

-- nor do bytes behind it in its section, its end aside, and a limit, which may give way to a fault of an entry that was cut
abbrev pub IsFinalIn : {A : Type 0} → Whole A → Type 0
IsFinalIn f = (bytes : List ℕ) (e : Stop) → Small bytes → f.stops bytes e → can_end e.trouble ≡ false → IsDecided f.stops bytes e

pub record ContentsStopForGood : Type 0 where
  pub custom : IsFinalIn custom
  pub types : (features : WasmFeatures) (s : State) → IsFinalIn (whole (vec add_group (group features) s))
  pub imports : (features : WasmFeatures) (s : State) → IsFinalIn (whole (vec add_import (import_entry features) s))
  pub functions : (s : State) → IsFinalIn (whole (vec add_function function_entry s))
  pub tables : (features : WasmFeatures) (s : State) → IsFinalIn (whole (vec add_table (table_entry features) s))
  pub memories : (s : State) → IsFinalIn (whole (vec add_memory memory_entry s))
  pub tags : (s : State) → IsFinalIn (whole (vec add_tag tag_entry s))
  pub globals : (features : WasmFeatures) (s : State) → IsFinalIn (whole (vec add_global (global_entry features) s))
  pub exports : (s : State) → IsFinalIn (whole (vec add_export export_entry s))
  pub start : (s : State) → IsFinalIn (whole (start_function s))
  pub elements : (features : WasmFeatures) (s : State) → IsFinalIn (whole (vec add_element (element_entry features) s))
  pub data_count : IsFinalIn (whole u32)
  pub code : (s : State) → IsFinalIn (whole (code s))
  pub segments : (features : WasmFeatures) (s : State) → IsFinalIn (whole (counted add_data (data_entry features) (data_test s.data_count) s))

-- no entry that meets the rules is a proper front of another's bytes, at any point of the file, nor is a section
pub record EntriesArePrefixFree : Type 0 where
  pub groups : (features : WasmFeatures) (s : State) → IsPrefixFree (Ruled (group features s))
  pub imports : (features : WasmFeatures) (s : State) → IsPrefixFree (Ruled (import_entry features s))
  pub functions : (s : State) → IsPrefixFree (Ruled (function_entry s))
  pub tables : (features : WasmFeatures) (s : State) → IsPrefixFree (Ruled (table_entry features s))
  pub memories : (s : State) → IsPrefixFree (Ruled (memory_entry s))
  pub tags : (s : State) → IsPrefixFree (Ruled (tag_entry s))
  pub globals : (features : WasmFeatures) (s : State) → IsPrefixFree (Ruled (global_entry features s))
  pub exports : (s : State) → IsPrefixFree (Ruled (export_entry s))
  pub elements : (features : WasmFeatures) (s : State) → IsPrefixFree (Ruled (element_entry features s))
  pub data_segments : (features : WasmFeatures) (s : State) → IsPrefixFree (Ruled (data_entry features s))
  pub constants : (features : WasmFeatures) (k : Known) → IsPrefixFree (Ruled (expr features k))
  pub sections : (features : WasmFeatures) (s : State) → IsPrefixFree (Ruled (section_entry features s))
