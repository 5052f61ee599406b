-- Sections, each at the state that those before it left (Core Specification, binary format: modules).
use Rattle.std.specs.Prelude.{ℕ, ◌+◌, ◌-◌, ◌<◌, ◌≡◌, ◌==◌, ◌&&◌, nat_lt, nat_le, List, [], ◌∷◌, ◌++◌, length, map, fold, Option, Some, None, if◌then◌else◌}
use Rattle.std.proofs.Common.{ap, subst, sym, arith}
use Rattle.std.proofs.lemmas.List.{length-append}
use Rattle.wasm_features.specs.declared.WasmFeatures.{WasmFeatures}
use Rattle.wasm_grammar.specs.wasm_formats.declared.fault.Limited.TheVariants as limits
use Rattle.wasm_grammar.specs.wasm_formats.Stops.{Trouble, SectionOrder, Count, Limit}
use Rattle.wasm_grammar.specs.wasm_formats.Formats.{Format, Whole}
use Rattle.wasm_grammar.specs.wasm_formats.Bytes.{byte, never, either}
use Rattle.wasm_grammar.specs.wasm_formats.Joined.{checked, after, built, ends_at}
use Rattle.wasm_grammar.specs.wasm_formats.Wholes.{u32, whole, all_bytes, followed, sized}
use Rattle.wasm_grammar.specs.wasm_formats.Lists.{vec, listed}
use Rattle.wasm_file_formats.specs.Counted.{counted}
use Rattle.wasm_grammar.specs.Values.{must, name, run}
use Rattle.wasm_grammar.specs.States.{Chunk, State}
use Rattle.wasm_sections.specs.TypeSection.{GroupEntry, group, add_group}
use Rattle.wasm_sections.specs.Entities.{ImportEntry, import_entry, add_import, function_entry, add_function, TableEntry, table_entry, add_table, MemoryType, memory_entry, add_memory, TagType, tag_entry, add_tag, GlobalEntry, global_entry, add_global}
use Rattle.wasm_sections.specs.Exports.{ExportEntry, export_entry, add_export, start_function, set_start}
use Rattle.wasm_sections.specs.Segments.{ElementEntry, element_entry, add_element, DataEntry, data_entry, add_data}

-- ---- code: a body for each of the module's own functions; bodies are read later, here they are so many bytes

abbrev pub own_functions : State → ℕ
own_functions s = length s.filled.functions - s.imported

-- a body's size, with the place at which the body begins, and its bytes
abbrev pub ChunkEntry : Type 0
ChunkEntry = (ℕ × ℕ) × List ℕ

abbrev pub body_size : Format ℕ
body_size = checked u32 (λ n. must (nat_le n 7654321) (Limit limits.Body))

abbrev pub chunk_entry : ℕ → Format ChunkEntry
chunk_entry place = after (ends_at place body_size) (λ size. run size.1)

-- the place behind a body
abbrev pub behind_chunk : ℕ → ChunkEntry → ℕ
behind_chunk place x = x.0.0 + x.0.1

-- the function count, with the place behind it, and as many bodies; places count from the function count
abbrev pub CodeEntry : Type 0
CodeEntry = (ℕ × ℕ) × List ChunkEntry

abbrev pub function_count : State → Format ℕ
function_count s = checked u32 (λ n. must (n == own_functions s) Count)

abbrev pub code : State → Format CodeEntry
code s = after (ends_at 0 (function_count s)) (λ count. listed behind_chunk chunk_entry count.1 count.0)

abbrev pub chunk_of : ChunkEntry → Chunk
chunk_of x = record { place = x.0.0; bytes = x.1 }

-- how many bytes the contents take, which end at this offset
abbrev pub code_size : CodeEntry → ℕ
code_size c = fold behind_chunk c.0.0 c.1

abbrev pub set_bodies : State → ℕ → CodeEntry → State
set_bodies s end c = record s { bodies = Some (map chunk_of c.1); code_start = end - code_size c }

-- ---- the data count, and data that agree with it

abbrev pub set_count : State → ℕ → State
set_count s n = record s { data_count = Some n }

abbrev pub data_test : Option ℕ → ℕ → Option Trouble
data_test None n = None
data_test (Some count) n = must (n == count) Count

-- ---- custom sections: a name and the rest

abbrev pub CustomEntry : Type 0
CustomEntry = List ℕ × List ℕ

abbrev pub custom : Whole CustomEntry
custom = followed name (λ _. all_bytes)

abbrev pub add_custom : State → CustomEntry → State
add_custom s x = record s { filled = record s.filled { customs = s.filled.customs ++ Some (record { name = x.0; bytes = x.1 }) ∷ [] } }

-- ---- sections

pub data Section : Type 0 where
  CustomSection : CustomEntry → Section
  TypeSection : List GroupEntry → Section
  ImportSection : List ImportEntry → Section
  FunctionSection : List ℕ → Section
  TableSection : List TableEntry → Section
  MemorySection : List MemoryType → Section
  TagSection : List TagType → Section
  GlobalSection : List GlobalEntry → Section
  ExportSection : List ExportEntry → Section
  StartSection : ℕ → Section
  ElementSection : List ElementEntry → Section
  DataCountSection : ℕ → Section
  CodeSection : CodeEntry → Section
  DataSection : List DataEntry → Section

pub custom_once : (x y : CustomEntry) → CustomSection x ≡ CustomSection y → x ≡ y
custom_once x y e = cc

pub types_once : (x y : List GroupEntry) → TypeSection x ≡ TypeSection y → x ≡ y
types_once x y e = cc

pub imports_once : (x y : List ImportEntry) → ImportSection x ≡ ImportSection y → x ≡ y
imports_once x y e = cc

pub functions_once : (x y : List ℕ) → FunctionSection x ≡ FunctionSection y → x ≡ y
functions_once x y e = cc

pub tables_once : (x y : List TableEntry) → TableSection x ≡ TableSection y → x ≡ y
tables_once x y e = cc

pub memories_once : (x y : List MemoryType) → MemorySection x ≡ MemorySection y → x ≡ y
memories_once x y e = cc

pub tags_once : (x y : List TagType) → TagSection x ≡ TagSection y → x ≡ y
tags_once x y e = cc

pub globals_once : (x y : List GlobalEntry) → GlobalSection x ≡ GlobalSection y → x ≡ y
globals_once x y e = cc

pub exports_once : (x y : List ExportEntry) → ExportSection x ≡ ExportSection y → x ≡ y
exports_once x y e = cc

pub start_once : (x y : ℕ) → StartSection x ≡ StartSection y → x ≡ y
start_once x y e = cc

pub elements_once : (x y : List ElementEntry) → ElementSection x ≡ ElementSection y → x ≡ y
elements_once x y e = cc

pub count_once : (x y : ℕ) → DataCountSection x ≡ DataCountSection y → x ≡ y
count_once x y e = cc

pub code_once : (x y : CodeEntry) → CodeSection x ≡ CodeSection y → x ≡ y
code_once x y e = cc

pub data_once : (x y : List DataEntry) → DataSection x ≡ DataSection y → x ≡ y
data_once x y e = cc

-- the id of a section
abbrev pub id_of : Section → ℕ
id_of (CustomSection x) = 0
id_of (TypeSection x) = 1
id_of (ImportSection x) = 2
id_of (FunctionSection x) = 3
id_of (TableSection x) = 4
id_of (MemorySection x) = 5
id_of (TagSection x) = 13
id_of (GlobalSection x) = 6
id_of (ExportSection x) = 7
id_of (StartSection x) = 8
id_of (ElementSection x) = 9
id_of (DataCountSection x) = 12
id_of (CodeSection x) = 10
id_of (DataSection x) = 11

-- a size, and entries to the last of so many bytes
abbrev pub list_of : {A : Type 0} → (State → A → State) → (State → Format A) → State → Format (List A)
list_of add entry s = sized (whole (vec add entry s))

-- the contents of the section of an id, at the state before it
abbrev pub section : WasmFeatures → State → ℕ → Format Section
section features s id =
    either (id == 0) (built (sized custom) CustomSection custom_once)
    (either (id == 1) (built (list_of add_group (group features) s) TypeSection types_once)
    (either (id == 2) (built (list_of add_import (import_entry features) s) ImportSection imports_once)
    (either (id == 3) (built (list_of add_function function_entry s) FunctionSection functions_once)
    (either (id == 4) (built (list_of add_table (table_entry features) s) TableSection tables_once)
    (either (id == 5) (built (list_of add_memory memory_entry s) MemorySection memories_once)
    (either (id == 13) (built (list_of add_tag tag_entry s) TagSection tags_once)
    (either (id == 6) (built (list_of add_global (global_entry features) s) GlobalSection globals_once)
    (either (id == 7) (built (list_of add_export export_entry s) ExportSection exports_once)
    (either (id == 8) (built (sized (whole (start_function s))) StartSection start_once)
    (either (id == 9) (built (list_of add_element (element_entry features) s) ElementSection elements_once)
    (either (id == 12) (built (sized (whole u32)) DataCountSection count_once)
    (either (id == 10) (built (sized (whole (code s))) CodeSection code_once)
    (either (id == 11) (built (sized (whole (counted add_data (data_entry features) (data_test s.data_count) s))) DataSection data_once)
    (never SectionOrder))))))))))))))

-- ---- their order

-- where the section of an id stands: tags behind memories, the data count before the code
abbrev pub rank : ℕ → ℕ
rank id =
    if id == 13 then 6
    else (if id == 6 then 7
    else (if id == 7 then 8
    else (if id == 8 then 9
    else (if id == 9 then 10
    else (if id == 12 then 11
    else (if id == 10 then 12
    else (if id == 11 then 13
    else id)))))))

-- custom sections stand anywhere, others behind those before them in the order, each once
abbrev pub order_test : ℕ → ℕ → Option Trouble
order_test last id = if id == 0 then None else must (nat_le id 13 && nat_lt last (rank id)) SectionOrder

-- an id and its section, with the offset behind it
abbrev pub SectionEntry : Type 0
SectionEntry = ℕ × (ℕ × Section)

abbrev pub section_entry : WasmFeatures → State → Format SectionEntry
section_entry features s = ends_at s.offset (after (checked byte (order_test s.last)) (λ id. section features s id))

-- ---- the state behind a section

abbrev pub put : State → ℕ → Section → State
put s end (CustomSection x) = add_custom s x
put s end (TypeSection x) = fold add_group s x
put s end (ImportSection x) = fold add_import s x
put s end (FunctionSection x) = fold add_function s x
put s end (TableSection x) = fold add_table s x
put s end (MemorySection x) = fold add_memory s x
put s end (TagSection x) = fold add_tag s x
put s end (GlobalSection x) = fold add_global s x
put s end (ExportSection x) = fold add_export s x
put s end (StartSection x) = set_start s x
put s end (ElementSection x) = fold add_element s x
put s end (DataCountSection x) = set_count s x
put s end (CodeSection x) = set_bodies s end x
put s end (DataSection x) = fold add_data s x

abbrev pub ends_with : ℕ → ℕ → State → State
ends_with id end s = record s { last = if id == 0 then s.last else rank id; offset = end }

abbrev pub next : State → SectionEntry → State
next s x = ends_with x.1.0 x.0 (put s x.0 x.1.1)

pub section_takes : (features : WasmFeatures) (s : State) (bytes : List ℕ) (x : SectionEntry) → (section_entry features s).spells bytes x → 0 < length bytes
section_takes features s bytes x h =
    let parts = h.0 in
    let first : parts.0 ≡ x.1.0 ∷ [] = parts.3.0 in
    let size : length bytes ≡ length parts.0 + length parts.1 = subst (λ (l : List ℕ). length l ≡ length parts.0 + length parts.1) (sym parts.2) (length-append parts.0 parts.1) in
    let one : length parts.0 ≡ 1 = ap length first in
    omega (arith, size, one)
