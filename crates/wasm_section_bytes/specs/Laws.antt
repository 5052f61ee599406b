-- Laws of the shortest spellings of what sections hold.
use Rattle.std.specs.Prelude.{ℕ, ◌≤◌, ◌≡◌, Bool, List, length}
use Rattle.wasm_features.specs.declared.WasmFeatures.{WasmFeatures}
use Rattle.wasm_formats.specs.Formats.{Format, Small}
use Rattle.wasm_format_bytes.specs.Writers.{Writer}
use Rattle.wasm_grammar.specs.Exprs.{Known}
use Rattle.wasm_grammar.specs.States.{State}
use Rattle.wasm_grammar_bytes.specs.Laws.{SpellsShortest}
use Rattle.wasm_sections.specs.Modules.{FileEntry, state_of, file}
use Rattle.wasm_section_bytes.specs.TypeBytes.{sub_writer}
use Rattle.wasm_section_bytes.specs.Exprs.{expr_writer, offset_writer}
use Rattle.wasm_section_bytes.specs.Entries.{import_writer, export_writer, function_writer, table_writer, memory_writer, tag_writer, global_writer}
use Rattle.wasm_section_bytes.specs.Segments.{element_writer, data_writer}
use Rattle.wasm_section_bytes.specs.Placed.{Placed, group_placed, types_placed, code_section_placed}
use Rattle.wasm_section_bytes.specs.Files.{bodies_of, FileFits, file_bytes, file_placed, file_written, file_short, file_same, file_bodies}
use Rattle.wasm_section_bytes.specs.Sections.{custom_writer, imports_writer, functions_writer, tables_writer, memories_writer, tags_writer, globals_writer, exports_writer, start_section_writer, elements_writer, data_count_writer, data_section_writer}

-- what is written is a shortest spelling
abbrev pub WritesLeast : {A : Type 0} {f : Format A} → Writer f → Type 0
WritesLeast {A} {f} w = SpellsShortest f.spells w.fits w.bytes

pub least : {A : Type 0} {f : Format A} (w : Writer f) → WritesLeast w
least w = record { written = w.written; short = w.short }

-- subtypes, constant expressions, imports, exports, own items, segments of given flags
pub record EntriesAreShortest : Type 0 where
  pub subtypes : (features : WasmFeatures) → WritesLeast (sub_writer features)
  pub expressions : (features : WasmFeatures) (k : Known) → WritesLeast (expr_writer features k)
  pub offsets : (features : WasmFeatures) (wide : Bool) (k : Known) → WritesLeast (offset_writer features wide k)
  pub imports : (features : WasmFeatures) (s : State) → WritesLeast (import_writer features s)
  pub exports : (s : State) → WritesLeast (export_writer s)
  pub functions : (s : State) → WritesLeast (function_writer s)
  pub tables : (features : WasmFeatures) (s : State) → WritesLeast (table_writer features s)
  pub memories : (s : State) → WritesLeast (memory_writer s)
  pub tags : (s : State) → WritesLeast (tag_writer s)
  pub globals : (features : WasmFeatures) (s : State) → WritesLeast (global_writer features s)
  pub elements : (features : WasmFeatures) (s : State) → WritesLeast (element_writer features s)
  pub segments : (features : WasmFeatures) (s : State) → WritesLeast (data_writer features s)

pub entries_are_shortest : EntriesAreShortest
entries_are_shortest = record {
  subtypes = λ features. least (sub_writer features);
  expressions = λ features k. least (expr_writer features k);
  offsets = λ features wide k. least (offset_writer features wide k);
  imports = λ features s. least (import_writer features s);
  exports = λ s. least (export_writer s);
  functions = λ s. least (function_writer s);
  tables = λ features s. least (table_writer features s);
  memories = λ s. least (memory_writer s);
  tags = λ s. least (tag_writer s);
  globals = λ features s. least (global_writer features s);
  elements = λ features s. least (element_writer features s);
  segments = λ features s. least (data_writer features s);
}

-- the contents of sections, with their size, but for types and code
pub record ContentsAreShortest : Type 0 where
  pub custom : WritesLeast custom_writer
  pub imports : (features : WasmFeatures) (s : State) → WritesLeast (imports_writer features s)
  pub functions : (s : State) → WritesLeast (functions_writer s)
  pub tables : (features : WasmFeatures) (s : State) → WritesLeast (tables_writer features s)
  pub memories : (s : State) → WritesLeast (memories_writer s)
  pub tags : (s : State) → WritesLeast (tags_writer s)
  pub globals : (features : WasmFeatures) (s : State) → WritesLeast (globals_writer features s)
  pub exports : (s : State) → WritesLeast (exports_writer s)
  pub start : (s : State) → WritesLeast (start_section_writer s)
  pub elements : (features : WasmFeatures) (s : State) → WritesLeast (elements_writer features s)
  pub data_count : WritesLeast data_count_writer
  pub segments : (features : WasmFeatures) (s : State) → WritesLeast (data_section_writer features s)

pub contents_are_shortest : ContentsAreShortest
contents_are_shortest = record {
  custom = least custom_writer;
  imports = λ features s. least (imports_writer features s);
  functions = λ s. least (functions_writer s);
  tables = λ features s. least (tables_writer features s);
  memories = λ s. least (memories_writer s);
  tags = λ s. least (tags_writer s);
  globals = λ features s. least (globals_writer features s);
  exports = λ s. least (exports_writer s);
  start = λ s. least (start_section_writer s);
  elements = λ features s. least (elements_writer features s);
  data_count = least data_count_writer;
  segments = λ features s. least (data_section_writer features s);
}

-- values that hold their own places: with the places of what is written, which is a shortest spelling, they are the same
pub record PlacedIsShortest {A S : Type 0} {entry : S → Format A} (w : Placed entry) : Type 0 where
  pub same : (s : S) (x : A) → w.bare (w.placed s x) ≡ w.bare x
  pub written : (s : S) (x : A) → w.fits x → (entry s).spells (w.bytes x) (w.placed s x)
  pub short : (s : S) (others : List ℕ) (x : A) → Small others → (entry s).spells others x → w.fits x × (length (w.bytes x) ≤ length others)

pub placed_least : {A S : Type 0} {entry : S → Format A} (w : Placed entry) → PlacedIsShortest w
placed_least w = record { same = w.same; written = w.written; short = w.short }

-- groups of types, and the contents of the sections of types and code, with their size
pub record PlacedAreShortest : Type 0 where
  pub groups : (features : WasmFeatures) → PlacedIsShortest (group_placed features)
  pub types : (features : WasmFeatures) → PlacedIsShortest (types_placed features)
  pub code : PlacedIsShortest code_section_placed

pub placed_are_shortest : PlacedAreShortest
placed_are_shortest = record {
  groups = λ features. placed_least (group_placed features);
  types = λ features. placed_least (types_placed features);
  code = placed_least code_section_placed;
}

-- the sections of a file within its limits have a spelling, the shortest one, and with its places they fill the same module and have the same bodies
pub record FilesAreShortest : Type 0 where
  pub written : (features : WasmFeatures) (x : FileEntry) → FileFits features x → (file features).spells (file_bytes features x) (file_placed features x)
  pub short : (features : WasmFeatures) (others : List ℕ) (x : FileEntry) → Small others → (file features).spells others x → FileFits features x × (length (file_bytes features x) ≤ length others)
  pub filled : (features : WasmFeatures) (x : FileEntry) → (state_of (file_placed features x)).filled ≡ (state_of x).filled
  pub bodies : (features : WasmFeatures) (x : FileEntry) → bodies_of (state_of (file_placed features x)).bodies ≡ bodies_of (state_of x).bodies

pub files_are_shortest : FilesAreShortest
files_are_shortest = record { written = file_written; short = file_short; filled = file_same; bodies = file_bodies }
