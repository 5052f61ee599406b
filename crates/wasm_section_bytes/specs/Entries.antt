-- The shortest spellings of what is imported and exported, and of the entries of the function, table, memory, tag and global sections.
use Rattle.std.specs.Prelude.{ℕ, ◌==◌, nat_lt, Bool, Option, Some, None, length, refl}
use Rattle.std.proofs.Common.{arith}
use Rattle.std.specs.Option.{unwrap_or}
use Rattle.wasm_features.specs.declared.WasmFeatures.{WasmFeatures}
use Rattle.wasm_reader.specs.declared.error.ErrorKind.TheVariants as kinds
use Rattle.walrus_forms.specs.declared.value.AbstractHeapType.TheVariants as heaps
use Rattle.walrus_forms.specs.declared.value.ValType.TheVariants.{I32}
use Rattle.walrus_forms.specs.Values.{nullable}
use Rattle.wasm_formats.specs.declared.fault.Space.{Space}
use Rattle.wasm_formats.specs.declared.fault.Space.TheVariants as spaces
use Rattle.wasm_formats.specs.declared.fault.Limited.{Limited}
use Rattle.wasm_formats.specs.declared.fault.Limited.TheVariants as limits
use Rattle.wasm_formats.specs.Stops.{Trouble, Read, Index}
use Rattle.wasm_formats.specs.Formats.{Format}
use Rattle.wasm_formats.specs.Parts.{optional, some_once}
use Rattle.wasm_formats.specs.Wholes.{u32}
use Rattle.wasm_file_formats.specs.Rooms.{full, if_room}
use Rattle.wasm_format_bytes.specs.Writers.{Writer, u32_writer, byte_writer, literal_writer, nothing_writer, never_writer, checked_writer, after_writer, pair_checked_writer, built_writer, either_writer}
use Rattle.wasm_format_bytes.specs.Lists.{led_writer}
use Rattle.wasm_grammar.specs.Values.{must, index, Limits, has_page_size, table_limits, memory_limits}
use Rattle.wasm_grammar.specs.States.{State, type_count, known, function_type, has_room, room_test}
use Rattle.wasm_grammar_bytes.specs.Values.{name_writer, byte_below_writer, value_type_writer, ref_type_writer, limits_writer}
use Rattle.wasm_sections.specs.Entities.{TableType, table_type, mutability, GlobalType, global_type, TagType, tag_type, MemoryType, Entity, FunctionOf, TableOf, MemoryOf, GlobalOf, TagOf, function_once, table_once, memory_once, global_once, tag_once, entity, import_entry, function_entry, initialised, table_apart, table_some, table_wants, table_entry, memory_entry, tag_entry, global_entry}
use Rattle.wasm_sections.specs.Exports.{kind_space, name_test, item_test, export_entry, start_function}
use Rattle.wasm_section_bytes.specs.Exprs.{expr_writer}

-- ---- the same bytes, whether there is room or not

abbrev pub full_writer : {A : Type 0} {f : Format A} (of : Limited) → Writer f → Writer (full of f)
full_writer of w = record { fits = w.fits; bytes = w.bytes; written = w.written; short = w.short }

abbrev pub room_writer : {A : Type 0} {f : Format A} (room : Bool) (of : Limited) → Writer f → Writer (if_room room of f)
room_writer room of w = either_writer w (full_writer of w) room

-- ---- the types of items

abbrev pub index_writer : (space : Space) (count : ℕ) → Writer (index space count)
index_writer space count = checked_writer u32_writer (λ n. must (nat_lt n count) (Index space))

abbrev pub function_type_writer : (s : State) → Writer (function_type s)
function_type_writer s = record { fits = u32_writer.fits; bytes = u32_writer.bytes; written = u32_writer.written; short = u32_writer.short }

abbrev pub table_limits_writer : Writer table_limits
table_limits_writer = let w = limits_writer 8 in record { fits = w.fits; bytes = w.bytes; written = w.written; short = w.short }

abbrev pub table_type_writer : (features : WasmFeatures) (s : State) → Writer (table_type features s)
table_type_writer features s = after_writer (ref_type_writer features (type_count s)) (λ _. table_limits_writer)

abbrev pub mutability_writer : Writer mutability
mutability_writer = record { fits = byte_writer.fits; bytes = byte_writer.bytes; written = byte_writer.written; short = byte_writer.short }

abbrev pub global_type_writer : (features : WasmFeatures) (s : State) → Writer (global_type features s)
global_type_writer features s = after_writer (value_type_writer features (type_count s)) (λ _. mutability_writer)

abbrev pub tag_type_writer : (s : State) → Writer (tag_type s)
tag_type_writer s = after_writer (literal_writer 0 (Read kinds.BadByte)) (λ _. function_type_writer s)

-- the logarithm of a page size that may be missing
abbrev pub page_size_writer : (there : Bool) → Writer (optional there u32)
page_size_writer there = either_writer (built_writer u32_writer (λ n. Some n) some_once (λ o. unwrap_or o 0) (λ n. refl)) (nothing_writer None) there

abbrev pub memory_limits_writer : (room : Option Trouble) → Writer (memory_limits room)
memory_limits_writer room =
    let w = after_writer (limits_writer 16) (λ l. page_size_writer (has_page_size l.0)) in record { fits = w.fits; bytes = w.bytes; written = w.written; short = w.short }

-- ---- imports

-- what is told of an entity of another kind stands for none
abbrev pub function_back : Entity → ℕ
function_back (FunctionOf ty) = ty
function_back _ = 0

abbrev pub no_limits : Limits
no_limits = (0, (0, None))

abbrev pub table_back : Entity → TableType
table_back (TableOf ty) = ty
table_back _ = (nullable heaps.Func, no_limits)

abbrev pub memory_back : Entity → MemoryType
memory_back (MemoryOf ty) = ty
memory_back _ = (no_limits, None)

abbrev pub global_back : Entity → GlobalType
global_back (GlobalOf ty) = ty
global_back _ = (I32, 0)

abbrev pub tag_back : Entity → TagType
tag_back (TagOf ty) = ty
tag_back _ = (tt, 0)

abbrev pub entity_writer : (features : WasmFeatures) (s : State) (kind : ℕ) → Writer (entity features s kind)
entity_writer features s kind =
    either_writer (built_writer (function_type_writer s) FunctionOf function_once function_back (λ x. refl))
    (either_writer (built_writer (table_type_writer features s) TableOf table_once table_back (λ x. refl))
    (either_writer (built_writer (memory_limits_writer None) MemoryOf memory_once memory_back (λ x. refl))
    (either_writer (built_writer (global_type_writer features s) GlobalOf global_once global_back (λ x. refl))
    (either_writer (built_writer (tag_type_writer s) TagOf tag_once tag_back (λ x. refl)) (never_writer (Read kinds.BadByte)) (kind == 4)) (kind == 3)) (kind == 2)) (kind == 1))
    (kind == 0)

abbrev pub import_writer : (features : WasmFeatures) (s : State) → Writer (import_entry features s)
import_writer features s =
    let w = after_writer name_writer (λ _. after_writer name_writer (λ _. after_writer (byte_below_writer 5) (λ kind. entity_writer features s kind))) in
    record { fits = w.fits; bytes = w.bytes; written = w.written; short = w.short }

-- ---- exports, the start function

abbrev pub export_writer : (s : State) → Writer (export_entry s)
export_writer s =
    pair_checked_writer (after_writer name_writer (λ _. byte_below_writer 5)) (λ _. u32_writer) (λ e. name_test s e.0.0) (λ e. item_test s (kind_space e.0.1) e.1)

abbrev pub start_writer : (s : State) → Writer (start_function s)
start_writer s = index_writer spaces.Function (length s.filled.functions)

-- ---- own items

abbrev pub function_writer : (s : State) → Writer (function_entry s)
function_writer s = checked_writer (function_type_writer s) (λ _. room_test s spaces.Function)

abbrev pub initialised_writer : (features : WasmFeatures) (s : State) → Writer (initialised features s)
initialised_writer features s =
    after_writer (literal_writer 0 (Read kinds.BadByte)) (λ _. after_writer (table_type_writer features s) (λ _. expr_writer features (known s)))

abbrev pub table_writer : (features : WasmFeatures) (s : State) → Writer (table_entry features s)
table_writer features s =
    room_writer (has_room s spaces.Table) limits.Tables
    (led_writer 0x40 (omega arith) (initialised_writer features s) (table_type_writer features s) (table_apart features s) (table_some features s) (table_wants features s))

abbrev pub memory_writer : (s : State) → Writer (memory_entry s)
memory_writer s = memory_limits_writer (room_test s spaces.Memory)

abbrev pub tag_writer : (s : State) → Writer (tag_entry s)
tag_writer s = room_writer (has_room s spaces.Tag) limits.Tags (tag_type_writer s)

abbrev pub global_writer : (features : WasmFeatures) (s : State) → Writer (global_entry features s)
global_writer features s = room_writer (has_room s spaces.Global) limits.Globals (after_writer (global_type_writer features s) (λ _. expr_writer features (known s)))
