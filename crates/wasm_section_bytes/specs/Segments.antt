-- The shortest spellings of element and data segments, of given flags.
use Rattle.std.specs.Prelude.{ℕ, ◌==◌, ◌≤◌, List, [], ◌++◌, length, refl}
use Rattle.std.proofs.Common.{arith}
use Rattle.wasm_features.specs.declared.WasmFeatures.{WasmFeatures}
use Rattle.wasm_reader.specs.declared.error.ErrorKind.TheVariants as kinds
use Rattle.wasm_reader.specs.Text.{SpellsSized, sized_bytes_at}
use Rattle.wasm_reader.specs.Spellings.{sized_bytes_taken}
use Rattle.wasm_reader.specs.Finals.{sized_bytes_final}
use Rattle.walrus_forms.specs.declared.value.RefType.{RefType}
use Rattle.walrus_forms.specs.declared.value.AbstractHeapType.TheVariants as heaps
use Rattle.walrus_forms.specs.Values.{nullable}
use Rattle.wasm_formats.specs.declared.fault.Space.TheVariants as spaces
use Rattle.wasm_formats.specs.declared.fault.Limited.TheVariants as limits
use Rattle.wasm_formats.specs.Stops.{Read}
use Rattle.wasm_operators.specs.Bytes.{unsigned_bytes}
use Rattle.wasm_operators.specs.Laws.{WritesShortest}
use Rattle.wasm_operators.specs.Numbers.{u32_short}
use Rattle.wasm_operators.specs.Vecs.{parts_small, parts_short}
use Rattle.wasm_format_bytes.specs.Writers.{Writer, leaf_writer, u32_writer, literal_writer, never_writer, after_writer, built_writer, either_writer}
use Rattle.wasm_format_bytes.specs.Lists.{vec_writer}
use Rattle.wasm_grammar.specs.Modules.{Expr}
use Rattle.wasm_grammar.specs.Values.{index}
use Rattle.wasm_grammar.specs.Exprs.{expr}
use Rattle.wasm_grammar.specs.States.{State, type_count, known, has_room}
use Rattle.wasm_grammar_bytes.specs.Values.{ref_type_writer}
use Rattle.wasm_sections.specs.Segments.{table_is_wide, memory_is_wide, into_table, into_memory, named_table, named_memory, pass, functions, expressions, kind_of_functions, typed, ElementForm, ActiveFunctions, PassiveFunctions, FunctionsInto, DeclaredFunctions, ActiveExpressions, PassiveExpressions, ExpressionsInto, DeclaredExpressions, once_0, once_1, once_2, once_3, once_4, once_5, once_6, once_7, element_flags, element_form, element_entry, contents, DataForm, ActiveData, PassiveData, DataInto, data_once_0, data_once_1, data_once_2, data_flags, data_form, data_entry}
use Rattle.wasm_section_bytes.specs.Exprs.{expr_writer, offset_writer}
use Rattle.wasm_section_bytes.specs.Entries.{index_writer, room_writer}

-- ---- where an active segment goes

abbrev pub into_table_writer : (features : WasmFeatures) (s : State) (n : ℕ) → Writer (into_table features s n)
into_table_writer features s n = offset_writer features (table_is_wide s n) (known s)

abbrev pub into_memory_writer : (features : WasmFeatures) (s : State) (n : ℕ) → Writer (into_memory features s n)
into_memory_writer features s n = offset_writer features (memory_is_wide s n) (known s)

abbrev pub named_table_writer : (features : WasmFeatures) (s : State) → Writer (named_table features s)
named_table_writer features s = after_writer (index_writer spaces.Table (length s.filled.tables)) (λ n. into_table_writer features s n)

abbrev pub named_memory_writer : (features : WasmFeatures) (s : State) → Writer (named_memory features s)
named_memory_writer features s = after_writer (index_writer spaces.Memory (length s.filled.memories)) (λ n. into_memory_writer features s n)

-- ---- what is in an element segment

abbrev pub functions_writer : (s : State) → Writer (functions s)
functions_writer s = vec_writer pass (λ _. index spaces.Function (length s.filled.functions)) (λ _. index_writer spaces.Function (length s.filled.functions)) tt

abbrev pub expressions_writer : (features : WasmFeatures) (s : State) → Writer (expressions features s)
expressions_writer features s = vec_writer pass (λ _. expr features (known s)) (λ _. expr_writer features (known s)) tt

abbrev pub kind_writer : (s : State) → Writer (kind_of_functions s)
kind_writer s = after_writer (literal_writer 0 (Read kinds.BadByte)) (λ _. functions_writer s)

abbrev pub typed_writer : (features : WasmFeatures) (s : State) → Writer (typed features s)
typed_writer features s = after_writer (ref_type_writer features (type_count s)) (λ _. expressions_writer features s)

-- ---- element segments; what is told of one in another form stands for none

abbrev pub back_0 : ElementForm → Expr × List ℕ
back_0 (ActiveFunctions x) = x
back_0 _ = ([], [])

abbrev pub back_1 : ElementForm → Unit {0} × List ℕ
back_1 (PassiveFunctions x) = x
back_1 _ = (tt, [])

abbrev pub back_2 : ElementForm → (ℕ × Expr) × (Unit {0} × List ℕ)
back_2 (FunctionsInto x) = x
back_2 _ = ((0, []), (tt, []))

abbrev pub back_3 : ElementForm → Unit {0} × List ℕ
back_3 (DeclaredFunctions x) = x
back_3 _ = (tt, [])

abbrev pub back_4 : ElementForm → Expr × List Expr
back_4 (ActiveExpressions x) = x
back_4 _ = ([], [])

abbrev pub back_5 : ElementForm → RefType × List Expr
back_5 (PassiveExpressions x) = x
back_5 _ = (nullable heaps.Func, [])

abbrev pub back_6 : ElementForm → (ℕ × Expr) × (RefType × List Expr)
back_6 (ExpressionsInto x) = x
back_6 _ = ((0, []), (nullable heaps.Func, []))

abbrev pub back_7 : ElementForm → RefType × List Expr
back_7 (DeclaredExpressions x) = x
back_7 _ = (nullable heaps.Func, [])

abbrev pub element_flags_writer : (s : State) → Writer (element_flags s)
element_flags_writer s = record { fits = u32_writer.fits; bytes = u32_writer.bytes; written = u32_writer.written; short = u32_writer.short }

abbrev pub element_form_writer : (features : WasmFeatures) (s : State) (flags : ℕ) → Writer (element_form features s flags)
element_form_writer features s flags =
    either_writer (built_writer (after_writer (into_table_writer features s 0) (λ _. functions_writer s)) ActiveFunctions once_0 back_0 (λ x. refl))
    (either_writer (built_writer (kind_writer s) PassiveFunctions once_1 back_1 (λ x. refl))
    (either_writer (built_writer (after_writer (named_table_writer features s) (λ _. kind_writer s)) FunctionsInto once_2 back_2 (λ x. refl))
    (either_writer (built_writer (kind_writer s) DeclaredFunctions once_3 back_3 (λ x. refl))
    (either_writer (built_writer (after_writer (into_table_writer features s 0) (λ _. expressions_writer features s)) ActiveExpressions once_4 back_4 (λ x. refl))
    (either_writer (built_writer (typed_writer features s) PassiveExpressions once_5 back_5 (λ x. refl))
    (either_writer (built_writer (after_writer (named_table_writer features s) (λ _. typed_writer features s)) ExpressionsInto once_6 back_6 (λ x. refl))
    (either_writer (built_writer (typed_writer features s) DeclaredExpressions once_7 back_7 (λ x. refl)) (never_writer (Read kinds.BadByte))
    (flags == 7)) (flags == 6)) (flags == 5)) (flags == 4)) (flags == 3)) (flags == 2)) (flags == 1)) (flags == 0)

abbrev pub element_writer : (features : WasmFeatures) (s : State) → Writer (element_entry features s)
element_writer features s = room_writer (has_room s spaces.Element) limits.Elements (after_writer (element_flags_writer s) (λ flags. element_form_writer features s flags))

-- ---- data segments

abbrev pub sized_bytes : List ℕ → List ℕ
sized_bytes bytes = unsigned_bytes (length bytes) ++ bytes

pub sized_short : WritesShortest SpellsSized sized_bytes
sized_short others bytes small h =
    let parts = parts_small others h.size bytes h.joined small in
    let size = u32_short h.size (length bytes) parts.0 h.spells in
    let same : length bytes ≤ length bytes = omega arith in
    (record { size = unsigned_bytes (length bytes); spells = size.0; joined = refl }, parts_short others h.size bytes (unsigned_bytes (length bytes)) bytes h.joined size.1 same)

abbrev pub contents_writer : Writer contents
contents_writer = leaf_writer sized_bytes_at SpellsSized sized_bytes_taken sized_bytes_final sized_bytes sized_short

abbrev pub data_back_0 : DataForm → Expr × List ℕ
data_back_0 (ActiveData x) = x
data_back_0 _ = ([], [])

abbrev pub data_back_1 : DataForm → List ℕ
data_back_1 (PassiveData x) = x
data_back_1 _ = []

abbrev pub data_back_2 : DataForm → (ℕ × Expr) × List ℕ
data_back_2 (DataInto x) = x
data_back_2 _ = ((0, []), [])

abbrev pub data_flags_writer : (s : State) → Writer (data_flags s)
data_flags_writer s = record { fits = u32_writer.fits; bytes = u32_writer.bytes; written = u32_writer.written; short = u32_writer.short }

abbrev pub data_form_writer : (features : WasmFeatures) (s : State) (flags : ℕ) → Writer (data_form features s flags)
data_form_writer features s flags =
    either_writer (built_writer (after_writer (into_memory_writer features s 0) (λ _. contents_writer)) ActiveData data_once_0 data_back_0 (λ x. refl))
    (either_writer (built_writer contents_writer PassiveData data_once_1 data_back_1 (λ x. refl))
    (either_writer (built_writer (after_writer (named_memory_writer features s) (λ _. contents_writer)) DataInto data_once_2 data_back_2 (λ x. refl)) (never_writer (Read kinds.BadByte))
    (flags == 2)) (flags == 1)) (flags == 0)

abbrev pub data_writer : (features : WasmFeatures) (s : State) → Writer (data_entry features s)
data_writer features s = room_writer (has_room s spaces.Data) limits.Data (after_writer (data_flags_writer s) (λ flags. data_form_writer features s flags))
