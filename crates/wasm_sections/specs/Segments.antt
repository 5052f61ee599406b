-- Element and data segments (Core Specification, binary format: element section, data section).
use Rattle.std.specs.Prelude.{ℕ, ◌≡◌, ◌==◌, ◌||◌, nat_lt, Bool, true, false, List, [], ◌∷◌, ◌++◌, length, Option, Some, None, if◌then◌else◌, slice_index_or}
use Rattle.wasm_features.specs.declared.WasmFeatures.{WasmFeatures}
use Rattle.wasm_types.specs.wasm_composite_types.wasm_reader.declared.error.ErrorKind.TheVariants as kinds
use Rattle.wasm_types.specs.wasm_composite_types.wasm_reader.Text.{sized_bytes_at, SpellsSized}
use Rattle.wasm_types.specs.wasm_composite_types.wasm_reader.Spellings.{sized_bytes_taken}
use Rattle.wasm_types.specs.wasm_composite_types.wasm_reader.Finals.{sized_bytes_final}
use Rattle.wasm_grammar.specs.walrus_forms.declared.value.AbstractHeapType.TheVariants as heaps
use Rattle.wasm_grammar.specs.walrus_forms.declared.value.RefType.{RefType}
use Rattle.wasm_grammar.specs.walrus_forms.Values.{nullable}
use Rattle.wasm_grammar.specs.wasm_formats.declared.fault.Space.TheVariants as spaces
use Rattle.wasm_grammar.specs.wasm_formats.declared.fault.Limited.TheVariants as limits
use Rattle.wasm_grammar.specs.wasm_formats.Stops.{Read, Index}
use Rattle.wasm_grammar.specs.wasm_formats.Formats.{Format, leaf}
use Rattle.wasm_grammar.specs.wasm_formats.Bytes.{literal, never, either}
use Rattle.wasm_grammar.specs.wasm_formats.Joined.{checked, after, built}
use Rattle.wasm_grammar.specs.wasm_formats.Wholes.{u32}
use Rattle.wasm_grammar.specs.wasm_formats.Lists.{vec}
use Rattle.wasm_file_formats.specs.Rooms.{if_room}
use Rattle.wasm_grammar.specs.Modules.{Expr, Table, Memory, Passive, Declared, Active, Functions, Expressions, Element, Segment}
use Rattle.wasm_grammar.specs.Values.{must, index, ref_type}
use Rattle.wasm_grammar.specs.Exprs.{expr, offset}
use Rattle.wasm_grammar.specs.States.{State, type_count, known, has_room}

-- ---- where an active segment goes

abbrev pub wide_table : Option Table → Bool
wide_table None = false
wide_table (Some t) = t.wide

abbrev pub wide_memory : Option Memory → Bool
wide_memory None = false
wide_memory (Some m) = m.wide

-- the table or memory of this number has 64-bit addresses
abbrev pub table_is_wide : State → ℕ → Bool
table_is_wide s n = wide_table (slice_index_or s.filled.tables n None)

abbrev pub memory_is_wide : State → ℕ → Bool
memory_is_wide s n = wide_memory (slice_index_or s.filled.memories n None)

abbrev pub into_table : WasmFeatures → State → ℕ → Format Expr
into_table features s n = offset features (table_is_wide s n) (known s)

abbrev pub into_memory : WasmFeatures → State → ℕ → Format Expr
into_memory features s n = offset features (memory_is_wide s n) (known s)

-- the table or memory that is written, and the offset in it
abbrev pub named_table : WasmFeatures → State → Format (ℕ × Expr)
named_table features s = after (index spaces.Table (length s.filled.tables)) (λ n. into_table features s n)

abbrev pub named_memory : WasmFeatures → State → Format (ℕ × Expr)
named_memory features s = after (index spaces.Memory (length s.filled.memories)) (λ n. into_memory features s n)

-- ---- what is in an element segment

abbrev pub pass : {A : Type 0} → Unit {0} → A → Unit {0}
pass u x = u

abbrev pub functions : State → Format (List ℕ)
functions s = vec pass (λ _. index spaces.Function (length s.filled.functions)) tt

abbrev pub expressions : WasmFeatures → State → Format (List Expr)
expressions features s = vec pass (λ _. expr features (known s)) tt

-- 00 for functions
abbrev pub kind_of_functions : State → Format (Unit {0} × List ℕ)
kind_of_functions s = after (literal 0 (Read kinds.BadByte)) (λ _. functions s)

abbrev pub typed : WasmFeatures → State → Format (RefType × List Expr)
typed features s = after (ref_type features (type_count s)) (λ _. expressions features s)

-- ---- element segments, by their flags

-- as they are spelled
pub data ElementForm : Type 0 where
  ActiveFunctions : Expr × List ℕ → ElementForm
  PassiveFunctions : Unit {0} × List ℕ → ElementForm
  FunctionsInto : (ℕ × Expr) × (Unit {0} × List ℕ) → ElementForm
  DeclaredFunctions : Unit {0} × List ℕ → ElementForm
  ActiveExpressions : Expr × List Expr → ElementForm
  PassiveExpressions : RefType × List Expr → ElementForm
  ExpressionsInto : (ℕ × Expr) × (RefType × List Expr) → ElementForm
  DeclaredExpressions : RefType × List Expr → ElementForm

pub once_0 : (x y : Expr × List ℕ) → ActiveFunctions x ≡ ActiveFunctions y → x ≡ y
once_0 x y e = cc

pub once_1 : (x y : Unit {0} × List ℕ) → PassiveFunctions x ≡ PassiveFunctions y → x ≡ y
once_1 x y e = cc

pub once_2 : (x y : (ℕ × Expr) × (Unit {0} × List ℕ)) → FunctionsInto x ≡ FunctionsInto y → x ≡ y
once_2 x y e = cc

pub once_3 : (x y : Unit {0} × List ℕ) → DeclaredFunctions x ≡ DeclaredFunctions y → x ≡ y
once_3 x y e = cc

pub once_4 : (x y : Expr × List Expr) → ActiveExpressions x ≡ ActiveExpressions y → x ≡ y
once_4 x y e = cc

pub once_5 : (x y : RefType × List Expr) → PassiveExpressions x ≡ PassiveExpressions y → x ≡ y
once_5 x y e = cc

pub once_6 : (x y : (ℕ × Expr) × (RefType × List Expr)) → ExpressionsInto x ≡ ExpressionsInto y → x ≡ y
once_6 x y e = cc

pub once_7 : (x y : RefType × List Expr) → DeclaredExpressions x ≡ DeclaredExpressions y → x ≡ y
once_7 x y e = cc

-- 0 to 7; flags 0 and 4 mean table 0, which has to be there
abbrev pub element_flags : State → Format ℕ
element_flags s = checked u32 (λ n.
    if nat_lt n 8 then must (not_first n || nat_lt 0 (length s.filled.tables)) (Index spaces.Table) else Some (Read kinds.BadByte))
  where
    not_first : ℕ → Bool
    not_first n = if n == 0 then false else (if n == 4 then false else true)

abbrev pub element_form : WasmFeatures → State → ℕ → Format ElementForm
element_form features s flags =
    either (flags == 0) (built (after (into_table features s 0) (λ _. functions s)) ActiveFunctions once_0)
    (either (flags == 1) (built (kind_of_functions s) PassiveFunctions once_1)
    (either (flags == 2) (built (after (named_table features s) (λ _. kind_of_functions s)) FunctionsInto once_2)
    (either (flags == 3) (built (kind_of_functions s) DeclaredFunctions once_3)
    (either (flags == 4) (built (after (into_table features s 0) (λ _. expressions features s)) ActiveExpressions once_4)
    (either (flags == 5) (built (typed features s) PassiveExpressions once_5)
    (either (flags == 6) (built (after (named_table features s) (λ _. typed features s)) ExpressionsInto once_6)
    (either (flags == 7) (built (typed features s) DeclaredExpressions once_7) (never (Read kinds.BadByte)))))))))

abbrev pub ElementEntry : Type 0
ElementEntry = ℕ × ElementForm

abbrev pub element_entry : WasmFeatures → State → Format ElementEntry
element_entry features s = if_room (has_room s spaces.Element) limits.Elements (after (element_flags s) (λ flags. element_form features s flags))

-- what a segment is, however it is spelled: flag 4 means references to functions
abbrev pub element_of : ElementForm → Element
element_of (ActiveFunctions x) = record { mode = Active 0 x.0; items = Functions x.1 }
element_of (PassiveFunctions x) = record { mode = Passive; items = Functions x.1 }
element_of (FunctionsInto x) = record { mode = Active x.0.0 x.0.1; items = Functions x.1.1 }
element_of (DeclaredFunctions x) = record { mode = Declared; items = Functions x.1 }
element_of (ActiveExpressions x) = record { mode = Active 0 x.0; items = Expressions (nullable heaps.Func) x.1 }
element_of (PassiveExpressions x) = record { mode = Passive; items = Expressions x.0 x.1 }
element_of (ExpressionsInto x) = record { mode = Active x.0.0 x.0.1; items = Expressions x.1.0 x.1.1 }
element_of (DeclaredExpressions x) = record { mode = Declared; items = Expressions x.0 x.1 }

abbrev pub add_element : State → ElementEntry → State
add_element s e = record s { filled = record s.filled { elements = s.filled.elements ++ Some (element_of e.1) ∷ [] } }

-- ---- data segments, by their flags

-- vec(byte)
abbrev pub contents : Format (List ℕ)
contents = leaf sized_bytes_at SpellsSized sized_bytes_taken sized_bytes_final

pub data DataForm : Type 0 where
  ActiveData : Expr × List ℕ → DataForm
  PassiveData : List ℕ → DataForm
  DataInto : (ℕ × Expr) × List ℕ → DataForm

pub data_once_0 : (x y : Expr × List ℕ) → ActiveData x ≡ ActiveData y → x ≡ y
data_once_0 x y e = cc

pub data_once_1 : (x y : List ℕ) → PassiveData x ≡ PassiveData y → x ≡ y
data_once_1 x y e = cc

pub data_once_2 : (x y : (ℕ × Expr) × List ℕ) → DataInto x ≡ DataInto y → x ≡ y
data_once_2 x y e = cc

-- 0 to 2; flag 0 means memory 0, which has to be there
abbrev pub data_flags : State → Format ℕ
data_flags s = checked u32 (λ n.
    if nat_lt n 3 then must (nat_lt 0 n || nat_lt 0 (length s.filled.memories)) (Index spaces.Memory) else Some (Read kinds.BadByte))

abbrev pub data_form : WasmFeatures → State → ℕ → Format DataForm
data_form features s flags =
    either (flags == 0) (built (after (into_memory features s 0) (λ _. contents)) ActiveData data_once_0)
    (either (flags == 1) (built contents PassiveData data_once_1)
    (either (flags == 2) (built (after (named_memory features s) (λ _. contents)) DataInto data_once_2) (never (Read kinds.BadByte))))

abbrev pub DataEntry : Type 0
DataEntry = ℕ × DataForm

abbrev pub data_entry : WasmFeatures → State → Format DataEntry
data_entry features s = if_room (has_room s spaces.Data) limits.Data (after (data_flags s) (λ flags. data_form features s flags))

abbrev pub segment_of : DataForm → Segment
segment_of (ActiveData x) = record { mode = Active 0 x.0; bytes = x.1 }
segment_of (PassiveData bytes) = record { mode = Passive; bytes = bytes }
segment_of (DataInto x) = record { mode = Active x.0.0 x.0.1; bytes = x.1 }

abbrev pub add_data : State → DataEntry → State
add_data s e = record s { filled = record s.filled { segments = s.filled.segments ++ Some (segment_of e.1) ∷ [] } }
