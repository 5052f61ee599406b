-- What is imported, and the entries of the import, function, table, memory, tag and global sections (Core Specification, binary format: modules).
use Rattle.std.specs.Prelude.{ℕ, ◌+◌, ◌≡◌, ◌==◌, nat_lt, Bool, true, false, List, [], ◌∷◌, ◌++◌, length, Option, Some, None, Err, ◌⊎◌, refl}
use Rattle.std.proofs.Common.{subst, inl, inr}
use Rattle.wasm_features.specs.declared.WasmFeatures.{WasmFeatures}
use Rattle.wasm_types.specs.wasm_composite_types.wasm_reader.declared.error.ErrorKind.TheVariants as kinds
use Rattle.wasm_types.specs.wasm_composite_types.wasm_ref_types.Reference.{Reference}
use Rattle.wasm_types.specs.wasm_composite_types.wasm_ref_types.ReadTypes.{reference_at, abstract_at}
use Rattle.wasm_types.specs.wasm_composite_types.wasm_ref_types.TypesTaken.{reference_taken}
use Rattle.wasm_types.specs.wasm_composite_types.wasm_ref_types.TypeSpellings.{SpellsReference}
use Rattle.wasm_grammar.specs.walrus_forms.declared.value.RefType.{RefType}
use Rattle.wasm_grammar.specs.walrus_forms.declared.value.ValType.{ValType}
use Rattle.wasm_grammar.specs.wasm_formats.declared.fault.Space.{Space}
use Rattle.wasm_grammar.specs.wasm_formats.declared.fault.Space.TheVariants as spaces
use Rattle.wasm_grammar.specs.wasm_formats.declared.fault.Form.TheVariants as unsupported
use Rattle.wasm_grammar.specs.wasm_formats.declared.fault.Limited.TheVariants as limits
use Rattle.wasm_grammar.specs.wasm_formats.Stops.{Trouble, Read, Unsupported, Limit, Stop, stop, can_end}
use Rattle.wasm_grammar.specs.wasm_formats.Formats.{Format, refused_is}
use Rattle.wasm_grammar.specs.wasm_formats.Bytes.{literal, never, either, either_type}
use Rattle.wasm_grammar.specs.wasm_formats.Joined.{checked, after, built}
use Rattle.wasm_grammar.specs.wasm_formats.Parts.{optional}
use Rattle.wasm_grammar.specs.wasm_formats.Wholes.{u32}
use Rattle.wasm_grammar.specs.wasm_formats.Led.{led}
use Rattle.wasm_file_formats.specs.Rooms.{if_room}
use Rattle.wasm_file_formats.specs.Firsts.{Refines, first_checked}
use Rattle.wasm_grammar.specs.Modules.{Expr, Origin, Imported, Own, Body, Function, Table, Memory, Tag, Global, Import}
use Rattle.wasm_grammar.specs.Values.{must, first_of, name, byte_below, ref_type, value_type, Limits, is_shared, is_wide, has_page_size, limits, table_limits, memory_limits}
use Rattle.wasm_grammar.specs.Exprs.{expr, front_is}
use Rattle.wasm_grammar.specs.States.{State, type_count, known, function_type, has_room, room_test}

-- ---- the types of items

-- a table's type: its elements' type and its limits
abbrev pub TableType : Type 0
TableType = RefType × Limits

abbrev pub table_type : WasmFeatures → State → Format TableType
table_type features s = after (ref_type features (type_count s)) (λ _. table_limits)

-- 00 or 01: whether a global can be written; 02 and 03 are shared ones, which aren't supported
abbrev pub mutability : Format ℕ
mutability = checked (byte_below 4) (λ b. must (nat_lt b 2) (Unsupported unsupported.SharedGlobal))

abbrev pub GlobalType : Type 0
GlobalType = ValType × ℕ

abbrev pub global_type : WasmFeatures → State → Format GlobalType
global_type features s = after (value_type features (type_count s)) (λ _. mutability)

-- 00 and the index of a function type
abbrev pub TagType : Type 0
TagType = Unit {0} × ℕ

abbrev pub tag_type : State → Format TagType
tag_type s = after (literal 0 (Read kinds.BadByte)) (λ _. function_type s)

abbrev pub MemoryType : Type 0
MemoryType = Limits × Option ℕ

-- ---- imports

-- what is imported
pub data Entity : Type 0 where
  FunctionOf : ℕ → Entity
  TableOf : TableType → Entity
  MemoryOf : MemoryType → Entity
  GlobalOf : GlobalType → Entity
  TagOf : TagType → Entity

pub function_once : (x y : ℕ) → FunctionOf x ≡ FunctionOf y → x ≡ y
function_once x y e = cc

pub table_once : (x y : TableType) → TableOf x ≡ TableOf y → x ≡ y
table_once x y e = cc

pub memory_once : (x y : MemoryType) → MemoryOf x ≡ MemoryOf y → x ≡ y
memory_once x y e = cc

pub global_once : (x y : GlobalType) → GlobalOf x ≡ GlobalOf y → x ≡ y
global_once x y e = cc

pub tag_once : (x y : TagType) → TagOf x ≡ TagOf y → x ≡ y
tag_once x y e = cc

-- by its kind, 00 to 04, in these formats
abbrev pub entity_of : Format ℕ → Format TableType → Format MemoryType → Format GlobalType → Format TagType → ℕ → Format Entity
entity_of function table memory global tag kind =
    either (kind == 0) (built function FunctionOf function_once)
    (either (kind == 1) (built table TableOf table_once)
    (either (kind == 2) (built memory MemoryOf memory_once)
    (either (kind == 3) (built global GlobalOf global_once)
    (either (kind == 4) (built tag TagOf tag_once) (never (Read kinds.BadByte))))))

abbrev pub entity : WasmFeatures → State → ℕ → Format Entity
entity features s = entity_of (function_type s) (table_type features s) (memory_limits None) (global_type features s) (tag_type s)

-- the same before what ends it is tested: a type's index, limits and a page size, whether a global can be written
abbrev pub entity_read : WasmFeatures → State → ℕ → Format Entity
entity_read features s = entity_of u32 (after (ref_type features (type_count s)) (λ _. limits 8)) (after (limits 16) (λ l. optional (has_page_size l.0) u32))
    (after (value_type features (type_count s)) (λ _. byte_below 4)) (after (literal 0 (Read kinds.BadByte)) (λ _. u32))

pub either_later : {P Q R S : Type 0} (c : Bool) → (P → R) → (Q → S) → either_type c P Q → either_type c R S
either_later true p q h = p h
either_later false p q h = q h

pub read_rules : (features : WasmFeatures) (s : State) (kind : ℕ) (x : Entity) → (entity features s kind).rules x → (entity_read features s kind).rules x
read_rules features s kind x r =
    either_later (kind == 0) (λ h y e. (h y e).0)
    (either_later (kind == 1) (λ h y e. let q = h y e in let l = q.1 in (q.0, l.0))
    (either_later (kind == 2) (λ h y e. let q = h y e in q.0)
    (either_later (kind == 3) (λ h y e. let q = h y e in let m = q.1 in (q.0, m.0))
    (either_later (kind == 4) (λ h y e. let q = h y e in let f = q.1 in (q.0, f.0)) (λ h. h))))) r

abbrev pub space_of : Entity → Space
space_of (FunctionOf ty) = spaces.Function
space_of (TableOf ty) = spaces.Table
space_of (MemoryOf ty) = spaces.Memory
space_of (GlobalOf ty) = spaces.Global
space_of (TagOf ty) = spaces.Tag

-- the name of its module, its own, its kind, and what it is
abbrev pub ImportEntry : Type 0
ImportEntry = List ℕ × (List ℕ × (ℕ × Entity))

-- there is room for one more import, and for one more item of its space
abbrev pub import_test : State → ImportEntry → Option Trouble
import_test s e = first_of (must (nat_lt (length s.filled.imports) 1000000) (Limit limits.Imports)) (room_test s (space_of e.1.1.1))

abbrev pub import_by : (ℕ → Format Entity) → Format ImportEntry
import_by entity = after name (λ _. after name (λ _. after (byte_below 5) entity))

pub import_refines : (features : WasmFeatures) (s : State) → Refines (import_by (entity features s)) (import_by (entity_read features s))
import_refines features s = record {
  spelled = λ bytes x h. h;
  ruled = λ x r. let a = r.1 in let b = a.1 in (r.0, (a.0, (b.0, read_rules features s x.1.1.0 x.1.1.1 b.1)));
}

-- an import is read, then its limits are tested, at its first byte, and then what ends it
abbrev pub import_entry : WasmFeatures → State → Format ImportEntry
import_entry features s = first_checked (import_by (entity_read features s)) (import_by (entity features s)) (import_refines features s) (import_test s)

-- ---- tables, of this type, imported or with an initialiser

abbrev pub table_of : TableType → Option Expr → Option ℕ → Table
table_of ty init imported =
    record { wide = is_wide ty.1.0; initial = ty.1.1.0; maximum = ty.1.1.1; element = ty.0; init = init; imported = imported }

abbrev pub memory_of : MemoryType → Option ℕ → Memory
memory_of ty imported =
    record { shared = is_shared ty.0.0; wide = is_wide ty.0.0; initial = ty.0.1.0; maximum = ty.0.1.1; page_size_log2 = ty.1; imported = imported }

abbrev pub global_of : GlobalType → Origin Expr → Global
global_of ty origin = record { ty = ty.0; mutable = ty.1 == 1; origin = origin }

-- one more item of a space
abbrev pub with_function : State → Function → State
with_function s x = record s { filled = record s.filled { functions = s.filled.functions ++ Some x ∷ [] } }

abbrev pub with_table : State → Table → State
with_table s x = record s { filled = record s.filled { tables = s.filled.tables ++ Some x ∷ [] } }

abbrev pub with_memory : State → Memory → State
with_memory s x = record s { filled = record s.filled { memories = s.filled.memories ++ Some x ∷ [] } }

abbrev pub with_tag : State → Tag → State
with_tag s x = record s { filled = record s.filled { tags = s.filled.tags ++ Some x ∷ [] } }

abbrev pub with_global : State → Global → State
with_global s x = record s { filled = record s.filled { globals = s.filled.globals ++ Some x ∷ [] } }

-- the item that the import of this number brings in
abbrev pub add_entity : State → ℕ → Entity → State
add_entity s n (FunctionOf ty) = with_function (record s { imported = s.imported + 1 }) (record { ty = ty; origin = Imported n })
add_entity s n (TableOf ty) = with_table s (table_of ty None (Some n))
add_entity s n (MemoryOf ty) = with_memory s (memory_of ty (Some n))
add_entity s n (GlobalOf ty) = with_global s (global_of ty (Imported n))
add_entity s n (TagOf ty) = with_tag s (record { ty = ty.1; imported = Some n })

-- how many items of the space there are: the number of the next one
abbrev pub next_number : State → Entity → ℕ
next_number s (FunctionOf ty) = length s.filled.functions
next_number s (TableOf ty) = length s.filled.tables
next_number s (MemoryOf ty) = length s.filled.memories
next_number s (GlobalOf ty) = length s.filled.globals
next_number s (TagOf ty) = length s.filled.tags

abbrev pub import_of : State → ImportEntry → Import
import_of s e = record { space_name = e.0; name = e.1.0; item = record { space = space_of e.1.1.1; number = next_number s e.1.1.1 } }

abbrev pub with_import : State → Import → State
with_import s x = record s { filled = record s.filled { imports = s.filled.imports ++ Some x ∷ [] } }

abbrev pub add_import : State → ImportEntry → State
add_import s e = add_entity (with_import s (import_of s e)) (length s.filled.imports) e.1.1.1

-- ---- functions: their types; their bodies come later

abbrev pub function_entry : State → Format ℕ
function_entry s = checked (function_type s) (λ _. room_test s spaces.Function)

abbrev pub no_body : Body
no_body = record { locals = []; operators = [] }

abbrev pub add_function : State → ℕ → State
add_function s ty = with_function s (record { ty = ty; origin = Own no_body })

-- ---- tables: a type, or 40 00, a type and a constant expression

abbrev pub Initialised : Type 0
Initialised = Unit {0} × (TableType × Expr)

abbrev pub initialised : WasmFeatures → State → Format Initialised
initialised features s = after (literal 0 (Read kinds.BadByte)) (λ _. after (table_type features s) (λ _. expr features (known s)))

-- no reference type begins with 40, and none is spelled by no bytes
pub ref_apart : (features : WasmFeatures) (later : List ℕ) (r : Reference) → SpellsReference features (0x40 ∷ later) r → ⊥
unfolding reference_at abstract_at
ref_apart features later r h = let e = (reference_taken features).again (0x40 ∷ later) [] r h in absurd cc

pub ref_some : (features : WasmFeatures) (r : Reference) → SpellsReference features [] r → ⊥
unfolding reference_at
ref_some features r h = let e = (reference_taken features).again [] [] r h in absurd cc

pub table_apart : (features : WasmFeatures) (s : State) (later : List ℕ) (x : TableType) → (table_type features s).spells (0x40 ∷ later) x → ⊥
table_apart features s later x h = elim (front_is 0x40 h.0 h.1 later h.2) [
  | inl none ↦ let told = h.3 in ref_some features told.0 (subst (λ (l : List ℕ). SpellsReference features l told.0) none told.2)
  | inr first ↦ let told = h.3 in ref_apart features first.0 told.0 (subst (λ (l : List ℕ). SpellsReference features l told.0) first.1 told.2)
]

pub front_none : (front rest : List ℕ) → [] ≡ front ++ rest → front ≡ []
front_none [] rest e = refl
front_none (c ∷ front) rest e = absurd cc

pub table_some : (features : WasmFeatures) (s : State) (x : TableType) → (table_type features s).spells [] x → ⊥
table_some features s x h = let told = h.3 in ref_some features told.0 (subst (λ (l : List ℕ). SpellsReference features l told.0) (front_none h.0 h.1 h.2) told.2)

pub table_wants : (features : WasmFeatures) (s : State) (e : Stop) → (table_type features s).parse [] ≡ Err e → can_end e.trouble ≡ true
unfolding reference_at
table_wants features s e p = subst (λ (s : Stop). can_end s.trouble ≡ true) (refused_is {A = TableType × List ℕ} (stop (Read (kinds.EndOfFile 1)) 0) e p) refl

abbrev pub TableEntry : Type 0
TableEntry = Initialised ⊎ TableType

abbrev pub table_entry : WasmFeatures → State → Format TableEntry
table_entry features s = if_room (has_room s spaces.Table) limits.Tables
    (led 0x40 (initialised features s) (table_type features s) (table_apart features s) (table_some features s) (table_wants features s))

abbrev pub add_table : State → TableEntry → State
add_table s (inl x) = with_table s (table_of x.1.0 (Some x.1.1) None)
add_table s (inr ty) = with_table s (table_of ty None None)

-- ---- memories

abbrev pub memory_entry : State → Format MemoryType
memory_entry s = memory_limits (room_test s spaces.Memory)

abbrev pub add_memory : State → MemoryType → State
add_memory s ty = with_memory s (memory_of ty None)

-- ---- tags

abbrev pub tag_entry : State → Format TagType
tag_entry s = if_room (has_room s spaces.Tag) limits.Tags (tag_type s)

abbrev pub add_tag : State → TagType → State
add_tag s ty = with_tag s (record { ty = ty.1; imported = None })

-- ---- globals: a type and a constant expression, which sees those before it

abbrev pub GlobalEntry : Type 0
GlobalEntry = GlobalType × Expr

abbrev pub global_entry : WasmFeatures → State → Format GlobalEntry
global_entry features s = if_room (has_room s spaces.Global) limits.Globals (after (global_type features s) (λ _. expr features (known s)))

abbrev pub add_global : State → GlobalEntry → State
add_global s e = with_global s (global_of e.0 (Own e.1))
