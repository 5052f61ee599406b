-- What is due for items, each name by the number that a look-up has for it: in words of the module that is meant.
use Rattle.std.specs.Prelude.{ℕ, ◌+◌, ◌==◌, if◌then◌else◌, Bool, true, false, List, [], ◌∷◌, ◌++◌, length, Option, Some, None}
use Rattle.std.specs.Option.{is_some, is_none}
use Rattle.wasm_formats.specs.declared.fault.Space.{Space}
use Rattle.wasm_formats.specs.declared.fault.Space.TheVariants as spaces
use Rattle.wasm_formats.specs.declared.fault.Limited.TheVariants as limits_of
use Rattle.wasm_operators.specs.Items as items
use Rattle.wasm_grammar.specs.Modules.{Expr, Origin, Imported, Own, Table, Memory, Global, Export, Tag, Mode, Passive, Declared, Active, Segment}
use Rattle.wasm_grammar.specs.TypeWords.{ref_from, value_from}
use Rattle.walrus_pairing.specs.Looks.{Look}
use Rattle.walrus_errors.specs.declared.error.ModuleError.TheVariants.{DeadReference}
use Rattle.walrus_emit_parts.specs.Due.{Due, lacking, limited, number, text, written}
use Rattle.walrus_emit_due.specs.Values.{bit, expr, index, limits, optional, reference, value}
use Rattle.walrus_emit_due.specs.Own.{live, own_section}

-- what is imported has no entry
abbrev pub is_own : {A : Type 0} → Origin A → Bool
is_own (Imported n) = false
is_own (Own x) = true

-- ---- tables

abbrev pub table_flags : Table → ℕ
table_flags x = bit 1 (is_some x.maximum) + bit 4 x.wide

abbrev pub table_type : Look → Table → Due
table_type look x = reference (look items.Types) (ref_from x.element) ++ limits (table_flags x) x.initial x.maximum

-- with what its elements are at first, where it says so
abbrev pub table_of : Look → Table → Option Expr → Due
table_of look x None = table_type look x
table_of look x (Some e) = written (0x40 ∷ 0x00 ∷ []) ++ (table_type look x ++ expr look e)

abbrev pub table : Look → Table → Due
table look x = table_of look x x.init

abbrev pub tables : Look → List (Option Table) → Due
tables look slots = limited 100 (length (live slots)) limits_of.Tables (own_section 4 (λ (x : Table). is_none x.imported) (table look) slots)

-- ---- memories

abbrev pub memory_flags : Memory → ℕ
memory_flags x = bit 1 (is_some x.maximum) + bit 2 x.shared + bit 4 x.wide + bit 8 (is_some x.page_size_log2)

abbrev pub memory : Memory → Due
memory x = limits (memory_flags x) x.initial x.maximum ++ optional x.page_size_log2

abbrev pub memories : List (Option Memory) → Due
memories slots = limited 100 (length (live slots)) limits_of.Memories (own_section 5 (λ (x : Memory). is_none x.imported) memory slots)

-- ---- exports

-- the number of an item that has one
abbrev pub number_in : Look → Space → ℕ → Option ℕ
number_in look spaces.«Type» id = look items.Types id
number_in look spaces.Function id = look items.Functions id
number_in look spaces.Table id = look items.Tables id
number_in look spaces.Memory id = look items.Memories id
number_in look spaces.Tag id = look items.Tags id
number_in look spaces.Global id = look items.Globals id
number_in look spaces.Element id = look items.ElementSegments id
number_in look spaces.Data id = look items.DataSegments id
number_in look spaces.Local id = None
number_in look spaces.Label id = None

abbrev pub space_kind : Space → ℕ
space_kind spaces.Function = 0
space_kind spaces.Table = 1
space_kind spaces.Memory = 2
space_kind spaces.Global = 3
space_kind _ = 4

-- a kind, and an index of that kind
abbrev pub kind_index : Look → Space → ℕ → Due
kind_index look space id = written (space_kind space ∷ []) ++ index space (number_in look space id)

abbrev pub export : Look → Export → Due
export look e = limited 100000 (length e.name) limits_of.String (text e.name) ++ kind_index look e.item.space e.item.number

abbrev pub exports : Look → List (Option Export) → Due
exports look slots = limited 1000000 (length (live slots)) limits_of.Exports (own_section 7 (λ _. true) (export look) slots)

-- ---- globals

abbrev pub global_type : Look → Global → Due
global_type look g = value (look items.Types) (value_from g.ty) ++ written (bit 1 g.mutable ∷ [])

abbrev pub global_of : Look → Global → Origin Expr → Due
global_of look g (Imported n) = []
global_of look g (Own e) = global_type look g ++ expr look e

abbrev pub global : Look → Global → Due
global look g = global_of look g g.origin

abbrev pub globals : Look → List (Option Global) → Due
globals look slots = limited 1000000 (length (live slots)) limits_of.Globals (own_section 6 (λ (g : Global). is_own g.origin) (global look) slots)

-- ---- tags

abbrev pub tag : Look → Tag → Due
tag look t = written (0 ∷ []) ++ index spaces.«Type» (look items.Types t.ty)

abbrev pub tags : Look → List (Option Tag) → Due
tags look slots = limited 1000000 (length (live slots)) limits_of.Tags (own_section 13 (λ (t : Tag). is_none t.imported) (tag look) slots)

-- ---- data segments: the flags say whether the memory has the number 0

abbrev pub contents : Look → Expr → List ℕ → Due
contents look offset bytes = expr look offset ++ text bytes

abbrev pub active : Look → Option ℕ → Expr → List ℕ → Due
active look (Some n) offset bytes = if n == 0 then number 0 ++ contents look offset bytes else (number 2 ++ (number n ++ contents look offset bytes))
active look None offset bytes = lacking (DeadReference spaces.Memory)

-- no data segment is declared
abbrev pub moded : Look → Mode → List ℕ → Due
moded look (Active memory offset) bytes = active look (look items.Memories memory) offset bytes
moded look Passive bytes = number 1 ++ text bytes
moded look Declared bytes = number 1 ++ text bytes

abbrev pub segment : Look → Segment → Due
segment look x = moded look x.mode x.bytes

abbrev pub segments : Look → List (Option Segment) → Due
segments look slots = limited 100000 (length (live slots)) limits_of.Data (own_section 11 (λ _. true) (segment look) slots)
