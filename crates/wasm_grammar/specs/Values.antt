-- Values that sections are made of (Core Specification, binary format: values, types).
use Rattle.std.specs.Prelude.{ℕ, ◌==◌, ◌&&◌, ◌||◌, ◌/◌, ◌%◌, nat_lt, nat_le, Bool, true, false, not, List, Option, Some, None, if◌then◌else◌}
use Rattle.wasm_operators.specs.wasm_features.declared.WasmFeatures.{WasmFeatures}
use Rattle.wasm_formats.specs.wasm_reader.declared.error.ErrorKind.TheVariants as kinds
use Rattle.wasm_formats.specs.wasm_reader.Numbers.{unsigned, unsigned_at, Spells}
use Rattle.wasm_formats.specs.wasm_reader.Reading.{bytes_at, SpellsRun}
use Rattle.wasm_formats.specs.wasm_reader.Text.{string_at, SpellsName}
use Rattle.wasm_formats.specs.wasm_reader.Spellings.{number_taken, run_taken, string_taken}
use Rattle.wasm_formats.specs.wasm_reader.Finals.{unsigned_final, bytes_final, string_final}
use Rattle.wasm_operators.specs.wasm_ref_types.ReadTypes.{value_at, reference_at}
use Rattle.wasm_operators.specs.wasm_ref_types.TypeSpellings.{SpellsValue, SpellsReference}
use Rattle.wasm_operators.specs.wasm_ref_types.TypesTaken.{value_taken, reference_taken}
use Rattle.wasm_operators.specs.wasm_ref_types.TypesFinal.{value_begins, reference_begins}
use Rattle.walrus_forms.specs.declared.value.RefType.{RefType}
use Rattle.walrus_forms.specs.declared.value.ValType.{ValType}
use Rattle.walrus_forms.specs.Values.{heap_name, value_name}
use Rattle.wasm_formats.specs.declared.fault.Space.{Space}
use Rattle.wasm_formats.specs.declared.fault.Space.TheVariants as spaces
use Rattle.wasm_formats.specs.declared.fault.Form.TheVariants as unsupported
use Rattle.wasm_formats.specs.Stops.{Trouble, Read, Index, Unsupported, Bounds}
use Rattle.wasm_formats.specs.Formats.{Format, leaf}
use Rattle.wasm_formats.specs.Bytes.{byte, either}
use Rattle.wasm_formats.specs.Joined.{checked, after, pair_checked}
use Rattle.wasm_formats.specs.Parts.{optional, seen}
use Rattle.wasm_formats.specs.Wholes.{u32}
use Rattle.wasm_grammar.specs.TypeWords.{value_of, ref_of, value_once, ref_once}

-- what has to hold, else this trouble
abbrev pub must : Bool → Trouble → Option Trouble
must holds trouble = if holds then None else Some trouble

-- the first trouble of two tests of one place
abbrev pub first_of : Option Trouble → Option Trouble → Option Trouble
first_of None later = later
first_of (Some trouble) later = Some trouble

abbrev pub u64 : Format ℕ
u64 = leaf (unsigned_at 64) (Spells unsigned 64) (number_taken unsigned kinds.TooLarge 64) (unsigned_final 64)

-- a name's bytes; it has at most 100,000
abbrev pub name : Format (List ℕ)
name = leaf string_at SpellsName string_taken string_final

-- so many bytes
abbrev pub run : ℕ → Format (List ℕ)
run size = leaf (bytes_at size) (SpellsRun size) (run_taken size) (bytes_final size)

-- a byte below a bound
abbrev pub byte_below : ℕ → Format ℕ
byte_below bound = checked byte (λ b. must (nat_lt b bound) (Read kinds.BadByte))

-- an index of one of so many items
abbrev pub index : Space → ℕ → Format ℕ
index space count = checked u32 (λ n. must (nat_lt n count) (Index space))

-- the type that is named is one of so many
abbrev pub named_below : ℕ → Option ℕ → Option Trouble
named_below types None = None
named_below types (Some n) = must (nat_lt n types) (Index spaces.Type)

-- a value type whose names are below the count of types; its trouble stands at its first byte
abbrev pub value_type : WasmFeatures → ℕ → Format ValType
value_type features types = checked
    (seen (leaf (value_at features) (SpellsValue features) (value_taken features) (value_begins features).final) value_of (Unsupported unsupported.SharedType) value_once)
    (λ ty. named_below types (value_name ty))

abbrev pub ref_type : WasmFeatures → ℕ → Format RefType
ref_type features types = checked
    (seen (leaf (reference_at features) (SpellsReference features) (reference_taken features) (reference_begins features).final) ref_of (Unsupported unsupported.SharedType) ref_once)
    (λ ty. named_below types (heap_name ty.heap_type))

-- ---- limits

-- bit n of the flags
abbrev pub has_maximum : ℕ → Bool
has_maximum flags = flags % 2 == 1

abbrev pub is_shared : ℕ → Bool
is_shared flags = flags / 2 % 2 == 1

abbrev pub is_wide : ℕ → Bool
is_wide flags = flags / 4 % 2 == 1

abbrev pub has_page_size : ℕ → Bool
has_page_size flags = flags / 8 % 2 == 1

-- limits as they stand: flags, the minimum, the maximum if there is one
abbrev pub Limits : Type 0
Limits = ℕ × (ℕ × Option ℕ)

abbrev pub size : ℕ → Format ℕ
size flags = either (is_wide flags) u64 u32

abbrev pub limits : ℕ → Format Limits
limits bound = after (byte_below bound) (λ flags. after (size flags) (λ _. optional (has_maximum flags) (size flags)))

-- the minimum is at most the maximum
abbrev pub in_order : ℕ → Option ℕ → Bool
in_order minimum None = true
in_order minimum (Some maximum) = nat_le minimum maximum

-- a table's limits: shared ones aren't supported
abbrev pub table_limits : Format Limits
table_limits = checked (limits 8) (λ l. first_of (must (not (is_shared l.0)) (Unsupported unsupported.SharedTable)) (must (in_order l.1.0 l.1.1) Bounds))

abbrev pub is_some : Option ℕ → Bool
is_some None = false
is_some (Some n) = true

-- a memory's limits, and the logarithm of its page size, 0 or 16: shared ones have a maximum; and whether there is room for it, tested at the same byte
abbrev pub memory_limits : Option Trouble → Format (Limits × Option ℕ)
memory_limits room = pair_checked (limits 16) (λ l. optional (has_page_size l.0) u32)
    (λ m. first_of (must (in_order m.0.1.0 m.0.1.1 && (not (is_shared m.0.0) || is_some m.0.1.1)) Bounds) room)
    (λ m. page_test m.1)
  where
    page_test : Option ℕ → Option Trouble
    page_test None = None
    page_test (Some n) = must (n == 0 || n == 16) Bounds
