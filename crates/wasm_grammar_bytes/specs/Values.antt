-- The shortest spellings of the values that sections are made of.
use Rattle.std.specs.Prelude.{ℕ, ◌<◌, ◌≤◌, ◌≡◌, ◌^◌, nat_lt, Bool, true, ◌++◌, length, Some, None, refl}
use Rattle.std.specs.Option.{unwrap_or}
use Rattle.std.specs.Str.{is_utf8}
use Rattle.std.proofs.Common.{sym, arith}
use Rattle.wasm_features.specs.declared.WasmFeatures.{WasmFeatures}
use Rattle.wasm_reader.specs.Spelled.{IsShortest-unsigned, spelled_unsigned}
use Rattle.wasm_ref_types.specs.declared.value.ValType.TheVariants as values
use Rattle.wasm_ref_types.specs.ReadTypes.{value_at, reference_at}
use Rattle.wasm_ref_types.specs.TypeSpellings.{SpellsValue, SpellsReference}
use Rattle.wasm_ref_types.specs.TypesTaken.{value_taken, reference_taken}
use Rattle.wasm_ref_types.specs.TypesFinal.{value_begins, reference_begins}
use Rattle.wasm_formats.specs.declared.fault.Form.TheVariants as unsupported
use Rattle.wasm_reader.specs.declared.error.ErrorKind.TheVariants as kinds
use Rattle.walrus_forms.specs.Values.{heap_name, value_name}
use Rattle.wasm_formats.specs.Stops.{Read, Unsupported}
use Rattle.wasm_formats.specs.Parts.{optional, some_once}
use Rattle.wasm_operators.specs.Bytes.{unsigned_bytes, reference_bytes, value_bytes}
use Rattle.wasm_operators.specs.Laws.{WritesShortest}
use Rattle.wasm_operators.specs.Numbers.{u32_short, u64_short}
use Rattle.wasm_operators.specs.Types.{value_short}
use Rattle.wasm_operators.specs.Vecs.{parts_small, parts_short}
use Rattle.wasm_format_bytes.specs.Writers.{Writer, leaf_writer, u32_writer, byte_writer, nothing_writer, checked_writer, after_writer, built_writer, seen_writer, either_writer}
use Rattle.wasm_grammar.specs.TypeWords.{value_of, value_from, value_told, value_once, ref_of, ref_from, ref_told, ref_once}
use Rattle.wasm_grammar.specs.Values.{must, u64, name, byte_below, value_type, ref_type, named_below, size, has_maximum, is_wide, limits}

abbrev pub u64_writer : Writer u64
u64_writer = record {
  fits = λ n. n < 2 ^ 64;
  bytes = unsigned_bytes;
  written = λ n h. (IsShortest-unsigned 10 64 n (omega arith) (omega arith) h).spells;
  short = λ others n small h. (spelled_unsigned 64 others n h, (u64_short others n small h).1);
}

-- a name of at most 100,000 bytes
abbrev pub name_writer : Writer name
name_writer = record {
  fits = λ text. (length text ≤ 100000) × (is_utf8 text ≡ true);
  bytes = λ text. unsigned_bytes (length text) ++ text;
  written = λ text h.
      (record { size = unsigned_bytes (length text); spells = u32_writer.written (length text) (omega (arith, h.0)); utf8 = h.1; joined = refl }, h.0);
  short = λ others text small h.
      let parts = parts_small others h.0.size text h.0.joined small in
      let count = u32_short h.0.size (length text) parts.0 h.0.spells in
      ((h.1, h.0.utf8), parts_short others h.0.size text (unsigned_bytes (length text)) text h.0.joined count.1 (omega arith));
}

-- ---- types

abbrev pub value_type_writer : (features : WasmFeatures) (types : ℕ) → Writer (value_type features types)
value_type_writer features types =
    checked_writer (seen_writer (leaf_writer (value_at features) (SpellsValue features) (value_taken features) (value_begins features).final value_bytes (value_short features))
    value_of (Unsupported unsupported.SharedType) value_once value_from (λ x y e. sym (value_told x y e)))
    (λ ty. named_below types (value_name ty))

pub reference_short : (features : WasmFeatures) → WritesShortest (SpellsReference features) reference_bytes
reference_short features bytes r small h = value_short features bytes (values.Ref r) small h

abbrev pub ref_type_writer : (features : WasmFeatures) (types : ℕ) → Writer (ref_type features types)
ref_type_writer features types =
    checked_writer (seen_writer (leaf_writer (reference_at features) (SpellsReference features) (reference_taken features) (reference_begins features).final reference_bytes (reference_short features))
    ref_of (Unsupported unsupported.SharedType) ref_once ref_from (λ x y e. sym (ref_told x y e)))
    (λ ty. named_below types (heap_name ty.heap_type))

-- ---- limits

abbrev pub byte_below_writer : (bound : ℕ) → Writer (byte_below bound)
byte_below_writer bound = checked_writer byte_writer (λ b. must (nat_lt b bound) (Read kinds.BadByte))

abbrev pub size_writer : (flags : ℕ) → Writer (size flags)
size_writer flags = either_writer u64_writer u32_writer (is_wide flags)

-- a number that may be missing
abbrev pub optional_size_writer : (there : Bool) (flags : ℕ) → Writer (optional there (size flags))
optional_size_writer there flags =
    either_writer (built_writer (size_writer flags) (λ n. Some n) some_once (λ o. unwrap_or o 0) (λ n. refl)) (nothing_writer None) there

abbrev pub limits_writer : (bound : ℕ) → Writer (limits bound)
limits_writer bound = after_writer (byte_below_writer bound) (λ flags. after_writer (size_writer flags) (λ _. optional_size_writer (has_maximum flags) flags))
