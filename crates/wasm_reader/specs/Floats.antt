-- Floats are bits (Core Specification, binary format, values: floating-point).
use Rattle.std.specs.Prelude.{ℕ}
use Rattle.wasm_reader.specs.declared.floats.Ieee32.{Ieee32}
use Rattle.wasm_reader.specs.declared.floats.Ieee64.{Ieee64}

abbrev pub seen_bits32 : Ieee32 → ℕ
seen_bits32 x = x.0

abbrev pub seen_bits64 : Ieee64 → ℕ
seen_bits64 x = x.0
