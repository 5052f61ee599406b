-- Lemmas: the readings of codes and of operators are final.
use Rattle.std.specs.Prelude.{ℕ, Bool, true, false, List, Option, Some, None, Ok, if◌then◌else◌}
use Rattle.wasm_composite_types.specs.wasm_features.declared.WasmFeatures.{WasmFeatures}
use Rattle.wasm_composite_types.specs.wasm_reader.Reading.{Reading, byte_at}
use Rattle.wasm_composite_types.specs.wasm_reader.Numbers.{unsigned_at}
use Rattle.wasm_composite_types.specs.wasm_reader.Laws.{IsFinal}
use Rattle.wasm_composite_types.specs.wasm_reader.Final.{then_final, map_final, done_final}
use Rattle.wasm_composite_types.specs.wasm_reader.Finals.{byte_final, unsigned_final}
use Rattle.wasm_operators.specs.Readings.{mapped, items_at}
use Rattle.wasm_operators.specs.ItemFinals.{items_final}
use Rattle.wasm_operators.specs.declared.entry.Kind.{Kind}
use Rattle.wasm_operators.specs.declared.op_code.OpCode.{OpCode}
use Rattle.wasm_operators.specs.Kinds.{forms}
use Rattle.wasm_operators.specs.Operators.{is_prefix, op_code, code_at, kind_of, seen_as, after_code, operator_at}

code_from : (test : Bool) (b : ℕ) → IsFinal (λ bytes. if test then mapped (op_code b) (unsigned_at 32 bytes) else Ok (op_code 0 b, bytes))
code_from true b = map_final (unsigned_at 32) (op_code b) (unsigned_final 32)
code_from false b = done_final (op_code 0 b)

pub code_final : IsFinal code_at
unfolding code_at
code_final = then_final byte_at _ byte_final (λ b. code_from (is_prefix b) b)

after_final : (features : WasmFeatures) (code : OpCode) (kind : Option Kind) → IsFinal (after_code features code kind)
after_final features code None = done_final None
after_final features code (Some kind) = map_final (items_at features (forms kind)) (seen_as code) (items_final features (forms kind))

pub operator_final : (features : WasmFeatures) → IsFinal (operator_at features)
unfolding operator_at
operator_final features = then_final code_at _ code_final (λ code. after_final features code (kind_of features code))
