-- The worked body, computed.
use Rattle.std.proofs.Common.{arith, inr, refl}
use Rattle.wasm_ruled_normal.specs.wasm_ruled_modules.wasm_module_rules.wasm_modules.wasm_body_grammar.wasm_formats.wasm_features.declared.WasmFeatures.{WasmFeatures}
use Rattle.wasm_ruled_normal.specs.wasm_ruled_modules.wasm_module_rules.wasm_modules.wasm_body_grammar.wasm_operators.Table.{call_rows, structure_rows}
use Rattle.wasm_ruled_renamed.specs.Rows.{WorkedBody}

pub worked : (features : WasmFeatures) → WorkedBody features
unfolding structure_rows call_rows
worked features = record {
  ruled = record {
    counted = inr (omega arith);
    named = (tt, (tt, (tt, tt)));
    operators = (refl, refl, (refl, refl, (refl, refl, (refl, refl, (refl, refl, (refl, refl, (refl, refl, (refl, refl, (refl, refl, (refl, refl, (refl, refl, refl)))))))))));
  };
  is = refl;
}
