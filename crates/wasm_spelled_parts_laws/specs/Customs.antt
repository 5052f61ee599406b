-- The custom sections that are written of a file stand in their order, those of dynamic linking first.
use Rattle.std.specs.Prelude.{Bool}
use Rattle.wasm_features.specs.declared.WasmFeatures.{WasmFeatures}
use Rattle.wasm_grammar.specs.Modules.{Module}
use Rattle.wasm_canonical.specs.Canonical.{CustomsInOrder}
use Rattle.wasm_part.specs.Part.{Plan}
use Rattle.wasm_rewritten.specs.Customs.{customs_written}
use Rattle.wasm_spelled_parts_laws.specs.Whole.{with_customs}

abbrev pub WrittenCustomsAreInOrder : Type 0
WrittenCustomsAreInOrder = (names producers : Bool) (features : WasmFeatures) (file : Module) (p : Plan) (n : Module) → CustomsInOrder (with_customs n (customs_written names producers features file p))
