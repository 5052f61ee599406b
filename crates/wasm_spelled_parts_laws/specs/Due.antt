-- The items of a module that are within their limits, as are their numbers, have spellings.
use Rattle.std.specs.Prelude.{Bool}
use Rattle.wasm_features.specs.declared.WasmFeatures.{WasmFeatures}
use Rattle.wasm_grammar.specs.Modules.{Module}
use Rattle.wasm_module_bytes.specs.Bytes.{without_places}
use Rattle.wasm_ruled_modules.specs.Rules.{IsRuled}
use Rattle.wasm_canonical.specs.CanonicalReads.{ItemsAreSpelled}
use Rattle.wasm_canonical.specs.Dense.{IsDense}
use Rattle.wasm_canonical.specs.Due.{bodies_due}
use Rattle.wasm_canonical.specs.Formed.{AreNotLong}
use Rattle.wasm_places_laws.specs.Places.{around_written}
use Rattle.wasm_spelled_parts_laws.specs.Items.{AreIn}
use Rattle.wasm_spelled_parts_laws.specs.Parts.{AreNumbered}

-- no body is longer than it may be in its shortest spelling
abbrev pub BodiesAreShort : WasmFeatures → Module → Type 0
BodiesAreShort features n = AreNotLong (bodies_due (around_written features n) (without_places n))

abbrev pub ItemsInAreSpelled : Type 0
ItemsInAreSpelled = (features : WasmFeatures) (counted : Bool) (n : Module) → IsDense n → IsRuled features counted n → AreIn features n → AreNumbered n → BodiesAreShort features n → ItemsAreSpelled features n
