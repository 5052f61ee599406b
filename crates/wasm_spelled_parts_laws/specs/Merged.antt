-- The items of a file's module in normal form, its types merged, are within their limits.
use Rattle.std.specs.Prelude.{ℕ, List, Option}
use Rattle.wasm_features.specs.declared.WasmFeatures.{WasmFeatures}
use Rattle.wasm_grammar.specs.Modules.{Module}
use Rattle.wasm_modules.specs.Modules.{Reads}
use Rattle.wasm_spelled_parts_laws.specs.Items.{AreIn}
use Rattle.wasm_spelled_parts_laws.specs.Whole.{source_of}

abbrev pub MergedItemsAreIn : Type 0
MergedItemsAreIn = (place : Option ℕ → ℕ) (features : WasmFeatures) (bytes : List ℕ) (file : Module) → Reads features bytes file → AreIn features file → AreIn features (source_of place features file)
