-- A file's module, its bodies in normal form and its types merged: imports and items name one another, and imported globals come first.
use Rattle.std.specs.Prelude.{ℕ, true, List, Option}
use Rattle.walrus_forms.specs.Records.{TypeGroup}
use Rattle.wasm_features.specs.declared.WasmFeatures.{WasmFeatures}
use Rattle.wasm_grammar.specs.Modules.{Module}
use Rattle.wasm_modules.specs.Modules.{Reads}
use Rattle.wasm_merged_modules.specs.Merged.{merged_module}
use Rattle.wasm_part.specs.Written.{GlobalsFirst}
use Rattle.wasm_rewritten.specs.Dense.{IsOrderly}

abbrev pub ReadFilesAreOrderly : Type 0
ReadFilesAreOrderly = (place : Option ℕ → ℕ) (features : WasmFeatures) (bytes : List ℕ) (more : List TypeGroup) (file : Module) → Reads features bytes file
    → (let m = merged_module place features true more file in IsOrderly m × GlobalsFirst m)
