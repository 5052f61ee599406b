-- The module that is written of a file: the part that is kept, with its custom sections.
use Rattle.std.specs.Prelude.{ℕ, Bool, true, List, Option, Some, map}
use Rattle.wasm_features.specs.declared.WasmFeatures.{WasmFeatures}
use Rattle.wasm_grammar.specs.Modules.{Custom, Module}
use Rattle.wasm_merged_modules.specs.Merged.{merged_module}
use Rattle.wasm_part.specs.Handlers.{handler_groups}
use Rattle.wasm_part.specs.Part.{Plan, part}
use Rattle.wasm_rewritten.specs.Customs.{customs_written}

-- the file's module, its bodies in normal form, its types merged, those of its handlers behind them
abbrev pub source_of : (Option ℕ → ℕ) → WasmFeatures → Module → Module
source_of place features file = merged_module place features true (handler_groups file) file

abbrev pub with_customs : Module → List Custom → Module
with_customs n customs = record n { customs = map (λ (c : Custom). Some c) customs }

-- names and producers as the flags say
abbrev pub written_part : (Option ℕ → ℕ) → (names producers : Bool) → WasmFeatures → Module → Plan → Module
written_part place names producers features file p = with_customs (part p (source_of place features file)) (customs_written names producers features file p)
