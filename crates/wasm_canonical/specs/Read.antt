-- The bytes that are due to a module that is dense and meets the rules read as it, places aside.
use Rattle.std.specs.Prelude.{◌≡◌, ◌++◌, Bool, List, map, Some}
use Rattle.wasm_features.specs.declared.WasmFeatures.{WasmFeatures}
use Rattle.wasm_grammar.specs.Modules.{Custom, Module}
use Rattle.wasm_section_bytes.specs.Files.{file_bytes}
use Rattle.wasm_module_bytes.specs.Bytes.{without_places}
use Rattle.wasm_module_rules.specs.wasm_modules.Modules.{IsShort, Reads}
use Rattle.wasm_ruled_modules.specs.Rules.{IsRuled}
use Rattle.wasm_canonical.specs.Dense.{IsDense}
use Rattle.wasm_canonical.specs.Spelled.{DueFits, file_due}

abbrev pub DueModulesAreRead : Type 0
DueModulesAreRead = (features : WasmFeatures) (counted : Bool) (first last : List Custom) (m : Module) → IsDense m → IsRuled features counted m → m.customs ≡ map (λ (c : Custom). Some c) (first ++ last)
    → DueFits features counted first last m → IsShort (file_bytes features (file_due features counted first last m))
    → (n : Module) × Reads features (file_bytes features (file_due features counted first last m)) n × (without_places n ≡ without_places m)
