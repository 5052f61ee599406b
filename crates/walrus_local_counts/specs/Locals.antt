-- How many locals functions have (Core Specification, implementation limitations: syntactic limits).
use Rattle.std.specs.Prelude.{ℕ, ◌^◌, ◌<◌, ◌≤◌, List, length}
use Rattle.wasm_ruled_modules.specs.wasm_module_rules.wasm_modules.wasm_body_grammar.wasm_formats.wasm_features.declared.WasmFeatures.{WasmFeatures}
use Rattle.wasm_ruled_modules.specs.wasm_module_rules.wasm_modules.wasm_body_grammar.wasm_grammar.Modules.{Module}
use Rattle.wasm_ruled_modules.specs.wasm_module_rules.wasm_modules.wasm_body_grammar.Bodies.{most_locals}
use Rattle.wasm_ruled_modules.specs.wasm_module_rules.wasm_modules.Modules.{Reads}
use Rattle.wasm_name_payloads.specs.Names.{local_count}
use Rattle.walrus_index_maps.specs.Maps.{Ids}
use Rattle.walrus_payloads_into.specs.Numbered.{locals_in, IsNumbered}

-- no more than there may be
abbrev pub FewLocals : Type 0
FewLocals = (features : WasmFeatures) (bytes : List ℕ) (m : Module) → Reads features bytes m → (function : ℕ) → local_count m function ≤ most_locals

-- what is asked where functions and their locals are counted in 32 bits
pub record HasFew (ids : Ids) : Type 0 where
  pub functions : length ids.functions < 2 ^ 32
  pub locals : (function : ℕ) → length (locals_in ids function) < 2 ^ 32

abbrev pub FewAreNumbered : Type 0
FewAreNumbered = (features : WasmFeatures) (bytes : List ℕ) (m : Module) (ids : Ids) → Reads features bytes m → IsNumbered m ids → HasFew ids
