-- Rules don't look at places.
use Rattle.std.specs.Prelude.{Bool}
use Rattle.wasm_normal_modules.specs.Modules.{MeetsRules, OriginPicked}
use Rattle.wasm_normal_modules.specs.wasm_ruled_renamed.wasm_ruled_normal.wasm_normal_form.wasm_operators.wasm_features.declared.WasmFeatures.{WasmFeatures}
use Rattle.wasm_normal_modules.specs.wasm_ruled_renamed.wasm_ruled_normal.wasm_ruled_modules.Rules.{around_bodies}
use Rattle.wasm_normal_modules.specs.wasm_ruled_renamed.wasm_ruled_normal.wasm_ruled_modules.wasm_module_rules.Linked.{Each}
use Rattle.wasm_normal_modules.specs.wasm_ruled_renamed.wasm_ruled_normal.wasm_ruled_modules.wasm_module_rules.wasm_modules.wasm_body_grammar.wasm_grammar.Modules.{Function, Module}
use Rattle.walrus_parse_gc_laws.specs.Moved.{ModuleMoved}

-- the same module, whatever places its operators have
abbrev pub ModulesAlike : Module → Module → Type 0
ModulesAlike = ModuleMoved (λ place answer. Unit {0})

-- each block type in it is its own pick
abbrev pub IsPicked : WasmFeatures → Bool → Module → Type 0
IsPicked features counted m = Each (λ (f : Function). OriginPicked (around_bodies features counted m) f.origin) m.functions

-- what meets the rules meets them at other places, and each block type stays its own pick
pub record AlikeAreRuled (features : WasmFeatures) (counted : Bool) (old new : Module) : Type 0 where
  pub rules : MeetsRules features counted old → MeetsRules features counted new
  pub picked : IsPicked features counted old → IsPicked features counted new

abbrev pub MovedModulesMeetRules : Type 0
MovedModulesMeetRules = (features : WasmFeatures) (counted : Bool) (old new : Module) → ModulesAlike old new → AlikeAreRuled features counted old new
