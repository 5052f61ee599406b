use Rattle.wasm_module_rules.specs.Limits.{limits_hold}
use Rattle.wasm_module_rules.proofs.laws.limits_hold.Goals as goal

pub returns : goal.returns
returns c = limits_hold
