use Rattle.wasm_module_rules.specs.Entries.{sections_are_ruled}
use Rattle.wasm_module_rules.proofs.laws.sections_are_ruled.Goals as goal

pub returns : goal.returns
returns c = sections_are_ruled
