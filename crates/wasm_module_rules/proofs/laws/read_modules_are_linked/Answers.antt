use Rattle.wasm_module_rules.specs.Reading.{read_modules_are_linked}
use Rattle.wasm_module_rules.proofs.laws.read_modules_are_linked.Goals as goal

pub returns : goal.returns
returns c = read_modules_are_linked
