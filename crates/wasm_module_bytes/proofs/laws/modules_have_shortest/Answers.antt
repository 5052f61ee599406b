use Rattle.wasm_module_bytes.proofs.Modules.{modules_have_shortest}
use Rattle.wasm_module_bytes.proofs.laws.modules_have_shortest.Goals as goal

pub returns : goal.returns
returns c = modules_have_shortest
