use Rattle.wasm_module_bytes.proofs.Due.{entries_tell}
use Rattle.wasm_module_bytes.proofs.laws.entries_tell.Goals as goal

pub returns : goal.returns
returns c = entries_tell
