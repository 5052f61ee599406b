use Rattle.wasm_module_rows.proofs.Computed.{files_stop}
use Rattle.wasm_module_rows.proofs.worked_files_stop.Goals as goal

pub returns : goal.returns
returns c = files_stop
