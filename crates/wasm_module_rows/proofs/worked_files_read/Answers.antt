use Rattle.wasm_module_rows.proofs.Computed.{files_read}
use Rattle.wasm_module_rows.proofs.worked_files_read.Goals as goal

pub returns : goal.returns
returns c = files_read
