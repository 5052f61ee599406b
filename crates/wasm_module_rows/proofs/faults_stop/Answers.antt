use Rattle.wasm_module_rows.proofs.Computed.{faults_stop}
use Rattle.wasm_module_rows.proofs.faults_stop.Goals as goal

pub returns : goal.returns
returns c = faults_stop
