use Rattle.wasm_module_rows.proofs.OrderLemmas.{orders_hold}
use Rattle.wasm_module_rows.proofs.first_faults_stop.Goals as goal

pub returns : goal.returns
returns c = orders_hold
