use Rattle.wasm_name_payloads.specs.Kept.{faults_end_names}
use Rattle.wasm_name_payloads.proofs.laws.faults_end_names.Goals as goal

pub returns : goal.returns
returns c = faults_end_names
