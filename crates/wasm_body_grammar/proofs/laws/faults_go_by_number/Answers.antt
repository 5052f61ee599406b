use Rattle.wasm_body_grammar.specs.Numbers.{faults_go_by_number}
use Rattle.wasm_body_grammar.proofs.laws.faults_go_by_number.Goals as goal

pub returns : goal.returns
returns c = faults_go_by_number
