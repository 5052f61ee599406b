use Rattle.wasm_run_names.proofs.Asked.{operators_name_what_is_asked as law}
use Rattle.wasm_run_names.proofs.laws.operators_name_what_is_asked.Goals as goal

pub returns : goal.returns
returns c = law
