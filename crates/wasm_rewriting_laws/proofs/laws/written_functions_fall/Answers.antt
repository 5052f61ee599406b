use Rattle.wasm_rewriting_laws.proofs.Fall.{functions_fall}
use Rattle.wasm_rewriting_laws.proofs.laws.written_functions_fall.Goals as goal

pub returns : goal.returns
returns c = functions_fall c.read_files_are_orderly.ensures
