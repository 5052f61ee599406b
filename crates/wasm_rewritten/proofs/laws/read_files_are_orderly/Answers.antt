use Rattle.wasm_rewritten.proofs.Orderly.{files_orderly}
use Rattle.wasm_rewritten.proofs.laws.read_files_are_orderly.Goals as goal

pub returns : goal.returns
returns c = files_orderly c.read_modules_link.ensures
