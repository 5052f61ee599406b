use Rattle.wasm_canonical.proofs.Read.{modules_read}
use Rattle.wasm_canonical.proofs.laws.due_modules_are_read.Goals as goal

pub returns : goal.returns
returns c = modules_read c.reads_is_spelled_and_ruled.ensures c.due_modules_are_spelled.ensures c.places_are_not_ruled.ensures
