use Rattle.wasm_module_spellings.proofs.Reading.{reads_is_spelled_and_ruled}
use Rattle.wasm_module_spellings.proofs.laws.reads_is_spelled_and_ruled.Goals as goal

pub returns : goal.returns
returns c = reads_is_spelled_and_ruled
