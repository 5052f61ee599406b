use Rattle.wasm_part.proofs.Open.{blocks_open}
use Rattle.wasm_part.proofs.laws.blocks_open.Goals as goal

pub returns : goal.returns
returns c = blocks_open
