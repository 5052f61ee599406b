use Rattle.wasm_rewritten.proofs.Dense.{parts_dense}
use Rattle.wasm_rewritten.proofs.laws.parts_are_dense.Goals as goal

pub returns : goal.returns
returns c = parts_dense
