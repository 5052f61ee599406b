use Rattle.wasm_part.proofs.Parts.{parts_ruled}
use Rattle.wasm_part.proofs.laws.parts_are_ruled.Goals as goal

pub returns : goal.returns
returns c = parts_ruled
