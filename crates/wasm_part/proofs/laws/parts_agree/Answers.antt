use Rattle.wasm_part.proofs.Agree.{parts_agree}
use Rattle.wasm_part.proofs.laws.parts_agree.Goals as goal

pub returns : goal.returns
returns c = parts_agree
