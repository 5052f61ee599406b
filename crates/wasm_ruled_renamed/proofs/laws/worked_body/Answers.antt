use Rattle.wasm_ruled_renamed.proofs.Worked.{worked}
use Rattle.wasm_ruled_renamed.proofs.laws.worked_body.Goals as goal

pub returns : goal.returns
returns c = worked
