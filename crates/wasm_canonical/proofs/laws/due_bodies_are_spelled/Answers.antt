use Rattle.wasm_canonical.proofs.Bodies.{codes_spelled}
use Rattle.wasm_canonical.proofs.laws.due_bodies_are_spelled.Goals as goal

pub returns : goal.returns
returns c = codes_spelled
