use Rattle.wasm_normal_laws.proofs.Bodies.{normal_bodies}
use Rattle.wasm_normal_laws.proofs.normal_bodies_are_normal.Goals as goal

pub returns : goal.returns
returns c = normal_bodies c.normal_forms_are_normal.ensures.renamed
