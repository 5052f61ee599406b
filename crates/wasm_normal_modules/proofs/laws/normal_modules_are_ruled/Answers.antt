use Rattle.wasm_normal_modules.proofs.Modules.{modules_ruled}
use Rattle.wasm_normal_modules.proofs.laws.normal_modules_are_ruled.Goals as goal

pub returns : goal.returns
returns c = modules_ruled c.renamed_operators_are_ruled.ensures.exprs c.renamed_operators_are_ruled.ensures.offsets c.retyped_types_serve.ensures.serve c.normal_bodies_are_ruled.ensures.renamed
