use Rattle.wasm_normal_modules.proofs.Alike.{names_decide}
use Rattle.wasm_normal_modules.proofs.Numbered.{operators_numbered}
use Rattle.wasm_normal_modules.proofs.laws.numbered_operators_are_normal.Goals as goal

pub returns-clause-decide : goal.returns-clause-decide
returns-clause-decide c = names_decide

pub returns-clause-normal : goal.returns-clause-normal
returns-clause-normal c = operators_numbered c.normal_operators_are_ruled.ensures.operators
