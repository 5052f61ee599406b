use Rattle.std.proofs.Common.{◌∙◌, refl}
use Rattle.wasm_operators.specs.Table.{find, fe_rows}
use Rattle.wasm_operators.proofs.Tables.{past, stands_at}
use Rattle.wasm_operators.proofs.table.of_atomic.Goals as goal

pub returns : goal.returns
unfolding fe_rows
returns c = c.at.ensures ∙ stands_at (find fe_rows) 79 c.args.number _ refl (past fe_rows 79 c.args.number refl)
