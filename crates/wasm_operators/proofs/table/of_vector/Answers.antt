use Rattle.std.proofs.Common.{◌∙◌, refl}
use Rattle.wasm_operators.specs.Table.{find, fd_rows}
use Rattle.wasm_operators.proofs.Tables.{past, stands_at}
use Rattle.wasm_operators.proofs.table.of_vector.Goals as goal

pub returns : goal.returns
unfolding fd_rows
returns c = c.at.ensures ∙ stands_at (find fd_rows) 276 c.args.number _ refl (past fd_rows 276 c.args.number refl)
