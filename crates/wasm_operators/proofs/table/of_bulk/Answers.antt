use Rattle.std.proofs.Common.{◌∙◌, refl}
use Rattle.wasm_operators.specs.Table.{find, fc_rows}
use Rattle.wasm_operators.proofs.Tables.{past, stands_at}
use Rattle.wasm_operators.proofs.table.of_bulk.Goals as goal

pub returns : goal.returns
unfolding fc_rows
returns c = c.at.ensures ∙ stands_at (find fc_rows) 23 c.args.number _ refl (past fc_rows 23 c.args.number refl)
