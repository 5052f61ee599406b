use Rattle.std.proofs.Common.{◌∙◌, refl}
use Rattle.wasm_operators.specs.Table.{find, fb_rows}
use Rattle.wasm_operators.proofs.Tables.{past, stands_at}
use Rattle.wasm_operators.proofs.table.of_object.Goals as goal

pub returns : goal.returns
unfolding fb_rows
returns c = c.at.ensures ∙ stands_at (find fb_rows) 31 c.args.number _ refl (past fb_rows 31 c.args.number refl)
