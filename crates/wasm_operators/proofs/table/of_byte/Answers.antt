use Rattle.std.proofs.Common.{◌∙◌, refl}
use Rattle.wasm_operators.specs.Table.{find_byte, structure_rows, call_rows, plain_rows}
use Rattle.wasm_operators.proofs.Tables.{byte_past, stands_at}
use Rattle.wasm_operators.proofs.table.of_byte.Goals as goal

pub returns : goal.returns
unfolding structure_rows call_rows plain_rows
returns c = c.at.ensures ∙ stands_at find_byte 215 c.args.number _ refl (byte_past c.args.number)
