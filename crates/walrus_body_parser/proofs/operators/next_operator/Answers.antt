use Rattle.std.proofs.Common.{Some}
use Rattle.wasm_reader.specs.Cursor.{rest}
use Rattle.walrus_operators.specs.Operators.{seen}
use Rattle.walrus_body_operands.specs.Counted.{is_listed}
use Rattle.walrus_body_locals.proofs.Taken.{operator_takes}
use Rattle.walrus_body_parser.proofs.operators.next_operator.Goals as goal

pub returns-in-Ok-clause-listed : goal.returns-in-Ok-clause-listed
returns-in-Ok-clause-listed c = is_listed c.args.reader.now.window.features c.in-Ok.op c.in-Ok.ensures.kind

pub returns-in-Ok-clause-takes : goal.returns-in-Ok-clause-takes
returns-in-Ok-clause-takes c = operator_takes c.args.reader.now.window.features (rest c.args.reader.now) (rest c.read.new.self) (Some (seen c.in-Ok.op)) c.in-Ok.ensures.value

pub returns-in-Err-clause-read : goal.returns-in-Err-clause-read
returns-in-Err-clause-read c = c.fault.ensures c.args.reader.now c.read.new.self c.requires c.in-Err.ensures
