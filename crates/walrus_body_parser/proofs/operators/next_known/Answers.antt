use Rattle.std.proofs.Common.{Some}
use Rattle.wasm_reader.specs.Cursor.{rest}
use Rattle.walrus_operators.specs.Operators.{seen}
use Rattle.walrus_body_operands.specs.Counted.{is_listed}
use Rattle.walrus_body_locals.proofs.Taken.{operator_takes}
use Rattle.walrus_body_parser.proofs.Takes.{operator_read}
use Rattle.walrus_body_parser.proofs.operators.next_known.Goals as goal

pub returns-in-Ok-clause-read : goal.returns-in-Ok-clause-read
returns-in-Ok-clause-read c = operator_read c.args.reader.now c.read_as.new.self c.in-Ok.op c.in-Ok.ensures.read

pub returns-in-Ok-clause-listed : goal.returns-in-Ok-clause-listed
returns-in-Ok-clause-listed c = is_listed c.args.reader.now.window.features c.in-Ok.op c.in-Ok.ensures.read.kind

pub returns-in-Ok-clause-takes : goal.returns-in-Ok-clause-takes
returns-in-Ok-clause-takes c = operator_takes c.args.reader.now.window.features (rest c.args.reader.now) (rest c.read_as.new.self) (Some (seen c.in-Ok.op)) c.in-Ok.ensures.read.value

pub returns-in-Err-clause-read : goal.returns-in-Err-clause-read
returns-in-Err-clause-read c = c.fault.ensures c.args.reader.now c.read_as.new.self c.requires.within c.in-Err.ensures.read
