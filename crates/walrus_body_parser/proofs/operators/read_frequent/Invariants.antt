use Rattle.std.proofs.Common.{false, length}
use Rattle.wasm_reader.specs.Cursor.{rest}
use Rattle.walrus_body_parser.specs.Trees.{validating}
use Rattle.walrus_body_parser.proofs.Running.{Running}
use Rattle.walrus_body_parser.proofs.operators.read_frequent.Given as goal

abbrev pub invariant-loop-reader : goal.invariant-loop-reader
invariant-loop-reader g l =
    Running (g.S.Scope.sight l.fn.scope) (validating g.V.Validator.op_step g.V.Validator.finish_step) l.fn.code_start l.fn.reader l.fn.stack l.fn.validator false l.reader l.stack l.validator

abbrev pub decreases-loop-reader : goal.decreases-loop-reader
decreases-loop-reader g l = length (rest l.reader)
