use Rattle.std.proofs.Common.{◌≡◌, ◌+◌, length}
use Rattle.wasm_reader.specs.Cursor.{rest}
use Rattle.walrus_body_operands.specs.walrus_body_stack.walrus_builder.Built.{contents}
use Rattle.walrus_body_locals.specs.walrus_body_nesting.Opens.{type_at}
use Rattle.walrus_body_operands.specs.walrus_body_stack.Frames.{blocks, heading, heading_of, opens}
use Rattle.walrus_body_parser.specs.Changes.{entry_of}
use Rattle.walrus_body_parser.specs.Trees.{Goes, validating}
use Rattle.walrus_body_parser.proofs.Running.{turns_left}
use Rattle.walrus_body_parser.proofs.trees.read_tree.Given as goal

abbrev pub invariant-loop-done : goal.invariant-loop-done
invariant-loop-done g l =
    Goes (g.S.Scope.sight l.fn.scope) (validating g.V.Validator.op_step g.V.Validator.finish_step) l.fn.code_start l.fn.body l.fn.validator l.done (blocks l.stack) (opens l.stack) l.reader l.validator
    × (heading_of l.stack ≡ heading l.fn.builder) × (entry_of l.stack ≡ type_at (contents l.fn.builder.builder) 0)

abbrev pub decreases-loop-done : goal.decreases-loop-done
decreases-loop-done g l = length (rest l.reader) + turns_left l.done
