use Rattle.std.proofs.Common.{length}
use Rattle.wasm_reader.specs.Cursor.{rest}
use Rattle.wasm_grammar.specs.Exprs.{operator, end_apart, takes_some, read_wants}
use Rattle.walrus_section_values.specs.Globals.{known_of, expr_of}
use Rattle.walrus_section_values.specs.Untils.{Goes}
use Rattle.walrus_section_values.proofs.exprs.read_operators.Given as goal

abbrev pub invariant-loop-alloc : goal.invariant-loop-alloc
invariant-loop-alloc l =
    let f = l.fn.reader.window.features in
    let k = known_of l.fn.known in
    Goes 0x0b (operator f k) (end_apart f) (takes_some f) (read_wants f k) l.fn.reader l.reader (expr_of l.operators)

abbrev pub decreases-loop-alloc : goal.decreases-loop-alloc
decreases-loop-alloc l = length (rest l.reader)
