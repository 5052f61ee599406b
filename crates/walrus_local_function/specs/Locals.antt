-- What a function with a body ends as, where a `&mut` to a part of it is returned.
use Rattle.std.specs.Prelude.{ℕ, slice_set}
use Rattle.std.specs.Borrow.{Lends, Fml, MutBor}
use Rattle.walrus_instr.specs.declared.seq.InstrSeq.{InstrSeq}
use Rattle.walrus_instr.specs.contracts.seq.InstrSeq.{the_row as seq_row}
use Rattle.walrus_function_parser.specs.walrus_body_parser.walrus_body_stack.walrus_builder.declared.function.FunctionBuilder.{FunctionBuilder}
use Rattle.walrus_function_parser.specs.walrus_body_parser.walrus_body_stack.walrus_builder.contracts.function.FunctionBuilder.{the_row as builder_row}
use Rattle.walrus_local_function.specs.declared.local_function.LocalFunction.{LocalFunction}
use Rattle.walrus_local_function.specs.contracts.local_function.LocalFunction.{the_row}

-- once the borrow r ends, the function was built as what was written through r
abbrev pub lends_function : MutBor LocalFunction → MutBor FunctionBuilder → Fml
lends_function s r = Lends the_row builder_row s r (λ builder. record s.now { builder = builder })

-- once the borrow r ends, the function has at the id the sequence written through r
abbrev pub lends_block : MutBor LocalFunction → ℕ → MutBor InstrSeq → Fml
lends_block s id r = Lends the_row seq_row s r (λ seq. record s.now { builder = record s.now.builder { builder = record s.now.builder.builder { seqs = slice_set s.now.builder.builder.seqs id seq } } })
