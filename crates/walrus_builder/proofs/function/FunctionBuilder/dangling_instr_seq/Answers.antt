use Rattle.std.specs.Prelude.{ℕ, IfOk, Result, Ok, Err}
use Rattle.std.specs.declared.alloc.AllocError.{AllocError}
use Rattle.walrus_builder.proofs.function.FunctionBuilder.dangling_instr_seq.Goals as goal

second_of : (r : Result ℕ AllocError) (P Q : ℕ → Type 0) → IfOk r (λ id. P id × Q id) → IfOk r Q
second_of (Ok id) P Q h = h.1
second_of (Err _) P Q h = h

pub returns-clause-added : goal.returns-clause-added
returns-clause-added c = second_of c.add_seq.result _ _ c.add_seq.ensures.added
