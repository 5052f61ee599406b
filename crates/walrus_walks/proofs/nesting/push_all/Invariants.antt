use Rattle.std.proofs.Common.{◌≡◌, ◌++◌, drop}
use Rattle.walrus_walks.specs.Checks.{pushed}
use Rattle.walrus_walks.proofs.nesting.push_all.Given as goal

abbrev pub invariant-loop-instr : goal.invariant-loop-instr
invariant-loop-instr l = l.stack.items ++ pushed (drop l.instr-index l.instrs) ≡ l.fn.stack.items ++ pushed l.instrs
