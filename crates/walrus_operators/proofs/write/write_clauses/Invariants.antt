use Rattle.std.proofs.Common.{◌≡◌, ◌++◌, length, take}
use Rattle.std.specs.List.{flat_map}
use Rattle.wasm_operators.specs.Bytes.{clause_bytes, unsigned_bytes}
use Rattle.walrus_operators.proofs.write.write_clauses.Given as goal

abbrev pub invariant-loop-clause : goal.invariant-loop-clause
invariant-loop-clause l = l.out.items ≡ l.fn.out.items ++ (unsigned_bytes (length l.clauses) ++ flat_map clause_bytes (take l.clause-index l.clauses))
