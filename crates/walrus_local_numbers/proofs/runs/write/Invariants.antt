use Rattle.std.proofs.Common.{◌≡◌, ◌++◌, length, take}
use Rattle.std.specs.List.{flat_map}
use Rattle.walrus_operators.specs.wasm_operators.Bytes.{unsigned_bytes}
use Rattle.walrus_local_numbers.specs.Written.{run_bytes}
use Rattle.walrus_local_numbers.proofs.runs.write.Given as goal

abbrev pub invariant-loop-run : goal.invariant-loop-run
invariant-loop-run l = l.out.items ≡ l.fn.out.items ++ (unsigned_bytes (length l.runs) ++ flat_map run_bytes (take l.run-index l.runs))
