use Rattle.std.proofs.Common.{◌≡◌, ◌++◌, length, take}
use Rattle.std.specs.List.{flat_map}
use Rattle.wasm_operators.specs.Bytes.{unsigned_bytes}
use Rattle.walrus_operators.proofs.write.write_labels.Given as goal

abbrev pub invariant-loop-label : goal.invariant-loop-label
invariant-loop-label l = l.out.items ≡ l.fn.out.items ++ (unsigned_bytes (length l.labels) ++ flat_map unsigned_bytes (take l.label-index l.labels))
