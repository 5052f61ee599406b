use Rattle.std.proofs.Common.{◌≡◌, ◌++◌, length, take}
use Rattle.std.specs.List.{flat_map}
use Rattle.wasm_operators.specs.Bytes.{unsigned_bytes, value_bytes}
use Rattle.walrus_operators.proofs.write.write_values.Given as goal

abbrev pub invariant-loop-ty : goal.invariant-loop-ty
invariant-loop-ty l = l.out.items ≡ l.fn.out.items ++ (unsigned_bytes (length l.types) ++ flat_map value_bytes (take l.ty-index l.types))
