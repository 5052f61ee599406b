use Rattle.std.proofs.Common.{◌≡◌, ◌++◌, length, take}
use Rattle.std.specs.List.{flat_map}
use Rattle.wasm_reader.specs.Shortest.{u32_bytes}
use Rattle.wasm_name_payloads.specs.Written.{value_bytes}
use Rattle.walrus_customs.specs.Producers.{values_of}
use Rattle.walrus_payload_writers.proofs.producers.write_values.Given as goal

abbrev pub invariant-loop-value : goal.invariant-loop-value
invariant-loop-value l = l.out.items ≡ l.fn.out.items ++ (u32_bytes (length l.values) ++ flat_map value_bytes (values_of (take l.value-index l.values)))
