use Rattle.std.proofs.Common.{◌≡◌, ◌++◌, length, take}
use Rattle.std.specs.List.{flat_map}
use Rattle.wasm_reader.specs.Shortest.{u32_bytes}
use Rattle.walrus_payload_writers.specs.Names.{function_bytes, functions_of}
use Rattle.walrus_payload_writers.proofs.entries.write_functions.Given as goal

abbrev pub invariant-loop-function : goal.invariant-loop-function
invariant-loop-function l = l.out.items ≡ l.fn.out.items ++ (u32_bytes (length l.functions) ++ flat_map function_bytes (functions_of (take l.function-index l.functions)))
