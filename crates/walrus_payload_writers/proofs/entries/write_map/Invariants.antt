use Rattle.std.proofs.Common.{◌≡◌, ◌++◌, length, take}
use Rattle.std.specs.List.{flat_map}
use Rattle.wasm_reader.specs.Shortest.{u32_bytes}
use Rattle.wasm_name_payloads.specs.Written.{association_bytes}
use Rattle.walrus_payload_writers.specs.Names.{entries_of}
use Rattle.walrus_payload_writers.proofs.entries.write_map.Given as goal

abbrev pub invariant-loop-entry : goal.invariant-loop-entry
invariant-loop-entry l = l.out.items ≡ l.fn.out.items ++ (u32_bytes (length l.entries) ++ flat_map association_bytes (entries_of (take l.entry-index l.entries)))
