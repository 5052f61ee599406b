use Rattle.std.proofs.Common.{◌≡◌, ◌++◌, length, take}
use Rattle.std.specs.List.{flat_map}
use Rattle.wasm_reader.specs.Shortest.{u32_bytes}
use Rattle.wasm_name_payloads.specs.Written.{field_bytes}
use Rattle.walrus_customs.specs.Producers.{fields_of}
use Rattle.walrus_payload_writers.proofs.producers.write_fields.Given as goal

abbrev pub invariant-loop-field : goal.invariant-loop-field
invariant-loop-field l = l.out.items ≡ l.fn.out.items ++ (u32_bytes (length l.fields) ++ flat_map field_bytes (fields_of (take l.field-index l.fields)))
