use Rattle.wasm_name_payloads.specs.Keepers.{one}
use Rattle.wasm_name_payloads.specs.Producers.{field}
use Rattle.walrus_customs.specs.Producers.{field_of}
use Rattle.walrus_payload_readers.specs.Counts.{Counts}
use Rattle.walrus_payload_readers.proofs.producers.push_fields.Given as goal

abbrev pub invariant-loop : goal.invariant-loop
invariant-loop l = Counts (one field) field_of l.fn.fields.items l.fields.items l.fn.reader l.reader l.fn.count l.counter
