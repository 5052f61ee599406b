use Rattle.std.proofs.Common.{◌≡◌, take}
use Rattle.std.specs.List.{flat_map}
use Rattle.walrus_payload_readers.specs.wasm_name_payloads.Producers.{producers_if}
use Rattle.walrus_customs.specs.Producers.{fields_of}
use Rattle.walrus_payloads_into.specs.Customs.{customs_of}
use Rattle.walrus_payloads_into.proofs.customs.read_producers.Given as goal

abbrev pub invariant-loop-custom : goal.invariant-loop-custom
invariant-loop-custom l = fields_of l.fields.items ≡ flat_map producers_if (customs_of (take l.custom-index l.customs))
