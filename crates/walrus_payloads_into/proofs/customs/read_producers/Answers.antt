use Rattle.std.proofs.Common.{refl}
use Rattle.walrus_payload_readers.specs.wasm_name_payloads.Producers.{producers_if}
use Rattle.walrus_customs.specs.Producers.{fields_of}
use Rattle.walrus_payloads_into.proofs.Fronts.{next}
use Rattle.walrus_payloads_into.proofs.customs.read_producers.Goals as goal

pub loop-custom-preserved : goal.loop-custom-preserved
loop-custom-preserved c =
    next producers_if c.args.customs.now c.loop-custom.custom-index _ _ (fields_of c.loop-custom.fields.items) (fields_of c.read_fields.new.fields.items) refl c.loop-custom-test.true
    c.loop-custom.invariant c.in_ok-read_fields.ensures
