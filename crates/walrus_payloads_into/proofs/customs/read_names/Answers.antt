use Rattle.std.proofs.Common.{map, refl}
use Rattle.walrus_payload_readers.specs.wasm_name_payloads.Names.{names_if}
use Rattle.walrus_payload_readers.specs.Bearers.{given_of}
use Rattle.walrus_payloads_into.proofs.Fronts.{next}
use Rattle.walrus_payloads_into.proofs.customs.read_names.Goals as goal

pub loop-custom-preserved : goal.loop-custom-preserved
loop-custom-preserved c = λ m numbered.
    next (names_if m) c.args.customs.now c.loop-custom.custom-index _ _ (map given_of c.loop-custom.names.items) (map given_of c.read_section_names.new.names.items) refl c.loop-custom-test.true
    (c.loop-custom.invariant m numbered) (c.in_ok-read_section_names.ensures m numbered)
