use Rattle.std.proofs.Common.{◌≡◌, map, take}
use Rattle.std.specs.List.{flat_map}
use Rattle.wasm_body_grammar.specs.wasm_grammar.Modules.{Module}
use Rattle.walrus_payload_readers.specs.wasm_name_payloads.Names.{names_if}
use Rattle.walrus_index_maps.specs.Views.{ids}
use Rattle.walrus_payload_readers.specs.Bearers.{given_of}
use Rattle.walrus_payloads_into.specs.Numbered.{IsNumbered}
use Rattle.walrus_payloads_into.specs.Customs.{customs_of}
use Rattle.walrus_payloads_into.proofs.customs.read_names.Given as goal

abbrev pub invariant-loop-custom : goal.invariant-loop-custom
invariant-loop-custom l = (m : Module) → IsNumbered m (ids l.maps) → map given_of l.names.items ≡ flat_map (names_if m) (customs_of (take l.custom-index l.customs))
