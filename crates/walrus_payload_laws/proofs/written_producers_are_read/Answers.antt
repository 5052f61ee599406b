use Rattle.std.specs.Prelude.{◌∷◌}
use Rattle.std.proofs.Common.{arith}
use Rattle.wasm_name_payloads.specs.Producers.{section_name}
use Rattle.wasm_name_payloads.specs.Written.{producers_bytes}
use Rattle.walrus_payload_laws.proofs.CustomLemmas.{custom_read, producers_utf8}
use Rattle.walrus_payload_laws.proofs.written_producers_are_read.Goals as goal

pub returns : goal.returns
returns c = λ f fields fits small. (
  custom_read section_name (producers_bytes (f ∷ fields)) (omega arith) producers_utf8 small,
  c.producers_are_read.ensures.back (f ∷ fields) fits,
)
