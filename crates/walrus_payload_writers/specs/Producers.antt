-- The section `producers` as it is written.
use Rattle.std.specs.Prelude.{ℕ, List, [], ◌∷◌}
use Rattle.wasm_producers.specs.Entries.{Value, Field}
use Rattle.wasm_name_payloads.specs.Producers.{section_name}
use Rattle.wasm_name_payloads.specs.Written.{vec_bytes, value_bytes, producers_bytes}
use Rattle.walrus_payload_writers.specs.Writes.{custom_bytes}

abbrev pub values_bytes : List Value → List ℕ
values_bytes values = vec_bytes value_bytes values

-- nothing where there are no fields
abbrev pub producers_section : List Field → List ℕ
producers_section [] = []
producers_section (f ∷ fields) = custom_bytes section_name (producers_bytes (f ∷ fields))
