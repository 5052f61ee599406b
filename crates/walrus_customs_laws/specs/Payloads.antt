-- The sections of names and of producers that are due are the shortest spelling of custom sections of their payloads (Core Specification, appendix Custom
-- Sections).
use Rattle.std.specs.Prelude.{ℕ, ◌<◌, ◌^◌, List, length, map}
use Rattle.wasm_features.specs.declared.WasmFeatures.{WasmFeatures}
use Rattle.wasm_name_payloads.specs.Names.{section_name}
use Rattle.wasm_name_payloads.specs.Producers.{Field, processed, section_name as producers_name}
use Rattle.wasm_name_payloads.specs.Written.{Names, payload_bytes, producers_bytes}
use Rattle.wasm_canonical.specs.Due.{custom_due}
use Rattle.wasm_rewritten.specs.Customs.{section_of}
use Rattle.walrus_emit_parts.specs.Due.{written}
use Rattle.walrus_payload_writers.specs.Producers.{producers_section}
use Rattle.walrus_payload_writers.specs.Sections.{names_section}
use Rattle.walrus_due_laws.specs.Spelled.{SpelledAs, spelled}

-- the number of these bytes is a u32
abbrev pub Fits : List ℕ → Type 0
Fits bytes = length bytes < 2 ^ 32

abbrev pub NamesAreSpelled : Type 0
NamesAreSpelled = (features : WasmFeatures) (n : Names) → Fits (names_section n) → SpelledAs (written (names_section n)) (spelled features (map custom_due (section_of section_name (payload_bytes n))))

-- where the entry of this tool is among them there are some
abbrev pub ProducersAreSpelled : Type 0
ProducersAreSpelled = (features : WasmFeatures) (fields : List Field) → Fits (producers_section (processed fields))
    → SpelledAs (written (producers_section (processed fields))) (spelled features (map custom_due (section_of producers_name (producers_bytes (processed fields)))))
