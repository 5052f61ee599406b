-- What is read where a section of names or producers was written.
use Rattle.std.specs.Prelude.{ℕ, ◌≡◌, ◌<◌, ◌^◌, List, ◌∷◌, ◌++◌, length}
use Rattle.wasm_body_grammar.specs.wasm_grammar.Modules.{Module}
use Rattle.wasm_formats.specs.Wholes.{sized}
use Rattle.wasm_sections.specs.Sections.{custom}
use Rattle.wasm_name_payloads.specs.Names.{names_in, section_name}
use Rattle.wasm_name_payloads.specs.Producers as producers
use Rattle.wasm_name_payloads.specs.Producers.{Field, producers_in}
use Rattle.wasm_name_payloads.specs.Written.{Names, FitsNames, FitsVec, FitsField, name_bytes, names_given, payload_bytes, producers_bytes}
use Rattle.walrus_payload_writers.specs.Producers.{producers_section}
use Rattle.walrus_payload_writers.specs.Sections.{names_section}

-- the bytes are a custom section of this name and payload (Core Specification, binary format: custom section)
abbrev pub IsCustom : (section name payload : List ℕ) → Type 0
IsCustom section name payload = (bytes : List ℕ) × (section ≡ 0 ∷ bytes) × (sized custom).spells bytes (name, payload)

-- a section has fewer than 2^32 bytes behind its size
abbrev pub FitsSection : (name payload : List ℕ) → Type 0
FitsSection name payload = length (name_bytes name ++ payload) < 2 ^ 32

-- names that were written, where there are any, are read back
abbrev pub WrittenNamesAreRead : Type 0
WrittenNamesAreRead = (m : Module) (n : Names) (b : ℕ) (bytes : List ℕ) → payload_bytes n ≡ b ∷ bytes → FitsNames m n → FitsSection section_name (payload_bytes n)
    → IsCustom (names_section n) section_name (payload_bytes n) × (names_in m (payload_bytes n) ≡ names_given m n)

-- producers that were written, where there are any, are read back
abbrev pub WrittenProducersAreRead : Type 0
WrittenProducersAreRead = (f : Field) (fields : List Field) → FitsVec FitsField (f ∷ fields) → FitsSection producers.section_name (producers_bytes (f ∷ fields))
    → IsCustom (producers_section (f ∷ fields)) producers.section_name (producers_bytes (f ∷ fields)) × (producers_in (producers_bytes (f ∷ fields)) ≡ f ∷ fields)
